-- The demands, all of them.
use Rattle.calculus.specs.Demands.{Demands}
use Rattle.calculus.proofs.ReadsWritten.{reads}
use Rattle.calculus.proofs.Questions.{questions}
use Rattle.calculus.proofs.Refuses.{refuses}
use Rattle.calculus.proofs.CallLaws.{kept, follows, stops, same_solutions}
use Rattle.calculus.proofs.CallQuestions.{refusals}
use Rattle.calculus.proofs.ByteLaws.{bytewise}
use Rattle.calculus.proofs.AnswerLaws.{answers}
use Rattle.calculus.proofs.NoChoice.{one_way}
use Rattle.calculus.proofs.FirstPlace.{ordered, first_place}
use Rattle.calculus.proofs.ChildrenLeft.{children}
use Rattle.calculus.proofs.RecordLaws.{records, states}
use Rattle.calculus.proofs.Reaching.{reaches}
use Rattle.calculus.proofs.AssertSpec.{asserts}
use Rattle.calculus.proofs.Models.{models, verdicts}
use Rattle.calculus.proofs.WorkOrder.{short_paths}
use Rattle.calculus.proofs.ReadAssignment.{reads_assignment}
use Rattle.calculus.proofs.Checking.{checks}
use Rattle.calculus.proofs.ModelsPass.{models_pass}

pub demands : Demands
demands = record {
  reads = reads;
  questions = questions;
  refuses = refuses;
  refusals = refusals;
  kept = kept;
  bytewise = bytewise;
  answers = answers;
  follows = follows;
  one_way = one_way;
  ordered = ordered;
  first_place = first_place;
  children = children;
  records = records;
  states = states;
  reaches = reaches;
  asserts = asserts;
  models = models;
  verdicts = verdicts;
  stops = stops;
  same_solutions = same_solutions;
  short_paths = short_paths;
  reads_assignment = reads_assignment;
  checks = checks;
  models_pass = models_pass;
}
