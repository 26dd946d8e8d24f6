-- A call whose word and buffers are the definition's meets the contract.
use mathlib.Core.Path.{◌≡◌, refl, sym, ap, ◌∙◌, subst}
use mathlib.Core.Logic.{◌↔◌, ◌⊎◌, inl, inr}
use mathlib.Core.List.{List, [], ◌∷◌}
use Prim.Native.Nat.{ℕ, suc, ◌*◌, ◌≤◌}
use native.Mathlib.Nat.{zero-mul}
use native.Mathlib.Omega.{arith}
use lib.ListN.{length, drop}
use lib.IntN.{ℤ}
use Rattle.calculus.specs.Terms.{Term}
use Rattle.calculus.specs.Lists.{Each, Some}
use Rattle.calculus.specs.Branch.{start}
use Rattle.calculus.specs.Problem.{Problem, term_count, set_count, Assignment, values, Satisfies}
use Rattle.calculus.specs.Encoding.{Bytes, Written}
use Rattle.calculus.specs.Reading.{Parsed, parsed, refused, read}
use Rattle.calculus.specs.Forms.{record_length, Agrees, SatisfiesForm}
use Rattle.calculus.specs.Calls.{Verdict, FORMS, FALSE, SPENT, NOROOM, Answer, refusal, ended, Outcome, asked, call, answer_word, verdict_number}
use Rattle.calculus.specs.Order.{Progress, unbegun, Works}
use Rattle.calculus.proofs.AnswerLaws.{answers}
use Rattle.calculus.proofs.CallLaws.{asked_parsed, kept, follows, same_solutions, covers, only_solutions}
use Rattle.calculus.proofs.CallQuestions.{refusals}
use Rattle.calculus.proofs.ReadsWritten.{reads}
use Rattle.calculus.proofs.Models.{Modelled, models, verdicts}
use Rattle.calculus.proofs.NoChoice.{one_way}
use Rattle.calculus.proofs.WorkOrder.{run_goes}
use Rattle.capi.specs.Contract.{verdict_in, number_in, steps_in, forms_in, listed_in, listed_bytes, progress_in, Ran, RunContract}

-- every verdict has its own number, and none is that of a refusal
own_number : (v w : Verdict) → verdict_number v ≡ verdict_number w → v ≡ w
own_number FORMS FORMS e = refl
own_number FORMS FALSE e = absurd (omega (arith, e))
own_number FORMS SPENT e = absurd (omega (arith, e))
own_number FORMS NOROOM e = absurd (omega (arith, e))
own_number FALSE FORMS e = absurd (omega (arith, e))
own_number FALSE FALSE e = refl
own_number FALSE SPENT e = absurd (omega (arith, e))
own_number FALSE NOROOM e = absurd (omega (arith, e))
own_number SPENT FORMS e = absurd (omega (arith, e))
own_number SPENT FALSE e = absurd (omega (arith, e))
own_number SPENT SPENT e = refl
own_number SPENT NOROOM e = absurd (omega (arith, e))
own_number NOROOM FORMS e = absurd (omega (arith, e))
own_number NOROOM FALSE e = absurd (omega (arith, e))
own_number NOROOM SPENT e = absurd (omega (arith, e))
own_number NOROOM NOROOM e = refl

pub some_number : (v : Verdict) → ¬ (verdict_number v ≡ 0)
some_number FORMS e = absurd (omega (arith, e))
some_number FALSE e = absurd (omega (arith, e))
some_number SPENT e = absurd (omega (arith, e))
some_number NOROOM e = absurd (omega (arith, e))

module _ (bytes : List ℕ) (budget : ℕ) (forms trace : List ℕ) where
  abbrev answer : Answer
  answer = (call bytes budget forms trace).answer

  abbrev word : ℕ
  word = answer_word answer

  -- what the word says of a refusal, and of any other answer
  pub refused_word : (n : ℕ) → answer ≡ refusal n → (verdict_in word ≡ 0) × (forms_in word ≡ 0) × (number_in word ≡ n) × (steps_in word ≡ 0)
  refused_word n e = let u = ((answers bytes).0 budget forms trace).0 n e in (u.verdict_is, u.forms_are, u.number_is, u.steps_are)

  pub ended_word : (v : Verdict) (n c : ℕ) → answer ≡ ended v n c → (verdict_in word ≡ verdict_number v) × (steps_in word ≡ n) × (forms_in word ≡ c) × (number_in word ≡ 0)
  ended_word v n c e = let u = ((answers bytes).0 budget forms trace).1 v n c e in (u.verdict_is, u.steps_are, u.forms_are, u.number_is)

  -- the problem of a call that is not refused
  pub record Accepted (v : Verdict) (n c : ℕ) : Type 0 where
    pub prob : Problem
    pub asks : asked bytes budget (length trace) ≡ parsed prob
    pub reads : read bytes ≡ parsed prob

  pub accepted : (v : Verdict) (n c : ℕ) → answer ≡ ended v n c → Accepted v n c
  accepted v n c e = go (asked bytes budget (length trace)) refl
    where
      go : (m : Parsed Problem) → asked bytes budget (length trace) ≡ m → Accepted v n c
      go (parsed prob) q = record { prob = prob; asks = q; reads = (asked_parsed bytes budget (length trace) prob q).0 }
      go (refused k) q =
          let x : refusal k ≡ ended v n c = ap (λ o. o.answer) (sym ((kept bytes budget forms trace).0 k q)) ∙ e in
          let y : ◌≡◌ {A = ℕ} 0 1 = cc in
          absurd (omega arith)

  -- the question that refuses a call
  refused_by_call : (n : ℕ) → answer ≡ refusal n → asked bytes budget (length trace) ≡ refused n
  refused_by_call n e = go (asked bytes budget (length trace)) refl
    where
      go : (m : Parsed Problem) → asked bytes budget (length trace) ≡ m → asked bytes budget (length trace) ≡ refused n
      go (parsed prob) q =
          let k = (kept bytes budget forms trace).1 prob q in
          let x : refusal n ≡ ended k.0 k.1 k.2 = sym e ∙ k.3 in
          let y : ◌≡◌ {A = ℕ} 0 1 = cc in
          absurd (omega arith)
      go (refused m) q =
          let x : refusal m ≡ refusal n = ap (λ o. o.answer) (sym ((kept bytes budget forms trace).0 m q)) ∙ e in
          let y : m ≡ n = cc in
          q ∙ ap refused y

  -- where the problem is bytes
  module _ (is : Bytes bytes) where
    -- and it is the one that the bytes are written as
    asked_same : (prob : Problem) → Written bytes prob → (v : Verdict) (n c : ℕ) → answer ≡ ended v n c → asked bytes budget (length trace) ≡ parsed prob
    asked_same prob w v n c e =
        let a = accepted v n c e in
        let x : parsed a.prob ≡ parsed prob = sym a.reads ∙ (reads bytes is prob).1 w in
        a.asks ∙ x

    abbrev after : Outcome
    after = call bytes budget forms trace

    -- what a call that is not refused leaves, of the problem that was written
    pub record Leaves (prob : Problem) : Type 0 where
      pub fit : listed_bytes prob word ≤ length forms
      pub later : drop (listed_bytes prob word) after.forms ≡ drop (listed_bytes prob word) forms

    -- what Kept says of them
    abbrev Left : Problem → Type 0
    Left prob = (v : Verdict) × (n c : ℕ) × (answer ≡ ended v n c) × (n ≤ budget) × (c * record_length (term_count prob) ≤ length forms)
        × (length after.forms ≡ length forms) × (drop (c * record_length (term_count prob)) after.forms ≡ drop (c * record_length (term_count prob)) forms)
        × (length after.trace ≡ length trace) × (drop (4 * n) after.trace ≡ drop (4 * n) trace)

    pub record Stays : Type 0 where
      pub few : steps_in word ≤ budget
      pub room : 4 * steps_in word ≤ length trace
      pub long : (length after.forms ≡ length forms) × (length after.trace ≡ length trace)
      pub later : drop (4 * steps_in word) after.trace ≡ drop (4 * steps_in word) trace
      pub leaves : (prob : Problem) → Written bytes prob → Leaves prob

    stays : (a : Answer) → answer ≡ a → Stays
    stays (refusal n) e =
        let w = refused_word n e in
        let k = (kept bytes budget forms trace).0 n (refused_by_call n e) in
        let f : after.forms ≡ forms = ap (λ o. o.forms) k in
        let t : after.trace ≡ trace = ap (λ o. o.trace) k in
        record {
          few = omega (arith, w.3);
          room = omega (arith, w.3);
          long = (ap (length {A = ℕ}) f, ap (length {A = ℕ}) t);
          later = ap (drop (4 * steps_in word)) t;
          leaves = λ prob _. record { fit = rw w.1 (omega (arith, zero-mul (record_length (term_count prob)))); later = ap (drop (listed_bytes prob word)) f };
        }
    stays (ended v n c) e =
        let w = ended_word v n c e in
        let a = accepted v n c e in
        let k = (kept bytes budget forms trace).1 a.prob a.asks in
        let p = asked_parsed bytes budget (length trace) a.prob a.asks in
        let x : ended k.0 k.1 k.2 ≡ ended v n c = sym k.3 ∙ e in
        let y : k.1 ≡ steps_in word = cc w.1 in
        record {
          few = omega (arith, k.4, y);
          room = omega (arith, k.4, y, p.2);
          long = (k.6, k.8);
          later = subst (λ (m : ℕ). drop (4 * m) after.trace ≡ drop (4 * m) trace) y k.9;
          leaves = λ prob q. left prob ((kept bytes budget forms trace).1 prob (asked_same prob q v n c e));
        }
      where
        left : (prob : Problem) → Left prob → Leaves prob
        left prob k =
            let x : ended k.0 k.1 k.2 ≡ ended v n c = sym k.3 ∙ e in
            let y : k.2 ≡ forms_in word = cc (ended_word v n c e).2 in
            record {
              fit = subst (λ (m : ℕ). m * record_length (term_count prob) ≤ length forms) y k.5;
              later = subst (λ (m : ℕ). drop (m * record_length (term_count prob)) after.forms ≡ drop (m * record_length (term_count prob)) forms) y k.7;
            }

    pub contract : RunContract bytes budget forms trace word after.forms after.trace
    contract = record {
      bytewise = is;
      one_problem = λ p q v w. let x : parsed p ≡ parsed q = sym ((reads bytes is p).1 v) ∙ (reads bytes is q).1 w in cc;
      refusals = λ n. ((λ q. ((refusals bytes is).0 budget (length trace) n).0 (refusal_at n q answer refl)), λ x. refused_so n (((refusals bytes is).0 budget (length trace) n).1 x));
      untouched = λ n q. untouched_at q.0 answer refl;
      unnumbered = λ q. unnumbered_at (λ z. q (number_in word) (z, refl)) answer refl;
      inside = let s = stays answer refl in (s.few, s.room, λ prob w. (s.leaves prob w).fit);
      later_bytes = let s = stays answer refl in (s.long.0, s.long.1, s.later, λ prob w. (s.leaves prob w).later);
      models = λ prob w. models_at prob ((reads bytes is prob).1 w) answer refl;
      no_false_alarm = λ q. false_at q answer refl;
      same_solutions = λ q. same_at q answer refl;
      covers = λ q prob w g h. covers_at q prob ((reads bytes is prob).1 w) g h answer refl;
      only_solutions = λ prob w g s. only_solutions prob w.valid g _ s;
      order_of_work = λ q. order_at (λ z. q (number_in word) (z, refl)) answer refl;
      short_paths = short;
    }
      where
        models_at : (prob : Problem) → read bytes ≡ parsed prob → (a : Answer) → answer ≡ a → Each (Modelled prob) (listed_in prob word after.forms)
        models_at prob r (refusal n) e = rw (refused_word n e).1 tt
        models_at prob r (ended v n c) e = rw (ended_word v n c e).2 (models bytes budget forms trace prob r v n c e)

        false_at : verdict_in word ≡ 2 → (a : Answer) → answer ≡ a → (prob : Problem) × Written bytes prob × ((g : Assignment) → ¬ Satisfies prob g)
        false_at q (refusal n) e = absurd (omega (arith, q, (refused_word n e).0))
        false_at q (ended v n c) e =
            let a = accepted v n c e in
            let x : v ≡ FALSE = own_number v FALSE (sym (ended_word v n c e).0 ∙ q) in
            (a.prob, (reads bytes is a.prob).0 a.reads, ((verdicts bytes budget forms trace a.prob a.reads n c).0 (e ∙ ap (λ y. ended y n c) x)).1)

        which : (v : Verdict) → (verdict_number v ≡ 1) ⊎ (verdict_number v ≡ 2) → (v ≡ FORMS) ⊎ (v ≡ FALSE)
        which v (inl q) = inl (own_number v FORMS q)
        which v (inr q) = inr (own_number v FALSE q)

        refusal_at : (n : ℕ) → (verdict_in word ≡ 0) × (number_in word ≡ n) → (a : Answer) → answer ≡ a → asked bytes budget (length trace) ≡ refused n
        refusal_at n q (refusal m) e = refused_by_call m e ∙ ap refused (sym (refused_word m e).2 ∙ q.1)
        refusal_at n q (ended v m c) e = absurd (some_number v (sym (ended_word v m c e).0 ∙ q.0))

        refused_so : (n : ℕ) → asked bytes budget (length trace) ≡ refused n → (verdict_in word ≡ 0) × (number_in word ≡ n)
        refused_so n q = let w = refused_word n (ap (λ o. o.answer) ((kept bytes budget forms trace).0 n q)) in (w.0, w.2)

        untouched_at : verdict_in word ≡ 0 → (a : Answer) → answer ≡ a → (steps_in word ≡ 0) × (forms_in word ≡ 0) × (after.forms ≡ forms) × (after.trace ≡ trace)
        untouched_at q (refusal n) e = let w = refused_word n e in let k = (kept bytes budget forms trace).0 n (refused_by_call n e) in (w.3, w.1, ap (λ o. o.forms) k, ap (λ o. o.trace) k)
        untouched_at q (ended v n c) e = absurd (some_number v (sym (ended_word v n c e).0 ∙ q))

        unnumbered_at : ¬ (verdict_in word ≡ 0) → (a : Answer) → answer ≡ a → number_in word ≡ 0
        unnumbered_at q (refusal n) e = absurd (q (refused_word n e).0)
        unnumbered_at q (ended v n c) e = (ended_word v n c e).3

        Ended : Type 0
        Ended = (verdict_in word ≡ 1) ⊎ (verdict_in word ≡ 2)

        ends : Ended → (v : Verdict) (n c : ℕ) → answer ≡ ended v n c → (v ≡ FORMS) ⊎ (v ≡ FALSE)
        ends (inl q) v n c e = which v (inl (sym (ended_word v n c e).0 ∙ q))
        ends (inr q) v n c e = which v (inr (sym (ended_word v n c e).0 ∙ q))

        not_refused : Ended → (n : ℕ) → answer ≡ refusal n → ⊥
        not_refused (inl q) n e = omega (arith, q, (refused_word n e).0)
        not_refused (inr q) n e = omega (arith, q, (refused_word n e).0)

        covers_at : Ended → (prob : Problem) → read bytes ≡ parsed prob → (g : Assignment) → Satisfies prob g → (a : Answer) → answer ≡ a → Some (λ r. (witness : Term → ℤ) × Agrees (term_count prob) (values prob g witness) r) (listed_in prob word after.forms)
        covers_at q prob r g h (refusal n) e = absurd (not_refused q n e)
        covers_at q prob r g h (ended v n c) e = rw (ended_word v n c e).2 (covers bytes budget forms trace prob r v n c e (ends q v n c e) g h)

        Shared : Type 0
        Shared = (prob : Problem) × Written bytes prob × ((g : Assignment) → Satisfies prob g ↔ Some (SatisfiesForm prob g) (listed_in prob word after.forms))

        same_at : Ended → (a : Answer) → answer ≡ a → Shared
        same_at q (refusal n) e = absurd (not_refused q n e)
        same_at q (ended v n c) e =
            let a = accepted v n c e in
            (a.prob, (reads bytes is a.prob).0 a.reads, λ g. rw (ended_word v n c e).2 (same_solutions bytes budget forms trace a.prob a.reads v n c e (ends q v n c e) g))

        short : (r : Ran bytes budget forms word after.forms after.trace) → Each (λ d. d ≤ term_count r.prob * suc (set_count r.prob)) r.paths
        short r =
            let g = run_goes r.prob r.written.valid budget (length forms) in
            subst (Each (λ d. d ≤ term_count r.prob * suc (set_count r.prob))) (r.only _ _ g.0 g.1).2 g.2

        order_at : ¬ (verdict_in word ≡ 0) → (a : Answer) → answer ≡ a → Ran bytes budget forms word after.forms after.trace
        order_at q (refusal n) e = absurd (q (refused_word n e).0)
        order_at q (ended v n c) e =
            let a = accepted v n c e in
            let prob : Problem = a.prob in
            let d = ended_word v n c e in
            let f = follows bytes budget forms trace prob a.asks v n c e in
            let p : record { steps = n; forms = c; records = f.0; trace = f.1 } ≡ progress_in prob word after.forms after.trace =
            rw (d.1, d.2, f.4, f.5) refl in
            let w : Works prob budget (length forms) ((0, start (term_count prob)) ∷ []) unbegun v (progress_in prob word after.forms after.trace) f.2 =
            subst (λ (x : Progress). Works prob budget (length forms) ((0, start (term_count prob)) ∷ []) unbegun v x f.2) p f.3 in
            record {
              prob = prob;
              written = (reads bytes is prob).0 a.reads;
              verdict = v;
              verdict_is = d.0;
              paths = f.2;
              works = w;
              only = λ u x qs y. one_way prob budget (length forms) ((0, start (term_count prob)) ∷ []) unbegun u v x _ qs f.2 y w;
            }
