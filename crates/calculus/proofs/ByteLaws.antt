-- What a call leaves in the buffers is bytes.
use mathlib.Core.Path.{◌≡◌, refl, sym, subst}
use mathlib.Core.List.{List, [], ◌∷◌}
use Prim.Native.Nat.{ℕ, zero, suc, ◌+◌, ◌*◌, ◌^◌, ◌<◌, ◌≤◌}
use native.Mathlib.Omega.{arith}
use native.Mathlib.Nat.{le_trans, pow-le-pow_right}
use lib.ListN.{length, drop}
use Rattle.calculus.specs.Limits.{most_sets}
use Rattle.calculus.specs.Lists.{Each}
use Rattle.calculus.specs.Branch.{Branch, start, root_at}
use Rattle.calculus.specs.Search.{step, next}
use Rattle.calculus.specs.Problem.{Problem, term_count, set_count, constant_terms, Valid}
use Rattle.calculus.specs.Encoding.{Bytes}
use Rattle.calculus.specs.Forms.{record_from, record_of}
use Rattle.calculus.specs.Run.{Event, formed, stepped, log, tally, run}
use Rattle.calculus.specs.Reading.{Parsed, parsed, refused}
use Rattle.calculus.specs.Calls.{over, asked, call}
use Rattle.calculus.specs.Demands.{Bytewise}
use Rattle.calculus.proofs.Tallying.{tally_by}
use Rattle.calculus.proofs.Bools.{each_app}
use Rattle.calculus.proofs.Asserting.{below}
use Rattle.calculus.proofs.ConstraintLaws.{constraints_within}
use Rattle.calculus.proofs.StepBounds.{step_bounds}
use Rattle.calculus.proofs.LogEvents.{log_each}
use Rattle.calculus.proofs.Models.{Kept, start_kept, step_kept}
use Rattle.calculus.proofs.CallLaws.{asked_parsed}
use Rattle.calculus.proofs.ReadValid.{read_valid}

abbrev Byte : ℕ → Type 0
Byte x = x < 256

each_drop : (n : ℕ) (xs : List ℕ) → Bytes xs → Bytes (drop n xs)
each_drop zero xs e = e
each_drop (suc n) [] e = tt
each_drop (suc n) (x ∷ xs) e = each_drop n xs e.1

over_bytes : (xs ys : List ℕ) → Bytes xs → Bytes ys → Bytes (over xs ys)
over_bytes xs ys e g = each_app Byte xs (drop (length xs) ys) e (each_drop (length xs) ys g)

-- the bytes of each event
abbrev Written : ℕ → Event → Type 0
Written n (formed b) = Bytes (record_of n b)
Written n (stepped r) = Bytes r

tally_bytes : (n : ℕ) (es : List Event) → Each (Written n) es → (l q : ℕ) → Bytes (tally n l q es).records × Bytes (tally n l q es).trace
tally_bytes n es e l q =
    tally_by n (λ l q es t. Each (Written n) es → Bytes t.records × Bytes t.trace) (λ _ _ _. (tt, tt))
    (λ b es l q t _ ih e. (each_app Byte (record_of n b) t.records e.0 (ih e.1).0, (ih e.1).1)) (λ _ _ _ _ _ _. (tt, tt)) (λ _ _ _ _. (tt, tt))
    (λ r es l q t ih e. ((ih e.1).0, each_app Byte r t.trace e.0 (ih e.1).1)) es l q e

module _ (prob : Problem) (acc : Valid prob) where
  mask_byte : (x : ℕ) → x < 2 ^ set_count prob → x < 256
  mask_byte x l = le_trans l (pow-le-pow_right {n = 2} (omega arith) {i = set_count prob} {j = most_sets} acc.few_sets)

  record_bytes : (b : Branch) → Kept prob acc b → (n t : ℕ) → t + n ≤ term_count prob → Bytes (record_from b t n)
  record_bytes b p zero t l = tt
  record_bytes b p (suc n) t l =
      let low = below (term_count prob) (constant_terms prob) b p.0 t in
      (omega (arith, low, acc.few_terms), (mask_byte _ (p.1.insides (root_at b t)), (mask_byte _ (p.1.outsides (root_at b t)), record_bytes b p n (suc t) (omega arith))))

  trace_bytes : (b : Branch) → Kept prob acc b → (r : List ℕ) (cs : List Branch) → next (term_count prob) (constant_terms prob) prob.constraints b ≡ step r cs → Bytes r
  trace_bytes b p r cs q =
      let s = step_bounds (term_count prob) (constant_terms prob) (set_count prob) b p.0 prob.constraints (constraints_within prob acc) r cs q in
      subst Bytes (sym s.3) (omega (arith, s.4), (omega (arith, s.5, acc.few_constraints), (omega (arith, s.6, acc.few_terms), (omega (arith, s.7, acc.few_terms), tt))))

  run_bytes : (budget room : ℕ) → Bytes (run prob budget room).records × Bytes (run prob budget room).trace
  unfolding run
  run_bytes budget room =
      let L : List Event = log (term_count prob) (constant_terms prob) prob.constraints (term_count prob * suc (set_count prob)) (start (term_count prob)) in
      tally_bytes (term_count prob) L
      (log_each (term_count prob) (constant_terms prob) prob.constraints (Kept prob acc) (Written (term_count prob)) (λ b p. record_bytes b p (term_count prob) 0 (omega arith)) (λ b p r cs q. (trace_bytes b p r cs q, step_kept prob acc b p r cs q)) (term_count prob * suc (set_count prob)) (start (term_count prob)) (start_kept prob acc))
      budget room

pub bytewise : Bytewise
unfolding call
bytewise bytes budget forms trace f t = go (asked bytes budget (length trace)) refl
  where
    go : (x : Parsed Problem) → asked bytes budget (length trace) ≡ x → Bytes (call bytes budget forms trace).forms × Bytes (call bytes budget forms trace).trace
    go (refused n) q = rw q (f, t)
    go (parsed prob) q =
        let acc = read_valid bytes prob (asked_parsed bytes budget (length trace) prob q).0 in
        let w = run_bytes prob acc budget (length forms) in
        rw q (over_bytes (run prob budget (length forms)).records forms w.0 f, over_bytes (run prob budget (length forms)).trace trace w.1 t)
