-- Each contract alone leaves no choice. What meets it has the word's parts and, in the buffers, the beginning and the rest that the definition's own answer has, since that meets the contract too.
use mathlib.Core.Path.{◌≡◌, refl, sym, ap, ◌∙◌, subst}
use mathlib.Core.Logic.{◌⊎◌, inl, inr}
use mathlib.Core.List.{List, [], ◌∷◌, ◌++◌}
use Prim.Native.Nat.{ℕ, ◌+◌, ◌*◌, ◌/◌, ◌%◌}
use native.Mathlib.Omega.{arith}
use lib.ListN.{length, take, drop, take-append-drop}
use Rattle.calculus.specs.Branch.{start}
use Rattle.calculus.specs.Problem.{Problem, term_count}
use Rattle.calculus.specs.Calls.{Answer, refusal, ended, call, pack, verdict_number, answer_word, check, check_word}
use Rattle.calculus.specs.Order.{Progress, unbegun, Works}
use Rattle.calculus.specs.Forms.{record_length}
use Rattle.capi.specs.Contract.{verdict_in, number_in, steps_in, forms_in, listed_bytes, progress_in, RefusedIn, RunContract, Determined, CheckContract, Enough}
use Rattle.capi.proofs.Contracted as run
use Rattle.capi.proofs.CheckedCall as checked

-- a word is its four parts
low : (w : ℕ) → w ≡ w % 65536 + 65536 * (w / 65536)
low w = omega arith

pair : (w : ℕ) → w % 65536 ≡ w % 256 + 256 * (w / 256 % 256)
pair w = omega arith

high : (w : ℕ) → w / 65536 ≡ w / 65536 % 65536 + 65536 * (w / 4294967296)
high w = omega arith

whole : (w : ℕ) → w ≡ pack (verdict_in w) (number_in w) (steps_in w) (forms_in w)
whole w = omega (arith, low w, pair w, high w)

same_word : (w u : ℕ) → verdict_in w ≡ verdict_in u → number_in w ≡ number_in u → steps_in w ≡ steps_in u → forms_in w ≡ forms_in u → w ≡ u
same_word w u a b c d = whole w ∙ (λ i. pack (a i) (b i) (c i) (d i)) ∙ sym (whole u)

-- lists that begin alike and go on alike
same_parts : (m n : ℕ) (xs ys : List ℕ) → m ≡ n → take m xs ≡ take n ys → drop m xs ≡ drop n ys → xs ≡ ys
same_parts m n xs ys e p q = sym (take-append-drop m xs) ∙ ap (λ (l : List ℕ). l ++ drop m xs) p ∙ ap (λ (l : List ℕ). take n ys ++ l) q ∙ take-append-drop n ys

module _ (bytes : List ℕ) (budget : ℕ) (forms trace : List ℕ) (word : ℕ) (F T : List ℕ) (c : RunContract bytes budget forms trace word F T) where
  abbrev answer : Answer
  answer = (call bytes budget forms trace).answer

  -- the definition's own answer
  abbrev own : ℕ
  own = answer_word answer

  abbrev F₀ : List ℕ
  F₀ = (call bytes budget forms trace).forms

  abbrev T₀ : List ℕ
  T₀ = (call bytes budget forms trace).trace

  mine : RunContract bytes budget forms trace own F₀ T₀
  mine = run.contract bytes budget forms trace c.bytewise

  -- one is refused with a number where the other is
  to_own : (n : ℕ) → RefusedIn word n → RefusedIn own n
  to_own n q = (mine.refusals n).1 ((c.refusals n).0 q)

  of_own : (n : ℕ) → RefusedIn own n → RefusedIn word n
  of_own n q = (c.refusals n).1 ((mine.refusals n).0 q)

  if_refused : (n : ℕ) → RefusedIn own n → Determined bytes budget forms trace word F T
  if_refused n q =
      let p = of_own n q in
      let x = c.untouched n p in
      let y = mine.untouched n q in
      (same_word word own (p.0 ∙ sym q.0) (p.1 ∙ sym q.1) (x.0 ∙ sym y.0) (x.1 ∙ sym y.1), x.2 ∙ sym y.2, x.3 ∙ sym y.3)

  if_ran : ((n : ℕ) → ¬ RefusedIn own n) → Determined bytes budget forms trace word F T
  if_ran h =
      let g : (n : ℕ) → ¬ RefusedIn word n = λ n q. h n (to_own n q) in
      let r = c.order_of_work g in
      let o = mine.order_of_work h in
      let P : Problem → Type 0 = λ p. Works p budget (length forms) ((0, start (term_count p)) ∷ []) unbegun r.verdict (progress_in p word F T) r.paths in
      let u = o.only _ _ _ (subst P (c.one_problem r.prob o.prob r.written o.written) r.works) in
      let v : verdict_in word ≡ verdict_in own = r.verdict_is ∙ ap verdict_number u.0 ∙ sym o.verdict_is in
      let s : steps_in word ≡ steps_in own = ap (λ (x : Progress). x.steps) u.1 in
      let f : forms_in word ≡ forms_in own = ap (λ (x : Progress). x.forms) u.1 in
      let k : listed_bytes o.prob word ≡ listed_bytes o.prob own = ap (λ (x : ℕ). x * record_length (term_count o.prob)) f in
      let t : 4 * steps_in word ≡ 4 * steps_in own = ap (λ (x : ℕ). 4 * x) s in (
        same_word word own v (c.unnumbered g ∙ sym (mine.unnumbered h)) s f,
        same_parts _ _ F F₀ k (ap (λ (x : Progress). x.records) u.1) (c.later_bytes.3 o.prob o.written ∙ ap (λ (x : ℕ). drop x forms) k ∙ sym (mine.later_bytes.3 o.prob o.written)),
        same_parts _ _ T T₀ t (ap (λ (x : Progress). x.trace) u.1) (c.later_bytes.2 ∙ ap (λ (x : ℕ). drop x trace) t ∙ sym mine.later_bytes.2),
      )

  run_enough : Determined bytes budget forms trace word F T
  run_enough = go answer refl
    where
      go : (a : Answer) → answer ≡ a → Determined bytes budget forms trace word F T
      go (refusal n) e = let w = run.refused_word bytes budget forms trace n e in if_refused n (w.0, w.2)
      go (ended v n k) e = if_ran (λ m q. run.some_number v (sym (run.ended_word bytes budget forms trace v n k e).0 ∙ q.0))

module _ (bytes assignment : List ℕ) (word : ℕ) (c : CheckContract bytes assignment word) where
  abbrev own_check : ℕ
  own_check = check_word (check bytes assignment)

  mine_check : CheckContract bytes assignment own_check
  mine_check = checked.contract bytes assignment c.bytewise.0 c.bytewise.1

  same_check : verdict_in word ≡ verdict_in own_check → number_in word ≡ number_in own_check → word ≡ own_check
  same_check v n = same_word word own_check v n (c.nothing_else.2 ∙ sym mine_check.nothing_else.2) (c.nothing_else.3 ∙ sym mine_check.nothing_else.3)

  check_enough : word ≡ own_check
  check_enough = go mine_check.nothing_else.0
    where
      go : (verdict_in own_check ≡ 0) ⊎ ((verdict_in own_check ≡ 5) ⊎ (verdict_in own_check ≡ 6)) → word ≡ own_check
      go (inl q) = let p = (c.refusals (number_in own_check)).1 ((mine_check.refusals (number_in own_check)).0 (q, refl)) in same_check (p.0 ∙ sym q) p.1
      go (inr (inl q)) = let p = c.holds.1 (mine_check.holds.0 q) in same_check (p ∙ sym q) (c.nothing_else.1 p ∙ sym (mine_check.nothing_else.1 q))
      go (inr (inr q)) = let p = (c.fails (number_in own_check)).1 ((mine_check.fails (number_in own_check)).0 (q, refl)) in same_check (p.0 ∙ sym q) p.1

pub enough : Enough
enough = (run_enough, check_enough)
