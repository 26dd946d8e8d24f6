-- What the definitions say at each return of the functions that read operands.
use mathlib.Core.Path.{◌≡◌, refl}
use mathlib.Core.Bool.{Bool, true, false, ◌&&◌, cond}
use mathlib.Core.List.{List, [], ◌∷◌}
use Prim.Native.Nat.{ℕ, ◌+◌, ◌-◌, ◌/◌, ◌<◌, ◌≤◌}
use native.Mathlib.Omega.{arith}
use lib.ListN.{length, get_or, take, drop, length-take, length-drop}
use lib.Seq.{take-take}
use lib.Dec.{leb, ltb}
use borrow.Author.Tests.{le-leb, lt-leb, leb-true}
use Rattle.std.specs.Prelude.{Result, Ok, Err, zip}
use Rattle.std.specs.List.{list_all, slice_range}
use Rattle.calculus.specs.Reading.{gapless, words}
use Rattle.questions.specs.declared.refusal.Refusal.{Refusal}
use Rattle.questions.specs.declared.refusal.Refusal.TheVariants.{CutShort, Operand, Interval}
use Rattle.questions.proofs.Constants.{words_count}
use Rattle.questions.specs.Questions.{operands_at, list_at, interval_at}

module _ (bounds bs : List ℕ) where
  pub operands_short : length bs < length bounds → Err CutShort ≡ operands_at bounds bs
  unfolding operands_at
  operands_short l = rw (lt-leb (length bounds) (length bs) l) refl

  -- the operands are ps, and t is found of them
  pub operands_are : length bounds ≤ length bs → (ps : List ℕ) → ps ≡ slice_range bs 0 (length bounds) → (t : Bool) → list_all (λ p. ltb p.0 p.1) (zip ps bounds) ≡ t → cond t (Ok (length bounds)) (Err Operand) ≡ operands_at bounds bs
  unfolding operands_at
  operands_are l ps e t h =
      let d : length bounds - 0 ≡ length bounds = omega arith in
      rw (← h, e, d, le-leb (length bounds) (length bs) l) refl

  -- operands that are accepted are there
  pub operands_there : (n : ℕ) → Ok n ≡ operands_at bounds bs → length bounds ≤ length bs
  unfolding operands_at
  operands_there n e = go (leb (length bounds) (length bs)) refl
    where
      go : (t : Bool) → leb (length bounds) (length bs) ≡ t → length bounds ≤ length bs
      go true g = leb-true (length bounds) (length bs) g
      go false g = let f = rw g at e in absurd (cc)

module _ (N S : ℕ) (bs : List ℕ) where
  pub list_short : length bs < 2 → Err CutShort ≡ list_at N S bs
  unfolding list_at
  list_short l = rw (lt-leb 2 (length bs) l) refl

  module _ (two : 2 ≤ length bs) (rest : List ℕ) (r : rest ≡ take (length bs - 2) (drop 2 bs)) where
    rest_length : length rest ≡ length bs - 2
    rest_length = rw r (omega (arith, length-take (length bs - 2) (drop 2 bs), length-drop 2 bs))

    pub list_cut : length rest < get_or bs 1 0 → Err CutShort ≡ list_at N S bs
    unfolding list_at
    list_cut l = rw (le-leb 2 (length bs) two, lt-leb (2 + get_or bs 1 0) (length bs) (omega (arith, rest_length))) refl

    -- the terms are es, and s is found of the set and t of the terms
    pub list_is : get_or bs 1 0 ≤ length rest → (es : List ℕ) → es ≡ slice_range rest 0 (get_or bs 1 0) → (s t : Bool) → ltb (get_or bs 0 0) S ≡ s → list_all (λ e. ltb e N) es ≡ t → cond (s && t) (Ok (2 + length es)) (Err Operand) ≡ list_at N S bs
    unfolding list_at
    list_is l es e s t hs ht =
        let n : ℕ = get_or bs 1 0 in
        let d : n - 0 ≡ n = omega arith in
        let k : length es ≡ n = rw (e, d) (omega (arith, length-take n rest)) in
        let g : slice_range rest 0 n ≡ take n (drop 2 bs) = rw (d, r) (take-take n (length bs - 2) (drop 2 bs) (omega (arith, rest_length))) in
        rw (le-leb 2 (length bs) two, le-leb (2 + n) (length bs) (omega (arith, rest_length)), hs, k, ← g, ← e, ht) refl

module _ (cs : List ℕ) (N S : ℕ) (bs : List ℕ) (r : Result ℕ Refusal) (o : r ≡ operands_at (S ∷ N ∷ N ∷ []) bs) where
  abbrev i : ℕ
  i = get_or bs 1 0

  abbrev j : ℕ
  j = get_or bs 2 0

  pub interval_refused : (q : Refusal) → r ≡ Err q → Err q ≡ interval_at (words cs) N S bs
  unfolding interval_at
  interval_refused q e = rw (← o, e) refl

  -- s, t and u are found of the two terms
  pub interval_is : (n : ℕ) → r ≡ Ok n → (s t u : Bool) → ltb i (length cs / 2) ≡ s → ltb j (length cs / 2) ≡ t → gapless (words cs) i j ≡ u → cond (s && t && u) (Ok n) (Err Interval) ≡ interval_at (words cs) N S bs
  unfolding interval_at
  interval_is n e s t u hs ht hu = rw (← hs, ← ht, ← hu, ← o, e, words_count) refl
