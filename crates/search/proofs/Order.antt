-- The order of the search. The first place is at the first rule that applies of the first constraint that is not idle; there is none exactly if all are idle.
use mathlib.Core.Path.{◌≡◌, refl, sym, ap, ap₂, ◌∙◌, subst}
use mathlib.Core.Bool.{Bool, true, false}
use mathlib.Core.Option
use mathlib.Core.Option.{Option, none, some}
use mathlib.Core.List.{List, [], ◌∷◌, ◌++◌, map}
use Prim.Native.Nat.{ℕ, zero, suc, ◌+◌, ◌-◌, ◌<◌, ◌≤◌}
use native.Mathlib.Omega.{arith}
use native.Mathlib.Decide.{ℕ_discrete}
use lib.ListN.{length, get_or}
use Rattle.calculus.specs.Lists.{up_from, first, gather, Each}
use Rattle.calculus.specs.Terms.{Term}
use Rattle.calculus.specs.Relations.{applies}
use Rattle.calculus.specs.Meaning.{Constraint}
use Rattle.calculus.specs.Branch.{Branch, known}
use Rattle.calculus.specs.Search.{Move, Candidate, candidates}
use Rattle.calculus.proofs.Bools.{first_none, map_each, gather_of_each}
use Rattle.calculus.proofs.SearchLaws.{none_found, first_stop, first_next, first_left, first_none_app}
use Rattle.calculus.proofs.Sequences.{up_each, up_at}
use Rattle.problem.specs.Table.{no_constraint}
use Rattle.places.specs.Places.{span_of, InSpan, move_at, positions, first_at, offers}
use Rattle.places.proofs.Offered.{offered}
use Rattle.fits.proofs.Lowest.{first_map}
use Rattle.quiet.specs.Quiet.{Idle}
use Rattle.search.specs.First.{first_place_of}

-- ---- the lowest number

-- none below h
pub first_lowest : (p : ℕ → Bool) (h : ℕ) → p h ≡ true → ((k : ℕ) → k < h → p k ≡ false) → (n a : ℕ) → a ≤ h → h < a + n → first p (up_from a n) ≡ some h
first_lowest p h e f zero a l g = absurd (omega arith)
first_lowest p h e f (suc n) a l g = go (ℕ_discrete a h) (first_lowest p h e f n (suc a))
  where
    go : Dec (a ≡ h) → (suc a ≤ h → h < suc a + n → first p (up_from (suc a) n) ≡ some h) → first p (a ∷ up_from (suc a) n) ≡ some h
    go (yes q) ih = rw q (first_stop p h (up_from (suc h) n) e)
    go (no q) ih = first_next p a (up_from (suc a) n) (f a (omega arith)) ∙ ih (omega arith) (omega arith)

-- none below n
pub first_no : (p : ℕ → Bool) (n : ℕ) → ((k : ℕ) → k < n → p k ≡ false) → first p (up_from 0 n) ≡ none
first_no p n f = none_found p (up_from 0 n) (up_each (λ k. p k ≡ false) 0 n (λ k _ l. f k (omega arith)))

-- ---- m lists in a row, from list a on

module _ {X : Type 0} (p : X → Bool) (f : ℕ → List X) where
  -- none has one
  row_none : (m a : ℕ) → ((k : ℕ) → a ≤ k → k < a + m → first p (f k) ≡ none) → first p (gather f (up_from a m)) ≡ none
  row_none zero a h = refl
  row_none (suc m) a h = first_none_app p (f a) (gather f (up_from (suc a) m)) (h a (omega arith) (omega arith)) ∙ row_none m (suc a) (λ k l g. h k (omega arith) (omega arith))

  -- list j is the first that has one
  row_first : (m a j : ℕ) (x : X) → a ≤ j → j < a + m → ((k : ℕ) → a ≤ k → k < j → first p (f k) ≡ none) → first p (f j) ≡ some x → first p (gather f (up_from a m)) ≡ some x
  row_first zero a j x l g h e = absurd (omega arith)
  row_first (suc m) a j x l g h e = go (ℕ_discrete a j) (row_first m (suc a) j x)
    where
      go : Dec (a ≡ j) → (suc a ≤ j → j < suc a + m → ((k : ℕ) → suc a ≤ k → k < j → first p (f k) ≡ none) → first p (f j) ≡ some x → first p (gather f (up_from (suc a) m)) ≡ some x) → first p (f a ++ gather f (up_from (suc a) m)) ≡ some x
      go (yes q) ih = first_left p (f a) (gather f (up_from (suc a) m)) x (ap (λ (k : ℕ). first p (f k)) q ∙ e)
      go (no q) ih = first_none_app p (f a) (gather f (up_from (suc a) m)) (h a (omega arith) (omega arith)) ∙ ih (omega arith) (omega arith) (λ k l g. h k (omega arith) g) e

-- ---- rules of a constraint

module _ (split : Bool) (n : ℕ) (b : Branch) where
  abbrev holds : Term × Move → Bool
  holds m = applies (known b) m.1

  module _ (l : Constraint) where
    abbrev start : ℕ
    start = (span_of split l).0

    abbrev count : ℕ
    count = (span_of split l).1 - (span_of split l).0

    abbrev moves : ℕ → List (Term × Move)
    moves j = map (move_at b l j) (positions n b l j)

    -- a rule's first move is that at its first position
    by_rule : (j : ℕ) (o : Option ℕ) → first_at n b l j ≡ o → first holds (moves j) ≡ Option.map (move_at b l j) o
    by_rule j o e = first_map holds (move_at b l j) (positions n b l j) ∙ ap (Option.map (move_at b l j)) e

    idle_offers : Idle split n b l → first holds (offers split n b l) ≡ none
    idle_offers h = ap (first holds) (offered split n b l) ∙ row_none holds moves count start (λ k a g. by_rule k none (h k (a, omega arith)))

    pub first_offer : (j p : ℕ) → InSpan (span_of split l) j → ((k : ℕ) → InSpan (span_of split l) k → k < j → first_at n b l k ≡ none) → first_at n b l j ≡ some p → first holds (offers split n b l) ≡ some (move_at b l j p)
    first_offer j p v h e = ap (first holds) (offered split n b l) ∙ row_first holds moves count start j (move_at b l j p) v.0 (omega (arith, v.0, v.1)) (λ k a g. by_rule k none (h k (a, omega (arith, v.1)) g)) (by_rule j (some p) e)

  -- ---- constraints

  abbrev passed : Candidate → Bool
  passed c = applies (known b) c.move

  abbrev candidate : ℕ → Term × Move → Candidate
  candidate i m = record { constraint = i; concerned = m.0; move = m.1 }

  -- the candidates of constraints that g has by number, from constraint i on
  by_number : (g : ℕ → Constraint) (ls : List Constraint) (i : ℕ) → ((k : ℕ) → get_or ls k no_constraint ≡ g (i + k)) → candidates (offers split n b) i ls ≡ gather (λ (k : ℕ). map (candidate k) (offers split n b (g k))) (up_from i (length ls))
  by_number g [] i h = refl
  by_number g (l ∷ ls) i h =
      ap₂ (λ (x : Constraint) (xs : List Candidate). map (candidate i) (offers split n b x) ++ xs) (h 0 ∙ ap g (omega arith)) (by_number g ls (suc i) (λ k. h (suc k) ∙ ap g (omega arith)))

  module _ (ls : List Constraint) where
    abbrev this : ℕ → Constraint
    this i = get_or ls i no_constraint

    abbrev own : ℕ → List Candidate
    own i = map (candidate i) (offers split n b (this i))

    by_constraint : first_place_of split n ls b ≡ first passed (gather own (up_from 0 (length ls)))
    unfolding first_place_of
    by_constraint = ap (first passed) (by_number this ls 0 (λ k. ap this (omega arith)))

    idle_own : (i : ℕ) → Idle split n b (this i) → first passed (own i) ≡ none
    idle_own i h = first_map passed (candidate i) (offers split n b (this i)) ∙ ap (Option.map (candidate i)) (idle_offers (this i) h)

    pub no_place : ((i : ℕ) → i < length ls → Idle split n b (this i)) → first_place_of split n ls b ≡ none
    no_place h = by_constraint ∙ row_none passed own (length ls) 0 (λ k a g. idle_own k (h k (omega arith)))

    pub place_at : (i : ℕ) (m : Term × Move) → i < length ls → ((k : ℕ) → k < i → Idle split n b (this k)) → first holds (offers split n b (this i)) ≡ some m → first_place_of split n ls b ≡ some (candidate i m)
    place_at i m l h e = by_constraint ∙ row_first passed own (length ls) 0 i (candidate i m) (omega arith) (omega arith) (λ k a g. idle_own k (h k g)) (first_map passed (candidate i) (offers split n b (this i)) ∙ ap (Option.map (candidate i)) e)

    -- and where there is no place, all are idle
    pub all_idle : first_place_of split n ls b ≡ none → (i : ℕ) → i < length ls → Idle split n b (this i)
    all_idle e i l j v =
        let P : Term × Move → Type 0 = λ m. holds m ≡ false in
        let Q : Candidate → Type 0 = λ c. passed c ≡ false in
        let c : Constraint = this i in
        let f = up_at (λ (k : ℕ). Each Q (own k)) 0 (length ls) (gather_of_each Q own (up_from 0 (length ls)) (first_none passed (gather own (up_from 0 (length ls))) (sym by_constraint ∙ e))) i (omega arith) (omega arith) in
        let g = subst (Each P) (offered split n b c) (map_each Q (candidate i) (offers split n b c) f) in
        let h = up_at (λ (k : ℕ). Each P (moves c k)) (start c) (count c) (gather_of_each P (moves c) (up_from (start c) (count c)) g) j v.0 (omega (arith, v.0, v.1)) in
        none_found (λ p. holds (move_at b c j p)) (positions n b c j) (map_each P (move_at b c j) (positions n b c j) h)
