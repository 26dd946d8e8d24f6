-- The questions of one constraint: its parser refuses as they say.
use mathlib.Core.Path.{◌≡◌, refl, ap, subst}
use mathlib.Core.Logic.{◌↔◌}
use mathlib.Core.Bool.{Bool, true, ◌&&◌}
use mathlib.Core.List.{List, [], ◌∷◌, ◌++◌}
use Prim.Native.Nat.{ℕ, zero, suc, ◌+◌, ◌<◌, ◌≤◌}
use native.Mathlib.Omega.{arith}
use lib.ListN.{length, get_or, replicate, length-replicate, get_or-replicate, get_or-eq_default}
use lib.Dec.{ltb}
use lib.IntN.{ℤ}
use borrow.Author.Tests.{ltb-true, lt-ltb}
use Rattle.calculus.specs.Lists.{all}
use Rattle.calculus.specs.Terms.{SetVar}
use Rattle.calculus.specs.Relations.{union, intersection}
use Rattle.calculus.specs.Meaning.{Constraint, relation}
use Rattle.calculus.specs.Problem.{Rising}
use Rattle.calculus.specs.Reading.{Parser, refused, gapless, refuse, two, three, of_list, of_interval, kinds, constraint}
use Rattle.calculus.specs.Questions.{Sort, a_term, aSet, aCount, operand_table, operands, Names, OfConstraint, kind_missing, no_kind, operands_missing, names_nothing, not_filled}
use Rattle.calculus.proofs.Bools.{and_l, and_r, and_i, clash, each_all, all_each}
use Rattle.calculus.proofs.Sequences.{each_at, at_each}
use Rattle.calculus.proofs.Gapless.{gapless_fills, fills_gapless}
use Rattle.calculus.proofs.Parsers.{OneByte, one, Counted, counted, byte_reads, bytes_read}
use Rattle.calculus.proofs.QuestionsAsked.{Saying, Stops, NoByte, no_byte, Fewer, fewer, Never, Asking, answer_no, answer_yes, After, now, later, byte_stops, bytes_stop, never_stops, asking_stops, same_saying, after_stops}
use Rattle.calculus.proofs.QuestionsOperands.{untrue, AllName, Filled, At, Case, case_7, case_2, case_8, case_9, case, Right, fixed_at, at_fixed}

module _ (cs : List ℤ) (N S : ℕ) where
  -- what an operand of this sort is below
  data Below : Sort → ℕ → Type 0 where
    below_terms : Below a_term N
    below_sets : Below aSet S

  names : (s : Sort) (p : ℕ) → Below s p → (x : ℕ) → (ltb x p ≡ true) ↔ Names cs N S s x
  names s p below_terms x = (ltb-true x N, lt-ltb x N)
  names s p below_sets x = (ltb-true x S, lt-ltb x S)

  -- two and three operands
  module _ {s t : Sort} {p q : ℕ} (b : Below s p) (c : Below t q) where
    abbrev test₂ : List ℕ → Bool
    test₂ xs = ltb (get_or xs 0 0) p && ltb (get_or xs 1 0) q

    tested₂ : (xs : List ℕ) → length xs ≡ 2 → (test₂ xs ≡ true) ↔ ((i : ℕ) → i < length xs → Names cs N S (get_or (s ∷ t ∷ []) i aCount) (get_or xs i 0))
    tested₂ xs e = (λ h. to h, λ h. and_i ((names s p b (get_or xs 0 0)).1 (h 0 (omega arith))) ((names t q c (get_or xs 1 0)).1 (h 1 (omega arith))))
      where
        to : test₂ xs ≡ true → (i : ℕ) → i < length xs → Names cs N S (get_or (s ∷ t ∷ []) i aCount) (get_or xs i 0)
        to h zero l = (names s p b (get_or xs 0 0)).0 (and_l (ltb (get_or xs 0 0) p) (ltb (get_or xs 1 0) q) h)
        to h (suc zero) l = (names t q c (get_or xs 1 0)).0 (and_r (ltb (get_or xs 0 0) p) (ltb (get_or xs 1 0) q) h)
        to h (suc (suc i)) l = absurd (omega arith)

    two_stops : (k : ℕ) → (1 ≤ k) × (k < 12) → ((bs : List ℕ) → operands k bs ≡ s ∷ t ∷ []) → (make : ℕ → ℕ → Constraint) → Stops (At cs N S k) (two cs N S p q make)
    two_stops k kind shape make = same_saying (At cs N S k) (fixed_at cs N S k _ (s ∷ t ∷ []) shape test₂ (λ _. Never) right) (at_fixed cs N S k _ (s ∷ t ∷ []) shape test₂ (λ _. Never) right)
        (after_stops _ byte_reads byte_stops (λ x. after_stops _ byte_reads byte_stops (λ y. asking_stops 8 _ (λ _ _. never_stops _))))
      where
        right : Right cs N S k (kind.0, omega (arith, kind.1)) (s ∷ t ∷ []) shape test₂ (λ _. Never)
        right = record { tested = tested₂; goes_on = λ xs rest n e q h. absurd h; came_from = λ A i j rest z. absurd (omega (arith, kind.1)) }

  module _ {s t u : Sort} {p q r : ℕ} (b : Below s p) (c : Below t q) (d : Below u r) where
    abbrev test₃ : List ℕ → Bool
    test₃ xs = ltb (get_or xs 0 0) p && ltb (get_or xs 1 0) q && ltb (get_or xs 2 0) r

    tested₃ : (xs : List ℕ) → length xs ≡ 3 → (test₃ xs ≡ true) ↔ ((i : ℕ) → i < length xs → Names cs N S (get_or (s ∷ t ∷ u ∷ []) i aCount) (get_or xs i 0))
    tested₃ xs e = (λ h. to h (and_l (ltb (get_or xs 0 0) p && ltb (get_or xs 1 0) q) (ltb (get_or xs 2 0) r) h), λ h. and_i (and_i ((names s p b (get_or xs 0 0)).1 (h 0 (omega arith))) ((names t q c (get_or xs 1 0)).1 (h 1 (omega arith)))) ((names u r d (get_or xs 2 0)).1 (h 2 (omega arith))))
      where
        to : test₃ xs ≡ true → test₂ b c xs ≡ true → (i : ℕ) → i < length xs → Names cs N S (get_or (s ∷ t ∷ u ∷ []) i aCount) (get_or xs i 0)
        to h g zero l = (names s p b (get_or xs 0 0)).0 (and_l (ltb (get_or xs 0 0) p) (ltb (get_or xs 1 0) q) g)
        to h g (suc zero) l = (names t q c (get_or xs 1 0)).0 (and_r (ltb (get_or xs 0 0) p) (ltb (get_or xs 1 0) q) g)
        to h g (suc (suc zero)) l = (names u r d (get_or xs 2 0)).0 (and_r (ltb (get_or xs 0 0) p && ltb (get_or xs 1 0) q) (ltb (get_or xs 2 0) r) h)
        to h g (suc (suc (suc i))) l = absurd (omega arith)

  three_stops : (k : ℕ) → (1 ≤ k) × (k < 12) → ((bs : List ℕ) → operands k bs ≡ aSet ∷ aSet ∷ aSet ∷ []) → (make : SetVar → SetVar → SetVar → Constraint) → Stops (At cs N S k) (three cs N S make)
  three_stops k kind shape make = same_saying (At cs N S k) (fixed_at cs N S k _ _ shape test (λ _. Never) right) (at_fixed cs N S k _ _ shape test (λ _. Never) right)
      (after_stops _ byte_reads byte_stops (λ x. after_stops _ byte_reads byte_stops (λ y. after_stops _ byte_reads byte_stops (λ z. asking_stops 8 _ (λ _ _. never_stops _)))))
    where
      test : List ℕ → Bool
      test = test₃ below_sets below_sets below_sets

      right : Right cs N S k (kind.0, omega (arith, kind.1)) (aSet ∷ aSet ∷ aSet ∷ []) shape test (λ _. Never)
      right = record { tested = tested₃ below_sets below_sets below_sets; goes_on = λ xs rest n e q h. absurd h; came_from = λ A i j rest z. absurd (omega (arith, kind.1)) }

  -- a set, a count and that many terms
  abbrev Listed : Saying
  Listed = After NoByte OneByte (λ A. After NoByte OneByte (λ n. After (Fewer n) (Counted n) (λ es. Asking 8 (λ _. ltb A S && all (λ e. ltb e N) es) Never)))

  list_tested : (A n : ℕ) (es : List ℕ) → length es ≡ n → ((ltb A S && all (λ e. ltb e N) es) ≡ true) ↔ AllName cs N S 11 (A ∷ n ∷ es)
  list_tested A n es e = (to, from)
    where
      is_term : (i : ℕ) → i < length es → (x : ℕ) → Names cs N S (get_or (replicate n a_term) i aCount) x ≡ (x < N)
      is_term i l x = ap (λ (s : Sort). Names cs N S s x) (get_or-replicate n i a_term aCount (omega arith))

      to : (ltb A S && all (λ e. ltb e N) es) ≡ true → AllName cs N S 11 (A ∷ n ∷ es)
      to t zero l = ltb-true A S (and_l (ltb A S) (all (λ e. ltb e N) es) t)
      to t (suc zero) l = tt
      to t (suc (suc i)) l = rw (is_term i (omega arith) (get_or es i 0)) (ltb-true (get_or es i 0) N (each_at (λ x. ltb x N ≡ true) es 0 (each_all (λ e. ltb e N) es (and_r (ltb A S) (all (λ e. ltb e N) es) t)) i (omega arith)))

      from : AllName cs N S 11 (A ∷ n ∷ es) → (ltb A S && all (λ e. ltb e N) es) ≡ true
      from h = and_i (lt-ltb A S (h 0 (omega arith))) (all_each (λ e. ltb e N) es (at_each (λ x. ltb x N ≡ true) es 0 (λ i l. lt-ltb (get_or es i 0) N (rw (is_term i l (get_or es i 0)) at (h (suc (suc i)) (omega arith))))))

  list_stops : Stops (At cs N S 11) (of_list cs N S)
  list_stops = same_saying (At cs N S 11) to (λ rest n h. from rest n (case cs N S 11 rest n h))
      (after_stops _ byte_reads byte_stops (λ A. after_stops _ byte_reads byte_stops (λ n. after_stops _ (bytes_read n) (bytes_stop n) (λ es. asking_stops 8 _ (λ _ _. never_stops _)))))
    where
      to : (rest : List ℕ) (n : ℕ) → Listed rest n → At cs N S 11 rest n
      to rest n (now no_byte) = operands_missing 11 [] (omega arith)
      to rest n (later (one {b = A}) (now no_byte)) = operands_missing 11 (A ∷ []) (omega arith)
      to rest n (later (one {b = A}) (later (one {b = m}) (now (fewer {bs = es} l)))) = operands_missing 11 (A ∷ m ∷ es) (omega (arith, length-replicate m a_term))
      to rest n (later (one {b = A}) (later (one {b = m}) (later {v = more} (counted {xs = es} e) (answer_no q)))) =
          names_nothing 11 (A ∷ m ∷ es) more (omega (arith, length-replicate m a_term)) (λ h. clash ((list_tested A m es e).1 h) q)
      to rest n (later (one {b = A}) (later (one {b = m}) (later (counted e) (answer_yes q h)))) = absurd h

      few : (rest : List ℕ) → length rest < length (operands 11 rest) → Listed rest 2
      few [] l = now no_byte
      few (A ∷ []) l = later (one {b = A}) (now no_byte)
      few (A ∷ m ∷ es) l = later (one {b = A}) (later (one {b = m}) (now (fewer {bs = es} (omega (arith, length-replicate m a_term)))))

      all_there : (xs more : List ℕ) → length xs ≡ length (operands 11 xs) → ¬ AllName cs N S 11 xs → Listed (xs ++ more) 8
      all_there [] more e h = absurd (omega arith)
      all_there (A ∷ []) more e h = absurd (omega arith)
      all_there (A ∷ m ∷ es) more e h =
          let z : length es ≡ m = omega (arith, length-replicate m a_term) in
          later (one {b = A}) (later (one {b = m}) (later (counted {xs = es} z) (answer_no (untrue (ltb A S && all (λ e. ltb e N) es) (λ t. h ((list_tested A m es z).0 t))))))

      from : (rest : List ℕ) (n : ℕ) → Case cs N S 11 rest n → Listed rest n
      from rest n (case_7 h) = absurd (h (omega arith, omega arith))
      from rest n (case_2 h) = few rest h
      from rest n (case_8 xs more q e h) = rw q (all_there xs more e h)
      from rest n (case_9 A i j more z q a b c h) = absurd (omega arith)

  module _ (up : Rising cs) where
    abbrev test₉ : ℕ → ℕ → Bool
    test₉ i j = ltb i (length cs) && ltb j (length cs) && gapless cs i j

    filled : (i j : ℕ) → (test₉ i j ≡ true) ↔ Filled cs N S i j
    filled i j = (to, λ h. and_i (and_i (lt-ltb i (length cs) h.0) (lt-ltb j (length cs) h.1)) (fills_gapless cs up i j h.0 h.1 h.2))
      where
        to : test₉ i j ≡ true → Filled cs N S i j
        to e =
            let h = and_l (ltb i (length cs) && ltb j (length cs)) (gapless cs i j) e in
            let li : i < length cs = ltb-true i (length cs) (and_l (ltb i (length cs)) (ltb j (length cs)) h) in
            let lj : j < length cs = ltb-true j (length cs) (and_r (ltb i (length cs)) (ltb j (length cs)) h) in
            (li, lj, gapless_fills cs up i j li lj (and_r (ltb i (length cs) && ltb j (length cs)) (gapless cs i j) e))

    abbrev ends : List ℕ → Bool
    ends = test₃ below_sets below_terms below_terms

    abbrev then_9 : List ℕ → Saying
    then_9 xs = Asking 9 (λ _. test₉ (get_or xs 1 0) (get_or xs 2 0)) Never

    interval_stops : Stops (At cs N S 12) (of_interval cs N S)
    interval_stops = same_saying (At cs N S 12) (fixed_at cs N S 12 (omega arith, omega arith) _ (λ _. refl) ends then_9 right) (at_fixed cs N S 12 (omega arith, omega arith) _ (λ _. refl) ends then_9 right)
        (after_stops _ byte_reads byte_stops (λ A. after_stops _ byte_reads byte_stops (λ i. after_stops _ byte_reads byte_stops (λ j. asking_stops 8 _ (λ _ _. asking_stops 9 _ (λ _ _. never_stops _))))))
      where
        goes_on : (xs more : List ℕ) (n : ℕ) → length xs ≡ 3 → ends xs ≡ true → then_9 xs more n → At cs N S 12 (xs ++ more) n
        goes_on (A ∷ i ∷ j ∷ []) more n e q (answer_no f) =
            let h = (tested₃ below_sets below_terms below_terms (A ∷ i ∷ j ∷ []) refl).0 q in
            not_filled A i j more (h 0 (omega arith)) (h 1 (omega arith)) (h 2 (omega arith)) (λ g. clash ((filled i j).1 g) f)
        goes_on (A ∷ i ∷ j ∷ []) more n e q (answer_yes t h) = absurd h
        goes_on [] more n e q h = absurd (omega arith)
        goes_on (A ∷ []) more n e q h = absurd (omega arith)
        goes_on (A ∷ i ∷ []) more n e q h = absurd (omega arith)
        goes_on (A ∷ i ∷ j ∷ x ∷ xs) more n e q h = absurd (omega arith)

        right : Right cs N S 12 (omega arith, omega arith) (aSet ∷ a_term ∷ a_term ∷ []) (λ _. refl) ends then_9
        right = record {
          tested = tested₃ below_sets below_terms below_terms;
          goes_on = goes_on;
          came_from = λ A i j more z a b c h. later (one {b = A}) (later (one {b = i}) (later (one {b = j}) (answer_yes (and_i (and_i (lt-ltb A S a) (lt-ltb i N b)) (lt-ltb j N c)) (answer_no (untrue (test₉ i j) (λ t. h ((filled i j).0 t)))))));
        }

    -- ---- the kinds

    no_kind_stops : (k : ℕ) → ¬ ((1 ≤ k) × (k ≤ 12)) → ((bs : List ℕ) → operands k bs ≡ []) → Stops (At cs N S k) (refuse 7)
    no_kind_stops k h none = record { says = λ rest n e. let z : 7 ≡ n = cc in subst (At cs N S k rest) z (no_kind k rest h); does = λ rest n g. does rest n (case cs N S k rest n g) }
      where
        does : (rest : List ℕ) (n : ℕ) → Case cs N S k rest n → refuse 7 rest ≡ refused n
        does rest n (case_7 g) = refl
        does rest n (case_2 l) = absurd (omega (arith, ap length (none rest)))
        does rest n (case_8 xs more q e g) = absurd (g (λ i l. absurd (omega (arith, ap length (none xs)))))
        does rest n (case_9 A i j more z q a b c g) = absurd (h (omega arith, omega arith))

    -- parsers of kinds k and up
    infixr 5 ◌▸◌
    data Rows : ℕ → List Parser → Type 0 where
      end : {k : ℕ} → Rows k []
      ◌▸◌ : {k : ℕ} {p : Parser} {ps : List Parser} → Stops (At cs N S k) p → Rows (suc k) ps → Rows k (p ∷ ps)

    row : (k : ℕ) (ps : List Parser) → Rows k ps → ((j : ℕ) → k + length ps ≤ j → Stops (At cs N S j) (refuse 7)) → (j : ℕ) → Stops (At cs N S (k + j)) (get_or ps j (refuse 7))
    row k ps end beyond j = beyond (k + j) (omega arith)
    row k ps (◌▸◌ {p = p} h r) beyond zero = let z : k ≡ k + 0 = omega arith in subst (λ (i : ℕ). Stops (At cs N S i) p) z h
    row k ps (◌▸◌ {ps = qs} h r) beyond (suc j) = let z : suc k + j ≡ k + suc j = omega arith in subst (λ (i : ℕ). Stops (At cs N S i) (get_or qs j (refuse 7))) z (row (suc k) qs r (λ i l. beyond i (omega arith)) j)

    module _ (w : ℕ) where
      rows : Rows 0 (kinds cs N S w)
      rows =
          no_kind_stops 0 (λ h. omega (arith, h.0)) (λ _. refl)
          ▸ two_stops below_terms below_sets 1 (omega arith, omega arith) (λ _. refl) _
          ▸ two_stops below_terms below_sets 2 (omega arith, omega arith) (λ _. refl) _
          ▸ two_stops below_terms below_terms 3 (omega arith, omega arith) (λ _. refl) _
          ▸ two_stops below_terms below_terms 4 (omega arith, omega arith) (λ _. refl) _
          ▸ two_stops below_sets below_sets 5 (omega arith, omega arith) (λ _. refl) _
          ▸ two_stops below_sets below_sets 6 (omega arith, omega arith) (λ _. refl) _
          ▸ three_stops 7 (omega arith, omega arith) (λ _. refl) (relation union)
          ▸ two_stops below_sets below_sets 8 (omega arith, omega arith) (λ _. refl) _
          ▸ two_stops below_sets below_sets 9 (omega arith, omega arith) (λ _. refl) _
          ▸ three_stops 10 (omega arith, omega arith) (λ _. refl) (relation intersection)
          ▸ list_stops
          ▸ interval_stops
          ▸ end

      kind_stops : (k : ℕ) → Stops (At cs N S k) (get_or (kinds cs N S w) k (refuse 7))
      kind_stops k = let z : 0 + k ≡ k = omega arith in
          subst (λ (i : ℕ). Stops (At cs N S i) (get_or (kinds cs N S w) k (refuse 7))) z (row 0 (kinds cs N S w) rows (λ j l. no_kind_stops j (λ h. omega (arith, h.1)) (λ bs. get_or-eq_default (operand_table (get_or bs 1 0)) [] l)) k)

    pub constraint_stops : (w : ℕ) → Stops (OfConstraint cs N S) (constraint cs N S w)
    constraint_stops w = same_saying (OfConstraint cs N S) to from (after_stops _ byte_reads byte_stops (kind_stops w))
      where
        to : (bs : List ℕ) (n : ℕ) → After NoByte OneByte (At cs N S) bs n → OfConstraint cs N S bs n
        to bs n (now no_byte) = kind_missing
        to bs n (later (one {b = k}) h) = h

        from : (bs : List ℕ) (n : ℕ) → OfConstraint cs N S bs n → After NoByte OneByte (At cs N S) bs n
        from [] n kind_missing = now no_byte
        from (k ∷ rest) n h = later (one {b = k}) h
