-- The reader refuses with the number of the first question that is answered "no".
use mathlib.Core.Path.{◌≡◌, refl, sym, ◌∙◌, ap, subst}
use mathlib.Core.Logic.{◌↔◌}
use mathlib.Core.Bool.{true, false, ◌&&◌}
use mathlib.Core.List.{List, [], ◌∷◌, ◌++◌, append-nil, append_assoc}
use Prim.Native.Nat.{ℕ, zero, suc, ◌+◌, ◌*◌, ◌<◌, ◌≤◌}
use native.Mathlib.Omega.{arith}
use native.Mathlib.Decide.{dec_le}
use lib.ListN.{length}
use lib.Dec.{leb, eqb, eqb-suc-zero}
use lib.IntN.{ℤ, pos}
use borrow.Author.Tests.{leb-true, leb-false, le-leb, lt-leb}
use Rattle.calculus.specs.Limits.{most_bytes, most_sets, most_constraints, most_terms}
use Rattle.calculus.specs.Lists.{Each, gather}
use Rattle.calculus.specs.Terms.{term}
use Rattle.calculus.specs.Relations.{unequal}
use Rattle.calculus.specs.Meaning.{Constraint, member, nonmember, same, different, relation, negation, exactly, interval}
use Rattle.calculus.specs.Problem.{Rising, Letters, Refers, uses, Tied, Numbered}
use Rattle.calculus.specs.Encoding.{Bytes, two_bytes, encode_constraint, Fits16}
use Rattle.calculus.specs.Reading.{refused, words, ascending, in_range, letters, constraints, read_constraints, read_sets, read_variables, read_constants, read}
use Rattle.calculus.specs.Questions.{too_long, after_length, Missing, no_count, too_few, InRange, OfConstants, constants_missing, no_constants, after_constants, OfVariables, variables_missing, no_variables, after_variables, OfSets, sets_missing, no_sets, after_sets, OfConstraint, witness_count, OfConstraints, count_missing, too_many, in_constraint, left_over, many_terms, FirstNo, Questions}
use Rattle.calculus.proofs.Bools.{and_l, and_r, and_i, clash, each_left}
use Rattle.calculus.proofs.Sequences.{each_at, at_each, none_left}
use Rattle.calculus.proofs.Words.{words_encoded, encoded_words, words_length, words_fit, encoded_length, range_fits16, ascending_rising, rising_ascending, range_is, is_range, letters_are, are_letters}
use Rattle.calculus.proofs.Parsers.{OneByte, one, Counted, counted, byte_reads, bytes_read}
use Rattle.calculus.proofs.ConstraintParsers.{WrittenConstraint, WrittenConstraints, constraint_reads, constraints_read}
use Rattle.calculus.proofs.ReadValid.{read_short, read_long}
use Rattle.calculus.proofs.QuestionsAsked.{Saying, Stops, NoByte, no_byte, Fewer, fewer, Never, Asking, answer_no, answer_yes, After, now, later, byte_stops, bytes_stop, never_stops, asking_stops, same_saying, after_stops}
use Rattle.calculus.proofs.QuestionsOperands.{untrue}
use Rattle.calculus.proofs.QuestionsOfConstraint.{constraint_stops}

-- ---- constraints, one by one

module _ (cs : List ℤ) (N S : ℕ) where
  -- with its witness numbered a constraint is written as it was
  retie : (w : ℕ) (l : Constraint) → Refers cs N S l → (m : Constraint) × (encode_constraint l ≡ encode_constraint m) × Refers cs N S m × Tied w m × (uses m ≡ uses l)
  retie w (member t A) r = (member t A, refl, r, tt, refl)
  retie w (nonmember t A) r = (nonmember t A, refl, r, tt, refl)
  retie w (same t u) r = (same t u, refl, r, tt, refl)
  retie w (different t u) r = (different t u, refl, r, tt, refl)
  retie w (relation k A B C) r = (relation k A B C, refl, r, tt, refl)
  retie w (negation unequal A B C u) r = (negation unequal A B C (term w), refl, r, refl, refl)
  retie w (exactly A es) r = (exactly A es, refl, r, tt, refl)
  retie w (interval A i j es) r = (interval A i j es, refl, r, tt, refl)

  renumber : (w : ℕ) (ls : List Constraint) → Each (Refers cs N S) ls → (ms : List Constraint) × (gather encode_constraint ls ≡ gather encode_constraint ms) × (length ms ≡ length ls) × Each (Refers cs N S) ms × Numbered w (w + witness_count ls) ms
  renumber w [] r = ([], refl, refl, tt, omega arith)
  renumber w (l ∷ ls) r =
      let h = retie w l r.0 in
      let t = renumber (w + uses h.0) ls r.1 in
      let z : w + uses h.0 + witness_count ls ≡ w + (uses l + witness_count ls) = omega (arith, h.4) in
      (h.0 ∷ t.0, rw (h.1, t.1), ap suc t.2, (h.2, t.3), (h.3, subst (λ (x : ℕ). Numbered (w + uses h.0) x t.0) z t.4))

  last_is : (w last : ℕ) (ls : List Constraint) → Numbered w last ls → last ≡ w + witness_count ls
  last_is w last [] e = omega arith
  last_is w last (l ∷ ls) e = omega (arith, last_is (w + uses l) last ls e.1)

  -- in one of m constraints
  data Among (m : ℕ) : List ℕ → ℕ → Type 0 where
    among : (ls : List Constraint) (rest : List ℕ) {n : ℕ} → length ls < m → Each (Refers cs N S) ls → OfConstraint cs N S rest n → Among m (gather encode_constraint ls ++ rest) n

  module _ (up : Rising cs) (known : length cs ≤ N) where
    constraints_stop : (m w : ℕ) → Stops (Among m) (constraints cs N S w m)
    constraints_stop zero w = same_saying (Among 0) (λ bs n h. absurd h) none (never_stops _)
      where
        none : (bs : List ℕ) (n : ℕ) → Among 0 bs n → ⊥
        none bs n (among ls rest l r h) = omega arith
    constraints_stop (suc m) w = same_saying (Among (suc m)) to from (after_stops _ (constraint_reads cs N S up known w) (constraint_stops cs N S up w) (λ l. after_stops _ (constraints_read cs N S up known m (w + uses l)) (constraints_stop m (w + uses l)) (λ a. never_stops _)))
      where
        Sum : List ℕ → ℕ → Type 0
        Sum = After (OfConstraint cs N S) (WrittenConstraint cs N S up known w) (λ l. After (Among m) (WrittenConstraints cs N S (w + uses l) m) (λ a. Never))

        to : (bs : List ℕ) (n : ℕ) → Sum bs n → Among (suc m) bs n
        to bs n (now h) = among [] bs (omega arith) tt h
        to bs n (later {a = l} {u = u} w (now (among ls rest {n = k} i r h))) =
            subst (λ (z : List ℕ). Among (suc m) z k) (append_assoc (encode_constraint l) (gather encode_constraint ls) rest ∙ ap (λ (z : List ℕ). z ++ (gather encode_constraint ls ++ rest)) (sym w.0))
            (among (l ∷ ls) rest (omega arith) (w.1, r) h)
        to bs n (later w (later g h)) = absurd h

        from : (bs : List ℕ) (n : ℕ) → Among (suc m) bs n → Sum bs n
        from bs n (among [] rest i r h) = now h
        from bs n (among (l ∷ ls) rest {n = k} i r h) =
            let t = retie w l r.0 in
            subst (λ (z : List ℕ). Sum z k) (ap (λ (z : List ℕ). z ++ (gather encode_constraint ls ++ rest)) (sym t.1) ∙ sym (append_assoc (encode_constraint l) (gather encode_constraint ls) rest))
            (later {a = t.0} {u = encode_constraint t.0} (refl, t.2, t.3) (now (among ls rest (omega arith) r.1 h)))

-- ---- the sections: what is asked from each on

abbrev FromSets : List ℤ → List ℕ → Saying
FromSets cs ns = OfSets (λ ss. OfConstraints cs ns ss)

abbrev FromVariables : List ℤ → Saying
FromVariables cs = OfVariables (λ ns. FromSets cs ns)

abbrev FromConstants : Saying
FromConstants = OfConstants (λ cs. FromVariables cs)

nonempty : (bs : List ℕ) → eqb (length bs) 0 ≡ false → 0 < length bs
nonempty [] e = clash refl e
nonempty (x ∷ bs) e = omega arith

full : (bs : List ℕ) → 0 < length bs → eqb (length bs) 0 ≡ false
full [] l = absurd (omega arith)
full (x ∷ bs) l = eqb-suc-zero (length bs)

module _ (cs : List ℤ) (up : Rising cs) (ns : List ℕ) where
  abbrev N : ℕ
  N = length cs + length ns

  module _ (ss : List ℕ) where
    -- after the constraints
    abbrev Ending : ℕ → Saying
    Ending w = Asking 10 (λ r. eqb (length r) 0) (Asking 11 (λ _. leb w most_terms) Never)

    abbrev Fourth : Saying
    Fourth = After NoByte OneByte (λ m. Asking 6 (λ _. leb m most_constraints) (After (Among cs N (length ss) m) (WrittenConstraints cs N (length ss) N m) (λ a. Ending a.1)))

    fourth : Stops (OfConstraints cs ns ss) (read_constraints cs ns ss)
    unfolding read_constraints
    fourth = same_saying (OfConstraints cs ns ss) to from
        (after_stops _ byte_reads byte_stops (λ m. asking_stops 6 _ (λ _ _. after_stops _ (constraints_read cs N (length ss) up (omega arith) m N) (constraints_stop cs N (length ss) up (omega arith) m N) (λ a. asking_stops 10 _ (λ _ _. asking_stops 11 _ (λ _ _. never_stops _))))))
      where
        over : (m : ℕ) (a : List Constraint × ℕ) (u v : List ℕ) → leb m most_constraints ≡ true → WrittenConstraints cs N (length ss) N m a u → 0 < length v → OfConstraints cs ns ss (m ∷ (u ++ v)) 10
        over m a u v t w l = rw (← w.0, w.1) (left_over a.0 v (omega (arith, leb-true m most_constraints t, w.0)) w.2 l)

        many : (m : ℕ) (a : List Constraint × ℕ) (u v : List ℕ) → leb m most_constraints ≡ true → WrittenConstraints cs N (length ss) N m a u → v ≡ [] → leb a.1 most_terms ≡ false → OfConstraints cs ns ss (m ∷ (u ++ v)) 11
        many m a u v t w e f = rw (e, append-nil u, ← w.0, w.1) (many_terms a.0 (omega (arith, leb-true m most_constraints t, w.0)) w.2 (omega (arith, leb-false a.1 most_terms f, last_is cs N (length ss) N a.1 a.0 w.3)))

        to : (bs : List ℕ) (n : ℕ) → Fourth bs n → OfConstraints cs ns ss bs n
        to bs n (now no_byte) = count_missing
        to bs n (later {v = v} (one {b = m}) (answer_no t)) = too_many m v (leb-false m most_constraints t)
        to bs n (later (one {b = m}) (answer_yes t (now (among ls rest {n = k} l r h)))) = in_constraint m k ls rest (leb-true m most_constraints t) l r h
        to bs n (later (one {b = m}) (answer_yes t (later {a = a} {u = u} {v = v} w (answer_no e)))) = over m a u v t w (nonempty v e)
        to bs n (later (one {b = m}) (answer_yes t (later {a = a} {u = u} {v = v} w (answer_yes e (answer_no f))))) = many m a u v t w (none_left v e) f
        to bs n (later (one {b = m}) (answer_yes t (later w (answer_yes e (answer_yes f h))))) = absurd h

        -- the constraints, and what is said after them
        after : (ls : List Constraint) (rest : List ℕ) (n : ℕ) → length ls ≤ most_constraints → Each (Refers cs N (length ss)) ls → Ending (N + witness_count ls) rest n → Fourth (length ls ∷ (gather encode_constraint ls ++ rest)) n
        after ls rest n l r h =
            let t = renumber cs N (length ss) N ls r in
            rw t.1 (later (one {b = length ls}) (answer_yes (le-leb (length ls) most_constraints l) (later {a = (t.0, N + witness_count ls)} {u = gather encode_constraint t.0} (t.2, refl, t.3, t.4) h)))

        from : (bs : List ℕ) (n : ℕ) → OfConstraints cs ns ss bs n → Fourth bs n
        from bs n count_missing = now no_byte
        from bs n (too_many m rest l) = later (one {b = m}) (answer_no (lt-leb m most_constraints l))
        from bs n (in_constraint m k ls rest l i r h) = later (one {b = m}) (answer_yes (le-leb m most_constraints l) (now (among ls rest i r h)))
        from bs n (left_over ls rest l r h) = after ls rest 10 l r (answer_no (full rest h))
        from bs n (many_terms ls l r h) = subst (λ (z : List ℕ). Fourth (length ls ∷ z) 11) (append-nil (gather encode_constraint ls)) (after ls [] 11 l r (answer_yes refl (answer_no (lt-leb (N + witness_count ls) most_terms h))))

  abbrev Third : Saying
  Third = After NoByte OneByte (λ s. After (Fewer s) (Counted s) (λ ss. Asking 5 (λ _. letters 65 90 ss && leb s most_sets) (OfConstraints cs ns ss)))

  third : Stops (FromSets cs ns) (read_sets cs ns)
  unfolding read_sets
  third = same_saying (FromSets cs ns) to from (after_stops _ byte_reads byte_stops (λ s. after_stops _ (bytes_read s) (bytes_stop s) (λ ss. asking_stops 5 _ (λ _ _. fourth ss))))
    where
      capitals : (ss : List ℕ) (s : ℕ) → length ss ≡ s → ((letters 65 90 ss && leb s most_sets) ≡ true) ↔ (Letters 65 90 ss × (length ss ≤ most_sets))
      capitals ss s e = (λ t. (letters_are 65 90 ss (and_l (letters 65 90 ss) (leb s most_sets) t), omega (arith, leb-true s most_sets (and_r (letters 65 90 ss) (leb s most_sets) t))), λ h. and_i (are_letters 65 90 ss h.0) (le-leb s most_sets (omega (arith, h.1))))

      to : (bs : List ℕ) (n : ℕ) → Third bs n → FromSets cs ns bs n
      to bs n (now no_byte) = sets_missing [] no_count
      to bs n (later {v = v} (one {b = s}) (now (fewer l))) = sets_missing (s ∷ v) (too_few s v (omega arith))
      to bs n (later (one {b = s}) (later {v = v} (counted {xs = ss} e) (answer_no t))) = rw (← e) (no_sets ss v (λ h. clash ((capitals ss s e).1 h) t))
      to bs n (later (one {b = s}) (later {v = v} (counted {xs = ss} e) (answer_yes {n = k} t h))) = let c = (capitals ss s e).0 t in rw (← e) (after_sets ss v k c.0 c.1 h)

      few : (bs : List ℕ) → Missing 1 bs → Third bs 2
      few bs no_count = now no_byte
      few bs (too_few s rest l) = later (one {b = s}) (now (fewer {bs = rest} (omega arith)))

      from : (bs : List ℕ) (n : ℕ) → FromSets cs ns bs n → Third bs n
      from bs n (sets_missing xs m) = few xs m
      from bs n (no_sets ss rest h) = later (one {b = length ss}) (later (counted {xs = ss} refl) (answer_no (untrue (letters 65 90 ss && leb (length ss) most_sets) (λ t. h ((capitals ss (length ss) refl).0 t)))))
      from bs n (after_sets ss rest k a b h) = later (one {b = length ss}) (later (counted {xs = ss} refl) (answer_yes ((capitals ss (length ss) refl).1 (a, b)) h))

abbrev Second : List ℤ → Saying
Second cs = After NoByte OneByte (λ n. After (Fewer n) (Counted n) (λ ns. Asking 4 (λ _. letters 97 122 ns) (FromSets cs ns)))

second : (cs : List ℤ) → Rising cs → Stops (FromVariables cs) (read_variables cs)
unfolding read_variables
second cs up = same_saying (FromVariables cs) to from (after_stops _ byte_reads byte_stops (λ n. after_stops _ (bytes_read n) (bytes_stop n) (λ ns. asking_stops 4 _ (λ _ _. third cs up ns))))
  where
    to : (bs : List ℕ) (n : ℕ) → Second cs bs n → FromVariables cs bs n
    to bs n (now no_byte) = variables_missing [] no_count
    to bs n (later {v = v} (one {b = m}) (now (fewer l))) = variables_missing (m ∷ v) (too_few m v (omega arith))
    to bs n (later (one {b = m}) (later {v = v} (counted {xs = ns} e) (answer_no t))) = rw (← e) (no_variables ns v (λ h. clash (are_letters 97 122 ns h) t))
    to bs n (later (one {b = m}) (later {v = v} (counted {xs = ns} e) (answer_yes {n = k} t h))) = rw (← e) (after_variables ns v k (letters_are 97 122 ns t) h)

    few : (bs : List ℕ) → Missing 1 bs → Second cs bs 2
    few bs no_count = now no_byte
    few bs (too_few m rest l) = later (one {b = m}) (now (fewer {bs = rest} (omega arith)))

    from : (bs : List ℕ) (n : ℕ) → FromVariables cs bs n → Second cs bs n
    from bs n (variables_missing xs m) = few xs m
    from bs n (no_variables ns rest h) = later (one {b = length ns}) (later (counted {xs = ns} refl) (answer_no (untrue (letters 97 122 ns) (λ t. h (letters_are 97 122 ns t)))))
    from bs n (after_variables ns rest k a h) = later (one {b = length ns}) (later (counted {xs = ns} refl) (answer_yes (are_letters 97 122 ns a) h))

abbrev First : Saying
First = After NoByte OneByte (λ k. After (Fewer (2 * k)) (Counted (2 * k)) (λ ws. Asking 3 (λ _. ascending (words ws) && in_range (words ws)) (FromVariables (words ws))))

first : Stops First read_constants
unfolding read_constants
first = after_stops _ byte_reads byte_stops (λ k. after_stops _ (bytes_read (2 * k)) (bytes_stop (2 * k)) (λ ws. asking_stops 3 _ (λ _ t. second (words ws) (ascending_rising (words ws) (and_l _ _ t)))))

in_order : (cs : List ℤ) → ((ascending cs && in_range cs) ≡ true) ↔ (Rising cs × Each InRange cs)
in_order cs = (λ t. (ascending_rising cs (and_l (ascending cs) (in_range cs) t), at_each InRange cs (pos 0) (range_is cs (and_r (ascending cs) (in_range cs) t))), λ h. and_i (rising_ascending cs h.0) (is_range cs (each_at InRange cs (pos 0) h.1)))

first_says : (bs : List ℕ) (n : ℕ) → Bytes bs → First bs n → FromConstants bs n
first_says bs n small (now no_byte) = constants_missing [] no_count
first_says bs n small (later {v = v} (one {b = k}) (now (fewer l))) = constants_missing (k ∷ v) (too_few k v l)
first_says bs n small (later (one {b = k}) (later {v = v} (counted {xs = ws} e) (answer_no t))) =
    let b : Bytes ws = each_left (λ x. x < 256) ws v small.1 in
    let q : length (words ws) ∷ (gather two_bytes (words ws) ++ v) ≡ k ∷ (ws ++ v) = rw (words_length k ws e, encoded_words k ws b e) in
    subst (λ (z : List ℕ). FromConstants z 3) q (no_constants (words ws) v (words_fit ws b) (λ h. clash ((in_order (words ws)).1 h) t))
first_says bs n small (later (one {b = k}) (later {v = v} (counted {xs = ws} e) (answer_yes {n = m} t h))) =
    let b : Bytes ws = each_left (λ x. x < 256) ws v small.1 in
    let q : length (words ws) ∷ (gather two_bytes (words ws) ++ v) ≡ k ∷ (ws ++ v) = rw (words_length k ws e, encoded_words k ws b e) in
    let c = (in_order (words ws)).0 t in
    subst (λ (z : List ℕ). FromConstants z m) q (after_constants (words ws) v m c.0 c.1 h)

first_of : (cs : List ℤ) (rest : List ℕ) (n : ℕ) → Each Fits16 cs → Asking 3 (λ _. ascending cs && in_range cs) (FromVariables cs) rest n → First (length cs ∷ (gather two_bytes cs ++ rest)) n
first_of cs rest n f h =
    let q : Asking 3 (λ _. ascending (words (gather two_bytes cs)) && in_range (words (gather two_bytes cs))) (FromVariables (words (gather two_bytes cs))) rest n = rw (words_encoded cs f) h in
    later (one {b = length cs}) (later (counted {xs = gather two_bytes cs} (encoded_length cs)) q)

said_first : (bs : List ℕ) (n : ℕ) → FromConstants bs n → First bs n
said_first bs n (constants_missing xs m) = few xs m
  where
    few : (bs : List ℕ) → Missing 2 bs → First bs 2
    few bs no_count = now no_byte
    few bs (too_few k rest l) = later (one {b = k}) (now (fewer l))
said_first bs n (no_constants cs rest f h) = first_of cs rest 3 f (answer_no (untrue (ascending cs && in_range cs) (λ t. h ((in_order cs).0 t))))
said_first bs n (after_constants cs rest m a b h) = first_of cs rest m (range_fits16 cs (each_at InRange cs (pos 0) b)) (answer_yes ((in_order cs).1 (a, b)) h)

pub questions : Questions
questions bs small n = (λ e. to e (dec_le (length bs) most_bytes), from n)
  where
    to : read bs ≡ refused n → Dec (length bs ≤ most_bytes) → FirstNo bs n
    to e (yes l) = after_length bs n l (first_says bs n small (first.says bs n (sym (read_short bs l) ∙ e)))
    to e (no l) = let r = sym (read_long bs (omega arith)) ∙ e in let z : 1 ≡ n = cc in subst (FirstNo bs) z (too_long bs (omega arith))

    from : (n : ℕ) → FirstNo bs n → read bs ≡ refused n
    from n (too_long xs l) = read_long xs l
    from n (after_length xs k l h) = read_short xs l ∙ first.does xs k (said_first xs k h)
