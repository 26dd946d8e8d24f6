-- The parsers of constraints recognize what `encodeConstraint` writes of constraints that refer to what there is.
use mathlib.Core.Path.{◌≡◌, refl, sym, ◌∙◌, ap, subst}
use mathlib.Core.Bool.{true, ◌&&◌}
use mathlib.Core.List.{List, [], ◌∷◌, ◌++◌, map, append-nil}
use Prim.Native.Nat.{ℕ, zero, suc, ◌+◌, ◌<◌, ◌≤◌}
use native.Mathlib.Omega.{arith}
use lib.ListN.{length, get_or, length-map}
use lib.Dec.{ltb}
use lib.IntN.{ℤ}
use borrow.Author.Tests.{ltb-true, lt-ltb}
use Rattle.calculus.specs.Lists.{all, Each, gather}
use Rattle.calculus.specs.Terms.{Term, SetVar, term, set_var}
use Rattle.calculus.specs.Relations.{Relation, equal, union, disjoint, subset, intersection, unequal}
use Rattle.calculus.specs.Meaning.{Constraint, member, nonmember, same, different, relation, negation, exactly, interval}
use Rattle.calculus.specs.Problem.{Rising, entries, Refers, uses, Tied, Numbered}
use Rattle.calculus.specs.Encoding.{encode_constraint}
use Rattle.calculus.specs.Reading.{parsed, gapless, Parser, refuse, two, three, of_list, of_interval, kinds, constraint, constraints}
use Rattle.calculus.proofs.Bools.{and_l, and_r, and_i, each_all, all_each, each_imp, each_map}
use Rattle.calculus.proofs.Gapless.{gapless_fills, fills_gapless}
use Rattle.calculus.proofs.Parsers.{Recognizes, pair, OneByte, one, Counted, counted, Given, given, Asked, answered, Then, then, no_answer, byte_reads, bytes_read, gives, asks, same_writing, and_then, at_given}
use Rattle.calculus.proofs.Sequences.{index_term, term_index}

-- how the bytes after the kind say the constraint
abbrev Form : Type 1
Form = Constraint → List ℕ → Type 0

module _ (cs : List ℤ) (N S : ℕ) where
  abbrev Two : ℕ → ℕ → (ℕ → ℕ → Constraint) → Form
  Two p q make = Then OneByte (λ x. Then OneByte (λ y. Asked (ltb x p && ltb y q) (Given (make x y))))

  two_reads : (p q : ℕ) (make : ℕ → ℕ → Constraint) → Recognizes pair (Two p q make) (two cs N S p q make)
  two_reads p q make = and_then _ byte_reads (λ x. and_then _ byte_reads (λ y. asks 8 _ (omega arith, omega arith) (λ _. gives (make x y))))

  abbrev Three : (SetVar → SetVar → SetVar → Constraint) → Form
  Three make = Then OneByte (λ x. Then OneByte (λ y. Then OneByte (λ z. Asked (ltb x S && ltb y S && ltb z S) (Given (make (set_var x) (set_var y) (set_var z))))))

  three_reads : (make : SetVar → SetVar → SetVar → Constraint) → Recognizes pair (Three make) (three cs N S make)
  three_reads make = and_then _ byte_reads (λ x. and_then _ byte_reads (λ y. and_then _ byte_reads (λ z. asks 8 _ (omega arith, omega arith) (λ _. gives _))))

  abbrev Listed : Form
  Listed = Then OneByte (λ A. Then OneByte (λ n. Then (Counted n) (λ es. Asked (ltb A S && all (λ e. ltb e N) es) (Given (exactly (set_var A) (map term es))))))

  list_reads : Recognizes pair Listed (of_list cs N S)
  list_reads = and_then _ byte_reads (λ A. and_then _ byte_reads (λ n. and_then _ (bytes_read n) (λ es. asks 8 _ (omega arith, omega arith) (λ _. gives _))))

  abbrev Spanned : Form
  Spanned = Then OneByte (λ A. Then OneByte (λ i. Then OneByte (λ j. Asked (ltb A S && ltb i N && ltb j N) (Asked (ltb i (length cs) && ltb j (length cs) && gapless cs i j) (Given (interval (set_var A) (term i) (term j) (entries (term i) (term j))))))))

  interval_reads : Recognizes pair Spanned (of_interval cs N S)
  interval_reads = and_then _ byte_reads (λ A. and_then _ byte_reads (λ i. and_then _ byte_reads (λ j. asks 8 _ (omega arith, omega arith) (λ _. asks 9 _ (omega arith, omega arith) (λ _. gives _)))))

-- ---- the kinds

abbrev Never : Form
Never l v = ⊥

module _ (cs : List ℤ) (N S : ℕ) (up : Rising cs) (known : length cs ≤ N) (w : ℕ) where
  -- constraint l is written as kind k and then v, and refers to what there is
  abbrev At : ℕ → Form
  At k l v = (encode_constraint l ≡ k ∷ v) × Refers cs N S l × Tied w l

  -- parser p recognizes what F says, which is of kind k
  abbrev Kind : ℕ → Form → Parser → Type 0
  Kind k F p = Recognizes pair F p × ((l : Constraint) (v : List ℕ) → F l v → At k l v)

  two_kind : (k p q : ℕ) (make : ℕ → ℕ → Constraint) → ((x y : ℕ) → x < p → y < q → At k (make x y) (x ∷ y ∷ [])) → Kind k (Two cs N S p q make) (two cs N S p q make)
  two_kind k p q make f = (two_reads cs N S p q make, is)
    where
      is : (l : Constraint) (v : List ℕ) → Two cs N S p q make l v → At k l v
      is l v (then (one {b = x}) (then (one {b = y}) (answered e w))) = at_given (λ c u. At k c (x ∷ y ∷ u)) w (f x y (ltb-true x p (and_l (ltb x p) (ltb y q) e)) (ltb-true y q (and_r (ltb x p) (ltb y q) e)))

  three_kind : (k : ℕ) (make : SetVar → SetVar → SetVar → Constraint) → ((A B C : SetVar) → A.index < S → B.index < S → C.index < S → At k (make A B C) (A.index ∷ B.index ∷ C.index ∷ [])) → Kind k (Three cs N S make) (three cs N S make)
  three_kind k make f = (three_reads cs N S make, is)
    where
      is : (l : Constraint) (v : List ℕ) → Three cs N S make l v → At k l v
      is l v (then (one {b = x}) (then (one {b = y}) (then (one {b = z}) (answered e w)))) =
          let h = and_l (ltb x S && ltb y S) (ltb z S) e in
          at_given (λ c u. At k c (x ∷ y ∷ z ∷ u)) w (f (set_var x) (set_var y) (set_var z) (ltb-true x S (and_l (ltb x S) (ltb y S) h)) (ltb-true y S (and_r (ltb x S) (ltb y S) h)) (ltb-true z S (and_r (ltb x S && ltb y S) (ltb z S) e)))

  list_kind : Kind 11 (Listed cs N S) (of_list cs N S)
  list_kind = (list_reads cs N S, is)
    where
      is : (l : Constraint) (v : List ℕ) → Listed cs N S l v → At 11 l v
      is l v (then (one {b = A}) (then (one {b = n}) (then (counted {xs = xs} c) (answered e given)))) =
          (rw (length-map xs term, c, index_term xs, append-nil xs), (ltb-true A S (and_l (ltb A S) (all (λ e. ltb e N) xs) e), each_map (λ (t : Term). t.index < N) term xs (each_imp (λ x. ltb x N ≡ true) (λ x. x < N) xs (λ x q. ltb-true x N q) (each_all (λ e. ltb e N) xs (and_r (ltb A S) (all (λ e. ltb e N) xs) e)))), tt)

  interval_kind : Kind 12 (Spanned cs N S) (of_interval cs N S)
  interval_kind = (interval_reads cs N S, is)
    where
      is : (l : Constraint) (v : List ℕ) → Spanned cs N S l v → At 12 l v
      is l v (then (one {b = A}) (then (one {b = i}) (then (one {b = j}) (answered e (answered g given))))) =
          let h = and_l (ltb i (length cs) && ltb j (length cs)) (gapless cs i j) g in
          let li : i < length cs = ltb-true i (length cs) (and_l (ltb i (length cs)) (ltb j (length cs)) h) in
          let lj : j < length cs = ltb-true j (length cs) (and_r (ltb i (length cs)) (ltb j (length cs)) h) in
          (refl, (ltb-true A S (and_l (ltb A S) (ltb i N) (and_l (ltb A S && ltb i N) (ltb j N) e)), li, lj, gapless_fills cs up i j li lj (and_r (ltb i (length cs) && ltb j (length cs)) (gapless cs i j) g), refl), tt)

  no_kind : (k : ℕ) → Kind k Never (refuse 7)
  no_kind k = (record { reads = λ l u rest n. absurd n; wrote = λ bs c e. no_answer e; cut = λ l u j n. absurd n; numbers = λ bs n e. let z : 7 ≡ n = cc in (omega arith, omega arith) }, λ l v n. absurd n)

  abbrev term_set : (Term → SetVar → Constraint) → ℕ → ℕ → Constraint
  term_set make x y = make (term x) (set_var y)

  abbrev terms : (Term → Term → Constraint) → ℕ → ℕ → Constraint
  terms make x y = make (term x) (term y)

  abbrev repeat : Relation → ℕ → ℕ → Constraint
  repeat k x y = relation k (set_var x) (set_var y) (set_var x)

  abbrev denial : ℕ → ℕ → Constraint
  denial x y = negation unequal (set_var x) (set_var y) (set_var x) (term w)

  abbrev forms : List Form
  forms =
      Never
      ∷ Two cs N S N S (term_set member)
      ∷ Two cs N S N S (term_set nonmember)
      ∷ Two cs N S N N (terms same)
      ∷ Two cs N S N N (terms different)
      ∷ Two cs N S S S (repeat equal)
      ∷ Two cs N S S S denial
      ∷ Three cs N S (relation union)
      ∷ Two cs N S S S (repeat disjoint)
      ∷ Two cs N S S S (repeat subset)
      ∷ Three cs N S (relation intersection)
      ∷ Listed cs N S
      ∷ Spanned cs N S
      ∷ []

  -- the forms and the parsers, side by side, from kind k up
  infixr 5 ◌▸◌
  data Table : ℕ → List Form → List Parser → Type 1 where
    end : {k : ℕ} → Table k [] []
    ◌▸◌ : {k : ℕ} {F : Form} {p : Parser} {Fs : List Form} {ps : List Parser} → Kind k F p → Table (suc k) Fs ps → Table k (F ∷ Fs) (p ∷ ps)

  table : Table 0 forms (kinds cs N S w)
  table =
      no_kind 0
      ▸ two_kind 1 N S (term_set member) (λ x y p q. (refl, (p, q), tt))
      ▸ two_kind 2 N S (term_set nonmember) (λ x y p q. (refl, (p, q), tt))
      ▸ two_kind 3 N N (terms same) (λ x y p q. (refl, (p, q), tt))
      ▸ two_kind 4 N N (terms different) (λ x y p q. (refl, (p, q), tt))
      ▸ two_kind 5 S S (repeat equal) (λ x y p q. (refl, (p, q, p, refl), tt))
      ▸ two_kind 6 S S denial (λ x y p q. (refl, (p, q, refl), refl))
      ▸ three_kind 7 (relation union) (λ A B C p q r. (refl, (p, q, r, tt), tt))
      ▸ two_kind 8 S S (repeat disjoint) (λ x y p q. (refl, (p, q, p, refl), tt))
      ▸ two_kind 9 S S (repeat subset) (λ x y p q. (refl, (p, q, p, refl), tt))
      ▸ three_kind 10 (relation intersection) (λ A B C p q r. (refl, (p, q, r, tt), tt))
      ▸ list_kind
      ▸ interval_kind
      ▸ end

  table_at : (k : ℕ) (Fs : List Form) (ps : List Parser) → Table k Fs ps → (j : ℕ) → Kind (k + j) (get_or Fs j Never) (get_or ps j (refuse 7))
  table_at k Fs ps end j = no_kind (k + j)
  table_at k Fs ps (◌▸◌ {F = F} {p = p} h t) zero = let z : k ≡ k + 0 = omega arith in subst (λ (n : ℕ). Kind n F p) z h
  table_at k Fs ps (◌▸◌ {Fs = Gs} {ps = qs} h t) (suc j) = let z : suc k + j ≡ k + suc j = omega arith in subst (λ (n : ℕ). Kind n (get_or Gs j Never) (get_or qs j (refuse 7))) z (table_at (suc k) Gs qs t j)

  kind_at : (j : ℕ) → Kind j (get_or forms j Never) (get_or (kinds cs N S w) j (refuse 7))
  kind_at j = let z : 0 + j ≡ j = omega arith in subst (λ (n : ℕ). Kind n (get_or forms j Never) (get_or (kinds cs N S w) j (refuse 7))) z (table_at 0 forms (kinds cs N S w) table j)

  -- ---- from a constraint to its form

  two_of : (p q : ℕ) (make : ℕ → ℕ → Constraint) (x y : ℕ) → x < p → y < q → Two cs N S p q make (make x y) (x ∷ y ∷ [])
  two_of p q make x y l h = then (one {b = x}) (then (one {b = y}) (answered (and_i (lt-ltb x p l) (lt-ltb y q h)) given))

  three_of : (make : SetVar → SetVar → SetVar → Constraint) (A B C : SetVar) → A.index < S → B.index < S → C.index < S → Three cs N S make (make A B C) (A.index ∷ B.index ∷ C.index ∷ [])
  three_of make A B C a b c = then (one {b = A.index}) (then (one {b = B.index}) (then (one {b = C.index}) (answered (and_i (and_i (lt-ltb A.index S a) (lt-ltb B.index S b)) (lt-ltb C.index S c)) given)))

  abbrev Formed : Constraint → Type 0
  Formed l = (k : ℕ) × (v : List ℕ) × (encode_constraint l ≡ k ∷ v) × get_or forms k Never l v

  formed : (l : Constraint) → Refers cs N S l → Tied w l → Formed l
  formed (member t A) r q = (1, t.index ∷ A.index ∷ [], refl, two_of N S (term_set member) t.index A.index r.0 r.1)
  formed (nonmember t A) r q = (2, t.index ∷ A.index ∷ [], refl, two_of N S (term_set nonmember) t.index A.index r.0 r.1)
  formed (same t u) r q = (3, t.index ∷ u.index ∷ [], refl, two_of N N (terms same) t.index u.index r.0 r.1)
  formed (different t u) r q = (4, t.index ∷ u.index ∷ [], refl, two_of N N (terms different) t.index u.index r.0 r.1)
  formed (relation equal A B C) r q = subst (λ (D : SetVar). Formed (relation equal A B D)) (sym r.3) (5, A.index ∷ B.index ∷ [], refl, two_of S S (repeat equal) A.index B.index r.0 r.1)
  formed (relation union A B C) r q = (7, A.index ∷ B.index ∷ C.index ∷ [], refl, three_of (relation union) A B C r.0 r.1 r.2)
  formed (relation disjoint A B C) r q = subst (λ (D : SetVar). Formed (relation disjoint A B D)) (sym r.3) (8, A.index ∷ B.index ∷ [], refl, two_of S S (repeat disjoint) A.index B.index r.0 r.1)
  formed (relation subset A B C) r q = subst (λ (D : SetVar). Formed (relation subset A B D)) (sym r.3) (9, A.index ∷ B.index ∷ [], refl, two_of S S (repeat subset) A.index B.index r.0 r.1)
  formed (relation intersection A B C) r q = (10, A.index ∷ B.index ∷ C.index ∷ [], refl, three_of (relation intersection) A B C r.0 r.1 r.2)
  formed (negation unequal A B C u) r q = subst (λ (D : SetVar). Formed (negation unequal A B D u)) (sym r.2)
      (subst (λ (n : ℕ). Formed (negation unequal A B A (term n))) (sym q) (6, A.index ∷ B.index ∷ [], refl, two_of S S denial A.index B.index r.0 r.1))
  formed (exactly A es) r q =
      let xs : List ℕ = map (λ (e : Term). e.index) es in
      let t : all (λ e. ltb e N) xs ≡ true = all_each (λ e. ltb e N) xs (each_map (λ x. ltb x N ≡ true) (λ (e : Term). e.index) es (each_imp (λ (e : Term). e.index < N) (λ (e : Term). ltb e.index N ≡ true) es (λ e l. lt-ltb e.index N l) r.1)) in (
        11,
        A.index ∷ length es ∷ (xs ++ []),
        rw (append-nil xs),
        subst (λ (l : List Term). Listed cs N S (exactly A l) (A.index ∷ length es ∷ (xs ++ []))) (term_index es)
            (then (one {b = A.index}) (then (one {b = length es}) (then (counted {xs = xs} (length-map es (λ (e : Term). e.index))) (answered (and_i (lt-ltb A.index S r.0) t) given)))),
      )
  formed (interval A i j es) r q = subst (λ (l : List Term). Formed (interval A i j l)) (sym r.4) (
    12,
    A.index ∷ i.index ∷ j.index ∷ [],
    refl,
    then (one {b = A.index}) (then (one {b = i.index}) (then (one {b = j.index})
        (answered (and_i (and_i (lt-ltb A.index S r.0) (lt-ltb i.index N (omega (arith, r.1)))) (lt-ltb j.index N (omega (arith, r.2))))
        (answered (and_i (and_i (lt-ltb i.index (length cs) r.1) (lt-ltb j.index (length cs) r.2)) (fills_gapless cs up i.index j.index r.1 r.2 r.3)) given)))),
  )

  -- ---- a constraint

  -- l as it is written
  abbrev pub WrittenConstraint : Form
  WrittenConstraint l u = (u ≡ encode_constraint l) × Refers cs N S l × Tied w l

  pub constraint_reads : Recognizes pair WrittenConstraint (constraint cs N S w)
  constraint_reads = same_writing WrittenConstraint to from (and_then _ byte_reads (λ k. (kind_at k).0))
    where
      to : (l : Constraint) (u : List ℕ) → Then OneByte (λ k. get_or forms k Never) l u → WrittenConstraint l u
      to l u (then {v = v} (one {b = k}) f) = let r = (kind_at k).1 l v f in (sym r.0, r.1, r.2)

      from : (l : Constraint) (u : List ℕ) → WrittenConstraint l u → Then OneByte (λ k. get_or forms k Never) l u
      from l u h = let r = formed l h.1 h.2 in subst (λ (z : List ℕ). Then OneByte (λ k. get_or forms k Never) l z) (sym (h.0 ∙ r.2)) (then (one {b = r.0}) r.3)

-- ---- constraints, one by one

module _ (cs : List ℤ) (N S : ℕ) where
  -- n constraints as they are written, with witnesses from w up
  abbrev pub WrittenConstraints : ℕ → ℕ → List Constraint × ℕ → List ℕ → Type 0
  WrittenConstraints w n a u = (length a.0 ≡ n) × (u ≡ gather encode_constraint a.0) × Each (Refers cs N S) a.0 × Numbered w a.1 a.0

  module _ (up : Rising cs) (known : length cs ≤ N) where
    pub constraints_read : (n w : ℕ) → Recognizes (λ (a : List Constraint × ℕ) r. parsed (a.0, a.1, r)) (WrittenConstraints w n) (constraints cs N S w n)
    constraints_read zero w = same_writing (WrittenConstraints w 0) to (λ a u h. from a.0 a.1 u h) (gives ([], w))
      where
        to : (a : List Constraint × ℕ) (u : List ℕ) → Given {A = List Constraint × ℕ} ([], w) a u → WrittenConstraints w 0 a u
        to a u given = (refl, refl, tt, refl)

        from : (ls : List Constraint) (w' : ℕ) (u : List ℕ) → WrittenConstraints w 0 (ls, w') u → Given {A = List Constraint × ℕ} ([], w) (ls, w') u
        from [] w' u h = rw (h.1, ← h.3) given
        from (l ∷ ls) w' u h = absurd (omega (arith, h.0))
    constraints_read (suc n) w = same_writing (WrittenConstraints w (suc n)) to (λ a u h. from a.0 a.1 u h) (and_then _ (constraint_reads cs N S up known w) (λ l. and_then _ (constraints_read n (w + uses l)) (λ a. gives (l ∷ a.0, a.1))))
      where
        Sum : List Constraint × ℕ → List ℕ → Type 0
        Sum = Then (WrittenConstraint cs N S up known w) (λ l. Then (WrittenConstraints (w + uses l) n) (λ a. Given {A = List Constraint × ℕ} (l ∷ a.0, a.1)))

        to : (a : List Constraint × ℕ) (u : List ℕ) → Sum a u → WrittenConstraints w (suc n) a u
        to a u (then {a = l} {u = x} h (then {a = b} {u = y} g given)) = (ap suc g.0, rw (h.0, append-nil y, g.1), (h.1, g.2), (h.2, g.3))

        from : (ls : List Constraint) (w' : ℕ) (u : List ℕ) → WrittenConstraints w (suc n) (ls, w') u → Sum (ls, w') u
        from [] w' u h = absurd (omega (arith, h.0))
        from (l ∷ ls) w' u h = rw (h.1, ← append-nil (gather encode_constraint ls))
            (then {a = l} (refl, h.2.0, h.3.0) (then {a = (ls, w')} {u = gather encode_constraint ls} (omega (arith, h.0), refl, h.2.1, h.3.1) given))
