-- The laws of a constraint that is decoded, and of its entries. Assumes nothing.
use mathlib.Core.Path.{◌≡◌, refl, sym, ap, ap₂, ◌∙◌, subst}
use mathlib.Core.Logic.{◌⊎◌, inl, inr}
use mathlib.Core.List.{List, [], ◌∷◌, ◌++◌, map}
use Prim.Native.Nat.{ℕ, zero, suc, ◌+◌, ◌-◌, ◌<◌, ◌≤◌}
use native.Mathlib.Omega.{arith}
use lib.ListN.{length, get_or, take, drop, length-append, length-drop}
use lib.Seq.{get_or-drop}
use lib.IntN.{ℤ}
use types.Run.{OneOf, miss}
use Rattle.std.proofs.Common.{Bor}
use Rattle.std.proofs.lemmas.List.{take_rest}
use Rattle.calculus.specs.Limits.{most_sets, most_constraints, most_terms}
use Rattle.calculus.specs.Lists.{Each, up_from}
use Rattle.calculus.specs.Terms.{Term, SetVar, term, set_var}
use Rattle.calculus.specs.Relations as relations
use Rattle.calculus.specs.Meaning as calculus
use Rattle.calculus.specs.Problem.{Problem, nameable, term_count, set_count, entries, Refers}
use Rattle.calculus.specs.Encoding.{encode_constraint}
use Rattle.calculus.specs.Invariants.{ConstraintIn}
use Rattle.calculus.proofs.Bools.{each_imp}
use Rattle.calculus.proofs.Sequences.{each_at, terms_at, up_length}
use Rattle.calculus.proofs.ReadValid.{read_valid}
use Rattle.calculus.proofs.ConstraintLaws.{constraints_within}
use Rattle.terms.specs.declared.SetVar as sets
use Rattle.questions.specs.declared.kind.Kind.{Kind}
use Rattle.questions.specs.declared.kind.Kind.TheVariants.{Exactly, Interval as Interval·kind}
use Rattle.questions.specs.Kinds.{code_of}
use Rattle.problem.specs.declared.table.Table.{Table}
use Rattle.problem.specs.Table.{problem_table, line_of, Opened, Stands, constraints_of, no_constraint, constraint_of, kind_of, witness_of}
use Rattle.problem.proofs.Access.{Read, opened, Placed, placed, stands, place_of, kind_read, witness_read, witness_is, opened_sizes}
use Rattle.constraints.specs.declared.Entries.{Entries}
use Rattle.constraints.specs.declared.Entries.TheVariants.{Written, Interval}
use Rattle.constraints.specs.declared.Constraint.{Constraint}
use Rattle.constraints.specs.declared.Constraint.TheVariants.{Member, Nonmember, Same, Different, Related, Negated, Listed}
use Rattle.places.specs.Places.{entries_of}
use Rattle.constraints.specs.Decoded.{list_of, decoded, entries_in, Unpacked}

-- ---- by the kind

-- the constraint of kind k over the operands p, q and s, with its witness w and its entries es (no constraint has kind 0)
abbrev pub of_kind : (k p q s w : ℕ) → List Term → calculus.Constraint
of_kind k p q s w es =
    get_or (
    no_constraint
    ∷ calculus.member (term p) (set_var q)
    ∷ calculus.nonmember (term p) (set_var q)
    ∷ calculus.same (term p) (term q)
    ∷ calculus.different (term p) (term q)
    ∷ calculus.relation relations.equal (set_var p) (set_var q) (set_var p)
    ∷ calculus.negation relations.unequal (set_var p) (set_var q) (set_var p) (term w)
    ∷ calculus.relation relations.union (set_var p) (set_var q) (set_var s)
    ∷ calculus.relation relations.disjoint (set_var p) (set_var q) (set_var p)
    ∷ calculus.relation relations.subset (set_var p) (set_var q) (set_var p)
    ∷ calculus.relation relations.intersection (set_var p) (set_var q) (set_var s)
    ∷ calculus.exactly (set_var p) es
    ∷ calculus.interval (set_var p) (term q) (term s) es
    ∷ []
    ) k no_constraint

-- a constraint is that of its kind over the bytes that follow its kind byte
by_kind : (cs : List ℤ) (N S w : ℕ) (rest : List ℕ) (x : calculus.Constraint) → Refers cs N S x
    → ((k : relations.Negation) (A B C : SetVar) (u : Term) → x ≡ calculus.negation k A B C u → term w ≡ u)
    → x ≡ of_kind (kind_of x) (get_or (encode_constraint x ++ rest) 1 0) (get_or (encode_constraint x ++ rest) 2 0) (get_or (encode_constraint x ++ rest) 3 0) w (entries_of x)
by_kind cs N S w rest (calculus.member t A) a h = refl
by_kind cs N S w rest (calculus.nonmember t A) a h = refl
by_kind cs N S w rest (calculus.same t u) a h = refl
by_kind cs N S w rest (calculus.different t u) a h = refl
by_kind cs N S w rest (calculus.relation relations.equal A B C) a h = ap (calculus.relation relations.equal A B) a.3
by_kind cs N S w rest (calculus.relation relations.union A B C) a h = refl
by_kind cs N S w rest (calculus.relation relations.disjoint A B C) a h = ap (calculus.relation relations.disjoint A B) a.3
by_kind cs N S w rest (calculus.relation relations.subset A B C) a h = ap (calculus.relation relations.subset A B) a.3
by_kind cs N S w rest (calculus.relation relations.intersection A B C) a h = refl
by_kind cs N S w rest (calculus.negation relations.unequal A B C u) a h = ap₂ (calculus.negation relations.unequal A B) a.2 (sym (h relations.unequal A B C u refl))
by_kind cs N S w rest (calculus.exactly A es) a h = refl
by_kind cs N S w rest (calculus.interval A i j es) a h = refl

-- the kinds of three operands
abbrev three : List ℕ
three = 7 ∷ 10 ∷ 12 ∷ []

-- kinds are 1 to 12, and at least two operands are written, three for the kinds above
kind_sizes : (x : calculus.Constraint) → (1 ≤ kind_of x) × (kind_of x ≤ 12) × (3 ≤ length (encode_constraint x)) × (OneOf three (kind_of x) → 4 ≤ length (encode_constraint x))
kind_sizes (calculus.member t A) = (omega arith, omega arith, omega arith, λ h. absurd (miss three 1 tt h))
kind_sizes (calculus.nonmember t A) = (omega arith, omega arith, omega arith, λ h. absurd (miss three 2 tt h))
kind_sizes (calculus.same t u) = (omega arith, omega arith, omega arith, λ h. absurd (miss three 3 tt h))
kind_sizes (calculus.different t u) = (omega arith, omega arith, omega arith, λ h. absurd (miss three 4 tt h))
kind_sizes (calculus.relation relations.equal A B C) = (omega arith, omega arith, omega arith, λ h. absurd (miss three 5 tt h))
kind_sizes (calculus.relation relations.union A B C) = (omega arith, omega arith, omega arith, λ h. omega arith)
kind_sizes (calculus.relation relations.disjoint A B C) = (omega arith, omega arith, omega arith, λ h. absurd (miss three 8 tt h))
kind_sizes (calculus.relation relations.subset A B C) = (omega arith, omega arith, omega arith, λ h. absurd (miss three 9 tt h))
kind_sizes (calculus.relation relations.intersection A B C) = (omega arith, omega arith, omega arith, λ h. omega arith)
kind_sizes (calculus.negation relations.unequal A B C u) = (omega arith, omega arith, omega arith, λ h. absurd (miss three 6 tt h))
kind_sizes (calculus.exactly A es) = (omega arith, omega arith, omega arith, λ h. absurd (miss three 11 tt h))
kind_sizes (calculus.interval A i j es) = (omega arith, omega arith, omega arith, λ h. omega arith)

-- ---- constraint i of a problem

-- what each constraint of the problem has, constraint i has
of_problem : (bs : List ℕ) (tab : Table) (i : ℕ) → i < tab.constraints → (r : Read bs tab) (P : calculus.Constraint → Type 0) → Each P r.prob.constraints → P (constraint_of bs i)
unfolding problem_table constraint_of constraints_of
of_problem bs tab i l r P e =
    let ls : List calculus.Constraint = r.prob.constraints in
    let n : tab.constraints ≡ length ls = ap (λ (t : Table). t.constraints) r.shows in
    let c : get_or ls i no_constraint ≡ constraint_of bs i = rw r.reads in
    subst P c (each_at P ls no_constraint e i (omega arith))

-- a constraint in some ranges is in wider ones
wider : (n m N M : ℕ) → n ≤ N → m ≤ M → (x : calculus.Constraint) → ConstraintIn n m x → ConstraintIn N M x
wider n m N M u v (calculus.member t A) a = (omega (arith, a.0), omega (arith, a.1))
wider n m N M u v (calculus.nonmember t A) a = (omega (arith, a.0), omega (arith, a.1))
wider n m N M u v (calculus.same t s) a = (omega (arith, a.0), omega (arith, a.1))
wider n m N M u v (calculus.different t s) a = (omega (arith, a.0), omega (arith, a.1))
wider n m N M u v (calculus.relation k A B C) a = (omega (arith, a.0), omega (arith, a.1), omega (arith, a.2))
wider n m N M u v (calculus.negation k A B C w) a = ((omega (arith, a.0.0), omega (arith, a.0.1), omega (arith, a.0.2)), omega (arith, a.1))
wider n m N M u v (calculus.exactly A es) a = (omega (arith, a.0), each_imp (λ e. e.index < n) (λ e. e.index < N) es (λ e l. omega arith) a.1)
wider n m N M u v (calculus.interval A i j es) a = (omega (arith, a.0), each_imp (λ e. e.index < n) (λ e. e.index < N) es (λ e l. omega arith) a.1)

-- constraint i is in all ranges that hold the problem's terms and sets
pub constraint_in : (bs : List ℕ) (tab : Table) (i : ℕ) → Opened bs tab → i < tab.constraints → (N M : ℕ) → tab.terms ≤ N → tab.sets ≤ M → ConstraintIn N M (constraint_of bs i)
unfolding problem_table
constraint_in bs tab i o l N M u v =
    let r = opened bs tab o in
    let n : tab.terms ≡ term_count r.prob = ap (λ (t : Table). t.terms) r.shows in
    let m : tab.sets ≡ set_count r.prob = ap (λ (t : Table). t.sets) r.shows in
    wider (term_count r.prob) (set_count r.prob) N M (omega arith) (omega arith) (constraint_of bs i)
    (of_problem bs tab i l r (ConstraintIn (term_count r.prob) (set_count r.prob)) (constraints_within r.prob (read_valid bs r.prob r.reads)))

-- a part of the numbers from s upward
up_part : (n a k s t : ℕ) → t ≡ s + a → a + n ≤ k → take n (drop a (up_from s k)) ≡ up_from t n
up_part zero a k s t e l = refl
up_part (suc n) zero zero s t e l = absurd (omega arith)
up_part (suc n) zero (suc k) s t e l = ap₂ (λ (x : ℕ) (xs : List ℕ). x ∷ xs) (omega arith) (up_part n zero k (suc s) (suc t) (omega arith) (omega arith))
up_part (suc n) (suc a) zero s t e l = absurd (omega arith)
up_part (suc n) (suc a) (suc k) s t e l = up_part (suc n) a k (suc s) t (omega arith) (omega arith)

-- the numbers from an interval's first entry to its last are its entries
pub numbers_of : (i j : ℕ) → i ≤ j → j < most_terms → (map term (take (j + 1 - i) (drop i (up_from 0 most_terms))) ≡ entries (term i) (term j)) × (length (take (j + 1 - i) (drop i (up_from 0 most_terms))) ≤ most_terms)
numbers_of i j h l =
    let z : j + 1 - i ≡ suc j - i = omega arith in
    let e : take (j + 1 - i) (drop i (up_from 0 most_terms)) ≡ up_from i (suc j - i) = rw z (up_part (suc j - i) i most_terms 0 i (omega (arith, h)) (omega (arith, h, l))) in
    (ap (map term) e, omega (arith, ap length e, up_length i (suc j - i), l))

-- a list in range has its set in range
pub list_set : {l : Constraint} {k : Entries} {A : sets.SetVar} {es : Bor (List ℕ)} → l ≡ Listed k A es → ConstraintIn most_terms most_sets (decoded l) → A.0 < most_sets
list_set {k = k} {A} {es} e c = go k (subst (λ (x : Constraint). ConstraintIn most_terms most_sets (decoded x)) e c)
  where
    go : (k : Entries) → ConstraintIn most_terms most_sets (list_of k (set_var A.0) (map term es.now)) → A.0 < most_sets
    go Written c = c.0
    go (Interval t u) c = c.0

-- its entries as the calculus has them
pub entries_as : (l : Constraint) → entries_of (decoded l) ≡ map term (entries_in l)
entries_as (Member t A) = refl
entries_as (Nonmember t A) = refl
entries_as (Same t u) = refl
entries_as (Different t u) = refl
entries_as (Related k s) = refl
entries_as (Negated k s w) = refl
entries_as (Listed Written A es) = refl
entries_as (Listed (Interval t u) A es) = refl

-- where the table says that it stands, and what it says of its witness
pub stands_there : (bs : List ℕ) (tab : Table) (i : ℕ) → Opened bs tab → i < tab.constraints → (i < most_constraints) × Stands bs i (line_of tab i).at × (term (line_of tab i).witness.0 ≡ witness_of bs i)
stands_there bs tab i o l =
    let s = (placed bs tab i o l).small in
    (s, stands bs tab i o l, witness_read bs tab i o s)

module _ (bs : List ℕ) (i at : ℕ) (st : Stands bs i at) where
  abbrev this : calculus.Constraint
  this = constraint_of bs i

  place : Placed bs st.tab i
  place = place_of bs i at st

  here : drop at bs ≡ encode_constraint this ++ place.rest
  here = ap (λ (x : ℕ). drop x bs) st.offset ∙ place.here

  -- the kind byte is its kind
  pub kind_here : get_or bs at 0 ≡ kind_of this
  kind_here = ap (λ (x : ℕ). get_or bs x 0) st.offset ∙ kind_read bs st.tab i place

  -- its bytes are part of the problem's
  here_length : length bs - at ≡ length (encode_constraint this) + length place.rest
  here_length = sym (length-drop at bs) ∙ ap length here ∙ length-append (encode_constraint this) place.rest

  abbrev prob : Problem
  prob = (opened bs st.tab st.opened).prob

  refers : Refers prob.constants (nameable prob) (set_count prob) this
  refers = let r = opened bs st.tab st.opened in of_problem bs st.tab i st.there r (Refers prob.constants (nameable prob) (set_count prob)) (read_valid bs prob r.reads).refers

  -- its terms and sets are below the limits
  pub in_range : ConstraintIn most_terms most_sets this
  in_range = let s = opened_sizes bs st.tab st.opened in constraint_in bs st.tab i st.opened st.there most_terms most_sets s.2 s.1

  -- decoded so, it is handled
  pub unpacked : (r : Constraint) → this ≡ decoded r → length (entries_in r) ≤ 255 → Unpacked bs i r
  unpacked r e n = record { is = e; handled = record { in_range = subst (ConstraintIn most_terms most_sets) e in_range; short = n } }

  -- an interval has the terms from its first to its last, and not empty it ends below most_terms
  pub filled : {A : SetVar} {t u : Term} {es : List Term} → this ≡ calculus.interval A t u es → es ≡ entries t u
  filled e = (subst (Refers prob.constants (nameable prob) (set_count prob)) e refers).4

  pub interval_end : {A : SetVar} {t u : Term} {es : List Term} → this ≡ calculus.interval A t u es → t.index ≤ u.index → u.index < most_terms
  interval_end {A} {t} {u} e h =
      let a : ConstraintIn most_terms most_sets (calculus.interval A t u (entries t u)) = subst (ConstraintIn most_terms most_sets) (e ∙ ap (calculus.interval A t u) (filled e)) in_range in
      terms_at (λ x. x.index < most_terms) t.index (suc u.index - t.index) a.1 u.index h (omega arith)

-- ---- its bytes, from its kind byte on

-- they are those of constraint i, whose witness is w
pub record Begins (bs : List ℕ) (i at w : ℕ) (line : List ℕ) : Type 0 where
  pub there : Stands bs i at
  pub witness : term w ≡ witness_of bs i
  pub from : line ≡ drop at bs

-- so does the part from its place on
pub begin : {bs : List ℕ} {i at w : ℕ} → Stands bs i at × (term w ≡ witness_of bs i) → Begins bs i at w (take (length bs - at) (drop at bs))
begin {bs} {at = at} s = record { there = s.0; witness = s.1; from = take_rest bs at }

module _ {bs : List ℕ} {i at w : ℕ} {line : List ℕ} (s : Begins bs i at w line) where
  abbrev known : calculus.Constraint
  known = constraint_of bs i

  abbrev rest : List ℕ
  rest = (place bs i at s.there).rest

  begins : line ≡ encode_constraint known ++ rest
  begins = s.from ∙ here bs i at s.there

  lengths : length line ≡ length (encode_constraint known) + length rest
  lengths = ap length begins ∙ length-append (encode_constraint known) rest

  kind_byte : get_or line 0 0 ≡ kind_of known
  kind_byte =
      let z : at + 0 ≡ at = omega arith in
      ap (λ (xs : List ℕ). get_or xs 0 0) s.from ∙ get_or-drop at bs 0 0 ∙ ap (λ (x : ℕ). get_or bs x 0) z ∙ kind_here bs i at s.there

  -- its kind byte is a kind's
  pub kind_known : ¬ ((get_or line 0 0 ≡ 0) ⊎ (12 < get_or line 0 0))
  kind_known (inl z) = omega (arith, kind_byte, kind_sizes known)
  kind_known (inr z) = omega (arith, kind_byte, kind_sizes known)

  -- two operands are there
  pub operands : 3 ≤ length line
  operands = omega (arith, (kind_sizes known).2, lengths)

  -- a third is there where the kind has one
  pub third_operand : {k m : Kind} → code_of k ≡ get_or line 0 0 → k ≡ m → OneOf three (code_of m) → 4 ≤ length line
  third_operand c q h = omega (arith, (kind_sizes known).3 (subst (OneOf three) (sym (ap code_of q) ∙ c ∙ kind_byte) h), lengths)

  -- it is that of its kind over them
  pub reads_as : {k m : Kind} → code_of k ≡ get_or line 0 0 → k ≡ m → known ≡ of_kind (code_of m) (get_or line 1 0) (get_or line 2 0) (get_or line 3 0) w (entries_of known)
  reads_as {k} {m} c q =
      let b : kind_of known ≡ code_of m = sym kind_byte ∙ sym c ∙ ap code_of q in
      let p = prob bs i at s.there in
      let h = by_kind p.constants (nameable p) (set_count p) w rest known (refers bs i at s.there) (λ k A B C v z. s.witness ∙ witness_is bs s.there.tab i s.there.opened k A B C v z) in
      rw (b, sym begins) at h

  pub kind_is : {k m : Kind} → code_of k ≡ get_or line 0 0 → k ≡ m → kind_of known ≡ code_of m
  kind_is c q = sym kind_byte ∙ sym c ∙ ap code_of q

  -- so it is decoded, one without entries
  pub decodes : {k m : Kind} {r : Constraint} → code_of k ≡ get_or line 0 0 → k ≡ m → of_kind (code_of m) (get_or line 1 0) (get_or line 2 0) (get_or line 3 0) w (entries_of known) ≡ decoded r → length (entries_in r) ≤ 255 → Unpacked bs i r
  decodes {r = r} c q e n = unpacked bs i at s.there r (reads_as c q ∙ e) n

  -- a list, by the part of the problem that has its entries
  pub decodes_list : {k : Kind} {es : Bor (List ℕ)} → code_of k ≡ get_or line 0 0 → k ≡ Exactly → known ≡ calculus.exactly (set_var (get_or bs (at + 1) 0)) (map term es.now) → length es.now ≤ 255 → Unpacked bs i (Listed Written (record { 0 = get_or line 1 0 }) es)
  decodes_list {es = es} c q h n = unpacked bs i at s.there (Listed Written (record { 0 = get_or line 1 0 }) es) (reads_as c q ∙ ap (calculus.exactly (set_var (get_or line 1 0))) (ap entries_of h)) n

  -- an interval, by its terms
  abbrev ends : calculus.Constraint
  ends = calculus.interval (set_var (get_or line 1 0)) (term (get_or line 2 0)) (term (get_or line 3 0)) (entries_of known)

  pub decodes_end : {k : Kind} → code_of k ≡ get_or line 0 0 → k ≡ Interval·kind → get_or line 2 0 ≤ get_or line 3 0 → get_or line 3 0 < most_terms
  decodes_end c q h = interval_end bs i at s.there (reads_as c q) h

  pub decodes_interval : {k : Kind} {es : Bor (List ℕ)} → code_of k ≡ get_or line 0 0 → k ≡ Interval·kind → map term es.now ≡ entries (term (get_or line 2 0)) (term (get_or line 3 0)) → length es.now ≤ most_terms
      → Unpacked bs i (Listed (Interval (record { 0 = get_or line 2 0 }) (record { 0 = get_or line 3 0 })) (record { 0 = get_or line 1 0 }) es)
  decodes_interval {es = es} c q h n =
      let e = reads_as c q in
      let f : entries_of known ≡ map term es.now = filled bs i at s.there e ∙ sym h in
      unpacked bs i at s.there (Listed (Interval (record { 0 = get_or line 2 0 }) (record { 0 = get_or line 3 0 })) (record { 0 = get_or line 1 0 }) es) (e ∙ ap (calculus.interval (set_var (get_or line 1 0)) (term (get_or line 2 0)) (term (get_or line 3 0))) f) (omega (arith, n))
