-- The act of each constraint's child. All but two kinds assert the literals of a child, of one term (record Notes); a rule on sets takes them from its row by number.
use mathlib.Core.Path.{◌≡◌, refl, sym, ap, ◌∙◌, subst, fun_ext}
use mathlib.Core.Logic.{◌⊎◌, inl, inr, ⊎_elim}
use mathlib.Core.Bool.{Bool, true, false, cond}
use mathlib.Core.Option.{none}
use mathlib.Core.List.{List, [], ◌∷◌, map}
use Prim.Native.Nat.{ℕ, ◌≤◌, ◌<◌}
use native.Mathlib.Omega.{arith}
use lib.ListN.{length, get_or, length-map, get_or-map}
use lib.Dec.{eqb, ltb}
use borrow.Author.Tests.{eq-eqb, ne_eqb, ltb-true}
use Rattle.std.proofs.Common.{Bor}
use Rattle.calculus.specs.Limits.{most_sets, most_terms}
use Rattle.calculus.specs.Terms.{Term, SetVar, term, set_var}
use Rattle.calculus.specs.Relations.{Rule, Operand, Literal, operand_of, propagation}
use Rattle.calculus.specs.Relations as R
use Rattle.calculus.specs.Meaning as meaning
use Rattle.calculus.specs.Branch.{Branch, root_at, root, In, Same, assert, assert_all}
use Rattle.calculus.specs.Search.{Move, fact_of}
use Rattle.calculus.specs.Invariants.{Falls}
use Rattle.calculus.proofs.Bools.{and_l, and_r, clash, each_all}
use Rattle.calculus.proofs.Sequences.{each_at}
use Rattle.branch.specs.declared.Branch.{Branch as CodedBranch}
use Rattle.branch.specs.Held.{root_of}
use Rattle.branch.proofs.Roots.{root_is}
use Rattle.places.specs.Places.{InSpan, RuleOf, list_move, move_at}
use Rattle.places.specs.Alternatives.{slots_of, child_of}
use Rattle.places.proofs.Slots.{in_spans, assert_one}
use Rattle.constraints.specs.declared.Constraint.{Constraint}
use Rattle.constraints.specs.declared.Constraint.TheVariants.{Member, Nonmember, Same as Equated, Different, Related, Negated, Listed}
use Rattle.constraints.specs.declared.Entries.{Entries}
use Rattle.constraints.specs.declared.Entries.TheVariants.{Written, Interval}
use Rattle.constraints.specs.declared.Operands.{Operands}
use Rattle.constraints.specs.declared.Relation.{Relation as CodedRelation}
use Rattle.constraints.specs.declared.Negation.{Negation as CodedNegation}
use Rattle.constraints.specs.declared.Negation.TheVariants.{Unequal}
use Rattle.terms.specs.declared.SetVar.{SetVar as CodedSet}
use Rattle.terms.specs.declared.Term.{Term as CodedTerm}
use Rattle.constraints.specs.Decoded.{relation_of, decoded, entries_in}
use Rattle.rules.specs.declared.Child.{Child}
use Rattle.rules.specs.declared.Instance.{Instance}
use Rattle.rules.specs.Rows.{numbered, literals_of, count_of, sets, child, HasChild}
use Rattle.rules.proofs.Laying.{few, row_counts}
use Rattle.fits.specs.Words.{LowChild}
use Rattle.fits.proofs.RowBits.{child_low}
use Rattle.fits.proofs.TableTests.{row_of_relation}
use Rattle.fits.proofs.FitLaws.{entries_below, root_own}
use Rattle.step.specs.declared.Act.{Act}
use Rattle.step.specs.declared.Act.TheVariants.{Close}
use Rattle.step.specs.Acts.{classes_of, note_of, join_of, Under, Placed, Somewhere, Acts, Actable, ActsFor, OnLowTerms}
use Rattle.step.proofs.Asserting.{literals_any}
use Rattle.step.proofs.Acting.{does_by, close_does, note_does, join_does}
use Rattle.constraints.proofs.Decoding.{entries_as}

-- ---- how many children a rule can have

module _ (l : Constraint) (j : ℕ) where
  pub slots_20 : j ≡ 20 → slots_of (decoded l) j ≡ length (entries_in l)
  unfolding slots_of
  slots_20 e = rw (eq-eqb j 20 e) (ap length (entries_as l) ∙ length-map (entries_in l) term)

  pub slots_other : ¬ (j ≡ 20) → slots_of (decoded l) j ≡ count_of j
  unfolding slots_of
  slots_other n = rw (ne_eqb j 20 n)

pub count_low : (j : ℕ) → count_of j ≤ 2
count_low j = go (eqb j 7) (eqb j 12)
  where
    go : (x y : Bool) → cond x 2 (cond y 2 1) ≤ 2
    go true y = omega arith
    go false true = omega arith
    go false false = omega arith

-- ---- the rules of each kind

pub relation_range : (k : CodedRelation) (s : Operands) (j : ℕ) → RuleOf (decoded (Related k s)) j → (5 ≤ j) × (j < 19)
relation_range k s j r = let w = row_of_relation (relation_of k) (set_var s.0.0) (set_var s.1.0) (set_var s.2.0) j r in (w.low, omega (arith, w.high))

-- a rule with one child, of a row or of a literal; none of them is 4 or 20
pub record Plain (j : ℕ) : Type 0 where
  pub not_20 : eqb j 20 ≡ false
  pub not_4 : eqb j 4 ≡ false
  pub once : count_of j ≡ 1

-- child c of a rule whose alternatives are of literals
module _ (b : Branch) (l : meaning.Constraint) (j p c : ℕ) (n : eqb j 20 ≡ false) (m : eqb j 4 ≡ false) (t : Term) (s : Operand → SetVar) where
  child_literals : (rs : List (List Literal)) → (move_at b l j p).1.alternatives ≡ map (map (fact_of t s)) rs → (ks : List Term) → child_of ks b l j p c ≡ assert_all [] b (map (fact_of t s) (get_or rs c []))
  unfolding child_of
  child_literals rs e ks = rw (n, m, e) (ap (assert_all ks b) (get_or-map (map (fact_of t s)) rs c []) ∙ literals_any ks t s (get_or rs c []) b)

-- a rule of a list that is not 20 is 19
entry_rule : (j : ℕ) → InSpan (19, 20) j ⊎ InSpan (20, 21) j → ¬ (j ≡ 20) → j ≡ 19
entry_rule j (inl r) n = omega (arith, r.0, r.1)
entry_rule j (inr r) n = absurd (n (omega (arith, r.0, r.1)))

-- ---- the code's constraint is of a kind

abbrev pub of_kind : Instance → Constraint → Instance
of_kind at m = record { constraint = m; rule = at.rule; root = at.root }

pub at_kind : {ps : List ℕ} {l m : Constraint} {j h c : ℕ} → l ≡ m → Somewhere ps l j h c → Somewhere ps m j h c
at_kind {ps} {l} {m} {j} {h} {c} e = subst (λ (x : Constraint). Somewhere ps x j h c) e

pub by_kind : (b : CodedBranch) {at : Instance} {m : Constraint} {c : ℕ} {a : Act} → at.constraint ≡ m → ActsFor b (of_kind at m) c a → ActsFor b at c a
by_kind b {at} {m} {c} {a} e = subst (λ (x : Constraint). ActsFor b (of_kind at x) c a) (sym e)

-- an act that is a note merges nothing
pub noted : (b : CodedBranch) {at : Instance} {c : ℕ} {a : Act} (r : CodedTerm) (x : Child) → ActsFor b at c (note_of r x) → a ≡ note_of r x → ActsFor b at c a × OnLowTerms at a
noted b {at} {c} r x f w = (subst (λ (y : Act). ActsFor b at c y) (sym w) f, λ n i l. subst (Under n) (sym w) tt)

-- it is of two kinds: on sets, by a row; or its child has a term in a set
abbrev pub OnSets : Constraint → Operands → Type 0
OnSets l s = ((k : CodedRelation) × (l ≡ Related k s)) ⊎ ((k : CodedNegation) × (w : CodedTerm) × (l ≡ Negated k s w))

abbrev pub Inside : Constraint → CodedSet → Type 0
Inside l A = ((t : CodedTerm) × (l ≡ Member t A)) ⊎ ((k : Entries) × (es : Bor (List ℕ)) × (l ≡ Listed k A es))

-- ---- a child of a rule on sets

negation_rule : {ps : List ℕ} {j q h : ℕ} {k : CodedNegation} {s : Operands} {w : CodedTerm} → Placed ps (Negated k s w) j q h → j ≡ 7
negation_rule P = ⊎_elim (λ w. omega arith) (λ w. omega arith) P.ruled

row_there : {j c : ℕ} (l : Constraint) → 5 ≤ j → j < 19 → c < slots_of (decoded l) j → c < length (numbered j).alternatives
row_there {j} {c} l x y n = subst (λ (m : ℕ). c < m) (slots_other l j (λ e. omega arith) ∙ (row_counts j x y).0) n

module _ {ps : List ℕ} {j q h c : ℕ} {s : Operands} where
  pub related_child : {k : CodedRelation} → Placed ps (Related k s) j q h → c < slots_of (decoded (Related k s)) j → HasChild j s c
  related_child {k} P n =
      let r = relation_range k s j P.ruled in
      record { low = r.0; high = omega (arith, r.1); low_pair = (P.handled.in_range.0, P.handled.in_range.1); there = row_there (Related k s) r.0 r.1 n }

  pub negated_child : {k : CodedNegation} {w : CodedTerm} → Placed ps (Negated k s w) j q h → c < slots_of (decoded (Negated k s w)) j → HasChild j s c
  negated_child {k} {w} P n =
      let e = negation_rule P in
      record { low = omega arith; high = omega arith; low_pair = (P.handled.in_range.0.0, P.handled.in_range.0.1); there = row_there (Negated k s w) (omega arith) (omega arith) n }

module _ {b : CodedBranch} {at : Instance} {c : ℕ} {s : Operands} where
  pub sets_child : OnSets at.constraint s → Actable b at c → HasChild at.rule s c
  sets_child (inl w) R = let x = at_kind w.1 R.somewhere in related_child x.1 x.2
  sets_child (inr w) R = let x = at_kind w.2 R.somewhere in negated_child x.1 x.2

  pub sets_low : OnSets at.constraint s → Actable b at c → {x : Child} → x ≡ child (sets s) (literals_of at.rule c) → LowChild x
  sets_low (inl w) R {x} e = let y = at_kind w.1 R.somewhere in subst LowChild (sym e) (child_low s.0.0 s.1.0 s.2.0 y.1.handled.in_range (literals_of at.rule c))
  sets_low (inr w) R {x} e = let y = at_kind w.2 R.somewhere in subst LowChild (sym e) (child_low s.0.0 s.1.0 s.2.0 y.1.handled.in_range.0 (literals_of at.rule c))

-- ---- the acts of rule j at position q, that concern root h; r is the root that the code finds

-- the sets as the calculus has them
abbrev sets_of : Operands → Operand → SetVar
sets_of s = operand_of (set_var s.0.0) (set_var s.1.0) (set_var s.2.0)

module _ (now : CodedBranch) (fall : Falls now.parents) (at : Instance) (c : ℕ) (r : CodedTerm) (own : r.0 ≡ root_of now.parents at.root.0) where
  abbrev ps : List ℕ
  ps = now.parents

  abbrev j : ℕ
  j = at.rule

  abbrev h : ℕ
  h = at.root.0

  -- r is the root of a term of that class
  its_root : (t : ℕ) → root_at (classes_of ps) t ≡ h → r.0 ≡ root_of ps t
  its_root t w = own ∙ ap (root_of ps) (sym w ∙ root_is (classes_of ps) t) ∙ root_own ps fall t

  module _ (q : ℕ) where
    -- child c asserts literals of term t
    record Notes (m : Constraint) (t : ℕ) (s : Operand → SetVar) (rs : List (List Literal)) : Type 0 where
      low : t < most_terms
      its : r.0 ≡ root_of ps t
      bounded : (o : Operand) → (s o).index < most_sets
      not_20 : eqb j 20 ≡ false
      not_4 : eqb j 4 ≡ false
      small : few (get_or rs c []) ≡ true
      offers : (b : Branch) → b.parents ≡ ps → (move_at b (decoded m) j q).1.alternatives ≡ map (map (fact_of (term t) s)) rs

    notes_acts : (m : Constraint) (t : ℕ) (s : Operand → SetVar) (rs : List (List Literal)) → Notes m t s rs → (x : Child) → x ≡ child (λ (o : Operand). (s o).index) (get_or rs c []) → Acts ps (decoded m) j q c (note_of r x)
    notes_acts m t s rs N x e =
        let xs : List Literal = get_or rs c [] in
        let some : 0 < length xs = ltb-true 0 (length xs) (and_l (ltb 0 (length xs)) (ltb (length xs) 4) N.small) in
        let less : length xs < 4 = ltb-true (length xs) 4 (and_r (ltb 0 (length xs)) (ltb (length xs) 4) N.small) in
        does_by ps fall _ _ (note_of r x) (λ ks b y. child_literals b (decoded m) j q c N.not_20 N.not_4 (term t) s rs (N.offers b y) ks)
        (note_does ps fall t N.low r N.its s N.bounded xs some (omega arith) x e)

    -- of a rule with one child, of one literal
    one_acts : (m : Constraint) → c < slots_of (decoded m) j → (t : ℕ) → t < most_terms → r.0 ≡ root_of ps t → (A : SetVar) → A.index < most_sets → Plain j → (o : Literal) → ((b : Branch) → b.parents ≡ ps → (move_at b (decoded m) j q).1.alternatives ≡ (fact_of (term t) (λ _. A) o ∷ []) ∷ []) → (x : Child) → x ≡ child (λ _. A.index) (o ∷ []) → Acts ps (decoded m) j q c (note_of r x)
    one_acts m n t lt own_is A la pl o f x e =
        let z : c ≡ 0 = omega (arith, n, slots_other m j (λ w. clash (eq-eqb j 20 w) pl.not_20), pl.once) in
        notes_acts m t (λ _. A) ((o ∷ []) ∷ []) record { low = lt; its = own_is; bounded = λ _. la; not_20 = pl.not_20; not_4 = pl.not_4; small = rw z; offers = f } x (rw z e)

    -- of a rule on sets, by its row
    row_acts : (m : Constraint) (s : Operands) → HasChild j s c → s.2.0 < most_sets → (t : ℕ) → t < most_terms → r.0 ≡ root_of ps t → ((b : Branch) → b.parents ≡ ps → (move_at b (decoded m) j q).1.alternatives ≡ map (map (fact_of (term t) (sets_of s))) (numbered j).alternatives) → (x : Child) → x ≡ child (sets s) (literals_of j c) → Acts ps (decoded m) j q c (note_of r x)
    row_acts m s H lc t lt own_is f x e = notes_acts m t (sets_of s) (numbered j).alternatives record {
      low = lt;
      its = own_is;
      bounded = bounds;
      not_20 = ne_eqb j 20 (λ w. omega (arith, H.high));
      not_4 = ne_eqb j 4 (λ w. omega (arith, H.low));
      small = each_at (λ (xs : List Literal). few xs ≡ true) (numbered j).alternatives [] (each_all few (numbered j).alternatives (row_counts j H.low (omega (arith, H.high))).1) c H.there;
      offers = f;
    } x (e ∙ ap (λ (z : Operand → ℕ). child z (literals_of j c)) (fun_ext same))
      where
        bounds : (o : Operand) → (sets_of s o).index < most_sets
        bounds R.A = H.low_pair.0
        bounds R.B = H.low_pair.1
        bounds R.C = lc

        same : (o : Operand) → sets s o ≡ (sets_of s o).index
        same R.A = refl
        same R.B = refl
        same R.C = refl

    -- of an entry
    entry_acts : (m : Constraint) → Placed ps m j q h → c < slots_of (decoded m) j → (A : CodedSet) → A.0 < most_sets → j ≡ 19 → ((b : Branch) → move_at b (decoded m) j q ≡ list_move b (set_var A.0) (map term (entries_in m)) j q) → (x : Child) → x ≡ child (λ _. A.0) (R.In R.A ∷ []) → Acts ps (decoded m) j q c (note_of r x)
    entry_acts m P n A la e f =
        let t : ℕ = get_or (entries_in m) q 0 in
        let move : (b : Branch) → move_at b (decoded m) j q ≡ (root b (term t), propagation 19 [] (In (term t) (set_var A.0))) = λ b. f b ∙ rw (e, get_or-map term (entries_in m) q 0) in
        one_acts m n t (each_at (λ (x : ℕ). x < most_terms) (entries_in m) 0 (entries_below m P.handled) q (P.of_entry e))
        (its_root t (ap (λ (w : Term × Move). w.0.index) (sym (move (classes_of ps))) ∙ P.concerns)) (set_var A.0) la (rw e record { not_20 = refl; not_4 = refl; once = refl }) (R.In R.A) (λ b _. ap (λ (w : Term × Move). w.1.alternatives) (move b))

  pub member_acts : (t : CodedTerm) (A : CodedSet) (x : Child) → x ≡ child (λ _. A.0) (R.In R.A ∷ []) → ActsFor now (of_kind at (Member t A)) c (note_of r x)
  member_acts t A x e q P n = one_acts q (Member t A) n t.0 P.handled.in_range.0 (its_root t.0 P.concerns) (set_var A.0) P.handled.in_range.1 (in_spans Plain (1, 2) (0, 0) (record { not_20 = refl; not_4 = refl; once = refl }, tt) tt j P.ruled) (R.In R.A) (λ b _. refl) x e

  pub nonmember_acts : (t : CodedTerm) (A : CodedSet) (x : Child) → x ≡ child (λ _. A.0) (R.Out R.A ∷ []) → ActsFor now (of_kind at (Nonmember t A)) c (note_of r x)
  nonmember_acts t A x e q P n = one_acts q (Nonmember t A) n t.0 P.handled.in_range.0 (its_root t.0 P.concerns) (set_var A.0) P.handled.in_range.1 (in_spans Plain (2, 3) (0, 0) (record { not_20 = refl; not_4 = refl; once = refl }, tt) tt j P.ruled) (R.Out R.A) (λ b _. refl) x e

  pub related_acts : (k : CodedRelation) (s : Operands) (x : Child) → x ≡ child (sets s) (literals_of j c) → ActsFor now (of_kind at (Related k s)) c (note_of r x)
  related_acts k s x e q P n = row_acts q (Related k s) s (related_child P n) P.handled.in_range.2 q (omega (arith, P.concerns, P.low)) (own ∙ ap (root_of ps) (sym P.concerns))
      (λ b _. ap (λ (w : Rule Literal). map (map (fact_of (term q) (sets_of s))) w.alternatives) (row_of_relation (relation_of k) (set_var s.0.0) (set_var s.1.0) (set_var s.2.0) j P.ruled).is) x e

  pub negated_acts : (k : CodedNegation) (s : Operands) (v : CodedTerm) (x : Child) → x ≡ child (sets s) (literals_of j c) → ActsFor now (of_kind at (Negated k s v)) c (note_of r x)
  negated_acts Unequal s v x e q P n = row_acts q (Negated Unequal s v) s (negated_child P n) P.handled.in_range.0.2 v.0 P.handled.in_range.1 (its_root v.0 P.concerns) (λ b _. rw (negation_rule P)) x e

  pub listed_acts : ¬ (j ≡ 20) → (k : Entries) (A : CodedSet) (es : Bor (List ℕ)) (x : Child) → x ≡ child (λ _. A.0) (R.In R.A ∷ []) → ActsFor now (of_kind at (Listed k A es)) c (note_of r x)
  listed_acts n20 Written A es x e q P n = entry_acts q (Listed Written A es) P n A P.handled.in_range.0 (entry_rule j P.ruled n20) (λ b. refl) x e
  listed_acts n20 (Interval t u) A es x e q P n = entry_acts q (Listed (Interval t u) A es) P n A P.handled.in_range.0 (entry_rule j P.ruled n20) (λ b. refl) x e

  -- merging with a term is merging with another of its class
  pub same_acts : (t u k : CodedTerm) → k.0 ≡ root_of ps u.0 → ActsFor now (of_kind at (Equated t u)) c (join_of r k)
  unfolding child_of
  same_acts t u k d q P n = does_by ps fall _ _ (join_of r k) (λ ks b y. first ks b) (join_does ps fall t.0 u.0 P.handled.in_range.0 P.handled.in_range.1 r k (its_root t.0 P.concerns) d)
    where
      pl : Plain j
      pl = in_spans Plain (3, 4) (0, 0) (record { not_20 = refl; not_4 = refl; once = refl }, tt) tt j P.ruled

      z : c ≡ 0
      z = omega (arith, n, slots_other (Equated t u) j (λ w. clash (eq-eqb j 20 w) pl.not_20), pl.once)

      first : (ks : List Term) (b : Branch) → child_of ks b (decoded (Equated t u)) j q c ≡ assert ks b (Same (term t.0) (term u.0))
      first ks b = rw (pl.not_20, pl.not_4, z) (assert_one ks b (Same (term t.0) (term u.0)))

  pub different_acts : (t u : CodedTerm) → ActsFor now (of_kind at (Different t u)) c Close
  unfolding child_of
  different_acts t u q P n = close_does ps fall _ (λ ks b y. none_here ks b)
    where
      none_here : (ks : List Term) (b : Branch) → child_of ks b (decoded (Different t u)) j q c ≡ none
      none_here ks b = in_spans (λ j. child_of ks b (decoded (Different t u)) j q c ≡ none) (4, 5) (0, 0) (refl, tt) tt j P.ruled

  -- ---- of two kinds

  pub sets_acts : {s : Operands} → OnSets at.constraint s → (x : Child) → x ≡ child (sets s) (literals_of j c) → ActsFor now at c (note_of r x)
  sets_acts {s} (inl w) x e = by_kind now w.1 (related_acts w.0 s x e)
  sets_acts {s} (inr w) x e = by_kind now w.2 (negated_acts w.0 s w.1 x e)

  pub inside_acts : {A : CodedSet} → Inside at.constraint A → ¬ (j ≡ 20) → (x : Child) → x ≡ child (λ _. A.0) (R.In R.A ∷ []) → ActsFor now at c (note_of r x)
  inside_acts {A} (inl w) n x e = by_kind now w.1 (member_acts w.0 A x e)
  inside_acts {A} (inr w) n x e = by_kind now w.2 (listed_acts n w.0 A w.1 x e)
