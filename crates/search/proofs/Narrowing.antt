-- Which constraints of a mask a search leaves out. For splits one is idle that has none. One of kind 4 is idle where its terms are of two classes; a list is, where each entry is a root in its set, or for splits where each root in its set is an entry.
use mathlib.Core.Path.{◌≡◌, refl, sym, ap, ◌∙◌, subst}
use mathlib.Core.Bool.{Bool, true, false, ◌&&◌, not, and-true, false≢true}
use mathlib.Core.Option.{none}
use mathlib.Core.List.{List, [], ◌∷◌, map}
use Prim.Native.Nat.{ℕ, zero, suc, ◌-◌, ◌^◌, ◌<◌, ◌≤◌}
use native.Mathlib.Omega.{arith}
use native.Mathlib.Decide.{ℕ_discrete}
use lib.ListN.{length, get_or}
use lib.Dec.{eqb}
use lib.Bits.{bit_and}
use borrow.Author.Tests.{eq-eqb, ne_eqb, eqb-true}
use Rattle.calculus.specs.Limits.{most_sets, most_terms}
use Rattle.calculus.specs.Lists.{up_from, all, any, bit, Each}
use Rattle.calculus.specs.Terms.{Term, SetVar, term, set_var}
use Rattle.calculus.specs.Relations.{applies, propagation}
use Rattle.calculus.specs.Meaning.{Constraint, different, exactly, interval}
use Rattle.calculus.specs.Branch.{Branch, root_at, In, known}
use Rattle.calculus.specs.Invariants.{ConstraintIn}
use Rattle.calculus.specs.Search.{choose}
use Rattle.calculus.specs.Reading.{read}
use Rattle.calculus.proofs.Bools.{clash, and_l, and_r, or_l, or_r, any_map, any_imp, each_imp}
use Rattle.calculus.proofs.SearchLaws.{first_next, none_found}
use Rattle.calculus.proofs.Sequences.{up_each, keep_each}
use Rattle.bits.proofs.Bits.{bit_of_and, bit_pow, bit_without, no_bit}
use Rattle.problem.specs.declared.table.Table.{Table}
use Rattle.problem.specs.Table.{Opened, constraints_of, constraint_of, no_constraint}
use Rattle.problem.proofs.Access.{opened_sizes, constraint_count}
use Rattle.branch.specs.Held.{root_of}
use Rattle.branch.specs.Rows as rows
use Rattle.branch.proofs.Roots.{root_is}
use Rattle.terms.specs.declared.SetVar.{SetVar as CodedSet}
use Rattle.places.specs.Places.{span_of, InSpan, move_at, entries_of, roots, first_at}
use Rattle.constraints.specs.declared.Constraint.{Constraint as Coded}
use Rattle.constraints.specs.declared.Constraint.TheVariants.{Member, Nonmember, Same, Different, Related, Negated, Listed}
use Rattle.constraints.specs.declared.Entries.TheVariants.{Written, Interval}
use Rattle.constraints.specs.Decoded.{decoded}
use Rattle.fits.specs.Words.{unshared_of, rests_by, Shown}
use Rattle.fits.proofs.RowBits.{known_in}
use Rattle.fits.proofs.Listed.{covered}
use Rattle.quiet.specs.Quiet.{Idle, Quiet, WordsOf, split_mark}
use Rattle.quiet.proofs.Sayings.{holds, says, chosen_said}
use Rattle.constraints.proofs.Decoding.{constraint_in}
use Rattle.search.specs.Narrowed.{Narrows}

-- ---- constraints that are idle

-- two terms of two classes
different_idle : (split : Bool) (n : ℕ) (b : Branch) (t u : Term) → ¬ (root_at b t.index ≡ root_at b u.index) → Idle split n b (different t u)
different_idle split n b t u e j v = first_next (λ p. applies (known b) (move_at b (different t u) j p).1) (root_at b t.index) [] (rw (ne_eqb (root_at b t.index) (root_at b u.index) e) refl)

-- two roots without a bit in common differ
bits_apart : {x y r : ℕ} → r ≡ bit_and (2 ^ x) (2 ^ y) → r ≡ 0 → ¬ (x ≡ y)
bits_apart {x} {y} {r} e z q = clash (ap (λ (m : ℕ). bit m x) e ∙ bit_of_and (2 ^ x) (2 ^ y) x ∙ rw (bit_pow x x, bit_pow y x, eq-eqb x x refl, eq-eqb x y q) refl) (no_bit r x z)

-- an entry is in its own class
entry_holds : (b : Branch) (h : ℕ) → root_at b h ≡ h → (es : List Term) → any (λ (e : Term). eqb e.index h) es ≡ true → any (all (says b h)) (map (λ (e : Term). holds e ∷ []) es) ≡ true
entry_holds b h r es t = any_map (all (says b h)) (λ (e : Term). holds e ∷ []) es
    ∙ any_imp (λ e. eqb e.index h) (λ e. says b h (holds e) && true) es (λ e q. ap (λ (x : Bool). x && true) (eq-eqb h (root_at b e.index) (sym (ap (root_at b) (eqb-true e.index h q) ∙ r)))) t

-- a list and its set, of which a word and a row say the entries and the roots
module _ (n : ℕ) (b : Branch) (few : n ≤ most_terms) (A : SetVar) (low : A.index < most_sets) (es : List Term) (lines : List ℕ) (of : rows.RowsOf b lines) (word : ℕ) (small : word < 2 ^ 64) (bits : (h : ℕ) → bit word h ≡ any (λ (e : Term). eqb e.index h) es) where
  abbrev row : ℕ
  row = get_or lines A.index 0

  row_small : row < 2 ^ 64
  row_small = of.small A.index (omega arith)

  -- rule 20, where each root of the set is an entry
  module _ (all-entries : bit_and row (2 ^ 64 - 1 - word) ≡ 0) where
    chosen_nowhere : (h : ℕ) → h < n → root_at b h ≡ h → applies (known b) (choose [] b A es (term h)) ≡ false
    chosen_nowhere h l r = chosen_said b h h r A low es ∙ go (rows.literal_known b A.index h) refl
      where
        go : (x : Bool) → rows.literal_known b A.index h ≡ x → ((rows.literal_known b A.index h && true) && not (any (all (says b h)) (map (λ (e : Term). holds e ∷ []) es))) ≡ false
        go false e = rw e refl
        go true e =
            let k : bit row h ≡ true = of.says A.index h (omega arith) (omega (arith, few)) ∙ rw (eq-eqb (root_at b h) h r, e) refl in
            rw (entry_holds b h r es (sym (bits h) ∙ covered row word row_small small all-entries h k), e) refl

    idle_20 : first_at n b (exactly A es) 20 ≡ none
    idle_20 = none_found (λ h. applies (known b) (choose [] b A es (term h))) (roots n b) (each_imp (λ h. (h < n) × (eqb (root_at b h) h ≡ true)) (λ h. applies (known b) (choose [] b A es (term h)) ≡ false) (roots n b) (λ h q. chosen_nowhere h q.0 (eqb-true (root_at b h) h q.1))
        (keep_each (λ h. h < n) (λ h. eqb (root_at b h) h) (up_from 0 n) (up_each (λ h. h < n) 0 n (λ h _ l. omega arith))))

  -- rule 19, where each entry is a root in the set
  module _ (inside : Each (λ (e : Term). e.index < most_terms) es) (all_roots : bit_and word (2 ^ 64 - 1 - row) ≡ 0) where
    entry_known : (e : Term) → e.index < most_terms → bit word e.index ≡ true → applies (known b) (propagation 19 [] (In e A)) ≡ false
    entry_known e l q =
        let s : (eqb (root_at b e.index) e.index && rows.literal_known b A.index e.index) ≡ true = sym (of.says A.index e.index (omega arith) l) ∙ covered word row small row_small all_roots e.index q in
        let r : root_at b e.index ≡ e.index = eqb-true (root_at b e.index) e.index (and_l (eqb (root_at b e.index) e.index) (rows.literal_known b A.index e.index) s) in
        let k : known b (In e A) ≡ true = known_in b e.index e.index r A low ∙ and_r (eqb (root_at b e.index) e.index) (rows.literal_known b A.index e.index) s in
        rw k refl

    entered : (ts : List Term) → Each (λ (e : Term). e.index < most_terms) ts → ((h : ℕ) → any (λ (e : Term). eqb e.index h) ts ≡ true → bit word h ≡ true) → (p : ℕ) → p < length ts → applies (known b) (propagation 19 [] (In (get_or ts p (term 0)) A)) ≡ false
    entered [] c f p l = absurd (omega arith)
    entered (t ∷ ts) c f zero l = entry_known t c.0 (f t.index (or_l (any (λ (e : Term). eqb e.index t.index) ts) (eq-eqb t.index t.index refl)))
    entered (t ∷ ts) c f (suc p) l = entered ts c.1 (λ h q. f h (or_r (eqb t.index h) q)) p (omega arith)

    idle_19 : first_at n b (exactly A es) 19 ≡ none
    idle_19 = none_found (λ p. applies (known b) (propagation 19 [] (In (get_or es p (term 0)) A))) (up_from 0 (length es)) (up_each (λ p. applies (known b) (propagation 19 [] (In (get_or es p (term 0)) A)) ≡ false) 0 (length es) (λ p _ l. entered es inside (λ h q. bits h ∙ q) p (omega arith)))

-- ---- constraint i as it is decoded

-- its operands are in range
pub in_limits : (bs : List ℕ) (tab : Table) (i : ℕ) → Opened bs tab → i < tab.constraints → ConstraintIn most_terms most_sets (constraint_of bs i)
in_limits bs tab i o t = let s = opened_sizes bs tab o in constraint_in bs tab i o t most_terms most_sets s.2 s.1

-- what one test shows to be at rest is idle
pub rest_idle : (bs : List ℕ) (tab : Table) (i : ℕ) {entries marks ps lines : List ℕ} (split : Bool) (l : Coded) → Opened bs tab → i < tab.constraints → WordsOf (constraints_of (read bs)) entries marks → constraint_of bs i ≡ decoded l → rests_by ps lines (get_or entries i 0) split l ≡ true
    → (n : ℕ) (b : Branch) → n ≤ most_terms → Shown b ps lines → Idle split n b (get_or (constraints_of (read bs)) i no_constraint)
unfolding constraint_of
rest_idle bs tab i {entries} {ps = ps} {lines} split l o t w is rest n b few s =
    subst (λ (x : Constraint). ConstraintIn most_terms most_sets x → ((h : ℕ) → bit word h ≡ any (λ (e : Term). eqb e.index h) (entries_of x)) → Idle split n b x) (sym is) (go l rest) (in_limits bs tab i o t) (w.listed i there)
  where
    there : i < length (constraints_of (read bs))
    there = omega (arith, constraint_count bs tab o)

    word : ℕ
    word = get_or entries i 0

    root : (x : ℕ) → root_at b x ≡ root_of ps x
    root x = root_is b x ∙ ap (λ (p : List ℕ). root_of p x) s.parents_are

    -- a list of set A, and its rules 19 and 20
    list : (y : Bool) (A : CodedSet) (ts : List Term) → A.0 < most_sets → Each (λ (e : Term). e.index < most_terms) ts → ((h : ℕ) → bit word h ≡ any (λ (e : Term). eqb e.index h) ts) → eqb (unshared_of lines word y A) 0 ≡ true → (j : ℕ) → InSpan (span_of y (exactly (set_var A.0) ts)) j → first_at n b (exactly (set_var A.0) ts) j ≡ none
    list true A ts c d f k j v = let z : j ≡ 20 = omega (arith, v.0, v.1) in subst (λ (m : ℕ). first_at n b (exactly (set_var A.0) ts) m ≡ none) (sym z) (idle_20 n b few (set_var A.0) c ts lines s.rows_are word (w.small i there) f (eqb-true _ 0 k))
    list false A ts c d f k j v = let z : j ≡ 19 = omega (arith, v.0, v.1) in subst (λ (m : ℕ). first_at n b (exactly (set_var A.0) ts) m ≡ none) (sym z) (idle_19 n b few (set_var A.0) c ts lines s.rows_are word (w.small i there) f d (eqb-true _ 0 k))

    interval_is : (y : Bool) (A : CodedSet) (p q : Term) (ts : List Term) → Idle y n b (exactly (set_var A.0) ts) → Idle y n b (interval (set_var A.0) p q ts)
    interval_is true A p q ts h j v = h j v
    interval_is false A p q ts h j v = h j v

    go : (m : Coded) → rests_by ps lines word split m ≡ true → ConstraintIn most_terms most_sets (decoded m) → ((h : ℕ) → bit word h ≡ any (λ (e : Term). eqb e.index h) (entries_of (decoded m))) → Idle split n b (decoded m)
    go (Member x A) k c f j v = absurd (false≢true k)
    go (Nonmember x A) k c f j v = absurd (false≢true k)
    go (Same x y) k c f j v = absurd (false≢true k)
    go (Different x y) k c f j v = different_idle split n b (term x.0) (term y.0) (λ q. bits_apart refl (eqb-true _ 0 k) (sym (root x.0) ∙ q ∙ root y.0)) j v
    go (Related r z) k c f j v = absurd (false≢true k)
    go (Negated r z x) k c f j v = absurd (false≢true k)
    go (Listed Written A es) k c f j v = list split A (map term es.now) c.0 c.1 f k j v
    go (Listed (Interval x y) A es) k c f j v = interval_is split A (term x.0) (term y.0) (map term es.now) (list split A (map term es.now) c.0 c.1 f k) j v

-- ---- masks

-- a search among what is left finds what one among all finds
pub quiet_within : (split : Bool) (n : ℕ) (b : Branch) {bs ps lines : List ℕ} {mask word : ℕ} → n ≤ most_terms → Narrows split bs ps lines mask word → Shown b ps lines → Quiet split n (constraints_of (read bs)) b mask → Quiet split n (constraints_of (read bs)) b word
quiet_within split n b {bs} {mask = mask} few w s q i l z = go (bit mask i) refl
  where
    go : (x : Bool) → bit mask i ≡ x → Idle split n b (get_or (constraints_of (read bs)) i no_constraint)
    go true y = w.idle n b few s i l y z
    go false y = q i l y

-- a scope as it is, or those with a split, if splits are asked for
pub narrows_all : (split : Bool) (bs ps lines : List ℕ) {mask kept : ℕ} → kept ≡ mask → Narrows split bs ps lines mask kept
narrows_all split bs ps lines e = rw e (record { within = λ i y. y; idle = λ n b few s i l y z. clash y z })

pub narrows_splits : {bs entries marks : List ℕ} (ps lines : List ℕ) {split : Bool} (mask : ℕ) {kept : ℕ} → split ≡ true → WordsOf (constraints_of (read bs)) entries marks → kept ≡ bit_and mask (get_or marks split_mark 0) → Narrows split bs ps lines mask kept
narrows_splits {bs} {marks = marks} ps lines mask q w e = rw (q, e) (record {
  within = λ i y. and_l (bit mask i) (bit last i) (sym (bit_of_and mask last i) ∙ y);
  idle = λ n b few s i l y z j v. clash (bit_of_and mask last i ∙ rw y (w.splits i l j v)) z;
})
  where
    last : ℕ
    last = get_or marks split_mark 0

-- one more, which is idle, is dropped
pub narrows_one : {split : Bool} {bs ps lines : List ℕ} {mask kept : ℕ} (k : ℕ) → Narrows split bs ps lines mask kept → kept < 2 ^ 64 → ((n : ℕ) (b : Branch) → n ≤ most_terms → Shown b ps lines → Idle split n b (get_or (constraints_of (read bs)) k no_constraint)) → {one : ℕ} → one ≡ 2 ^ k → one < 2 ^ 64 → Narrows split bs ps lines mask (bit_and kept (2 ^ 64 - 1 - one))
narrows_one {split} {bs} {ps} {lines} {mask} {kept} k d small idle {one} is one-small = record {
  within = λ i y. d.within i (and_l (bit kept i) (not (eqb i k)) (sym (without i) ∙ y));
  idle = λ n b few s i l y z. go n b few s i l y (sym (without i) ∙ z) (ℕ_discrete i k);
}
  where
    without : (i : ℕ) → bit (bit_and kept (2 ^ 64 - 1 - one)) i ≡ (bit kept i && not (eqb i k))
    without i = bit_without 64 kept one i small one-small ∙ ap (λ (x : Bool). bit kept i && not x) (ap (λ (m : ℕ). bit m i) is ∙ bit_pow k i)

    go : (n : ℕ) (b : Branch) → n ≤ most_terms → Shown b ps lines → (i : ℕ) → i < length (constraints_of (read bs)) → bit mask i ≡ true → (bit kept i && not (eqb i k)) ≡ false → Dec (i ≡ k) → Idle split n b (get_or (constraints_of (read bs)) i no_constraint)
    go n b few s i l y z (yes q) = subst (λ (m : ℕ). Idle split n b (get_or (constraints_of (read bs)) m no_constraint)) (sym q) (idle n b few s)
    go n b few s i l y z (no q) = d.idle n b few s i l y (rw (ne_eqb i k q, and-true (bit kept i)) at z)
