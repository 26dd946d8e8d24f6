-- The words by constraint and by mark, in the loop of `prepare`: they are right for the constraints before i.
use mathlib.Core.Path.{◌≡◌, refl, sym, ap, ◌∙◌}
use mathlib.Core.Logic.{◌⊎◌, inl, inr}
use mathlib.Core.Bool.{Bool, true, false, ◌&&◌, ◌||◌, cond, or-false}
use mathlib.Core.List.{List}
use Prim.Native.Nat.{ℕ, ◌+◌, ◌-◌, ◌^◌, ◌<◌, ◌≤◌}
use native.Mathlib.Omega.{arith}
use native.Mathlib.Decide.{ℕ_discrete, dec_lt}
use lib.ListN.{length, get_or, set, replicate, length-set, get_or-eq_default}
use lib.Seq.{get_or-set_same, get_or-set_other}
use lib.Dec.{eqb, ltb}
use lib.Bits.{bit_or}
use borrow.Author.Tests.{eq-eqb, eqb-true, lt-ltb}
use Rattle.calculus.specs.Limits.{most_constraints}
use Rattle.calculus.specs.Lists.{any, bit}
use Rattle.calculus.specs.Terms.{Term, term}
use Rattle.calculus.specs.Meaning as calculus
use Rattle.calculus.specs.Reading.{read}
use Rattle.calculus.proofs.Bools.{clash, same_test, and_i, and_l, and_r, or_cases, or_l, or_r, any_map}
use Rattle.calculus.proofs.Sequences.{zeros}
use Rattle.bits.specs.Words.{turn, turn_words}
use Rattle.bits.proofs.Turning.{turn_length, turn_at}
use Rattle.bits.proofs.Bits.{bit_of_or, bit_pow, bit_ones, bit_zero, bit_of_and, bit_high}
use Rattle.problem.specs.declared.table.Table.{Table}
use Rattle.problem.specs.Table.{Opened, constraints_of, constraint_of}
use Rattle.problem.proofs.Access.{opened_sizes, constraint_count}
use Rattle.places.specs.Places.{entries_of}
use Rattle.constraints.specs.declared.Constraint.{Constraint}
use Rattle.constraints.specs.Decoded.{decoded, entries_in, Unpacked}
use Rattle.constraints.proofs.Decoding.{entries_as}
use Rattle.fits.specs.Words.{EntryBits}
use Rattle.quiet.specs.Quiet.{WordsOf, mark_count, pair_mark, split_mark}
use Rattle.marks.specs.Marks.{NeedsOf}

-- bit i is set in the words of these literals, and nothing else changes
abbrev Marked : (literals i : ℕ) (before after : List ℕ) → Type 0
Marked literals i before after = (k m : ℕ) → bit (get_or after k 0) m ≡ (bit (get_or before k 0) m || (bit literals k && eqb m i))

marked : (literals i : ℕ) (marks : List ℕ) → literals < 2 ^ length marks → i < 64 → ((k m : ℕ) → bit (get_or marks k 0) m ≡ true → m < 64) → Marked literals i marks (turn_words (2 ^ i) 0 literals marks)
unfolding turn
marked literals i marks h l low k m = go (dec_lt k (length marks))
  where
    w : ℕ
    w = get_or marks k 0

    below : (bit w m ≡ true) ⊎ (eqb m i ≡ true) → m < 64
    below (inl e) = low k m e
    below (inr e) = omega (arith, eqb-true m i e)

    set : Bool
    set = bit w m || eqb m i

    turned : bit (turn (2 ^ i) 0 w) m ≡ set
    turned = bit_of_and (bit_or w (2 ^ i)) (2 ^ 64 - 1) m ∙ rw (bit_of_or w (2 ^ i) m, bit_pow i m, bit_ones 64 m) (same_test (set && ltb m 64) set (λ e. and_l set (ltb m 64) e) (λ e. and_i e (lt-ltb m 64 (below (or_cases (bit w m) (eqb m i) e)))))

    by : (x : Bool) → bit (cond x (turn (2 ^ i) 0 w) w) m ≡ (bit w m || (x && eqb m i))
    by true = turned
    by false = sym (or-false (bit w m))

    go : Dec (k < length marks) → bit (get_or (turn_words (2 ^ i) 0 literals marks) k 0) m ≡ (bit w m || (bit literals k && eqb m i))
    go (yes q) = ap (λ (x : ℕ). bit x m) (turn_at (2 ^ i) 0 literals marks k q) ∙ by (bit literals k)
    go (no q) =
        let a : get_or (turn_words (2 ^ i) 0 literals marks) k 0 ≡ 0 = get_or-eq_default (turn_words (2 ^ i) 0 literals marks) 0 (omega (arith, turn_length (2 ^ i) 0 literals marks)) in
        let b : w ≡ 0 = get_or-eq_default marks 0 (omega arith) in
        rw (a, b, bit_zero m, bit_high (length marks) literals k h (omega arith)) refl

-- ---- the words of the constraints before i

-- the entries of constraint i are those of what it is decoded as
pub entries_by : {bs : List ℕ} {i : ℕ} {l : Constraint} → Unpacked bs i l → (h : ℕ) → any (λ (e : Term). eqb e.index h) (entries_of (constraint_of bs i)) ≡ any (λ (e : ℕ). eqb e h) (entries_in l)
entries_by {l = l} u h = ap (λ (x : calculus.Constraint). any (λ (e : Term). eqb e.index h) (entries_of x)) u.is ∙ ap (any (λ (e : Term). eqb e.index h)) (entries_as l) ∙ any_map (λ (e : Term). eqb e.index h) term (entries_in l)

abbrev FilledAt : List ℕ → List ℕ → ℕ → Type 0
FilledAt bs entries k = ((h : ℕ) → bit (get_or entries k 0) h ≡ any (λ (e : Term). eqb e.index h) (entries_of (constraint_of bs k))) × (get_or entries k 0 < 2 ^ 64)

pub record Filled (bs entries marks : List ℕ) (i : ℕ) : Type 0 where
  pub long : length entries ≡ most_constraints
  pub listed : (k : ℕ) → k < i → FilledAt bs entries k
  pub needed : (k : ℕ) → k < i → (w : ℕ) × NeedsOf (constraint_of bs k) w × ((h : ℕ) → bit w h ≡ true → bit (get_or marks h 0) k ≡ true)
  pub low : (h k : ℕ) → bit (get_or marks h 0) k ≡ true → k < i
  pub in_problem : i ≤ length (constraints_of (read bs))

pub fill_start : (bs : List ℕ) → Filled bs (replicate most_constraints 0) (replicate mark_count 0) 0
fill_start bs = record { long = refl; listed = λ k l. absurd (omega arith); needed = λ k l. absurd (omega arith); low = λ h k e. clash e (ap (λ (x : ℕ). bit x k) (zeros mark_count h) ∙ bit_zero k); in_problem = omega arith }

pub fill_next : {bs entries marks after : List ℕ} {i : ℕ} {l : Constraint} {w literals one : ℕ} → Filled bs entries marks i → (tab : Table) → Opened bs tab → i < tab.constraints → Unpacked bs i l → EntryBits (entries_in l) w → NeedsOf (decoded l) literals → literals < 2 ^ length marks → one ≡ 2 ^ i → after ≡ turn_words one 0 literals marks → Filled bs (set entries i w) after (i + 1)
fill_next {bs} {entries} {marks} {after} {i} {w = w} {literals} f tab o t u b n s p q = record {
  long = length-set entries i w ∙ f.long;
  listed = λ k l. entry k l (ℕ_discrete k i);
  needed = λ k l. need k l (ℕ_discrete k i);
  low = λ h k e. lower h k (or_cases (bit (get_or marks h 0) k) (bit literals h && eqb k i) (sym (m h k) ∙ e));
  in_problem = omega (arith, constraint_count bs tab o);
}
  where
    below : i < most_constraints
    below = omega (arith, (opened_sizes bs tab o).0)

    m : Marked literals i marks after
    m = rw (q, p) (marked literals i marks s (omega (arith, below)) (λ k h e. omega (arith, f.low k h e, below)))

    entry : (k : ℕ) → k < i + 1 → Dec (k ≡ i) → FilledAt bs (set entries i w) k
    entry k l (yes e) = rw (e, get_or-set_same entries i w 0 (omega (arith, f.long, below))) (λ h. b.bits h ∙ sym (entries_by u h), b.small)
    entry k l (no e) = rw (get_or-set_other entries i k w 0 e) (f.listed k (omega arith))

    need : (k : ℕ) → k < i + 1 → Dec (k ≡ i) → (x : ℕ) × NeedsOf (constraint_of bs k) x × ((h : ℕ) → bit x h ≡ true → bit (get_or after h 0) k ≡ true)
    need k l (yes e) = (literals, rw (e, u.is) n, λ h q. m h k ∙ or_r (bit (get_or marks h 0) k) (and_i q (eq-eqb k i e)))
    need k l (no e) = let v = f.needed k (omega arith) in (v.0, v.1, λ h q. m h k ∙ or_l (bit literals h && eqb k i) (v.2 h q))

    lower : (h k : ℕ) → (bit (get_or marks h 0) k ≡ true) ⊎ ((bit literals h && eqb k i) ≡ true) → k < i + 1
    lower h k (inl e) = omega (arith, f.low h k e)
    lower h k (inr e) = omega (arith, eqb-true k i (and_r (bit literals h) (eqb k i) e))

pub fill_end : {bs entries marks : List ℕ} {i : ℕ} → Filled bs entries marks i → (tab : Table) → Opened bs tab → tab.constraints ≤ i → WordsOf (constraints_of (read bs)) entries marks
unfolding constraint_of
fill_end {bs} {i = i} f tab o e =
    let n = constraint_count bs tab o in
    record {
      listed = λ k l. (f.listed k (omega arith)).0;
      small = λ k l. (f.listed k (omega arith)).1;
      needing = λ k l j h r q. let v = f.needed k (omega arith) in v.2 h ((v.1.rules j r).needing h q);
      paired = λ k l j r q. let v = f.needed k (omega arith) in v.2 pair_mark ((v.1.rules j r).paired q);
      splits = λ k l j v. let w = f.needed k (omega arith) in w.2 split_mark (w.1.splits j v);
      low = λ h _ k q. omega (arith, f.low h k q, f.in_problem);
    }
