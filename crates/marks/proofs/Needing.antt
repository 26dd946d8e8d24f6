-- What the rules of a constraint need, as bits of a word. A relation's rule needs its first premise and its last. That these are two shows at three sets that differ: one test over all rows.
use mathlib.Core.Path.{◌≡◌, refl, sym, ap, ◌∙◌, subst}
use mathlib.Core.Logic.{◌⊎◌, inl, inr}
use mathlib.Core.Bool.{Bool, true, false, ◌&&◌, not, false≢true, or-false}
use mathlib.Core.List.{List, [], ◌∷◌, ◌++◌}
use Prim.Native.Nat.{ℕ, zero, suc, ◌+◌, ◌-◌, ◌^◌, ◌<◌, ◌≤◌}
use native.Mathlib.Omega.{arith}
use native.Mathlib.Decide.{ℕ_discrete}
use lib.ListN.{length, get_or}
use lib.Dec.{eqb, ltb}
use lib.Bits.{bit_or, or_lt}
use lib.Pow.{pow-lt}
use borrow.Author.Tests.{eq-eqb, eqb-true, eqb-false, ltb-true}
use Rattle.calculus.specs.Limits.{most_sets}
use Rattle.calculus.specs.Lists.{imp, all, any, bit}
use Rattle.calculus.specs.Terms.{SetVar, set_var}
use Rattle.calculus.specs.Relations.{Rule, Relation, Negation, equal, union, disjoint, subset, intersection, unequal, Literal, Operand, operand_of, propagation, rows, negation_row}
use Rattle.calculus.specs.Relations as R
use Rattle.calculus.specs.Meaning.{Constraint, relation}
use Rattle.calculus.proofs.Bools.{clash, and_l, and_r, or_cases, or_l, or_r, imp_at, not_t}
use Rattle.bits.proofs.Bits.{bit_of_or, bit_pow}
use Rattle.problem.specs.Table.{kind_of}
use Rattle.places.specs.Places.{propagation_span, split_span, InSpan, RuleOf, row_of}
use Rattle.terms.specs.declared.SetVar.{SetVar as CodedSet}
use Rattle.constraints.specs.declared.Relation.{Relation as CodedRelation}
use Rattle.constraints.specs.declared.Constraint.TheVariants.{Related, Listed}
use Rattle.constraints.specs.declared.Entries.{Entries}
use Rattle.constraints.specs.declared.Entries.TheVariants.{Written, Interval}
use Rattle.constraints.specs.Decoded.{relation_of, decoded}
use Rattle.constraints.specs.declared.Operands.{Operands}
use Rattle.std.proofs.Common.{Bor}
use Rattle.rules.specs.declared.Row.{Row}
use Rattle.rules.specs.declared.Split.{Split}
use Rattle.rules.specs.Spans.{Spanned}
use Rattle.rules.specs.Rows.{HasRow, sets, numbered, literal_number, head, last, laid, parted}
use Rattle.fits.proofs.TableTests.{row_of_relation}
use Rattle.fits.specs.Words.{LowRow}
use Rattle.fits.proofs.RowBits.{laid_low}
use Rattle.quiet.specs.Quiet.{needs, pairs, pair_mark, split_mark, mark_count, rest_mark}
use Rattle.marks.specs.Marks.{Premised, RuleNeeds, NeedsOf}

-- ---- bits of a word

bit_left : (a b k : ℕ) → bit a k ≡ true → bit (bit_or a b) k ≡ true
bit_left a b k e = bit_of_or a b k ∙ or_l (bit b k) e

bit_right : (a b k : ℕ) → bit b k ≡ true → bit (bit_or a b) k ≡ true
bit_right a b k e = bit_of_or a b k ∙ or_r (bit a k) e

bit_own : (k : ℕ) → bit (2 ^ k) k ≡ true
bit_own k = bit_pow k k ∙ eq-eqb k k refl

pow_small : (k : ℕ) → k < rest_mark → 2 ^ k < 2 ^ rest_mark
pow_small k h = pow-lt {j = rest_mark} h

-- ---- rows

-- what holds of each row of the tables holds of every rule's
each_row : (p : Rule Literal → Bool) → all p (rows equal ++ negation_row unequal ∷ rows union ++ rows disjoint ++ rows subset ++ rows intersection) ≡ true → p (propagation 0 [] (R.In R.A)) ≡ true → (j : ℕ) → p (numbered j) ≡ true
each_row p a e j = go (rows equal ++ negation_row unequal ∷ rows union ++ rows disjoint ++ rows subset ++ rows intersection) a (j - 5)
  where
    go : (rs : List (Rule Literal)) → all p rs ≡ true → (i : ℕ) → p (get_or rs i (propagation 0 [] (R.In R.A))) ≡ true
    go [] a i = e
    go (r ∷ rs) a zero = and_l (p r) (all p rs) a
    go (r ∷ rs) a (suc i) = go rs (and_r (p r) (all p rs) a) i

-- it has at most two premises, and two of them differ at three sets that do
few_premises : (j : ℕ) → ltb (length (numbered j).premises) 3 ≡ true
few_premises = each_row (λ r. ltb (length r.premises) 3) refl refl

abbrev apart : Rule Literal → Bool
apart r = not (eqb (literal_number (operand_of 0 1 2) (head r.premises)) (literal_number (operand_of 0 1 2) (last r.premises)))

two_apart : (j : ℕ) → ltb 1 (length (numbered j).premises) ≡ true → apart (numbered j) ≡ true
two_apart j = imp_at (ltb 1 (length (numbered j).premises)) (apart (numbered j)) (each_row (λ r. imp (ltb 1 (length r.premises)) (apart r)) refl refl j)

-- what one of at most two has, the first or the last has
ends : (f : Literal → Bool) (ls : List Literal) → length ls < 3 → any f ls ≡ true → (f (head ls) ≡ true) ⊎ (f (last ls) ≡ true)
ends f [] l e = absurd (false≢true e)
ends f (x ∷ []) l e = inl (rw (or-false (f x)) at e)
ends f (x ∷ y ∷ []) l e = or_cases (f x) (f y) (rw (or-false (f y)) at e)
ends f (x ∷ y ∷ z ∷ ls) l e = absurd (omega arith)

-- ---- rules of a relation

module _ (k : Relation) (A B C j w : ℕ) where
  abbrev this : Constraint
  this = relation k (set_var A) (set_var B) (set_var C)

  abbrev s : Operand → ℕ
  s = operand_of A B C

  abbrev firsts : List Literal
  firsts = (numbered j).premises

  -- the premises are the first and the last
  by_row : row_of k j ≡ numbered j → bit w (literal_number s (head firsts)) ≡ true → bit w (literal_number s (last firsts)) ≡ true → (ltb 1 (length firsts) ≡ true → bit w pair_mark ≡ true) → RuleNeeds this j w
  by_row r x y z = record {
    needing = λ h e. go h (ends (λ (l : Literal). eqb (literal_number s l) h) firsts (ltb-true (length firsts) 3 (few_premises j)) (subst (λ (t : Rule Literal). any (λ (l : Literal). eqb (literal_number s l) h) t.premises ≡ true) r e));
    paired = λ e. z (subst (λ (t : Rule Literal). ltb 1 (length t.premises) ≡ true) r e);
  }
    where
      go : (h : ℕ) → (eqb (literal_number s (head firsts)) h ≡ true) ⊎ (eqb (literal_number s (last firsts)) h ≡ true) → bit w h ≡ true
      go h (inl q) = subst (λ (m : ℕ). bit w m ≡ true) (eqb-true (literal_number s (head firsts)) h q) x
      go h (inr q) = subst (λ (m : ℕ). bit w m ≡ true) (eqb-true (literal_number s (last firsts)) h q) y

-- the sets are below the limit
abbrev pub InRange : Operands → Type 0
InRange s = (s.0.0 < most_sets) × (s.1.0 < most_sets) × (s.2.0 < most_sets)

-- a row laid out has literals, and so has a split
pub row_low : {s : Operands} (j : ℕ) → InRange s → {x : Row} → x ≡ laid (sets s) (numbered j) → LowRow x
row_low {s} j low p = subst LowRow (sym p) (laid_low s.0.0 s.1.0 s.2.0 low (numbered j))

-- x is the rule laid out for its sets, and y for three that differ
module _ {s : Operands} (j : ℕ) (low : InRange s) {x y : Row} (p : x ≡ laid (sets s) (numbered j)) (q : y ≡ laid (operand_of 0 1 2) (numbered j)) {u v : ℕ} (m : u ≡ 2 ^ x.0.0) (n : v ≡ 2 ^ x.1.0) where
  abbrev both : ℕ
  both = bit_or u v

  both_small : both < 2 ^ rest_mark
  both_small = let l = row_low j low p in or_lt rest_mark u v (rw m (pow_small x.0.0 (omega (arith, l.0)))) (rw n (pow_small x.1.0 (omega (arith, l.1))))

  by_premises : (w : ℕ) → ((h : ℕ) → bit both h ≡ true → bit w h ≡ true) → (¬ (y.0.0 ≡ y.1.0) → bit w pair_mark ≡ true) → (k : CodedRelation) → RuleOf (decoded (Related k s)) j → RuleNeeds (decoded (Related k s)) j w
  by_premises w f z k r =
      by_row (relation_of k) s.0.0 s.1.0 s.2.0 j w (row_of_relation (relation_of k) (set_var s.0.0) (set_var s.1.0) (set_var s.2.0) j r).is
      (subst (λ (t : Row). bit w t.0.0 ≡ true) p (f x.0.0 (bit_left u v x.0.0 (rw m (bit_own x.0.0)))))
      (subst (λ (t : Row). bit w t.1.0 ≡ true) p (f x.1.0 (bit_right u v x.1.0 (rw n (bit_own x.1.0)))))
      (λ e. z (subst (λ (t : Row). ¬ (t.0.0 ≡ t.1.0)) (sym q) (eqb-false _ _ (not_t _ (two_apart j e)))))

  pub one_premise : y.0.0 ≡ y.1.0 → Premised s j both
  one_premise e = record { small = both_small; needed = by_premises both (λ h g. g) (λ z. absurd (z e)) }

  pub two_premises : {t : ℕ} → t ≡ 2 ^ pair_mark → Premised s j (bit_or both t)
  two_premises {t} e = record { small = or_lt rest_mark both t both_small (rw e (omega arith)); needed = by_premises (bit_or both t) (bit_left both t) (λ _. bit_right both t pair_mark (rw e (bit_own pair_mark))) }

-- rule 12 is the split, and no propagation rule
rule_12 : (k : Relation) (A B C : SetVar) (j : ℕ) → (InSpan (propagation_span (relation k A B C)) j → ¬ (j ≡ 12)) × (InSpan (split_span (relation k A B C)) j → j ≡ 12)
rule_12 equal A B C j = (λ s e. omega (arith, s.0, s.1), λ s. omega (arith, s.0, s.1))
rule_12 union A B C j = (λ s e. omega (arith, s.0, s.1), λ s. omega (arith, s.0, s.1))
rule_12 disjoint A B C j = (λ s e. omega (arith, s.0, s.1), λ s. omega (arith, s.0, s.1))
rule_12 subset A B C j = (λ s e. omega (arith, s.0, s.1), λ s. omega (arith, s.0, s.1))
rule_12 intersection A B C j = (λ s e. omega (arith, s.0, s.1), λ s. omega (arith, s.0, s.1))

-- ---- rules of a constraint

wider : {l : Constraint} {j w : ℕ} → RuleNeeds l j w → (v : ℕ) → ((k : ℕ) → bit w k ≡ true → bit v k ≡ true) → RuleNeeds l j v
wider r v f = record { needing = λ k e. f k (r.needing k e); paired = λ e. f pair_mark (r.paired e) }

-- a word has what the propagation rules before rule j need, and they end at end
pub record Before (l : Constraint) (j end word : ℕ) : Type 0 where
  pub begun : (propagation_span l).0 ≤ j
  pub ends : end ≡ (propagation_span l).1
  pub rules : (m : ℕ) → InSpan (propagation_span l) m → m < j → RuleNeeds l m word
  pub small : word < 2 ^ rest_mark

-- a list or an interval of set A
list_needs : {l : Constraint} (A : ℕ) → A < most_sets → ((j k : ℕ) → needs l j k ≡ (eqb j 20 && eqb A k)) → ((j : ℕ) → pairs l j ≡ false) → NeedsOf l (bit_or (bit_or (2 ^ A) (2 ^ rest_mark)) (2 ^ split_mark))
list_needs A h f g = record {
  rules = λ j r. record { needing = λ k z. subst (λ (m : ℕ). bit (bit_or both (2 ^ split_mark)) m ≡ true) (eqb-true A k (and_r (eqb j 20) (eqb A k) (sym (f j k) ∙ z))) (bit_left both (2 ^ split_mark) A (bit_left (2 ^ A) (2 ^ rest_mark) A (bit_own A))); paired = λ z. clash z (g j) };
  splits = λ j v. bit_right both (2 ^ split_mark) split_mark (bit_own split_mark);
  small = or_lt mark_count both (2 ^ split_mark) (or_lt mark_count (2 ^ A) (2 ^ rest_mark) (omega (arith, pow_small A (omega arith))) (omega arith)) (omega arith);
}
  where
    both : ℕ
    both = bit_or (2 ^ A) (2 ^ rest_mark)

-- a relation of sets that are in range
module _ (k : CodedRelation) (S : Operands) where
  abbrev related : Constraint
  related = decoded (Related k S)

  -- before its first propagation rule nothing is needed
  pub needs_start : {first end : ℕ} → Spanned false (kind_of related) first end → Before related first end 0
  needs_start h = let q = h related refl in record { begun = omega (arith, q.0); ends = q.1; rules = λ m v g. absurd (omega (arith, q.0, v.0)); small = omega arith }

  module _ {j end word : ℕ} (f : Before related j end word) where
    -- what `premises` is asked for
    pub premises_asked : InRange S → j < end → HasRow j S × (S.2.0 < most_sets)
    premises_asked r b =
        let v : InSpan (propagation_span related) j = (f.begun, omega (arith, f.ends)) in
        let t = row_of_relation (relation_of k) (set_var S.0.0) (set_var S.1.0) (set_var S.2.0) j (inl v) in
        (record { low = t.low; high = t.high; no_negation = t.no_seven; no_split = (rule_12 (relation_of k) (set_var S.0.0) (set_var S.1.0) (set_var S.2.0) j).0 v; low_pair = (r.0, r.1) }, r.2)

    pub needs_next : {w : ℕ} → Premised S j w → Before related (j + 1) end (bit_or word w)
    needs_next {w} g = record { begun = omega (arith, f.begun); ends = f.ends; rules = λ m v h. go m v h (ℕ_discrete m j); small = or_lt rest_mark word w f.small g.small }
      where
        go : (m : ℕ) → InSpan (propagation_span related) m → m < j + 1 → Dec (m ≡ j) → RuleNeeds related m (bit_or word w)
        go m v h (yes q) = wider (subst (λ (x : ℕ). RuleNeeds related x w) (sym q) (g.needed k (inl (subst (InSpan (propagation_span related)) q v)))) (bit_or word w) (λ x. bit_right word w x)
        go m v h (no q) = wider (f.rules m v (omega arith)) (bit_or word w) (λ x. bit_left word w x)

    -- past the last: without a split, and with one
    module _ {from to : ℕ} (over : end ≤ j) (g : Spanned true (kind_of related) from to) where
      needs_with : (w : ℕ) → w < 2 ^ mark_count → ((x : ℕ) → bit word x ≡ true → bit w x ≡ true) → ((m : ℕ) → InSpan (split_span related) m → RuleNeeds related m w × (bit w split_mark ≡ true)) → NeedsOf related w
      needs_with w s u z = record { rules = λ m r. go m r; splits = λ m v. (z m v).1; small = s }
        where
          go : (m : ℕ) → RuleOf related m → RuleNeeds related m w
          go m (inl v) = wider (f.rules m v (omega (arith, v.1, f.ends))) w u
          go m (inr v) = (z m v).0

      pub no_split : to ≤ from → NeedsOf related word
      no_split n = let q = g related refl in needs_with word (omega (arith, f.small)) (λ x y. y) (λ m v. absurd (omega (arith, q.0, q.1, v.0, v.1)))

      pub with_split : InRange S → {x : Split} → x ≡ parted (sets S) (numbered 12) → {v w : ℕ} → v ≡ 2 ^ x.0.0 → w ≡ 2 ^ split_mark → NeedsOf related (bit_or (bit_or word v) w)
      with_split r {x} p {v} {w} q o = needs_with all (or_lt mark_count (bit_or word v) w (or_lt mark_count word v (omega (arith, f.small)) (rw own (omega (arith, pow_small S.2.0 (omega (arith, r.2)))))) (rw o (omega arith))) (λ y z. bit_left (bit_or word v) w y (bit_left word v y z)) (λ m s. (there m s, bit_right (bit_or word v) w 18 (rw o (bit_own split_mark))))
        where
          all : ℕ
          all = bit_or (bit_or word v) w

          own : v ≡ 2 ^ S.2.0
          own = q ∙ ap (λ (y : Split). 2 ^ y.0.0) p

          set : bit all S.2.0 ≡ true
          set = bit_left (bit_or word v) w S.2.0 (bit_right word v S.2.0 (rw own (bit_own S.2.0)))

          there : (m : ℕ) → InSpan (split_span related) m → RuleNeeds related m all
          there m s =
              let z : m ≡ 12 = (rule_12 (relation_of k) (set_var S.0.0) (set_var S.1.0) (set_var S.2.0) m).1 s in
              let r : row_of (relation_of k) 12 ≡ numbered 12 = rw z at (row_of_relation (relation_of k) (set_var S.0.0) (set_var S.1.0) (set_var S.2.0) m (inr s)).is in
              rw z (by_row (relation_of k) S.0.0 S.1.0 S.2.0 12 all r set set (λ y. absurd (false≢true y)))

pub listed_needs : (k : Entries) {A : CodedSet} → A.0 < most_sets → {v w x : ℕ} → v ≡ 2 ^ A.0 → w ≡ 2 ^ rest_mark → x ≡ 2 ^ split_mark → (es : Bor (List ℕ)) → NeedsOf (decoded (Listed k A es)) (bit_or (bit_or v w) x)
listed_needs Written {A} l p q r es = rw (p, q, r) (list_needs A.0 l (λ j k. refl) (λ j. refl))
listed_needs (Interval t u) {A} l p q r es = rw (p, q, r) (list_needs A.0 l (λ j k. refl) (λ j. refl))
