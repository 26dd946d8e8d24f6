-- The bits of the words that the code makes of a branch's rows: bit h is the code's test at root h, since each row's bit says that h is a root and the literal known.
use mathlib.Core.Path.{◌≡◌, refl, sym, ◌∙◌, ap, ap₂, fun_ext}
use mathlib.Core.Bool.{Bool, true, false, ◌&&◌, ◌||◌, not, cond}
use mathlib.Core.List.{List}
use Prim.Native.Nat.{ℕ, ◌+◌, ◌-◌, ◌^◌, ◌<◌}
use native.Mathlib.Omega.{arith}
use lib.ListN.{get_or}
use lib.Dec.{eqb}
use lib.Bits.{bit_and, bit_or, and_lt, or_lt}
use lib.Pow.{pow-lt}
use borrow.Author.Tests.{lt-ltb, le-ltb}
use Rattle.calculus.specs.Limits.{most_sets, most_terms}
use Rattle.calculus.specs.Lists.{bit}
use Rattle.calculus.specs.Terms.{SetVar, term, set_var}
use Rattle.calculus.specs.Relations.{Rule, Operand, Literal, applies}
use Rattle.calculus.specs.Relations as R
use Rattle.calculus.specs.Branch.{Branch, root_at, inside, outside, In, Out}
use Rattle.calculus.specs.Branch as calculus
use Rattle.calculus.specs.Search.{fact_of, at}
use Rattle.calculus.proofs.Masks.{bit_of_or, bit_of_and, bit_pow}
use Rattle.calculus.specs.Relations.{operand_of}
use Rattle.calculus.proofs.RuleLaws.{operand_in, applies_map}
use Rattle.bits.proofs.Bits.{bit_without}
use Rattle.branch.specs.Rows.{literal_known, RowsOf, literal_count}
use Rattle.terms.specs.declared.SetVar.{SetVar as SetIndex}
use Rattle.rules.specs.declared.Literal.{Literal as Coded}
use Rattle.rules.specs.declared.Row.{Row}
use Rattle.rules.specs.declared.Split.{Split}
use Rattle.rules.specs.declared.Child.{Child}
use Rattle.rules.specs.Rows.{literal_number, head, second, last, child_at, last_child, left_operand, right_operand, laid, parted, child, denying}
use Rattle.fits.specs.Words.{Low, row_at, LowRow, LowSplit, LowChild, LowDenial, forced_word, decided_word, divided_word, met_word}
use Rattle.fits.proofs.Lowest.{at_one}

-- ---- literals: of a term t whose root is h

module _ (b : Branch) (t h : ℕ) (own : root_at b t ≡ h) where
  pub known_in : (X : SetVar) → X.index < most_sets → calculus.known b (In (term t) X) ≡ literal_known b X.index h
  known_in X l = ap (λ (k : ℕ). inside b (term k) X) own ∙ sym (ap (λ (q : Bool). cond q (inside b (term h) X) (outside b (term h) (set_var (X.index - most_sets)))) (lt-ltb X.index most_sets l))

  pub known_out : (X : SetVar) → X.index < most_sets → calculus.known b (Out (term t) X) ≡ literal_known b (most_sets + X.index) h
  known_out X l =
      let e : most_sets + X.index - most_sets ≡ X.index = omega arith in
      ap (λ (k : ℕ). outside b (term k) X) own
      ∙ sym (ap₂ (λ (q : Bool) (k : ℕ). cond q (inside b (term h) (set_var (most_sets + X.index))) (outside b (term h) (set_var k))) (le-ltb (most_sets + X.index) most_sets (omega arith)) e)

  module _ (A B C : SetVar) (low : (A.index < most_sets) × (B.index < most_sets) × (C.index < most_sets)) where
    literal_is_known : (l : Literal) → calculus.known b (fact_of (term t) (operand_of A B C) l) ≡ literal_known b (literal_number (operand_of A.index B.index C.index) l) h
    literal_is_known (R.In R.A) = known_in A low.0
    literal_is_known (R.In R.B) = known_in B low.1
    literal_is_known (R.In R.C) = known_in C low.2
    literal_is_known (R.Out R.A) = known_out A low.0
    literal_is_known (R.Out R.B) = known_out B low.1
    literal_is_known (R.Out R.C) = known_out C low.2

    -- a rule applies there by its literals' numbers
    pub applies_at : (r : Rule Literal) → applies (calculus.known b) (at (term t) (operand_of A B C) r) ≡ applies (λ (l : Literal). literal_known b (literal_number (operand_of A.index B.index C.index) l) h) r
    applies_at r = applies_map (fact_of (term t) (operand_of A B C)) (calculus.known b) r ∙ ap (λ (f : Literal → Bool). applies f r) (fun_ext literal_is_known)

-- ---- what the code lays out of a rule has rows

module _ (A B C : ℕ) (low : (A < most_sets) × (B < most_sets) × (C < most_sets)) where
  abbrev S : Operand → ℕ
  S = operand_of A B C

  operand_low : (p : Operand) → S p < most_sets
  operand_low = operand_in (λ k. k < most_sets) low

  pub number_low : (l : Literal) → literal_number S l < literal_count
  number_low (R.In p) = omega (arith, operand_low p)
  number_low (R.Out p) = omega (arith, operand_low p)

  pub laid_low : (r : Rule Literal) → LowRow (laid S r)
  laid_low r = (number_low (head r.premises), number_low (last r.premises), number_low (head (child_at 0 r)))

  pub parted_low : (r : Rule Literal) → LowSplit (parted S r)
  parted_low r = (number_low (head r.premises), operand_low (left_operand r), operand_low (right_operand r))

  pub child_low : (ls : List Literal) → LowChild (child S ls)
  child_low ls = (number_low (head ls), number_low (second ls), number_low (last ls))

  pub denying_low : (r : Rule Literal) → LowDenial (denying S r)
  denying_low r = (child_low (child_at 0 r), child_low (child_at 1 r), child_low (last_child r))

-- ---- words

forced_root : (t x y z : Bool) → (((t && x) && (t && y)) && not (t && z)) ≡ (t && ((x && y) && not z))
forced_root true x y z = refl
forced_root false x y z = refl

divided_root : (t x p q r s : Bool) → ((t && x) && not (((t && p) || (t && q)) || ((t && r) || (t && s)))) ≡ (t && (x && not ((p || q) || (r || s))))
divided_root true x p q r s = refl
divided_root false x p q r s = refl

met_root : (t x y z : Bool) → (((t && x) && (t && y)) && (t && z)) ≡ (t && ((x && y) && z))
met_root true x y z = refl
met_root false x y z = refl

module _ (b : Branch) (rows : List ℕ) (of : RowsOf b rows) where
  abbrev row : Coded → ℕ
  row l = row_at rows l

  small : (l : Coded) → Low l → row l < 2 ^ 64
  small l = of.small l.0

  decided_small : (a : SetIndex) → a.0 < most_sets → decided_word rows a < 2 ^ 64
  decided_small a l = or_lt 64 (get_or rows a.0 0) (get_or rows (most_sets + a.0) 0) (of.small a.0 (omega arith)) (of.small (most_sets + a.0) (omega arith))

  pub met_small : (c : Child) → LowChild c → met_word rows c < 2 ^ 64
  met_small c (p, q, r) = and_lt 64 (bit_and (row c.0) (row c.1)) (row c.2) (and_lt 64 (row c.0) (row c.1) (small c.0 p) (small c.1 q)) (small c.2 r)

  module _ (h : ℕ) (l : h < most_terms) where
    abbrev own : Bool
    own = eqb (root_at b h) h

    abbrev K : Coded → Bool
    K k = literal_known b k.0 h

    says : (k : Coded) → Low k → bit (row k) h ≡ (own && K k)
    says k p = of.says k.0 h p l

    pub forced_bits : (r : Row) → LowRow r → bit (forced_word rows r) h ≡ (own && ((K r.0 && K r.1) && not (K r.2)))
    forced_bits r (x, y, z) =
        bit_without 64 (bit_and (row r.0) (row r.1)) (row r.2) h (and_lt 64 (row r.0) (row r.1) (small r.0 x) (small r.1 y)) (small r.2 z)
        ∙ ap₂ (λ (m n : Bool). m && not n) (bit_of_and (row r.0) (row r.1) h ∙ ap₂ ◌&&◌ (says r.0 x) (says r.1 y)) (says r.2 z)
        ∙ forced_root own (K r.0) (K r.1) (K r.2)

    decided_bits : (a : SetIndex) → a.0 < most_sets → bit (decided_word rows a) h ≡ ((own && literal_known b a.0 h) || (own && literal_known b (most_sets + a.0) h))
    decided_bits a p = bit_of_or (get_or rows a.0 0) (get_or rows (most_sets + a.0) 0) h ∙ ap₂ ◌||◌ (of.says a.0 h (omega arith) l) (of.says (most_sets + a.0) h (omega arith) l)

    pub divided_bits : (s : Split) → LowSplit s → bit (divided_word rows s) h ≡ (own && (K s.0 && not ((literal_known b s.1.0 h || literal_known b (most_sets + s.1.0) h) || (literal_known b s.2.0 h || literal_known b (most_sets + s.2.0) h))))
    divided_bits s (p, q, r) =
        bit_without 64 (row s.0) (bit_or (decided_word rows s.1) (decided_word rows s.2)) h (small s.0 p) (or_lt 64 (decided_word rows s.1) (decided_word rows s.2) (decided_small s.1 q) (decided_small s.2 r))
        ∙ ap₂ (λ (m n : Bool). m && not n) (says s.0 p) (bit_of_or (decided_word rows s.1) (decided_word rows s.2) h ∙ ap₂ ◌||◌ (decided_bits s.1 q) (decided_bits s.2 r))
        ∙ divided_root own (K s.0) (literal_known b s.1.0 h) (literal_known b (most_sets + s.1.0) h) (literal_known b s.2.0 h) (literal_known b (most_sets + s.2.0) h)

    pub met_bits : (c : Child) → LowChild c → bit (met_word rows c) h ≡ (own && ((K c.0 && K c.1) && K c.2))
    met_bits c (p, q, r) =
        bit_of_and (bit_and (row c.0) (row c.1)) (row c.2) h ∙ ap₂ ◌&&◌ (bit_of_and (row c.0) (row c.1) h ∙ ap₂ ◌&&◌ (says c.0 p) (says c.1 q)) (says c.2 r)
        ∙ met_root own (K c.0) (K c.1) (K c.2)

-- one root, but not where a word has it
pub but_bits : (r w : ℕ) → r < most_terms → w < 2 ^ 64 → (h : ℕ) → bit (bit_and (2 ^ r) (2 ^ 64 - 1 - w)) h ≡ (eqb h r && not (bit w r))
but_bits r w l s h = bit_without 64 (2 ^ r) w h (pow-lt l) s ∙ ap (λ (q : Bool). q && not (bit w h)) (bit_pow r h) ∙ at_one (λ k. not (bit w k)) h r

-- but not where any of three has it
pub but_three : (r x y z : ℕ) → r < most_terms → x < 2 ^ 64 → y < 2 ^ 64 → z < 2 ^ 64 → (h : ℕ) → bit (bit_and (bit_and (bit_and (2 ^ r) (2 ^ 64 - 1 - x)) (2 ^ 64 - 1 - y)) (2 ^ 64 - 1 - z)) h ≡ (eqb h r && ((not (bit x r) && not (bit y r)) && not (bit z r)))
but_three r x y z l p q s h =
    let one : 2 ^ r < 2 ^ 64 = pow-lt l in
    let n : (m : ℕ) → 2 ^ 64 - 1 - m < 2 ^ 64 = λ m. omega (arith, one) in
    let u : bit_and (2 ^ r) (2 ^ 64 - 1 - x) < 2 ^ 64 = and_lt 64 (2 ^ r) (2 ^ 64 - 1 - x) one (n x) in
    bit_without 64 (bit_and (bit_and (2 ^ r) (2 ^ 64 - 1 - x)) (2 ^ 64 - 1 - y)) z h (and_lt 64 (bit_and (2 ^ r) (2 ^ 64 - 1 - x)) (2 ^ 64 - 1 - y) u (n y)) s
    ∙ ap (λ (t : Bool). t && not (bit z h)) (bit_without 64 (bit_and (2 ^ r) (2 ^ 64 - 1 - x)) y h u q ∙ ap (λ (t : Bool). t && not (bit y h)) (bit_without 64 (2 ^ r) x h one p ∙ ap (λ (t : Bool). t && not (bit x h)) (bit_pow r h)))
    ∙ three (eqb h r) (not (bit x h)) (not (bit y h)) (not (bit z h)) ∙ at_one (λ k. (not (bit x k) && not (bit y k)) && not (bit z k)) h r
  where
    three : (a x y z : Bool) → (((a && x) && y) && z) ≡ (a && ((x && y) && z))
    three true x y z = refl
    three false x y z = refl
