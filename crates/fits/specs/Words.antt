-- Words of bits: the roots at which a rule applies.
use Rattle.std.specs.Prelude.{◌≡◌, Bool, true, false, ◌&&◌, not, cond, List, [], ◌∷◌, ℕ, ◌+◌, ◌-◌, ◌^◌, ◌≤◌, ◌<◌, get_or, eqb}
use Rattle.std.proofs.Math.Option
use Rattle.std.specs.Int.Bits.{bit_and, bit_or}
use Rattle.calculus.specs.Limits.{most_sets, most_terms}
use Rattle.calculus.specs.Lists.{Each, up_from, any, first, bit}
use Rattle.calculus.specs.Meaning.{Constraint}
use Rattle.calculus.specs.Branch.{Branch}
use Rattle.calculus.specs.Invariants.{ConstraintIn}
use Rattle.branch.specs.Held.{root_of}
use Rattle.branch.specs.Rows.{RowsOf, literal_count}
use Rattle.terms.specs.declared.SetVar.{SetVar}
use Rattle.rules.specs.declared.Literal.{Literal}
use Rattle.rules.specs.declared.Row.{Row}
use Rattle.rules.specs.declared.Split.{Split}
use Rattle.rules.specs.declared.Child.{Child}
use Rattle.rules.specs.declared.Denial.{Denial}
use Rattle.constraints.specs.declared.Constraint.{Constraint as Coded}
use Rattle.constraints.specs.declared.Constraint.TheVariants.{Member, Nonmember, Same, Different, Related, Negated, Listed}
use Rattle.constraints.specs.Decoded.{decoded, entries_in, Handled}
use Rattle.places.specs.Places.{RuleOf, move_at, first_at}

abbrev pub Low : Literal → Type 0
Low l = l.0 < literal_count

abbrev pub row_at : List ℕ → Literal → ℕ
row_at rows l = get_or rows l.0 0

-- a rule's literals have rows, and its sets are below the limit
abbrev pub LowRow : Row → Type 0
LowRow r = Low r.0 × Low r.1 × Low r.2

abbrev pub LowSplit : Split → Type 0
LowSplit s = Low s.0 × (s.1.0 < most_sets) × (s.2.0 < most_sets)

abbrev pub LowChild : Child → Type 0
LowChild c = Low c.0 × Low c.1 × Low c.2

abbrev pub LowDenial : Denial → Type 0
LowDenial d = LowChild d.0 × LowChild d.1 × LowChild d.2

-- of a propagation rule
abbrev pub forced_word : List ℕ → Row → ℕ
forced_word rows r = bit_and (bit_and (row_at rows r.0) (row_at rows r.1)) (2 ^ 64 - 1 - row_at rows r.2)

-- the roots of which it is known whether they are in a set; and of a split
abbrev pub decided_word : List ℕ → SetVar → ℕ
decided_word rows a = bit_or (get_or rows a.0 0) (get_or rows (most_sets + a.0) 0)

abbrev pub divided_word : List ℕ → Split → ℕ
divided_word rows s = bit_and (row_at rows s.0) (2 ^ 64 - 1 - bit_or (decided_word rows s.1) (decided_word rows s.2))

-- the roots of which all literals of a child are known
abbrev pub met_word : List ℕ → Child → ℕ
met_word rows c = bit_and (bit_and (row_at rows c.0) (row_at rows c.1)) (row_at rows c.2)

-- of a negation's split, at root h
abbrev pub denied_word : List ℕ → Denial → ℕ → ℕ
denied_word rows d h = bit_and (bit_and (bit_and (2 ^ h) (2 ^ 64 - 1 - met_word rows d.0)) (2 ^ 64 - 1 - met_word rows d.1)) (2 ^ 64 - 1 - met_word rows d.2)

-- a word has the roots of the entries of a list as bits
abbrev pub RootBits : (parents list : List ℕ) → ℕ → Type 0
RootBits parents list word = (word < 2 ^ 64) × ((h : ℕ) → bit word h ≡ any (λ (e : ℕ). eqb (root_of parents e) h) list)

-- the root of the first entry that is not in a row
abbrev pub missed : List ℕ → ℕ → List ℕ → ℕ
missed parents row [] = 0
missed parents row (e ∷ es) = cond (bit row (root_of parents e)) (missed parents row es) (2 ^ root_of parents e)

-- a word has the entries of a list, which are terms below the limit, as bits
pub record EntryBits (list : List ℕ) (word : ℕ) : Type 0 where
  pub below : Each (λ e. e < most_terms) list
  pub bits : (h : ℕ) → bit word h ≡ any (λ (e : ℕ). eqb e h) list
  pub small : word < 2 ^ 64

-- a row has roots only
abbrev pub OfRoots : List ℕ → ℕ → Type 0
OfRoots parents row = (h : ℕ) → h < most_terms → bit row h ≡ true → root_of parents h ≡ h

-- of rules 19 and 20 of a set whose row this is, and its entries
pub record ByEntries (parents : List ℕ) (row : ℕ) (list : List ℕ) (j w : ℕ) : Type 0 where
  pub of_19 : OfRoots parents row → j ≡ 19 → w ≡ missed parents row list
  pub of_20 : OfRoots parents row → ¬ (j ≡ 19) → (h : ℕ) → h < most_terms → bit w h ≡ (bit row h && not (any (λ (e : ℕ). eqb (root_of parents e) h) list))

-- for splits the roots of a set that are no entries, else the entries that are no roots of it
abbrev pub unshared_of : List ℕ → ℕ → Bool → SetVar → ℕ
unshared_of rows entries split a = cond split (bit_and (get_or rows a.0 0) (2 ^ 64 - 1 - entries)) (bit_and entries (2 ^ 64 - 1 - get_or rows a.0 0))

-- what the test for that looks up is below the limits
abbrev pub Looked : Coded → Type 0
Looked (Member t A) = Unit {0}
Looked (Nonmember t A) = Unit {0}
Looked (Same t u) = Unit {0}
Looked (Different t u) = (t.0 < most_terms) × (u.0 < most_terms)
Looked (Related k s) = Unit {0}
Looked (Negated k s w) = Unit {0}
Looked (Listed k A es) = A.0 < most_sets

-- one test shows a constraint idle
abbrev pub rests_by : (parents rows : List ℕ) → ℕ → Bool → Coded → Bool
rests_by parents rows entries split (Member t A) = false
rests_by parents rows entries split (Nonmember t A) = false
rests_by parents rows entries split (Same t u) = false
rests_by parents rows entries split (Different t u) = eqb (bit_and (2 ^ root_of parents t.0) (2 ^ root_of parents u.0)) 0
rests_by parents rows entries split (Related k s) = false
rests_by parents rows entries split (Negated k s w) = false
rests_by parents rows entries split (Listed k A es) = eqb (unshared_of rows entries split A) 0

-- rule j of a constraint that is decoded as l, with its entries as bits
pub record Asked (word : ℕ) (l : Coded) (j : ℕ) : Type 0 where
  pub handled : Handled l
  pub of_rule : RuleOf (decoded l) j
  pub entries : EntryBits (entries_in l) word

-- the parents and rows are those of a branch
pub record Shown (b : Branch) (parents rows : List ℕ) : Type 0 where
  pub parents_are : b.parents ≡ parents
  pub rows_are : RowsOf b rows

-- of n terms, the first place where rule j of a constraint applies concerns the lowest bit of a word
abbrev pub Fits : ℕ → Branch → Constraint → ℕ → ℕ → Type 0
Fits n b l j w = Option.map (λ (p : ℕ). (move_at b l j p).0.index) (first_at n b l j) ≡ first (bit w) (up_from 0 n)

-- so it is in every branch that parents and rows are of
abbrev pub FitsFor : (parents rows : List ℕ) → Coded → (j w : ℕ) → Type 0
FitsFor parents rows l j w = (n : ℕ) (b : Branch) → n ≤ most_terms → ConstraintIn n most_sets (decoded l) → Shown b parents rows → Fits n b (decoded l) j w
