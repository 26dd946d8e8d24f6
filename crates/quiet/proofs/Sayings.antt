-- A rule as a rule on what is said of one class: a literal by its number, or that a term is in the class.
use mathlib.Core.Path.{◌≡◌, sym, ap, ap₂, ◌∙◌}
use mathlib.Core.Bool.{Bool, true, false, ◌&&◌, ◌||◌, not}
use mathlib.Core.List.{List, [], ◌∷◌, map}
use Prim.Native.Nat.{ℕ, ◌<◌}
use lib.Dec.{eqb}
use Rattle.calculus.specs.Limits.{most_sets}
use Rattle.calculus.specs.Lists.{all, any}
use Rattle.calculus.specs.Terms.{Term, SetVar, term}
use Rattle.calculus.specs.Relations.{Rule, Literal, applies, map_rule, operand_of}
use Rattle.calculus.specs.Branch.{Branch, root_at, Same, known}
use Rattle.calculus.specs.Search.{at, choose}
use Rattle.calculus.proofs.Bools.{any_map}
use Rattle.calculus.proofs.RuleLaws.{applies_map}
use Rattle.branch.specs.Rows as rows
use Rattle.rules.specs.Rows.{literal_number}
use Rattle.fits.proofs.RowBits.{known_in, applies_at}

pub data Saying : Type 0 where
  literal : ℕ → Saying
  holds : Term → Saying

abbrev pub says : Branch → ℕ → Saying → Bool
says b h (literal k) = rows.literal_known b k h
says b h (holds u) = eqb h (root_at b u.index)

-- a literal of a row, a row of the tables, and rule 20
abbrev pub literal_of : (A B C : SetVar) → Literal → Saying
literal_of A B C x = literal (literal_number (operand_of A.index B.index C.index) x)

abbrev pub tabled : (A B C : SetVar) → Rule Literal → Rule Saying
tabled A B C r = map_rule (literal_of A B C) r

abbrev pub chosen : SetVar → List Term → Rule Saying
chosen A es = record { rule = 20; premises = literal A.index ∷ []; blockers = map (λ (e : Term). holds e ∷ []) es; alternatives = [] }

-- a rule that one fact blocks
pub once : {x y : Bool} → x ≡ y → not ((x && true) || false) ≡ not ((y && true) || false)
once e = ap (λ (z : Bool). not ((z && true) || false)) e

-- at a term t whose root is h
module _ (b : Branch) (t h : ℕ) (own : root_at b t ≡ h) where
  pub tabled_said : (A B C : SetVar) → (A.index < most_sets) × (B.index < most_sets) × (C.index < most_sets) → (r : Rule Literal) → applies (known b) (at (term t) (operand_of A B C) r) ≡ applies (says b h) (tabled A B C r)
  tabled_said A B C low r = applies_at b t h own A B C low r ∙ sym (applies_map (literal_of A B C) (says b h) r)

  pub chosen_said : (A : SetVar) → A.index < most_sets → (es : List Term) → applies (known b) (choose [] b A es (term t)) ≡ applies (says b h) (chosen A es)
  chosen_said A low es = ap₂ (λ (x y : Bool). (x && true) && not y) (known_in b t h own A low)
      (any_map (all (known b)) (λ (e : Term). Same (term t) e ∷ []) es
      ∙ ap (λ (r : ℕ). any (λ (e : Term). eqb r (root_at b e.index) && true) es) own
      ∙ sym (any_map (all (says b h)) (λ (e : Term). holds e ∷ []) es))
