-- Solved forms: their records, what they state, and their models.
use Rattle.std.specs.Prelude.{◌≡◌, Bool, true, ◌&&◌, List, [], ◌∷◌, map, ℕ, zero, suc, ◌+◌, ◌*◌, ◌<◌, length, get_or, take, drop, eqb, ℤ, pos}
use Rattle.std.proofs.Math.Option.{Option, none, some}
use Rattle.calculus.specs.Limits.{term_bytes}
use Rattle.calculus.specs.Lists.{up_from, bit, keep, first, Each}
use Rattle.calculus.specs.Terms.{Term, SetVar, term, set_var, terms_from}
use Rattle.calculus.specs.Meaning.{◌∈◌, Valuation, Holds}
use Rattle.calculus.specs.Branch.{Branch, root_at}
use Rattle.calculus.specs.Problem.{Problem, constant_count, term_count, set_count, constant_terms, Assignment, values}
use Rattle.calculus.specs.Encoding.{Handed}

-- ---- a record: of each term its root, inside mask and outside mask

-- from term number t on, of n terms; a term shows its root's masks
abbrev pub record_from : Branch → ℕ → ℕ → List ℕ
record_from b t zero = []
record_from b t (suc n) = root_at b t ∷ get_or b.insides (root_at b t) 0 ∷ get_or b.outsides (root_at b t) 0 ∷ record_from b (suc t) n

abbrev pub record_of : ℕ → Branch → List ℕ
record_of n b = record_from b 0 n

-- the bytes of a record of n terms
unfoldable pub record_length : ℕ → ℕ
record_length n = term_bytes * n

-- the root that a record gives term t: past the record's end, t itself
unfoldable pub root_in : List ℕ → ℕ → ℕ
root_in r t = get_or r (term_bytes * t) t

-- the sets that it is known to be in, as a mask
unfoldable pub inside_in : List ℕ → ℕ → ℕ
inside_in r t = get_or r (term_bytes * t + 1) 0

-- the sets that it is known to be out of
unfoldable pub outside_in : List ℕ → ℕ → ℕ
outside_in r t = get_or r (term_bytes * t + 2) 0

-- the listed forms: the first c records, of n terms each, of a form buffer
abbrev pub listed_forms : ℕ → ℕ → List ℕ → List (List ℕ)
listed_forms n zero bs = []
listed_forms n (suc c) bs = take (record_length n) bs ∷ listed_forms n c (drop (record_length n) bs)

-- ---- what a record states

-- A record's merges and facts are true of a valuation: every term has its root's value, and that value is in each set of the inside mask and in no set of the outside mask.
pub record Agrees (n : ℕ) (v : Valuation) (r : List ℕ) : Type 0 where
  pub merges : (t : ℕ) → t < n → v.num (term t) ≡ v.num (term (root_in r t))
  pub insides : (t : ℕ) (A : SetVar) → t < n → bit (inside_in r t) A.index ≡ true → v.num (term t) ∈ v.members A
  pub outsides : (t : ℕ) (A : SetVar) → t < n → bit (outside_in r t) A.index ≡ true → ¬ (v.num (term t) ∈ v.members A)

-- As a statement a form is its merges, its facts and the problem's constraints: the assignment satisfies it if, with some whole number for each witness, all are true.
abbrev pub SatisfiesForm : Problem → Assignment → List ℕ → Type 0
SatisfiesForm prob g r = (witness : Term → ℤ) × Agrees (term_count prob) (values prob g witness) r × Each (Holds (values prob g witness)) prob.constraints

-- ---- the model (document 01: the worked setting)

-- the root that a record gives a term
abbrev pub record_root : List ℕ → Term → Term
record_root r t = term (root_in r t.index)

-- a class with a constant has that value; any other has 32,001 + its root
abbrev pub value_by : Problem → Term → Option Term → ℤ
value_by prob h (some i) = get_or prob.constants i.index (pos 0)
value_by prob h none = pos (32001 + h.index)

-- the value of the class of root h, where root_of gives each term's root
abbrev pub class_value : Problem → (Term → Term) → Term → ℤ
class_value prob root_of h = value_by prob h (first (λ (i : Term). eqb (root_of i).index h.index) (constant_terms prob))

abbrev pub model_number : Problem → List ℕ → Term → ℤ
model_number prob r t = class_value prob (record_root r) (record_root r t)

-- t is a root, and its class is known to be in A
abbrev pub root_inside : List ℕ → SetVar → Term → Bool
root_inside r A t = eqb (root_in r t.index) t.index && bit (inside_in r t.index) A.index

-- a set holds the values of the classes known to be in it
abbrev pub model : Problem → List ℕ → Assignment
model prob r = record {
  number = λ i. model_number prob r (term (constant_count prob + i));
  members = λ A. map (model_number prob r) (keep (root_inside r A) (terms_from 0 (term_count prob)));
}

-- the model as an assignment to hand in: the variables' numbers in order, then each set's members
abbrev pub handed_model : Problem → List ℕ → Handed
handed_model prob r = record {
  numbers = map (model prob r).number (up_from 0 (length prob.variables));
  sets = map (λ A. (model prob r).members (set_var A)) (up_from 0 (set_count prob));
}
