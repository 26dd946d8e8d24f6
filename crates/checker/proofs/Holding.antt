-- What a decoded constraint names is there, and its test is the calculus's.
use mathlib.Core.Path.{◌≡◌, refl, sym, ap, ap₂, ◌∙◌, subst}
use mathlib.Core.Bool.{Bool, ◌&&◌}
use mathlib.Core.List.{List, [], ◌∷◌, map, map-map}
use Prim.Native.Nat.{ℕ, zero, suc, ◌+◌, ◌-◌, ◌<◌}
use native.Mathlib.Omega.{arith}
use lib.ListN.{length, get_or}
use lib.IntN.{ℤ}
use Rattle.std.specs.List.{All}
use Rattle.std.proofs.Common.{Bor}
use Rattle.calculus.specs.Lists.{all, Each}
use Rattle.calculus.specs.Terms.{Term, SetVar, term, set_var}
use Rattle.calculus.specs.Meaning.{Valuation}
use Rattle.calculus.specs.Problem.{nameable, set_count, Refers}
use Rattle.calculus.specs.Reading.{words}
use Rattle.calculus.specs.Check.{has, holds?}
use Rattle.calculus.proofs.Bools.{all_map}
use Rattle.calculus.proofs.Sequences.{each_at, terms_each}
use Rattle.calculus.proofs.ReadValid.{read_valid}
use Rattle.problem.specs.declared.table.Table.{Table}
use Rattle.problem.specs.Table.{problem_table, constraints_of, constraint_of, no_constraint}
use Rattle.problem.proofs.Access.{Read, opened}
use Rattle.terms.specs.declared.SetVar as codeSet
use Rattle.constraints.specs.declared.Constraint as code
use Rattle.constraints.specs.declared.Constraint.TheVariants.{Listed}
use Rattle.constraints.specs.declared.Entries.{Entries}
use Rattle.constraints.specs.declared.Entries.TheVariants.{Written, Interval}
use Rattle.constraints.specs.Decoded.{list_of, decoded}
use Rattle.checker.specs.declared.seen.Seen.{Seen}
use Rattle.checker.specs.Tested.{value_at, seen, entries_in}

-- ---- the operands of a constraint are there

module _ (s : Seen) {i : ℕ} (l : i < s.problem.table.constraints) where
  abbrev tab : Table
  tab = s.problem.table

  abbrev shown : Read s.problem.bytes.now tab
  shown = opened s.problem.bytes.now tab s.problem.opened

  abbrev cs : List ℤ
  cs = shown.prob.constants

  constants_count : length cs ≡ tab.constants
  unfolding problem_table
  constants_count = sym (ap (λ (t : Table). t.constants) shown.shows)

  -- of constraint i, which the code has decoded and knows to be k
  pub named : {c k : code.Constraint} → constraint_of s.problem.bytes.now i ≡ decoded c → c ≡ k → Refers cs (tab.constants + tab.variables) tab.sets (decoded k)
  unfolding problem_table constraint_of constraints_of
  named {c} {k} e f =
      let r = shown in
      let q : get_or r.prob.constraints i no_constraint ≡ decoded c = rw r.reads at e in
      let n : tab.constraints ≡ length r.prob.constraints = ap (λ (t : Table). t.constraints) r.shows in
      let v = each_at (Refers cs (nameable r.prob) (set_count r.prob)) r.prob.constraints no_constraint (read_valid s.problem.bytes.now r.prob r.reads).refers i (omega (arith, l, n)) in
      subst (Refers cs (tab.constants + tab.variables) tab.sets) (q ∙ ap decoded f)
      (subst (λ (t : Table). Refers cs (t.constants + t.variables) t.sets (get_or r.prob.constraints i no_constraint)) (sym r.shows) v)

  abbrev Below : ℕ → Type 0
  Below e = e < tab.constants + tab.variables

  below : (xs : List ℕ) → Each (λ (t : Term). Below t.index) (map term xs) → All Below xs
  below [] w k d h = absurd (omega arith)
  below (x ∷ xs) w zero d h = w.0
  below (x ∷ xs) w (suc k) d h = below xs w.1 k d (omega arith)

  -- a list's set and entries are there; an interval's entries are constants
  pub list_there : {c : code.Constraint} {k : Entries} {A : codeSet.SetVar} {es : Bor (List ℕ)} → constraint_of s.problem.bytes.now i ≡ decoded c → c ≡ Listed k A es → (A.0 < tab.sets) × All Below es.now
  list_there {k = Written} {es = es} e f = let r = named e f in (r.0, below es.now r.1)
  list_there {k = Interval x y} {es = es} e f =
      let r = named e f in
      (r.0, below es.now (subst (Each (λ (t : Term). Below t.index)) (sym r.4) (terms_each (λ (t : Term). Below t.index) x.0 (suc y.0 - x.0) (λ t g h. omega (arith, r.1, r.2, constants_count)))))

-- ---- the tests

exact : (v : Valuation) (k : Entries) (A : SetVar) (ts : List Term) → (all (has (map v.num ts)) (v.members A) && all (λ e. has (v.members A) (v.num e)) ts) ≡ holds? v (list_of k A ts)
exact v Written A ts = refl
exact v (Interval x y) A ts = refl

pub list_test : (s : Seen) (k : Entries) (m es : List ℕ) (A : ℕ) → words m ≡ (seen s).members (set_var A) → entries_in s es (words m) ≡ holds? (seen s) (list_of k (set_var A) (map term es))
list_test s k m es A q =
    ap (entries_in s es) q
    ∙ ap₂ (λ (x y : Bool). x && y)
    (ap (λ (ys : List ℤ). all (has ys) ((seen s).members (set_var A))) (sym (map-map (seen s).num term es)))
    (sym (all_map (λ (t : Term). has ((seen s).members (set_var A)) (value_at s t.index)) term es))
    ∙ exact (seen s) k (set_var A) (map term es)

-- the third set of a negation is its first
pub same_set : {A C : SetVar} {n : ℕ} → C ≡ A → A.index < n → C.index < n
same_set {n = n} e l = subst (λ (X : SetVar). X.index < n) (sym e) l
