-- The items of a form's line, one by one.
use mathlib.Core.Path.{◌≡◌, refl, sym, ap, ◌∙◌, subst}
use mathlib.Core.List.{List, [], ◌∷◌, ◌++◌}
use Prim.Native.Nat.{ℕ, zero, suc, ◌+◌, ◌*◌, ◌-◌, ◌<◌, ◌≤◌}
use native.Mathlib.Omega.{arith}
use native.Mathlib.Nat.{zero-add, le_of_suc-le-suc}
use native.Mathlib.Numerals.{add-one}
use lib.ListN.{length, get_or, take, length-append, get_or-append}
use lib.Seq.{get_or-append-add, take-suc, take-length}
use lib.IntN.{ℤ, pos}
use Rattle.calculus.specs.Lists.{Each}
use Rattle.calculus.specs.Terms.{term, set_var}
use Rattle.calculus.specs.Problem.{Problem, constant_count, set_count}
use Rattle.calculus.specs.Encoding.{Handed}
use Rattle.calculus.specs.Forms.{model_number, model, handed_model}
use Rattle.calculus.proofs.Bools.{each_app, each_take}
use Rattle.calculus.proofs.Sequences.{long, at}
use Rattle.problem.specs.declared.table.Table.{Table}
use Rattle.text.specs.declared.Text.{Text}
use Rattle.text.specs.Text.{number, separated, braces, assigned, led, Says}
use Rattle.listing_lines.specs.declared.form.Form.{Form}
use Rattle.listing_lines.specs.Listing.{items, form_line}
use Rattle.listing_lines.specs.Writing.{problem_in, item_at}
use Rattle.text.proofs.Texts.{says_more}
use Rattle.text.proofs.Separating.{separated_more}
use Rattle.listing_lines.proofs.Values.{Known, known, letters}

-- ---- letters with their values

module _ {A : Type 0} (text : A → List ℕ) where
  assigned_length : (cs : List ℕ) (xs : List A) → length xs ≡ length cs → length (assigned text cs xs) ≡ length cs
  assigned_length [] xs e = refl
  assigned_length (c ∷ cs) [] e = absurd (omega (arith, e))
  assigned_length (c ∷ cs) (x ∷ xs) e = ap suc (assigned_length cs xs (omega (arith, e)))

  assigned_at : (cs : List ℕ) (xs : List A) (d : A) (k : ℕ) → length xs ≡ length cs → k < length cs → get_or (assigned text cs xs) k [] ≡ get_or cs k 0 ∷ 61 ∷ text (get_or xs k d)
  assigned_at [] xs d k e l = absurd (omega arith)
  assigned_at (c ∷ cs) [] d k e l = absurd (omega (arith, e))
  assigned_at (c ∷ cs) (x ∷ xs) d zero e l = refl
  assigned_at (c ∷ cs) (x ∷ xs) d (suc k) e l = assigned_at cs xs d k (omega (arith, e)) (le_of_suc-le-suc l)

  assigned_long : (cs : List ℕ) (xs : List A) → Each (λ x. 1 ≤ length x) (assigned text cs xs)
  assigned_long [] xs = tt
  assigned_long (c ∷ cs) [] = tt
  assigned_long (c ∷ cs) (x ∷ xs) = (omega arith, assigned_long cs xs)

module _ (prob : Problem) (r : List ℕ) where
  abbrev variables : ℕ
  variables = length prob.variables

  abbrev g : Handed
  g = handed_model prob r

  abbrev named : List (List ℕ)
  named = assigned number prob.variables g.numbers

  abbrev sets : List (List ℕ)
  sets = assigned braces prob.sets g.sets

  abbrev all : List (List ℕ)
  all = items prob g

  numbers_long : length g.numbers ≡ variables
  numbers_long = long (model prob r).number variables

  sets_long : length g.sets ≡ set_count prob
  sets_long = long (λ (A : ℕ). (model prob r).members (set_var A)) (set_count prob)

  pub items_length : length all ≡ variables + set_count prob
  items_length = omega (arith, length-append named sets, assigned_length number prob.variables g.numbers numbers_long, assigned_length braces prob.sets g.sets sets_long)

  pub item_variable : (k : ℕ) → k < variables → item_at prob r k ≡ get_or prob.variables k 0 ∷ 61 ∷ number (model_number prob r (term (constant_count prob + k)))
  item_variable k l =
      get_or-append named sets [] k (omega (arith, assigned_length number prob.variables g.numbers numbers_long))
      ∙ assigned_at number prob.variables g.numbers (pos 0) k numbers_long l
      ∙ ap (λ (z : ℤ). get_or prob.variables k 0 ∷ 61 ∷ number z) (at (model prob r).number 0 variables k k (pos 0) l (sym (zero-add k)))

  pub item_set : (k : ℕ) → variables ≤ k → k < variables + set_count prob → item_at prob r k ≡ get_or prob.sets (k - variables) 0 ∷ 61 ∷ braces ((model prob r).members (set_var (k - variables)))
  item_set k l m =
      let n : length named ≡ variables = assigned_length number prob.variables g.numbers numbers_long in
      let e : k ≡ length named + (k - variables) = omega (arith, n) in
      ap (λ (j : ℕ). get_or (named ++ sets) j []) e
      ∙ get_or-append-add named sets (k - variables) []
      ∙ assigned_at braces prob.sets g.sets [] (k - variables) sets_long (omega arith)
      ∙ ap (λ (zs : List ℤ). get_or prob.sets (k - variables) 0 ∷ 61 ∷ braces zs) (at (λ (A : ℕ). (model prob r).members (set_var A)) 0 (set_count prob) (k - variables) (k - variables) [] (omega arith) (sym (zero-add (k - variables))))

  -- ---- the line so far

  unfoldable pub items_text : ℕ → List ℕ
  items_text k = separated 32 (take k all)

  pub no_items : items_text 0 ≡ []
  unfolding items_text
  no_items = refl

  pub all_items : form_line prob r ≡ items_text (variables + set_count prob) ++ (10 ∷ [])
  unfolding form_line items_text
  all_items = ap (λ (l : List (List ℕ)). separated 32 l ++ (10 ∷ [])) (sym (ap (λ (n : ℕ). take n all) (sym items_length) ∙ take-length all))

  all_long : Each (λ x. 1 ≤ length x) all
  all_long = each_app (λ x. 1 ≤ length x) named sets (assigned_long number prob.variables g.numbers) (assigned_long braces prob.sets g.sets)

  items_more : (k start : ℕ) → k < variables + set_count prob → items_text (suc k) ≡ items_text k ++ (led 32 start (start + length (items_text k)) ++ item_at prob r k)
  unfolding items_text
  items_more k start l = ap (separated 32) (take-suc all k [] (omega (arith, l, items_length))) ∙ separated_more 32 start (take k all) (get_or all k []) (each_take (λ x. 1 ≤ length x) k all all_long)

  pub item_step : (k : ℕ) {a b c d : Text} → k < variables + set_count prob → a.end ≡ 0 → Says a (items_text k) b → b.end ≤ length a.buffer.now
      → Says b (led 32 0 b.end) c → Says c (item_at prob r k) d → Says a (items_text (k + 1)) d
  item_step k {a} {b} {c} {d} l z v s u w =
      let n : b.end ≡ 0 + length (items_text k) = omega (arith, v.ends, z) in
      let x : items_text k ++ (led 32 0 b.end ++ item_at prob r k) ≡ items_text (k + 1) = ap (λ (j : ℕ). items_text k ++ (led 32 0 j ++ item_at prob r k)) n ∙ sym (items_more k 0 l) ∙ ap items_text (sym (add-one k)) in
      subst (λ (y : List ℕ). Says a y d) x (says_more (omega (arith, z)) v (says_more (omega (arith, s, v.long)) u w))

-- ---- what the code reads

module _ (f : Form) (k : ℕ) where
  abbrev bs : List ℕ
  bs = f.problem.bytes.now

  abbrev tab : Table
  tab = f.problem.table

  abbrev r : List ℕ
  r = f.record.now

  abbrev K : Known f
  K = known f

  pub variable_there : k < tab.variables → 2 + 2 * tab.constants + k < length bs
  variable_there l = omega (arith, K.constants, ((letters f).variable k (omega (arith, l, K.variables))).0)

  pub variable_is : k < tab.variables → item_at (problem_in bs) r k ≡ (get_or bs (2 + 2 * tab.constants + k) 0 ∷ 61 ∷ []) ++ number (model_number (problem_in bs) r (term (tab.constants + k)))
  variable_is l =
      let m : k < length (problem_in bs).variables = omega (arith, l, K.variables) in
      item_variable (problem_in bs) r k m
      ∙ simp K.constants (ap (λ (c : ℕ). c ∷ 61 ∷ number (model_number (problem_in bs) r (term (constant_count (problem_in bs) + k)))) (sym ((letters f).variable k m).1))

  pub set_there : tab.variables ≤ k → k < tab.variables + tab.sets → 3 + 2 * tab.constants + k < length bs
  set_there l m = omega (arith, l, K.constants, K.variables, ((letters f).set (k - length (problem_in bs).variables) (omega (arith, l, m, K.variables, K.sets))).0)

  pub set_is : tab.variables ≤ k → k < tab.variables + tab.sets → item_at (problem_in bs) r k ≡ (get_or bs (3 + 2 * tab.constants + k) 0 ∷ 61 ∷ []) ++ braces ((model (problem_in bs) r).members (set_var (k - tab.variables)))
  set_is l m =
      let q = ((letters f).set (k - length (problem_in bs).variables) (omega (arith, l, m, K.variables, K.sets))).1 in
      let e : length (problem_in bs).variables + (k - length (problem_in bs).variables) ≡ k = omega (arith, l, K.variables) in
      item_set (problem_in bs) r k (omega (arith, l, K.variables)) (omega (arith, m, K.variables, K.sets))
      ∙ simp (K.constants, K.variables) (ap (λ (c : ℕ). c ∷ 61 ∷ braces ((model (problem_in bs) r).members (set_var (k - length (problem_in bs).variables)))) (sym q ∙ ap (λ (j : ℕ). get_or bs (3 + 2 * constant_count (problem_in bs) + j) 0) e))
