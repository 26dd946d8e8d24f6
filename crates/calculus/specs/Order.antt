-- Document 01's order of work a second time, as relations, without fuel and without the search of Search.antt: what asserting gives, what a record shows, which place is first, which children a step leaves, what a path is, and how a run goes. Of the first telling it uses branches with what they know, roots, start and assert (Branch.antt), which Reaches and Asserts (Demands.antt) describe, how a record is read (Forms.antt), and which terms are constants (Problem.antt).
use Rattle.std.specs.Prelude.{◌≡◌, ◌⊎◌, ◌↔◌, ◌≢◌, true, List, [], ◌∷◌, ◌++◌, map, ℕ, suc, ◌+◌, ◌≤◌, ◌<◌, length, get_or}
use Rattle.std.proofs.Math.Option.{Option, none, some}
use Rattle.calculus.specs.Lists.{Some, bit}
use Rattle.calculus.specs.Terms.{Term, SetVar, term, set_var}
use Rattle.calculus.specs.Relations.{equal, union, disjoint, subset, intersection, unequal}
use Rattle.calculus.specs.Meaning.{Constraint, member, nonmember, same, different, relation, negation, exactly, interval, Valuation, Holds}
use Rattle.calculus.specs.Branch.{Branch, start, root_at, root, Fact, In, Out, Same, known, assert}
use Rattle.calculus.specs.Problem.{Problem, term_count, constant_terms}
use Rattle.calculus.specs.Forms.{record_length, root_in, inside_in, outside_in}
use Rattle.calculus.specs.Calls.{Verdict, FORMS, FALSE, SPENT, NOROOM}

-- ---- what a branch knows

module _ (b : Branch) where
  abbrev pub KnownIn : Term → SetVar → Type 0
  KnownIn t A = known b (In t A) ≡ true

  abbrev pub KnownOut : Term → SetVar → Type 0
  KnownOut t A = known b (Out t A) ≡ true

  abbrev pub OneClass : Term → Term → Type 0
  OneClass t u = known b (Same t u) ≡ true

  -- what is known once a fact is asserted: merging unites two classes and their facts
  abbrev pub Then : Fact → Fact → Type 0
  Then (In t A) (In u B) = KnownIn u B ⊎ (OneClass t u × (A ≡ B))
  Then (In t A) (Out u B) = KnownOut u B
  Then (In t A) (Same u x) = OneClass u x
  Then (Out t A) (In u B) = KnownIn u B
  Then (Out t A) (Out u B) = KnownOut u B ⊎ (OneClass t u × (A ≡ B))
  Then (Out t A) (Same u x) = OneClass u x
  Then (Same s t) (In u B) = KnownIn u B ⊎ ((OneClass u s ⊎ OneClass u t) × (KnownIn s B ⊎ KnownIn t B))
  Then (Same s t) (Out u B) = KnownOut u B ⊎ ((OneClass u s ⊎ OneClass u t) × (KnownOut s B ⊎ KnownOut t B))
  Then (Same s t) (Same u x) = OneClass u x ⊎ ((OneClass u s ⊎ OneClass u t) × (OneClass x s ⊎ OneClass x t))

  -- a conflict, of n terms: a class both in and out of one set, or two constants in one class
  abbrev pub Conflicts : ℕ → List Term → Fact → Type 0
  Conflicts n constants f = ((u : Term) × (A : SetVar) × (u.index < n) × Then f (In u A) × Then f (Out u A))
      ⊎ ((i j : Term) × Some (λ x. x ≡ i) constants × Some (λ x. x ≡ j) constants × (i ≢ j) × Then f (Same i j))

-- a fact on n terms and m sets
abbrev pub Ranged : ℕ → ℕ → Fact → Type 0
Ranged n m (In t A) = (t.index < n) × (A.index < m)
Ranged n m (Out t A) = (t.index < n) × (A.index < m)
Ranged n m (Same t u) = (t.index < n) × (u.index < n)

-- the branches that asserting leads to
pub data Reached (n : ℕ) (constants : List Term) (m : ℕ) : Branch → Type 0 where
  begun : Reached n constants m (start n)
  asserted : {b c : Branch} (f : Fact) → Reached n constants m b → Ranged n m f → assert constants b f ≡ some c → Reached n constants m c

-- a fact is true of a valuation: what the constraint means that says so
abbrev pub TrueOf : Valuation → Fact → Type 0
TrueOf v (In t A) = Holds v (member t A)
TrueOf v (Out t A) = Holds v (nonmember t A)
TrueOf v (Same t u) = Holds v (same t u)

-- ---- what a record shows

-- each term's root, and exactly what is known of its class
pub record Recorded (n : ℕ) (b : Branch) (r : List ℕ) : Type 0 where
  pub long : length r ≡ record_length n
  pub roots : (t : ℕ) → t < n → root_in r t ≡ root_at b t
  pub insides : (t : ℕ) (A : SetVar) → t < n → (bit (inside_in r t) A.index ≡ true) ↔ KnownIn b (term t) A
  pub outsides : (t : ℕ) (A : SetVar) → t < n → (bit (outside_in r t) A.index ≡ true) ↔ KnownOut b (term t) A

-- ---- where a rule applies

-- Once seen es ds: ds are the terms of es that are not seen, each once, in the order in which they first stand there
pub data Once : List Term → List Term → List Term → Type 0 where
  none_more : {seen : List Term} → Once seen [] []
  again : {seen es ds : List Term} {e : Term} → Some (λ x. x ≡ e) seen → Once seen es ds → Once seen (e ∷ es) ds
  anew : {seen es ds : List Term} {e : Term} → ¬ Some (λ x. x ≡ e) seen → Once (e ∷ seen) es ds → Once seen (e ∷ es) (e ∷ ds)

-- the constraint has these entries for set A
pub data Lists : Constraint → SetVar → List Term → Type 0 where
  by_list : {A : SetVar} {es : List Term} → Lists (exactly A es) A es
  by_interval : {A : SetVar} {i j : Term} {es : List Term} → Lists (interval A i j es) A es

-- Propagation rules (phase 0) go before splits (phase 1); within either, constraints in order, then rule numbers upward, then positions: roots upward, for rule 19 entries in order.
pub record Place : Type 0 where
  pub phase : ℕ
  pub constraint : ℕ
  pub rule : ℕ
  pub position : ℕ
  -- the root concerned, for the trace, and the facts of each child
  pub concerned : Term
  pub alternatives : List (List Fact)

abbrev pub Before : Place → Place → Type 0
Before p q = (p.phase < q.phase) ⊎ ((p.phase ≡ q.phase) × ((p.constraint < q.constraint) ⊎ ((p.constraint ≡ q.constraint) × ((p.rule < q.rule) ⊎ ((p.rule ≡ q.rule) × (p.position < q.position))))))

module _ (n : ℕ) (b : Branch) where
  abbrev pub Root : ℕ → Type 0
  Root h = (h < n) × (root_at b h ≡ h)

  -- Fires constraint phase rule position concerned alternatives
  pub data Fires : Constraint → ℕ → ℕ → ℕ → Term → List (List Fact) → Type 0 where
    rule1 : {t : Term} {A : SetVar} → ¬ KnownIn b t A → Fires (member t A) 0 1 0 (root b t) ((In t A ∷ []) ∷ [])
    rule2 : {t : Term} {A : SetVar} → ¬ KnownOut b t A → Fires (nonmember t A) 0 2 0 (root b t) ((Out t A ∷ []) ∷ [])
    rule3 : {t u : Term} → ¬ OneClass b t u → Fires (same t u) 0 3 0 (root b t) ((Same t u ∷ []) ∷ [])
    rule4 : {t u : Term} → OneClass b t u → Fires (different t u) 0 4 0 (root b t) []
    rule5 : {A B C : SetVar} {h : ℕ} → Root h → KnownIn b (term h) A → ¬ KnownIn b (term h) B → Fires (relation equal A B C) 0 5 h (term h) ((In (term h) B ∷ []) ∷ [])
    rule6 : {A B C : SetVar} {h : ℕ} → Root h → KnownIn b (term h) B → ¬ KnownIn b (term h) A → Fires (relation equal A B C) 0 6 h (term h) ((In (term h) A ∷ []) ∷ [])
    rule8 : {A B C : SetVar} {h : ℕ} → Root h → KnownIn b (term h) A → ¬ KnownIn b (term h) C → Fires (relation union A B C) 0 8 h (term h) ((In (term h) C ∷ []) ∷ [])
    rule9 : {A B C : SetVar} {h : ℕ} → Root h → KnownIn b (term h) B → ¬ KnownIn b (term h) C → Fires (relation union A B C) 0 9 h (term h) ((In (term h) C ∷ []) ∷ [])
    rule10 : {A B C : SetVar} {h : ℕ} → Root h → KnownIn b (term h) C → KnownOut b (term h) A → ¬ KnownIn b (term h) B → Fires (relation union A B C) 0 10 h (term h) ((In (term h) B ∷ []) ∷ [])
    rule11 : {A B C : SetVar} {h : ℕ} → Root h → KnownIn b (term h) C → KnownOut b (term h) B → ¬ KnownIn b (term h) A → Fires (relation union A B C) 0 11 h (term h) ((In (term h) A ∷ []) ∷ [])
    rule13 : {A B C : SetVar} {h : ℕ} → Root h → KnownIn b (term h) A → ¬ KnownOut b (term h) B → Fires (relation disjoint A B C) 0 13 h (term h) ((Out (term h) B ∷ []) ∷ [])
    rule14 : {A B C : SetVar} {h : ℕ} → Root h → KnownIn b (term h) B → ¬ KnownOut b (term h) A → Fires (relation disjoint A B C) 0 14 h (term h) ((Out (term h) A ∷ []) ∷ [])
    rule15 : {A B C : SetVar} {h : ℕ} → Root h → KnownIn b (term h) A → ¬ KnownIn b (term h) B → Fires (relation subset A B C) 0 15 h (term h) ((In (term h) B ∷ []) ∷ [])
    rule16 : {A B C : SetVar} {h : ℕ} → Root h → KnownIn b (term h) C → ¬ KnownIn b (term h) A → Fires (relation intersection A B C) 0 16 h (term h) ((In (term h) A ∷ []) ∷ [])
    rule17 : {A B C : SetVar} {h : ℕ} → Root h → KnownIn b (term h) C → ¬ KnownIn b (term h) B → Fires (relation intersection A B C) 0 17 h (term h) ((In (term h) B ∷ []) ∷ [])
    rule18 : {A B C : SetVar} {h : ℕ} → Root h → KnownIn b (term h) A → KnownIn b (term h) B → ¬ KnownIn b (term h) C → Fires (relation intersection A B C) 0 18 h (term h) ((In (term h) C ∷ []) ∷ [])
    rule19 : {l : Constraint} {A : SetVar} {es : List Term} (p : ℕ) → Lists l A es → p < length es → ¬ KnownIn b (get_or es p (term 0)) A → Fires l 0 19 p (root b (get_or es p (term 0))) ((In (get_or es p (term 0)) A ∷ []) ∷ [])
    rule7 : {A B C : SetVar} {w : Term} → ¬ (KnownIn b w A × KnownOut b w B) → ¬ (KnownOut b w A × KnownIn b w B) → Fires (negation unequal A B C w) 1 7 0 (root b w) ((In w A ∷ Out w B ∷ []) ∷ (Out w A ∷ In w B ∷ []) ∷ [])
    rule12 : {A B C : SetVar} {h : ℕ} → Root h → KnownIn b (term h) C → ¬ KnownIn b (term h) A → ¬ KnownOut b (term h) A → ¬ KnownIn b (term h) B → ¬ KnownOut b (term h) B → Fires (relation union A B C) 1 12 h (term h) ((In (term h) A ∷ []) ∷ (Out (term h) A ∷ In (term h) B ∷ []) ∷ [])
    rule20 : {l : Constraint} {A : SetVar} {h : ℕ} {es ds : List Term} → Lists l A es → Root h → KnownIn b (term h) A → ((p : ℕ) → p < length es → ¬ OneClass b (term h) (get_or es p (term 0))) → Once [] (map (root b) es) ds → Fires l 1 20 h (term h) (map (λ e. Same (term h) e ∷ []) ds)

-- ---- the children of a step

module _ (constants : List Term) where
  -- the facts of a child, asserted one after the other: the branch as it then is, or none where one of them conflicts
  pub data AssertsAll : Branch → List Fact → Option Branch → Type 0 where
    all_asserted : {b : Branch} → AssertsAll b [] (some b)
    one_conflicts : {b : Branch} {f : Fact} {fs : List Fact} → assert constants b f ≡ none → AssertsAll b (f ∷ fs) none
    one_asserted : {b c : Branch} {f : Fact} {fs : List Fact} {o : Option Branch} → assert constants b f ≡ some c → AssertsAll c fs o → AssertsAll b (f ∷ fs) o

  -- the children left of branch b, in the order of their alternatives: one that conflicts is dropped
  pub data Leaves (b : Branch) : List (List Fact) → List Branch → Type 0 where
    none_left : Leaves b [] []
    child_dropped : {fs : List Fact} {gs : List (List Fact)} {cs : List Branch} → AssertsAll b fs none → Leaves b gs cs → Leaves b (fs ∷ gs) cs
    child_left : {fs : List Fact} {c : Branch} {gs : List (List Fact)} {cs : List Branch} → AssertsAll b fs (some c) → Leaves b gs cs → Leaves b (fs ∷ gs) (c ∷ cs)

-- ---- steps and paths

module _ (prob : Problem) where
  -- a rule applies at a place of the problem
  abbrev pub Enabled : Branch → Place → Type 0
  Enabled b p = (p.constraint < length prob.constraints) × Fires (term_count prob) b (get_or prob.constraints p.constraint (member (term 0) (set_var 0))) p.phase p.rule p.position p.concerned p.alternatives

  -- a solved form: a branch where at no place a rule applies
  abbrev pub Solved : Branch → Type 0
  Solved b = (p : Place) → ¬ Enabled b p

  -- the step of a branch: its place, where a rule applies and before which none does; its trace record r and the children cs that it leaves
  pub record StepOf (b : Branch) (r : List ℕ) (cs : List Branch) : Type 0 where
    pub place : Place
    pub enabled : Enabled b place
    pub first : (q : Place) → Enabled b q → ¬ Before q place
    pub leaves : Leaves (constant_terms prob) b place.alternatives cs
    pub traced : r ≡ place.rule ∷ place.constraint ∷ place.concerned.index ∷ length cs ∷ []

  -- a path: the number of steps applied on the way from the start to a branch
  pub data PathTo : ℕ → Branch → Type 0 where
    begin : PathTo 0 (start (term_count prob))
    onward : {d : ℕ} {b c : Branch} {r : List ℕ} {cs : List Branch} → PathTo d b → StepOf b r cs → Some (λ x. x ≡ c) cs → PathTo (suc d) c

-- ---- how a run goes

-- what a run has done so far
pub record Progress : Type 0 where
  pub steps : ℕ
  pub forms : ℕ
  pub records : List ℕ
  pub trace : List ℕ

abbrev pub unbegun : Progress
unbegun = record { steps = 0; forms = 0; records = []; trace = [] }

abbrev pub with_form : Progress → List ℕ → Progress
with_form s r = record { steps = s.steps; forms = suc s.forms; records = s.records ++ r; trace = s.trace }

abbrev pub with_step : Progress → List ℕ → Progress
with_step s r = record { steps = suc s.steps; forms = s.forms; records = s.records; trace = s.trace ++ r }

module _ (prob : Problem) (budget room : ℕ) where
  -- Works left s v e ps: with the branches of `left` to be worked, each at the end of a path of so many steps, and s done, the run ends in v with e done; ps are the lengths of the paths to each form, closed branch and stop from here on.
  pub data Works : List (ℕ × Branch) → Progress → Verdict → Progress → List ℕ → Type 0 where
    all_worked : {s : Progress} → s.forms ≢ 0 → Works [] s FORMS s []
    none_listed : {s : Progress} → s.forms ≡ 0 → Works [] s FALSE s []
    -- a form first: its record fits what is left of the form buffer, or not
    form_listed : {d : ℕ} {b : Branch} {left : List (ℕ × Branch)} {s e : Progress} {v : Verdict} {ps r : List ℕ} → PathTo prob d b → Solved prob b → Recorded (term_count prob) b r → length s.records + length r ≤ room
        → Works left (with_form s r) v e ps → Works ((d, b) ∷ left) s v e (d ∷ ps)
    no_room : {d : ℕ} {b : Branch} {left : List (ℕ × Branch)} {s : Progress} {r : List ℕ} → PathTo prob d b → Solved prob b → Recorded (term_count prob) b r → room < length s.records + length r → Works ((d, b) ∷ left) s NOROOM s (d ∷ [])
    -- otherwise, if steps equal the budget
    spending : {d : ℕ} {b : Branch} {left : List (ℕ × Branch)} {s : Progress} {r : List ℕ} {cs : List Branch} → PathTo prob d b → StepOf prob b r cs → s.steps ≡ budget → Works ((d, b) ∷ left) s SPENT s (d ∷ [])
    -- otherwise a step: the branch closes, or its children are worked in order before what is left
    closing : {d : ℕ} {b : Branch} {left : List (ℕ × Branch)} {s e : Progress} {v : Verdict} {ps r : List ℕ} → PathTo prob d b → StepOf prob b r [] → s.steps ≢ budget
        → Works left (with_step s r) v e ps → Works ((d, b) ∷ left) s v e (suc d ∷ ps)
    stepping : {d : ℕ} {b c : Branch} {cs : List Branch} {left : List (ℕ × Branch)} {s e : Progress} {v : Verdict} {ps r : List ℕ} → PathTo prob d b → StepOf prob b r (c ∷ cs) → s.steps ≢ budget
        → Works (map (λ x. (suc d, x)) (c ∷ cs) ++ left) (with_step s r) v e ps → Works ((d, b) ∷ left) s v e ps
