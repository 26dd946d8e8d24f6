-- The run goes as document 01 says, and no path is longer than terms × (sets + 1).
use mathlib.Core.Path.{◌≡◌, refl, sym, ◌∙◌, ap, subst}
use mathlib.Core.Logic.{◌≢◌}
use mathlib.Core.Bool.{Bool, true, false, false≢true}
use mathlib.Core.List.{List, [], ◌∷◌, ◌++◌, map, append_assoc, append-nil}
use Prim.Native.Nat.{ℕ, zero, suc, ◌+◌, ◌-◌, ◌*◌, ◌<◌, ◌≤◌}
use native.Mathlib.Omega.{arith}
use native.Mathlib.Nat.{le_of_eq}
use lib.ListN.{length, length-append}
use lib.Dec.{leb}
use borrow.Author.Tests.{leb-true, leb-false}
use Rattle.calculus.specs.Terms.{Term}
use Rattle.calculus.specs.Lists.{Each, Some, here, there, gather}
use Rattle.calculus.specs.Branch.{Branch, start}
use Rattle.calculus.specs.Search.{Next, solved, step}
use Rattle.calculus.specs.Problem.{set_count, Problem, term_count, constant_terms, Valid}
use Rattle.calculus.specs.Run.{Event, formed, stepped, log, Tally, stop, list_form, take_step, tally, next_of, run}
use Rattle.calculus.specs.Forms.{record_of}
use Rattle.calculus.specs.Run as R
use Rattle.calculus.specs.Calls.{Verdict, FORMS, FALSE, SPENT, NOROOM, verdict_of}
use Rattle.calculus.specs.Order.{PathTo, begin, onward, Progress, unbegun, with_form, with_step, Works, all_worked, none_listed, form_listed, no_room, spending, closing, stepping}
use Rattle.calculus.specs.Demands.{ShortPaths}
use Rattle.calculus.proofs.Bools.{each_imp}
use Rattle.calculus.proofs.Asserting.{WellFormed}
use Rattle.calculus.proofs.Measure.{measure}
use Rattle.calculus.proofs.Stepping.{step_fit}
use Rattle.calculus.proofs.LogLaws.{at_zero}
use Rattle.calculus.proofs.Start.{start_fit, start_measure}
use Rattle.calculus.proofs.ConstraintLaws.{constraints_within}
use Rattle.calculus.proofs.FirstPlace.{first_place}
use Rattle.calculus.proofs.RecordLaws.{records}
use Rattle.calculus.proofs.ReadValid.{read_valid}

pub some_each : (P : Branch → Type 0) (c : Branch) (cs : List Branch) → Each P cs → Some (λ x. x ≡ c) cs → P c
some_each P c cs e (here {x = b} q) = subst P q e.0
some_each P c cs e (there {xs = ds} s) = some_each P c ds e.1 s

module _ (prob : Problem) (acc : Valid prob) where
  abbrev N : ℕ
  N = term_count prob

  abbrev K : List Term
  K = constant_terms prob

  abbrev M : ℕ
  M = set_count prob

  abbrev bound : ℕ
  bound = N * suc M

  -- a branch at the end of a path of d steps
  pub record At (d : ℕ) (b : Branch) : Type 0 where
    pub fit : WellFormed N K b
    pub short : d + measure N M b ≤ bound
    pub path : PathTo prob d b

  at_start : At 0 (start N)
  at_start = record { fit = start_fit N K; short = omega (arith, le_of_eq (start_measure N M)); path = begin }

  at_step : (d : ℕ) (b : Branch) → At d b → (r : List ℕ) (cs : List Branch) → next_of prob b ≡ step r cs → Each (λ c. At (suc d) c × (measure N M c < measure N M b)) cs
  at_step d b a r cs e = each cs (step_fit N K M prob.constraints (constraints_within prob acc) b a.fit r cs e) (λ c z. z)
    where
      each : (ds : List Branch) → Each (λ c. WellFormed N K c × (measure N M c < measure N M b)) ds → ((c : Branch) → Some (λ x. x ≡ c) ds → Some (λ x. x ≡ c) cs) → Each (λ c. At (suc d) c × (measure N M c < measure N M b)) ds
      each [] z i = tt
      each (c ∷ ds) z i = (
        (record { fit = z.0.0; short = omega (arith, z.0.1, a.short); path = onward a.path (((first_place prob b).1 r cs).0 e) (i c (here refl)) }, z.0.1),
        each ds z.1 (λ x y. i x (there y)),
      )

  solved_step : (r : List ℕ) (cs : List Branch) → solved ≡ step r cs → ⊥
  solved_step r cs e = let w : false ≡ true = cc in false≢true w

  some_left : (b : Branch) → WellFormed N K b → (r : List ℕ) (cs : List Branch) → next_of prob b ≡ step r cs → 0 < measure N M b
  some_left b F r cs e = go (measure N M b) refl
    where
      go : (x : ℕ) → measure N M b ≡ x → 0 < measure N M b
      go zero q = absurd (solved_step r cs (sym (at_zero N K M prob.constraints (constraints_within prob acc) b F (le_of_eq q)) ∙ e))
      go (suc x) q = omega arith

  path_at : (d : ℕ) (b : Branch) → PathTo prob d b → At d b
  path_at d b begin = at_start
  path_at d b (onward {d = c} {b = a} {r = r} {cs = cs} p e s) = (some_each (λ x. At (suc c) x × (measure N M x < measure N M a)) b cs (at_step c a (path_at c a p) r cs (((first_place prob a).1 r cs).1 e)) s).0

pub short_paths : ShortPaths
short_paths bytes prob q d b p =
    let acc = read_valid bytes prob q in
    let a = path_at prob acc d b p in
    (omega (arith, a.short), λ r cs e. omega (arith, a.short, some_left prob acc b a.fit r cs (((first_place prob b).1 r cs).1 e)))

-- what was done, and then what a reading of the log did
abbrev plus : Progress → Tally → Progress
plus s t = record { steps = s.steps + t.steps; forms = s.forms + t.forms; records = s.records ++ t.records; trace = s.trace ++ t.trace }

done_is : {a b c d : ℕ} {p q r s : List ℕ} → a ≡ b → c ≡ d → p ≡ q → r ≡ s
    → ◌≡◌ {A = Progress} (record { steps = a; forms = c; records = p; trace = r }) (record { steps = b; forms = d; records = q; trace = s })
done_is e f g h = λ i. record { steps = e i; forms = f i; records = g i; trace = h i }

module _ (prob : Problem) (acc : Valid prob) (budget room : ℕ) where
  -- a run that begins with these branches, and reads these events
  abbrev Runs : List (ℕ × Branch) → List Event → Type 0
  Runs left es = (s : Progress) (l q : ℕ) → s.steps + l ≡ budget → length s.records + q ≡ room
      → (ps : List ℕ) × Works prob budget room left s (verdict_of (tally (term_count prob) l q es).end (s.forms + (tally (term_count prob) l q es).forms)) (plus s (tally (term_count prob) l q es)) ps × Each (λ d. d ≤ bound prob acc) ps

  -- the same end told in another way
  moved : (left : List (ℕ × Branch)) (s : Progress) (v w : Verdict) (e f : Progress) (ps : List ℕ) → v ≡ w → e ≡ f → Works prob budget room left s v e ps → Works prob budget room left s w f ps
  moved left s v w e f ps x y g = subst (λ (z : Verdict). Works prob budget room left s z f ps) x (subst (λ (z : Progress). Works prob budget room left s v z ps) y g)

  plus_stop : (s : Progress) (e : R.End) → s ≡ plus s (stop e)
  plus_stop s e = done_is (omega arith) (omega arith) (sym (append-nil s.records)) (sym (append-nil s.trace))

  runs_end : Runs [] []
  runs_end s l q x y = go s.forms refl
    where
      go : (c : ℕ) → s.forms ≡ c → (ps : List ℕ) × Works prob budget room [] s (verdict_of R.DONE (s.forms + 0)) (plus s (stop R.DONE)) ps × Each (λ d. d ≤ bound prob acc) ps
      go zero e =
          let z : s.forms + 0 ≡ 0 = omega arith in
          ([], moved [] s FALSE (verdict_of R.DONE (s.forms + 0)) s (plus s (stop R.DONE)) [] (ap (verdict_of R.DONE) (sym z)) (plus_stop s R.DONE) (none_listed e), tt)
      go (suc c) e =
          let z : s.forms + 0 ≡ suc c = omega arith in
          ([], moved [] s FORMS (verdict_of R.DONE (s.forms + 0)) s (plus s (stop R.DONE)) [] (ap (verdict_of R.DONE) (sym z)) (plus_stop s R.DONE) (all_worked (λ w. omega arith)), tt)

  runs_solved : (d : ℕ) (b : Branch) → At prob acc d b → next_of prob b ≡ solved → (left : List (ℕ × Branch)) (es : List Event) → Runs left es → Runs ((d, b) ∷ left) (formed b ∷ es)
  runs_solved d b a e left es h s l q x y = go (leb (length (record_of (term_count prob) b)) q) refl
    where
      go : (t : Bool) → leb (length (record_of (term_count prob) b)) q ≡ t
          → (ps : List ℕ) × Works prob budget room ((d, b) ∷ left) s (verdict_of (tally (term_count prob) l q (formed b ∷ es)).end (s.forms + (tally (term_count prob) l q (formed b ∷ es)).forms)) (plus s (tally (term_count prob) l q (formed b ∷ es))) ps × Each (λ d. d ≤ bound prob acc) ps
      go true t =
          let fits = leb-true (length (record_of (term_count prob) b)) q t in
          let r : List ℕ = record_of (term_count prob) b in
          let i = h (with_form s r) l (q - length r) x (omega (arith, length-append s.records r, fits)) in
          let u : Tally = tally (term_count prob) l (q - length r) es in
          let f : suc s.forms + u.forms ≡ s.forms + suc u.forms = omega arith in
          rw (t, tally) (
            d ∷ i.0,
            form_listed {s = s} a.path ((first_place prob b).0.0 e) ((records (term_count prob) b r).1 refl) (omega (arith, fits)) (moved left (with_form s r) (verdict_of u.end (suc s.forms + u.forms)) (verdict_of u.end (s.forms + suc u.forms)) (plus (with_form s r) u) (plus s (list_form r u)) i.0
                (ap (verdict_of u.end) f) (done_is refl f (append_assoc s.records r u.records) refl) i.1),
            (omega (arith, a.short), i.2),
          )
      go false t =
          let full = leb-false (length (record_of (term_count prob) b)) q t in
          rw (t, tally) (d ∷ [], moved ((d, b) ∷ left) s NOROOM NOROOM s (plus s (stop R.NOROOM)) (d ∷ []) refl (plus_stop s R.NOROOM) (no_room {s = s} a.path ((first_place prob b).0.0 e) ((records (term_count prob) b (record_of (term_count prob) b)).1 refl) (omega (arith, full))), (omega (arith, a.short), tt))

  -- a step, given how its children go
  runs_step : (d : ℕ) (b : Branch) → PathTo prob d b → suc d ≤ bound prob acc → (r : List ℕ) (cs : List Branch) → next_of prob b ≡ step r cs → (left : List (ℕ × Branch)) (es : List Event)
      → Runs (map (λ c. (suc d, c)) cs ++ left) es → Runs ((d, b) ∷ left) (stepped r ∷ es)
  runs_step d b p k r cs e left es h s zero q x y =
      (d ∷ [], moved ((d, b) ∷ left) s SPENT SPENT s (plus s (stop R.SPENT)) (d ∷ []) refl (plus_stop s R.SPENT) (spending {s = s} p (((first_place prob b).1 r cs).0 e) (omega arith)), (omega arith, tt))
  runs_step d b p k r cs e left es h s (suc l) q x y = go cs refl
    where
      u : Tally
      u = tally (term_count prob) l q es

      i : (ps : List ℕ) × Works prob budget room (map (λ c. (suc d, c)) cs ++ left) (with_step s r) (verdict_of (tally (term_count prob) l q es).end (s.forms + (tally (term_count prob) l q es).forms)) (plus (with_step s r) (tally (term_count prob) l q es)) ps × Each (λ d. d ≤ bound prob acc) ps
      i = h (with_step s r) l q (omega arith) y

      same : plus (with_step s r) (tally (term_count prob) l q es) ≡ plus s (take_step r (tally (term_count prob) l q es))
      same = done_is (omega arith) refl refl (append_assoc s.trace r (tally (term_count prob) l q es).trace)

      more : s.steps ≢ budget
      more z = omega arith

      j : Works prob budget room (map (λ c. (suc d, c)) cs ++ left) (with_step s r) (verdict_of (tally (term_count prob) l q es).end (s.forms + (tally (term_count prob) l q es).forms)) (plus s (take_step r (tally (term_count prob) l q es))) i.0
      j = moved (map (λ c. (suc d, c)) cs ++ left) (with_step s r) (verdict_of (tally (term_count prob) l q es).end (s.forms + (tally (term_count prob) l q es).forms)) (verdict_of (tally (term_count prob) l q es).end (s.forms + (tally (term_count prob) l q es).forms)) (plus (with_step s r) (tally (term_count prob) l q es)) (plus s (take_step r (tally (term_count prob) l q es))) i.0 refl same i.1

      go : (ds : List Branch) → cs ≡ ds → (ps : List ℕ) × Works prob budget room ((d, b) ∷ left) s (verdict_of (tally (term_count prob) l q es).end (s.forms + (tally (term_count prob) l q es).forms)) (plus s (take_step r (tally (term_count prob) l q es))) ps × Each (λ d. d ≤ bound prob acc) ps
      go [] z = (suc d ∷ i.0, closing p (((first_place prob b).1 r []).0 (e ∙ ap (step r) z)) more (subst (λ (ds : List Branch). Works prob budget room (map (λ c. (suc d, c)) ds ++ left) (with_step s r) (verdict_of (tally (term_count prob) l q es).end (s.forms + (tally (term_count prob) l q es).forms)) (plus s (take_step r (tally (term_count prob) l q es))) i.0) z j), (k, i.2))
      go (c ∷ ds) z = (i.0, stepping p (((first_place prob b).1 r (c ∷ ds)).0 (e ∙ ap (step r) z)) more (subst (λ (ds : List Branch). Works prob budget room (map (λ c. (suc d, c)) ds ++ left) (with_step s r) (verdict_of (tally (term_count prob) l q es).end (s.forms + (tally (term_count prob) l q es).forms)) (plus s (take_step r (tally (term_count prob) l q es))) i.0) z j), i.2)

  -- the children of a list, each by its own log
  runs_all : (fuel d : ℕ) → ((b : Branch) → At prob acc d b → measure (term_count prob) (set_count prob) b ≤ fuel → (left : List (ℕ × Branch)) (es : List Event) → Runs left es → Runs ((d, b) ∷ left) (log (term_count prob) (constant_terms prob) prob.constraints fuel b ++ es))
      → (cs : List Branch) → Each (λ c. At prob acc d c × (measure (term_count prob) (set_count prob) c ≤ fuel)) cs → (left : List (ℕ × Branch)) (es : List Event) → Runs left es
      → Runs (map (λ c. (d, c)) cs ++ left) (gather (log (term_count prob) (constant_terms prob) prob.constraints fuel) cs ++ es)
  runs_all fuel d h [] a left es g = g
  runs_all fuel d h (c ∷ cs) a left es g =
      let L : Branch → List Event = log (term_count prob) (constant_terms prob) prob.constraints fuel in
      rw (append_assoc (L c) (gather L cs) es) (h c a.0.0 a.0.1 (map (λ c. (d, c)) cs ++ left) (gather L cs ++ es) (runs_all fuel d h cs a.1 left es g))

  runs_log : (fuel d : ℕ) (b : Branch) → At prob acc d b → measure (term_count prob) (set_count prob) b ≤ fuel → (left : List (ℕ × Branch)) (es : List Event) → Runs left es
      → Runs ((d, b) ∷ left) (log (term_count prob) (constant_terms prob) prob.constraints fuel b ++ es)
  runs_log zero d b a l left es g = runs_solved d b a (at_zero (term_count prob) (constant_terms prob) (set_count prob) prob.constraints (constraints_within prob acc) b a.fit l) left es g
  runs_log (suc fuel) d b a l left es g = go (next_of prob b) refl (runs_log fuel (suc d))
    where
      go : (x : Next) → next_of prob b ≡ x → ((c : Branch) → At prob acc (suc d) c → measure (term_count prob) (set_count prob) c ≤ fuel → (left : List (ℕ × Branch)) (es : List Event) → Runs left es → Runs ((suc d, c) ∷ left) (log (term_count prob) (constant_terms prob) prob.constraints fuel c ++ es))
          → Runs ((d, b) ∷ left) (log (term_count prob) (constant_terms prob) prob.constraints (suc fuel) b ++ es)
      go solved q ih = rw (q, log) (runs_solved d b a q left es g)
      go (step r cs) q ih = rw (q, log)
          (runs_step d b a.path (omega (arith, a.short, some_left prob acc b a.fit r cs q)) r cs q left (gather (log (term_count prob) (constant_terms prob) prob.constraints fuel) cs ++ es)
          (runs_all fuel (suc d) ih cs (each_imp (λ c. At prob acc (suc d) c × (measure (term_count prob) (set_count prob) c < measure (term_count prob) (set_count prob) b)) (λ c. At prob acc (suc d) c × (measure (term_count prob) (set_count prob) c ≤ fuel)) cs (λ c z. (z.0, omega (arith, z.1))) (at_step prob acc d b a r cs q)) left es g))

  -- the whole run
  runs_whole : (s : Progress) → s.steps ≡ 0 → s.records ≡ [] → (ps : List ℕ) × Works prob budget room ((0, start (term_count prob)) ∷ []) s (verdict_of (run prob budget room).end (s.forms + (run prob budget room).forms)) (plus s (run prob budget room)) ps × Each (λ d. d ≤ bound prob acc) ps
  unfolding run
  runs_whole s e f =
      let L : List Event = log (term_count prob) (constant_terms prob) prob.constraints (term_count prob * suc (set_count prob)) (start (term_count prob)) in
      let g = runs_log (term_count prob * suc (set_count prob)) 0 (start (term_count prob)) (at_start prob acc) (le_of_eq (start_measure (term_count prob) (set_count prob))) [] [] runs_end s budget room (omega arith) (ap (λ (x : List ℕ). length x + room) f ∙ omega arith) in
      subst (λ (es : List Event). (ps : List ℕ) × Works prob budget room ((0, start (term_count prob)) ∷ []) s (verdict_of (tally (term_count prob) budget room es).end (s.forms + (tally (term_count prob) budget room es).forms)) (plus s (tally (term_count prob) budget room es)) ps × Each (λ d. d ≤ bound prob acc) ps) (append-nil L) g

pub run_goes : (prob : Problem) → Valid prob → (budget room : ℕ)
    → (ps : List ℕ) × Works prob budget room ((0, start (term_count prob)) ∷ []) unbegun (verdict_of (run prob budget room).end (run prob budget room).forms) (record { steps = (run prob budget room).steps; forms = (run prob budget room).forms; records = (run prob budget room).records; trace = (run prob budget room).trace }) ps × Each (λ d. d ≤ term_count prob * suc (set_count prob)) ps
run_goes prob acc budget room =
    let g = runs_whole prob acc budget room unbegun refl refl in
    let u : Tally = run prob budget room in
    let f : 0 + u.forms ≡ u.forms = omega arith in
    let n : 0 + u.steps ≡ u.steps = omega arith in
    (g.0, moved prob acc budget room ((0, start (term_count prob)) ∷ []) unbegun (verdict_of u.end (0 + u.forms)) (verdict_of u.end u.forms) (plus unbegun u) (record { steps = u.steps; forms = u.forms; records = u.records; trace = u.trace }) g.0 (ap (verdict_of u.end) f) (done_is n f refl refl) g.1, g.2)
