-- The order of work leaves no choice.
use mathlib.Core.Path.{◌≡◌, refl, sym, ◌∙◌, ap, subst}
use mathlib.Core.Logic.{◌≢◌}
use mathlib.Core.Bool.{true, false, false≢true}
use mathlib.Core.List.{List, [], ◌∷◌, ◌++◌, map}
use Prim.Native.Nat.{ℕ, suc, ◌+◌, ◌<◌, ◌≤◌}
use native.Mathlib.Omega.{arith}
use lib.ListN.{length}
use Rattle.calculus.specs.Branch.{Branch}
use Rattle.calculus.specs.Search.{step}
use Rattle.calculus.specs.Problem.{Problem, term_count}
use Rattle.calculus.specs.Calls.{Verdict, FORMS, FALSE, SPENT, NOROOM}
use Rattle.calculus.specs.Order.{Recorded, Solved, StepOf, Progress, with_form, with_step, Works, all_worked, none_listed, form_listed, no_room, spending, closing, stepping}
use Rattle.calculus.specs.Demands.{OneWay}
use Rattle.calculus.proofs.FirstPlace.{first_place}
use Rattle.calculus.proofs.RecordLaws.{records}

nil_cons : {c : Branch} {cs : List Branch} {X : Type 0} → [] ≡ c ∷ cs → X
nil_cons e = let w : false ≡ true = cc in absurd (false≢true w)

module _ (prob : Problem) (budget room : ℕ) where
  abbrev Same : Verdict → Verdict → Progress → Progress → List ℕ → List ℕ → Type 0
  Same v w e f ps qs = (v ≡ w) × (e ≡ f) × (ps ≡ qs)

  -- a branch is solved, or it has one step; a form has one record
  module _ (b : Branch) where
    not_both : Solved prob b → (r : List ℕ) (cs : List Branch) → StepOf prob b r cs → {X : Type 0} → X
    not_both h r cs s = absurd (h s.place s.enabled)

    one_step : (r q : List ℕ) (cs ds : List Branch) → StepOf prob b r cs → StepOf prob b q ds → (r ≡ q) × (cs ≡ ds)
    one_step r q cs ds s t = let e : step r cs ≡ step q ds = sym (((first_place prob b).1 r cs).1 s) ∙ ((first_place prob b).1 q ds).1 t in (cc, cc)

    one_record : (r q : List ℕ) → Recorded (term_count prob) b r → Recorded (term_count prob) b q → r ≡ q
    one_record r q x y = sym ((records (term_count prob) b r).0 x) ∙ (records (term_count prob) b q).0 y

  module _ (b : Branch) (d : ℕ) (left : List (ℕ × Branch)) (s : Progress) where
    if_form_listed : Solved prob b → (r : List ℕ) → Recorded (term_count prob) b r → length s.records + length r ≤ room → (v : Verdict) (e : Progress) (ps : List ℕ)
        → ((w : Verdict) (f : Progress) (qs : List ℕ) → Works prob budget room left (with_form s r) w f qs → Same v w e f ps qs)
        → (w : Verdict) (f : Progress) (qs : List ℕ) → Works prob budget room ((d, b) ∷ left) s w f qs → Same v w e f (d ∷ ps) qs
    if_form_listed h r x l v e ps ih w f qs (form_listed {ps = rs} {r = q} p k y m g) =
        let z = ih w f rs (subst (λ (t : List ℕ). Works prob budget room left (with_form s t) w f rs) (one_record b q r y x) g) in
        (z.0, z.1, ap (λ (t : List ℕ). d ∷ t) z.2)
    if_form_listed h r x l v e ps ih w f qs (no_room {r = q} p k y m) = absurd (omega (arith, ap (length {A = ℕ}) (one_record b q r y x)))
    if_form_listed h r x l v e ps ih w f qs (spending {r = q} {cs = cs} p k m) = not_both b h q cs k
    if_form_listed h r x l v e ps ih w f qs (closing {r = q} p k m g) = not_both b h q [] k
    if_form_listed h r x l v e ps ih w f qs (stepping {c = c} {cs = cs} {r = q} p k m g) = not_both b h q (c ∷ cs) k

    if_no_room : Solved prob b → (r : List ℕ) → Recorded (term_count prob) b r → room < length s.records + length r → (w : Verdict) (f : Progress) (qs : List ℕ) → Works prob budget room ((d, b) ∷ left) s w f qs → Same NOROOM w s f (d ∷ []) qs
    if_no_room h r x l w f qs (form_listed {r = q} p k y m g) = absurd (omega (arith, ap (length {A = ℕ}) (one_record b q r y x)))
    if_no_room h r x l w f qs (no_room p k y m) = (refl, refl, refl)
    if_no_room h r x l w f qs (spending {r = q} {cs = cs} p k m) = not_both b h q cs k
    if_no_room h r x l w f qs (closing {r = q} p k m g) = not_both b h q [] k
    if_no_room h r x l w f qs (stepping {c = c} {cs = cs} {r = q} p k m g) = not_both b h q (c ∷ cs) k

    if_spending : (r : List ℕ) (cs : List Branch) → StepOf prob b r cs → s.steps ≡ budget → (w : Verdict) (f : Progress) (qs : List ℕ) → Works prob budget room ((d, b) ∷ left) s w f qs → Same SPENT w s f (d ∷ []) qs
    if_spending r cs h l w f qs (form_listed p k y m g) = not_both b k r cs h
    if_spending r cs h l w f qs (no_room p k y m) = not_both b k r cs h
    if_spending r cs h l w f qs (spending p k m) = (refl, refl, refl)
    if_spending r cs h l w f qs (closing p k m g) = absurd (m l)
    if_spending r cs h l w f qs (stepping p k m g) = absurd (m l)

    if_closing : (r : List ℕ) → StepOf prob b r [] → s.steps ≢ budget → (v : Verdict) (e : Progress) (ps : List ℕ)
        → ((w : Verdict) (f : Progress) (qs : List ℕ) → Works prob budget room left (with_step s r) w f qs → Same v w e f ps qs)
        → (w : Verdict) (f : Progress) (qs : List ℕ) → Works prob budget room ((d, b) ∷ left) s w f qs → Same v w e f (suc d ∷ ps) qs
    if_closing r h l v e ps ih w f qs (form_listed p k y m g) = not_both b k r [] h
    if_closing r h l v e ps ih w f qs (no_room p k y m) = not_both b k r [] h
    if_closing r h l v e ps ih w f qs (spending p k m) = absurd (l m)
    if_closing r h l v e ps ih w f qs (closing {ps = rs} {r = q} p k m g) =
        let z = ih w f rs (subst (λ (t : List ℕ). Works prob budget room left (with_step s t) w f rs) (one_step b q r [] [] k h).0 g) in
        (z.0, z.1, ap (λ (t : List ℕ). suc d ∷ t) z.2)
    if_closing r h l v e ps ih w f qs (stepping {c = c} {cs = cs} {r = q} p k m g) = nil_cons (one_step b r q [] (c ∷ cs) h k).1

    if_stepping : (r : List ℕ) (c : Branch) (cs : List Branch) → StepOf prob b r (c ∷ cs) → s.steps ≢ budget → (v : Verdict) (e : Progress) (ps : List ℕ)
        → ((w : Verdict) (f : Progress) (qs : List ℕ) → Works prob budget room (map (λ x. (suc d, x)) (c ∷ cs) ++ left) (with_step s r) w f qs → Same v w e f ps qs)
        → (w : Verdict) (f : Progress) (qs : List ℕ) → Works prob budget room ((d, b) ∷ left) s w f qs → Same v w e f ps qs
    if_stepping r c cs h l v e ps ih w f qs (form_listed p k y m g) = not_both b k r (c ∷ cs) h
    if_stepping r c cs h l v e ps ih w f qs (no_room p k y m) = not_both b k r (c ∷ cs) h
    if_stepping r c cs h l v e ps ih w f qs (spending p k m) = absurd (l m)
    if_stepping r c cs h l v e ps ih w f qs (closing {r = q} p k m g) = nil_cons (one_step b q r [] (c ∷ cs) k h).1
    if_stepping r c cs h l v e ps ih w f qs (stepping {c = a} {cs = ds} {r = q} p k m g) =
        let o = one_step b q r (a ∷ ds) (c ∷ cs) k h in
        ih w f qs (subst (λ (t : List ℕ). Works prob budget room (map (λ y. (suc d, y)) (c ∷ cs) ++ left) (with_step s t) w f qs) o.0
        (subst (λ (x : List Branch). Works prob budget room (map (λ y. (suc d, y)) x ++ left) (with_step s q) w f qs) o.1 g))

  if_model : (s : Progress) → s.forms ≢ 0 → (w : Verdict) (f : Progress) (qs : List ℕ) → Works prob budget room [] s w f qs → Same FORMS w s f [] qs
  if_model s p w f qs (all_worked q) = (refl, refl, refl)
  if_model s p w f qs (none_listed q) = absurd (p q)

  if_none : (s : Progress) → s.forms ≡ 0 → (w : Verdict) (f : Progress) (qs : List ℕ) → Works prob budget room [] s w f qs → Same FALSE w s f [] qs
  if_none s p w f qs (all_worked q) = absurd (q p)
  if_none s p w f qs (none_listed q) = (refl, refl, refl)

  only : (left : List (ℕ × Branch)) (s : Progress) (v : Verdict) (e : Progress) (ps : List ℕ) → Works prob budget room left s v e ps → (w : Verdict) (f : Progress) (qs : List ℕ) → Works prob budget room left s w f qs → Same v w e f ps qs
  only left s v e ps (all_worked p) = if_model s p
  only left s v e ps (none_listed p) = if_none s p
  only left s v e ps (form_listed {d = d} {b = b} {left = rest} {ps = rs} {r = r} _ h x l g) = if_form_listed b d rest s h r x l v e rs (only rest (with_form s r) v e rs g)
  only left s v e ps (no_room {d = d} {b = b} {left = rest} {r = r} _ h x l) = if_no_room b d rest s h r x l
  only left s v e ps (spending {d = d} {b = b} {left = rest} {r = r} {cs = cs} _ h l) = if_spending b d rest s r cs h l
  only left s v e ps (closing {d = d} {b = b} {left = rest} {ps = rs} {r = r} _ h l g) = if_closing b d rest s r h l v e rs (only rest (with_step s r) v e rs g)
  only left s v e ps (stepping {d = d} {b = b} {c = c} {cs = cs} {left = rest} {r = r} _ h l g) = if_stepping b d rest s r c cs h l v e ps (only (map (λ x. (suc d, x)) (c ∷ cs) ++ rest) (with_step s r) v e ps g)

pub one_way : OneWay
one_way prob budget room left s v w e f ps qs g h = only prob budget room left s v e ps g w f qs h
