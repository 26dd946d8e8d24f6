-- What the start has and every step keeps, every event of a log has.
use mathlib.Core.Path.{◌≡◌, refl}
use mathlib.Core.List.{List, [], ◌∷◌}
use Prim.Native.Nat.{ℕ, zero, suc}
use Rattle.calculus.specs.Lists.{Each, gather}
use Rattle.calculus.specs.Terms.{Term}
use Rattle.calculus.specs.Meaning.{Constraint}
use Rattle.calculus.specs.Branch.{Branch}
use Rattle.calculus.specs.Search.{Next, solved, step, next}
use Rattle.calculus.specs.Run.{Event, formed, stepped, log}
use Rattle.calculus.proofs.Bools.{each_app}
use Rattle.calculus.proofs.BranchForms.{forms_of}

module _ (n : ℕ) (k : List Term) (ls : List Constraint) (P : Branch → Type 0) (E : Event → Type 0) (on-form : (b : Branch) → P b → E (formed b))
    (on_step : (b : Branch) → P b → (r : List ℕ) (cs : List Branch) → next n k ls b ≡ step r cs → E (stepped r) × Each P cs) where
  gather_each : (f : Branch → List Event) → ((b : Branch) → P b → Each E (f b)) → (cs : List Branch) → Each P cs → Each E (gather f cs)
  gather_each f h [] e = tt
  gather_each f h (c ∷ cs) e = each_app E (f c) (gather f cs) (h c e.0) (gather_each f h cs e.1)

  pub log_each : (fuel : ℕ) (b : Branch) → P b → Each E (log n k ls fuel b)
  log_each zero b p = (on-form b p, tt)
  log_each (suc fuel) b p = go (next n k ls b) refl (log_each fuel)
    where
      go : (x : Next) → next n k ls b ≡ x → ((b : Branch) → P b → Each E (log n k ls fuel b)) → Each E (log n k ls (suc fuel) b)
      go solved q ih = rw (q, log) (on-form b p, tt)
      go (step r cs) q ih = let z = on_step b p r cs q in rw (q, log) (z.0, gather_each (log n k ls fuel) ih cs z.1)

-- of the forms alone
abbrev pub OfForm : (Branch → Type 0) → Event → Type 0
OfForm P (formed b) = P b
OfForm P (stepped r) = Unit {0}

pub forms_each : (P : Branch → Type 0) (es : List Event) → Each (OfForm P) es → Each P (forms_of es)
forms_each P [] e = tt
forms_each P (formed b ∷ es) e = (e.0, forms_each P es e.1)
forms_each P (stepped r ∷ es) e = forms_each P es e.1
