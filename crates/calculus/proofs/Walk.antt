-- The walk to a class's root, where each term has a parent that is no higher.
use mathlib.Core.Path.{◌≡◌, refl, sym, ◌∙◌, ap, subst}
use mathlib.Core.Logic.{◌≢◌}
use mathlib.Core.Bool.{cond}
use mathlib.Core.List.{List}
use Prim.Native.Nat.{ℕ, zero, suc, ◌<◌, ◌≤◌}
use native.Mathlib.Omega.{arith}
use native.Mathlib.Decide.{ℕ_discrete, le_ind}
use native.Mathlib.Nat.{le_refl}
use lib.ListN.{length, get_or, set}
use lib.Seq.{get_or-set_same, get_or-set_other}
use lib.Dec.{eqb}
use borrow.Author.Tests.{eq-eqb, ne_eqb}
use Rattle.calculus.specs.Branch.{Branch, walk, root_at}
use Rattle.calculus.specs.Invariants.{Falls}

-- hi's class goes to lo's
abbrev pub moved : ℕ → ℕ → ℕ → ℕ
moved lo hi h = cond (eqb h hi) lo h

pub moved_hi : (lo hi : ℕ) → moved lo hi hi ≡ lo
moved_hi lo hi = rw (eq-eqb hi hi refl)

pub moved_other : (lo hi h : ℕ) → h ≢ hi → moved lo hi h ≡ h
moved_other lo hi h n = rw (ne_eqb h hi n)

module _ (js : List ℕ) where
  stay : (f t : ℕ) → get_or js t t ≡ t → walk f js t ≡ t
  stay zero t e = refl
  stay (suc f) t e = ap (walk f js) e ∙ stay f t e

  commute : (f t : ℕ) → walk f js (get_or js t t) ≡ get_or js (walk f js t) (walk f js t)
  commute zero t = refl
  commute (suc f) t = commute f (get_or js t t)

  module _ (fall : Falls js) where
    pub walk_le : (f t : ℕ) → walk f js t ≤ t
    walk_le zero t = le_refl t
    walk_le (suc f) t = omega (arith, walk_le f (get_or js t t), fall t)

    enough : (f t : ℕ) → t ≤ f → get_or js (walk f js t) (walk f js t) ≡ walk f js t
    enough zero t l = let z : t ≡ 0 = omega arith in omega (arith, fall t)
    enough (suc f) t l = go (ℕ_discrete (get_or js t t) t) (enough f (get_or js t t))
      where
        go : Dec (get_or js t t ≡ t) → (get_or js t t ≤ f → get_or js (walk f js (get_or js t t)) (walk f js (get_or js t t)) ≡ walk f js (get_or js t t)) → get_or js (walk f js (get_or js t t)) (walk f js (get_or js t t)) ≡ walk f js (get_or js t t)
        go (yes e) ih = let z : walk f js (get_or js t t) ≡ t = ap (walk f js) e ∙ stay f t e in rw z e
        go (no e) ih = ih (omega (arith, fall t))

    more : (f t : ℕ) → t ≤ f → walk (suc f) js t ≡ walk f js t
    more f t l = commute f t ∙ enough f t l

    any_fuel : (t f : ℕ) → t ≤ f → walk f js t ≡ walk t js t
    any_fuel t f l = le_ind (λ f. walk f js t ≡ walk t js t) refl (λ f l' ih. more f t l' ∙ ih) f l

    -- one step does not change the root; a term merged to itself is its root; and the root is
    pub walk_step : (t : ℕ) → walk t js t ≡ walk (get_or js t t) js (get_or js t t)
    walk_step t = sym (more t t (le_refl t)) ∙ any_fuel (get_or js t t) t (fall t)

    pub walk_root : (t : ℕ) → get_or js t t ≡ t → walk t js t ≡ t
    walk_root t e = stay t t e

    pub root_walk : (t : ℕ) → get_or js (walk t js t) (walk t js t) ≡ walk t js t
    root_walk t = enough t t (le_refl t)

-- a root is its own root
pub root_root : (b : Branch) → Falls b.parents → (t : ℕ) → root_at b (root_at b t) ≡ root_at b t
unfolding root_at
root_root b fall t = walk_root b.parents fall (walk t b.parents t) (root_walk b.parents fall t)

-- the higher of two roots is merged to the lower
module _ (js : List ℕ) (fall : Falls js) (lo hi : ℕ) (l : lo < hi) (h : hi < length js) (rl : get_or js lo lo ≡ lo) (rh : get_or js hi hi ≡ hi) where
  at_hi : (d : ℕ) → get_or (set js hi lo) hi d ≡ lo
  at_hi d = get_or-set_same js hi lo d h

  at_other : (t d : ℕ) → t ≢ hi → get_or (set js hi lo) t d ≡ get_or js t d
  at_other t d q = get_or-set_other js hi t lo d q

  pub set_falls : Falls (set js hi lo)
  set_falls t = go (ℕ_discrete t hi)
    where
      go : Dec (t ≡ hi) → get_or (set js hi lo) t t ≤ t
      go (yes e) = rw (e, at_hi hi) (omega arith)
      go (no q) = rw (at_other t t q) (fall t)

  new_lo : walk lo (set js hi lo) lo ≡ lo
  new_lo = walk_root (set js hi lo) set_falls lo (at_other lo lo (omega arith) ∙ rl)

  abbrev Moves : ℕ → Type 0
  Moves t = walk t (set js hi lo) t ≡ moved lo hi (walk t js t)

  one : (t : ℕ) → Dec (t ≡ hi) → Dec (get_or js t t ≡ t) → (get_or js t t < t → Moves (get_or js t t)) → Moves t
  one t (yes e) b ih =
      let a : walk hi (set js hi lo) hi ≡ lo = walk_step (set js hi lo) set_falls hi ∙ ap (λ (x : ℕ). walk x (set js hi lo) x) (at_hi hi) ∙ new_lo in
      subst Moves (sym e) (rw (a, walk_root js fall hi rh) (sym (moved_hi lo hi)))
  one t (no a) (yes e) ih = rw (walk_root (set js hi lo) set_falls t (at_other t t a ∙ e), walk_root js fall t e) (sym (moved_other lo hi t a))
  one t (no a) (no e) ih =
      walk_step (set js hi lo) set_falls t ∙ ap (λ (x : ℕ). walk x (set js hi lo) x) (at_other t t a) ∙ ih (omega (arith, fall t)) ∙ ap (moved lo hi) (sym (walk_step js fall t))

  up_to : (f t : ℕ) → t ≤ f → Moves t
  up_to zero t q = one t (ℕ_discrete t hi) (ℕ_discrete (get_or js t t) t) (λ z. absurd (omega arith))
  up_to (suc f) t q = one t (ℕ_discrete t hi) (ℕ_discrete (get_or js t t) t) (λ z. up_to f (get_or js t t) (omega arith))

  pub walk_set : (t : ℕ) → walk t (set js hi lo) t ≡ moved lo hi (walk t js t)
  walk_set t = up_to t t (le_refl t)
