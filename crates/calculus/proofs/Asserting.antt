-- Asserting a fact: what it does to a branch, that it keeps what values satisfy, and that it conflicts only where none do.
use mathlib.Core.Path.{◌≡◌, refl, sym, ◌∙◌, ap, ap₂, subst}
use mathlib.Core.Logic.{◌⊎◌, inl, inr, ◌≢◌}
use mathlib.Core.Bool.{Bool, true, false, ◌&&◌, ◌||◌, not, false≢true}
use mathlib.Core.Option.{Option, none, some}
use mathlib.Core.List.{List, [], ◌∷◌}
use Prim.Native.Nat.{ℕ, ◌^◌, ◌<◌, ◌≤◌, min, max}
use native.Mathlib.Omega.{arith}
use native.Mathlib.Decide.{ℕ_discrete, dec_le}
use lib.ListN.{length, get_or}
use lib.Dec.{eqb}
use lib.Bits.{bit_and}
use lib.IntN.{ℤ}
use borrow.Author.Tests.{eqb-true, eq-eqb, ne_eqb}
use Rattle.calculus.specs.Terms.{Term, SetVar, term, set_var}
use Rattle.calculus.proofs.AtNumber.{inside_at, outside_at, add_in, add_out, merge_at, torn_at, owns_at, merge_roots_at, set_eqb}
use Rattle.calculus.specs.Lists.{bit, any}
use Rattle.calculus.specs.Meaning.{Valuation}
pub use Rattle.calculus.specs.Order.{Ranged}
pub use Rattle.calculus.specs.Invariants.{WellFormed, Is}
use Rattle.calculus.specs.Branch.{Branch, root_at, inside, outside, Fact, In, Out, Same, known, add_inside, add_outside, merge, torn, conflict_if, assert}
use Rattle.calculus.proofs.Bools.{and_l, and_r, or_cases, or_l, or_r, not_t, not_f, clash}
use Rattle.calculus.proofs.Masks.{bit_of_and, bit_pow, bit_zero, some_bit, add_at}
use Rattle.calculus.proofs.Walk.{moved, moved_hi, moved_other, walk_le, root_walk, root_root, walk_set}
use Rattle.calculus.proofs.Truth.{eq_z_eq, eq_eq_z, has, truth, Sat, Distinct}

-- ---- what add_inside, add_outside and merge do

pub inside_add_inside : (b : Branch) (h : ℕ) (A : SetVar) (j : ℕ) (B : SetVar) → h < length b.insides → inside_at (add_in b h A) j B ≡ (inside_at b j B || (eqb j h && eqb B.index A.index))
unfolding add_inside inside
inside_add_inside b h A j B l = add_at b.insides h (2 ^ A.index) j B.index l ∙ ap (λ (t : Bool). bit (get_or b.insides j 0) B.index || (eqb j h && t)) (bit_pow A.index B.index)

pub outside_add_inside : (b : Branch) (h : ℕ) (A : SetVar) (j : ℕ) (B : SetVar) → outside_at (add_in b h A) j B ≡ outside_at b j B
unfolding add_inside outside
outside_add_inside b h A j B = refl

pub root_add_inside : (b : Branch) (h : ℕ) (A : SetVar) (t : ℕ) → root_at (add_in b h A) t ≡ root_at b t
unfolding add_inside root_at
root_add_inside b h A t = refl

pub outside_add_outside : (b : Branch) (h : ℕ) (A : SetVar) (j : ℕ) (B : SetVar) → h < length b.outsides → outside_at (add_out b h A) j B ≡ (outside_at b j B || (eqb j h && eqb B.index A.index))
unfolding add_outside outside
outside_add_outside b h A j B l = add_at b.outsides h (2 ^ A.index) j B.index l ∙ ap (λ (t : Bool). bit (get_or b.outsides j 0) B.index || (eqb j h && t)) (bit_pow A.index B.index)

pub inside_add_outside : (b : Branch) (h : ℕ) (A : SetVar) (j : ℕ) (B : SetVar) → inside_at (add_out b h A) j B ≡ inside_at b j B
unfolding add_outside inside
inside_add_outside b h A j B = refl

pub root_add_outside : (b : Branch) (h : ℕ) (A : SetVar) (t : ℕ) → root_at (add_out b h A) t ≡ root_at b t
unfolding add_outside root_at
root_add_outside b h A t = refl

pub inside_merge : (b : Branch) (lo hi j : ℕ) (B : SetVar) → lo < length b.insides → inside_at (merge_at b lo hi) j B ≡ (inside_at b j B || (eqb j lo && inside_at b hi B))
unfolding merge inside
inside_merge b lo hi j B l = add_at b.insides lo (get_or b.insides hi 0) j B.index l

pub outside_merge : (b : Branch) (lo hi j : ℕ) (B : SetVar) → lo < length b.outsides → outside_at (merge_at b lo hi) j B ≡ (outside_at b j B || (eqb j lo && outside_at b hi B))
unfolding merge outside
outside_merge b lo hi j B l = add_at b.outsides lo (get_or b.outsides hi 0) j B.index l

-- the root is no higher, and its own root
module _ (n : ℕ) (k : List Term) (b : Branch) (F : WellFormed n k b) where
  pub below : (t : ℕ) → root_at b t ≤ t
  unfolding root_at
  below t = walk_le b.parents F.falls t t

  pub still : (t : ℕ) → root_at b (root_at b t) ≡ root_at b t
  still t = root_root b F.falls t

  pub root : (t : ℕ) → root_at b t ≡ t → get_or b.parents t t ≡ t
  unfolding root_at
  root t e = subst (λ (h : ℕ). get_or b.parents h h ≡ h) e (root_walk b.parents F.falls t)

  -- merging two roots moves the higher one's class to the lower
  pub root_merge : (lo hi : ℕ) → lo < hi → hi < n → root_at b lo ≡ lo → root_at b hi ≡ hi → (t : ℕ) → root_at (merge_at b lo hi) t ≡ moved lo hi (root_at b t)
  unfolding root_at merge
  root_merge lo hi l h el eh t = walk_set b.parents F.falls lo hi l (rw F.sized h) (root lo el) (root hi eh) t

-- a class that holds a constant
pub owned : (b : Branch) (k : List Term) (h : ℕ) → owns_at k b h ≡ true → (i : ℕ) × Is k i × (root_at b i ≡ h)
owned b [] h e = absurd (false≢true e)
owned b (i ∷ is) h e = go (or_cases (eqb (root_at b i.index) h) (owns_at is b h) e) (owned b is h)
  where
    go : (eqb (root_at b i.index) h ≡ true) ⊎ (owns_at is b h ≡ true) → (owns_at is b h ≡ true → (j : ℕ) × Is is j × (root_at b j ≡ h)) → (j : ℕ) × Is (i ∷ is) j × (root_at b j ≡ h)
    go (inl q) ih = (i.index, or_l (any (λ (j : Term). eqb j.index i.index) is) (eq-eqb i.index i.index refl), eqb-true (root_at b i.index) h q)
    go (inr q) ih = let r = ih q in (r.0, or_r (eqb i.index r.0) r.1, r.2)

pub owning : (b : Branch) (k : List Term) (h i : ℕ) → Is k i → root_at b i ≡ h → owns_at k b h ≡ true
owning b [] h i e q = e
owning b (j ∷ js) h i e q = go (or_cases (eqb j.index i) (any (λ (j : Term). eqb j.index i) js) e) (λ z. owning b js h i z q)
  where
    go : (eqb j.index i ≡ true) ⊎ (any (λ (j : Term). eqb j.index i) js ≡ true) → (any (λ (j : Term). eqb j.index i) js ≡ true → owns_at js b h ≡ true) → owns_at (j ∷ js) b h ≡ true
    go (inl z) ih = or_l (owns_at js b h) (eq-eqb (root_at b j.index) h (ap (root_at b) (eqb-true j.index i z) ∙ q))
    go (inr z) ih = or_r (eqb (root_at b j.index) h) (ih z)

-- ---- what values satisfy

module _ (v : Valuation) (b : Branch) (s : Sat v b) where
  -- terms of one class have one value
  pub same_num : (x y : ℕ) → root_at b x ≡ root_at b y → v.num (term x) ≡ v.num (term y)
  same_num x y h = eq_z_eq (v.num (term x)) (v.num (term y)) (s (Same (term x) (term y)) (eq-eqb (root_at b x) (root_at b y) h))

  pub add_inside_sat : (t : ℕ) (A : SetVar) → root_at b t < length b.insides → truth v (In (term t) A) ≡ true → Sat v (add_in b (root_at b t) A)
  add_inside_sat t A l e (In u B) q = go (or_cases (inside_at b (root_at b u.index) B) (eqb (root_at b u.index) (root_at b t) && eqb B.index A.index) (sym (inside_add_inside b (root_at b t) A (root_at b u.index) B l) ∙ ap (λ (h : ℕ). inside_at (add_in b (root_at b t) A) h B) (sym (root_add_inside b (root_at b t) A u.index)) ∙ q))
    where
      go : (inside_at b (root_at b u.index) B ≡ true) ⊎ ((eqb (root_at b u.index) (root_at b t) && eqb B.index A.index) ≡ true) → truth v (In u B) ≡ true
      go (inl p) = s (In u B) p
      go (inr p) =
          rw (set_eqb B A (and_r (eqb (root_at b u.index) (root_at b t)) (eqb B.index A.index) p), same_num u.index t (eqb-true (root_at b u.index) (root_at b t) (and_l (eqb (root_at b u.index) (root_at b t)) (eqb B.index A.index) p))) e
  add_inside_sat t A l e (Out u B) q = s (Out u B) (sym (outside_add_inside b (root_at b t) A (root_at b u.index) B) ∙ ap (λ (h : ℕ). outside_at (add_in b (root_at b t) A) h B) (sym (root_add_inside b (root_at b t) A u.index)) ∙ q)
  add_inside_sat t A l e (Same x y) q = s (Same x y) (ap₂ eqb (sym (root_add_inside b (root_at b t) A x.index)) (sym (root_add_inside b (root_at b t) A y.index)) ∙ q)

  pub add_outside_sat : (t : ℕ) (A : SetVar) → root_at b t < length b.outsides → truth v (Out (term t) A) ≡ true → Sat v (add_out b (root_at b t) A)
  add_outside_sat t A l e (Out u B) q = go (or_cases (outside_at b (root_at b u.index) B) (eqb (root_at b u.index) (root_at b t) && eqb B.index A.index) (sym (outside_add_outside b (root_at b t) A (root_at b u.index) B l) ∙ ap (λ (h : ℕ). outside_at (add_out b (root_at b t) A) h B) (sym (root_add_outside b (root_at b t) A u.index)) ∙ q))
    where
      go : (outside_at b (root_at b u.index) B ≡ true) ⊎ ((eqb (root_at b u.index) (root_at b t) && eqb B.index A.index) ≡ true) → truth v (Out u B) ≡ true
      go (inl p) = s (Out u B) p
      go (inr p) =
          rw (set_eqb B A (and_r (eqb (root_at b u.index) (root_at b t)) (eqb B.index A.index) p), same_num u.index t (eqb-true (root_at b u.index) (root_at b t) (and_l (eqb (root_at b u.index) (root_at b t)) (eqb B.index A.index) p))) e
  add_outside_sat t A l e (In u B) q = s (In u B) (sym (inside_add_outside b (root_at b t) A (root_at b u.index) B) ∙ ap (λ (h : ℕ). inside_at (add_out b (root_at b t) A) h B) (sym (root_add_outside b (root_at b t) A u.index)) ∙ q)
  add_outside_sat t A l e (Same x y) q = s (Same x y) (ap₂ eqb (sym (root_add_outside b (root_at b t) A x.index)) (sym (root_add_outside b (root_at b t) A y.index)) ∙ q)

  module _ (t u : ℕ) (e : v.num (term t) ≡ v.num (term u)) where
    -- a term whose root moves to h has the value of a term whose root was h, or of t
    pub merge_same : (x y : ℕ) → moved (root_at b t) (root_at b u) (root_at b x) ≡ moved (root_at b t) (root_at b u) (root_at b y) → v.num (term x) ≡ v.num (term y)
    merge_same x y h = go (ℕ_discrete (root_at b x) (root_at b u)) (ℕ_discrete (root_at b y) (root_at b u))
      where
        lo : ℕ
        lo = root_at b t

        hi : ℕ
        hi = root_at b u

        go : Dec (root_at b x ≡ root_at b u) → Dec (root_at b y ≡ root_at b u) → v.num (term x) ≡ v.num (term y)
        go (yes p) (yes q) = same_num x y (p ∙ sym q)
        go (yes p) (no q) =
            let z : root_at b t ≡ root_at b y = sym (moved_hi lo hi) ∙ ap (moved lo hi) (sym p) ∙ h ∙ moved_other lo hi (root_at b y) q in
            same_num x u p ∙ sym e ∙ same_num t y z
        go (no p) (yes q) =
            let z : root_at b x ≡ root_at b t = sym (moved_other lo hi (root_at b x) p) ∙ h ∙ ap (moved lo hi) q ∙ moved_hi lo hi in
            same_num x t z ∙ e ∙ same_num u y (sym q)
        go (no p) (no q) = same_num x y (sym (moved_other lo hi (root_at b x) p) ∙ h ∙ moved_other lo hi (root_at b y) q)

    -- G: what is known of each class. Q: what it says of a value
    pub merge_known : (G : ℕ → Bool) (Q : ℤ → Type 0) → ((x : ℕ) → G (root_at b x) ≡ true → Q (v.num (term x)))
        → (x : ℕ) → (G (moved (root_at b t) (root_at b u) (root_at b x)) || (eqb (moved (root_at b t) (root_at b u) (root_at b x)) (root_at b t) && G (root_at b u))) ≡ true → Q (v.num (term x))
    merge_known G Q k x h = go (ℕ_discrete (root_at b x) (root_at b u)) (or_cases (G (moved (root_at b t) (root_at b u) (root_at b x))) (eqb (moved (root_at b t) (root_at b u) (root_at b x)) (root_at b t) && G (root_at b u)) h)
      where
        lo : ℕ
        lo = root_at b t

        hi : ℕ
        hi = root_at b u

        go : Dec (root_at b x ≡ root_at b u) → (G (moved lo hi (root_at b x)) ≡ true) ⊎ ((eqb (moved lo hi (root_at b x)) lo && G hi) ≡ true) → Q (v.num (term x))
        go (yes p) (inl g) = subst Q (e ∙ same_num u x (sym p)) (k t (ap G (sym (moved_hi lo hi) ∙ ap (moved lo hi) (sym p)) ∙ g))
        go (yes p) (inr g) = subst Q (same_num u x (sym p)) (k u (and_r (eqb (moved lo hi (root_at b x)) lo) (G hi) g))
        go (no p) (inl g) = k x (ap G (sym (moved_other lo hi (root_at b x) p)) ∙ g)
        go (no p) (inr g) =
            let z : root_at b x ≡ lo = sym (moved_other lo hi (root_at b x) p) ∙ eqb-true (moved lo hi (root_at b x)) lo (and_l (eqb (moved lo hi (root_at b x)) lo) (G hi) g) in
            subst Q (sym e ∙ same_num t x (sym z)) (k u (and_r (eqb (moved lo hi (root_at b x)) lo) (G hi) g))

    pub merge_sat : ((x : ℕ) → root_at (merge_at b (root_at b t) (root_at b u)) x ≡ moved (root_at b t) (root_at b u) (root_at b x)) → root_at b t < length b.insides → root_at b t < length b.outsides → Sat v (merge_at b (root_at b t) (root_at b u))
    merge_sat lh li lo (Same x y) q = eq_eq_z (v.num x) (v.num y) (merge_same x.index y.index (sym (lh x.index) ∙ eqb-true (root_at (merge_at b (root_at b t) (root_at b u)) x.index) (root_at (merge_at b (root_at b t) (root_at b u)) y.index) q ∙ lh y.index))
    merge_sat lh li lo (In x B) q =
        merge_known (λ h. inside_at b h B) (λ z. has (v.members B) z ≡ true) (λ y p. s (In (term y) B) p) x.index
        (sym (inside_merge b (root_at b t) (root_at b u) (moved (root_at b t) (root_at b u) (root_at b x.index)) B li) ∙ ap (λ (h : ℕ). inside_at (merge_at b (root_at b t) (root_at b u)) h B) (sym (lh x.index)) ∙ q)
    merge_sat lh li lo (Out x B) q =
        merge_known (λ h. outside_at b h B) (λ z. not (has (v.members B) z) ≡ true) (λ y p. s (Out (term y) B) p) x.index
        (sym (outside_merge b (root_at b t) (root_at b u) (moved (root_at b t) (root_at b u) (root_at b x.index)) B lo) ∙ ap (λ (h : ℕ). outside_at (merge_at b (root_at b t) (root_at b u)) h B) (sym (lh x.index)) ∙ q)

-- ---- asserting

pub conflict_if_some : (x : Bool) (c d : Branch) → conflict_if x c ≡ some d → (x ≡ false) × (c ≡ d)
conflict_if_some true c d e = let w : false ≡ true = cc in absurd (false≢true w)
conflict_if_some false c d e = (refl, cc)

pub conflict_if_none : (x : Bool) (c : Branch) → conflict_if x c ≡ none → x ≡ true
conflict_if_none true c e = refl
conflict_if_none false c e = cc

-- two different roots: which is the lower
pub sides : (x y : ℕ) → x ≢ y → ((min x y ≡ x) × (max x y ≡ y) × (x < y)) ⊎ ((min x y ≡ y) × (max x y ≡ x) × (y < x))
sides x y n = go (dec_le x y)
  where
    go : Dec (x ≤ y) → ((min x y ≡ x) × (max x y ≡ y) × (x < y)) ⊎ ((min x y ≡ y) × (max x y ≡ x) × (y < x))
    go (yes h) = inl (omega arith)
    go (no h) = inr (omega arith)

-- asserting t = u either does nothing, or unites two roots, the lower of which belongs to one of the two
pub data Merges (k : List Term) (b : Branch) (t u : ℕ) : Option Branch → Type 0 where
  already : root_at b t ≡ root_at b u → Merges k b t u (some b)
  upper : root_at b t < root_at b u → Merges k b t u (merge_roots_at k b (root_at b t) (root_at b u))
  lower : root_at b u < root_at b t → Merges k b t u (merge_roots_at k b (root_at b u) (root_at b t))

pub merges : (k : List Term) (b : Branch) (t u : ℕ) → Merges k b t u (assert k b (Same (term t) (term u)))
unfolding assert
merges k b t u = go (ℕ_discrete (root_at b t) (root_at b u))
  where
    go : Dec (root_at b t ≡ root_at b u) → Merges k b t u (assert k b (Same (term t) (term u)))
    go (yes e) = rw (eq-eqb (root_at b t) (root_at b u) e) (already e)
    go (no n) = operand_of (sides (root_at b t) (root_at b u) n)
      where
        operand_of : ((min (root_at b t) (root_at b u) ≡ root_at b t) × (max (root_at b t) (root_at b u) ≡ root_at b u) × (root_at b t < root_at b u)) ⊎ ((min (root_at b t) (root_at b u) ≡ root_at b u) × (max (root_at b t) (root_at b u) ≡ root_at b t) × (root_at b u < root_at b t)) → Merges k b t u (assert k b (Same (term t) (term u)))
        operand_of (inl p) = rw (ne_eqb (root_at b t) (root_at b u) n, p.0, p.1) (upper p.2)
        operand_of (inr p) = rw (ne_eqb (root_at b t) (root_at b u) n, p.0, p.1) (lower p.2)

pub torn_some : (b : Branch) (h : ℕ) → torn_at b h ≡ true → (A : SetVar) × (inside_at b h A ≡ true) × (outside_at b h A ≡ true)
unfolding torn inside outside
torn_some b h e = go (some_bit (bit_and (get_or b.insides h 0) (get_or b.outsides h 0)))
  where
    x : ℕ
    x = get_or b.insides h 0

    y : ℕ
    y = get_or b.outsides h 0

    go : (bit_and x y ≡ 0) ⊎ ((s : ℕ) × (bit (bit_and x y) s ≡ true)) → (A : SetVar) × (bit x A.index ≡ true) × (bit y A.index ≡ true)
    go (inl z) = clash (eq-eqb (bit_and x y) 0 z) (not_t (eqb (bit_and x y) 0) e)
    go (inr (s, q)) = let r : (bit x s && bit y s) ≡ true = sym (bit_of_and x y s) ∙ q in (set_var s, and_l (bit x s) (bit y s) r, and_r (bit x s) (bit y s) r)

pub torn_none : (b : Branch) (h : ℕ) → torn_at b h ≡ false → (A : SetVar) → (inside_at b h A && outside_at b h A) ≡ false
unfolding torn inside outside
torn_none b h e A =
    sym (bit_of_and (get_or b.insides h 0) (get_or b.outsides h 0) A.index)
    ∙ ap (λ (m : ℕ). bit m A.index) (eqb-true (bit_and (get_or b.insides h 0) (get_or b.outsides h 0)) 0 (not_f (eqb (bit_and (get_or b.insides h 0) (get_or b.outsides h 0)) 0) e))
    ∙ bit_zero A.index

module _ (n : ℕ) (k : List Term) (m : ℕ) (b : Branch) (F : WellFormed n k b) where
  pub root_below : (t : ℕ) → t < n → root_at b t < n
  root_below t h = omega (arith, below n k b F t)

  pub moves : (t u : ℕ) → u < n → root_at b t < root_at b u → (x : ℕ) → root_at (merge_at b (root_at b t) (root_at b u)) x ≡ moved (root_at b t) (root_at b u) (root_at b x)
  moves t u hu l x = root_merge n k b F (root_at b t) (root_at b u) l (root_below u hu) (still n k b F t) (still n k b F u) x

  pub root_in_insides : (t : ℕ) → t < n → root_at b t < length b.insides
  root_in_insides t h = rw F.sized_in (root_below t h)

  pub root_in_outsides : (t : ℕ) → t < n → root_at b t < length b.outsides
  root_in_outsides t h = rw F.sized_out (root_below t h)

  -- values that satisfy the branch and the fact satisfy the branch that notes it
  module _ (v : Valuation) (s : Sat v b) where
    pub same_keeps : (t u : ℕ) → t < n → u < n → v.num (term t) ≡ v.num (term u) → (o : Option Branch) → Merges k b t u o → (c : Branch) → o ≡ some c → Sat v c
    same_keeps t u ht hu e o (already h) c q = let z : b ≡ c = cc in subst (Sat v) z s
    same_keeps t u ht hu e o (upper h) c q =
        subst (Sat v) (conflict_if_some ((owns_at k b (root_at b t) && owns_at k b (root_at b u)) || torn_at (merge_at b (root_at b t) (root_at b u)) (root_at b t)) (merge_at b (root_at b t) (root_at b u)) c q).1
        (merge_sat v b s t u e (moves t u hu h) (root_in_insides t ht) (root_in_outsides t ht))
    same_keeps t u ht hu e o (lower h) c q =
        subst (Sat v) (conflict_if_some ((owns_at k b (root_at b u) && owns_at k b (root_at b t)) || torn_at (merge_at b (root_at b u) (root_at b t)) (root_at b u)) (merge_at b (root_at b u) (root_at b t)) c q).1
        (merge_sat v b s u t (sym e) (moves u t ht h) (root_in_insides u hu) (root_in_outsides u hu))

    pub assert_keeps : (f : Fact) → Ranged n m f → truth v f ≡ true → (c : Branch) → assert k b f ≡ some c → Sat v c
    unfolding assert
    assert_keeps (In t A) r e c q = subst (Sat v) (conflict_if_some (known b (Out t A)) (add_in b (root_at b t.index) A) c q).1 (add_inside_sat v b s t.index A (root_in_insides t.index r.0) e)
    assert_keeps (Out t A) r e c q = subst (Sat v) (conflict_if_some (known b (In t A)) (add_out b (root_at b t.index) A) c q).1 (add_outside_sat v b s t.index A (root_in_outsides t.index r.0) e)
    assert_keeps (Same t u) r e c q = same_keeps t.index u.index r.0 r.1 (eq_z_eq (v.num t) (v.num u) e) (assert k b (Same t u)) (merges k b t.index u.index) c q

    -- and where asserting it conflicts there are none
    module _ (d : Distinct k v) where
      pub merge_roots_stops : (t u : ℕ) → t < n → u < n → v.num (term t) ≡ v.num (term u) → root_at b t < root_at b u → merge_roots_at k b (root_at b t) (root_at b u) ≡ none → ⊥
      merge_roots_stops t u ht hu e l q = go (or_cases (owns_at k b (root_at b t) && owns_at k b (root_at b u)) (torn_at j (root_at b t)) (conflict_if_none ((owns_at k b (root_at b t) && owns_at k b (root_at b u)) || torn_at j (root_at b t)) j q))
        where
          j : Branch
          j = merge_at b (root_at b t) (root_at b u)

          sj : Sat v j
          sj = merge_sat v b s t u e (moves t u hu l) (root_in_insides t ht) (root_in_outsides t ht)

          hj : root_at j t ≡ root_at b t
          hj = moves t u hu l t ∙ moved_other (root_at b t) (root_at b u) (root_at b t) (omega arith)

          go : ((owns_at k b (root_at b t) && owns_at k b (root_at b u)) ≡ true) ⊎ (torn_at j (root_at b t) ≡ true) → ⊥
          go (inl p) =
              let x = owned b k (root_at b t) (and_l (owns_at k b (root_at b t)) (owns_at k b (root_at b u)) p) in
              let y = owned b k (root_at b u) (and_r (owns_at k b (root_at b t)) (owns_at k b (root_at b u)) p) in
              let z : x.0 ≡ y.0 = d x.0 y.0 x.1 y.1 (same_num v b s x.0 t x.2 ∙ e ∙ same_num v b s u y.0 (sym y.2)) in
              let w : root_at b t ≡ root_at b u = sym x.2 ∙ ap (root_at b) z ∙ y.2 in
              omega arith
          go (inr p) =
              let w = torn_some j (root_at b t) p in
              let yes : truth v (In (term t) w.0) ≡ true = sj (In (term t) w.0) (ap (λ (h : ℕ). inside_at j h w.0) hj ∙ w.1) in
              let non : truth v (Out (term t) w.0) ≡ true = sj (Out (term t) w.0) (ap (λ (h : ℕ). outside_at j h w.0) hj ∙ w.2) in
              clash yes (not_t (truth v (In (term t) w.0)) non)

      pub same_stops : (t u : ℕ) → t < n → u < n → v.num (term t) ≡ v.num (term u) → (o : Option Branch) → Merges k b t u o → o ≡ none → ⊥
      same_stops t u ht hu e o (already h) q = let w : false ≡ true = cc in false≢true w
      same_stops t u ht hu e o (upper h) q = merge_roots_stops t u ht hu e h q
      same_stops t u ht hu e o (lower h) q = merge_roots_stops u t hu ht (sym e) h q

      pub assert_stops : (f : Fact) → Ranged n m f → truth v f ≡ true → assert k b f ≡ none → ⊥
      unfolding assert
      assert_stops (In t A) r e q = clash e (not_t (truth v (In t A)) (s (Out t A) (conflict_if_none (known b (Out t A)) (add_in b (root_at b t.index) A) q)))
      assert_stops (Out t A) r e q = clash (s (In t A) (conflict_if_none (known b (In t A)) (add_out b (root_at b t.index) A) q)) (not_t (truth v (In t A)) e)
      assert_stops (Same t u) r e q = same_stops t.index u.index r.0 r.1 (eq_z_eq (v.num t) (v.num u) e) (assert k b (Same t u)) (merges k b t.index u.index) q
