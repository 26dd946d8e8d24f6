-- Lists of candidates that hold the places of a set in document 01's order: how they join, and where one rule stands at a run of positions.
use mathlib.Core.Path.{◌≡◌, refl, sym, ◌∙◌, subst}
use mathlib.Core.Logic.{◌⊎◌, inl, inr}
use mathlib.Core.Bool.{Bool, true, false, ◌||◌, not, false≢true}
use mathlib.Core.Option.{Option, none, some}
use mathlib.Core.List.{List, [], ◌∷◌, ◌++◌, map}
use Prim.Native.Nat.{ℕ, zero, suc, ◌+◌, ◌<◌, ◌≤◌}
use native.Mathlib.Omega.{arith}
use Rattle.calculus.specs.Lists.{all, any, keep, first, up_from, Each}
use Rattle.calculus.specs.Terms.{Term}
use Rattle.calculus.specs.Relations.{applies}
use Rattle.calculus.specs.Branch.{Branch, Fact, known}
use Rattle.calculus.specs.Search.{Move, Candidate}
use Rattle.calculus.specs.Order.{Place, Before}
use Rattle.calculus.proofs.Bools.{and_l, and_r, and_i, not_t, each_all, all_each, or_none_l, or_none_r}
use Rattle.calculus.proofs.SearchLaws.{first_left, first_none_app}

-- ---- the order of places

module _ (p q : Place) where
  pub before_phase : p.phase < q.phase → ¬ Before q p
  before_phase l (inl x) = omega arith
  before_phase l (inr (e, x)) = omega arith

  pub before_constraint : p.phase ≡ q.phase → p.constraint < q.constraint → ¬ Before q p
  before_constraint e l (inl x) = omega arith
  before_constraint e l (inr (_, inl x)) = omega arith
  before_constraint e l (inr (_, inr (f, x))) = omega arith

  pub before_rule : p.phase ≡ q.phase → p.constraint ≡ q.constraint → p.rule < q.rule → ¬ Before q p
  before_rule e f l (inl x) = omega arith
  before_rule e f l (inr (_, inl x)) = omega arith
  before_rule e f l (inr (_, inr (_, inl x))) = omega arith
  before_rule e f l (inr (_, inr (_, inr (g, x)))) = omega arith

  pub before_position : p.phase ≡ q.phase → p.constraint ≡ q.constraint → p.rule ≡ q.rule → p.position ≤ q.position → ¬ Before q p
  before_position e f g l (inl x) = omega arith
  before_position e f g l (inr (_, inl x)) = omega arith
  before_position e f g l (inr (_, inr (_, inl x))) = omega arith
  before_position e f g l (inr (_, inr (_, inr (_, x)))) = omega arith

-- ---- the places of one constraint and phase

-- of a rule, a position, the root concerned, and alternatives
abbrev pub Where : Type 1
Where = ℕ → ℕ → Term → List (List Fact) → Type 0

abbrev pub candidate : ℕ → Term × Move → Candidate
candidate i m = record { constraint = i; concerned = m.0; move = m.1 }

abbrev pub Placed : ℕ → ℕ → Where → Place → Type 0
Placed i L W p = (p.phase ≡ L) × (p.constraint ≡ i) × W p.rule p.position p.concerned p.alternatives

-- ---- a list that holds the places of P in their order

no_some : {X Y : Type 0} {x : X} → ◌≡◌ {A = Option X} none (some x) → Y
no_some e = let w : false ≡ true = cc in absurd (false≢true w)

the_some : {X : Type 0} {x y : X} → ◌≡◌ {A = Option X} (some x) (some y) → x ≡ y
the_some e = cc

module _ (b : Branch) where
  abbrev pub passes : Candidate → Bool
  passes x = applies (known b) x.move

  abbrev pub Fits : Place → Candidate → Type 0
  Fits p x = (x.constraint ≡ p.constraint) × (x.concerned ≡ p.concerned) × (x.move.rule ≡ p.rule) × (x.move.alternatives ≡ p.alternatives)

  -- the first candidate that applies is at the first place of P, and if none applies P has no place
  pub record Enum (xs : List Candidate) (P : Place → Type 0) : Type 0 where
    pub finds : (x : Candidate) → first passes xs ≡ some x → (p : Place) × P p × Fits p x × ((q : Place) → P q → ¬ Before q p)
    pub lacks : first passes xs ≡ none → (p : Place) → ¬ P p

  pub enum_nil : (P : Place → Type 0) → ((p : Place) → ¬ P p) → Enum [] P
  enum_nil P h = record { finds = λ x e. no_some e; lacks = λ _. h }

  pub enum_iff : (xs : List Candidate) (P Q : Place → Type 0) → ((p : Place) → P p → Q p) → ((p : Place) → Q p → P p) → Enum xs P → Enum xs Q
  enum_iff xs P Q to from E = record {
    finds = λ x e. let f = E.finds x e in (f.0, to f.0 f.1, f.2, λ q w. f.3 q (from q w));
    lacks = λ e p w. E.lacks e p (from p w);
  }

  -- two lists, the places of the second not before those of the first
  pub enum_join : (xs ys : List Candidate) (P Q R : Place → Type 0) → Enum xs P → Enum ys Q → ((p : Place) → P p ⊎ Q p → R p) → ((p : Place) → R p → P p ⊎ Q p) → ((p q : Place) → P p → Q q → ¬ Before q p) → Enum (xs ++ ys) R
  enum_join xs ys P Q R E G join part o = record { finds = λ x e. at x e (first passes xs) refl; lacks = λ e p w. out e (first passes xs) refl p (part p w) }
    where
      at : (x : Candidate) → first passes (xs ++ ys) ≡ some x → (z : Option Candidate) → first passes xs ≡ z → (p : Place) × R p × Fits p x × ((q : Place) → R q → ¬ Before q p)
      at x e (some y) u =
          let f = E.finds y u in
          let s : y ≡ x = the_some (sym (first_left passes xs ys y u) ∙ e) in
          (f.0, join f.0 (inl f.1), subst (Fits f.0) s f.2, λ q w. least q (part q w))
        where
          least : (q : Place) → P q ⊎ Q q → ¬ Before q (E.finds y u).0
          least q (inl w) = (E.finds y u).3 q w
          least q (inr w) = o (E.finds y u).0 q (E.finds y u).1 w
      at x e none u =
          let f = G.finds x (sym (first_none_app passes xs ys u) ∙ e) in
          (f.0, join f.0 (inr f.1), f.2, λ q w. least q (part q w))
        where
          least : (q : Place) → P q ⊎ Q q → ¬ Before q (G.finds x (sym (first_none_app passes xs ys u) ∙ e)).0
          least q (inl w) = absurd (E.lacks u q w)
          least q (inr w) = (G.finds x (sym (first_none_app passes xs ys u) ∙ e)).3 q w

      out : first passes (xs ++ ys) ≡ none → (z : Option Candidate) → first passes xs ≡ z → (p : Place) → ¬ (P p ⊎ Q p)
      out e (some y) u p w = no_some (sym e ∙ first_left passes xs ys y u)
      out e none u p (inl w) = E.lacks u p w
      out e none u p (inr w) = G.lacks (sym (first_none_app passes xs ys u) ∙ e) p w

  -- one candidate more: it is at the first place of P, or P has no place but those of Q
  pub enum_cons : (x : Candidate) (xs : List Candidate) (p₀ : Place) (P Q : Place → Type 0) → Fits p₀ x → (passes x ≡ true → P p₀ × ((q : Place) → P q → ¬ Before q p₀)) → (passes x ≡ false → (p : Place) → P p → Q p) → ((p : Place) → Q p → P p) → Enum xs Q → Enum (x ∷ xs) P
  enum_cons x xs p₀ P Q m here there back E = record { finds = λ y e. at y e (passes x) refl; lacks = λ e. out e (passes x) refl }
    where
      at : (y : Candidate) → first passes (x ∷ xs) ≡ some y → (t : Bool) → passes x ≡ t → (p : Place) × P p × Fits p y × ((q : Place) → P q → ¬ Before q p)
      at y e true u = let s : x ≡ y = the_some (rw (u, first) at e) in (p₀, (here u).0, subst (Fits p₀) s m, (here u).1)
      at y e false u = let f = E.finds y (rw (u, first) at e) in (f.0, back f.0 f.1, f.2, λ q w. f.3 q (there u q w))

      out : first passes (x ∷ xs) ≡ none → (t : Bool) → passes x ≡ t → (p : Place) → ¬ P p
      out e true u p w = let s : ◌≡◌ {A = Option Candidate} (some x) none = rw (u, first) at e in no_some (sym s)
      out e false u p w = E.lacks (rw (u, first) at e) p (there u p w)

  -- ---- where a move applies

  abbrev pub Yes : Fact → Type 0
  Yes f = known b f ≡ true

  abbrev pub Ready : Move → Type 0
  Ready m = Each Yes m.premises × Each (λ u. ¬ Each Yes u) m.blockers

  none_known : (us : List (List Fact)) → any (all (known b)) us ≡ false → Each (λ u. ¬ Each Yes u) us
  none_known [] e = tt
  none_known (u ∷ us) e = ((λ y. false≢true (sym (or_none_l (all (known b) u) (any (all (known b)) us) e) ∙ all_each (known b) u y)), none_known us (or_none_r (all (known b) u) (any (all (known b)) us) e))

  known_none : (us : List (List Fact)) → Each (λ u. ¬ Each Yes u) us → any (all (known b)) us ≡ false
  known_none [] e = refl
  known_none (u ∷ us) e = go (all (known b) u) refl (known_none us e.1)
    where
      go : (t : Bool) → all (known b) u ≡ t → any (all (known b)) us ≡ false → (all (known b) u || any (all (known b)) us) ≡ false
      go true q ih = absurd (e.0 (each_all (known b) u q))
      go false q ih = rw q ih

  pub ready : (m : Move) → applies (known b) m ≡ true → Ready m
  ready m e =
      let p : Bool = all (known b) m.premises in
      let u : Bool = any (all (known b)) m.blockers in
      (each_all (known b) m.premises (and_l p (not u) e), none_known m.blockers (not_t u (and_r p (not u) e)))

  pub ready_applies : (m : Move) → Ready m → applies (known b) m ≡ true
  ready_applies m r = let z : any (all (known b)) m.blockers ≡ false = known_none m.blockers r.1 in and_i (all_each (known b) m.premises r.0) (rw z)

  -- ---- one rule

  abbrev pub Lists : ℕ → ℕ → List (Term × Move) → Where → Type 0
  Lists i L xs W = Enum (map (candidate i) xs) (Placed i L W)

  pub lists_iff : (i L : ℕ) (xs : List (Term × Move)) (W U : Where) → ((r s : ℕ) (w : Term) (gs : List (List Fact)) → W r s w gs → U r s w gs) → ((r s : ℕ) (w : Term) (gs : List (List Fact)) → U r s w gs → W r s w gs) → Lists i L xs W → Lists i L xs U
  lists_iff i L xs W U to from E = enum_iff (map (candidate i) xs) (Placed i L W) (Placed i L U)
      (λ p x. (x.0, x.1, to p.rule p.position p.concerned p.alternatives x.2)) (λ p x. (x.0, x.1, from p.rule p.position p.concerned p.alternatives x.2)) E

  -- at the positions of S, with the root concerned and the move at each
  abbrev pub Spot : (ℕ → Type 0) → (ℕ → Term × Move) → Where
  Spot S f r s w gs = S s × (r ≡ (f s).1.rule) × (w ≡ (f s).0) × (gs ≡ (f s).1.alternatives) × Ready (f s).1

  -- at those of the c positions from s upward that pass the test q
  abbrev pub Run : (Term → Bool) → (ℕ → Term) → (Term → Term × Move) → ℕ → ℕ → Where
  Run q t g s c = Spot (λ x. (s ≤ x) × (x < s + c) × (q (t x) ≡ true)) (λ x. g (t x))

  module _ (i L r : ℕ) (q : Term → Bool) (t : ℕ → Term) (g : Term → Term × Move) (is : (t : Term) → (g t).1.rule ≡ r) where
    abbrev Runs : ℕ → ℕ → Place → Type 0
    Runs s c = Placed i L (Run q t g s c)

    abbrev listed : ℕ → ℕ → List (Term × Move)
    listed s c = map g (keep q (map t (up_from s c)))

    abbrev spot : ℕ → Place
    spot s = record { phase = L; constraint = i; rule = (g (t s)).1.rule; position = s; concerned = (g (t s)).0; alternatives = (g (t s)).1.alternatives }

    pub spots : (c s : ℕ) → Lists i L (listed s c) (Run q t g s c)
    spots zero s = enum_nil (Runs s 0) (λ p x. omega (arith, x.2.0.0, x.2.0.1))
    spots (suc c) s = go (q (t s)) refl (spots c (suc s))
      where
        wide : (p : Place) → Runs (suc s) c p → Runs s (suc c) p
        wide p (e, f, ((l, u, k), a, d, h, y)) = (e, f, ((omega arith, omega arith, k), a, d, h, y))

        narrow : (p : Place) → ¬ (p.position ≡ s) → Runs s (suc c) p → Runs (suc s) c p
        narrow p n (e, f, ((l, u, k), a, d, h, y)) = (e, f, ((omega arith, omega arith, k), a, d, h, y))

        go : (z : Bool) → q (t s) ≡ z → Lists i L (listed (suc s) c) (Run q t g (suc s) c) → Lists i L (listed s (suc c)) (Run q t g s (suc c))
        go true e ih = rw e (enum_cons (candidate i (g (t s))) (map (candidate i) (listed (suc s) c)) (spot s) (Runs s (suc c)) (Runs (suc s) c) (refl, refl, refl, refl) first_here none_here wide ih)
          where
            first_here : applies (known b) (g (t s)).1 ≡ true → Runs s (suc c) (spot s) × ((p : Place) → Runs s (suc c) p → ¬ Before p (spot s))
            first_here u = (
              (refl, refl, ((omega arith, omega arith, e), refl, refl, refl, ready (g (t s)).1 u)),
              λ p x. before_position (spot s) p (sym x.0) (sym x.1) (is (t s) ∙ sym (x.2.1 ∙ is (t p.position))) x.2.0.0,
            )

            none_here : applies (known b) (g (t s)).1 ≡ false → (p : Place) → Runs s (suc c) p → Runs (suc s) c p
            none_here u p x = narrow p (λ k. false≢true (sym u ∙ subst (λ (m : ℕ). applies (known b) (g (t m)).1 ≡ true) k (ready_applies (g (t p.position)).1 x.2.4))) x
        go false e ih = rw e (enum_iff (map (candidate i) (listed (suc s) c)) (Runs (suc s) c) (Runs s (suc c)) wide
            (λ p x. narrow p (λ k. false≢true (sym e ∙ subst (λ (m : ℕ). q (t m) ≡ true) k x.2.0.2)) x) ih)
