-- What the loops of `search` keep, and how each goes on. Whatever branch the parents and rows show, the rules that were passed do not apply there. So if the constraints outside the scope are idle, all but those that are left are.
use mathlib.Core.Path.{◌≡◌, sym, ap, ◌∙◌, subst}
use mathlib.Core.Logic.{◌⊎◌, inl, inr}
use mathlib.Core.Bool.{Bool, true, false, ◌&&◌, not, and-true}
use mathlib.Core.Option
use mathlib.Core.Option.{some, map-eq-none_iff, map-eq-some_iff, none}
use mathlib.Core.List.{List}
use Prim.Native.Nat.{ℕ, ◌+◌, ◌-◌, ◌^◌, ◌<◌, ◌≤◌}
use native.Mathlib.Omega.{arith}
use native.Mathlib.Decide.{ℕ_discrete}
use lib.ListN.{length, get_or}
use lib.Dec.{ltb}
use lib.Bits.{bit_and}
use borrow.Author.Tests.{eq-eqb, ltb-true}
use Rattle.std.specs.Prelude as result
use Rattle.std.specs.Prelude.{Some, None}
use Rattle.calculus.specs.Limits.{most_sets, most_terms}
use Rattle.calculus.specs.Lists.{up_from, first, bit}
use Rattle.calculus.specs.Terms.{Term, term}
use Rattle.calculus.specs.Meaning as calculus
use Rattle.calculus.specs.Branch.{Branch, root_at}
use Rattle.calculus.specs.Invariants.{Falls, ConstraintIn}
use Rattle.calculus.specs.Reading.{read}
use Rattle.calculus.proofs.Bools.{and_l, test}
use Rattle.calculus.proofs.Walk.{root_root}
use Rattle.bits.specs.Ones.{Takes}
use Rattle.bits.proofs.Bits.{bit_ones, bit_without, no_bit}
use Rattle.bits.proofs.Taking.{takes_other, takes_left}
use Rattle.problem.specs.declared.table.Table.{Table}
use Rattle.problem.specs.Table.{Opened, constraints_of, constraint_of, no_constraint, kind_of}
use Rattle.problem.proofs.Access.{opened_sizes, constraint_count}
use Rattle.places.specs.Places.{span_of, InSpan, RuleOf, move_at, first_at}
use Rattle.places.proofs.Offered.{relation_19, position_root, position_of, rule_of}
use Rattle.constraints.specs.declared.Constraint.{Constraint}
use Rattle.constraints.specs.Decoded.{decoded, entries_in, Unpacked}
use Rattle.constraints.proofs.Decoding.{constraint_in}
use Rattle.rules.specs.Spans.{Spanned}
use Rattle.fits.specs.Words.{EntryBits, Asked, Shown, Fits, FitsFor}
use Rattle.fits.proofs.FitLaws.{entries_below}
use Rattle.quiet.specs.Quiet.{Idle, Quiet, WordsOf}
use Rattle.search.specs.declared.Found.{Found}
use Rattle.search.specs.First.{IsFirst, Finds}
use Rattle.search.proofs.Order.{first_lowest, first_no, first_offer, no_place, place_at}
use Rattle.marks.proofs.Marking.{entries_by}

-- ---- the root concerned

module _ (n : ℕ) (b : Branch) (fall : Falls b.parents) where
  -- rule 19 is at the root of an entry
  entry_root : (l : calculus.Constraint) (j p : ℕ) → RuleOf l j → j ≡ 19 → root_at b (move_at b l j p).0.index ≡ (move_at b l j p).0.index
  entry_root (calculus.member t A) j p r e = root_root b fall t.index
  entry_root (calculus.nonmember t A) j p r e = root_root b fall t.index
  entry_root (calculus.same t u) j p r e = root_root b fall t.index
  entry_root (calculus.different t u) j p r e = root_root b fall t.index
  entry_root (calculus.relation k A B C) j p r e = absurd (relation_19 k A B C j r e)
  entry_root (calculus.negation k A B C w) j p r e = root_root b fall w.index
  entry_root (calculus.exactly A es) j p r e = rw (eq-eqb j 19 e) (root_root b fall (get_or es p (term 0)).index)
  entry_root (calculus.interval A x y es) j p r e = rw (eq-eqb j 19 e) (root_root b fall (get_or es p (term 0)).index)

  concerned_root : (l : calculus.Constraint) (j p : ℕ) → n ≤ most_terms → ConstraintIn most_terms most_sets l → RuleOf l j → first_at n b l j ≡ some p → root_at b (move_at b l j p).0.index ≡ (move_at b l j p).0.index
  concerned_root l j p few c r f = go (ℕ_discrete j 19)
    where
      go : Dec (j ≡ 19) → root_at b (move_at b l j p).0.index ≡ (move_at b l j p).0.index
      go (yes e) = entry_root l j p r e
      go (no e) =
          let w = position_root most_terms most_sets n b l j p fall few c e f in
          subst (λ (k : ℕ). root_at b k ≡ k) (sym (ap (λ (x : Term). x.index) w.2)) w.1

-- ---- what the loops keep

-- constraint i is decoded as l, whose entries are also bits of a word, and its rules end at end
pub record Here (split : Bool) (n : ℕ) (bs ps : List ℕ) (i end bits : ℕ) (l : Constraint) : Type 0 where
  pub few : n ≤ most_terms
  pub falls : Falls ps
  pub in_problem : i < length (constraints_of (read bs))
  pub ends : end ≡ (span_of split (constraint_of bs i)).1
  pub in_terms : ConstraintIn n most_sets (constraint_of bs i)
  pub unpacked : Unpacked bs i l
  pub entries : EntryBits (entries_in l) bits

module _ (split : Bool) (n : ℕ) (bs ps rows : List ℕ) where
  -- the constraints that are left, of those looked at: each is one of m
  pub record AtMask (m looked left : ℕ) (r : result.Option Found) : Type 0 where
    pub nothing : r ≡ None
    pub there : (i : ℕ) → bit left i ≡ true → i < m
    pub quiet : (b : Branch) → Shown b ps rows → Quiet split n (constraints_of (read bs)) b looked → Quiet split n (constraints_of (read bs)) b left

  -- before rule j of constraint i
  pub record AtRule (i j end bits : ℕ) (l : Constraint) (r : result.Option Found) : Type 0 where
    pub nothing : r ≡ None
    pub here : Here split n bs ps i end bits l
    pub begun : (span_of split (constraint_of bs i)).0 ≤ j
    pub passed : (b : Branch) → Shown b ps rows → (k : ℕ) → InSpan (span_of split (constraint_of bs i)) k → k < j → first_at n b (constraint_of bs i) k ≡ none

  -- rule j of constraint i applies first at the lowest root that is left
  pub record AtRoot (i j left : ℕ) (r : result.Option Found) : Type 0 where
    pub nothing : r ≡ None
    pub lowest : (b : Branch) → Shown b ps rows → Option.map (λ (p : ℕ). (move_at b (constraint_of bs i) j p).0.index) (first_at n b (constraint_of bs i) j) ≡ first (bit left) (up_from 0 n)

-- ---- how the search goes

-- at the first rule of the constraint whose turn it is
pub rules_start : {bs : List ℕ} (tab : Table) (i : ℕ) {split : Bool} {first end : ℕ} {ps rows entries marks : List ℕ} {l : Constraint} {r : result.Option Found} → r ≡ None → Opened bs tab → WordsOf (constraints_of (read bs)) entries marks → Falls ps → i < tab.constraints
    → Spanned split (kind_of (decoded l)) first end → Unpacked bs i l → AtRule split tab.terms bs ps rows i first end (get_or entries i 0) l r
unfolding constraint_of
rules_start {bs} tab i {split} {first} {end} {l = l} e o w f k p u =
    let q = p (constraint_of bs i) (ap kind_of u.is) in
    let s = opened_sizes bs tab o in
    let there : i < length (constraints_of (read bs)) = omega (arith, constraint_count bs tab o) in
    record {
      nothing = e;
      here = record {
        few = s.2;
        falls = f;
        in_problem = there;
        ends = q.1;
        in_terms = constraint_in bs tab i o k tab.terms most_sets (omega arith) s.1;
        unpacked = u;
        entries = record { below = entries_below l u.handled; bits = λ h. w.listed i there h ∙ entries_by u h; small = w.small i there };
      };
      begun = omega (arith, q.0);
      passed = λ b z k s h. absurd (omega (arith, q.0, s.0));
    }

module _ {split : Bool} {n : ℕ} {bs ps rows : List ℕ} where
  module _ {m looked left : ℕ} {r : result.Option Found} (a : AtMask split n bs ps rows m looked left r) where
    -- none is left
    pub search_over : left ≡ 0 → (b : Branch) → Shown b ps rows → Quiet split n (constraints_of (read bs)) b looked → Finds split n (constraints_of (read bs)) b r
    search_over e b z q =
        let idle : (i : ℕ) → i < length (constraints_of (read bs)) → Idle split n b (get_or (constraints_of (read bs)) i no_constraint) = λ i l. a.quiet b z q i l (no_bit left i e) in
        rw a.nothing (no_place split n b (constraints_of (read bs)) idle, λ i l _. idle i l)

    -- one was looked through, and is left no more
    pub next_constraint : {k then j end bits : ℕ} {l : Constraint} {s : result.Option Found} → Takes left k then → AtRule split n bs ps rows k j end bits l s → end ≤ j → AtMask split n bs ps rows m looked then s
    unfolding constraint_of
    next_constraint {k} {then} {j} t g h = record { nothing = g.nothing; there = λ i e. a.there i (takes_left t i e); quiet = λ b z q i l y. go b z q i l y (ℕ_discrete i k) }
      where
        go : (b : Branch) → Shown b ps rows → Quiet split n (constraints_of (read bs)) b looked → (i : ℕ) → i < length (constraints_of (read bs)) → bit then i ≡ false → Dec (i ≡ k) → Idle split n b (get_or (constraints_of (read bs)) i no_constraint)
        go b z q i l y (yes e) = subst (λ (x : ℕ). Idle split n b (get_or (constraints_of (read bs)) x no_constraint)) (sym e) (λ x v. g.passed b z x v (omega (arith, v.1, g.here.ends)))
        go b z q i l y (no e) = a.quiet b z q i l (sym (takes_other t i e) ∙ y)

  module _ {i j end bits : ℕ} {l : Constraint} {r : result.Option Found} (a : AtRule split n bs ps rows i j end bits l r) where
    -- rule j is one of the constraint's, and its word can be asked for
    in_span : j < end → InSpan (span_of split (constraint_of bs i)) j
    in_span h = (a.begun, omega (arith, a.here.ends))

    pub asked : j < end → Asked bits l j
    asked h = record { handled = a.here.unpacked.handled; of_rule = subst (λ (x : calculus.Constraint). RuleOf x j) a.here.unpacked.is (rule_of split (constraint_of bs i) j (in_span h)); entries = a.here.entries }

    pub roots_start : {fit : ℕ} → FitsFor ps rows l j fit → AtRoot split n bs ps rows i j fit r
    roots_start {fit} f = record { nothing = a.nothing; lowest = λ b z. subst (λ (x : calculus.Constraint). Fits n b x j fit) (sym a.here.unpacked.is) (f n b a.here.few (subst (ConstraintIn n most_sets) a.here.unpacked.is a.here.in_terms) z) }

    -- no root is left: rule j does not apply
    pub next_rule : {left : ℕ} {s : result.Option Found} → AtRoot split n bs ps rows i j left s → left ≡ 0 → AtRule split n bs ps rows i (j + 1) end bits l s
    next_rule {left} g e = record { nothing = g.nothing; here = a.here; begun = omega (arith, a.begun); passed = λ b z k v h. go b z k v h (ℕ_discrete k j) }
      where
        go : (b : Branch) → Shown b ps rows → (k : ℕ) → InSpan (span_of split (constraint_of bs i)) k → k < j + 1 → Dec (k ≡ j) → first_at n b (constraint_of bs i) k ≡ none
        go b z k v h (yes q) = ap (first_at n b (constraint_of bs i)) q ∙ (map-eq-none_iff _ _).0 (g.lowest b z ∙ first_no (bit left) n (λ x _. no_bit left x e))
        go b z k v h (no q) = a.passed b z k v (omega arith)

  -- a root past the last is none
  pub next_root : {i j left h then : ℕ} {r : result.Option Found} → AtRoot split n bs ps rows i j left r → Takes left h then → n ≤ h → AtRoot split n bs ps rows i j then r
  next_root {left = left} {h} {then} g t e = record { nothing = g.nothing; lowest = λ b z. g.lowest b z ∙ first_no (bit left) n (λ k l. t.lowest k (omega arith)) ∙ sym (first_no (bit then) n (λ k l. takes_other t k (λ q. omega arith) ∙ t.lowest k (omega arith))) }

  -- any other is that of the first place: the constraints below the lowest are idle
  pub search_hit : {m looked left k then j end s h u low bits : ℕ} {l : Constraint} {r r₁ r₂ : result.Option Found} → AtMask split n bs ps rows m looked left r → Takes left k then → AtRule split n bs ps rows k j end bits l r₁ → j < end → AtRoot split n bs ps rows k j s r₂ → Takes s h u → h < n
      → looked < 2 ^ 64 → low < 2 ^ 64 → low ≡ 2 ^ k - 1 → ((i : ℕ) → bit looked i ≡ true → i < length (constraints_of (read bs)))
      → (b : Branch) → Shown b ps rows → Quiet split n (constraints_of (read bs)) b looked → IsFirst split n (constraints_of (read bs)) b (record { number = k; instance = record { constraint = l; rule = j; root = record { 0 = h } }; left = bit_and looked (2 ^ 64 - 1 - low) })
  unfolding constraint_of
  search_hit {looked = looked} {left} {k} {j = j} {s = s} {h} {low = low} {l = l} m t a v g t₂ e small low-small lower there b z q =
      let c : calculus.Constraint = constraint_of bs k in
      let w = (map-eq-some_iff (λ (p : ℕ). (move_at b c j p).0.index) (first_at n b c j)).0 (g.lowest b z ∙ first_lowest (bit s) h t₂.set t₂.lowest n 0 (omega arith) (omega arith)) in
      let p : ℕ = w.0 in
      let f : first_at n b c j ≡ some p = w.1 in
      let d = a.here in
      let y : InSpan (span_of split c) j = in_span a v in
      let fall : Falls b.parents = subst Falls (sym z.parents_are) d.falls in
      let range : ConstraintIn most_terms most_sets c = subst (ConstraintIn most_terms most_sets) (sym d.unpacked.is) d.unpacked.handled.in_range in
      let x = position_of most_terms most_sets n b c j p fall d.few range (rule_of split c j y) f in
      record {
        position = p;
        first_is = place_at split n b (constraints_of (read bs)) k (move_at b c j p) d.in_problem below (first_offer split n b c j p y (a.passed b z) f);
        located = record {
          within = record { in_problem = d.in_problem; of_rule = y; of_entry = x.0; of_root = λ o. x.1 o };
          concerns = ap term w.2;
          low = e;
          rooted = subst (λ (x : ℕ). root_at b x ≡ x) w.2 (concerned_root n b fall c j p d.few range (rule_of split c j y) f);
          opened = d.unpacked.is;
          handled = d.unpacked.handled;
        };
        quiet = λ i y o. still i y o (test (ltb i k));
        low = λ i y. there i (and_l (bit looked i) (not (ltb i k)) (sym (from i) ∙ y));
      }
    where
      below : (i : ℕ) → i < k → Idle split n b (get_or (constraints_of (read bs)) i no_constraint)
      below i o = m.quiet b z q i (omega (arith, a.here.in_problem)) (t.lowest i o)

      -- what is left begins with the constraint of the place
      from : (i : ℕ) → bit (bit_and looked (2 ^ 64 - 1 - low)) i ≡ (bit looked i && not (ltb i k))
      from i = bit_without 64 looked low i small low-small ∙ ap (λ (x : Bool). bit looked i && not x) (ap (λ (x : ℕ). bit x i) lower ∙ bit_ones k i)

      still : (i : ℕ) → i < length (constraints_of (read bs)) → bit (bit_and looked (2 ^ 64 - 1 - low)) i ≡ false → (ltb i k ≡ true) ⊎ (ltb i k ≡ false) → Idle split n b (get_or (constraints_of (read bs)) i no_constraint)
      still i y o (inl x) = below i (ltb-true i k x)
      still i y o (inr x) = q i y (rw (x, and-true (bit looked i)) at (sym (from i) ∙ o))
