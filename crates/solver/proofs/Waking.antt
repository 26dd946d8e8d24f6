-- Which constraints a search looks at. A search narrows the masks to what is left to look at, and an act widens them by what it wakes.
use mathlib.Core.Path.{◌≡◌, refl, sym, ap, ◌∙◌, subst}
use mathlib.Core.Bool.{Bool, true, false, ◌&&◌, ◌||◌, true≢false, false≢true}
use mathlib.Core.List.{List}
use Prim.Native.Nat.{ℕ, zero, suc, ◌+◌, ◌-◌, ◌^◌, ◌<◌, ◌≤◌}
use native.Mathlib.Omega.{arith}
use native.Mathlib.Decide.{ℕ_discrete}
use lib.ListN.{length, get_or}
use lib.Dec.{ltb}
use lib.Bits.{bit_or}
use borrow.Author.Tests.{lt-ltb, ltb-true}
use Rattle.std.specs.Prelude as result
use Rattle.std.specs.Prelude.{Some, None}
use Rattle.calculus.specs.Limits.{most_sets}
use Rattle.calculus.specs.Lists.{up_from, any, bit}
use Rattle.calculus.specs.Terms.{Term}
use Rattle.calculus.specs.Meaning.{Constraint}
use Rattle.calculus.proofs.Bools.{and_r, or_r, clash}
use Rattle.calculus.specs.Branch as calculus
use Rattle.calculus.proofs.Masks.{bit_zero}
use Rattle.problem.specs.declared.Table.{Table}
use Rattle.problem.specs.Table.{Opened, constraint_of}
use Rattle.problem.proofs.Access.{opened_sizes, constraint_count}
use Rattle.solver.proofs.Opening.{place_there}
use Rattle.bits.proofs.Bits.{bit_of_or, bit_ones}
use Rattle.branch.specs.declared.Branch.{Branch}
use Rattle.branch.specs.declared.Asserted.{Asserted}
use Rattle.branch.specs.Held.{held, Sound}
use Rattle.branch.specs.Rows.{literals, literal_count}
use Rattle.branch.proofs.Roots.{root_is}
use Rattle.constraints.proofs.Decoding.{constraint_in}
use Rattle.quiet.specs.Quiet.{Quiet, WordsOf, pair_mark}
use Rattle.quiet.proofs.Waking.{Watched, quiet_noted, quiet_merged}
use Rattle.search.specs.declared.Found.{Found}
use Rattle.search.specs.First.{Finds}
use Rattle.search.proofs.Order.{all_idle}
use Rattle.step.specs.declared.Act.{Act}
use Rattle.step.specs.declared.Act.TheVariants.{Note, Merge, Close}
use Rattle.step.specs.Acts.{performed, Rooted, Under}
use Rattle.solver.specs.ComesTo.{constants, constraints_in, Wakes, Settled, Ready}

-- ---- a mask that is widened

wider_l : (a b i : ℕ) → bit (bit_or a b) i ≡ false → bit a i ≡ false
wider_l a b i e = go (bit a i) (sym (bit_of_or a b i) ∙ e)
  where
    go : (x : Bool) → (x || bit b i) ≡ false → x ≡ false
    go true z = z
    go false z = refl

both_low : (a b i : ℕ) {n : ℕ} → (bit a i ≡ true → i < n) → (bit b i ≡ true → i < n) → bit (bit_or a b) i ≡ true → i < n
both_low a b i {n} f g e = go (bit a i) refl
  where
    go : (x : Bool) → bit a i ≡ x → i < n
    go true z = f z
    go false z = g (ap (λ (x : Bool). x || bit b i) (sym z) ∙ sym (bit_of_or a b i) ∙ e)

-- one of some numbers passes a test
some_up : (f : ℕ → Bool) (k m n : ℕ) → k ≤ m → m < k + n → f m ≡ true → any f (up_from k n) ≡ true
some_up f k m zero l h e = absurd (omega arith)
some_up f k m (suc n) l h e = go (ℕ_discrete m k) (λ l h. some_up f (suc k) m n l h e)
  where
    go : Dec (m ≡ k) → (suc k ≤ m → m < suc k + n → any f (up_from (suc k) n) ≡ true) → (f k || any f (up_from (suc k) n)) ≡ true
    go (yes q) r = ap (λ (t : Bool). t || any f (up_from (suc k) n)) (ap f (sym q) ∙ e)
    go (no q) r = or_r (f k) (r (omega arith) (omega arith))

each_up : (f : ℕ → Bool) (P : Type 0) (k n : ℕ) → any f (up_from k n) ≡ true → ((m : ℕ) → k ≤ m → m < k + n → f m ≡ true → P) → P
each_up f P k zero e g = absurd (false≢true e)
each_up f P k (suc n) e g = go (f k) refl (λ z. each_up f P (suc k) n (ap (λ (t : Bool). t || any f (up_from (suc k) n)) (sym z) ∙ e) (λ m l h. g m (omega arith) (omega arith)))
  where
    go : (x : Bool) → f k ≡ x → (f k ≡ false → P) → P
    go true z r = g k (omega arith) (omega arith) z
    go false z r = r z

-- ---- an act

module _ {n : ℕ} {ls : List Constraint} {entries marks : List ℕ} (d : Watched n ls entries marks) where
  -- what it wakes is there
  woken_low : (a : Act) (w : ℕ) → Wakes marks a w → (i : ℕ) → bit w i ≡ true → i < length ls
  woken_low (Note h x y) w k i e = each_up (λ (m : ℕ). bit (literals x y) m && bit (get_or marks m 0) i) (i < length ls) 0 literal_count (sym (k i) ∙ e) (λ m _ l z. d.words_are.low m (omega arith) i (and_r (bit (literals x y) m) (bit (get_or marks m 0) i) z))
  woken_low (Merge lo hi) w k i e = d.words_are.low pair_mark (omega arith) i (sym (k i) ∙ e)
  woken_low Close w k i e = absurd (false≢true (sym (k i) ∙ e))

  act_quiet : (split : Bool) (mask w : ℕ) {b : Branch} {cs : List Term} → Sound cs b → (a : Act) → Rooted b.parents a → Under n a → Wakes marks a w → Quiet split n ls (held b) mask → Quiet split n ls (held (performed b a).branch) (bit_or mask w)
  act_quiet split mask w s (Note h x y) r u k q = quiet_noted d split mask w s x y r.0 (root_is _ _ ∙ r.1) (λ m i l e z. k i ∙ some_up (λ (j : ℕ). bit (literals x y) j && bit (get_or marks j 0) i) 0 m 16 (omega arith) (omega arith) (ap (λ (t : Bool). t && bit (get_or marks m 0) i) e ∙ z)) q
  act_quiet split mask w s (Merge lo hi) r u k q = quiet_merged d split mask w s r.0 u (root_is _ _ ∙ r.2) (root_is _ _ ∙ r.3) (λ i e. k i ∙ e) q
  act_quiet split mask w s Close r u k q = λ i l e. q i l (wider_l mask w i e)

-- ---- at the start: all constraints are in both masks

pub all_ready : {bs : List ℕ} {tab : Table} {b : Branch} {all : ℕ} → Opened bs tab → Sound (constants bs tab) b → all ≡ 2 ^ tab.constraints - 1 → Ready bs tab b all all
all_ready {bs} {tab} {all = all} o s e = record { sound = s; propagation = λ i l z. absurd (true≢false (sym (there i l) ∙ z)); splits = λ i l z. absurd (true≢false (sym (there i l) ∙ z)); wake_low = low; ripe_low = low }
  where
    bits : (i : ℕ) → bit all i ≡ ltb i tab.constraints
    bits i = ap (λ (n : ℕ). bit n i) e ∙ bit_ones tab.constraints i

    there : (i : ℕ) → i < length (constraints_in bs tab) → bit all i ≡ true
    there i l = bits i ∙ lt-ltb i tab.constraints (omega (arith, constraint_count bs tab o))

    low : (i : ℕ) → bit all i ≡ true → i < tab.constraints
    low i z = ltb-true i tab.constraints (sym (bits i) ∙ z)

-- ---- the masks of a branch

-- what a search leaves to look at: nothing, where it finds nothing
abbrev pub left_of : result.Option Found → ℕ
left_of (Some r) = r.left
left_of None = 0

-- what it does not leave has no place, and what it leaves is there
left_over : (split : Bool) (n : ℕ) (ls : List Constraint) (b : calculus.Branch) (r : result.Option Found) → Finds split n ls b r → Quiet split n ls b (left_of r) × ((i : ℕ) → bit (left_of r) i ≡ true → i < length ls)
left_over split n ls b (Some r) f = (f.quiet, f.low)
left_over split n ls b None f = (f.1, λ i e. clash e (bit_zero i))

module _ {bs : List ℕ} {tab : Table} (o : Opened bs tab) {b : Branch} {wake ripe : ℕ} (y : Ready bs tab b wake ripe) where
  -- after a search for propagation rules, whether it finds one or none, and after one for splits
  pub narrowed : (r : result.Option Found) → Finds false tab.terms (constraints_in bs tab) (held b) r → Ready bs tab b (left_of r) ripe
  narrowed r f = let w = left_over false tab.terms (constraints_in bs tab) (held b) r f in record { sound = y.sound; propagation = w.0; splits = y.splits; wake_low = λ i e. place_there bs tab o (w.1 i e); ripe_low = y.ripe_low }

  pub narrowed_splits : (r : result.Option Found) → Finds true tab.terms (constraints_in bs tab) (held b) r → Ready bs tab b wake (left_of r)
  narrowed_splits r f = let w = left_over true tab.terms (constraints_in bs tab) (held b) r f in record { sound = y.sound; propagation = y.propagation; splits = w.0; wake_low = y.wake_low; ripe_low = λ i e. place_there bs tab o (w.1 i e) }

  -- where it is known only that no propagation rule applies
  pub quieted : Settled bs tab b → Ready bs tab b 0 ripe
  quieted e = narrowed None (e, λ i l _. all_idle false tab.terms (held b) (constraints_in bs tab) e i l)

  -- after an act
  module _ {entries marks : List ℕ} (k : WordsOf (constraints_in bs tab) entries marks) where
    watched : Watched tab.terms (constraints_in bs tab) entries marks
    unfolding constraint_of
    watched = record { words_are = k; in_range = λ i l. constraint_in bs tab i o (place_there bs tab o l) tab.terms most_sets (omega arith) (opened_sizes bs tab o).1; few = (opened_sizes bs tab o).2 }

    pub widened : {c : Asserted} (a : Act) (w : ℕ) → Rooted b.parents a → Under tab.terms a → Wakes marks a w → c ≡ performed b a → Sound (constants bs tab) c.branch → Ready bs tab c.branch (bit_or wake w) (bit_or ripe w)
    widened {c} a w r u x e s = record {
      sound = s;
      propagation = subst (λ (x : Asserted). Quiet false tab.terms (constraints_in bs tab) (held x.branch) (bit_or wake w)) (sym e) (act_quiet watched false wake w y.sound a r u x y.propagation);
      splits = subst (λ (x : Asserted). Quiet true tab.terms (constraints_in bs tab) (held x.branch) (bit_or ripe w)) (sym e) (act_quiet watched true ripe w y.sound a r u x y.splits);
      wake_low = λ i. both_low wake w i (y.wake_low i) (λ z. place_there bs tab o (woken_low watched a w x i z));
      ripe_low = λ i. both_low ripe w i (y.ripe_low i) (λ z. place_there bs tab o (woken_low watched a w x i z));
    }
