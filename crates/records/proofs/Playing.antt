-- Events played one after the other: a stopped run stays as it is, and counts and buffers stay within their bounds.
use mathlib.Core.Path.{◌≡◌, refl, ◌∙◌}
use mathlib.Core.Bool.{Bool, true, false, cond}
use mathlib.Core.List.{List, [], ◌∷◌, ◌++◌}
use Prim.Native.Nat.{ℕ, ◌+◌, ◌*◌, ◌<◌, ◌≤◌}
use native.Mathlib.Omega.{arith}
use native.Mathlib.Nat.{mul-suc}
use lib.ListN.{length}
use lib.Dec.{leb, eqb}
use borrow.Author.Tests.{leb-true, leb-false, eqb-true, eqb-false}
use Rattle.calculus.specs.Lists.{Each}
use Rattle.calculus.specs.Run.{Event, formed, stepped, End, DONE, SPENT, NOROOM}
use Rattle.calculus.specs.Forms.{record_length, record_of}
use Rattle.calculus.proofs.RecordFields.{record_is_long}
use Rattle.records.specs.declared.Counts.{Counts}
use Rattle.records.specs.declared.Stop.{Stop}
use Rattle.records.specs.declared.Stop.TheVariants.{Spent, NoRoom}
use Rattle.records.specs.State.{State, state, stopped, with_form, wrote_step, with_step, going, event, play, Fine}
use Rattle.slices.proofs.Buffers.{put_length}
use Rattle.records.proofs.FormWriting.{listed_there, listed_not, noted_there, noted_not}

-- the record of a step is four bytes
abbrev pub Shaped : Event → Type 0
Shaped (formed b) = Unit {0}
Shaped (stepped r) = length r ≡ 4

module _ (n budget : ℕ) where
  -- one list of events after the other
  pub play_append : (s : State) (es fs : List Event) → play n budget s (es ++ fs) ≡ play n budget (play n budget s es) fs
  play_append s [] fs = refl
  play_append s (e ∷ es) fs = play_append (event n budget s e) es fs

  -- ---- a stopped run

  pub play_stopped : (c : Counts) (w : Stop) (F T : List ℕ) (es : List Event) → play n budget (state c (stopped w) F T) es ≡ state c (stopped w) F T
  play_stopped c w F T [] = refl
  play_stopped c Spent F T (formed b ∷ es) = play_stopped c Spent F T es
  play_stopped c Spent F T (stepped r ∷ es) = play_stopped c Spent F T es
  play_stopped c NoRoom F T (formed b ∷ es) = play_stopped c NoRoom F T es
  play_stopped c NoRoom F T (stepped r ∷ es) = play_stopped c NoRoom F T es

  -- ---- what is kept

  -- a state t that comes after s is fine, and its buffers are as long
  pub record Kept (s t : State) : Type 0 where
    pub fine : Fine n budget t
    pub forms_length : length t.forms ≡ length s.forms
    pub trace_length : length t.trace ≡ length s.trace

  kept : (s t : State) → Fine n budget s → t.counts.steps ≤ budget → record_length n * t.counts.forms ≤ length s.forms → length t.forms ≡ length s.forms → length t.trace ≡ length s.trace → Kept s t
  kept s t F a w f g = record { fine = record { within = a; few = F.few; traced = omega (arith, F.traced, g); written = omega arith }; forms_length = f; trace_length = g }

  same_kept : (s : State) → Fine n budget s → Kept s s
  same_kept s F = record { fine = F; forms_length = refl; trace_length = refl }

  listed_kept : (s : State) → Fine n budget s → (r : List ℕ) → length r ≡ record_length n → Kept s (with_form n r s)
  listed_kept s F r e = go (leb (record_length n * s.counts.forms + record_length n) (length s.forms)) refl
    where
      go : (t : Bool) → leb (record_length n * s.counts.forms + record_length n) (length s.forms) ≡ t → Kept s (with_form n r s)
      go true q =
          let l = leb-true (record_length n * s.counts.forms + record_length n) (length s.forms) q in
          rw (listed_there n r s l) (kept s _ F F.within (omega (arith, l, mul-suc (record_length n) s.counts.forms)) (put_length s.forms (record_length n * s.counts.forms) r (omega arith)) refl)
      go false q = rw (listed_not n r s (leb-false (record_length n * s.counts.forms + record_length n) (length s.forms) q)) (kept s _ F F.within F.written refl refl)

  noted_kept : (s : State) → Fine n budget s → (r : List ℕ) → length r ≡ 4 → Kept s (with_step budget r s)
  noted_kept s F r e = go (eqb s.counts.steps budget) refl
    where
      go : (t : Bool) → eqb s.counts.steps budget ≡ t → Kept s (with_step budget r s)
      go true q = rw (noted_not budget r s (eqb-true s.counts.steps budget q)) (kept s _ F F.within F.written refl refl)
      go false q =
          let d : s.counts.steps ≡ budget → ⊥ = eqb-false s.counts.steps budget q in
          let l : s.counts.steps < budget = omega (arith, d, F.within) in
          rw (noted_there budget r s d) (kept s _ F l F.written refl (put_length s.trace (4 * s.counts.steps) r (omega (arith, F.traced))))

  going_kept : (s : State) → Fine n budget s → (t : State) (e : End) → Kept s t → Kept s (going e t s)
  going_kept s F t DONE k = k
  going_kept s F t SPENT k = same_kept s F
  going_kept s F t NOROOM k = same_kept s F

  -- an event keeps a state fine
  pub fine_kept : (s : State) → Fine n budget s → (e : Event) → Shaped e → Kept s (event n budget s e)
  fine_kept s F (formed b) w = going_kept s F _ s.end (listed_kept s F (record_of n b) (record_is_long b n))
  fine_kept s F (stepped r) w = going_kept s F _ s.end (noted_kept s F r w)

  -- a step lists no form
  pub step_forms : (s : State) (r : List ℕ) → (with_step budget r s).counts.forms ≡ s.counts.forms
  unfolding with_step
  step_forms s r = elim (eqb s.counts.steps budget) as (λ t. (cond t (state s.counts SPENT s.forms s.trace) (wrote_step r s)).counts.forms ≡ s.counts.forms) [ true ↦ refl | false ↦ refl ]

  -- and so do many
  pub play_kept : (s : State) → Fine n budget s → (es : List Event) → Each Shaped es → Kept s (play n budget s es)
  play_kept s F [] w = same_kept s F
  play_kept s F (e ∷ es) w =
      let k = fine_kept s F e w.0 in
      let m = play_kept (event n budget s e) k.fine es w.1 in
      record { fine = m.fine; forms_length = m.forms_length ∙ k.forms_length; trace_length = m.trace_length ∙ k.trace_length }
