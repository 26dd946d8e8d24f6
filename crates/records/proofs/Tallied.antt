-- Events played from the beginning leave what their tally says.
use mathlib.Core.Path.{◌≡◌, refl, sym, ap, ◌∙◌}
use mathlib.Core.Bool.{Bool, true, false, false≢true}
use mathlib.Core.Option.{Option, none, some}
use mathlib.Core.List.{List, [], ◌∷◌}
use Prim.Native.Nat.{ℕ, zero, suc, ◌+◌, ◌-◌, ◌*◌, ◌≤◌}
use native.Mathlib.Omega.{arith}
use native.Mathlib.Nat.{mul-suc, add-zero}
use lib.ListN.{length}
use lib.Dec.{leb}
use borrow.Author.Tests.{leb-true, leb-false}
use Rattle.calculus.specs.Lists.{Each, first}
use Rattle.calculus.specs.Terms.{Term}
use Rattle.calculus.specs.Meaning.{Constraint}
use Rattle.calculus.specs.Branch.{Branch, known}
use Rattle.calculus.specs.Relations.{applies}
use Rattle.calculus.specs.Search.{Candidate, children, step, next, taken, places}
use Rattle.calculus.specs.Forms.{record_length, record_of}
use Rattle.calculus.specs.Run.{Event, formed, stepped, log, End, DONE, SPENT, NOROOM, Tally, stop, list_form, take_step, tally}
use Rattle.calculus.proofs.Bools.{each_is_all}
use Rattle.calculus.proofs.LogEvents.{log_each}
use Rattle.calculus.proofs.RecordFields.{record_is_long}
use Rattle.records.specs.declared.Stop.TheVariants.{Spent, NoRoom}
use Rattle.records.specs.State.{State, counts_of, state, with_form, play, begun, state_left}
use Rattle.slices.specs.Bytes.{put_at}
use Rattle.slices.proofs.Buffers.{put_length, put_nothing, put_after, put_first}
use Rattle.records.proofs.FormWriting.{listed_there, listed_not, noted_there, noted_not}
use Rattle.records.proofs.Playing.{Shaped, play_stopped}

-- what a tally adds to a run of n terms that has taken a steps and listed f forms
abbrev pub ahead : (n a f : ℕ) → List ℕ → List ℕ → Tally → State
ahead n a f forms trace t = state (counts_of (a + t.steps) (f + t.forms)) t.end (put_at forms (record_length n * f) t.records) (put_at trace (4 * a) t.trace)

-- equal parts
same_state : {a a' f f' : ℕ} {e : End} {forms forms' trace trace' : List ℕ} → a ≡ a' → f ≡ f' → forms ≡ forms' → trace ≡ trace' → state (counts_of a f) e forms trace ≡ state (counts_of a' f') e forms' trace'
same_state p q r s = rw (p, q, r, s)

module _ (n : ℕ) (a f : ℕ) (forms trace : List ℕ) where
  -- nothing more
  ahead_stop : (e : End) → state (counts_of a f) e forms trace ≡ ahead n a f forms trace (stop e)
  ahead_stop e = rw (add-zero a, add-zero f, put_nothing forms (record_length n * f), put_nothing trace (4 * a))

  -- first a form
  ahead_form : (r : List ℕ) → length r ≡ record_length n → record_length n * f ≤ length forms → (t : Tally) → ahead n a (suc f) (put_at forms (record_length n * f) r) trace t ≡ ahead n a f forms trace (list_form r t)
  ahead_form r e l t =
      let q : record_length n * suc f ≡ record_length n * f + length r = omega (arith, mul-suc (record_length n) f) in
      same_state refl (omega arith) (ap (λ (k : ℕ). put_at (put_at forms (record_length n * f) r) k t.records) q ∙ put_after forms (record_length n * f) r t.records l) refl

  -- first a step
  ahead_step : (r : List ℕ) → length r ≡ 4 → 4 * a ≤ length trace → (t : Tally) → ahead n (suc a) f forms (put_at trace (4 * a) r) t ≡ ahead n a f forms trace (take_step r t)
  ahead_step r e l t =
      let q : 4 * suc a ≡ 4 * a + length r = omega arith in
      same_state (omega arith) refl refl (ap (λ (k : ℕ). put_at (put_at trace (4 * a) r) k t.trace) q ∙ put_after trace (4 * a) r t.trace l)

-- a run that goes on, with l steps left in the budget and q bytes left in the form buffer
pub play_on : (n budget : ℕ) (es : List Event) → Each Shaped es → (a l f q : ℕ) (forms trace : List ℕ) → a + l ≡ budget → record_length n * f + q ≡ length forms → 4 * budget ≤ length trace
    → play n budget (state (counts_of a f) DONE forms trace) es ≡ ahead n a f forms trace (tally n l q es)
play_on n budget [] w a l f q forms trace ea ef et = ahead_stop n a f forms trace DONE
play_on n budget (formed b ∷ es) w a l f q forms trace ea ef et = go (leb (length (record_of n b)) q) refl (play_on n budget es w.1)
  where
    r : List ℕ
    r = record_of n b

    s : State
    s = state (counts_of a f) DONE forms trace

    go : (t : Bool) → leb (length r) q ≡ t
        → ((a l f q : ℕ) (forms trace : List ℕ) → a + l ≡ budget → record_length n * f + q ≡ length forms → 4 * budget ≤ length trace → play n budget (state (counts_of a f) DONE forms trace) es ≡ ahead n a f forms trace (tally n l q es))
        → play n budget (with_form n r s) es ≡ ahead n a f forms trace (tally n l q (formed b ∷ es))
    go true t ih =
        let m = leb-true (length r) q t in
        let p = put_length forms (record_length n * f) r (omega (arith, record_is_long b n)) in
        rw (t, tally, listed_there n r s (omega (arith, record_is_long b n)))
        (ih a l (suc f) (q - length r) (put_at forms (record_length n * f) r) trace ea (omega (arith, mul-suc (record_length n) f, record_is_long b n)) et
        ∙ ahead_form n a f forms trace r (record_is_long b n) (omega arith) (tally n l (q - length r) es))
    go false t ih =
        let m = leb-false (length r) q t in
        rw (t, tally, listed_not n r s (omega (arith, record_is_long b n))) (play_stopped n budget (counts_of a f) NoRoom forms trace es ∙ ahead_stop n a f forms trace NOROOM)
play_on n budget (stepped r ∷ es) w a zero f q forms trace ea ef et =
    rw (noted_not budget r (state (counts_of a f) DONE forms trace) (omega arith)) (play_stopped n budget (counts_of a f) Spent forms trace es ∙ ahead_stop n a f forms trace SPENT)
play_on n budget (stepped r ∷ es) w a (suc l) f q forms trace ea ef et =
    let p = put_length trace (4 * a) r (omega (arith, w.0)) in
    rw (noted_there budget r (state (counts_of a f) DONE forms trace) (λ e. omega arith))
    (play_on n budget es w.1 (suc a) l f q forms (put_at trace (4 * a) r) (omega arith) ef (omega arith) ∙ ahead_step n a f forms trace r w.0 (omega arith) (tally n l q es))

-- from the beginning
ahead_begun : (n : ℕ) (forms trace : List ℕ) (t : Tally) → ahead n 0 0 forms trace t ≡ state_left t forms trace
ahead_begun n forms trace t = same_state (omega arith) (omega arith) (put_first forms (record_length n * 0) t.records (omega arith)) (put_first trace (4 * 0) t.trace refl)

pub play_tally : (n budget : ℕ) (forms trace : List ℕ) (es : List Event) → Each Shaped es → 4 * budget ≤ length trace → play n budget (begun forms trace) es ≡ state_left (tally n budget (length forms) es) forms trace
play_tally n budget forms trace es w l = play_on n budget es w 0 budget 0 (length forms) forms trace (omega arith) (omega arith) l ∙ ahead_begun n forms trace (tally n budget (length forms) es)

-- ---- the events of a log

taken_four : (ks : List Term) (b : Branch) (o : Option Candidate) (r : List ℕ) (cs : List Branch) → taken ks b o ≡ step r cs → length r ≡ 4
taken_four ks b none r cs e = let w : false ≡ true = cc in absurd (false≢true w)
taken_four ks b (some p) r cs e = let z : (p.move.rule ∷ p.constraint ∷ p.concerned.index ∷ length (children ks b p.move) ∷ []) ≡ r = cc in ap (length {A = ℕ}) (sym z)

-- each step of a log has a record of four bytes
pub log_shaped : (n : ℕ) (ks : List Term) (ls : List Constraint) (fuel : ℕ) (b : Branch) → Each Shaped (log n ks ls fuel b)
unfolding next
log_shaped n ks ls fuel b =
    log_each n ks ls (λ _. Unit {0}) Shaped (λ _ _. tt)
    (λ b _ r cs q. (taken_four ks b (first (λ (p : Candidate). applies (known b) p.move) (places n ls b)) r cs q, each_is_all (λ _. Unit {0}) (λ _. tt) cs))
    fuel b tt
