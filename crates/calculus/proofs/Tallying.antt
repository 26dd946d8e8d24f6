-- What holds of a run's tally, by its moments: the log ends, a form fits or does not, no step is left, or one is.
use mathlib.Core.Path.{◌≡◌, refl}
use mathlib.Core.Bool.{Bool, true, false}
use mathlib.Core.List.{List, [], ◌∷◌}
use Prim.Native.Nat.{ℕ, zero, suc, ◌-◌, ◌<◌, ◌≤◌}
use lib.ListN.{length}
use lib.Dec.{leb}
use borrow.Author.Tests.{leb-true, leb-false}
use Rattle.calculus.specs.Branch.{Branch}
use Rattle.calculus.specs.Forms.{record_of}
use Rattle.calculus.specs.Run.{Event, formed, stepped, DONE, SPENT, NOROOM, Tally, stop, list_form, take_step, tally}

module _ (n : ℕ) (P : ℕ → ℕ → List Event → Tally → Type 0) (done : (l q : ℕ) → P l q [] (stop DONE))
    (fits : (b : Branch) (es : List Event) (l q : ℕ) (t : Tally) → length (record_of n b) ≤ q → P l (q - length (record_of n b)) es t → P l q (formed b ∷ es) (list_form (record_of n b) t))
    (full : (b : Branch) (es : List Event) (l q : ℕ) → q < length (record_of n b) → P l q (formed b ∷ es) (stop NOROOM))
    (spent : (r : List ℕ) (es : List Event) (q : ℕ) → P 0 q (stepped r ∷ es) (stop SPENT))
    (steps : (r : List ℕ) (es : List Event) (l q : ℕ) (t : Tally) → P l q es t → P (suc l) q (stepped r ∷ es) (take_step r t)) where
  pub tally_by : (es : List Event) (l q : ℕ) → P l q es (tally n l q es)
  tally_by [] l q = done l q
  tally_by (formed b ∷ es) l q = go (leb (length (record_of n b)) q) refl (tally_by es l (q - length (record_of n b)))
    where
      go : (t : Bool) → leb (length (record_of n b)) q ≡ t → P l (q - length (record_of n b)) es (tally n l (q - length (record_of n b)) es) → P l q (formed b ∷ es) (tally n l q (formed b ∷ es))
      go true e ih = rw (e, tally) (fits b es l q _ (leb-true (length (record_of n b)) q e) ih)
      go false e ih = rw (e, tally) (full b es l q (leb-false (length (record_of n b)) q e))
  tally_by (stepped r ∷ es) zero q = spent r es q
  tally_by (stepped r ∷ es) (suc l) q = steps r es l q _ (tally_by es l q)
