-- The state of a run: its counters and both buffers, and what each event makes of it.
use Rattle.std.specs.Prelude.{◌≡◌, cond, List, [], ◌∷◌, ℕ, suc, ⊤, Result, Ok, Err, ◌+◌, ◌*◌, ◌≤◌, length, eqb, leb}
use Rattle.calculus.specs.Limits.{most_steps}
use Rattle.calculus.specs.Forms.{record_length, record_of}
use Rattle.calculus.specs.Run.{Event, formed, stepped, End, DONE, SPENT, NOROOM, Tally}
use Rattle.calculus.specs.Calls.{over}
use Rattle.slices.specs.Bytes.{put_at}
use Rattle.records.specs.declared.Counts.{Counts}
use Rattle.records.specs.declared.Output.{Output}
use Rattle.records.specs.declared.Step.{Step}
use Rattle.records.specs.declared.Stop.{Stop}
use Rattle.records.specs.declared.Stop.TheVariants.{Spent, NoRoom}

-- the counts, how the run stands (DONE while it goes on), the form buffer and the trace buffer
pub record State : Type 0 where
  pub counts : Counts
  pub end : End
  pub forms : List ℕ
  pub trace : List ℕ

abbrev pub counts_of : (steps forms : ℕ) → Counts
counts_of steps forms = record { steps = steps; forms = forms }

abbrev pub state : Counts → End → List ℕ → List ℕ → State
state c end forms trace = record { counts = c; end = end; forms = forms; trace = trace }

-- as an output has it, where the run stands so
abbrev pub written : Output → End → State
written out e = state out.counts e out.forms.now out.trace.now

-- an output still has the buffers that were lent to it
abbrev pub SameBuffers : Output → Output → Type 0
SameBuffers before after = (after.forms.ghost_name ≡ before.forms.ghost_name) × (after.trace.ghost_name ≡ before.trace.ghost_name)

-- how a run stands after an answer
abbrev pub stopped : Stop → End
stopped Spent = SPENT
stopped NoRoom = NOROOM

abbrev pub end_of : Result ⊤ Stop → End
end_of (Ok _) = DONE
end_of (Err stop) = stopped stop

-- a solved form of n terms: its record is written after the others if it fits
unfoldable pub with_form : ℕ → List ℕ → State → State
with_form n r s = cond (leb (record_length n * s.counts.forms + record_length n) (length s.forms))
    (state (counts_of s.counts.steps (suc s.counts.forms)) DONE (put_at s.forms (record_length n * s.counts.forms) r) s.trace)
    (state s.counts NOROOM s.forms s.trace)

-- the four bytes of a step
abbrev pub bytes_of : Step → List ℕ
bytes_of s = s.rule ∷ s.constraint ∷ s.root.0 ∷ s.children ∷ []

-- a step is written and counted; and that only if the budget has one left
abbrev pub wrote_step : List ℕ → State → State
wrote_step r s = state (counts_of (suc s.counts.steps) s.counts.forms) DONE s.forms (put_at s.trace (4 * s.counts.steps) r)

unfoldable pub with_step : ℕ → List ℕ → State → State
with_step budget r s = cond (eqb s.counts.steps budget) (state s.counts SPENT s.forms s.trace) (wrote_step r s)

-- an event changes nothing once the run has stopped
abbrev pub going : End → State → State → State
going DONE more s = more
going SPENT more s = s
going NOROOM more s = s

abbrev pub event : ℕ → ℕ → State → Event → State
event n budget s (formed b) = going s.end (with_form n (record_of n b) s) s
event n budget s (stepped r) = going s.end (with_step budget r s) s

-- events, one after the other
abbrev pub play : ℕ → ℕ → State → List Event → State
play n budget s [] = s
play n budget s (e ∷ es) = play n budget (event n budget s e) es

-- before the first event, and as a tally leaves it
abbrev pub begun : List ℕ → List ℕ → State
begun forms trace = state (counts_of 0 0) DONE forms trace

abbrev pub state_left : Tally → List ℕ → List ℕ → State
state_left t forms trace = state (counts_of t.steps t.forms) t.end (over t.records forms) (over t.trace trace)

-- steps within the budget, records and trace within their buffers
pub record Fine (n budget : ℕ) (s : State) : Type 0 where
  pub within : s.counts.steps ≤ budget
  pub few : budget ≤ most_steps
  pub traced : 4 * budget ≤ length s.trace
  pub written : record_length n * s.counts.forms ≤ length s.forms
