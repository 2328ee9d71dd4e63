-- Talks: what was said whenever bytes were waited for, and how a talk ended.
use Rattle.std.specs.Prelude.{◌≡◌, ◌⊎◌, ℕ, ◌<◌, List, ◌∷◌, ◌++◌, length, Some, None}
use Rattle.std.specs.declared.option.Option.{Option}
use Rattle.std.specs.Io.KnownBytes.{Appends, Consumes, IsAtEnd}
use Rattle.da_io.specs.declared.inputs.LastCall as calls
use Rattle.da_io.specs.declared.inputs.LastCall.TheVariants as call
use Rattle.da_io.specs.Faults.{max_count, count_on}
use Rattle.da_io.specs.Sinks.{IsProperPrefix}
use Rattle.da_wire.specs.declared.frames.FrameError.TheVariants as frame
use Rattle.da_wire.specs.Frames.{bad_frame}
use Rattle.da_wire.specs.Streams.{why_no_frame}
use Rattle.da_talk.specs.declared.line.Line as line
use Rattle.da_talk.specs.declared.ended.Ended.{Ended}
use Rattle.da_talk.specs.declared.ended.Ended.TheVariants.{Done, Bad, ReadFailed, WriteFailed, TooLong}
use Rattle.da_talk.specs.Events.{Event, heard, heard_in, said_in, Grows}

-- ---- a line

-- what a line did: these events came, what they heard is gone from what is left and counted, and what they said was
-- taken
pub record Does {L : Type 0} (l : line.Ghosts L) (old new : L) (events : List Event) : Type 0 where
  pub grows : Grows (l.events old) (l.events new) events
  pub rest : Consumes (l.rest old) (l.rest new) (heard_in events)
  pub taken : Appends (l.taken old) (l.taken new) (said_in events)
  pub given : l.given new ≡ count_on (l.given old) (length (heard_in events))
  pub stays : l.stays old new

-- ---- the order of what happened

-- whenever bytes are waited for, this holds of the bytes that were heard and of those that were said by then
abbrev pub AtEachWait : (List ℕ → List ℕ → Type 0) → List Event → Type 0
AtEachWait Holds events =
    (before later : List Event) (bytes : List ℕ) → events ≡ before ++ heard bytes ∷ later → Holds (heard_in before) (said_in before)

-- a string begins with another
abbrev pub Begins : List ℕ → List ℕ → Type 0
Begins whole part = (more : List ℕ) × (whole ≡ part ++ more)

-- whenever bytes are waited for, all that is due for the bytes that were heard by then was said, and nothing else;
-- and in the end nothing was said that isn't due
pub record IsPrompt (due : List ℕ → List ℕ) (events : List Event) : Type 0 where
  pub waits : AtEachWait (λ came went. went ≡ due came) events
  pub front : Begins (due (heard_in events)) (said_in events)

-- no frame of these bytes states a length above the limit
abbrev pub HasNoLong : List ℕ → Type 0
HasNoLong bytes = (at : ℕ) → why_no_frame bytes ≡ Some (frame.TooLong at) → ⊥

-- ---- the end

-- all was said that is due for what was heard
abbrev pub IsAnswered : (List ℕ → List ℕ) → List Event → Type 0
IsAnswered due events = said_in events ≡ due (heard_in events)

-- the frame at this offset states a length above the limit, or the bytes ended within it
abbrev pub IsBad : List ℕ → Option (List ℕ) → ℕ → Type 0
IsBad bytes rest at = (why_no_frame bytes ≡ Some (frame.TooLong at)) ⊎ ((why_no_frame bytes ≡ Some (frame.Truncated at)) × IsAtEnd rest)

-- what the end of a talk says of what was heard and said, and of what is left to be heard
abbrev pub EndsTalk : (List ℕ → List ℕ) → List Event → Option (List ℕ) → Ended → Type 0
EndsTalk due events rest Done = IsAnswered due events × (bad_frame (heard_in events) ≡ None) × IsAtEnd rest
EndsTalk due events rest (Bad at) = IsAnswered due events × IsBad (heard_in events) rest at
EndsTalk due events rest ReadFailed = IsAnswered due events
EndsTalk due events rest WriteFailed = IsProperPrefix (said_in events) (due (heard_in events))
EndsTalk due events rest TooLong = max_count < length (heard_in events)

-- a talk: what happened, that each answer was said before more bytes were waited for, that none were waited for behind
-- a length above the limit, and the end
pub record HasTalked {L : Type 0} (l : line.Ghosts L) (old new : L) (due : List ℕ → List ℕ) (ended : Ended) : Type 0 where
  pub events : List Event
  pub did : Does l old new events
  pub prompt : IsPrompt due events
  pub at_once : AtEachWait (λ came went. HasNoLong came) events
  pub end : EndsTalk due events (l.rest new) ended

-- ---- failures

-- how the last wait for bytes ended
abbrev pub last_wait : Ended → calls.LastCall
last_wait Done = call.Fine
last_wait (Bad at) = call.Fine
last_wait ReadFailed = call.ReadFailed
last_wait WriteFailed = call.Fine
last_wait TooLong = call.Fine

-- how many waits for bytes failed
abbrev pub read_count : Ended → ℕ
read_count Done = 0
read_count (Bad at) = 0
read_count ReadFailed = 1
read_count WriteFailed = 0
read_count TooLong = 0

-- how many replies couldn't be said whole
abbrev pub write_count : Ended → ℕ
write_count Done = 0
write_count (Bad at) = 0
write_count ReadFailed = 0
write_count WriteFailed = 1
write_count TooLong = 0
