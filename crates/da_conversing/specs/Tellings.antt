-- A talk over TALK with whatever replies to its frames.
use Rattle.std.specs.Prelude.{◌≡◌, ◌⊎◌, ℕ, List, length, ⊤, Some}
use Rattle.std.specs.declared.option.Option.{Option}
use Rattle.std.specs.Io.KnownBytes.{Appends, Consumes}
use Rattle.da_io.specs.declared.inputs.Inputs as inputs
use Rattle.da_io.specs.declared.sink.Sink as sink
use Rattle.da_io.specs.declared.inputs.LastCall.TheVariants as call
use Rattle.da_io.specs.Faults.{count_on}
use Rattle.da_wire.specs.Frames.{frames_of}
use Rattle.da_status.specs.declared.status.Status.{Status}
use Rattle.da_status.specs.declared.status.Status.TheVariants as status
use Rattle.da_status.specs.Statuses.{status_kind, output}
use Rattle.da_talk.specs.declared.talker.Talker as talker
use Rattle.da_talk.specs.declared.talk_end.TalkEnd.{TalkEnd}
use Rattle.da_talk.specs.declared.talk_end.TalkEnd.TheVariants.{Over, Decided, Bad, Unfit, ReadFailed, WriteFailed, TooLong, NoMemory}
use Rattle.da_talk.specs.Events.{Event, heard_in, said_in}
use Rattle.da_talk.specs.Talks.{AtEachWait, HasNoLong}
use Rattle.da_talk.specs.Spoken.{AreReplies, EndsReplies, last_heard}
use Rattle.da_conversing.specs.Courses.{IsFileOf, IsPicked, HasPicked}

-- the status of a talk over the file with a number that ended so, where this status goes with the last words, if any does
abbrev pub IsStatus : ℕ → TalkEnd → Option Status → Status → Type 0
IsStatus file Over kept why = kept ≡ Some why
IsStatus file Decided kept why = kept ≡ Some why
IsStatus file (Bad at) kept why = why ≡ status.BadInput file at
IsStatus file (Unfit at) kept why = why ≡ status.BadInput file at
IsStatus file ReadFailed kept why = why ≡ status.ReadFault file
IsStatus file WriteFailed kept why = why ≡ status.WriteFault
IsStatus file TooLong kept why = why ≡ status.TooLong file
IsStatus file NoMemory kept why = why ≡ status.NoMemory

-- last words were said only with a status of a complete output
abbrev pub IsKept : TalkEnd → Option Status → Type 0
IsKept Over kept = (why : Status) × (kept ≡ Some why) × (status_kind why ≡ output)
IsKept Decided kept = (why : Status) × (kept ≡ Some why) × (status_kind why ≡ output)
IsKept other kept = ⊤

-- a talk over the picked file and an output: what was heard is gone from what is left of the file and counted, what was said was
-- taken by the output, whenever bytes were waited for all that is due to the frames by then was said, and no other file was picked. Of
-- what replies no more is seen than how the talk leaves it (da_talk)
pub record ToldOver {I O T : Type 0} (i : inputs.Ghosts I) (o : sink.Ghosts O) (t : talker.Ghosts T) (start now : I) (old new : O) (left : T) (end : TalkEnd) : Type 0 where
  pub events : List Event
  pub heard : Consumes (i.rest start) (i.rest now) (heard_in events)
  pub given : i.given now ≡ count_on (i.given start) (length (heard_in events))
  pub said : Appends (o.taken old) (o.taken new) (said_in events)
  pub last : i.ended now ≡ last_heard end
  pub picked : i.picked now ≡ i.picked start
  pub picks : i.picks now ≡ i.picks start
  pub prompt : AtEachWait (λ came went. AreReplies t left (frames_of came) went) events
  pub at_once : AtEachWait (λ came went. HasNoLong came) events
  pub ends : EndsReplies t left left (heard_in events) (said_in events) (i.rest now) end

-- a talk over the file with a number and a name, whose last words go with a status: its pick failed, or it was picked and the talk
-- came to its end, of which the bytes that were heard and those that are left are the file's
abbrev pub TellsOver : {I O T : Type 0} → inputs.Ghosts I → sink.Ghosts O → talker.Ghosts T → (T → Option Status) → ℕ → List ℕ → I → I → O → O → Status → Type 0
TellsOver {I} {O} {T} i o t kept file name before now old new why =
    ((why ≡ status.PickFault file) × (i.ended now ≡ call.PickFailed) × HasPicked i before now name × (new ≡ old))
    ⊎ ((start : I) × (left : T) × (end : TalkEnd) × IsPicked i before start name
    × (talk : ToldOver i o t start now old new left end)
    × IsFileOf (i.files before) name (heard_in talk.events) (i.rest now) × IsStatus file end (kept left) why)
