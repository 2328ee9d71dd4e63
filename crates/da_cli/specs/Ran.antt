-- What is known of a run without its note, however it ended.
use Rattle.std.specs.Prelude.{◌≡◌, ◌↔◌, ℕ, List, [], length, None, IsSome}
use Rattle.da_io.specs.declared.inputs.Inputs as inputs
use Rattle.da_io.specs.declared.sink.Sink as sink
use Rattle.da_status.specs.declared.status.Status.{Status}
use Rattle.da_status.specs.declared.status.Status.TheVariants.{Usage}
use Rattle.da_status.specs.Statuses.{status_kind, input_count, output_count}
use Rattle.da_words.specs.Words.{call_of, files_of_words}
use Rattle.da_cli.specs.Limits.{limits_of}
use Rattle.da_cli.specs.Gathered.{IsLast}
use Rattle.da_cli.specs.Causes.{FaultCause, ExcessCause, LastBy, PickCount}
use Rattle.da_status.specs.Outcome.{Untouched}
use Rattle.da_cli.specs.Run.{LeavesTold}

-- the words were run: the inputs and the output before and afterwards, and the status
pub record Ran {I O : Type 0} (i : inputs.Ghosts I) (o : sink.Ghosts O) (words : List (List ℕ)) (before now : I) (old new : O) (status : Status) : Type 0 where
  pub meaning : LeavesTold (i.files before) words (o.taken old) (o.taken new) status
  pub usage : (status ≡ Usage) ↔ (call_of words ≡ None)
  pub idle : files_of_words words ≡ [] → now ≡ before
  pub untouched : Untouched (new ≡ old) status
  pub fault : FaultCause (limits_of words) (i.files before) (files_of_words words) (i.picked now) (i.ended now) status
  pub excess : ExcessCause (limits_of words) (i.files before) (files_of_words words) (i.picked now) (i.given now) (now ≡ before) status
  pub input_faults : i.faults now ≡ input_count (status_kind status) (i.faults before)
  pub output_faults : o.faults new ≡ output_count (status_kind status) (o.faults old)
  pub picks : PickCount (length (files_of_words words)) (i.picks before) (i.picks now) status
  pub last : LastBy (status_kind status) (IsLast (files_of_words words) (i.picked now) (i.ended now))
  pub files : i.files now ≡ i.files before
  pub told : IsSome (o.taken old) ↔ IsSome (o.taken new)
