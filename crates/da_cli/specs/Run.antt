-- What words, files, output and status belong together.
use Rattle.std.specs.Prelude.{◌≡◌, ℕ, List, ⊤, Some, None}
use Rattle.std.specs.declared.option.Option.{Option}
use Rattle.da_io.specs.Files.{Files}
use Rattle.da_words.specs.declared.command.Command.{Command}
use Rattle.da_words.specs.declared.words.Call.{Call}
use Rattle.da_status.specs.declared.status.Status.{Status}
use Rattle.da_status.specs.declared.status.Status.TheVariants.{Usage, PickFault, ReadFault, TooLong, NoMemory}
use Rattle.da_cli.specs.declared.files.Stop.{Stop}
use Rattle.da_cli.specs.declared.files.Stop.TheVariants as stop
use Rattle.da_status.specs.Statuses.{Kind, status_kind, row_of, May}
use Rattle.da_words.specs.Words.{call_of, call_names}
use Rattle.da_cli.specs.Limits.{limits_for}
use Rattle.da_cli.specs.Gathered.{Gathered, whole, long, absent, gathered}
use Rattle.da_status.specs.Outcome.{Relation, Refuses, LeavesBy, Leaves}
use Rattle.da_status.specs.Judging.{first_bad}
use Rattle.da_commands.specs.Meaning.{judged_of, AnswerOf, Meaning, TakesFirst}

-- a command over what was gathered; where a file isn't there, nothing is defined
abbrev pub CommandOf : Command → Gathered → Relation
CommandOf command (whole contents) = Meaning command contents
CommandOf command (long i) = Refuses (TooLong i)
CommandOf command (absent i) = λ w status. ⊥

-- a call over the files with these names; words that are no command are refused
abbrev pub CallOf : Option Call → Files → List (List ℕ) → Relation
CallOf None files words = Refuses Usage
CallOf (Some call) files words = CommandOf call.command (gathered (limits_for call.command) files (call_names call words))

-- the words' command over the files with these names
abbrev pub RunOf : Files → List (List ℕ) → Relation
RunOf files words = CallOf (call_of words) files words

-- the output that a status leaves, where the files are told
abbrev pub LeavesTold : Option Files → List (List ℕ) → Option (List ℕ) → Option (List ℕ) → Status → Type 0
LeavesTold None words old new status = ⊤
LeavesTold (Some files) words old new status = Leaves (RunOf files words) old new status

-- how a command ends over files in their forms, by the kind of the status: with its answer, or because of a
-- failure or because memory ran out
abbrev pub CompletesBy : Kind → Relation → Option (List ℕ) → Option (List ℕ) → Status → Type 0
CompletesBy kind M old new status = May (row_of kind).in_form (LeavesBy kind M old new status)

-- where the words are a command, and its files are there, within their limits and in their forms, a run
-- completes
abbrev pub Completes : Option Files → List (List ℕ) → Option (List ℕ) → Option (List ℕ) → Status → Type 0
Completes None words old new status = ⊤
Completes (Some files) words old new status = (call : Call) (contents : List (List ℕ)) → call_of words ≡ Some call
    → gathered (limits_for call.command) files (call_names call words) ≡ whole contents
    → first_bad 0 (judged_of call.command contents) ≡ None
    → CompletesBy (status_kind status) (AnswerOf call.command contents) old new status

-- the status of files that were not read whole
abbrev pub status_of : Stop → Status
status_of (stop.PickFault i) = PickFault i
status_of (stop.ReadFault i) = ReadFault i
status_of (stop.TooLong i) = TooLong i
status_of stop.NoMemory = NoMemory

-- a command that takes all of its memory before it writes leaves the output as it was where memory runs out; Same: it
-- is as it was
abbrev pub IsEarly : Option Call → Type 0 → Status → Type 0
IsEarly None Same status = ⊤
IsEarly (Some call) Same status = TakesFirst call.command → status ≡ NoMemory → Same
