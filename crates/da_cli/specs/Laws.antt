-- What the relation of a run says of each kind of words and files.
use Rattle.std.specs.Prelude.{◌≡◌, ◌↔◌, ◌⊎◌, ℕ, List, [], ◌∷◌, Some, None}
use Rattle.namespace_id.specs.declared.cells.Axis.{Axis}
use Rattle.data_header.specs.Headers.{Roots}
use Rattle.da_io.specs.Files.{Files}
use Rattle.da_words.specs.declared.words.Call.{Call}
use Rattle.da_status.specs.declared.status.Status.{Status}
use Rattle.da_status.specs.declared.status.Status.TheVariants.{Done, BadInput, TooLong, Waiting}
use Rattle.da_status.specs.Statuses.{status_kind, DecidesKind}
use Rattle.da_words.specs.Words.{call_of, call_names}
use Rattle.da_cli.specs.Limits.{limits_for}
use Rattle.da_cli.specs.Gathered.{gathered, whole, long, absent}
use Rattle.da_status.specs.Outcome.{Refuses}
use Rattle.da_status.specs.Judging.{first_bad}
use Rattle.da_commands.specs.Meaning.{judged_of, AnswerOf}
use Rattle.da_serving.specs.Wanted.{WantedOf}
use Rattle.da_judging.specs.Light.{Lights}
use Rattle.da_cli.specs.Run.{RunOf}

-- over files in their forms, exactly the command's answer belongs to the run
abbrev pub FormLaw : Type 0
FormLaw = (files : Files) (words : List (List ℕ)) (call : Call) (contents : List (List ℕ)) (w : List ℕ) (status : Status)
    → call_of words ≡ Some call → gathered (limits_for call.command) files (call_names call words) ≡ whole contents
    → first_bad 0 (judged_of call.command contents) ≡ None
    → RunOf files words w status ↔ AnswerOf call.command contents w status

-- where file i is the first that isn't in its form, exactly `BadInput` with no output does
abbrev pub BadInputLaw : Type 0
BadInputLaw = (files : Files) (words : List (List ℕ)) (call : Call) (contents : List (List ℕ)) (i at : ℕ) (w : List ℕ) (status : Status)
    → call_of words ≡ Some call → gathered (limits_for call.command) files (call_names call words) ≡ whole contents
    → first_bad 0 (judged_of call.command contents) ≡ Some (i, at)
    → RunOf files words w status ↔ Refuses (BadInput i at) w status

-- where file i is the first that is too long, exactly `TooLong` with no output does
abbrev pub ExcessLaw : Type 0
ExcessLaw = (files : Files) (words : List (List ℕ)) (call : Call) (i : ℕ) (w : List ℕ) (status : Status)
    → call_of words ≡ Some call → gathered (limits_for call.command) files (call_names call words) ≡ long i
    → RunOf files words w status ↔ Refuses (TooLong i) w status

-- where a file isn't there, nothing does
abbrev pub AbsentLaw : Type 0
AbsentLaw = (files : Files) (words : List (List ℕ)) (call : Call) (i : ℕ) (w : List ℕ) (status : Status)
    → call_of words ≡ Some call → gathered (limits_for call.command) files (call_names call words) ≡ absent i
    → RunOf files words w status → ⊥

-- failures and out of memory belong to no run
abbrev pub FailureLaw : Type 0
FailureLaw = (files : Files) (words : List (List ℕ)) (w : List ℕ) (status : Status) → RunOf files words w status → DecidesKind (status_kind status)

-- w is what wanted writes along an axis of the cells that light waits for without messages, by this key and count; where it waits
-- for none, w is empty
abbrev pub IsWantedFirst : Roots → List ℕ → ℕ → Axis → List ℕ → Type 0
IsWantedFirst header key count axis w =
    ((missing : List ℕ) × (n : ℕ) × Lights key count header [] missing (Waiting n) × WantedOf axis (missing ∷ []) w Done)
    ⊎ ((text : List ℕ) × Lights key count header [] text Done × (w ≡ []))
