-- What came of attend WANTED TALK.
use Rattle.std.specs.Prelude.{◌≡◌, ◌⊎◌, ℕ, List, [], ◌∷◌, Some, Ok, Err, Result, Vec, MatchOption}
use Rattle.std.specs.declared.option.Option.{Option}
use Rattle.std.specs.declared.alloc.Global.{Global}
use Rattle.std.specs.Option.{option_map_or}
use Rattle.namespace_id.specs.declared.namespaces.Namespace.{Namespace}
use Rattle.da_io.specs.Files.{Files}
use Rattle.da_io.specs.declared.inputs.Inputs as inputs
use Rattle.da_io.specs.declared.inputs.LastCall.{LastCall}
use Rattle.da_io.specs.declared.sink.Sink as sink
use Rattle.da_wire.specs.Spelling.{request_kind}
use Rattle.da_wire.specs.Values.{bad_value}
use Rattle.da_status.specs.declared.status.Asked.TheVariants.{At}
use Rattle.da_status.specs.declared.status.Status.{Status}
use Rattle.da_status.specs.declared.status.Status.TheVariants.{NoMemory, BadRequest}
use Rattle.da_files.specs.Requests.{namespaces_in, failing_from}
use Rattle.da_following.specs.Follow.{is_followed, each_once}
use Rattle.da_attending.specs.Attended.{attending}
use Rattle.da_conversing.specs.Words.{wanted_name, talk_name}
use Rattle.da_conversing.specs.Inputs.{HasValue, IsNoValue}
use Rattle.da_conversing.specs.Courses.{HasPicked}
use Rattle.da_conversing.specs.Tellings.{TellsOver}

-- bytes that are a list of requests for namespaces, or where they leave this form
abbrev pub wanted_in : List ℕ → Result (List ℕ) ℕ
wanted_in bytes = option_map_or Err (bad_value (request_kind ∷ []) bytes) (Ok bytes)

-- the requests in the file with a name, WANTED, or why there are none
abbrev pub ReadsWanted : Option Files → List ℕ → LastCall → ℕ → Result (Vec ℕ Global) Status → Type 0
ReadsWanted told name last given (Ok content) = HasValue wanted_in told name (Ok content.items)
ReadsWanted told name last given (Err why) = IsNoValue wanted_in 0 told name last given why

-- memory ran out, and TALK isn't picked; or the talk about these namespaces is over
abbrev pub AttendsOver : {I O : Type 0} → inputs.Ghosts I → sink.Ghosts O → I → I → O → O → List Namespace → List ℕ → Status → Type 0
AttendsOver i o before now old new names name why =
    ((why ≡ NoMemory) × (now ≡ before) × (new ≡ old)) ⊎ TellsOver i o (attending names) Some 1 name before now old new why

-- WANTED was read: where each of the wanted namespaces can be followed, what comes of that, with each once, ascending; else the first
-- that can't is refused, and TALK isn't picked
abbrev pub AttendsTo : {I O : Type 0} → inputs.Ghosts I → sink.Ghosts O → I → I → O → O → List Namespace → List ℕ → Status → Type 0
AttendsTo i o before now old new wanted name why =
    MatchOption (failing_from is_followed 0 wanted) (AttendsOver i o before now old new (each_once wanted) name why)
    (λ at. (why ≡ BadRequest (At at)) × (now ≡ before) × (new ≡ old))

-- words that are attend WANTED TALK: memory ran out before anything was picked; or WANTED, which alone was picked, isn't a list of
-- requests for namespaces; or it is one, and what comes of that
abbrev pub AnswersAttend : {I O : Type 0} → inputs.Ghosts I → sink.Ghosts O → List (List ℕ) → I → I → O → O → Status → Type 0
AnswersAttend {I} {O} i o words before now old new why =
    ((why ≡ NoMemory) × (now ≡ before) × (new ≡ old))
    ⊎ ((IsNoValue wanted_in 0 (i.files before) (wanted_name words) (i.ended now) (i.given now) why × HasPicked i before now (wanted_name words) × (new ≡ old))
    ⊎ ((wanted : List ℕ) × (mid : I) × HasValue wanted_in (i.files before) (wanted_name words) (Ok wanted) × HasPicked i before mid (wanted_name words)
    × (i.files mid ≡ i.files before) × AttendsTo i o mid now old new (namespaces_in wanted) (talk_name words) why))
