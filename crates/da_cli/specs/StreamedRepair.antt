-- repair HEADER MESSAGES as MESSAGES is read: its bytes are not kept.
use Rattle.std.specs.Prelude.{◌≡◌, ◌⊎◌, ℕ, List, [], ◌∷◌, Ok, Err, Result, MatchOption}
use Rattle.data_header.specs.Headers.{Roots}
use Rattle.da_io.specs.declared.inputs.Inputs as inputs
use Rattle.da_io.specs.declared.sink.Sink as sink
use Rattle.da_wire.specs.Frames.{frames_of, bad_frame}
use Rattle.da_cli.specs.declared.files.Stop.{Stop}
use Rattle.da_status.specs.declared.status.Status.{Status}
use Rattle.da_status.specs.declared.status.Status.TheVariants.{BadInput}
use Rattle.da_status.specs.Outcome.{EndsAtOnce}
use Rattle.da_cli.specs.Limits.{stream_limit, repair_limits}
use Rattle.da_cli.specs.Streamed.{IsRead, HasCome}
use Rattle.da_cli.specs.declared.files.Stop.TheVariants.{NoMemory}
use Rattle.da_words.specs.declared.command.Command.TheVariants.{Repair}
use Rattle.da_judging.specs.Repair.{Repairs}
use Rattle.da_commands.specs.Meaning.{Meaning}

-- what repair answers to MESSAGES under a header: where its bytes are a list of frames, what repair comes to by
-- these; else where no frame stands
abbrev pub RepairsFile : {I O : Type 0} → inputs.Ghosts I → sink.Ghosts O → List ℕ → Roots → I → I → O → O → Result Status Stop → Type 0
RepairsFile i o name header before now old new (Ok status) =
    (bytes : List ℕ) × IsRead i stream_limit 1 name before now (Ok bytes)
    × MatchOption (bad_frame bytes)
    (EndsAtOnce (Repairs header (frames_of bytes)) (o.taken old) (o.taken new) (o.faults old) (o.faults new) (new ≡ old) status)
    (λ at. (status ≡ BadInput 1 at) × (new ≡ old))
RepairsFile i o name header before now old new (Err stop) = IsRead i stream_limit 1 name before now (Err stop) × (new ≡ old)

-- what repair answers to MESSAGES where these are the bytes of HEADER; or memory ran out before MESSAGES was picked
abbrev pub StreamsSecond : {I O : Type 0} → inputs.Ghosts I → sink.Ghosts O → List ℕ → List ℕ → I → I → O → O → Result Status Stop → Type 0
StreamsSecond i o name text before now old new (Ok status) =
    (bytes : List ℕ) × IsRead i stream_limit 1 name before now (Ok bytes)
    × EndsAtOnce (Meaning Repair (text ∷ bytes ∷ [])) (o.taken old) (o.taken new) (o.faults old) (o.faults new) (new ≡ old) status
StreamsSecond i o name text before now old new (Err stop) =
    (IsRead i stream_limit 1 name before now (Err stop) ⊎ ((stop ≡ NoMemory) × (now ≡ before))) × (new ≡ old)

-- how repair ended over its two files: both were read to their ends, or why not
abbrev pub Streams : {I O : Type 0} → inputs.Ghosts I → sink.Ghosts O → List (List ℕ) → I → I → O → O → Result Status Stop → Type 0
Streams i o names before now old new (Ok status) =
    (contents : List (List ℕ)) × HasCome i repair_limits names 2 before now (Ok contents)
    × EndsAtOnce (Meaning Repair contents) (o.taken old) (o.taken new) (o.faults old) (o.faults new) (new ≡ old) status
Streams i o names before now old new (Err stop) = HasCome i repair_limits names 2 before now (Err stop) × (new ≡ old)
