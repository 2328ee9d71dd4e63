-- What a held square replies to a frame.
use Rattle.std.specs.Prelude.{ℕ, ◌+◌, ◌*◌, max, suc, ◌==◌, List, [], ◌∷◌, ◌++◌, Option, Some, None, if◌then◌else◌}
use Rattle.namespace_id.specs.declared.cells.Axis.{Axis}
use Rattle.namespace_id.specs.declared.cells.Cell.{Cell}
use Rattle.namespace_id.specs.declared.namespaces.Namespace.{Namespace}
use Rattle.namespace_id.specs.Names.{is_parity}
use Rattle.namespace_id.specs.Cells.{is_in_square}
use Rattle.namespace_id.specs.Sizes.{namespace_size, share_size, digest_size, most_nodes}
use Rattle.axis_roots.specs.Trees.{message_at}
use Rattle.square_serve.specs.Answers.{is_wanted}
use Rattle.square_serve.specs.Serving.{HeldParts, answer_for, row_entry}
use Rattle.frame_payloads.specs.kinds.Message.{message_payload, most_message}
use Rattle.frame_payloads.specs.kinds.Names.{entry_bytes, names_payload}
use Rattle.frame_payloads.specs.kinds.Requests.{sample_at, request_at}
use Rattle.frame_payloads.specs.declared.refusals.Reason.{Reason}
use Rattle.frame_payloads.specs.declared.refusals.Reason.TheVariants.{NoSuchFrame, NoAnswer}
use Rattle.frame_payloads.specs.kinds.Refusal.{refusal_payload}
use Rattle.da_wire.specs.Spelling.{frame, message_kind, names_kind, sample_kind, request_kind, refusal_kind}
use Rattle.da_wire.specs.Reading.{Raw}
use Rattle.da_wire.specs.Frames.{frames_of}
use Rattle.da_talk.specs.declared.asking.Asked.{Asked}
use Rattle.da_talk.specs.declared.asking.Asked.TheVariants.{Sample, Names, Nothing}

-- ---- what is asked

-- what a payload of a request for a sample asks for
abbrev pub sample_asked : Option (Cell × Axis) → Asked
sample_asked None = Nothing
sample_asked (Some asked) = Sample asked.0 asked.1

-- what a payload of a request for a namespace asks for
abbrev pub names_asked : Option Namespace → Asked
names_asked None = Nothing
names_asked (Some name) = Names name

-- what the frame of a kind and a payload asks for: a request in the grammar for what it names, any other for nothing
abbrev pub asked_by : ℕ → List ℕ → Asked
asked_by kind payload =
    if kind == sample_kind then sample_asked (sample_at payload) else
    (if kind == request_kind then names_asked (request_at payload) else Nothing)

-- ---- refusals

-- the refusal of the frame with a number, counted from 0
abbrev pub refusal : Reason → ℕ → List ℕ
refusal reason number = frame refusal_kind (refusal_payload (record { reason = reason; number = number }))

-- ---- replies

-- the most bytes of an entry of a namespace answer from a square of width k, and of the answer
abbrev pub most_entry : ℕ → ℕ
most_entry k = 8 + share_size * k + digest_size * most_nodes

abbrev pub most_names : ℕ → ℕ
most_names k = namespace_size + 2 + most_entry k * k

-- the most bytes of a reply: a sample's, or a namespace answer's
abbrev pub most_reply : ℕ → ℕ
most_reply k = 5 + max most_message (most_names k)

-- the sample of a cell along an axis, a refusal where the cell is outside the square
abbrev pub sample_reply : HeldParts → ℕ → Cell → Axis → List ℕ
sample_reply held number cell axis =
    if is_in_square held.k cell
    then frame message_kind (message_payload (message_at held.k held.grid cell axis))
    else refusal NoAnswer number

-- the complete answer for a namespace, a refusal for PARITY
abbrev pub names_reply : HeldParts → ℕ → Namespace → List ℕ
names_reply held number name =
    if is_parity name then refusal NoAnswer number else frame names_kind (names_payload name (answer_for held name))

-- the reply to what the frame with a number asks for, counted from 0
abbrev pub reply : HeldParts → ℕ → Asked → List ℕ
reply held number (Sample cell axis) = sample_reply held number cell axis
reply held number (Names name) = names_reply held number name
reply held number Nothing = refusal NoSuchFrame number

-- the reply to the frame with a number
abbrev pub held_reply : HeldParts → ℕ → Raw → List ℕ
held_reply held number raw = reply held number (asked_by raw.kind raw.payload)

-- the replies to frames, one after another, the first of which has this number
abbrev pub replies_from : (ℕ → Raw → List ℕ) → ℕ → List Raw → List ℕ
replies_from answer number [] = []
replies_from answer number (raw ∷ frames) = answer number raw ++ replies_from answer (suc number) frames

-- what is due for bytes that were heard: the replies to the frames that they begin with
abbrev pub due : (ℕ → Raw → List ℕ) → List ℕ → List ℕ
due answer bytes = replies_from answer 0 (frames_of bytes)

-- ---- rows

-- what is written of a row for a namespace: its entry, where the row may hold the namespace
abbrev pub row_reply : HeldParts → Namespace → ℕ → List ℕ
row_reply held name row = if is_wanted held.header name row then entry_bytes (row_entry held.k held.grid name row) else []
