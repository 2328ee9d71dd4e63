-- A talk of requests of one kind is replied to as a file of them is answered.
use Rattle.std.specs.Prelude.{◌≡◌, ℕ, List, [], ◌∷◌, Ok, None}
use Rattle.namespace_id.specs.Bytes.{AreBytes}
use Rattle.square_layout.specs.Blocks.{SquareShares}
use Rattle.square_serve.specs.Serving.{HeldParts, IsHeld, Holds}
use Rattle.da_wire.specs.Spelling.{sample_kind, request_kind}
use Rattle.da_wire.specs.Values.{bad_value}
use Rattle.da_status.specs.declared.status.Status.TheVariants.{Done}
use Rattle.da_files.specs.Contents.{square_file}
use Rattle.da_files.specs.Frames.{square_in}
use Rattle.da_files.specs.Requests.{failing_from, namespaces_in}
use Rattle.da_serving.specs.Serving.{requests_file}
use Rattle.da_serving.specs.Sample.{samples_in, is_asked_inside, SampleOf}
use Rattle.da_serving.specs.Namespace.{is_other, NamespaceOf}
use Rattle.da_talk.specs.Replies.{due, held_reply}

-- where REQUESTS are requests for samples of cells in the square, the replies of the held square to their bytes are what `sample`
-- writes of SQUARE and REQUESTS, with status 0
abbrev pub RepliesAreSamples : Type 0
RepliesAreSamples = (files : List (List ℕ)) (square : SquareShares) (held : HeldParts) → square_in (square_file files) ≡ Ok square → IsHeld held → Holds held square
    → bad_value (sample_kind ∷ []) (requests_file files) ≡ None
    → failing_from (is_asked_inside square) 0 (samples_in (requests_file files)) ≡ None
    → SampleOf files (due (held_reply held) (requests_file files)) Done

-- where REQUESTS are requests for namespaces other than PARITY, they are what `namespace` writes of both
abbrev pub RepliesAreAnswers : Type 0
RepliesAreAnswers = (files : List (List ℕ)) (square : SquareShares) (held : HeldParts) → square_in (square_file files) ≡ Ok square → IsHeld held → Holds held square
    → AreBytes (requests_file files) → bad_value (request_kind ∷ []) (requests_file files) ≡ None
    → failing_from is_other 0 (namespaces_in (requests_file files)) ≡ None
    → NamespaceOf files (due (held_reply held) (requests_file files)) Done
