-- What each export answers to the bytes that it is given, in the words of the crates below.
use Rattle.std.specs.Prelude.{◌≡◌, ◌⊎◌, ◌+◌, ◌*◌, ℕ, List, Some, MatchResult}
use Rattle.std.specs.declared.option.Option.{Option}
use Rattle.std.specs.Option.{option_map}
use Rattle.namespace_id.specs.Sizes.{greatest_width}
use Rattle.data_header.specs.Headers as headers
use Rattle.data_header.specs.DataRoots.{data_root_of}
use Rattle.square_layout.specs.Blocks.{SquareShares}
use Rattle.axis_roots.specs.Grids.{IsHeaderOf, HasNoHeader}
use Rattle.axis_roots.specs.Messages.{message_refusal}
use Rattle.axis_roots.specs.declared.message.messages.Message as sent
use Rattle.axis_roots.specs.Openings.{IsProved}
use Rattle.axis_roots.specs.Own.{IsOwn}
use Rattle.da_wire.specs.declared.frames.Frame.{Frame}
use Rattle.da_wire.specs.declared.frames.Frame.TheVariants.{Header}
use Rattle.da_wire.specs.Spelling.{spelling}
use Rattle.da_files.specs.Frames.{header_in, message_in, square_in}
use Rattle.da_judging.specs.Verify.{answer_in, check_number, IsAnswerRefusal}
use Rattle.da_judging.specs.Answers.{is_answer_to}
use Rattle.da_judging.specs.VerifyFor.{request_in, IsRefusalFor}
use Rattle.da_c.specs.declared.replies.Reply.TheVariants.{NoHeader}
use Rattle.da_c.specs.Replies.{ReplyRelation, OutputRelation, ReadsArgument, TakesArgument, RefusesReply, FitsBuffer, verdict}

-- ---- judging

-- da_check: whether a sample is proved under a header
abbrev pub Checks : List ℕ → List ℕ → ReplyRelation
Checks header message =
    ReadsArgument 0 (header_in header) (λ h. ReadsArgument 1 (message_in message)
    (λ m reply. reply ≡ verdict (option_map check_number (message_refusal h m))))

-- a header and a sample are read of the bytes, and this is so of them
abbrev pub IsOfBoth : (headers.Roots → sent.Message → Type 0) → List ℕ → List ℕ → Type 0
IsOfBoth Fact header message =
    MatchResult (header_in header) (λ h. MatchResult (message_in message) (λ m. Fact h m) (λ at. ⊥)) (λ at. ⊥)

-- the bytes are a header and a sample that is proved under it
abbrev pub IsProvedUnder : List ℕ → List ℕ → Type 0
IsProvedUnder header message = IsOfBoth IsProved header message

-- the bytes are a header and a sample, and if it is a square's header, the sample shows the square's own share, or they
-- name a collision
abbrev pub IsOwnUnder : List ℕ → List ℕ → Type 0
IsOwnUnder header message = IsOfBoth IsOwn header message

-- da_holds: whether an answer holds under a header
abbrev pub HoldsCall : List ℕ → List ℕ → ReplyRelation
HoldsCall header answer =
    ReadsArgument 0 (header_in header) (λ h. ReadsArgument 1 (answer_in answer)
    (λ a reply. (refusal : Option ℕ) × IsAnswerRefusal h a refusal × (reply ≡ verdict refusal)))

-- da_verify: whether an answer is to a request, and holds under a header
abbrev pub VerifyCall : List ℕ → List ℕ → List ℕ → ReplyRelation
VerifyCall header answer request =
    ReadsArgument 0 (header_in header) (λ h. ReadsArgument 1 (answer_in answer) (λ a. ReadsArgument 2 (request_in request)
    (λ r reply. (refusal : Option ℕ) × IsRefusalFor (is_answer_to r a) h a refusal × (reply ≡ verdict refusal))))

-- ---- writing

-- how many bytes a data root has
abbrev pub root_size : ℕ
root_size = 32

-- the most bytes that the frame of a header has, that of the greatest width
abbrev pub most_header : ℕ
most_header = 7 + 360 * greatest_width

-- da_data_root: the data root of a header
abbrev pub RootCall : List ℕ → ℕ → OutputRelation
RootCall header room = TakesArgument 0 (header_in header) (λ h. FitsBuffer (data_root_of h) room)

-- the one spelling of a frame
abbrev pub Spells : Frame → ℕ → OutputRelation
Spells frame room w reply = (text : List ℕ) × (spelling frame ≡ Some text) × FitsBuffer text room w reply

-- the frame of a square's header, or that the square has none
abbrev pub HeaderFrame : SquareShares → ℕ → OutputRelation
HeaderFrame square room w reply =
    ((header : headers.Roots) × IsHeaderOf header square × Spells (Header header) room w reply)
    ⊎ (HasNoHeader square × RefusesReply NoHeader w reply)

-- da_header: the frame of the header of the square that the bytes are
abbrev pub HeaderCall : List ℕ → ℕ → OutputRelation
HeaderCall square room = TakesArgument 0 (square_in square) (λ s. HeaderFrame s room)
