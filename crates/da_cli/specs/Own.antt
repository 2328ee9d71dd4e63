-- What the outputs of commands say under the header of a square.
use Rattle.std.specs.Prelude.{◌≡◌, ◌⊎◌, ℕ, List, codes, true, slice_get, ⊤, Some, None, Ok}
use Rattle.std.specs.declared.option.Option.{Option}
use Rattle.std.specs.List.{Contains}
use Rattle.namespace_id.specs.declared.namespaces.Namespace as names
use Rattle.namespace_id.specs.Bytes.{AreBytes}
use Rattle.share_split.specs.Walks.{blobs_joined}
use Rattle.blob_feed.specs.Feeds.{header_at, Read, IsFeedOf, shares_in, FirstNames}
use Rattle.data_header.specs.Headers.{Roots}
use Rattle.square_layout.specs.Blocks.{SquareShares}
use Rattle.axis_roots.specs.Grids.{IsHeaderOf}
use Rattle.blob_commit.specs.Proofs.{CommitParts}
use Rattle.blob_commit.specs.Places.{CommitsOwn, CommitText}
use Rattle.blob_commit.specs.Places as places
use Rattle.da_script.specs.Alarms.{TellsOwn}
use Rattle.da_wire.specs.Reading.{Raw}
use Rattle.da_wire.specs.declared.frames.Frame.TheVariants.{Commit}
use Rattle.da_wire.specs.Spelling.{spelling}
use Rattle.da_wire.specs.Frames.{frames_of}
use Rattle.da_io.specs.Files.{Files}
use Rattle.da_words.specs.Values.{is_command}
use Rattle.da_words.specs.Words.{files_of_words}
use Rattle.da_cli.specs.Limits.{limits_of}
use Rattle.da_cli.specs.Gathered.{gathered, whole}
use Rattle.da_files.specs.Frames.{header_in, square_in, claim_in}
use Rattle.da_judging.specs.Check.{finding_of, line_of, IsOwnFrame}
use Rattle.da_status.specs.declared.status.Status.{Status}
use Rattle.da_status.specs.declared.status.Status.TheVariants.{Done}
use Rattle.axis_roots.specs.Claims.{ClaimParts}
use Rattle.da_judging.specs.Compact.{claim_file, CompactOf, CompactsOwn}
use Rattle.da_judging.specs.Repair.{RepairOf, RepairsOwn}
use Rattle.da_judging.specs.Light.{LightOf, LightByOf, JudgesOwn}
use Rattle.da_files.specs.Requests.{namespaces_in}
use Rattle.da_following.specs.Follow.{wanted_file, answers_file, items_in, RunFeed}
use Rattle.da_judging.specs.Verify.{answer_file, answer_in, IsAnswerRefusal, verdict_line, IsOwnReply}
use Rattle.da_judging.specs.declared.answers.Answer.{Answer}
use Rattle.da_judging.specs.declared.answers.Request.{Request}
use Rattle.da_judging.specs.Answers.{is_answer_to, IsAnswerTo}
use Rattle.da_judging.specs.VerifyFor.{request_file, request_in, IsRefusalFor, ShowsAsked}
use Rattle.da_judging.specs.VerifyCommitment.{states_commitment, StatesCommitment}
use Rattle.da_commands.specs.Net.{NetOf}
use Rattle.da_serving.specs.Prove.{ProveRangeOf}
use Rattle.da_files.specs.Contents.{header_file, messages_file, square_file}
use Rattle.da_script.specs.Plays as plays

-- over the files of `check`, where the header in HEADER is that of a square: a frame of MESSAGES whose line is `ok` is a sample that shows the square's own share, or they name a collision
abbrev pub AreOwnLines : Files → List (List ℕ) → Type 0
AreOwnLines files words = (contents : List (List ℕ)) (header : Roots) (square : SquareShares) (i : ℕ) (frame : Raw)
    → is_command words (codes "check") 2 ≡ true → gathered (limits_of words) files (files_of_words words) ≡ whole contents
    → header_in (header_file contents) ≡ Ok header → IsHeaderOf header square
    → AreBytes (messages_file contents) → slice_get (frames_of (messages_file contents)) i ≡ Some frame
    → line_of (finding_of header frame) ≡ codes "ok\n" → IsOwnFrame frame square

-- over the files of `verify`, where the header in HEADER is that of a square and the line is `ok`: ANSWER shows the square's own shares, or they name a collision, as a fraud claim always does
abbrev pub IsOwnLine : Files → List (List ℕ) → Type 0
IsOwnLine files words = (contents : List (List ℕ)) (header : Roots) (square : SquareShares) (answer : Answer) (refusal : Option ℕ)
    → is_command words (codes "verify") 2 ≡ true → gathered (limits_of words) files (files_of_words words) ≡ whole contents
    → header_in (header_file contents) ≡ Ok header → IsHeaderOf header square
    → AreBytes (answer_file contents) → answer_in (answer_file contents) ≡ Ok answer
    → IsAnswerRefusal header answer refusal → verdict_line refusal ≡ codes "ok\n" → IsOwnReply answer square

-- over the files of `compact`, where the header in HEADER is that of a square: the claim is refused, or a sample of it, or its set, and the square name a collision
abbrev pub IsOwnCompact : Files → List (List ℕ) → Type 0
IsOwnCompact files words = (contents : List (List ℕ)) (header : Roots) (square : SquareShares) (claim : ClaimParts) (w : List ℕ) (status : Status)
    → is_command words (codes "compact") 2 ≡ true → gathered (limits_of words) files (files_of_words words) ≡ whole contents
    → header_in (header_file contents) ≡ Ok header → IsHeaderOf header square
    → claim_in (claim_file contents) ≡ Ok claim → CompactOf contents w status → CompactsOwn claim square status

-- over the files of `verify` with a REQUEST, where the header in HEADER is that of a square and the line is `ok`: ANSWER is to the request, and shows the square's own shares that are asked for, or they name a collision
abbrev pub IsOwnLineFor : Files → List (List ℕ) → Type 0
IsOwnLineFor files words = (contents : List (List ℕ)) (header : Roots) (square : SquareShares) (answer : Answer) (request : Request) (refusal : Option ℕ)
    → is_command words (codes "verify") 3 ≡ true → gathered (limits_of words) files (files_of_words words) ≡ whole contents
    → header_in (header_file contents) ≡ Ok header → IsHeaderOf header square
    → AreBytes (answer_file contents) → answer_in (answer_file contents) ≡ Ok answer
    → request_in (request_file contents) ≡ Ok request
    → IsRefusalFor (is_answer_to request answer) header answer refusal → verdict_line refusal ≡ codes "ok\n"
    → IsAnswerTo request answer × IsOwnReply answer square × ShowsAsked request answer square

-- over the files of `verify` with a COMMITMENT, where the header in HEADER is that of a square and the line is `ok`: ANSWER is a commitment proof of this commitment, which is that of the square's shares in its range, or they name a collision
abbrev pub IsOwnLineStated : Files → List (List ℕ) → Type 0
IsOwnLineStated files words = (contents : List (List ℕ)) (header : Roots) (square : SquareShares) (answer : Answer) (commitment : List ℕ) (refusal : Option ℕ)
    → is_command words (codes "verify") 3 ≡ true → gathered (limits_of words) files (files_of_words words) ≡ whole contents
    → header_in (header_file contents) ≡ Ok header → IsHeaderOf header square
    → AreBytes (answer_file contents) → answer_in (answer_file contents) ≡ Ok answer
    → IsRefusalFor (states_commitment commitment answer) header answer refusal → verdict_line refusal ≡ codes "ok\n"
    → StatesCommitment commitment answer × IsOwnReply answer square

-- over the files of `repair`, where the header in HEADER is that of a square: what is written and answered is that square or the missing cells, or a proved sample of MESSAGES and the square name a collision
abbrev pub IsOwnRepair : Files → List (List ℕ) → Type 0
IsOwnRepair files words = (contents : List (List ℕ)) (header : Roots) (square : SquareShares) (w : List ℕ) (status : Status)
    → is_command words (codes "repair") 2 ≡ true → gathered (limits_of words) files (files_of_words words) ≡ whole contents
    → header_in (header_file contents) ≡ Ok header → IsHeaderOf header square
    → AreBytes (messages_file contents) → RepairOf contents w status
    → RepairsOwn header (frames_of (messages_file contents)) square w status

-- over the files of `light`, where the header in HEADER is that of a square: no claim is written, or one that with the square names a collision
abbrev pub IsOwnLight : Files → List (List ℕ) → Type 0
IsOwnLight files words = (contents : List (List ℕ)) (header : Roots) (square : SquareShares) (key : List ℕ) (count : ℕ) (w : List ℕ) (status : Status)
    → is_command words (codes "light") 4 ≡ true → gathered (limits_of words) files (files_of_words words) ≡ whole contents
    → header_in (header_file contents) ≡ Ok header → IsHeaderOf header square
    → AreBytes (messages_file contents) → LightOf key count contents w status → JudgesOwn square w status

-- the same over the files of `light` with a KEY in a file
abbrev pub IsOwnLightBy : Files → List (List ℕ) → Type 0
IsOwnLightBy files words = (contents : List (List ℕ)) (header : Roots) (square : SquareShares) (count : ℕ) (w : List ℕ) (status : Status)
    → is_command words (codes "light") 4 ≡ true → gathered (limits_of words) files (files_of_words words) ≡ whole contents
    → header_in (header_file contents) ≡ Ok header → IsHeaderOf header square
    → AreBytes (messages_file contents) → LightByOf count contents w status → JudgesOwn square w status

-- over the files of `follow`, at a height whose header is that of a square: what is told of a namespace is what the square's shares of it are read as, or the first complete answer and the square name a collision
abbrev pub IsOwnFollow : Files → List (List ℕ) → Type 0
IsOwnFollow files words = (contents : List (List ℕ)) (header : Roots) (square : SquareShares) (feed : RunFeed) (number : ℕ) (name : names.Namespace) (read : Read)
    → is_command words (codes "follow") 2 ≡ true → gathered (limits_of words) files (files_of_words words) ≡ whole contents
    → AreBytes (answers_file contents) → header_at (items_in (answers_file contents)) number ≡ Some header → IsHeaderOf header square
    → IsFeedOf (Contains (namespaces_in (wanted_file contents))) (items_in (answers_file contents)) feed → feed number name ≡ Some read
    → (read ≡ blobs_joined (shares_in square name)) ⊎ FirstNames (items_in (answers_file contents)) number name square

-- over the files of `net`, where the header in HEADER is that of a square: `rejected` or `clash` is written only where a sample of MESSAGES, by itself or in a claim, or the set of a claim, and the square name a collision
abbrev pub IsOwnNet : Files → List (List ℕ) → Type 0
IsOwnNet files words = (contents : List (List ℕ)) (header : Roots) (square : SquareShares) (w : List ℕ) (status : Status)
    → is_command words (codes "net") 3 ≡ true → gathered (limits_of words) files (files_of_words words) ≡ whole contents
    → header_in (header_file contents) ≡ Ok header → IsHeaderOf header square → NetOf contents w status
    → TellsOwn (plays.items_in (frames_of (messages_file contents))) square w

-- what is written is a commitment proof of the square's width and this range, whose commitment is that of the square's shares in the range, or it and the square name a collision
abbrev pub ProvesOwn : SquareShares → ℕ → ℕ → List ℕ → Type 0
ProvesOwn square start count w = (proof : CommitParts) × (spelling (Commit proof) ≡ Some w) × (proof.k ≡ square.k)
    × (proof.start ≡ start) × (proof.count ≡ count) × (CommitsOwn proof square ⊎ places.PlacesNameClash (CommitText proof) square)

-- over the file of `prove` with a range: what is answered with `Done` is such a proof, of the square in SQUARE
abbrev pub IsOwnProve : Files → List (List ℕ) → Type 0
IsOwnProve files words = (contents : List (List ℕ)) (square : SquareShares) (start count : ℕ) (w : List ℕ)
    → is_command words (codes "prove") 3 ≡ true → gathered (limits_of words) files (files_of_words words) ≡ whole contents
    → square_in (square_file contents) ≡ Ok square → ProveRangeOf start count contents w Done
    → ProvesOwn square start count w

-- under the header of a square the line `ok` stands only for the square's own shares, and for an answer to the request or the
-- commitment where there is one, a claim is refused, a repair answers this square or the missing cells, `light` writes no claim, `follow`
-- tells of the square's shares, no node of `net` rejects or has a collision, and `prove` of a range writes a proof of the
-- square's shares in it; or a collision is named
pub record HasOwn (files : Files) (words : List (List ℕ)) : Type 0 where
  pub check : AreOwnLines files words
  pub verify : IsOwnLine files words
  pub compact : IsOwnCompact files words
  pub verify_for : IsOwnLineFor files words
  pub verify_commitment : IsOwnLineStated files words
  pub repair : IsOwnRepair files words
  pub light : IsOwnLight files words
  pub light_by : IsOwnLightBy files words
  pub follow : IsOwnFollow files words
  pub net : IsOwnNet files words
  pub prove : IsOwnProve files words

-- that, where the files are told
abbrev pub AreOwn : Option Files → List (List ℕ) → Type 0
AreOwn None words = ⊤
AreOwn (Some files) words = HasOwn files words
