-- What came of the words of a command that stays.
use Rattle.std.specs.Prelude.{◌≡◌, ◌⊎◌, ℕ, List, ◌++◌, length, ⊤, Some, None, Ok, Err}
use Rattle.std.specs.declared.option.Option.{Option}
use Rattle.std.specs.Io.KnownBytes.{Appends, Consumes}
use Rattle.da_io.specs.declared.inputs.Inputs as inputs
use Rattle.da_io.specs.declared.sink.Sink as sink
use Rattle.da_io.specs.declared.inputs.LastCall.TheVariants as call
use Rattle.da_io.specs.Faults.{count_on}
use Rattle.da_io.specs.Files.{Files}
use Rattle.square_layout.specs.Blocks.{SquareShares}
use Rattle.square_serve.specs.Serving.{HeldParts, IsHeld, Holds}
use Rattle.da_status.specs.declared.status.Status.{Status}
use Rattle.da_status.specs.declared.status.Status.TheVariants as status
use Rattle.da_wire.specs.Frames.{bad_frame}
use Rattle.da_files.specs.Frames.{square_in}
use Rattle.da_talk.specs.declared.ended.Ended.{Ended}
use Rattle.da_talk.specs.declared.ended.Ended.TheVariants as ended
use Rattle.da_talk.specs.Events.{Event, heard_in, said_in}
use Rattle.da_talk.specs.Talks.{IsPrompt, AtEachWait, HasNoLong, EndsTalk, last_wait}
use Rattle.da_talk.specs.Replies.{due, held_reply}
use Rattle.da_conversing.specs.Words.{square_name, talk_name}
use Rattle.da_conversing.specs.Squares.{HasSquare, IsNoSquare, HoldsSquare}

-- the status of a talk that ended so
abbrev pub talk_status : Ended → Status
talk_status ended.Done = status.Done
talk_status (ended.Bad at) = status.BadInput 1 at
talk_status ended.ReadFailed = status.ReadFault 1
talk_status ended.WriteFailed = status.WriteFault
talk_status ended.TooLong = status.TooLong 1

-- a talk over the picked file and an output: what was heard is gone from what is left of the file and counted, what was said was
-- taken by the output, each reply was said before more bytes were waited for, and no other file was picked (da_talk)
pub record Talked {I O : Type 0} (i : inputs.Ghosts I) (o : sink.Ghosts O) (start now : I) (old new : O) (due : List ℕ → List ℕ) (end : Ended) : Type 0 where
  pub events : List Event
  pub heard : Consumes (i.rest start) (i.rest now) (heard_in events)
  pub given : i.given now ≡ count_on (i.given start) (length (heard_in events))
  pub said : Appends (o.taken old) (o.taken new) (said_in events)
  pub last : i.ended now ≡ last_wait end
  pub picked : i.picked now ≡ i.picked start
  pub picks : i.picks now ≡ i.picks start
  pub prompt : IsPrompt due events
  pub at_once : AtEachWait (λ came went. HasNoLong came) events
  pub ends : EndsTalk due events (i.rest now) end

-- the bytes of the file with a name are left, where files are told
abbrev pub IsOpened : Option Files → List ℕ → Option (List ℕ) → Type 0
IsOpened None name rest = ⊤
IsOpened (Some files) name rest = (bytes : List ℕ) × (files name ≡ Some bytes) × (rest ≡ Some bytes)

-- the bytes that were heard and those that are left, one after the other, are those of the file with a name, where files are told
abbrev pub IsFileOf : Option Files → List ℕ → List ℕ → Option (List ℕ) → Type 0
IsFileOf None name heard left = ⊤
IsFileOf (Some files) name heard left = (later : List ℕ) × (left ≡ Some later) × (files name ≡ Some (heard ++ later))

-- the file with a name was picked, or its pick failed, and no other was
abbrev pub HasPicked : {I : Type 0} → inputs.Ghosts I → I → I → List ℕ → Type 0
HasPicked i before now name = (i.picked now ≡ Some name) × (i.picks now ≡ count_on (i.picks before) 1)

-- the file with a name is picked, by one pick more
pub record IsPicked {I : Type 0} (i : inputs.Ghosts I) (before start : I) (name : List ℕ) : Type 0 where
  pub files : i.files start ≡ i.files before
  pub picked : i.picked start ≡ Some name
  pub picks : i.picks start ≡ count_on (i.picks before) 1
  pub rest : IsOpened (i.files before) name (i.rest start)

-- a held square's replies to TALK: its pick failed, or it was picked and a talk came to its end, of which the bytes that were heard
-- and those that are left are TALK's
abbrev pub TalksOver : {I O : Type 0} → inputs.Ghosts I → sink.Ghosts O → I → I → O → O → HeldParts → List ℕ → Status → Type 0
TalksOver {I} {O} i o before now old new held name why =
    ((why ≡ status.PickFault 1) × (i.ended now ≡ call.PickFailed) × HasPicked i before now name × (new ≡ old))
    ⊎ ((start : I) × (end : Ended) × IsPicked i before start name × (talk : Talked i o start now old new (due (held_reply held)) end)
    × IsFileOf (i.files before) name (heard_in talk.events) (i.rest now) × (why ≡ talk_status end))

-- what comes of a talk that ended with its input, where files are told: SQUARE is a square, which is held, TALK is a list of frames,
-- and the replies to all of them were written
pub record HasReplied (files : Files) (words : List (List ℕ)) (old new : Option (List ℕ)) : Type 0 where
  pub file : List ℕ
  pub is_file : files (square_name words) ≡ Some file
  pub square : SquareShares
  pub is_square : square_in file ≡ Ok square
  pub held : HeldParts
  pub is_held : IsHeld held
  pub holds : Holds held square
  pub talk : List ℕ
  pub is_talk : files (talk_name words) ≡ Some talk
  pub frames : bad_frame talk ≡ None
  pub replies : Appends old new (due (held_reply held) talk)

-- so it is where the status is 0
abbrev pub RepliesWhole : Status → Option Files → List (List ℕ) → Option (List ℕ) → Option (List ℕ) → Type 0
RepliesWhole status.Done (Some files) words old new = HasReplied files words old new
RepliesWhole why told words old new = ⊤

-- SQUARE was read: its square isn't held, for want of a header or of memory, and TALK isn't picked; or it is, and the
-- talk is over
abbrev pub GoesOn : {I O : Type 0} → inputs.Ghosts I → sink.Ghosts O → I → I → O → O → SquareShares → List ℕ → Status → Type 0
GoesOn {I} {O} i o before now old new square name why =
    (HoldsSquare square (Err why) × (now ≡ before) × (new ≡ old))
    ⊎ ((held : HeldParts) × IsHeld held × Holds held square × TalksOver i o before now old new held name why)

-- words that are hold SQUARE TALK: memory ran out before anything was picked; or SQUARE, which alone was picked, isn't one; or it is
-- one, and what comes of that
abbrev pub Converses : {I O : Type 0} → inputs.Ghosts I → sink.Ghosts O → List (List ℕ) → I → I → O → O → Status → Type 0
Converses {I} {O} i o words before now old new why =
    ((why ≡ status.NoMemory) × (now ≡ before) × (new ≡ old))
    ⊎ ((IsNoSquare (i.files before) (square_name words) (i.ended now) (i.given now) why × HasPicked i before now (square_name words) × (new ≡ old))
    ⊎ ((square : SquareShares) × (mid : I) × HasSquare (i.files before) (square_name words) (Ok square) × HasPicked i before mid (square_name words)
    × (i.files mid ≡ i.files before) × GoesOn i o mid now old new square (talk_name words) why))
