-- Talks that end with their input.
use Rattle.std.proofs.Common.{◌≡◌, ◌∙◌, ℕ, List, [], ◌++◌, Option, Some, None, Ok, Err, inl, inr, refl, sym, ap, subst, append-nil}
use Rattle.std.specs.Io.KnownBytes.{Appends, IsAtEnd}
use Rattle.da_io.specs.declared.inputs.Inputs as inputs
use Rattle.da_io.specs.declared.sink.Sink as sink
use Rattle.da_io.specs.Files.{Files}
use Rattle.da_status.specs.declared.status.Status.{Status}
use Rattle.da_status.specs.declared.status.Status.TheVariants as status
use Rattle.square_layout.specs.Blocks.{SquareShares}
use Rattle.square_serve.specs.Serving.{HeldParts, IsHeld, Holds}
use Rattle.da_files.specs.Frames.{square_in}
use Rattle.da_talk.specs.declared.ended.Ended.{Ended}
use Rattle.da_talk.specs.declared.ended.Ended.TheVariants.{Done, Bad, ReadFailed, WriteFailed, TooLong}
use Rattle.da_talk.specs.Events.{heard_in}
use Rattle.da_talk.specs.Replies.{due, held_reply}
use Rattle.da_conversing.specs.Words.{square_name, talk_name}
use Rattle.da_conversing.specs.Squares.{HasSquare, IsNoSquare, HoldsSquare}
use Rattle.da_conversing.specs.Courses.{talk_status, Talked, IsFileOf, TalksOver, GoesOn, Converses, HasReplied, RepliesWhole}

-- the bytes of a file that was read to its end
all_heard : (files : Files) (name heard : List ℕ) (left : Option (List ℕ)) → IsFileOf (Some files) name heard left → IsAtEnd left → files name ≡ Some heard
all_heard files name heard left file over =
    let none : file.0 ≡ [] = subst IsAtEnd file.1 over in
    file.2 ∙ ap (λ (later : List ℕ). Some (heard ++ later)) none ∙ ap (λ (bytes : List ℕ). Some bytes) (append-nil heard)

module _ {I O : Type 0} (i : inputs.Ghosts I) (o : sink.Ghosts O) (now : I) (old new : O) (files : Files) (words : List (List ℕ)) where
  -- what is known of SQUARE before the talk
  record IsSquareOf (square : SquareShares) (held : HeldParts) : Type 0 where
    file : List ℕ
    there : files (square_name words) ≡ Some file
    read : square_in file ≡ Ok square
    is : IsHeld held
    holds : Holds held square

  -- by how the talk ended
  replied : (square : SquareShares) (held : HeldParts) → IsSquareOf square held → (start : I) (end : Ended) (talk : Talked i o start now old new (due (held_reply held)) end)
      → IsFileOf (Some files) (talk_name words) (heard_in talk.events) (i.rest now) → talk_status end ≡ status.Done
      → HasReplied files words (o.taken old) (o.taken new)
  replied square held of start Done talk file e = record {
    file = of.file;
    is_file = of.there;
    square = square;
    is_square = of.read;
    held = held;
    is_held = of.is;
    holds = of.holds;
    talk = heard_in talk.events;
    is_talk = all_heard files (talk_name words) (heard_in talk.events) (i.rest now) file talk.ends.2;
    frames = talk.ends.1;
    replies = subst (Appends (o.taken old) (o.taken new)) talk.ends.0 talk.said;
  }
  replied square held of start (Bad at) talk file e = absurd cc
  replied square held of start ReadFailed talk file e = absurd cc
  replied square held of start WriteFailed talk file e = absurd cc
  replied square held of start TooLong talk file e = absurd cc

  module _ (why : Status) (done : why ≡ status.Done) where
    over : (mid : I) (square : SquareShares) (held : HeldParts) → i.files mid ≡ Some files → IsSquareOf square held
        → TalksOver i o mid now old new held (talk_name words) why → HasReplied files words (o.taken old) (o.taken new)
    over mid square held told of (inl h) = absurd cc
    over mid square held told of (inr h) =
        replied square held of h.0 h.1 h.3 (subst (λ (t : Option Files). IsFileOf t (talk_name words) (heard_in h.3.events) (i.rest now)) told h.4) (sym h.5 ∙ done)

    gone_on : (mid : I) (square : SquareShares) → i.files mid ≡ Some files → HasSquare (Some files) (square_name words) (Ok square)
        → GoesOn i o mid now old new square (talk_name words) why → HasReplied files words (o.taken old) (o.taken new)
    gone_on mid square told has (inl h) = absurd (subst (λ (s : Status). HoldsSquare square (Err s)) done h.0)
    gone_on mid square told has (inr h) =
        over mid square h.0 told (record { file = has.0; there = has.1; read = has.2.1; is = h.1; holds = h.2 }) h.3

    whole : (before : I) → i.files before ≡ Some files → Converses i o words before now old new why → HasReplied files words (o.taken old) (o.taken new)
    whole before told (inl h) = absurd cc
    whole before told (inr (inl h)) =
        absurd (subst (λ (s : Status). IsNoSquare (i.files before) (square_name words) (i.ended now) (i.given now) s) done h.0)
    whole before told (inr (inr h)) =
        gone_on h.1 h.0 (h.4 ∙ told) (subst (λ (t : Option Files). HasSquare t (square_name words) (Ok h.0)) told h.2) h.5

-- whatever the status
pub replies_whole : {I O : Type 0} (i : inputs.Ghosts I) (o : sink.Ghosts O) (before now : I) (old new : O) (words : List (List ℕ)) (told : Option Files) (why : Status)
    → i.files before ≡ told → Converses i o words before now old new why → RepliesWhole why told words (o.taken old) (o.taken new)
replies_whole i o before now old new words (Some files) status.Done e h = whole i o now old new files words status.Done refl before e h
replies_whole i o before now old new words None status.Done e h = tt
replies_whole i o before now old new words told status.Usage e h = tt
replies_whole i o before now old new words told (status.PickFault n) e h = tt
replies_whole i o before now old new words told (status.ReadFault n) e h = tt
replies_whole i o before now old new words told status.WriteFault e h = tt
replies_whole i o before now old new words told status.NoMemory e h = tt
replies_whole i o before now old new words told (status.BadInput n at) e h = tt
replies_whole i o before now old new words told (status.TooLong n) e h = tt
replies_whole i o before now old new words told (status.BadBlock x) e h = tt
replies_whole i o before now old new words told (status.BadList x) e h = tt
replies_whole i o before now old new words told (status.BadRequest x) e h = tt
replies_whole i o before now old new words told (status.Fraud axis n) e h = tt
replies_whole i o before now old new words told (status.Missing cells lies) e h = tt
replies_whole i o before now old new words told status.Clash e h = tt
replies_whole i o before now old new words told status.Refused e h = tt
replies_whole i o before now old new words told (status.Waiting cells) e h = tt
