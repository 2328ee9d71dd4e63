-- What was said to the frames of a talk, by whatever replies to them.
use Rattle.std.specs.Prelude.{◌≡◌, ◌<◌, ℕ, List, [], ◌∷◌, ◌++◌, length, None}
use Rattle.std.specs.declared.option.Option.{Option}
use Rattle.std.specs.Io.KnownBytes.{IsAtEnd}
use Rattle.da_io.specs.Faults.{max_count}
use Rattle.da_io.specs.declared.inputs.LastCall as calls
use Rattle.da_io.specs.declared.inputs.LastCall.TheVariants as call
use Rattle.da_io.specs.Sinks.{IsProperPrefix}
use Rattle.da_wire.specs.Reading.{Raw}
use Rattle.da_wire.specs.Frames.{frames_of, bad_frame, frames_bytes}
use Rattle.da_talk.specs.declared.line.Line as line
use Rattle.da_talk.specs.declared.talker.Talker as talker
use Rattle.da_talk.specs.declared.talk_end.TalkEnd.{TalkEnd}
use Rattle.da_talk.specs.declared.talk_end.TalkEnd.TheVariants.{Over, Decided, Bad, Unfit, ReadFailed, WriteFailed, TooLong, NoMemory}
use Rattle.da_talk.specs.Events.{Event, heard_in, said_in}
use Rattle.da_talk.specs.Talks.{Does, AtEachWait, HasNoLong, IsBad}

-- what was said to frames behind which a talk goes on: what is due before the first, and then to each one
pub data AreReplies {T : Type 0} (t : talker.Ghosts T) (first : T) : List Raw → List ℕ → Type 0 where
  begun : (text : List ℕ) → t.begins first text → AreReplies t first [] text
  told : (frames : List Raw) (frame : Raw) (before text : List ℕ) → AreReplies t first frames before → t.replies first frames frame text
      → AreReplies t first (frames ++ frame ∷ []) (before ++ text)

-- what is due next behind what was said before, of the frames that bytes begin with: the first words, the reply to a frame, or the
-- last words, where a frame ended the talk or where the bytes are over
pub data IsDue {T : Type 0} (t : talker.Ghosts T) (first now : T) (bytes : List ℕ) : List ℕ → List ℕ → Type 0 where
  words : (text : List ℕ) → t.begins first text → IsDue t first now bytes [] text
  reply : (frames later : List Raw) (frame : Raw) (before text : List ℕ) → frames_of bytes ≡ frames ++ frame ∷ later
      → AreReplies t first frames before → t.replies first frames frame text → IsDue t first now bytes before text
  verdict : (frames later : List Raw) (frame : Raw) (before text : List ℕ) → frames_of bytes ≡ frames ++ frame ∷ later
      → AreReplies t first frames before → t.decides first now (frames ++ frame ∷ []) text → IsDue t first now bytes before text
  last : (before text : List ℕ) → bad_frame bytes ≡ None → AreReplies t first (frames_of bytes) before
      → t.ends first now (frames_of bytes) text → IsDue t first now bytes before text

-- ---- the end

-- the bytes were over behind whole frames: all replies were said, and the last words
pub record EndsOver {T : Type 0} (t : talker.Ghosts T) (first now : T) (heard said : List ℕ) (rest : Option (List ℕ)) : Type 0 where
  pub before : List ℕ
  pub text : List ℕ
  pub told : AreReplies t first (frames_of heard) before
  pub due : t.ends first now (frames_of heard) text
  pub all : said ≡ before ++ text
  pub whole : bad_frame heard ≡ None
  pub end : IsAtEnd rest

-- a frame ended the talk: the replies to those before it were said, and the last words
pub record EndsDecided {T : Type 0} (t : talker.Ghosts T) (first now : T) (heard said : List ℕ) : Type 0 where
  pub frames : List Raw
  pub frame : Raw
  pub later : List Raw
  pub are : frames_of heard ≡ frames ++ frame ∷ later
  pub before : List ℕ
  pub text : List ℕ
  pub told : AreReplies t first frames before
  pub due : t.decides first now (frames ++ frame ∷ []) text
  pub all : said ≡ before ++ text

-- a frame at an offset is none that is replied to: the replies to those before it were said
pub record IsUnfit {T : Type 0} (t : talker.Ghosts T) (first : T) (heard said : List ℕ) (at : ℕ) : Type 0 where
  pub frames : List Raw
  pub frame : Raw
  pub later : List Raw
  pub are : frames_of heard ≡ frames ++ frame ∷ later
  pub place : at ≡ length (frames_bytes frames)
  pub told : AreReplies t first frames said
  pub refused : t.refuses first frames frame

-- what was due next was said in part
pub record EndsCut {T : Type 0} (t : talker.Ghosts T) (first now : T) (heard said : List ℕ) : Type 0 where
  pub before : List ℕ
  pub text : List ℕ
  pub part : List ℕ
  pub due : IsDue t first now heard before text
  pub prefix : IsProperPrefix part text
  pub all : said ≡ before ++ part

-- too many bytes came: the replies to some frames that they begin with were said
pub record IsTooLong {T : Type 0} (t : talker.Ghosts T) (first : T) (heard said : List ℕ) : Type 0 where
  pub many : max_count < length heard
  pub frames : List Raw
  pub later : List Raw
  pub are : frames_of heard ≡ frames ++ later
  pub told : AreReplies t first frames said

-- memory ran out for a frame: the replies to those before it were said
pub record HasNoMemory {T : Type 0} (t : talker.Ghosts T) (first : T) (heard said : List ℕ) : Type 0 where
  pub frames : List Raw
  pub frame : Raw
  pub later : List Raw
  pub are : frames_of heard ≡ frames ++ frame ∷ later
  pub told : AreReplies t first frames said
  pub takes : t.takes_memory first

-- what the end of a talk says of what was heard and said, and of what is left to be heard
abbrev pub EndsReplies : {T : Type 0} → talker.Ghosts T → T → T → List ℕ → List ℕ → Option (List ℕ) → TalkEnd → Type 0
EndsReplies t first now heard said rest Over = EndsOver t first now heard said rest
EndsReplies t first now heard said rest Decided = EndsDecided t first now heard said
EndsReplies t first now heard said rest (Bad at) = AreReplies t first (frames_of heard) said × IsBad heard rest at
EndsReplies t first now heard said rest (Unfit at) = IsUnfit t first heard said at
EndsReplies t first now heard said rest ReadFailed = AreReplies t first (frames_of heard) said
EndsReplies t first now heard said rest WriteFailed = EndsCut t first now heard said
EndsReplies t first now heard said rest TooLong = IsTooLong t first heard said
EndsReplies t first now heard said rest NoMemory = HasNoMemory t first heard said

-- a talk: what happened; that whenever bytes were waited for, all that is due to the frames by then was said, and nothing else; that
-- none were waited for behind a length above the limit; and the end
pub record HasConversed {L T : Type 0} (l : line.Ghosts L) (t : talker.Ghosts T) (old new : L) (first now : T) (ended : TalkEnd) : Type 0 where
  pub events : List Event
  pub did : Does l old new events
  pub prompt : AtEachWait (λ came went. AreReplies t first (frames_of came) went) events
  pub at_once : AtEachWait (λ came went. HasNoLong came) events
  pub end : EndsReplies t first now (heard_in events) (said_in events) (l.rest new) ended

-- ---- failures

-- how the last wait for bytes ended
abbrev pub last_heard : TalkEnd → calls.LastCall
last_heard ReadFailed = call.ReadFailed
last_heard other = call.Fine

-- how many waits for bytes failed
abbrev pub hear_count : TalkEnd → ℕ
hear_count ReadFailed = 1
hear_count other = 0

-- how many pieces couldn't be said whole
abbrev pub say_count : TalkEnd → ℕ
say_count WriteFailed = 1
say_count other = 0
