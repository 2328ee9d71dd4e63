-- The steps of a talk: how far it has come between two events.
use Rattle.std.specs.Prelude.{◌≡◌, ◌⊎◌, ℕ, List, [], ◌∷◌, ◌++◌, length, take, Ok, Err, Result, ⊤}
use Rattle.std.specs.declared.option.Option.{Option}
use Rattle.da_io.specs.declared.inputs.LastCall.TheVariants as call
use Rattle.da_io.specs.Sinks.{IsProperPrefix}
use Rattle.da_wire.specs.Reading.{Raw}
use Rattle.da_wire.specs.Frames.{frames_of, frames_bytes}
use Rattle.da_wire.specs.Streams.{StreamStands}
use Rattle.da_talk.specs.declared.line.Line as line
use Rattle.da_talk.specs.declared.talker.Talker as talker
use Rattle.da_talk.specs.declared.talk_end.TalkEnd.{TalkEnd}
use Rattle.da_talk.specs.declared.talk_end.TalkEnd.TheVariants.{Over, Decided, Bad, Unfit, ReadFailed, WriteFailed, TooLong, NoMemory}
use Rattle.da_talk.specs.declared.ended.Ended.{Ended}
use Rattle.da_talk.specs.declared.ended.Ended.TheVariants as ended
use Rattle.da_talk.specs.declared.talking.Frames.{Frames}
use Rattle.da_talk.specs.Events.{Event, heard, said, heard_in, said_in}
use Rattle.da_talk.specs.Handed.{if_within}
use Rattle.da_talk.specs.Talks.{Does, HasNoLong}
use Rattle.da_talk.specs.Spoken.{AreReplies, HasConversed, last_heard, hear_count, say_count}

-- ---- what is said

-- saying a text is one event, none for an empty text
abbrev pub spoken : List ℕ → List Event
spoken [] = []
spoken (byte ∷ bytes) = said (byte ∷ bytes) ∷ []

-- a text was said, or a part of it
abbrev pub Says : {L A E : Type 0} → line.Ghosts L → L → L → List ℕ → Result A E → Type 0
Says l old new text (Ok x) = Does l old new (spoken text)
Says l old new text (Err e) = (part : List ℕ) × IsProperPrefix part text × Does l old new (said part ∷ [])

-- a text that is due was said, or a part of it
abbrev pub SaysDue : {L A E : Type 0} → line.Ghosts L → L → L → (List ℕ → Type 0) → Result A E → Type 0
SaysDue l old new Due result = (text : List ℕ) × Due text × Says l old new text result

-- where the reply to a frame behind others, at an offset, comes to: it was said; the frame ended the talk, and the last words were; a
-- part of either; the frame is none that is replied to; or memory ran out
abbrev pub Replied : {L T A : Type 0} → line.Ghosts L → talker.Ghosts T → L → L → T → T → List Raw → Raw → ℕ → Result A TalkEnd → Type 0
Replied l t old new first now frames frame at (Ok x) =
    t.led first now (frames ++ frame ∷ []) × (text : List ℕ) × t.replies first frames frame text × Does l old new (spoken text)
Replied l t old new first now frames frame at (Err Decided) =
    (text : List ℕ) × t.decides first now (frames ++ frame ∷ []) text × Does l old new (spoken text)
Replied l t old new first now frames frame at (Err WriteFailed) =
    (text : List ℕ) × ((t.led first now (frames ++ frame ∷ []) × t.replies first frames frame text) ⊎ t.decides first now (frames ++ frame ∷ []) text)
    × (part : List ℕ) × IsProperPrefix part text × Does l old new (said part ∷ [])
Replied l t old new first now frames frame at (Err (Unfit place)) =
    (place ≡ at) × t.refuses first frames frame × Does l old new []
Replied l t old new first now frames frame at (Err NoMemory) = t.takes_memory first × Does l old new []
Replied l t old new first now frames frame at (Err other) = ⊥

-- so it does, whatever the frames before were, for the frame with this number, at this offset, that was handed so
abbrev pub Replies : {L T A : Type 0} → line.Ghosts L → talker.Ghosts T → L → L → T → T → ℕ → ℕ → Option Raw → Result A TalkEnd → Type 0
Replies {L} {T} l t old new was now number at handed result = (first : T) (frames : List Raw) (frame : Raw) → t.led first was frames
    → length frames ≡ number → handed ≡ if_within (t.longest was) frame → Replied l t old new first now frames frame at result

-- ---- how far a talk has come

-- from what was heard and said before on: whenever bytes are waited for, this holds of what was heard and said by then
abbrev pub Waits : (List ℕ → List ℕ → Type 0) → List ℕ → List ℕ → List Event → Type 0
Waits Holds came went [] = ⊤
Waits Holds came went (heard bytes ∷ later) = Holds came went × Waits Holds (came ++ bytes) went later
Waits Holds came went (said bytes ∷ later) = Waits Holds came (went ++ bytes) later

-- bytes may be waited for: all that is due was said, and no frame states a length above the limit
abbrev pub MayHear : {T : Type 0} → talker.Ghosts T → T → List ℕ → List ℕ → Type 0
MayHear t first came went = AreReplies t first (frames_of came) went × HasNoLong came

-- all was said that is due to the frames that a stream has taken, of all bytes that were heard but for these at the end, and of
-- the frame under way the first bytes are kept
pub record IsTelling {L T : Type 0} (l : line.Ghosts L) (t : talker.Ghosts T) (old now : L) (first state : T) (frames : Frames)
    (kept rest : List ℕ) : Type 0 where
  pub events : List Event
  pub did : Does l old now events
  pub waits : Waits (MayHear t first) [] [] events
  pub taken : List ℕ
  pub came : heard_in events ≡ taken ++ rest
  pub stands : StreamStands frames.stream taken
  pub short : HasNoLong taken
  pub told : AreReplies t first (frames_of taken) (said_in events)
  pub led : t.led first state (frames_of taken)
  pub counted : frames.count ≡ length (frames_of taken)
  pub start : frames.start ≡ length (frames_bytes (frames_of taken))
  pub under : List ℕ
  pub parts : taken ≡ frames_bytes (frames_of taken) ++ under
  pub keeps : kept ≡ take frames.size under

-- what left the value so: frames led to it, it wrote the last words, it refused a frame, or memory ran out
abbrev pub IsLeft : {T : Type 0} → talker.Ghosts T → T → T → Type 0
IsLeft t first now = (frames : List Raw) × (text : List ℕ)
    × (t.led first now frames ⊎ (t.decides first now frames text ⊎ (t.ends first now frames text
    ⊎ (((frame : Raw) × t.refuses first frames frame) ⊎ t.takes_memory first))))

-- a talk that ended, and how it left the value
abbrev pub HasEnded : {L T : Type 0} → line.Ghosts L → talker.Ghosts T → L → L → T → T → TalkEnd → Type 0
HasEnded l t old new first now why = HasConversed l t old new first now why × IsLeft t first now

-- where a call comes to that may end a talk: on with what is kept and what it leaves of the bytes, or to the end
abbrev pub TellsOn : {L T A : Type 0} → line.Ghosts L → talker.Ghosts T → L → L → T → T → Frames → List ℕ → (A → List ℕ) → Result A TalkEnd → Type 0
TellsOn l t old new first now frames kept left (Ok x) = IsTelling l t old new first now frames kept (left x)
TellsOn l t old new first now frames kept left (Err why) = HasEnded l t old new first now why

-- so it does from wherever the talk began
abbrev pub TellsTalk : {L T A : Type 0} → line.Ghosts L → talker.Ghosts T → L → L → T → T → Frames → Frames → List ℕ → List ℕ → List ℕ
    → (A → List ℕ) → Result A TalkEnd → Type 0
TellsTalk {L} {T} l t was new state now before after had kept piece left result = (old : L) (first : T)
    → IsTelling l t old was first state before had piece → TellsOn l t old new first now after kept left result

-- ---- failures

-- no wait for bytes failed
abbrev pub HasHeardAll : TalkEnd → Type 0
HasHeardAll why = (last_heard why ≡ call.Fine) × (hear_count why ≡ 0)

-- how many pieces couldn't be said whole
abbrev pub say_faults : {A : Type 0} → Result A TalkEnd → ℕ
say_faults (Ok x) = 0
say_faults (Err why) = say_count why

-- ---- a talk of replies alone

-- a talk ends so in which each frame is replied to and none decides, and no memory is taken
abbrev pub IsPlain : TalkEnd → Type 0
IsPlain Decided = ⊥
IsPlain (Unfit at) = ⊥
IsPlain NoMemory = ⊥
IsPlain other = ⊤

-- and how that is told
abbrev pub IsEndedAs : TalkEnd → Ended → Type 0
IsEndedAs Over end = end ≡ ended.Done
IsEndedAs Decided end = ⊥
IsEndedAs (Bad at) end = end ≡ ended.Bad at
IsEndedAs (Unfit at) end = ⊥
IsEndedAs ReadFailed end = end ≡ ended.ReadFailed
IsEndedAs WriteFailed end = end ≡ ended.WriteFailed
IsEndedAs TooLong end = end ≡ ended.TooLong
IsEndedAs NoMemory end = ⊥
