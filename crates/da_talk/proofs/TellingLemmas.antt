-- What one talker tells is what another tells that replies alike.
use Rattle.std.proofs.Common.{List, ◌++◌, ◌∷◌, [], ℕ, Option}
use Rattle.da_wire.specs.Reading.{Raw}
use Rattle.da_wire.specs.Frames.{frames_of}
use Rattle.da_talk.specs.declared.line.Line as line
use Rattle.da_talk.specs.declared.talker.Talker as talker
use Rattle.da_talk.specs.declared.talk_end.TalkEnd.{TalkEnd}
use Rattle.da_talk.specs.declared.talk_end.TalkEnd.TheVariants.{Over, Decided, Bad, Unfit, ReadFailed, WriteFailed, TooLong, NoMemory}
use Rattle.da_talk.specs.Events.{heard_in, said_in}
use Rattle.da_talk.specs.Spoken.{AreReplies, begun, told, IsDue, words, reply, verdict, last, EndsReplies, HasConversed}

-- what is due to frames by one talker is due by another
pub record RepliesAlike {T U : Type 0} (t : talker.Ghosts T) (u : talker.Ghosts U) (first now : T) (one other : U) : Type 0 where
  pub begins : (text : List ℕ) → t.begins first text → u.begins one text
  pub replies : (frames : List Raw) (frame : Raw) (text : List ℕ) → t.replies first frames frame text → u.replies one frames frame text
  pub refuses : (frames : List Raw) (frame : Raw) → t.refuses first frames frame → u.refuses one frames frame
  pub decides : (frames : List Raw) (text : List ℕ) → t.decides first now frames text → u.decides one other frames text
  pub ends : (frames : List Raw) (text : List ℕ) → t.ends first now frames text → u.ends one other frames text
  pub takes : t.takes_memory first → u.takes_memory one

module _ {T U : Type 0} (t : talker.Ghosts T) (u : talker.Ghosts U) (first now : T) (one other : U) (alike : RepliesAlike t u first now one other) where
  -- what was said to frames
  told_as : (frames : List Raw) (text : List ℕ) → AreReplies t first frames text → AreReplies u one frames text
  told_as frames text (begun some begins) = begun some (alike.begins some begins)
  told_as frames text (told before f some more so replies) = told before f some more (told_as before some so) (alike.replies before f more replies)

  -- what is due next
  due_as : (bytes before text : List ℕ) → IsDue t first now bytes before text → IsDue u one other bytes before text
  due_as bytes before text (words some begins) = words some (alike.begins some begins)
  due_as bytes before text (reply frames later f was some are so replies) =
      reply frames later f was some are (told_as frames was so) (alike.replies frames f some replies)
  due_as bytes before text (verdict frames later f was some are so decides) =
      verdict frames later f was some are (told_as frames was so) (alike.decides (frames ++ f ∷ []) some decides)
  due_as bytes before text (last was some whole so ends) = last was some whole (told_as (frames_of bytes) was so) (alike.ends (frames_of bytes) some ends)

  -- the end
  ends_as : (heard said : List ℕ) (rest : Option (List ℕ)) (end : TalkEnd) → EndsReplies t first now heard said rest end → EndsReplies u one other heard said rest end
  ends_as heard said rest Over e = record {
    before = e.before;
    text = e.text;
    told = told_as (frames_of heard) e.before e.told;
    due = alike.ends (frames_of heard) e.text e.due;
    all = e.all;
    whole = e.whole;
    end = e.end;
  }
  ends_as heard said rest Decided e = record {
    frames = e.frames;
    frame = e.frame;
    later = e.later;
    are = e.are;
    before = e.before;
    text = e.text;
    told = told_as e.frames e.before e.told;
    due = alike.decides (e.frames ++ e.frame ∷ []) e.text e.due;
    all = e.all;
  }
  ends_as heard said rest (Bad at) e = (told_as (frames_of heard) said e.0, e.1)
  ends_as heard said rest (Unfit at) e = record {
    frames = e.frames;
    frame = e.frame;
    later = e.later;
    are = e.are;
    place = e.place;
    told = told_as e.frames said e.told;
    refused = alike.refuses e.frames e.frame e.refused;
  }
  ends_as heard said rest ReadFailed e = told_as (frames_of heard) said e
  ends_as heard said rest WriteFailed e = record {
    before = e.before;
    text = e.text;
    part = e.part;
    due = due_as heard e.before e.text e.due;
    prefix = e.prefix;
    all = e.all;
  }
  ends_as heard said rest TooLong e = record {
    many = e.many;
    frames = e.frames;
    later = e.later;
    are = e.are;
    told = told_as e.frames said e.told;
  }
  ends_as heard said rest NoMemory e = record {
    frames = e.frames;
    frame = e.frame;
    later = e.later;
    are = e.are;
    told = told_as e.frames said e.told;
    takes = alike.takes e.takes;
  }

  -- a talk
  pub talk_as : {L : Type 0} (l : line.Ghosts L) (old new : L) (end : TalkEnd) → HasConversed l t old new first now end → HasConversed l u old new one other end
  talk_as l old new end s = record {
    events = s.events;
    did = s.did;
    prompt = λ before later bytes e. told_as (frames_of (heard_in before)) (said_in before) (s.prompt before later bytes e);
    at_once = s.at_once;
    end = ends_as (heard_in s.events) (said_in s.events) (l.rest new) end s.end;
  }
