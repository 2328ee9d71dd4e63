-- A talk with what replies to each frame by its number and bytes alone, and says nothing else.
use Rattle.std.proofs.Common.{◌≡◌, ◌∙◌, ℕ, suc, ◌+◌, List, [], ◌∷◌, ◌++◌, length, sym, ap, subst, arith, length-append, append-nil, append_assoc, inl, inr}
use Rattle.square_serve.specs.declared.held.Held.{Held}
use Rattle.da_io.specs.Sinks.{IsProperPrefix}
use Rattle.da_wire.specs.Reading.{Raw}
use Rattle.da_wire.specs.Frames.{frames_of}
use Rattle.da_talk.specs.declared.line.Line as line
use Rattle.da_talk.specs.declared.talker.Talker as talker
use Rattle.da_talk.specs.declared.ended.Ended.{Ended}
use Rattle.da_talk.specs.declared.ended.Ended.TheVariants as ended
use Rattle.da_talk.specs.declared.talk_end.TalkEnd.{TalkEnd}
use Rattle.da_talk.specs.declared.talk_end.TalkEnd.TheVariants.{Over, Decided, Bad, Unfit, ReadFailed, WriteFailed, TooLong, NoMemory}
use Rattle.da_talk.specs.Events.{heard_in, said_in}
use Rattle.da_talk.specs.Replies.{held_reply, replies_from, due}
use Rattle.da_talk.specs.Talks.{Begins, EndsTalk, HasTalked, last_wait, read_count, write_count}
use Rattle.da_talk.specs.Spoken.{AreReplies, begun, told, IsDue, words, reply, verdict, last, HasConversed, last_heard, hear_count, say_count}
use Rattle.da_talk.specs.Steps.{IsLeft, IsPlain, IsEndedAs}
use Rattle.da_talk.specs.contracts.holding.HeldTalker.TheImpl.{ghosts}

-- ---- what is due

-- the replies to frames, and to more of them
replies-append : (answer : ℕ → Raw → List ℕ) (n : ℕ) (xs ys : List Raw) → replies_from answer n (xs ++ ys) ≡ replies_from answer n xs ++ replies_from answer (n + length xs) ys
replies-append answer n [] ys = let e : n ≡ n + 0 = omega arith in ap (λ (k : ℕ). replies_from answer k ys) e
replies-append answer n (x ∷ xs) ys =
    let e : suc n + length xs ≡ n + suc (length xs) = omega arith in
    ap (λ (l : List ℕ). answer n x ++ l) (replies-append answer (suc n) xs ys ∙ ap (λ (k : ℕ). replies_from answer (suc n) xs ++ replies_from answer k ys) e)
    ∙ sym (append_assoc (answer n x) (replies_from answer (suc n) xs) (replies_from answer (n + suc (length xs)) ys))

-- from the first frame on
due-append : (answer : ℕ → Raw → List ℕ) (xs ys : List Raw) → replies_from answer 0 (xs ++ ys) ≡ replies_from answer 0 xs ++ replies_from answer (length xs) ys
due-append answer xs ys =
    let e : 0 + length xs ≡ length xs = omega arith in
    replies-append answer 0 xs ys ∙ ap (λ (n : ℕ). replies_from answer 0 xs ++ replies_from answer n ys) e

-- ---- what replies so

-- it says nothing first and nothing last, replies to each frame, never ends a talk, takes no memory, and stays as it is
pub record IsReplier {T : Type 0} (t : talker.Ghosts T) (first : T) (answer : ℕ → Raw → List ℕ) : Type 0 where
  pub begins : (text : List ℕ) → t.begins first text → text ≡ []
  pub replies : (frames : List Raw) (f : Raw) (text : List ℕ) → t.replies first frames f text → text ≡ answer (length frames) f
  pub refuses : (frames : List Raw) (f : Raw) → t.refuses first frames f → ⊥
  pub decides : (now : T) (frames : List Raw) (text : List ℕ) → t.decides first now frames text → ⊥
  pub ends : (now : T) (frames : List Raw) (text : List ℕ) → t.ends first now frames text → (now ≡ first) × (text ≡ [])
  pub led : (now : T) (frames : List Raw) → t.led first now frames → now ≡ first
  pub takes : t.takes_memory first → ⊥

-- no part of an empty text is a proper one
none_cut : (part text : List ℕ) → text ≡ [] → IsProperPrefix part text → ⊥
none_cut part text none prefix = absurd (omega (arith, prefix.1, ap length prefix.2, ap length none, length-append part prefix.0))

module _ {T : Type 0} (t : talker.Ghosts T) (first : T) (answer : ℕ → Raw → List ℕ) (is : IsReplier t first answer) where
  -- the talk left it as it was
  pub left_so : (now : T) → IsLeft t first now → now ≡ first
  left_so now (frames, text, inl led) = is.led now frames led
  left_so now (frames, text, inr (inl decides)) = absurd (is.decides now frames text decides)
  left_so now (frames, text, inr (inr (inl ends))) = (is.ends now frames text ends).0
  left_so now (frames, text, inr (inr (inr (inl refuses)))) = absurd (is.refuses frames refuses.0 refuses.1)
  left_so now (frames, text, inr (inr (inr (inr takes)))) = absurd (is.takes takes)

  -- what was said to frames are the replies to them
  told_due : (frames : List Raw) (text : List ℕ) → AreReplies t first frames text → text ≡ replies_from answer 0 frames
  told_due frames text (begun some begins) = is.begins some begins
  told_due frames text (told before f some more so replies) =
      ap (λ (l : List ℕ). l ++ more) (told_due before some so)
      ∙ ap (λ (l : List ℕ). replies_from answer 0 before ++ l) (is.replies before f more replies ∙ sym (append-nil (answer (length before) f)))
      ∙ sym (due-append answer before (f ∷ []))

  -- what was said in part is a proper prefix of what is due
  cut_due : (now : T) (bytes before text part : List ℕ) → IsDue t first now bytes before text → IsProperPrefix part text → IsProperPrefix (before ++ part) (due answer bytes)
  cut_due now bytes before text part (words some begins) prefix = absurd (none_cut part text (is.begins text begins) prefix)
  cut_due now bytes before text part (reply frames later f was some are so replies) prefix =
      let more : List ℕ = prefix.0 in
      let rest : List ℕ = replies_from answer (suc (length frames)) later in
      let whole : due answer bytes ≡ (before ++ part) ++ (more ++ rest) =
      ap (replies_from answer 0) are ∙ due-append answer frames (f ∷ later)
      ∙ ap (λ (l : List ℕ). l ++ (answer (length frames) f ++ rest)) (sym (told_due frames before so))
      ∙ ap (λ (l : List ℕ). before ++ (l ++ rest)) (sym (is.replies frames f text replies) ∙ prefix.2)
      ∙ ap (λ (l : List ℕ). before ++ l) (append_assoc part more rest) ∙ sym (append_assoc before part (more ++ rest)) in
      (more ++ rest, omega (arith, prefix.1, length-append more rest), whole)
  cut_due now bytes before text part (verdict frames later f was some are so decides) prefix = absurd (is.decides now (frames ++ f ∷ []) text decides)
  cut_due now bytes before text part (last was some whole so ends) prefix = absurd (none_cut part text (is.ends now (frames_of bytes) text ends).1 prefix)

  module _ {L : Type 0} (l : line.Ghosts L) (old new : L) (now : T) where
    -- all that is due was said
    all_due : (heard said : List ℕ) → AreReplies t first (frames_of heard) said → said ≡ due answer heard
    all_due heard said so = told_due (frames_of heard) said so

    -- so it is a talk in which each reply is said in time
    talked : (why : TalkEnd) (end : Ended) → (s : HasConversed l t old new first now why) → Begins (due answer (heard_in s.events)) (said_in s.events)
        → EndsTalk (due answer) s.events (l.rest new) end → HasTalked l old new (due answer) end
    talked why end s front ends = record {
      events = s.events;
      did = s.did;
      prompt = record { waits = λ before later bytes e. told_due (frames_of (heard_in before)) (said_in before) (s.prompt before later bytes e); front = front };
      at_once = s.at_once;
      end = ends;
    }

    -- all was said
    begins_all : (heard said : List ℕ) → said ≡ due answer heard → Begins (due answer heard) said
    begins_all heard said all = ([], sym all ∙ sym (append-nil said))

    talked_over : HasConversed l t old new first now Over → HasTalked l old new (due answer) ended.Done
    talked_over s =
        let none : s.end.text ≡ [] = (is.ends now (frames_of (heard_in s.events)) s.end.text s.end.due).1 in
        let all : said_in s.events ≡ due answer (heard_in s.events) =
        s.end.all ∙ ap (λ (l : List ℕ). s.end.before ++ l) none ∙ append-nil s.end.before ∙ all_due (heard_in s.events) s.end.before s.end.told in
        talked Over ended.Done s (begins_all (heard_in s.events) (said_in s.events) all) (all, s.end.whole, s.end.end)

    talked_bad : (at : ℕ) → HasConversed l t old new first now (Bad at) → HasTalked l old new (due answer) (ended.Bad at)
    talked_bad at s =
        let all = all_due (heard_in s.events) (said_in s.events) s.end.0 in
        talked (Bad at) (ended.Bad at) s (begins_all (heard_in s.events) (said_in s.events) all) (all, s.end.1)

    talked_failed : HasConversed l t old new first now ReadFailed → HasTalked l old new (due answer) ended.ReadFailed
    talked_failed s =
        let all = all_due (heard_in s.events) (said_in s.events) s.end in
        talked ReadFailed ended.ReadFailed s (begins_all (heard_in s.events) (said_in s.events) all) all

    talked_cut : HasConversed l t old new first now WriteFailed → HasTalked l old new (due answer) ended.WriteFailed
    talked_cut s =
        let cut : IsProperPrefix (said_in s.events) (due answer (heard_in s.events)) =
        subst (λ (l : List ℕ). IsProperPrefix l (due answer (heard_in s.events))) (sym s.end.all)
        (cut_due now (heard_in s.events) s.end.before s.end.text s.end.part s.end.due s.end.prefix) in
        talked WriteFailed ended.WriteFailed s (cut.0, cut.2) cut

    talked_long : HasConversed l t old new first now TooLong → HasTalked l old new (due answer) ended.TooLong
    talked_long s =
        let later : List ℕ = replies_from answer (length s.end.frames) s.end.later in
        talked TooLong ended.TooLong s (
          later,
          ap (replies_from answer 0) s.end.are ∙ due-append answer s.end.frames s.end.later
              ∙ ap (λ (l : List ℕ). l ++ later) (sym (told_due s.end.frames (said_in s.events) s.end.told)),
        ) s.end.many

    -- however it ends
    pub talked_as : (why : TalkEnd) (end : Ended) → HasConversed l t old new first now why → IsEndedAs why end → HasTalked l old new (due answer) end
    talked_as Over end s so = subst (HasTalked l old new (due answer)) (sym so) (talked_over s)
    talked_as Decided end s so = absurd so
    talked_as (Bad at) end s so = subst (HasTalked l old new (due answer)) (sym so) (talked_bad at s)
    talked_as (Unfit at) end s so = absurd so
    talked_as ReadFailed end s so = subst (HasTalked l old new (due answer)) (sym so) (talked_failed s)
    talked_as WriteFailed end s so = subst (HasTalked l old new (due answer)) (sym so) (talked_cut s)
    talked_as TooLong end s so = subst (HasTalked l old new (due answer)) (sym so) (talked_long s)
    talked_as NoMemory end s so = absurd so

    -- each frame is replied to, none decides, and no memory is taken
    pub is_plain : (why : TalkEnd) → HasConversed l t old new first now why → IsPlain why
    is_plain Over s = tt
    is_plain Decided s = is.decides now (s.end.frames ++ s.end.frame ∷ []) s.end.text s.end.due
    is_plain (Bad at) s = tt
    is_plain (Unfit at) s = is.refuses s.end.frames s.end.frame s.end.refused
    is_plain ReadFailed s = tt
    is_plain WriteFailed s = tt
    is_plain TooLong s = tt
    is_plain NoMemory s = is.takes s.end.takes

-- which calls failed
pub failed_as : (why : TalkEnd) (end : Ended) → IsEndedAs why end → (last_heard why ≡ last_wait end) × (hear_count why ≡ read_count end) × (say_count why ≡ write_count end)
failed_as Over end so = (sym (ap last_wait so), sym (ap read_count so), sym (ap write_count so))
failed_as Decided end so = absurd so
failed_as (Bad at) end so = (sym (ap last_wait so), sym (ap read_count so), sym (ap write_count so))
failed_as (Unfit at) end so = absurd so
failed_as ReadFailed end so = (sym (ap last_wait so), sym (ap read_count so), sym (ap write_count so))
failed_as WriteFailed end so = (sym (ap last_wait so), sym (ap read_count so), sym (ap write_count so))
failed_as TooLong end so = (sym (ap last_wait so), sym (ap read_count so), sym (ap write_count so))
failed_as NoMemory end so = absurd so

-- a held square replies so
pub held_replies : (held : Held) → IsReplier ghosts held (held_reply held)
held_replies held = record {
  begins = λ text is. is;
  replies = λ frames f text is. is;
  refuses = λ frames f is. is;
  decides = λ now frames text is. is;
  ends = λ now frames text is. is;
  led = λ now frames is. is;
  takes = λ is. is;
}
