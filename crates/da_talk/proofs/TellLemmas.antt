-- A talk with whatever replies, step by step.
use Rattle.std.proofs.Common.{◌≡◌, ◌∙◌, ◌⊎◌, ℕ, ◌+◌, ◌<◌, ◌≤◌, List, [], ◌∷◌, ◌++◌, length, take, drop, Some, None, Result, Ok, Err, refl, sym, ap, subst, arith, length-append, length-take-le, append-nil, append_assoc, ⊎_elim, inl, inr}
use Rattle.std.proofs.lemmas.Option.{none-some}
use Rattle.std.proofs.lemmas.List.{take-append-drop}
use Rattle.std.proofs.Math.Seq.{take-nil}
use Rattle.std.specs.Option.{option_map}
use Rattle.std.specs.Result.{result_ok}
use Rattle.std.specs.Io.KnownBytes.{Appends, Consumes, IsAtEnd}
use Rattle.da_io.specs.Faults.{max_count, count_on}
use Rattle.da_io.specs.Sinks.{IsProperPrefix}
use Rattle.da_wire.specs.declared.frames.FrameError.{FrameError}
use Rattle.da_wire.specs.declared.frames.FrameError.TheVariants as frame
use Rattle.da_wire.specs.declared.frames.RawFrame.{RawFrame}
use Rattle.da_wire.specs.declared.streams.Pushed.{Pushed}
use Rattle.da_wire.specs.declared.streams.Pushed.TheVariants as pushed
use Rattle.da_wire.specs.Reading.{Raw, raw_of, raw_seen, ReadsAt}
use Rattle.da_wire.specs.Walks.{walk_from, stop_from}
use Rattle.da_wire.specs.Frames.{ok_of, frames_of, bad_frame, frames_bytes}
use Rattle.da_wire.specs.StreamParts.{StreamParts}
use Rattle.da_wire.specs.Streams.{StreamStands, IsPush, FramesStay, why_no_frame}
use Rattle.da_wire.specs.Laws.{BadFrameIsFirst, FilesAreFrames, FramesAreTheFile, RawIsFrame}
use Rattle.da_talk.specs.declared.line.Line as line
use Rattle.da_talk.specs.declared.talker.Talker as talker
use Rattle.da_talk.specs.declared.talk_end.TalkEnd.{TalkEnd}
use Rattle.da_talk.specs.declared.talk_end.TalkEnd.TheVariants.{Over, Decided, Bad, Unfit, ReadFailed, WriteFailed, TooLong, NoMemory}
use Rattle.da_talk.specs.declared.talking.Frames.{Frames}
use Rattle.da_talk.specs.Handed.{if_within}
use Rattle.da_talk.specs.Events.{Event, heard, said, heard_in, said_in, Grows}
use Rattle.da_talk.specs.Talks.{Does, HasNoLong}
use Rattle.da_talk.specs.Steps.{Waits}
use Rattle.da_talk.specs.Spoken.{AreReplies, begun, told, words, reply, verdict, last, EndsReplies}
use Rattle.da_talk.specs.Steps.{spoken, Replied, MayHear, IsTelling, IsLeft, HasEnded}
use Rattle.da_talk.proofs.EventLemmas.{IsLine, does_heard, does_on, heard_on, said_on, waits_on, waits_each}
use Rattle.da_talk.proofs.LongLemmas.{long_stays}
use Rattle.da_talk.proofs.KeepLemmas.{kept_more, handed}

-- ---- what is said

pub said_spoken : (text : List ℕ) → said_in (spoken text) ≡ text
said_spoken [] = refl
said_spoken (byte ∷ bytes) = append-nil (byte ∷ bytes)

heard_spoken : (text : List ℕ) → heard_in (spoken text) ≡ []
heard_spoken [] = refl
heard_spoken (byte ∷ bytes) = refl

-- bytes are waited for at no event of it
waits_spoken : (Holds : List ℕ → List ℕ → Type 0) (came went text : List ℕ) → Waits Holds came went (spoken text)
waits_spoken Holds came went [] = tt
waits_spoken Holds came went (byte ∷ bytes) = tt

-- what was heard before it is all that was heard
heard_said : (events : List Event) (text : List ℕ) → heard_in (events ++ spoken text) ≡ heard_in events
heard_said events text = heard_on events (spoken text) ∙ ap (λ (l : List ℕ). heard_in events ++ l) (heard_spoken text) ∙ append-nil (heard_in events)

-- what was said before a text, and the text, are all that was said
said_more : (events : List Event) (text : List ℕ) → said_in (events ++ spoken text) ≡ said_in events ++ text
said_more events text = said_on events (spoken text) ∙ ap (λ (l : List ℕ). said_in events ++ l) (said_spoken text)

-- where only a part was said
heard_part : (events : List Event) (part : List ℕ) → heard_in (events ++ said part ∷ []) ≡ heard_in events
heard_part events part = heard_on events (said part ∷ []) ∙ append-nil (heard_in events)

said_part : (events : List Event) (part : List ℕ) → said_in (events ++ said part ∷ []) ≡ said_in events ++ part
said_part events part = said_on events (said part ∷ []) ∙ ap (λ (l : List ℕ). said_in events ++ l) (append-nil part)

-- ---- a push

-- of the bytes that are left so many are taken
came_on : (came taken rest : List ℕ) (count : ℕ) → came ≡ taken ++ rest → came ≡ (taken ++ take count rest) ++ drop count rest
came_on came taken rest count e =
    e ∙ ap (λ (l : List ℕ). taken ++ l) (sym (take-append-drop count rest)) ∙ sym (append_assoc taken (take count rest) (drop count rest))

-- a push that answers no frame that is too long finds none
push_short : (before piece : List ℕ) (count : ℕ) (answer : Pushed) → IsPush before piece count answer → ((at : ℕ) → answer ≡ pushed.Bad at → ⊥) → HasNoLong (before ++ take count piece)
push_short before piece count answer push other at e = other at ((push.bad at).1 e)

-- ---- the frames of what was heard

-- behind the frames before, the frame that ended
frames_on : FramesStay → (taken piece came : List ℕ) (rest : List ℕ) (f : Raw) → came ≡ piece ++ rest → frames_of piece ≡ frames_of taken ++ f ∷ []
    → (later : List Raw) × (frames_of came ≡ frames_of taken ++ f ∷ later)
frames_on stay taken piece came rest f e is =
    let more = stay piece rest in
    (more.0, ap frames_of e ∙ more.1 ∙ ap (λ (l : List Raw). l ++ more.0) is ∙ append_assoc (frames_of taken) (f ∷ []) more.0)

-- from wherever it began, a talk that had these frames and bytes has those now
abbrev pub StillTells : {L T : Type 0} → line.Ghosts L → talker.Ghosts T → L → L → T → T → Frames → Frames → List ℕ → List ℕ → List ℕ → List ℕ → Type 0
StillTells {L} {T} l t was now state later before after had kept piece rest = (old : L) (first : T)
    → IsTelling l t old was first state before had piece → IsTelling l t old now first later after kept rest

-- what is read of a frame, seen as its bytes
pub seen_ok : (r : Result RawFrame FrameError) (read : Result Raw FrameError) → ReadsAt (λ f. raw_seen f) r read → option_map (λ f. raw_seen f) (result_ok r) ≡ ok_of read
seen_ok (Ok x) read e = sym (ap ok_of e)
seen_ok (Err x) read e = sym (ap ok_of e)

module _ {L T : Type 0} (l : line.Ghosts L) (t : talker.Ghosts T) where
  -- what holds at the end of a talk
  ends_told : (old new : L) (first now : T) (events : List Event) (ended : TalkEnd) → IsLeft t first now → Does l old new events → Waits (MayHear t first) [] [] events
      → EndsReplies t first now (heard_in events) (said_in events) (l.rest new) ended → HasEnded l t old new first now ended
  ends_told old new first now events ended left did waits end = (
    record {
      events = events;
      did = did;
      prompt = λ before later bytes e. (waits_each (MayHear t first) events waits before later bytes e).0;
      at_once = λ before later bytes e. (waits_each (MayHear t first) events waits before later bytes e).1;
      end = end;
    },
    left,
  )

  -- frames led to the value
  led_so : (first now : T) (frames : List Raw) → t.led first now frames → IsLeft t first now
  led_so first now frames led = (frames, [], inl led)

  -- ---- a talk begins

  -- the first words were said, and nothing was heard
  pub telling_none : (old now : L) (first state : T) (frames : Frames) (kept text : List ℕ) → StreamStands frames.stream [] → frames.start ≡ 0 → frames.count ≡ 0 → kept ≡ []
      → t.led first state [] → t.begins first text → Does l old now (spoken text) → IsTelling l t old now first state frames kept []
  unfolding walk_from stop_from
  telling_none old now first state frames kept text stands start count none led begins did = record {
    events = spoken text;
    did = did;
    waits = waits_spoken (MayHear t first) [] [] text;
    taken = [];
    came = heard_spoken text;
    stands = stands;
    short = λ at e. absurd (none-some (frame.TooLong at) e);
    told = begun (said_in (spoken text)) (subst (t.begins first) (sym (said_spoken text)) begins);
    led = led;
    counted = count;
    start = start;
    under = [];
    parts = refl;
    keeps = none ∙ sym (take-nil frames.size);
  }

  -- the first words weren't said whole
  pub told_none : (old new : L) (first now : T) (text part : List ℕ) → t.led first now [] → t.begins first text → IsProperPrefix part text → Does l old new (said part ∷ [])
      → HasEnded l t old new first now WriteFailed
  told_none old new first now text part led begins prefix did =
      ends_told old new first now (said part ∷ []) WriteFailed (led_so first now [] led) did tt (record {
        before = [];
        text = text;
        part = part;
        due = words text begins;
        prefix = prefix;
        all = append-nil part;
      })

  -- ---- a talk goes on

  -- bytes were waited for
  pub telling_heard : IsLine l → (old now new : L) (first state : T) (frames : Frames) (kept bytes : List ℕ)
      → IsTelling l t old now first state frames kept [] → Does l now new (heard bytes ∷ []) → IsTelling l t old new first state frames kept bytes
  telling_heard is old now new first state frames kept bytes s did =
      let all : heard_in s.events ≡ s.taken = s.came ∙ append-nil s.taken in
      record {
        events = s.events ++ heard bytes ∷ [];
        did = does_on l is old now new s.events (heard bytes ∷ []) s.did did;
        waits = waits_on (MayHear t first) [] [] s.events (heard bytes ∷ []) s.waits
            ((subst (λ (b : List ℕ). AreReplies t first (frames_of b) (said_in s.events)) (sym all) s.told, subst HasNoLong (sym all) s.short), tt);
        taken = s.taken;
        came = heard_on s.events (heard bytes ∷ []) ∙ ap (λ (b : List ℕ). b ++ (bytes ++ [])) all ∙ ap (λ (b : List ℕ). s.taken ++ b) (append-nil bytes);
        stands = s.stands;
        short = s.short;
        told = subst (AreReplies t first (frames_of s.taken)) (sym (said_on s.events (heard bytes ∷ []) ∙ append-nil (said_in s.events))) s.told;
        led = s.led;
        counted = s.counted;
        start = s.start;
        under = s.under;
        parts = s.parts;
        keeps = s.keeps;
      }

  -- so many bytes came into a room
  pub telling_piece : IsLine l → (old now new : L) (first state : T) (frames : Frames) (kept buf : List ℕ) (n : ℕ) → n ≤ length buf
      → Grows (l.events now) (l.events new) (heard (take n buf) ∷ []) → Consumes (l.rest now) (l.rest new) (take n buf) → Appends (l.taken now) (l.taken new) []
      → l.given new ≡ count_on (l.given now) n → l.stays now new
      → IsTelling l t old now first state frames kept [] → IsTelling l t old new first state frames kept (take n buf)
  telling_piece is old now new first state frames kept buf n within grows rest went given stays s =
      telling_heard is old now new first state frames kept (take n buf) s
      (does_heard l now new (take n buf) grows rest went (given ∙ ap (count_on (l.given now)) (sym (length-take-le n buf within))) stays)

  -- of a piece of which a stream takes so many bytes
  module _ (old now : L) (first state : T) (frames : Frames) (kept rest : List ℕ) (n : ℕ) (s : IsTelling l t old now first state frames kept rest) where
    -- the bytes that the stream has taken now
    abbrev here : List ℕ
    here = s.taken ++ take n rest

    -- what was heard is these and the rest
    came_here : heard_in s.events ≡ here ++ drop n rest
    came_here = came_on (heard_in s.events) s.taken rest n s.came

    -- behind the frames before stand the bytes of the frame under way
    parts_here : here ≡ frames_bytes (frames_of s.taken) ++ (s.under ++ take n rest)
    parts_here = ap (λ (b : List ℕ). b ++ take n rest) s.parts ∙ append_assoc (frames_bytes (frames_of s.taken)) s.under (take n rest)

    -- as many of them are kept as fit
    pub keeps_here : (now_kept : List ℕ) → now_kept ≡ take frames.size (kept ++ take n rest) → now_kept ≡ take frames.size (s.under ++ take n rest)
    keeps_here now_kept e = e ∙ ap (λ (b : List ℕ). take frames.size (b ++ take n rest)) s.keeps ∙ kept_more frames.size s.under (take n rest)

    -- a push ended no frame
    pub telling_more : (after : Frames) (now_kept : List ℕ) → StreamStands after.stream here → IsPush s.taken rest n pushed.More → after.start ≡ frames.start → after.count ≡ frames.count
        → after.size ≡ frames.size → now_kept ≡ take frames.size (kept ++ take n rest) → IsTelling l t old now first state after now_kept (drop n rest)
    telling_more after now_kept stands push start count size e = record {
      events = s.events;
      did = s.did;
      waits = s.waits;
      taken = here;
      came = came_here;
      stands = stands;
      short = push_short s.taken rest n pushed.More push (λ at e. absurd cc);
      told = subst (λ (fs : List Raw). AreReplies t first fs (said_in s.events)) (sym push.frames) s.told;
      led = subst (t.led first state) (sym push.frames) s.led;
      counted = count ∙ s.counted ∙ ap length (sym push.frames);
      start = start ∙ s.start ∙ ap (λ (fs : List Raw). length (frames_bytes fs)) (sym push.frames);
      under = s.under ++ take n rest;
      parts = parts_here ∙ ap (λ (fs : List Raw). frames_bytes fs ++ (s.under ++ take n rest)) (sym push.frames);
      keeps = keeps_here now_kept e ∙ ap (λ (m : ℕ). take m (s.under ++ take n rest)) (sym size);
    }

    -- the frame under way states a length above the limit
    pub told_long : BadFrameIsFirst → FilesAreFrames → (new : StreamParts) (at : ℕ) → StreamStands new here → IsPush s.taken rest n (pushed.Bad at)
        → HasEnded l t old now first state (Bad at)
    told_long is_first are_frames new at stands push =
        let still = long_stays is_first are_frames here (drop n rest) at stands.fits ((push.bad at).0 refl) in
        let same : frames_of (heard_in s.events) ≡ frames_of s.taken = ap frames_of came_here ∙ still.1 ∙ push.frames in
        ends_told old now first state s.events (Bad at) (led_so first state (frames_of s.taken) s.led) s.did s.waits
        (subst (λ (fs : List Raw). AreReplies t first fs (said_in s.events)) (sym same) s.told, inl (ap why_no_frame came_here ∙ still.0))

    -- a push ended a frame
    module _ (new : StreamParts) (m : _) (stands : StreamStands new here) (push : IsPush s.taken rest n (pushed.Frame m)) where
      abbrev f : Raw
      f = push.frames.0

      -- what is handed of it
      pub handed_here : RawIsFrame → FramesAreTheFile → (now_kept : List ℕ) → now_kept ≡ take frames.size (kept ++ take n rest) → frames.size ≡ 5 + t.longest state
          → ok_of (raw_of 0 now_kept) ≡ if_within (t.longest state) f
      handed_here is are_file now_kept e fit =
          ap (λ (b : List ℕ). ok_of (raw_of 0 b)) (keeps_here now_kept e)
          ∙ handed is are_file (t.longest state) frames.size fit here (s.under ++ take n rest) (frames_of s.taken) f stands.fits (push.frame.0 tt).1 push.frames.1 parts_here

      -- the reply to it was said
      pub telling_frame : FramesAreTheFile → IsLine l → (next : L) (later : T) (text : List ℕ) → t.led first later (frames_of s.taken ++ f ∷ []) → t.replies first (frames_of s.taken) f text
          → Does l now next (spoken text) → (after : Frames) (now_kept : List ℕ) → after.stream ≡ new → after.start ≡ new.taken → after.count ≡ frames.count + 1 → now_kept ≡ []
          → IsTelling l t old next first later after now_kept (drop n rest)
      telling_frame are_file is next later text led replies did after now_kept stream start count none = record {
        events = s.events ++ spoken text;
        did = does_on l is old now next s.events (spoken text) s.did did;
        waits = waits_on (MayHear t first) [] [] s.events (spoken text) s.waits (waits_spoken (MayHear t first) (heard_in s.events) (said_in s.events) text);
        taken = here;
        came = heard_said s.events text ∙ came_here;
        stands = subst (λ (p : StreamParts). StreamStands p here) (sym stream) stands;
        short = push_short s.taken rest n (pushed.Frame m) push (λ at e. absurd cc);
        told = subst (AreReplies t first (frames_of here)) (sym (said_more s.events text))
            (subst (λ (fs : List Raw). AreReplies t first fs (said_in s.events ++ text)) (sym push.frames.1) (told (frames_of s.taken) f (said_in s.events) text s.told replies));
        led = subst (t.led first later) (sym push.frames.1) led;
        counted = omega (arith, count, s.counted, ap length push.frames.1, length-append (frames_of s.taken) (f ∷ []));
        start = start ∙ stands.count ∙ ap length (sym (are_file here stands.fits (push.frame.0 tt).1).0);
        under = [];
        parts = sym (are_file here stands.fits (push.frame.0 tt).1).0 ∙ sym (append-nil (frames_bytes (frames_of here)));
        keeps = none ∙ sym (take-nil after.size);
      }

      -- the frames of what was heard
      frames_here : FramesStay → (later : List Raw) × (frames_of (heard_in s.events) ≡ frames_of s.taken ++ f ∷ later)
      frames_here stay = frames_on stay s.taken here (heard_in s.events) (drop n rest) f came_here push.frames.1

      -- where the reply to it comes to the end of the talk
      pub told_stop : (A : Type 0) → FramesStay → IsLine l → (next : L) (later : T) (ended : TalkEnd)
          → Replied {L = L} {T = T} {A = A} l t now next first later (frames_of s.taken) f frames.start (Err ended) → HasEnded l t old next first later ended
      told_stop A stay is next later Over r = absurd r
      told_stop A stay is next later Decided r =
          let text : List ℕ = r.0 in
          let all = frames_here stay in
          ends_told old next first later (s.events ++ spoken text) Decided (frames_of s.taken ++ f ∷ [], text, inr (inl r.1)) (does_on l is old now next s.events (spoken text) s.did r.2)
          (waits_on (MayHear t first) [] [] s.events (spoken text) s.waits (waits_spoken (MayHear t first) (heard_in s.events) (said_in s.events) text)) (record {
            frames = frames_of s.taken;
            frame = f;
            later = all.0;
            are = ap frames_of (heard_said s.events text) ∙ all.1;
            before = said_in s.events;
            text = text;
            told = s.told;
            due = r.1;
            all = said_more s.events text;
          })
      told_stop A stay is next later (Bad at) r = absurd r
      told_stop A stay is next later (Unfit place) r =
          let all = frames_here stay in
          let none : s.events ++ [] ≡ s.events = append-nil s.events in
          ends_told old next first later s.events (Unfit place) (frames_of s.taken, [], inr (inr (inr (inl (f, r.1))))) (subst (Does l old next) none (does_on l is old now next s.events [] s.did r.2)) s.waits (record {
            frames = frames_of s.taken;
            frame = f;
            later = all.0;
            are = all.1;
            place = r.0 ∙ s.start;
            told = s.told;
            refused = r.1;
          })
      told_stop A stay is next later ReadFailed r = absurd r
      told_stop A stay is next later WriteFailed r =
          let text : List ℕ = r.0 in
          let part : List ℕ = r.2 in
          let all = frames_here stay in
          let are : frames_of (heard_in (s.events ++ said part ∷ [])) ≡ frames_of s.taken ++ f ∷ all.0 = ap frames_of (heard_part s.events part) ∙ all.1 in
          ends_told old next first later (s.events ++ said part ∷ []) WriteFailed (⊎_elim
          (λ (d : t.led first later (frames_of s.taken ++ f ∷ []) × t.replies first (frames_of s.taken) f text). led_so first later (frames_of s.taken ++ f ∷ []) d.0)
          (λ (d : t.decides first later (frames_of s.taken ++ f ∷ []) text). (frames_of s.taken ++ f ∷ [], text, inr (inl d))) r.1) (does_on l is old now next s.events (said part ∷ []) s.did r.4)
          (waits_on (MayHear t first) [] [] s.events (said part ∷ []) s.waits tt) (record {
            before = said_in s.events;
            text = text;
            part = part;
            due = ⊎_elim
                (λ (d : t.led first later (frames_of s.taken ++ f ∷ []) × t.replies first (frames_of s.taken) f text). reply (frames_of s.taken) all.0 f (said_in s.events) text are s.told d.1)
                (λ (d : t.decides first later (frames_of s.taken ++ f ∷ []) text). verdict (frames_of s.taken) all.0 f (said_in s.events) text are s.told d)
                r.1;
            prefix = r.3;
            all = said_part s.events part;
          })
      told_stop A stay is next later TooLong r = absurd r
      told_stop A stay is next later NoMemory r =
          let all = frames_here stay in
          let none : s.events ++ [] ≡ s.events = append-nil s.events in
          ends_told old next first later s.events NoMemory ([], [], inr (inr (inr (inr r.0)))) (subst (Does l old next) none (does_on l is old now next s.events [] s.did r.1)) s.waits (record {
            frames = frames_of s.taken;
            frame = f;
            later = all.0;
            are = all.1;
            told = s.told;
            takes = r.0;
          })

  -- ---- a talk ends

  -- nothing more was heard: all that is due to what was heard was said
  all_told : (old now : L) (first state : T) (frames : Frames) (kept : List ℕ) → (s : IsTelling l t old now first state frames kept [])
      → (heard_in s.events ≡ s.taken) × AreReplies t first (frames_of (heard_in s.events)) (said_in s.events)
  all_told old now first state frames kept s =
      let came : heard_in s.events ≡ s.taken = s.came ∙ append-nil s.taken in
      (came, subst (λ (b : List ℕ). AreReplies t first (frames_of b) (said_in s.events)) (sym came) s.told)

  -- bytes couldn't be heard
  pub told_failed : (old now : L) (first state : T) (frames : Frames) (kept : List ℕ) → IsTelling l t old now first state frames kept []
      → HasEnded l t old now first state ReadFailed
  told_failed old now first state frames kept s =
      ends_told old now first state s.events ReadFailed (led_so first state (frames_of s.taken) s.led) s.did s.waits (all_told old now first state frames kept s).1

  -- too many bytes came
  pub told_over : FramesStay → (old now : L) (first state : T) (frames : Frames) (kept rest : List ℕ) → IsTelling l t old now first state frames kept rest
      → max_count < frames.stream.taken + length rest → HasEnded l t old now first state TooLong
  told_over stay old now first state frames kept rest s many =
      let more = stay s.taken rest in
      ends_told old now first state s.events TooLong (led_so first state (frames_of s.taken) s.led) s.did s.waits (record {
        many = omega (arith, many, s.stands.count, ap length s.came, length-append s.taken rest);
        frames = frames_of s.taken;
        later = more.0;
        are = ap frames_of s.came ∙ more.1;
        told = s.told;
      })

  -- the bytes end within a frame
  pub told_bad : (old now : L) (first state : T) (frames : Frames) (kept : List ℕ) (at : ℕ) → (s : IsTelling l t old now first state frames kept [])
      → (why_no_frame s.taken ≡ Some (frame.TooLong at)) ⊎ (why_no_frame s.taken ≡ Some (frame.Truncated at)) → IsAtEnd (l.rest now) → HasEnded l t old now first state (Bad at)
  told_bad old now first state frames kept at s end over =
      let all = all_told old now first state frames kept s in
      ends_told old now first state s.events (Bad at) (led_so first state (frames_of s.taken) s.led) s.did s.waits (
        all.1,
        ⊎_elim
            (λ (h : why_no_frame s.taken ≡ Some (frame.TooLong at)). inl (ap why_no_frame all.0 ∙ h))
            (λ (h : why_no_frame s.taken ≡ Some (frame.Truncated at)). inr (ap why_no_frame all.0 ∙ h, over))
            end,
      )

  -- they end behind a whole frame, and the last words were said
  pub told_all : IsLine l → (old now new : L) (first state later : T) (frames : Frames) (kept text : List ℕ)
      → (s : IsTelling l t old now first state frames kept []) → bad_frame s.taken ≡ None → t.ends first later (frames_of s.taken) text → Does l now new (spoken text)
      → IsAtEnd (l.rest new) → HasEnded l t old new first later Over
  told_all is old now new first state later frames kept text s whole ends did over =
      let all = all_told old now first state frames kept s in
      let came : heard_in (s.events ++ spoken text) ≡ s.taken = heard_said s.events text ∙ all.0 in
      ends_told old new first later (s.events ++ spoken text) Over (frames_of s.taken, text, inr (inr (inl ends))) (does_on l is old now new s.events (spoken text) s.did did)
      (waits_on (MayHear t first) [] [] s.events (spoken text) s.waits (waits_spoken (MayHear t first) (heard_in s.events) (said_in s.events) text)) (record {
        before = said_in s.events;
        text = text;
        told = subst (λ (b : List ℕ). AreReplies t first (frames_of b) (said_in s.events)) (sym came) s.told;
        due = subst (λ (b : List ℕ). t.ends first later (frames_of b) text) (sym came) ends;
        all = said_more s.events text;
        whole = ap bad_frame came ∙ whole;
        end = over;
      })

  -- or they weren't said whole
  pub told_last : IsLine l → (old now new : L) (first state later : T) (frames : Frames) (kept text part : List ℕ)
      → (s : IsTelling l t old now first state frames kept []) → bad_frame s.taken ≡ None → t.ends first later (frames_of s.taken) text → IsProperPrefix part text
      → Does l now new (said part ∷ []) → HasEnded l t old new first later WriteFailed
  told_last is old now new first state later frames kept text part s whole ends prefix did =
      let all = all_told old now first state frames kept s in
      let came : heard_in (s.events ++ said part ∷ []) ≡ s.taken = heard_part s.events part ∙ all.0 in
      ends_told old new first later (s.events ++ said part ∷ []) WriteFailed (frames_of s.taken, text, inr (inr (inl ends))) (does_on l is old now new s.events (said part ∷ []) s.did did)
      (waits_on (MayHear t first) [] [] s.events (said part ∷ []) s.waits tt) (record {
        before = said_in s.events;
        text = text;
        part = part;
        due = last (said_in s.events) text (ap bad_frame came ∙ whole)
            (subst (λ (b : List ℕ). AreReplies t first (frames_of b) (said_in s.events)) (sym came) s.told)
            (subst (λ (b : List ℕ). t.ends first later (frames_of b) text) (sym came) ends);
        prefix = prefix;
        all = said_part s.events part;
      })
