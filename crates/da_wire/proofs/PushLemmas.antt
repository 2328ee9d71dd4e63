-- What a push answers is what the bytes come to that it took.
use Rattle.std.proofs.Common.{◌≡◌, ◌∙◌, ℕ, ◌+◌, ◌-◌, ◌<◌, ◌≤◌, Bool, true, false, eqb, leb, ◌&&◌, cond, List, [], ◌∷◌, ◌++◌, length, take, drop, Option, None, Some, refl, sym, ap, ap₂, subst, arith, length-take-le, length-drop, get_or, ⊎_elim, le-leb}
use Rattle.std.proofs.lemmas.Bool.{cases_lt, cases_Bool, false≢true, lt-leb, and_right}
use Rattle.std.proofs.lemmas.List.{take-append-le, take_all, take-take, drop-take, get_or-take}
use Rattle.std.proofs.lemmas.Option.{none-some}
use Rattle.axis_roots.specs.declared.message.messages.Message.{Message}
use Rattle.namespace_id.specs.Bytes.{AreBytes}
use Rattle.namespace_id.proofs.StringLemmas.{AreBytes-take, AreBytes-drop}
use Rattle.da_wire.specs.declared.frames.FrameError.{FrameError}
use Rattle.da_wire.specs.declared.frames.FrameError.TheVariants.{TooLong}
use Rattle.da_wire.specs.declared.streams.Pushed.TheVariants as pushed
use Rattle.da_wire.specs.Spelling.{message_kind}
use Rattle.da_wire.specs.Reading.{Raw, promised}
use Rattle.da_wire.specs.Frames.{frames_of, raw_message}
use Rattle.frame_fields.specs.Messages.{message_at}
use Rattle.frame_payloads.specs.kinds.Message.{most_message}
use Rattle.da_wire.specs.StreamParts.{StreamParts, kept_front, under_way, is_long, front_message, front_frame, IsStream, KeepsFront, IsTakenPiece}
use Rattle.da_wire.specs.Streams.{if_short, StreamStands, IsPush, why_no_frame}
use Rattle.da_wire.proofs.RawLemmas.{frame_at}
use Rattle.frame_payloads.proofs.MessageLengths.{message_at-long}
use Rattle.da_wire.proofs.StreamLemmas.{IsReached, IsSeen, part_len, part_head, part_at, seen, stands_on, reached_long, reached_part, reached_whole, kept_told, stands_next, none_not_long}

-- ---- the sample of a whole frame

-- a test that both sides make, and one that holds
both_made : {A : Type 0} (a b c : Bool) (x y : Option A) → a ≡ c → b ≡ true → x ≡ y → cond (a && b) x None ≡ cond c y None
both_made true true true x y e f g = g
both_made false true false x y e f g = refl
both_made a b c x y e f g = absurd cc

-- a test that fails, and nothing behind the other
none_made : {A : Type 0} (a b c : Bool) (x y : Option A) → b ≡ false → y ≡ None → cond (a && b) x None ≡ cond c y None
none_made a b true x y f g = ap (λ (t : Bool). cond t x None) (and_right a b f) ∙ sym g
none_made a b false x y f g = ap (λ (t : Bool). cond t x None) (and_right a b f)

-- a frame that the room holds is the first bytes of the room
part_room : (s : StreamParts) (bytes : List ℕ) → StreamStands s bytes → under_way s ≤ kept_front → drop s.at bytes ≡ take (under_way s) s.front
part_room s bytes stands h = sym (take_all kept_front (drop s.at bytes) (omega (arith, part_len s bytes stands, h))) ∙ stands.front

-- the payload of a frame that the room holds
payload_same : (s : StreamParts) (bytes : List ℕ) → StreamStands s bytes → under_way s ≡ 5 + promised s.front → 5 + promised s.front ≤ kept_front
    → take (promised s.front) (drop 5 s.front) ≡ (frame_at (drop s.at bytes)).payload
payload_same s bytes stands whole h =
    let p : ℕ = promised s.front in
    let head : promised (drop s.at bytes) ≡ p = part_head s bytes stands (omega (arith, whole)) in
    let part : drop s.at bytes ≡ take (5 + p) s.front = part_room s bytes stands (omega (arith, whole, h)) ∙ ap (λ (n : ℕ). take n s.front) whole in
    sym (ap (λ (n : ℕ). take n (drop 5 (drop s.at bytes))) head
    ∙ ap (λ (l : List ℕ). take p (drop 5 l)) part
    ∙ ap (take p) (drop-take 5 p s.front)
    ∙ take-take p p (drop 5 s.front) (omega arith))

-- the kind of a frame
kind_same : (s : StreamParts) (bytes : List ℕ) → StreamStands s bytes → 5 ≤ under_way s → get_or s.front 0 0 ≡ get_or (drop s.at bytes) 0 0
kind_same s bytes stands h =
    sym (get_or-take (under_way s) s.front 0 0 (omega (arith, h))) ∙ ap (λ (l : List ℕ). get_or l 0 0) (sym stands.front) ∙ get_or-take kept_front (drop s.at bytes) 0 0 (omega arith)

-- the sample in the room is that of the whole frame
message_same : (s : StreamParts) (bytes : List ℕ) → StreamStands s bytes → under_way s ≡ 5 + promised s.front → front_message s.front ≡ raw_message (frame_at (drop s.at bytes))
message_same s bytes stands whole =
    let raw : Raw = frame_at (drop s.at bytes) in
    let head : promised (drop s.at bytes) ≡ promised s.front = part_head s bytes stands (omega (arith, whole)) in
    let kept : Option Message = message_at (take (promised s.front) (drop 5 s.front)) in
    let kind : eqb (get_or s.front 0 0) message_kind ≡ eqb raw.kind message_kind = ap (λ (n : ℕ). eqb n message_kind) (kind_same s bytes stands (omega (arith, whole))) in
    ⊎_elim
    (λ (h : kept_front < 5 + promised s.front).
    let long : length raw.payload ≡ promised s.front =
    length-take-le (promised (drop s.at bytes)) (drop 5 (drop s.at bytes)) (omega (arith, head, whole, part_len s bytes stands, length-drop 5 (drop s.at bytes))) ∙ head in
    none_made (eqb (get_or s.front 0 0) message_kind) (leb (5 + promised s.front) kept_front) (eqb raw.kind message_kind) kept (message_at raw.payload)
    (lt-leb (5 + promised s.front) kept_front h) (message_at-long raw.payload (AreBytes-take (promised (drop s.at bytes)) (drop 5 (drop s.at bytes)) (AreBytes-drop 5 (drop s.at bytes) (AreBytes-drop s.at bytes stands.fits))) (omega (arith, long, h))))
    (λ (h : 5 + promised s.front ≤ kept_front).
    both_made (eqb (get_or s.front 0 0) message_kind) (leb (5 + promised s.front) kept_front) (eqb raw.kind message_kind) kept (message_at raw.payload)
    kind (le-leb (5 + promised s.front) kept_front h) (ap message_at (payload_same s bytes stands whole h)))
    (cases_lt kept_front (5 + promised s.front))

-- tests that are one
both_tests : {A : Type 0} (a b : Bool) (x y : A) → a ≡ b → x ≡ y → cond a (Some x) None ≡ cond b (Some y) None
both_tests true true x y e f = ap Some f
both_tests false false x y e f = refl
both_tests true false x y e f = absurd cc
both_tests false true x y e f = absurd cc

-- the frame in the room is the whole frame, where it is short
frame_same : (s : StreamParts) (bytes : List ℕ) → StreamStands s bytes → under_way s ≡ 5 + promised s.front → if_short (frame_at (drop s.at bytes)) ≡ front_frame s.front
frame_same s bytes stands whole =
    let raw : Raw = frame_at (drop s.at bytes) in
    let p : ℕ = promised s.front in
    let head : promised (drop s.at bytes) ≡ p = part_head s bytes stands (omega (arith, whole)) in
    let long : length raw.payload ≡ p =
    length-take-le (promised (drop s.at bytes)) (drop 5 (drop s.at bytes)) (omega (arith, head, whole, part_len s bytes stands, length-drop 5 (drop s.at bytes))) ∙ head in
    ⊎_elim
    (λ (h : kept_front < 5 + p).
    ap (λ (b : Bool). cond b (Some raw) None) (lt-leb (length raw.payload) most_message (omega (arith, long, h)))
    ∙ sym (ap (λ (b : Bool). cond b (Some (frame_at s.front)) None) (lt-leb (5 + p) kept_front h)))
    (λ (h : 5 + p ≤ kept_front).
    let same : raw ≡ frame_at s.front =
    ap (λ (n : ℕ). record { kind = get_or (drop s.at bytes) 0 0; payload = raw.payload; size = 5 + n }) head
    ∙ ap₂ (λ (n : ℕ) (l : List ℕ). record { kind = n; payload = l; size = 5 + p }) (sym (kind_same s bytes stands (omega (arith, whole)))) (sym (payload_same s bytes stands whole h)) in
    both_tests (leb (length raw.payload) most_message) (leb (5 + p) kept_front) raw (frame_at s.front)
    (le-leb (length raw.payload) most_message (omega (arith, long, h)) ∙ sym (le-leb (5 + p) kept_front h)) same)
    (cases_lt kept_front (5 + p))

-- ---- a push

module _ (at taken : ℕ) (front new before piece : List ℕ) (count : ℕ) (stream : StreamParts) (same : record { at = at; taken = taken; front = front } ≡ stream)
    (is : IsStream (record { at = at; taken = taken; front = front })) (stands : StreamStands stream before) (counts : IsTakenPiece front new (taken - at) (length piece) count)
    (none : count ≡ 0 → new ≡ front) (keeps : KeepsFront (length front) front new (taken - at) (take count piece)) (fits : AreBytes piece) where
  -- the stream before and after, and the bytes that it took
  abbrev old : StreamParts
  old = record { at = at; taken = taken; front = front }

  abbrev now : StreamParts
  now = record { at = at; taken = taken + count; front = new }

  abbrev bytes : List ℕ
  bytes = before ++ take count piece

  -- what the bytes before came to
  stood : StreamStands old before
  stood = subst (λ (s : StreamParts). StreamStands s before) (sym same) stands

  was : IsSeen old before
  was = seen old before is.begun is.unfinished stood

  -- the stream after a push stands for the bytes that it took too
  pub step_stands : StreamStands now bytes
  step_stands =
      let len : length (take count piece) ≡ count = length-take-le count piece counts.within in
      subst (λ (n : ℕ). StreamStands (record { at = at; taken = taken + n; front = new }) bytes) len
      (stands_on at taken front new before (take count piece) is.begun stood (λ e. none (sym len ∙ e))
      (subst (λ (n : ℕ). KeepsFront n front new (taken - at) (take count piece)) is.room keeps) (AreBytes-take count piece fits))

  -- the frames before the one under way stay
  step_front : frames_of (take at bytes) ≡ frames_of before
  step_front = ap frames_of (take-append-le at before (take count piece) (part_at old before is.begun stood)) ∙ sym was.frames

  -- the bytes of the frame under way after a push
  have : under_way now ≡ taken - at + count
  have = omega (arith, is.begun)

  -- where a push didn't end in a frame that is too long, the frame before it wasn't
  step_short : is_long new (under_way now) ≡ false → is_long front (taken - at) ≡ false
  step_short short =
      ⊎_elim
      (λ (h : is_long front (taken - at) ≡ true). absurd (false≢true (sym short ∙ ap (is_long new) have ∙ (counts.later h).1)))
      (λ (h : is_long front (taken - at) ≡ false). h)
      (cases_Bool (is_long front (taken - at)))

  -- where the frame under way is whole it is one more
  step_whole : is_long new (under_way now) ≡ false → 5 + promised new ≤ under_way now → under_way now ≡ 5 + promised new
  step_whole short enough = omega (arith, have, enough, counts.whole (ap (is_long new) (sym have) ∙ short))

  step_reached : is_long new (under_way now) ≡ false → 5 + promised new ≤ under_way now
      → IsReached bytes (frames_of (take at bytes) ++ frame_at (drop at bytes) ∷ []) None None
  step_reached short enough = reached_whole now bytes (omega (arith, is.begun)) step_stands short (step_whole short enough)

  -- behind it the next begins
  pub step_next : is_long new (under_way now) ≡ false → 5 + promised new ≤ under_way now
      → StreamStands (record { at = taken + count; taken = taken + count; front = new }) bytes
  step_next short enough =
      let r = step_reached short enough in
      stands_next (taken + count) new bytes step_stands.fits step_stands.count r.bad
      (kept_told bytes (frames_of (take at bytes)) (frame_at (drop at bytes)) r.bad r.frames ∙ frame_same now bytes step_stands (step_whole short enough))

  -- a push that ended in a frame that is too long
  pub push_bad : is_long new (under_way now) ≡ true → IsPush before piece count (pushed.Bad at)
  push_bad long =
      let r = reached_long now bytes step_stands long in
      record {
        frame = (λ e. absurd e, λ p. absurd (none-some at (sym p.1 ∙ r.bad)));
        bad = λ here. (
          λ e. let same : at ≡ here = cc in r.refusal ∙ ap (λ (n : ℕ). Some (TooLong n)) same,
          λ e. let both : ◌≡◌ {A = Option FrameError} (Some (TooLong at)) (Some (TooLong here)) = sym r.refusal ∙ e in let same : at ≡ here = cc in ap (λ (n : ℕ). pushed.Bad n) same,
        );
        whole = λ e. absurd cc;
        frames = r.frames ∙ step_front;
        fifth = λ here e fine.
            let same : at ≡ here = cc in
            ⊎_elim
            (λ (h : is_long front (taken - at) ≡ true). absurd (fine (was.long h ∙ ap (λ (n : ℕ). Some (TooLong n)) same)))
            (λ (h : is_long front (taken - at) ≡ false). omega (arith, counts.fifth h (ap (is_long new) (sym have) ∙ long), stood.count, is.begun, same))
            (cases_Bool (is_long front (taken - at)));
        later = λ here e.
            ⊎_elim
            (λ (h : is_long front (taken - at) ≡ true). (counts.later h).0)
            (λ (h : is_long front (taken - at) ≡ false). absurd (was.short h here e))
            (cases_Bool (is_long front (taken - at)));
      }

  -- a push that ended in a frame that isn't whole
  pub push_more : is_long new (under_way now) ≡ false → under_way now < 5 + promised new → IsPush before piece count pushed.More
  push_more short few =
      let come = seen now bytes (omega (arith, is.begun)) (λ e. few) step_stands in
      record {
        frame = (λ e. absurd e, λ p. absurd (none-some at (sym p.1 ∙ (reached_part now bytes step_stands (omega (arith, p.0, is.begun)) short few).bad)));
        bad = λ here. (λ e. absurd cc, λ e. absurd (come.short short here e));
        whole = λ e. counts.more (ap (is_long new) (sym have) ∙ short) (omega (arith, have, few));
        frames = come.frames ∙ step_front;
        fifth = λ here e fine. absurd cc;
        later = λ here e. absurd (was.short (step_short short) here e);
      }

  -- a push that ended a frame
  pub push_frame : is_long new (under_way now) ≡ false → 5 + promised new ≤ under_way now → IsPush before piece count (pushed.Frame (front_message new))
  push_frame short enough =
      let r = step_reached short enough in
      let unended : taken - at < 5 + promised front = is.unfinished (step_short short) in
      let some : 0 < count =
      ⊎_elim
      (λ (h : 0 < count). h)
      (λ (h : count ≤ 0). absurd (omega (arith, h, enough, have, unended, counts.head (omega (arith, h, enough, have)))))
      (cases_lt 0 count) in
      record {
        frame = (λ e. (some, r.bad), λ p. tt);
        bad = λ here. (λ e. absurd cc, λ e. absurd (none_not_long here (why_no_frame bytes) r.refusal e));
        whole = λ e. absurd cc;
        frames = (
          frame_at (drop at bytes),
          r.frames ∙ ap (λ (l : List Raw). l ++ frame_at (drop at bytes) ∷ []) step_front,
          message_same now bytes step_stands (step_whole short enough),
        );
        fifth = λ here e fine. absurd cc;
        later = λ here e. absurd (was.short (step_short short) here e);
      }
