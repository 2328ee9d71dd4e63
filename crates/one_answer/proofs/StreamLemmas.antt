-- A stream takes one count of a piece, and answers one thing.
use Rattle.std.proofs.Common.{◌≡◌, ◌∙◌, ◌⊎◌, ℕ, ◌+◌, ◌-◌, ◌<◌, ◌≤◌, List, [], ◌∷◌, ◌++◌, length, take, drop, Option, None, Some, Err, inl, inr, refl, sym, ap, arith, append_assoc, length-append, length-take-le, ⊎_elim}
use Rattle.std.proofs.lemmas.Bool.{cases_lt, cases_eq}
use Rattle.std.proofs.lemmas.List.{take-append-le, drop-append-le, append_cancel_left}
use Rattle.std.proofs.lemmas.Option.{none-some}
use Rattle.std.specs.Option.{option_map}
use Rattle.std.proofs.Math.Seq.{take-add}
use Rattle.namespace_id.specs.Answers.{Gives}
use Rattle.namespace_id.specs.Bytes.{AreBytes}
use Rattle.axis_roots.specs.declared.message.messages.Message.{Message}
use Rattle.da_wire.specs.declared.frames.FrameError.{FrameError}
use Rattle.da_wire.specs.declared.frames.FrameError.TheVariants.{Truncated, BadKind, TooLong, BadPayload, Trailing, NoMemory}
use Rattle.da_wire.specs.declared.streams.Pushed.{Pushed}
use Rattle.da_wire.specs.declared.streams.Pushed.TheVariants as pushed
use Rattle.frame_payloads.specs.Payloads.{max_payload}
use Rattle.da_wire.specs.Reading.{Raw, promised, raw_of}
use Rattle.da_wire.specs.Frames.{frames_of, bad_frame, frames_bytes, raw_message}
use Rattle.da_wire.specs.Streams.{err_of, refusal_at, why_no_frame, IsPush}
use Rattle.da_wire.proofs.RawLemmas.{promised-append, raw_short, raw_long, raw_cut, raw_whole}
use Rattle.da_wire.proofs.FrameListLemmas.{files_are_frames, frames_are_the_file, bad_frame_is_first}
use Rattle.da_wire.proofs.StreamLemmas.{reached_refusal}
use Rattle.da_wire.proofs.CuttingLemmas.{frames_stay}

-- ---- a length above the limit

-- only such a length at the front is refused for it
long_front : (here at : ℕ) (part : List ℕ) → err_of (raw_of here part) ≡ Some (TooLong at)
    → (5 ≤ length part) × (max_payload < promised part) × (here ≡ at)
long_front here at part e =
    ⊎_elim
    (λ (short : length part < 5).
    let both : ◌≡◌ {A = Option FrameError} (Some (Truncated here)) (Some (TooLong at)) = sym (ap err_of (raw_short here part short)) ∙ e in absurd cc)
    (λ (head : 5 ≤ length part).
    ⊎_elim
    (λ (long : max_payload < promised part).
    let both : ◌≡◌ {A = Option FrameError} (Some (TooLong here)) (Some (TooLong at)) = sym (ap err_of (raw_long here part head long)) ∙ e in
    (head, long, cc))
    (λ (few : promised part ≤ max_payload).
    ⊎_elim
    (λ (cut : length part < 5 + promised part).
    let both : ◌≡◌ {A = Option FrameError} (Some (Truncated here)) (Some (TooLong at)) = sym (ap err_of (raw_cut here part head few cut)) ∙ e in absurd cc)
    (λ (whole : 5 + promised part ≤ length part).
    absurd (none-some (TooLong at) (sym (ap err_of (raw_whole here part few whole)) ∙ e)))
    (cases_lt (length part) (5 + promised part)))
    (cases_lt max_payload (promised part)))
    (cases_lt (length part) 5)

-- the first refusal stays, where it is one for a length, by the place at which no frame stands
long_stays_at : (bytes more : List ℕ) (at : ℕ) (place : Option ℕ) → AreBytes bytes → bad_frame bytes ≡ place → refusal_at bytes place ≡ Some (TooLong at)
    → why_no_frame (bytes ++ more) ≡ Some (TooLong at)
long_stays_at bytes more at None fits is e = absurd (none-some (TooLong at) e)
long_stays_at bytes more at (Some here) fits is e =
    let (within, front, raws, why, refused) = bad_frame_is_first bytes here fits is in
    let whole : bad_frame (take here bytes) ≡ None = ap bad_frame (sym front) ∙ (files_are_frames (frames_of bytes) raws).0 in
    let part : List ℕ = drop here bytes in
    let long = long_front here at part e in
    let longer : drop here (bytes ++ more) ≡ part ++ more = drop-append-le here bytes more (omega arith) in
    let kept : raw_of here (drop here (bytes ++ more)) ≡ Err (TooLong here) =
    ap (raw_of here) longer
    ∙ raw_long here (part ++ more) (omega (arith, long.0, length-append part more)) (omega (arith, long.1, promised-append part more long.0)) in
    (reached_refusal here (bytes ++ more) (TooLong here) (omega (arith, within, length-append bytes more))
    (ap bad_frame (take-append-le here bytes more (omega arith)) ∙ whole) kept).refusal
    ∙ ap (λ (n : ℕ). Some (TooLong n)) long.2

-- so it stays whatever bytes follow
long_stays : (bytes more : List ℕ) (at : ℕ) → AreBytes bytes → why_no_frame bytes ≡ Some (TooLong at) → why_no_frame (bytes ++ more) ≡ Some (TooLong at)
long_stays bytes more at fits e = long_stays_at bytes more at (bad_frame bytes) fits refl e

-- ---- two pushes

-- the bytes after a push, beside those after one that takes more
later_bytes : (before piece : List ℕ) (c d : ℕ) → c ≤ d → before ++ take d piece ≡ (before ++ take c piece) ++ take (d - c) (drop c piece)
later_bytes before piece c d few =
    let sum : d ≡ c + (d - c) = omega arith in
    ap (λ (n : ℕ). before ++ take n piece) sum ∙ ap (λ (l : List ℕ). before ++ l) (take-add c (d - c) piece)
    ∙ sym (append_assoc before (take c piece) (take (d - c) (drop c piece)))

-- a refusal for a length is there after one that takes more, too
long_later : (before piece : List ℕ) (c d at : ℕ) → c ≤ d → AreBytes (before ++ take c piece) → why_no_frame (before ++ take c piece) ≡ Some (TooLong at)
    → why_no_frame (before ++ take d piece) ≡ Some (TooLong at)
long_later before piece c d at few fits e =
    ap why_no_frame (later_bytes before piece c d few) ∙ long_stays (before ++ take c piece) (take (d - c) (drop c piece)) at fits e

-- where a push ended a frame, no later one has only the frames before
one_more : (before piece : List ℕ) (c d : ℕ) (f : Raw) → c ≤ d → frames_of (before ++ take c piece) ≡ frames_of before ++ f ∷ []
    → frames_of (before ++ take d piece) ≡ frames_of before → ⊥
one_more before piece c d f few ended none =
    let later = frames_stay (before ++ take c piece) (take (d - c) (drop c piece)) in
    let all : frames_of before ≡ (frames_of before ++ f ∷ []) ++ later.0 =
    sym none ∙ ap frames_of (later_bytes before piece c d few) ∙ later.1 ∙ ap (λ (l : List Raw). l ++ later.0) ended in
    absurd (omega (arith, ap length all, length-append (frames_of before ++ f ∷ []) later.0, length-append (frames_of before) (f ∷ [])))

-- where both ended one, it is one frame, and both took as many bytes
same_frame : (before piece : List ℕ) (c d : ℕ) (f g : Raw) → c ≤ d → d ≤ length piece → AreBytes (before ++ take c piece) → AreBytes (before ++ take d piece)
    → bad_frame (before ++ take c piece) ≡ None → bad_frame (before ++ take d piece) ≡ None
    → frames_of (before ++ take c piece) ≡ frames_of before ++ f ∷ [] → frames_of (before ++ take d piece) ≡ frames_of before ++ g ∷ [] → (c ≡ d) × (f ≡ g)
same_frame before piece c d f g few within fits others whole all ended also =
    let later = frames_stay (before ++ take c piece) (take (d - c) (drop c piece)) in
    let long : frames_of before ++ g ∷ [] ≡ frames_of before ++ (f ∷ later.0) =
    sym also ∙ ap frames_of (later_bytes before piece c d few) ∙ later.1 ∙ ap (λ (l : List Raw). l ++ later.0) ended
    ∙ append_assoc (frames_of before) (f ∷ []) later.0 in
    let one : g ∷ [] ≡ f ∷ later.0 = append_cancel_left (frames_of before) (g ∷ []) (f ∷ later.0) long in
    let same : f ≡ g = cc in
    let bytes : before ++ take c piece ≡ before ++ take d piece =
    sym (frames_are_the_file (before ++ take c piece) fits whole).0
    ∙ ap frames_bytes (ended ∙ ap (λ (r : Raw). frames_of before ++ r ∷ []) same ∙ sym also)
    ∙ (frames_are_the_file (before ++ take d piece) others all).0 in
    (omega (arith, ap length bytes, length-append before (take c piece), length-append before (take d piece), length-take-le c piece (omega arith), length-take-le d piece within), same)

-- whether a refusal is this one for a length
is_long_at : (why : Option FrameError) (at : ℕ) → (why ≡ Some (TooLong at)) ⊎ (why ≡ Some (TooLong at) → ⊥)
is_long_at None at = inr (λ e. none-some (TooLong at) e)
is_long_at (Some (Truncated n)) at = inr (λ e. absurd cc)
is_long_at (Some (BadKind n)) at = inr (λ e. absurd cc)
is_long_at (Some (TooLong n)) at =
    ⊎_elim (λ (same : n ≡ at). inl (ap (λ (m : ℕ). Some (TooLong m)) same)) (λ (other : n ≡ at → ⊥). inr (λ e. other cc)) (cases_eq n at)
is_long_at (Some (BadPayload n)) at = inr (λ e. absurd cc)
is_long_at (Some (Trailing n)) at = inr (λ e. absurd cc)
is_long_at (Some NoMemory) at = inr (λ e. absurd cc)

-- two pushes are one
abbrev Same : ℕ → ℕ → Pushed → Pushed → Type 0
Same c d a b = (c ≡ d) × (a ≡ b)

-- a push that ended no frame and found no bad one took the whole piece, so no other one did
more_frame : (before piece : List ℕ) (c d : ℕ) (m : Option Message) → d ≤ length piece → IsPush before piece c pushed.More → IsPush before piece d (pushed.Frame m) → ⊥
more_frame before piece c d m within p q =
    let all : c ≡ length piece = p.whole refl in
    one_more before piece d c q.frames.0 (omega (arith, all)) q.frames.1 p.frames

more_bad : (before piece : List ℕ) (c d at : ℕ) → d ≤ length piece → AreBytes (before ++ take d piece) → IsPush before piece c pushed.More → IsPush before piece d (pushed.Bad at) → ⊥
more_bad before piece c d at within fits p q =
    let all : c ≡ length piece = p.whole refl in
    let bad : pushed.More ≡ pushed.Bad at = (p.bad at).1 (long_later before piece d c at (omega (arith, all)) fits ((q.bad at).0 refl)) in
    absurd cc

-- no frame ends where one is too long
frame_bad : (before piece : List ℕ) (c d at : ℕ) (m : Option Message) → AreBytes (before ++ take d piece) → IsPush before piece c (pushed.Frame m) → IsPush before piece d (pushed.Bad at) → ⊥
frame_bad before piece c d at m fits p q =
    ⊎_elim
    (λ (less : c < d). one_more before piece c d p.frames.0 (omega arith) p.frames.1 q.frames)
    (λ (more : d ≤ c).
    let bad : pushed.Frame m ≡ pushed.Bad at = (p.bad at).1 (long_later before piece d c at more fits ((q.bad at).0 refl)) in absurd cc)
    (cases_lt c d)

-- both ended a frame
both_frames : (before piece : List ℕ) (c d : ℕ) (m n : Option Message) → c ≤ d → d ≤ length piece → AreBytes (before ++ take c piece) → AreBytes (before ++ take d piece)
    → IsPush before piece c (pushed.Frame m) → IsPush before piece d (pushed.Frame n) → Same c d (pushed.Frame m) (pushed.Frame n)
both_frames before piece c d m n few within fits others p q =
    let one = same_frame before piece c d p.frames.0 q.frames.0 few within fits others (p.frame.0 tt).1 (q.frame.0 tt).1 p.frames.1 q.frames.1 in
    (one.0, ap pushed.Frame (p.frames.2 ∙ ap raw_message one.1 ∙ sym q.frames.2))

-- both found a bad one
both_bad : (before piece : List ℕ) (c d at here : ℕ) → c ≤ d → AreBytes (before ++ take c piece)
    → IsPush before piece c (pushed.Bad at) → IsPush before piece d (pushed.Bad here) → Same c d (pushed.Bad at) (pushed.Bad here)
both_bad before piece c d at here few fits p q =
    let both : ◌≡◌ {A = Option FrameError} (Some (TooLong at)) (Some (TooLong here)) =
    sym (long_later before piece c d at few fits ((p.bad at).0 refl)) ∙ (q.bad here).0 refl in
    let same : at ≡ here = cc in (
      ⊎_elim
          (λ (was : why_no_frame before ≡ Some (TooLong at)).
          p.later at was ∙ sym (q.later here (was ∙ both)))
          (λ (new : why_no_frame before ≡ Some (TooLong at) → ⊥).
          let one : length before + c ≡ at + 5 = p.fifth at refl new in
          let other : length before + d ≡ here + 5 = q.fifth here refl (λ e. new (e ∙ sym both)) in
          omega (arith, one, other, same))
          (is_long_at (why_no_frame before) at),
      ap pushed.Bad same,
    )

-- the other way round
turned : (c d : ℕ) (a b : Pushed) → Same d c b a → Same c d a b
turned c d a b one = (sym one.0, sym one.1)

-- what a push takes of a piece behind the same bytes, and what it answers, is one
pub one_push : (before piece : List ℕ) (c d : ℕ) (a b : Pushed) → c ≤ length piece → d ≤ length piece → AreBytes (before ++ take c piece) → AreBytes (before ++ take d piece)
    → IsPush before piece c a → IsPush before piece d b → Same c d a b
one_push before piece c d pushed.More pushed.More in_c in_d fits others p q = (p.whole refl ∙ sym (q.whole refl), refl)
one_push before piece c d pushed.More (pushed.Frame n) in_c in_d fits others p q = absurd (more_frame before piece c d n in_d p q)
one_push before piece c d pushed.More (pushed.Bad here) in_c in_d fits others p q = absurd (more_bad before piece c d here in_d others p q)
one_push before piece c d (pushed.Frame m) pushed.More in_c in_d fits others p q = absurd (more_frame before piece d c m in_c q p)
one_push before piece c d (pushed.Frame m) (pushed.Frame n) in_c in_d fits others p q =
    ⊎_elim (λ (less : c < d). both_frames before piece c d m n (omega arith) in_d fits others p q)
    (λ (more : d ≤ c). turned c d (pushed.Frame m) (pushed.Frame n) (both_frames before piece d c n m more in_c others fits q p)) (cases_lt c d)
one_push before piece c d (pushed.Frame m) (pushed.Bad here) in_c in_d fits others p q = absurd (frame_bad before piece c d here m others p q)
one_push before piece c d (pushed.Bad at) pushed.More in_c in_d fits others p q = absurd (more_bad before piece d c at in_c fits q p)
one_push before piece c d (pushed.Bad at) (pushed.Frame n) in_c in_d fits others p q = absurd (frame_bad before piece d c at n fits q p)
one_push before piece c d (pushed.Bad at) (pushed.Bad here) in_c in_d fits others p q =
    ⊎_elim (λ (less : c < d). both_bad before piece c d at here (omega arith) fits p q)
    (λ (more : d ≤ c). turned c d (pushed.Bad at) (pushed.Bad here) (both_bad before piece d c here at more others q p)) (cases_lt c d)

-- ---- the frame that a stream tells

-- what gives one value gives it once
pub one_last : {A B : Type 0} (view : A → B) (value : Option B) (r s : Option A) → Gives view r value → Gives view s value → option_map view r ≡ option_map view s
one_last view value None None r_is s_is = refl
one_last view value None (Some b) r_is s_is = absurd (none-some (view b) (sym r_is ∙ s_is))
one_last view value (Some a) None r_is s_is = absurd (none-some (view a) (sym s_is ∙ r_is))
one_last view value (Some a) (Some b) r_is s_is = sym r_is ∙ s_is
