-- Frames that state a length above the limit.
use Rattle.std.proofs.Common.{◌≡◌, ◌∙◌, ◌⊎◌, ℕ, ◌+◌, ◌<◌, ◌≤◌, Bool, true, false, ltb, cond, List, ◌++◌, length, take, drop, Option, None, Some, Result, Ok, Err, refl, sym, ap, arith, length-append, ⊎_elim, inl, inr, ltb-true, ltb-false}
use Rattle.std.proofs.lemmas.List.{take-append-le, drop-append-le}
use Rattle.std.proofs.lemmas.Option.{none-some}
use Rattle.std.proofs.Math.Seq.{take-append_seam}
use Rattle.namespace_id.specs.Bytes.{AreBytes}
use Rattle.frame_payloads.specs.Payloads.{max_payload}
use Rattle.da_wire.specs.declared.frames.FrameError.{FrameError}
use Rattle.da_wire.specs.declared.frames.FrameError.TheVariants.{Truncated, TooLong}
use Rattle.da_wire.specs.Reading.{promised, raw_of}
use Rattle.da_wire.specs.Frames.{frames_of, bad_frame}
use Rattle.da_wire.specs.Streams.{err_of, refusal_at, why_no_frame, offset_of}
use Rattle.da_wire.specs.Laws.{BadFrameIsFirst, FilesAreFrames}
use Rattle.da_wire.proofs.RawLemmas.{promised-take, raw_long}
use Rattle.da_wire.proofs.StreamLemmas.{reached_refusal}

-- ---- why no frame stands

-- which of three tests refused
three_tests : {A : Type 0} (a b c : Bool) (x y why : FrameError) (w : A) → ◌≡◌ {A = Result A FrameError} (cond a (Err x) (cond b (Err y) (cond c (Err x) (Ok w)))) (Err why)
    → (why ≡ x) ⊎ ((why ≡ y) × (a ≡ false) × (b ≡ true))
three_tests true b c x y why w e = inl cc
three_tests false true c x y why w e = inr (cc, refl, refl)
three_tests false false true x y why w e = inl cc
three_tests false false false x y why w e = absurd cc

-- bytes at the front of which no frame stands are cut short, or state a length above the limit
pub raw_refused : (at : ℕ) (bytes : List ℕ) (why : FrameError) → raw_of at bytes ≡ Err why
    → (why ≡ Truncated at) ⊎ ((why ≡ TooLong at) × (5 ≤ length bytes) × (max_payload < promised bytes))
unfolding raw_of
raw_refused at bytes why e =
    ⊎_elim
    (λ (h : why ≡ Truncated at). inl h)
    (λ (h : (why ≡ TooLong at) × (ltb (length bytes) 5 ≡ false) × (ltb max_payload (promised bytes) ≡ true)).
    inr (h.0, ltb-false (length bytes) 5 h.1, ltb-true max_payload (promised bytes) h.2))
    (three_tests (ltb (length bytes) 5) (ltb max_payload (promised bytes)) (ltb (length bytes) (5 + promised bytes)) (Truncated at) (TooLong at) why _ e)

-- why a reader refused
err_some : {A : Type 0} (r : Result A FrameError) (why : FrameError) → err_of r ≡ Some why → r ≡ Err why
err_some (Ok x) why e = absurd cc
err_some (Err w) why e = cc

-- the place at which no frame stands, and why
refused_at : (bytes : List ℕ) (stop : Option ℕ) (why : FrameError) → bad_frame bytes ≡ stop → refusal_at bytes stop ≡ Some why
    → (at : ℕ) × (bad_frame bytes ≡ Some at) × (raw_of at (drop at bytes) ≡ Err why)
refused_at bytes None why is e = absurd (none-some why e)
refused_at bytes (Some at) why is e = (at, is, err_some (raw_of at (drop at bytes)) why e)

pub refused_of : (bytes : List ℕ) (why : FrameError) → why_no_frame bytes ≡ Some why
    → (at : ℕ) × (bad_frame bytes ≡ Some at) × (raw_of at (drop at bytes) ≡ Err why)
refused_of bytes why e = refused_at bytes (bad_frame bytes) why refl e

-- where bytes are over, the frame under way is too long or cut short
pub ends_bad : (bytes : List ℕ) (why : FrameError) → why_no_frame bytes ≡ Some why
    → (why_no_frame bytes ≡ Some (TooLong (offset_of why))) ⊎ (why_no_frame bytes ≡ Some (Truncated (offset_of why)))
ends_bad bytes why e =
    let found = refused_of bytes why e in
    let at : ℕ = found.0 in
    ⊎_elim
    (λ (h : why ≡ Truncated at). inr (e ∙ ap (λ (w : FrameError). Some w) (h ∙ ap (λ (n : ℕ). Truncated n) (sym (ap offset_of h)))))
    (λ (h : (why ≡ TooLong at) × (5 ≤ length (drop at bytes)) × (max_payload < promised (drop at bytes))).
    inl (e ∙ ap (λ (w : FrameError). Some w) (h.0 ∙ ap (λ (n : ℕ). TooLong n) (sym (ap offset_of h.0)))))
    (raw_refused at (drop at bytes) why found.2)

-- ---- whatever bytes follow

-- what a head states stays
promised_stays : (bytes more : List ℕ) → 5 ≤ length bytes → promised (bytes ++ more) ≡ promised bytes
promised_stays bytes more h = sym (promised-take (length bytes) (bytes ++ more) h) ∙ ap promised (take-append_seam bytes more)

-- a frame that states a length above the limit does so whatever bytes follow, and no frame comes after it
pub long_stays : BadFrameIsFirst → FilesAreFrames → (bytes more : List ℕ) (at : ℕ) → AreBytes bytes → why_no_frame bytes ≡ Some (TooLong at)
    → (why_no_frame (bytes ++ more) ≡ Some (TooLong at)) × (frames_of (bytes ++ more) ≡ frames_of bytes)
long_stays is_first are_frames bytes more at fits e =
    let found = refused_of bytes (TooLong at) e in
    let here : ℕ = found.0 in
    let first = is_first bytes here fits found.1 in
    let within : here < length bytes = first.0 in
    let part : List ℕ = drop here bytes in
    let whole : bad_frame (take here bytes) ≡ None = ap bad_frame (sym first.1) ∙ (are_frames (frames_of bytes) first.2).0 in
    let long : (TooLong at ≡ TooLong here) × (5 ≤ length part) × (max_payload < promised part) =
    ⊎_elim
    (λ (h : TooLong at ≡ Truncated here). absurd cc)
    (λ (h : (TooLong at ≡ TooLong here) × (5 ≤ length part) × (max_payload < promised part)). h)
    (raw_refused here part (TooLong at) found.2) in
    let front : take here (bytes ++ more) ≡ take here bytes = take-append-le here bytes more (omega (arith, within)) in
    let behind : drop here (bytes ++ more) ≡ part ++ more = drop-append-le here bytes more (omega (arith, within)) in
    let still : raw_of here (drop here (bytes ++ more)) ≡ Err (TooLong here) =
    ap (raw_of here) behind ∙ raw_long here (part ++ more) (omega (arith, long.1, length-append part more)) (omega (arith, long.2, promised_stays part more long.1)) in
    let a = reached_refusal here bytes (TooLong at) within whole found.2 in
    let b = reached_refusal here (bytes ++ more) (TooLong here) (omega (arith, within, length-append bytes more)) (ap bad_frame front ∙ whole) still in
    (b.refusal ∙ ap (λ (w : FrameError). Some w) (sym long.0), b.frames ∙ ap frames_of front ∙ sym a.frames)
