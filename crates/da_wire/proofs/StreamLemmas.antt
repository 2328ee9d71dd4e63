-- A stream stands for the bytes that were taken, and they decide what it answers.
use Rattle.std.proofs.Common.{◌≡◌, ◌∙◌, ℕ, ◌+◌, ◌-◌, ◌<◌, ◌≤◌, true, false, List, [], ◌∷◌, ◌++◌, length, take, drop, Option, None, Some, Ok, Err, refl, sym, ap, arith, length-append, length-drop, length-take-le, append-nil, ⊎_elim}
use Rattle.std.proofs.lemmas.Bool.{cases_lt, cases_Bool, false≢true}
use Rattle.std.proofs.lemmas.List.{take-append-le, drop-append-le, take-append-drop, take_all, drop_all, nil_from_length}
use Rattle.std.proofs.lemmas.Option.{some_pair_parts, none-some}
use Rattle.std.specs.Option.{option_map_or}
use Rattle.namespace_id.specs.Bytes.{AreBytes}
use Rattle.namespace_id.proofs.StringLemmas.{AreBytes-none, AreBytes-append}
use Rattle.frame_fields.specs.Fields.{◌>>=◌}
use Rattle.da_wire.specs.declared.frames.FrameError.{FrameError}
use Rattle.da_wire.specs.declared.frames.FrameError.TheVariants.{Truncated, TooLong}
use Rattle.da_wire.specs.Reading.{Raw, promised, raw_of}
use Rattle.da_wire.specs.Frames.{ok_of, raw_in, frames_of, bad_frame}
use Rattle.da_wire.specs.Walks.{walk_from, stop_from}
use Rattle.da_wire.specs.StreamParts.{StreamParts, kept_front, under_way, is_long, front_frame, IsUnfinished, KeepsFront}
use Rattle.da_wire.specs.Streams.{last_of, if_short, kept_frame, StreamStands, err_of, refusal_at, why_no_frame}
use Rattle.frame_payloads.proofs.Fields.Readers.{map_some}
use Rattle.da_wire.proofs.WalkLemmas.{walk_on, walk_stop, stop_on, stop_here, stop_end}
use Rattle.da_wire.proofs.RawLemmas.{promised-take, raw_short, raw_long, raw_cut, raw_whole, frame_at, raw_of-append, ok_some}
use Rattle.da_wire.proofs.FrameListLemmas.{sized_raw, raw_found, raw_missed}
use Rattle.da_wire.proofs.StreamWalks.{IsSteady, grown}
use Rattle.da_wire.proofs.TakingLemmas.{long_parts, not_long}

-- ---- frames and the bytes after them

-- the frame at the front, and its length
raw_parts : (bytes : List ℕ) (f : Raw) (n : ℕ) → raw_in bytes ≡ Some (f, n) → (raw_of 0 bytes ≡ Ok f) × (n ≡ f.size)
raw_parts bytes f n e =
    let m = map_some sized_raw (ok_of (raw_of 0 bytes)) (f, n) e in
    let same = some_pair_parts m.0 f m.0.size n (ap (λ (x : Raw × ℕ). Some x) m.2) in
    (ok_some (raw_of 0 bytes) f (m.1 ∙ ap (λ (r : Raw). Some r) same.0), sym same.1 ∙ ap (λ (r : Raw). r.size) same.0)

-- a frame of any kind is found within bytes whatever follows
pub steady : IsSteady Raw raw_in
steady = record {
  again = λ bytes more f n e.
      let p = raw_parts bytes f n e in
      raw_found 0 (bytes ++ more) f (raw_of-append 0 bytes more f p.0).0 ∙ ap (λ (k : ℕ). Some (f, k)) (sym p.1);
  within = λ bytes f n e.
      let p = raw_parts bytes f n e in
      let few = raw_of-append 0 bytes [] f p.0 in
      (omega (arith, p.1, few.1), omega (arith, p.1, few.2));
}

-- whole frames, and the bytes after them
pub record IsBehind (at : ℕ) (bytes : List ℕ) : Type 0 where
  pub frames : frames_of bytes ≡ frames_of (take at bytes) ++ frames_of (drop at bytes)
  pub bad : bad_frame bytes ≡ stop_from raw_in 0 at (drop at bytes)

-- behind whole frames the bytes after them decide
pub behind : (at : ℕ) (bytes : List ℕ) → at ≤ length bytes → bad_frame (take at bytes) ≡ None → IsBehind at bytes
behind at bytes h whole =
    let parts : take at bytes ++ drop at bytes ≡ bytes = take-append-drop at bytes in
    let len : 0 + length (take at bytes) ≡ at = omega (arith, length-take-le at bytes h) in
    let more = grown raw_in steady 0 (take at bytes) (drop at bytes) in
    let on = more.whole whole in
    record {
      frames = ap frames_of (sym parts) ∙ more.found ∙ ap (λ (l : List Raw). frames_of (take at bytes) ++ l) on.0;
      bad = ap bad_frame (sym parts) ∙ on.1 ∙ ap (λ (n : ℕ). stop_from raw_in 0 n (drop at bytes)) len;
    }

-- what bytes come to: the frames that there are, the first place at which none stands, and why
pub record IsReached (bytes : List ℕ) (found : List Raw) (stop : Option ℕ) (why : Option FrameError) : Type 0 where
  pub frames : frames_of bytes ≡ found
  pub bad : bad_frame bytes ≡ stop
  pub refusal : why_no_frame bytes ≡ why

-- whole frames alone
pub reached_end : (at : ℕ) (bytes : List ℕ) → at ≡ length bytes → bad_frame (take at bytes) ≡ None → IsReached bytes (frames_of (take at bytes)) None None
reached_end at bytes h whole =
    let all : take at bytes ≡ bytes = take_all at bytes (omega (arith, h)) in
    let none : bad_frame bytes ≡ None = ap bad_frame (sym all) ∙ whole in
    record { frames = ap frames_of (sym all); bad = none; refusal = ap (refusal_at bytes) none }

-- whole frames, and then bytes that are none
pub reached_refusal : (at : ℕ) (bytes : List ℕ) (why : FrameError) → at < length bytes → bad_frame (take at bytes) ≡ None → raw_of at (drop at bytes) ≡ Err why
    → IsReached bytes (frames_of (take at bytes)) (Some at) (Some why)
reached_refusal at bytes why h whole refused =
    let b = behind at bytes (omega (arith, h)) whole in
    let missed : raw_in (drop at bytes) ≡ None = raw_missed at (drop at bytes) why refused in
    let bad : bad_frame bytes ≡ Some at = b.bad ∙ stop_here raw_in at (drop at bytes) missed (omega (arith, h, length-drop at bytes)) in
    record {
      frames = b.frames ∙ ap (λ (l : List Raw). frames_of (take at bytes) ++ l) (walk_stop raw_in (drop at bytes) missed) ∙ append-nil (frames_of (take at bytes));
      bad = bad;
      refusal = ap (refusal_at bytes) bad ∙ ap err_of refused;
    }

-- whole frames, and then one more
pub reached_frame : (at : ℕ) (bytes : List ℕ) (f : Raw) → at ≤ length bytes → bad_frame (take at bytes) ≡ None → raw_of at (drop at bytes) ≡ Ok f → 0 < f.size → at + f.size ≡ length bytes
    → IsReached bytes (frames_of (take at bytes) ++ f ∷ []) None None
unfolding raw_of
reached_frame at bytes f h whole found some size =
    let part : List ℕ = drop at bytes in
    let b = behind at bytes h whole in
    let len : length part ≡ f.size = omega (arith, size, length-drop at bytes) in
    let one : raw_in part ≡ Some (f, f.size) = raw_found at part f found in
    let end : drop f.size part ≡ [] = drop_all f.size part (omega (arith, len)) in
    let bad : bad_frame bytes ≡ None =
    b.bad ∙ stop_on raw_in at part f f.size one some (omega (arith, len, some))
    ∙ stop_end raw_in (at + f.size) (drop f.size part) (omega (arith, length-drop f.size part, len)) in
    record {
      frames = b.frames ∙ ap (λ (l : List Raw). frames_of (take at bytes) ++ l)
          (walk_on raw_in part f f.size one some (omega (arith, len, some)) ∙ ap (λ (l : List ℕ). f ∷ frames_of l) end ∙ ap (λ (l : List Raw). f ∷ l) (walk_stop raw_in [] refl));
      bad = bad;
      refusal = ap (refusal_at bytes) bad;
    }

-- ---- the frame that ended

-- the last of a list with one more is this one
last_of-append : {A : Type 0} (xs : List A) (x : A) → last_of (xs ++ x ∷ []) ≡ Some x
last_of-append [] x = refl
last_of-append {A} (y ∷ xs) x = ap (λ (o : Option A). option_map_or Some o (Some y)) (last_of-append xs x)

-- what is told of the frame that ended, by the first place at which none stands, and by the frames
abbrev told : Option ℕ → List Raw → Option Raw
told bad frames = ◌>>=◌ {A = Raw} (option_map_or (λ at. None) bad (last_of frames)) if_short

-- of whole frames the last is told
pub kept_told : (bytes : List ℕ) (before : List Raw) (frame : Raw) → bad_frame bytes ≡ None → frames_of bytes ≡ before ++ frame ∷ [] → kept_frame bytes ≡ if_short frame
kept_told bytes before frame whole frames =
    ap (λ (bad : Option ℕ). told bad (frames_of bytes)) whole ∙ ap (told None) frames
    ∙ ap (λ (o : Option Raw). o >>= if_short) (last_of-append before frame)

-- none is told where bytes are no whole frames
pub kept_bad : (bytes : List ℕ) (at : ℕ) → bad_frame bytes ≡ Some at → kept_frame bytes ≡ None
kept_bad bytes at bad = ap (λ (o : Option ℕ). told o (frames_of bytes)) bad

-- nor where there are no bytes
pub kept_none : (bytes : List ℕ) → length bytes ≡ 0 → kept_frame bytes ≡ None
unfolding walk_from stop_from
kept_none bytes none = ap kept_frame (nil_from_length bytes none)

-- ---- a stream, and the bytes that it stands for

-- the bytes of the frame under way are as many as the stream counts
pub part_len : (s : StreamParts) (bytes : List ℕ) → StreamStands s bytes → length (drop s.at bytes) ≡ under_way s
part_len s bytes stands = omega (arith, length-drop s.at bytes, stands.count)

-- the head of the frame under way is that in the room
pub part_head : (s : StreamParts) (bytes : List ℕ) → StreamStands s bytes → 5 ≤ under_way s → promised (drop s.at bytes) ≡ promised s.front
part_head s bytes stands h =
    sym (promised-take kept_front (drop s.at bytes) (omega arith)) ∙ ap promised stands.front ∙ promised-take (under_way s) s.front h

-- the offset of the frame under way is within the bytes
pub part_at : (s : StreamParts) (bytes : List ℕ) → s.at ≤ s.taken → StreamStands s bytes → s.at ≤ length bytes
part_at s bytes begun stands = omega (arith, begun, stands.count)

-- what the bytes of a stream come to where a frame is under way that isn't too long
pub reached_part : (s : StreamParts) (bytes : List ℕ) → StreamStands s bytes → s.at < s.taken → is_long s.front (under_way s) ≡ false → under_way s < 5 + promised s.front
    → IsReached bytes (frames_of (take s.at bytes)) (Some s.at) (Some (Truncated s.at))
reached_part s bytes stands some short unfinished =
    let len = part_len s bytes stands in
    reached_refusal s.at bytes (Truncated s.at) (omega (arith, some, stands.count)) stands.whole
    (⊎_elim
    (λ (h : under_way s < 5). raw_short s.at (drop s.at bytes) (omega (arith, len, h)))
    (λ (h : 5 ≤ under_way s).
    let head = part_head s bytes stands h in
    raw_cut s.at (drop s.at bytes) (omega (arith, len, h)) (omega (arith, head, not_long s.front (under_way s) short h)) (omega (arith, len, head, unfinished)))
    (cases_lt (under_way s) 5))

-- what they come to where it is too long
pub reached_long : (s : StreamParts) (bytes : List ℕ) → StreamStands s bytes → is_long s.front (under_way s) ≡ true
    → IsReached bytes (frames_of (take s.at bytes)) (Some s.at) (Some (TooLong s.at))
reached_long s bytes stands long =
    let parts = long_parts s.front (under_way s) long in
    let len = part_len s bytes stands in
    reached_refusal s.at bytes (TooLong s.at) (omega (arith, parts.0, stands.count)) stands.whole
    (raw_long s.at (drop s.at bytes) (omega (arith, len, parts.0)) (omega (arith, part_head s bytes stands parts.0, parts.1)))

-- a stream's frames, and the first place at which none stands, wherever it is
pub record IsSeen (s : StreamParts) (bytes : List ℕ) : Type 0 where
  pub frames : frames_of bytes ≡ frames_of (take s.at bytes)
  pub long : is_long s.front (under_way s) ≡ true → why_no_frame bytes ≡ Some (TooLong s.at)
  pub short : is_long s.front (under_way s) ≡ false → (at : ℕ) → why_no_frame bytes ≡ Some (TooLong at) → ⊥

-- no such refusal is one of length
pub none_not_long : (at : ℕ) (why : Option FrameError) → why ≡ None → why ≡ Some (TooLong at) → ⊥
none_not_long at why e f = absurd (none-some (TooLong at) (sym e ∙ f))

cut_not_long : (here at : ℕ) (why : Option FrameError) → why ≡ Some (Truncated here) → why ≡ Some (TooLong at) → ⊥
cut_not_long here at why e f = let both : ◌≡◌ {A = Option FrameError} (Some (Truncated here)) (Some (TooLong at)) = sym e ∙ f in absurd cc

-- a stream's frames are those before the frame under way
pub seen : (s : StreamParts) (bytes : List ℕ) → s.at ≤ s.taken → IsUnfinished s.front (under_way s) → StreamStands s bytes → IsSeen s bytes
seen s bytes begun unfinished stands =
    ⊎_elim
    (λ (h : is_long s.front (under_way s) ≡ true).
    let r = reached_long s bytes stands h in
    record { frames = r.frames; long = λ e. r.refusal; short = λ e at f. absurd (false≢true (sym e ∙ h)) })
    (λ (h : is_long s.front (under_way s) ≡ false).
    ⊎_elim
    (λ (k : s.at < s.taken).
    let r = reached_part s bytes stands k h (unfinished h) in
    record { frames = r.frames; long = λ e. absurd (false≢true (sym h ∙ e)); short = λ e at f. cut_not_long s.at at (why_no_frame bytes) r.refusal f })
    (λ (k : s.taken ≤ s.at).
    let r = reached_end s.at bytes (omega (arith, k, begun, stands.count)) stands.whole in
    record { frames = r.frames; long = λ e. absurd (false≢true (sym h ∙ e)); short = λ e at f. none_not_long at (why_no_frame bytes) r.refusal f })
    (cases_lt s.at s.taken))
    (cases_Bool (is_long s.front (under_way s)))

-- ---- bytes that are taken

-- a stream that took no more bytes keeps the frame that ended
kept_on : (at taken : ℕ) (front new bytes more : List ℕ) → at ≤ taken → StreamStands (record { at = at; taken = taken; front = front }) bytes → (length more ≡ 0 → new ≡ front)
    → 0 < taken + length more → at ≡ taken + length more → kept_frame (bytes ++ more) ≡ front_frame new
kept_on at taken front new bytes more begun stands same some ended =
    let none : length more ≡ 0 = omega (arith, begun, ended) in
    ap kept_frame (ap (λ (l : List ℕ). bytes ++ l) (nil_from_length more none) ∙ append-nil bytes)
    ∙ stands.kept (omega (arith, some, none)) (omega (arith, ended, none)) ∙ ap front_frame (sym (same none))

-- a stream with more bytes stands for these too
pub stands_on : (at taken : ℕ) (front new bytes more : List ℕ) → at ≤ taken → StreamStands (record { at = at; taken = taken; front = front }) bytes
    → (length more ≡ 0 → new ≡ front) → KeepsFront kept_front front new (taken - at) more → AreBytes more
    → StreamStands (record { at = at; taken = taken + length more; front = new }) (bytes ++ more)
stands_on at taken front new bytes more begun stands same keeps fits =
    let s : StreamParts = record { at = at; taken = taken; front = front } in
    let within : at ≤ length bytes = part_at s bytes begun stands in
    let sum : taken - at + length more ≡ taken + length more - at = omega (arith, begun) in
    record {
      fits = AreBytes-append bytes more stands.fits fits;
      count = omega (arith, stands.count, length-append bytes more);
      whole = ap bad_frame (take-append-le at bytes more within) ∙ stands.whole;
      front = ap (take kept_front) (drop-append-le at bytes more within) ∙ keeps (drop at bytes) (part_len s bytes stands) stands.front
          ∙ ap (λ (n : ℕ). take n new) sum;
      kept = λ some ended. kept_on at taken front new bytes more begun stands same some ended;
    }

-- a new stream stands for no bytes
pub stands_new : (front : List ℕ) → StreamStands (record { at = 0; taken = 0; front = front }) []
unfolding stop_from
stands_new front = record { fits = AreBytes-none; count = refl; whole = refl; front = refl; kept = λ some ended. absurd (omega (arith, some)) }

-- the frame under way, all of it
pub whole_frame : (s : StreamParts) (bytes : List ℕ) → StreamStands s bytes → is_long s.front (under_way s) ≡ false → under_way s ≡ 5 + promised s.front
    → raw_of s.at (drop s.at bytes) ≡ Ok (frame_at (drop s.at bytes))
whole_frame s bytes stands short whole =
    let head = part_head s bytes stands (omega (arith, whole)) in
    raw_whole s.at (drop s.at bytes) (omega (arith, head, not_long s.front (under_way s) short (omega (arith, whole)))) (omega (arith, head, whole, part_len s bytes stands))

-- where the frame under way is whole it is one more frame
pub reached_whole : (s : StreamParts) (bytes : List ℕ) → s.at ≤ s.taken → StreamStands s bytes → is_long s.front (under_way s) ≡ false → under_way s ≡ 5 + promised s.front
    → IsReached bytes (frames_of (take s.at bytes) ++ frame_at (drop s.at bytes) ∷ []) None None
reached_whole s bytes begun stands short whole =
    let head = part_head s bytes stands (omega (arith, whole)) in
    reached_frame s.at bytes (frame_at (drop s.at bytes)) (part_at s bytes begun stands) stands.whole (whole_frame s bytes stands short whole)
    (omega (arith, head)) (omega (arith, head, whole, stands.count, begun))

-- behind it the next begins
pub stands_next : (taken : ℕ) (front bytes : List ℕ) → AreBytes bytes → taken ≡ length bytes → bad_frame bytes ≡ None → kept_frame bytes ≡ front_frame front
    → StreamStands (record { at = taken; taken = taken; front = front }) bytes
stands_next taken front bytes fits count whole kept =
    let all : take taken bytes ≡ bytes = take_all taken bytes (omega (arith, count)) in
    let none : taken - taken ≡ 0 = omega arith in
    record {
      fits = fits;
      count = count;
      whole = ap bad_frame all ∙ whole;
      front = ap (take kept_front) (drop_all taken bytes (omega (arith, count))) ∙ sym (ap (λ (n : ℕ). take n front) none);
      kept = λ some ended. kept;
    }

-- ---- what is told of the frame that ended

-- none is told where one is under way
pub kept_under_way : (s : StreamParts) (bytes : List ℕ) → s.at < s.taken → IsUnfinished s.front (under_way s) → StreamStands s bytes → kept_frame bytes ≡ None
kept_under_way s bytes begun unfinished stands =
    ⊎_elim
    (λ (h : is_long s.front (under_way s) ≡ true). kept_bad bytes s.at (reached_long s bytes stands h).bad)
    (λ (h : is_long s.front (under_way s) ≡ false). kept_bad bytes s.at (reached_part s bytes stands begun h (unfinished h)).bad)
    (cases_Bool (is_long s.front (under_way s)))
