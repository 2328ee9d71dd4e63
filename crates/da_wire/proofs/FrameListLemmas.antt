-- A file that is a list of frames is these frames, one after another, and frames one after another are such a
-- file.
use Rattle.std.proofs.Common.{◌≡◌, ◌∙◌, ℕ, ◌+◌, ltb, Bool, true, false, cond, List, ◌++◌, length, drop, Option, None, Some, Result, Ok, Err, refl, sym, ap, arith}
use Rattle.std.specs.Option.{option_map}
use Rattle.std.proofs.lemmas.Option.{some_pair_parts, none-some}
use Rattle.namespace_id.specs.Bytes.{AreBytes}
use Rattle.da_wire.specs.declared.frames.FrameError.{FrameError}
use Rattle.da_wire.specs.declared.frames.FrameError.TheVariants.{Truncated, TooLong}
use Rattle.da_wire.specs.Spelling.{frame}
use Rattle.frame_payloads.specs.Payloads.{max_payload}
use Rattle.da_wire.specs.Reading.{Raw, promised, raw_of}
use Rattle.da_wire.specs.Frames.{ok_of, raw_in, frames_of, bad_frame, IsRaw}
use Rattle.da_wire.specs.Laws.{FramesAreTheFile, FilesAreFrames, BadFrameIsFirst, RawIsFrame}
use Rattle.frame_payloads.proofs.Fields.Readers.{map_some}
use Rattle.da_wire.proofs.RawLemmas.{length-frame, raw_again, raw_takes, ok_some}
use Rattle.da_wire.proofs.ListedLemmas.{IsFront, IsReader, listed_again, walked, walked_all, walked_some}

-- ---- one frame

-- the bytes of a frame of any kind
abbrev pub raw_text : Raw → List ℕ
raw_text raw = frame raw.kind raw.payload

-- a frame of any kind is read, whatever follows it
pub raw_read : (at : ℕ) (f : Raw) (rest : List ℕ) → IsRaw f → raw_of at (raw_text f ++ rest) ≡ Ok f
raw_read at f rest is = raw_again at f.kind f.payload rest is.payload ∙ ap (λ (n : ℕ). Ok (record { kind = f.kind; payload = f.payload; size = n })) (sym is.size)

-- a frame of any kind is at the front exactly where the bytes begin with its bytes
pub raw_is_frame : RawIsFrame
raw_is_frame at bytes f fits = (
  λ e. let t = raw_takes at bytes f fits e in (t.is, t.rest, t.parts),
  λ front. ap (λ (l : List ℕ). raw_of at l) front.2 ∙ raw_read at f front.1 front.0,
)

-- ---- frames one after another

-- a frame that was read, and its length
abbrev pub sized_raw : Raw → Raw × ℕ
sized_raw raw = (raw, raw.size)

-- whether a frame stands at the front doesn't depend on its offset
ok_cond : {A E : Type 0} (b : Bool) (e f : E) (x y : Result A E) → ok_of x ≡ ok_of y → ok_of (cond b (Err e) x) ≡ ok_of (cond b (Err f) y)
ok_cond true e f x y h = refl
ok_cond false e f x y h = h

-- whether a frame of any kind stands at the front doesn't depend on the offset
ok_of-raw : (at : ℕ) (bytes : List ℕ) → ok_of (raw_of at bytes) ≡ ok_of (raw_of 0 bytes)
unfolding raw_of
ok_of-raw at bytes =
    ok_cond (ltb (length bytes) 5) (Truncated at) (Truncated 0) _ _
    (ok_cond (ltb max_payload (promised bytes)) (TooLong at) (TooLong 0) _ _
    (ok_cond (ltb (length bytes) (5 + promised bytes)) (Truncated at) (Truncated 0) _ _ refl))

-- a frame that is read at some offset stands at the front
pub raw_found : (at : ℕ) (bytes : List ℕ) (f : Raw) → raw_of at bytes ≡ Ok f → raw_in bytes ≡ Some (f, f.size)
raw_found at bytes f e = ap (λ (o : Option Raw). option_map sized_raw o) (sym (ok_of-raw at bytes) ∙ ap ok_of e)

-- where reading at some offset refuses, no frame stands at the front
pub raw_missed : (at : ℕ) (bytes : List ℕ) (why : FrameError) → raw_of at bytes ≡ Err why → raw_in bytes ≡ None
raw_missed at bytes why e = ap (λ (o : Option Raw). option_map sized_raw o) (sym (ok_of-raw at bytes) ∙ ap ok_of e)

-- the bytes at the front of which a frame stands begin with its bytes
raw_front : (bytes : List ℕ) (f : Raw) (n : ℕ) → AreBytes bytes → raw_in bytes ≡ Some (f, n) → IsFront Raw raw_text IsRaw bytes f n
raw_front bytes f n fits e =
    let m = map_some sized_raw (ok_of (raw_of 0 bytes)) (f, n) e in
    let same = some_pair_parts m.0 f m.0.size n (ap (λ (x : Raw × ℕ). Some x) m.2) in
    let t = raw_takes 0 bytes f fits (ok_some (raw_of 0 bytes) f (m.1 ∙ ap (λ (r : Raw). Some r) same.0)) in
    record {
      is = t.is;
      size = sym same.1 ∙ ap (λ (r : Raw). r.size) same.0 ∙ t.is.size ∙ sym (length-frame f.kind f.payload);
      rest = t.rest;
      parts = t.parts;
    }

-- frames of any kind are read one after another
reader : IsReader Raw raw_in raw_text IsRaw
reader = record {
  again = λ f rest is. ap (λ (r : Result Raw FrameError). option_map sized_raw (ok_of r)) (raw_read 0 f rest is)
      ∙ ap (λ (n : ℕ). Some (f, n)) (is.size ∙ sym (length-frame f.kind f.payload));
  takes = raw_front;
  some = λ f is. omega (arith, length-frame f.kind f.payload);
}

-- frames, one after another, are a file that is a list of them
pub files_are_frames : FilesAreFrames
files_are_frames frames all = listed_again raw_in raw_text IsRaw reader 0 frames all

-- a file that is a list of frames is these frames, one after another
pub frames_are_the_file : FramesAreTheFile
frames_are_the_file bytes fits e = walked_all raw_in raw_text IsRaw bytes (frames_of bytes) (bad_frame bytes) (walked raw_in raw_text IsRaw reader bytes fits) e

-- no frame stands at the front, at no offset
raw_none : (at : ℕ) (bytes : List ℕ) (r : Result Raw FrameError) → raw_in bytes ≡ None → raw_of at bytes ≡ r → (e : FrameError) × (raw_of at bytes ≡ Err e)
raw_none at bytes (Err e) none is = (e, is)
raw_none at bytes (Ok f) none is = absurd (none-some (f, f.size) (sym none ∙ raw_found at bytes f is))

-- before the first place at which no frame stands there are frames alone
pub bad_frame_is_first : BadFrameIsFirst
bad_frame_is_first bytes at fits e =
    let s = walked_some raw_in raw_text IsRaw bytes (frames_of bytes) (bad_frame bytes) at (walked raw_in raw_text IsRaw reader bytes fits) e in
    let behind : List ℕ = drop at bytes in
    let refused = raw_none at behind (raw_of at behind) s.none refl in
    (s.within, s.front, s.all, refused.0, refused.1)
