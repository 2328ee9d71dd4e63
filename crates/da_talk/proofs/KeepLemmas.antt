-- The bytes that are kept of the frame under way, and the frame that they are.
use Rattle.std.proofs.Common.{◌≡◌, ◌∙◌, ℕ, ◌+◌, ◌<◌, ◌≤◌, Bool, true, false, leb, cond, List, [], ◌∷◌, ◌++◌, length, take, drop, None, Some, Result, Ok, Err, refl, sym, ap, subst, arith, length-append, append-nil, append_assoc, ⊎_elim, leb-true, leb-false}
use Rattle.std.proofs.lemmas.Bool.{cases_lt}
use Rattle.std.proofs.lemmas.List.{length-take, length-take-le, take_all, take-append-le, take-append-drop, append_cancel_left}
use Rattle.std.proofs.lemmas.Grind.{flat_map-append}
use Rattle.std.proofs.Math.Seq.{drop-append_seam}
use Rattle.std.specs.Int.{w32, to_be_bytes}
use Rattle.std.specs.List.{AllByRecursion}
use Rattle.namespace_id.specs.Bytes.{AreBytes}
use Rattle.namespace_id.proofs.StringLemmas.{AreBytes-drop, AreBytes-take}
use Rattle.da_wire.specs.declared.frames.FrameError.{FrameError}
use Rattle.da_wire.specs.Spelling.{frame}
use Rattle.da_wire.specs.Reading.{Raw, raw_of}
use Rattle.da_wire.specs.Frames.{ok_of, frames_of, bad_frame, frames_bytes, IsRaw}
use Rattle.da_wire.specs.Laws.{RawIsFrame, FramesAreTheFile}
use Rattle.da_talk.specs.Handed.{if_within}

-- of what is kept and more bytes as many are kept as of all
pub kept_more : (size : ℕ) (under more : List ℕ) → take size (take size under ++ more) ≡ take size (under ++ more)
kept_more size under more =
    ⊎_elim
    (λ (long : size < length under).
    let full : length (take size under) ≡ size = length-take-le size under (omega (arith, long)) in
    take-append-le size (take size under) more (omega (arith, full)) ∙ take_all size (take size under) (omega (arith, full))
    ∙ sym (take-append-le size under more (omega (arith, long))))
    (λ (short : length under ≤ size). ap (λ (l : List ℕ). take size (l ++ more)) (take_all size under short))
    (cases_lt size (length under))

-- the last of a list of which all are some
last_is : {A : Type 0} (Is : A → Type 0) (xs : List A) (x : A) → AllByRecursion Is (xs ++ x ∷ []) → Is x
last_is Is [] x all = all.0
last_is Is (y ∷ xs) x all = last_is Is xs x all.1

-- the bytes of frames, and of one more
pub frames_more : (frames : List Raw) (f : Raw) → frames_bytes (frames ++ f ∷ []) ≡ frames_bytes frames ++ frame f.kind f.payload
frames_more frames f =
    flat_map-append (λ (raw : Raw). frame raw.kind raw.payload) frames (f ∷ [])
    ∙ ap (λ (l : List ℕ). frames_bytes frames ++ l) (append-nil (frame f.kind f.payload))

-- no frame stands in front of bytes that are cut off within one
no_frame : RawIsFrame → (size : ℕ) (under : List ℕ) (f : Raw) (r : Result Raw FrameError) → AreBytes under → raw_of 0 under ≡ Ok f → size < 5 + length f.payload
    → raw_of 0 (take size under) ≡ r → ok_of r ≡ None
no_frame is size under f (Err e) fits whole long here = refl
no_frame is size under f (Ok g) fits whole long here =
    let front = (is 0 (take size under) g (AreBytes-take size under fits)).0 here in
    let rest : List ℕ = front.1 in
    let parts : under ≡ frame g.kind g.payload ++ (rest ++ drop size under) =
    sym (take-append-drop size under) ∙ ap (λ (l : List ℕ). l ++ drop size under) front.2
    ∙ append_assoc (frame g.kind g.payload) rest (drop size under) in
    let same : raw_of 0 under ≡ Ok g = (is 0 under g fits).1 (front.0, rest ++ drop size under, parts) in
    let one : ◌≡◌ {A = Result Raw FrameError} (Ok f) (Ok g) = sym whole ∙ same in
    let equal : f ≡ g = cc in
    let four : length (to_be_bytes w32 (length g.payload)) ≡ 4 = refl in
    absurd (omega (
      arith,
      ap length front.2,
      length-append (frame g.kind g.payload) rest,
      length-append (to_be_bytes w32 (length g.payload)) g.payload,
      four,
      ap (λ (raw : Raw). length raw.payload) equal,
      length-take size under,
      long,
    ))

-- where bytes of one frame are read, so far as they are kept, it is handed where it is within
handed_by : RawIsFrame → (longest size : ℕ) → size ≡ 5 + longest → (under : List ℕ) (f : Raw) → AreBytes under → IsRaw f → under ≡ frame f.kind f.payload
    → (within : Bool) → leb (length f.payload) longest ≡ within → ok_of (raw_of 0 (take size under)) ≡ cond within (Some f) None
handed_by is longest size fit under f fits raw parts true h =
    let four : length (to_be_bytes w32 (length f.payload)) ≡ 4 = refl in
    let short : length under ≤ size =
    omega (arith, ap length parts, length-append (to_be_bytes w32 (length f.payload)) f.payload, four, leb-true (length f.payload) longest h, fit) in
    ap (λ (l : List ℕ). ok_of (raw_of 0 l)) (take_all size under short)
    ∙ ap (λ (r : Result Raw FrameError). ok_of r) ((is 0 under f fits).1 (raw, [], parts ∙ sym (append-nil (frame f.kind f.payload))))
handed_by is longest size fit under f fits raw parts false h =
    no_frame is size under f (raw_of 0 (take size under)) fits ((is 0 under f fits).1 (raw, [], parts ∙ sym (append-nil (frame f.kind f.payload))))
    (omega (arith, leb-false (length f.payload) longest h, fit)) refl

-- what is handed of the frame that ended: of all bytes those behind the frames before are the frame's
pub handed : RawIsFrame → FramesAreTheFile → (longest size : ℕ) → size ≡ 5 + longest → (bytes under : List ℕ) (before : List Raw) (f : Raw) → AreBytes bytes → bad_frame bytes ≡ None
    → frames_of bytes ≡ before ++ f ∷ [] → bytes ≡ frames_bytes before ++ under → ok_of (raw_of 0 (take size under)) ≡ if_within longest f
handed is are_file longest size fit bytes under before f fits whole e parts =
    let file = are_file bytes fits whole in
    let one : under ≡ frame f.kind f.payload =
    append_cancel_left (frames_bytes before) under (frame f.kind f.payload) (sym parts ∙ sym file.0 ∙ ap frames_bytes e ∙ frames_more before f) in
    let raw : IsRaw f = last_is IsRaw before f (subst (AllByRecursion IsRaw) e file.1) in
    let fits_under : AreBytes under =
    subst AreBytes (ap (drop (length (frames_bytes before))) parts ∙ drop-append_seam (frames_bytes before) under) (AreBytes-drop (length (frames_bytes before)) bytes fits) in
    handed_by is longest size fit under f fits_under raw one (leb (length f.payload) longest) refl
