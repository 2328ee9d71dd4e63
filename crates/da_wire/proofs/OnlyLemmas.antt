-- The one frame that all of the bytes are.
use Rattle.std.proofs.Common.{◌≡◌, ◌∙◌, ℕ, ◌+◌, ◌≤◌, Bool, true, false, ltb, cond, List, [], ◌++◌, length, Some, Result, Ok, Err, refl, sym, ap, arith, append-nil, le-ltb, ltb-false}
use Rattle.std.proofs.lemmas.List.{length-append, nil_from_length}
use Rattle.namespace_id.specs.Bytes.{AreBytes}
use Rattle.da_wire.specs.declared.frames.Frame.{Frame}
use Rattle.da_wire.specs.declared.frames.FrameError.{FrameError}
use Rattle.da_wire.specs.declared.frames.FrameError.TheVariants.{Trailing}
use Rattle.da_wire.specs.Spelling.{spelling, IsFrame}
use Rattle.da_wire.specs.Reading.{is_among, tested_raw, tested_frame, ended, only_of}
use Rattle.da_wire.specs.Writing.{kind_of}
use Rattle.da_wire.specs.Laws.{OnlyIsSpelled, IsSpelledFront}
use Rattle.da_wire.proofs.FrameLemmas.{Answer, raw_some, tested_read, tested_spelled}
use Rattle.da_wire.proofs.KindLemmas.{value_among}

-- a value that is answered behind a test passed it
ended_cond : (b : Bool) (why : FrameError) (v value : Frame) → ◌≡◌ {A = Result Frame FrameError} (cond b (Err why) (Ok v)) (Ok value) → (b ≡ false) × (v ≡ value)
ended_cond true why v value e = absurd cc
ended_cond false why v value e = (refl, cc)

-- a value that is answered as all of the bytes ends no earlier than they do
ended_ok : (size : ℕ) (r : Answer) (value : Frame) → ended size r ≡ Ok value → (next : ℕ) × (r ≡ Ok (value, next)) × (size ≤ next)
ended_ok size (Err why) value e = absurd cc
ended_ok size (Ok x) value e =
    let c = ended_cond (ltb x.1 size) (Trailing x.1) x.0 value e in
    (x.1, ap (λ (v : Frame). Ok (v, x.1)) c.1, ltb-false x.1 size c.0)

-- the one frame that bytes are read as is of one of these kinds
pub only_kind : (bytes kinds : List ℕ) (frame : Frame) → only_of bytes kinds ≡ Ok frame → is_among kinds (kind_of frame) ≡ true
only_kind bytes kinds frame e =
    let o = ended_ok (length bytes) (tested_frame (is_among kinds) 0 bytes) frame e in
    let r = raw_some 0 (tested_raw (is_among kinds) 0 bytes) frame o.0 o.1 in
    value_among kinds bytes r.0 frame r.1 r.2

-- nothing follows the spelling of what is read
only_spelled : (value : Frame) (bytes kinds : List ℕ) → AreBytes bytes → only_of bytes kinds ≡ Ok value
    → IsFrame value × (spelling value ≡ Some bytes) × (is_among kinds (kind_of value) ≡ true)
only_spelled value bytes kinds fits e =
    let o = ended_ok (length bytes) (tested_frame (is_among kinds) 0 bytes) value e in
    let t = tested_spelled (is_among kinds) value 0 o.0 bytes fits o.1 in
    let front : IsSpelledFront value 0 o.0 bytes = t.0 in
    let none : length front.rest ≡ 0 = omega (arith, ap length front.parts, length-append front.text front.rest, o.2, front.end) in
    let all : front.text ≡ bytes = sym (append-nil front.text) ∙ ap (λ (l : List ℕ). front.text ++ l) (sym (nil_from_length front.rest none)) ∙ sym front.parts in
    (front.value_is, front.spelled ∙ ap (λ (l : List ℕ). Some l) all, t.1)

-- bytes that spell a value of one of these kinds are read as it
pub spelled_only : (value : Frame) (bytes kinds : List ℕ) → IsFrame value → spelling value ≡ Some bytes → is_among kinds (kind_of value) ≡ true
    → only_of bytes kinds ≡ Ok value
spelled_only value bytes kinds is e wanted =
    let whole : ltb (0 + length bytes) (length bytes) ≡ false = le-ltb _ _ (omega arith) in
    ap (λ (r : Answer). ended (length bytes) r)
    (ap (λ (l : List ℕ). tested_frame (is_among kinds) 0 l) (sym (append-nil bytes)) ∙ tested_read (is_among kinds) value bytes [] 0 wanted is e)
    ∙ ap (λ (b : Bool). cond b (Err (Trailing (0 + length bytes))) (Ok value)) whole

-- bytes are read as one frame exactly where they spell a value of one of these kinds
pub only_is_spelled : OnlyIsSpelled
only_is_spelled value bytes kinds fits =
    (only_spelled value bytes kinds fits, λ p. spelled_only value bytes kinds p.0 p.1 p.2)
