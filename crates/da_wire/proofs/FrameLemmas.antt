-- What is spelled is read, what is read is spelled, and so each value has one spelling.
use Rattle.std.proofs.Common.{◌≡◌, ◌∙◌, ℕ, ◌+◌, ◌<◌, ◌≤◌, Bool, true, false, ltb, eqb, cond, ◌&&◌, List, [], ◌∷◌, ◌++◌, length, drop, Option, None, Some, Result, Ok, Err, refl, sym, ap, subst, arith, append-nil, append_assoc, le-ltb}
use Rattle.std.specs.Prelude.{slice_index}
use Rattle.std.specs.Int.{w32, to_be_bytes}
use Rattle.std.proofs.lemmas.Bool.Decides.{nat_tests}
use Rattle.std.proofs.lemmas.List.{length-append, nil_from_length, drop_at}
use Rattle.std.proofs.lemmas.Option.{same_Some, some_pair_parts}
use Rattle.namespace_id.specs.Bytes.{AreBytes}
use Rattle.da_wire.specs.declared.frames.Frame.{Frame}
use Rattle.da_wire.specs.declared.frames.FrameError.{FrameError}
use Rattle.da_wire.specs.declared.frames.FrameError.TheVariants.{Truncated, BadKind}
use Rattle.da_wire.specs.Spelling.{frame, spelled, spelling, IsFrame}
use Rattle.frame_payloads.specs.Payloads.{max_payload}
use Rattle.da_wire.specs.Reading.{Raw, raw_of, is_kind, value_at, valued, value_of, tested_raw, tested_frame, frame_of}
use Rattle.da_wire.specs.Frames.{ok_of}
use Rattle.da_wire.specs.Writing.{kind_of, payload_of, has_none, AppendsSpelling, IsReadBack, appended}
use Rattle.da_wire.specs.Laws.{SpelledIsRead, ReadIsSpelled, OneSpelling, IsSpelledFront}
use Rattle.frame_payloads.proofs.Fields.Readers.{if_false}
use Rattle.da_wire.proofs.RawLemmas.{length-frame, raw_again, raw_takes, raw_first}
use Rattle.da_wire.proofs.kinds.Form.{IsWritten, spelling_is}
use Rattle.da_wire.proofs.kinds.Forms.{value_kind, value_takes, value_again}

-- what reading a frame gives: a value and the offset after it, or a refusal
abbrev pub Answer : Type 0
Answer = Result (Frame × ℕ) FrameError

-- ---- the two tests before a frame is read

-- where a frame is answered, all tests were passed
pub tests_held : (none a b : Bool) (empty wrong : FrameError) (read : Result Raw FrameError) (f : Raw)
    → cond none (Err empty) (cond (a && b) read (Err wrong)) ≡ Ok f → (b ≡ true) × (read ≡ Ok f)
tests_held false true true empty wrong read f e = (refl, e)
tests_held none a b empty wrong read f e = absurd cc

-- ---- spelled, then read

-- a frame whose kind passes the test and whose payload is read is read, whatever follows it
tested_frame_read : (test : ℕ → Bool) (at kind : ℕ) (payload rest : List ℕ) (value : Frame) → is_kind kind ≡ true → test kind ≡ true → length payload ≤ max_payload
    → value_at kind payload ≡ Some value → tested_frame test at (frame kind payload ++ rest) ≡ Ok (value, at + length (frame kind payload))
unfolding tested_raw
tested_frame_read test at kind payload rest value kind_is passes few read =
    let some : eqb (length (frame kind payload ++ rest)) 0 ≡ false = grind (arith, nat_tests) in
    rw (some, kind_is, passes, raw_again at kind payload rest few, read, length-frame kind payload) refl

-- a spelling has a byte
pub spelling_some : (value : Frame) (text : List ℕ) → spelling value ≡ Some text → 0 < length text
spelling_some value text e =
    let payload : List ℕ = payload_of value in
    let n = if_false (has_none value) (spelled (kind_of value) payload) text (sym (spelling_is value) ∙ e) in
    let g = if_false (ltb max_payload (length payload)) (Some (frame (kind_of value) payload)) text n.1 in
    subst (λ (l : List ℕ). 0 < length l) (same_Some (frame (kind_of value) payload) text g.1) (omega arith)

-- what was spelled is read where its kind passes the test
pub tested_read : (test : ℕ → Bool) (value : Frame) (text rest : List ℕ) (at : ℕ) → test (kind_of value) ≡ true → IsFrame value → spelling value ≡ Some text
    → tested_frame test at (text ++ rest) ≡ Ok (value, at + length text)
tested_read test value text rest at passes is e =
    let w : IsWritten value text = value_again value text is e in
    let head : w.kind ≡ kind_of value = sym (value_kind w.kind w.payload value w.read) in
    subst (λ (l : List ℕ). tested_frame test at (l ++ rest) ≡ Ok (value, at + length l)) w.text_is
    (tested_frame_read test at w.kind w.payload rest value w.kind_is (ap test head ∙ passes) w.few w.read)

-- what was spelled is read, whatever follows it
pub spelled_is_read : SpelledIsRead
spelled_is_read value text rest at is e = tested_read (λ kind. true) value text rest at refl is e

-- a kind, a length and a payload that were appended one after another are a frame
pub frame_appended : (old first second new : List ℕ) (kind size : ℕ) (payload : List ℕ) → first ≡ old ++ kind ∷ [] → second ≡ first ++ to_be_bytes w32 size
    → new ≡ second ++ payload → size ≡ length payload → new ≡ old ++ frame kind payload
frame_appended old first second new kind size payload one two all len =
    let text : List ℕ = to_be_bytes w32 size in
    let behind : (old ++ kind ∷ []) ++ (text ++ payload) ≡ old ++ (kind ∷ text ++ payload) = append_assoc old (kind ∷ []) (text ++ payload) in
    all ∙ ap (λ (l : List ℕ). l ++ payload) (two ∙ ap (λ (l : List ℕ). l ++ text) one)
    ∙ append_assoc (old ++ kind ∷ []) text payload
    ∙ behind
    ∙ ap (λ (n : ℕ). old ++ (kind ∷ to_be_bytes w32 n ++ payload)) len

-- what was written is read back
pub written_back : (value : Frame) (old new : List ℕ) → IsFrame value → AppendsSpelling value old new → IsReadBack value (appended old new)
written_back value old new is text rest =
    let same : appended old new ≡ text.0 = ap (λ (l : List ℕ). drop (length old) l) text.2 ∙ drop_at old text.0 (length old) refl in
    let all : 0 + length text.0 ≡ length text.0 = omega arith in
    subst (λ (l : List ℕ). frame_of 0 (l ++ rest) ≡ Ok (value, length l)) (sym same)
    (spelled_is_read value text.0 rest 0 is text.1 ∙ ap (λ (n : ℕ). Ok (value, n)) all)

-- ---- read, then spelled

-- the value of a raw frame
pub valued_some : (at : ℕ) (f : Raw) (o : Option Frame) (value : Frame) (next : ℕ) → valued at f o ≡ Ok (value, next) → (o ≡ Some value) × (at + f.size ≡ next)
valued_some at f None value next e = absurd cc
valued_some at f (Some v) value next e =
    let same = some_pair_parts v value (at + f.size) next (ap (λ (r : Answer). ok_of r) e) in
    (ap (λ (x : Frame). Some x) same.0, same.1)

-- a value that is read is that of a frame of any kind
pub raw_some : (at : ℕ) (r : Result Raw FrameError) (value : Frame) (next : ℕ) → value_of at r ≡ Ok (value, next)
    → (f : Raw) × (r ≡ Ok f) × (value_at f.kind f.payload ≡ Some value) × (at + f.size ≡ next)
raw_some at (Err why) value next e = absurd cc
raw_some at (Ok f) value next e =
    let v = valued_some at f (value_at f.kind f.payload) value next e in
    (f, refl, v.0, v.1)

-- what is read is spelled so, and its kind passes the test
pub tested_spelled : (test : ℕ → Bool) (value : Frame) (at next : ℕ) (bytes : List ℕ) → AreBytes bytes → tested_frame test at bytes ≡ Ok (value, next)
    → IsSpelledFront value at next bytes × (test (kind_of value) ≡ true)
unfolding tested_raw
tested_spelled test value at next bytes fits e =
    let kind : ℕ = slice_index bytes 0 in
    let r = raw_some at (tested_raw test at bytes) value next e in
    let f : Raw = r.0 in
    let h = tests_held (eqb (length bytes) 0) (is_kind kind) (test kind) (Truncated at) (BadKind at) (raw_of at bytes) f r.1 in
    let t = raw_takes at bytes f fits h.1 in
    let v = value_takes f.kind f.payload value t.payload_fits r.2 in
    let text : List ℕ = frame f.kind f.payload in
    let within : ltb max_payload (length f.payload) ≡ false = le-ltb _ _ t.is.payload in
    let is : spelling value ≡ Some text = v.1 ∙ ap (λ (b : Bool). cond b None (Some text)) within in
    let first : kind ≡ kind_of value = raw_first at bytes f h.1 ∙ sym (value_kind f.kind f.payload value r.2) in (
      record {
        text = text;
        rest = t.rest;
        value_is = v.0;
        spelled = is;
        parts = t.parts;
        end = sym r.3 ∙ ap (λ (n : ℕ). at + n) (t.is.size ∙ sym (length-frame f.kind f.payload));
      },
      ap test (sym first) ∙ h.0,
    )

-- what is read is spelled so at the front of the bytes
pub read_is_spelled : ReadIsSpelled
read_is_spelled value at next bytes fits e = (tested_spelled (λ kind. true) value at next bytes fits e).0

-- ---- one spelling

-- no spelling is a proper prefix of another, and two values have two spellings
pub one_spelling : OneSpelling
one_spelling value other text more is other_is e other_e =
    let short : frame_of 0 (text ++ more) ≡ Ok (value, 0 + length text) = spelled_is_read value text more 0 is e in
    let long : frame_of 0 ((text ++ more) ++ []) ≡ Ok (other, 0 + length (text ++ more)) = spelled_is_read other (text ++ more) [] 0 other_is other_e in
    let same : ◌≡◌ {A = Answer} (Ok (value, 0 + length text)) (Ok (other, 0 + length (text ++ more))) =
    sym short ∙ ap (λ (l : List ℕ). frame_of 0 l) (sym (append-nil (text ++ more))) ∙ long in
    let parts = some_pair_parts value other (0 + length text) (0 + length (text ++ more)) (ap (λ (r : Answer). ok_of r) same) in
    let none : length more ≡ 0 = omega (arith, parts.1, length-append text more) in
    (nil_from_length more none, parts.0)
