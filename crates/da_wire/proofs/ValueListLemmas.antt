-- A file that is a list of frames in the grammar is the spellings of its values, and spellings one after another
-- are such a file.
use Rattle.std.proofs.Common.{◌≡◌, ◌∙◌, ℕ, ◌+◌, ◌<◌, List, [], ◌++◌, length, drop, Option, None, Some, Result, Ok, Err, refl, sym, ap, subst, arith}
use Rattle.std.specs.Prelude.{IsSome}
use Rattle.std.specs.Option.{option_map, option_map_or}
use Rattle.std.proofs.lemmas.Option.{same_Some, none-some}
use Rattle.namespace_id.specs.Bytes.{AreBytes}
use Rattle.namespace_id.proofs.StringLemmas.{AreBytes-drop}
use Rattle.da_wire.specs.declared.frames.Frame.{Frame}
use Rattle.da_wire.specs.declared.frames.FrameError.{FrameError}
use Rattle.da_wire.specs.Spelling.{spelling}
use Rattle.da_wire.specs.Reading.{Raw, is_among, value_at, valued, value_of, tested_raw, tested_frame}
use Rattle.da_wire.specs.Frames.{ok_of}
use Rattle.da_wire.specs.Values.{value_in, values_of, bad_value, text_of, IsValue}
use Rattle.da_wire.specs.Laws.{ValuesAreTheFile, FilesAreValues, BadValueIsFirst, IsSpelledFront}
use Rattle.da_wire.proofs.RawLemmas.{ok_some}
use Rattle.da_wire.proofs.FrameLemmas.{Answer, spelling_some, tested_read, tested_spelled}
use Rattle.da_wire.proofs.ListedLemmas.{IsFront, IsReader, listed_again, walked, walked_all, walked_some}

-- the text of what has a spelling
text_is : (o : Option (List ℕ)) → IsSome o → o ≡ Some (option_map_or (λ text. text) o [])
text_is None some = absurd cc
text_is (Some text) some = refl

-- a value of one of these kinds that is spelled is read, whatever follows it
value_again : (kinds : List ℕ) (value : Frame) (rest : List ℕ) → IsValue kinds value
    → value_in kinds (text_of value ++ rest) ≡ Some (value, length (text_of value))
value_again kinds value rest is =
    let all : 0 + length (text_of value) ≡ length (text_of value) = omega arith in
    ap (λ (r : Answer). ok_of r) (tested_read (is_among kinds) value (text_of value) rest 0 is.kind is.is (text_is (spelling value) is.spelled))
    ∙ ap (λ (n : ℕ). Some (value, n)) all

-- bytes at whose front such a value is read begin with its spelling
value_front : (kinds : List ℕ) (bytes : List ℕ) (value : Frame) (next : ℕ) → AreBytes bytes → value_in kinds bytes ≡ Some (value, next)
    → IsFront Frame text_of (IsValue kinds) bytes value next
value_front kinds bytes value next fits e =
    let t = tested_spelled (is_among kinds) value 0 next bytes fits (ok_some (tested_frame (is_among kinds) 0 bytes) (value, next) e) in
    let front : IsSpelledFront value 0 next bytes = t.0 in
    let text : front.text ≡ text_of value = sym (ap (λ (o : Option (List ℕ)). option_map_or (λ text. text) o []) front.spelled) in
    record {
      is = record { is = front.value_is; kind = t.1; spelled = subst IsSome (sym front.spelled) refl };
      size = omega (arith, front.end, ap length text);
      rest = front.rest;
      parts = front.parts ∙ ap (λ (l : List ℕ). l ++ front.rest) text;
    }

-- a spelling has a byte
text_some : (kinds : List ℕ) (value : Frame) → IsValue kinds value → 0 < length (text_of value)
text_some kinds value is = spelling_some value (text_of value) (text_is (spelling value) is.spelled)

-- values of these kinds are read one after another
reader : (kinds : List ℕ) → IsReader Frame (value_in kinds) text_of (IsValue kinds)
reader kinds = record { again = value_again kinds; takes = value_front kinds; some = text_some kinds }

-- spellings of such values, one after another, are a file that is a list of them
pub files_are_values : FilesAreValues
files_are_values kinds values all = listed_again (value_in kinds) text_of (IsValue kinds) (reader kinds) 0 values all

-- a file that is a list of such values is their spellings, one after another
pub values_are_the_file : ValuesAreTheFile
values_are_the_file kinds bytes fits e =
    walked_all (value_in kinds) text_of (IsValue kinds) bytes (values_of kinds bytes) (bad_value kinds bytes) (walked (value_in kinds) text_of (IsValue kinds) (reader kinds) bytes fits) e

-- none stands at the front, at no offset
value_none : (kinds : List ℕ) (at : ℕ) (bytes : List ℕ) (r : Answer) → AreBytes bytes → value_in kinds bytes ≡ None → tested_frame (is_among kinds) at bytes ≡ r
    → (e : FrameError) × (tested_frame (is_among kinds) at bytes ≡ Err e)
value_none kinds at bytes (Err e) fits none is = (e, is)
value_none kinds at bytes (Ok x) fits none is =
    let t = tested_spelled (is_among kinds) x.0 at x.1 bytes fits is in
    let front : IsSpelledFront x.0 at x.1 bytes = t.0 in
    let read : tested_frame (is_among kinds) 0 bytes ≡ Ok (x.0, 0 + length front.text) =
    ap (λ (l : List ℕ). tested_frame (is_among kinds) 0 l) front.parts ∙ tested_read (is_among kinds) x.0 front.text front.rest 0 t.1 front.value_is front.spelled in
    let never : None ≡ Some (x.0, 0 + length front.text) = sym none ∙ ap (λ (r : Answer). ok_of r) read in
    absurd (none-some (x.0, 0 + length front.text) never)

-- before the first place at which no such value stands there are such values alone
pub bad_value_is_first : BadValueIsFirst
bad_value_is_first kinds bytes at fits e =
    let s = walked_some (value_in kinds) text_of (IsValue kinds) bytes (values_of kinds bytes) (bad_value kinds bytes) at (walked (value_in kinds) text_of (IsValue kinds) (reader kinds) bytes fits) e in
    let behind : List ℕ = drop at bytes in
    let refused = value_none kinds at behind (tested_frame (is_among kinds) at behind) (AreBytes-drop at bytes fits) s.none refl in
    (s.within, s.front, s.all, refused.0, refused.1)

-- ---- one value, as the code finds it

-- a value that a payload holds, and its length
sized : (f : Raw) (o : Option Frame) → ok_of (valued 0 f o) ≡ option_map (λ (v : Frame). (v, f.size)) o
sized f None = refl
sized f (Some v) = let all : 0 + f.size ≡ f.size = omega arith in ap (λ (n : ℕ). Some (v, n)) all

-- a frame of these kinds, and the value that its payload holds
pub held_front : (kinds bytes : List ℕ) (f : Raw) → tested_raw (is_among kinds) 0 bytes ≡ Ok f
    → value_in kinds bytes ≡ option_map (λ (v : Frame). (v, f.size)) (value_at f.kind f.payload)
held_front kinds bytes f e = ap (λ (r : Result Raw FrameError). ok_of (value_of 0 r)) e ∙ sized f (value_at f.kind f.payload)

-- the value that it holds
pub value_found : (kinds bytes : List ℕ) (f : Raw) (value : Frame) → tested_raw (is_among kinds) 0 bytes ≡ Ok f → value_at f.kind f.payload ≡ Some value
    → value_in kinds bytes ≡ Some (value, f.size)
value_found kinds bytes f value e read = held_front kinds bytes f e ∙ ap (option_map (λ (v : Frame). (v, f.size))) read

-- its payload isn't in the grammar
pub value_missed : (kinds bytes : List ℕ) (f : Raw) → tested_raw (is_among kinds) 0 bytes ≡ Ok f → value_at f.kind f.payload ≡ None → value_in kinds bytes ≡ None
value_missed kinds bytes f e read = held_front kinds bytes f e ∙ ap (option_map (λ (v : Frame). (v, f.size))) read

-- there is no such frame
pub frame_missed : (kinds bytes : List ℕ) (why : FrameError) → tested_raw (is_among kinds) 0 bytes ≡ Err why → value_in kinds bytes ≡ None
frame_missed kinds bytes why e = ap (λ (r : Result Raw FrameError). ok_of (value_of 0 r)) e

-- a length that was found is that of a value
pub size_found : (o : Option (Frame × ℕ)) (n : ℕ) → Some n ≡ option_map (λ x. x.1) o → (value : Frame) × (o ≡ Some (value, n))
size_found None n e = absurd cc
size_found (Some x) n e = (x.0, ap (λ (m : ℕ). Some (x.0, m)) (sym (same_Some n x.1 e)))

-- where no length was found, there is no value
pub size_missed : (o : Option (Frame × ℕ)) → None ≡ option_map (λ (x : Frame × ℕ). x.1) o → o ≡ None
size_missed None e = refl
size_missed (Some x) e = absurd cc
