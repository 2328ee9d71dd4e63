-- The laws of a kind of frames: what is read of a payload is what the payload spells, and what is spelled is read.
use Rattle.std.proofs.Common.{◌≡◌, ◌∙◌, ℕ, ◌≤◌, Bool, true, false, cond, ltb, List, length, Option, Some, None, refl, sym, ap, subst, ltb-false}
use Rattle.std.specs.Prelude.{◌↔◌, IsSome}
use Rattle.std.specs.Option.{option_map, option_map_or}
use Rattle.std.proofs.lemmas.Option.{same_Some}
use Rattle.namespace_id.specs.Bytes.{AreBytes}
use Rattle.frame_fields.specs.Fields.{◌>>=◌}
use Rattle.frame_payloads.specs.Payloads.{max_payload, written, IsSize}
use Rattle.frame_payloads.specs.kinds.Transactions.{transactions_payload}
use Rattle.frame_payloads.proofs.Fields.Readers.{map_some, if_false}
use Rattle.frame_payloads.proofs.Fields.Lengths.{written_within}
use Rattle.frame_payloads.proofs.Forms.Form.{IsForm}
use Rattle.da_wire.specs.declared.frames.Frame.{Frame}
use Rattle.da_wire.specs.declared.frames.Frame.TheVariants.{Header, Transactions}
use Rattle.da_wire.specs.declared.kinds.Kind.{Kind}
use Rattle.da_wire.specs.Spelling.{kind_byte, transactions_kind, frame, spelled, spelling, IsFrame}
use Rattle.da_wire.specs.Reading.{kind_at, is_kind, value_of_kind, value_at}
use Rattle.da_wire.specs.Writing.{HasSize, has_none, kind_of, payload_of}

-- ---- payloads that are written

-- a payload that is written has a spelling, whatever its kind
pub written_spelled : (kind : ℕ) (unwritten : Bool) (payload : List ℕ) → written unwritten payload ≡ Some payload → cond unwritten None (spelled kind payload) ≡ Some (frame kind payload)
written_spelled kind unwritten payload e = by unwritten (ltb max_payload (length payload)) e
  where
    by : (a b : Bool) → cond a None (cond b None (Some payload)) ≡ Some payload → cond a None (cond b None (Some (frame kind payload))) ≡ Some (frame kind payload)
    by true b e = absurd cc
    by false true e = absurd cc
    by false false e = refl

-- one that isn't has none
unwritten_unspelled : (kind : ℕ) (unwritten : Bool) (payload : List ℕ) → written unwritten payload ≡ None → cond unwritten None (spelled kind payload) ≡ None
unwritten_unspelled kind unwritten payload e = by unwritten (ltb max_payload (length payload)) e
  where
    by : (a b : Bool) → cond a None (cond b None (Some payload)) ≡ None → cond a None (cond b None (Some (frame kind payload))) ≡ None
    by true b e = refl
    by false true e = refl
    by false false e = absurd cc

-- a spelling is a kind and a payload behind one test
pub spelling_is : (value : Frame) → spelling value ≡ cond (has_none value) None (spelled (kind_of value) (payload_of value))
spelling_is (Header h) = refl
spelling_is value = refl

-- the length of the payload that is written is that of the value's spelling
pub value_sized : (value : Frame) (size : Option ℕ) → IsSize (has_none value) (payload_of value) size → HasSize value size
value_sized value None is = spelling_is value ∙ unwritten_unspelled (kind_of value) (has_none value) (payload_of value) is
value_sized value (Some n) is = (is.0, spelling_is value ∙ written_spelled (kind_of value) (has_none value) (payload_of value) is.1)

-- a payload that is written is that of some spelling
pub spelled_when : (value : Frame) → written (has_none value) (payload_of value) ≡ Some (payload_of value) → IsSome (spelling value)
spelled_when value e = subst IsSome (sym (spelling_is value ∙ written_spelled (kind_of value) (has_none value) (payload_of value) e)) refl

-- a payload within the limit is, where its value can be written
pub spelled_within : (value : Frame) → has_none value ≡ false → length (payload_of value) ≤ max_payload → IsSome (spelling value)
spelled_within value can few = spelled_when value (written_within (has_none value) (length (payload_of value)) (payload_of value) can refl few)

-- where there is a spelling behind a test, it isn't held
not_held : (b : Bool) (text : List ℕ) → IsSome (cond b None (Some text)) → b ≡ false
not_held true text some = absurd cc
not_held false text some = refl

-- transactions have a spelling exactly where their payload is within the limit
pub transactions_spelled : (units : List (List ℕ)) → IsSome (spelling (Transactions units)) ↔ (length (transactions_payload units) ≤ max_payload)
transactions_spelled units =
    let payload : List ℕ = transactions_payload units in (
      λ some. ltb-false max_payload (length payload) (not_held (ltb max_payload (length payload)) (frame transactions_kind payload) some),
      λ few. spelled_within (Transactions units) refl few,
    )

-- ---- kinds

-- how a kind reads a payload, by the reader of its values
abbrev pub ReadsBy : {A : Type 0} → Kind → (A → Frame) → (List ℕ → Option A) → Type 0
ReadsBy kind make read = (bytes : List ℕ) → value_of_kind kind bytes ≡ option_map make (read bytes)

-- how its values are spelled, by their payloads; `none` says which have no spelling
abbrev pub SpelledBy : {A : Type 0} → Kind → (A → Frame) → (A → List ℕ) → (A → Bool) → Type 0
SpelledBy {A} kind make payload none = (x : A) → spelling (make x) ≡ cond (none x) None (spelled (kind_byte kind) (payload x))

-- a value whose spelling is a frame of this kind with this payload
abbrev pub Spells : Kind → List ℕ → Frame → Type 0
Spells kind payload value = IsFrame value × (spelling value ≡ spelled (kind_byte kind) payload)

-- a value that is read of a payload is spelled by it
pub form_takes : {A : Type 0} (kind : Kind) (make : A → Frame) (read : List ℕ → Option A) (payload : A → List ℕ) (none : A → Bool) → IsForm (λ x. IsFrame (make x)) read payload none
    → ReadsBy kind make read → SpelledBy kind make payload none → (bytes : List ℕ) (value : Frame) → AreBytes bytes → value_of_kind kind bytes ≡ Some value → Spells kind bytes value
form_takes kind make read payload none form read_is spelled_is bytes value fits e =
    let a = map_some make (read bytes) value (sym (read_is bytes) ∙ e) in
    let t = form.takes bytes a.0 fits a.1 in
    let some : spelling (make a.0) ≡ spelled (kind_byte kind) (payload a.0) =
    spelled_is a.0 ∙ ap (λ (b : Bool). cond b None (spelled (kind_byte kind) (payload a.0))) t.2 in
    subst (λ (v : Frame). Spells kind bytes v) a.2 (t.0, some ∙ ap (λ (l : List ℕ). spelled (kind_byte kind) l) (sym t.1))

-- the frame that a spelling is, whose payload is read as the value
pub record IsWritten (value : Frame) (text : List ℕ) : Type 0 where
  pub kind : ℕ
  pub payload : List ℕ
  pub kind_is : is_kind kind ≡ true
  pub few : length payload ≤ max_payload
  pub read : value_at kind payload ≡ Some value
  pub text_is : frame kind payload ≡ text

-- the payload of a value that has a spelling is read as the value
pub form_written : {A : Type 0} (kind : Kind) (make : A → Frame) (read : List ℕ → Option A) (payload : A → List ℕ) (none : A → Bool) → IsForm (λ x. IsFrame (make x)) read payload none
    → ReadsBy kind make read → SpelledBy kind make payload none → kind_at (kind_byte kind) ≡ Some kind → (x : A) (text : List ℕ) → IsFrame (make x) → spelling (make x) ≡ Some text → IsWritten (make x) text
unfolding value_at
form_written kind make read payload none form read_is spelled_is there x text is e =
    let byte : ℕ = kind_byte kind in
    let bytes : List ℕ = payload x in
    let n = if_false (none x) (spelled byte bytes) text (sym (spelled_is x) ∙ e) in
    let g = if_false (ltb max_payload (length bytes)) (Some (frame byte bytes)) text n.1 in
    let few : length bytes ≤ max_payload = ltb-false max_payload (length bytes) g.0 in
    let value : value_of_kind kind bytes ≡ Some (make x) = read_is bytes ∙ ap (λ r. option_map make r) (form.again x is n.0 few) in
    record {
      kind = byte;
      payload = bytes;
      kind_is = ap (λ (k : Option Kind). option_map_or (λ kind. true) k false) there;
      few = few;
      read = ap (λ (k : Option Kind). k >>= (λ kind. value_of_kind kind bytes)) there ∙ value;
      text_is = same_Some (frame byte bytes) text g.1;
    }
