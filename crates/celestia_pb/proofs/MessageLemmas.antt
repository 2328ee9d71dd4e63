-- Numbers, and messages in messages, written and read.
use Rattle.std.proofs.Common.{◌≡◌, ◌∙◌, ℕ, zero, suc, ◌+◌, ◌*◌, ◌^◌, ◌<◌, ◌≤◌, Bool, true, false, cond, eqb, List, ◌++◌, length, Option, Some, None, Result, Ok, Err, refl, sym, ap, subst, arith, length-append}
use Rattle.std.proofs.lemmas.Option.{same_Some, none-some}
use Rattle.namespace_id.specs.Bytes.{AreBytes}
use Rattle.proto_fields.specs.Varints.{varint}
use Rattle.proto_fields.specs.Spelled.{text, bytes_field}
use Rattle.proto_fields.specs.Canonical.{number_text, begins, begins_part, canonical_number, canonical_part}
use Rattle.proto_fields.proofs.Varint.Bytes.{length-varint}
use Rattle.proto_fields.proofs.CanonicalVarints.{front_fits, behind_fits}
use Rattle.proto_fields.proofs.CanonicalLemmas.{number_field-is, number_text-some, number_is_read, read_is_number, part_read_back, read_is_part_field}
use Rattle.celestia_pb.specs.Reading.{or_left}
use Rattle.celestia_pb.specs.Messages.{passing, number_left, before_rest, inside, optional_message}
use Rattle.celestia_pb.proofs.Steps.{same_ok, cond_ok}
use Rattle.celestia_pb.proofs.Fronts.{begins_own}
use Rattle.celestia_pb.proofs.DigestLemmas.{field_fits}

-- ---- how long

-- what follows a number is no longer
pub number_shorter : (n value : ℕ) (bytes rest : List ℕ) → n < 16 → AreBytes bytes → canonical_number n bytes ≡ Some (value, rest) → length rest ≤ length bytes
number_shorter n value bytes rest few fits e =
    let h = read_is_number n value bytes rest few fits e in
    omega (arith, ap length h.1, length-append (number_text n value) rest)

-- bytes and what follows them are no longer
pub part_shorter : (n : ℕ) (bytes part rest : List ℕ) → n < 16 → AreBytes bytes → canonical_part n bytes ≡ Some (part, rest)
    → length part + length rest ≤ length bytes
part_shorter n bytes part rest few fits e =
    let h = read_is_part_field n bytes part rest few fits e in
    omega (arith, ap length h.1, length-append (bytes_field n part) rest, length-append (varint (8 * n + 2)) (text part), length-append (varint (length part)) part)

-- a field of bytes has few bytes besides
pub field_few : (n : ℕ) (part : List ℕ) → length (bytes_field n part) ≤ length part + 20
field_few n part =
    omega (arith, length-append (varint (8 * n + 2)) (text part), length-append (varint (length part)) part, length-varint (8 * n + 2), length-varint (length part))

-- a number has few bytes
pub number_few : (n value : ℕ) → length (number_text n value) ≤ 20
number_few n zero = omega arith
number_few n (suc value) =
    omega (arith, ap length (number_text-some n (suc value) (omega arith)), length-append (varint (8 * n)) (varint (suc value)), length-varint (8 * n), length-varint (suc value))

-- ---- numbers

-- none of another tag is in front of a number
pub begins_number : (tag n value : ℕ) (rest : List ℕ) → n < 16 → eqb (8 * n) tag ≡ false → begins tag rest ≡ false → begins tag (number_text n value ++ rest) ≡ false
begins_number tag n zero rest few other none = none
begins_number tag n (suc value) rest few other none =
    ap (λ (l : List ℕ). begins tag (l ++ rest)) (number_text-some n (suc value) (omega arith) ∙ number_field-is n (suc value) few) ∙ other

-- a number that passes is read back, where no other field of its tag follows
pub number_left_is_read : (test : ℕ → Bool) (n value : ℕ) (rest : List ℕ) → test value ≡ true → n < 16 → value < 2 ^ 64 → begins (8 * n) rest ≡ false
    → number_left test n (number_text n value ++ rest) ≡ Ok (value, rest)
number_left_is_read test n value rest passes few lt none =
    let bytes : List ℕ = number_text n value ++ rest in
    ap (λ (o : Option (ℕ × List ℕ)). passing test bytes (or_left bytes o)) (number_is_read n value rest few lt none)
    ∙ ap (λ (b : Bool). cond b (Ok (value, rest)) (Err (length bytes))) passes

-- what is read as a number
pub record IsNumberRead (n : ℕ) (bytes : List ℕ) (value : ℕ) (rest : List ℕ) : Type 0 where
  pub few : value < 2 ^ 64
  pub parts : bytes ≡ number_text n value ++ rest
  pub fits : AreBytes rest

-- of what was read of bytes
number_parts : (test : ℕ → Bool) (n : ℕ) (bytes : List ℕ) (o : Option (ℕ × List ℕ)) (x : ℕ × List ℕ) → n < 16 → AreBytes bytes → canonical_number n bytes ≡ o
    → passing test bytes (or_left bytes o) ≡ Ok x → IsNumberRead n bytes x.0 x.1
number_parts test n bytes None x few fits is e = absurd cc
number_parts test n bytes (Some read) x few fits is e =
    let same : read ≡ x = (cond_ok (test read.0) read x (length bytes) e).1 in
    let h = read_is_number n x.0 bytes x.1 few fits (is ∙ ap (λ (p : ℕ × List ℕ). Some p) same) in
    record { few = h.0; parts = h.1; fits = behind_fits (number_text n x.0) x.1 (subst (λ (l : List ℕ). AreBytes l) h.1 fits) }

-- what is read as a number was written so
pub number_left_back : (test : ℕ → Bool) (n : ℕ) (bytes : List ℕ) (x : ℕ × List ℕ) → n < 16 → AreBytes bytes → number_left test n bytes ≡ Ok x → IsNumberRead n bytes x.0 x.1
number_left_back test n bytes x few fits e = number_parts test n bytes (canonical_number n bytes) x few fits refl e

-- and passes the test
passed : (test : ℕ → Bool) (bytes : List ℕ) (o : Option (ℕ × List ℕ)) (x : ℕ × List ℕ) → passing test bytes (or_left bytes o) ≡ Ok x → test x.0 ≡ true
passed test bytes None x e = absurd cc
passed test bytes (Some read) x e =
    let both = cond_ok (test read.0) read x (length bytes) e in
    subst (λ (y : ℕ × List ℕ). test y.0 ≡ true) both.1 both.0

pub number_left_passes : (test : ℕ → Bool) (n : ℕ) (bytes : List ℕ) (x : ℕ × List ℕ) → number_left test n bytes ≡ Ok x → test x.0 ≡ true
number_left_passes test n bytes x e = passed test bytes (canonical_number n bytes) x e

-- ---- messages

-- nothing isn't something
none_is_some : {A : Type 0} {x : A} → ◌≡◌ {A = Option A} None (Some x) → ⊥
none_is_some {A} {x} e = none-some x e

module _ {A : Type 0} (one : List ℕ → List ℕ → Result A ℕ) (n : ℕ) where
  -- behind a test whether it is there
  abbrev if_there : List ℕ → Bool → Result (Option A × List ℕ) ℕ
  if_there bytes b = cond b (inside one (or_left bytes (canonical_part n bytes))) (Ok (None, bytes))

  -- it isn't there
  pub message_none : (bytes : List ℕ) → begins_part n bytes ≡ false → optional_message one n bytes ≡ Ok (None, bytes)
  message_none bytes none = ap (if_there bytes) none

  -- its length is wrong
  pub message_wrong : (bytes : List ℕ) → begins_part n bytes ≡ true → canonical_part n bytes ≡ None → optional_message one n bytes ≡ Err (length bytes)
  message_wrong bytes there e = ap (if_there bytes) there ∙ ap (λ (o : Option (List ℕ × List ℕ)). inside one (or_left bytes o)) e

  -- it is there
  pub message_some : (bytes part rest : List ℕ) → begins_part n bytes ≡ true → canonical_part n bytes ≡ Some (part, rest)
      → optional_message one n bytes ≡ before_rest rest (one rest part)
  message_some bytes part rest there e = ap (if_there bytes) there ∙ ap (λ (o : Option (List ℕ × List ℕ)). inside one (or_left bytes o)) e

  -- it is read back, whatever follows
  pub message_is_read : (part rest : List ℕ) (value : A) → n < 16 → length part < 2 ^ 64 → one rest part ≡ Ok value
      → optional_message one n (bytes_field n part ++ rest) ≡ Ok (Some value, rest)
  message_is_read part rest value few lt e =
      message_some (bytes_field n part ++ rest) part rest (begins_own n part rest few) (part_read_back n part rest few lt) ∙ ap (before_rest rest) e

  -- what is read as a message
  pub record IsMessageRead (bytes : List ℕ) (value : A) (rest : List ℕ) : Type 0 where
    pub part : List ℕ
    pub read : one rest part ≡ Ok value
    pub parts : bytes ≡ bytes_field n part ++ rest
    pub part_fits : AreBytes part
    pub fits : AreBytes rest

  -- its message was read
  rest_parts : (bytes part after : List ℕ) (value : A) (rest : List ℕ) (r : Result A ℕ) → n < 16 → AreBytes bytes → canonical_part n bytes ≡ Some (part, after)
      → one after part ≡ r → before_rest after r ≡ Ok (Some value, rest) → IsMessageRead bytes value rest
  rest_parts bytes part after value rest (Err left) few fits is read e = absurd cc
  rest_parts bytes part after value rest (Ok found) few fits is read e =
      let same : ◌≡◌ {A = Option A × List ℕ} (Some found, after) (Some value, rest) = same_ok (Some found, after) (Some value, rest) e in
      let first : found ≡ value = same_Some found value (ap (λ (p : Option A × List ℕ). p.0) same) in
      let back : after ≡ rest = ap (λ (p : Option A × List ℕ). p.1) same in
      let h = read_is_part_field n bytes part after few fits is in
      let all : AreBytes (bytes_field n part ++ after) = subst (λ (l : List ℕ). AreBytes l) h.1 fits in
      record {
        part = part;
        read = subst (λ (l : List ℕ). one l part ≡ Ok value) back (read ∙ ap (λ (v : A). Ok v) first);
        parts = h.1 ∙ ap (λ (l : List ℕ). bytes_field n part ++ l) back;
        part_fits = field_fits n part (front_fits (bytes_field n part) after all);
        fits = subst (λ (l : List ℕ). AreBytes l) back (behind_fits (bytes_field n part) after all);
      }

  -- its length was read
  inside_parts : (bytes : List ℕ) (value : A) (rest : List ℕ) (o : Option (List ℕ × List ℕ)) → n < 16 → AreBytes bytes → canonical_part n bytes ≡ o
      → inside one (or_left bytes o) ≡ Ok (Some value, rest) → IsMessageRead bytes value rest
  inside_parts bytes value rest None few fits is e = absurd cc
  inside_parts bytes value rest (Some x) few fits is e = rest_parts bytes x.0 x.1 value rest (one x.1 x.0) few fits is refl e

  -- it was there
  there_parts : (bytes : List ℕ) (value : A) (rest : List ℕ) (b : Bool) → n < 16 → AreBytes bytes → if_there bytes b ≡ Ok (Some value, rest) → IsMessageRead bytes value rest
  there_parts bytes value rest false few fits e = absurd (none_is_some (ap (λ (p : Option A × List ℕ). p.0) (same_ok (None, bytes) (Some value, rest) e)))
  there_parts bytes value rest true few fits e = inside_parts bytes value rest (canonical_part n bytes) few fits refl e

  -- what is read as a message was written so
  pub message_back : (bytes : List ℕ) (value : A) (rest : List ℕ) → n < 16 → AreBytes bytes → optional_message one n bytes ≡ Ok (Some value, rest) → IsMessageRead bytes value rest
  message_back bytes value rest few fits e = there_parts bytes value rest (begins_part n bytes) few fits e

  -- a message that was read isn't none
  none_before : (after rest : List ℕ) (r : Result A ℕ) → before_rest after r ≡ Ok (None, rest) → ⊥
  none_before after rest (Ok value) e = none_is_some (sym (ap (λ (p : Option A × List ℕ). p.0) (same_ok (Some value, after) (None, rest) e)))
  none_before after rest (Err left) e = absurd cc

  none_inside : (rest : List ℕ) (r : Result (List ℕ × List ℕ) ℕ) → inside one r ≡ Ok (None, rest) → ⊥
  none_inside rest (Ok read) e = none_before read.1 rest (one read.1 read.0) e
  none_inside rest (Err left) e = absurd cc

  none_there : (bytes rest : List ℕ) (b : Bool) → if_there bytes b ≡ Ok (None, rest) → rest ≡ bytes
  none_there bytes rest false e = sym (ap (λ (p : Option A × List ℕ). p.1) (same_ok (None, bytes) (None, rest) e))
  none_there bytes rest true e = absurd (none_inside rest (or_left bytes (canonical_part n bytes)) e)

  -- where none is read all is left
  pub message_absent : (bytes rest : List ℕ) → optional_message one n bytes ≡ Ok (None, rest) → rest ≡ bytes
  message_absent bytes rest e = none_there bytes rest (begins_part n bytes) e
