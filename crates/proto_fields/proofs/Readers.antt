-- Readers at the front of bytes: what they read doesn't depend on what follows, and they leave no more than there was.
use Rattle.std.proofs.Common.{◌≡◌, ◌∙◌, ℕ, ◌≤◌, ◌<◌, Bool, true, cond, leb, leb-true, le-leb, List, [], ◌∷◌, ◌++◌, length, take, drop, Option, Some, None, option_map, option_and_then, sym, ap, ap₂, arith, append_assoc, length-append, length-drop}
use Rattle.std.proofs.lemmas.Bool.{true≢false}
use Rattle.std.proofs.lemmas.List.{take-append-le, drop-append-le}
use Rattle.std.proofs.lemmas.Option.{cond_some, none-some, same_Some}
use Rattle.proto_fields.specs.declared.tags.Tag.{Tag}
use Rattle.proto_fields.specs.declared.tags.Wire.{Wire}
use Rattle.proto_fields.specs.declared.tags.Wire.TheVariants.{Varint, EightBytes, Delimited, GroupStart, GroupEnd, FourBytes}
use Rattle.proto_fields.specs.Varints.{number_at, is_marked}
use Rattle.proto_fields.specs.Fields.{number_value, bytes_value, other_value, tag_of, tag_at, bytes_at, text_at, value_of_wire}
use Rattle.proto_fields.proofs.Options.{and_then_parts, map_parts}
use Rattle.proto_fields.proofs.Varint.Read.{number_back, number_again, marked-none}

-- a reader at the front of bytes
pub record IsReader {A : Type 0} (read : List ℕ → Option (A × List ℕ)) : Type 0 where
  pub follows : (bytes more : List ℕ) (x : A × List ℕ) → read bytes ≡ Some x → read (bytes ++ more) ≡ Some (x.0, x.1 ++ more)
  pub shorter : (bytes : List ℕ) (x : A × List ℕ) → read bytes ≡ Some x → length x.1 ≤ length bytes

-- one that says only what follows
pub record IsSkipper (skip : List ℕ → Option (List ℕ)) : Type 0 where
  pub follows : (bytes more rest : List ℕ) → skip bytes ≡ Some rest → skip (bytes ++ more) ≡ Some (rest ++ more)
  pub shorter : (bytes rest : List ℕ) → skip bytes ≡ Some rest → length rest ≤ length bytes

-- ---- one after another

-- a second reader goes on where the first one stopped
pub reader_then : {A B : Type 0} (read : List ℕ → Option (A × List ℕ)) (next : A → List ℕ → Option (B × List ℕ)) → IsReader read → ((x : A) → IsReader (next x))
    → IsReader (λ bytes. option_and_then (λ x. next x.0 x.1) (read bytes))
reader_then {A} {B} read next first second =
    let go : A × List ℕ → Option (B × List ℕ) = λ x. next x.0 x.1 in
    record {
      follows = λ bytes more y e.
          let h = and_then_parts go (read bytes) y e in
          ap (option_and_then go) (first.follows bytes more h.0 h.1) ∙ (second h.0.0).follows h.0.1 more y h.2;
      shorter = λ bytes y e.
          let h = and_then_parts go (read bytes) y e in
          omega (arith, first.shorter bytes h.0 h.1, (second h.0.0).shorter h.0.1 y h.2);
    }

-- what was read is seen otherwise
pub reader_map : {A B : Type 0} (read : List ℕ → Option (A × List ℕ)) (see : A → B) → IsReader read
    → IsReader (λ bytes. option_map (λ x. (see x.0, x.1)) (read bytes))
reader_map {A} {B} read see first =
    let go : A × List ℕ → B × List ℕ = λ x. (see x.0, x.1) in
    record {
      follows = λ bytes more y e.
          let h = map_parts go (read bytes) y e in
          ap (option_map go) (first.follows bytes more h.0 h.1)
          ∙ ap (λ (z : B × List ℕ). Some (z.0, z.1 ++ more)) h.2;
      shorter = λ bytes y e.
          let h = map_parts go (read bytes) y e in
          omega (arith, first.shorter bytes h.0 h.1, ap (λ (z : B × List ℕ). length z.1) h.2);
    }

-- a value that is there goes with what follows
pub reader_there : {A : Type 0} (o : Option A) → IsReader (λ bytes. option_map (λ value. (value, bytes)) o)
reader_there {A} None = record { follows = λ bytes more x e. absurd (none-some x e); shorter = λ bytes x e. absurd (none-some x e) }
reader_there {A} (Some value) = record {
  follows = λ bytes more x e. ap (λ (z : A × List ℕ). Some (z.0, z.1 ++ more)) (same_Some (value, bytes) x e);
  shorter = λ bytes x e. omega (arith, ap (λ (z : A × List ℕ). length z.1) (same_Some (value, bytes) x e));
}

-- what follows is told with a value
pub reader_of : {A : Type 0} (value : A) (skip : List ℕ → Option (List ℕ)) → IsSkipper skip
    → IsReader (λ bytes. option_map (λ rest. (value, rest)) (skip bytes))
reader_of {A} value skip first =
    let go : List ℕ → A × List ℕ = λ rest. (value, rest) in
    record {
      follows = λ bytes more y e.
          let h = map_parts go (skip bytes) y e in
          ap (option_map go) (first.follows bytes more h.0 h.1)
          ∙ ap (λ (z : A × List ℕ). Some (z.0, z.1 ++ more)) h.2;
      shorter = λ bytes y e.
          let h = map_parts go (skip bytes) y e in
          omega (arith, first.shorter bytes h.0 h.1, ap (λ (z : A × List ℕ). length z.1) h.2);
    }

-- ---- numbers, tags and bytes

-- a varint has a byte
some_front : (front rest : List ℕ) → is_marked front ≡ true → length rest < length (front ++ rest)
some_front [] rest marked = absurd (true≢false (sym marked ∙ marked-none))
some_front (byte ∷ bytes) rest marked = omega (arith, length-append bytes rest)

-- a number takes a byte
pub number_shorter : (bytes : List ℕ) (x : ℕ × List ℕ) → number_at bytes ≡ Some x → length x.1 < length bytes
number_shorter bytes x e =
    let back = number_back bytes x.1 x.0 e in
    omega (arith, ap length back.1, some_front back.0 x.1 back.2.marked)

-- numbers are read so
pub number_reader : IsReader number_at
number_reader = record {
  follows = λ bytes more x e.
      let back = number_back bytes x.1 x.0 e in
      ap (λ (l : List ℕ). number_at (l ++ more)) back.1
      ∙ ap number_at (append_assoc back.0 x.1 more)
      ∙ number_again back.0 (x.1 ++ more) x.0 back.2;
  shorter = λ bytes x e. omega (arith, number_shorter bytes x e);
}

-- a tag goes with what follows
tag_there : (n : ℕ) → IsReader (λ bytes. option_map (λ tag. (tag, bytes)) (tag_of n))
tag_there n = reader_there (tag_of n)

-- tags are read so
pub tag_reader : IsReader tag_at
tag_reader = reader_then number_at (λ n bytes. option_map (λ tag. (tag, bytes)) (tag_of n)) number_reader tag_there

-- a tag takes a byte
pub tag_shorter : (bytes : List ℕ) (x : Tag × List ℕ) → tag_at bytes ≡ Some x → length x.1 < length bytes
tag_shorter bytes x e =
    let h = and_then_parts (λ (read : ℕ × List ℕ). option_map (λ tag. (tag, read.1)) (tag_of read.0)) (number_at bytes) x e in
    let m = map_parts (λ (tag : Tag). (tag, h.0.1)) (tag_of h.0.0) x h.2 in
    omega (arith, number_shorter bytes h.0 h.1, ap (λ (z : Tag × List ℕ). length z.1) m.2)

-- so many bytes are read so
pub bytes_reader : (count : ℕ) → IsReader (bytes_at count)
bytes_reader count = record {
  follows = λ bytes more x e.
      let h = cond_some (leb count (length bytes)) (take count bytes, drop count bytes) x e in
      let le = leb-true count (length bytes) h.0 in
      let still : count ≤ length (bytes ++ more) = omega (arith, length-append bytes more) in
      ap (λ (b : Bool). cond b (Some (take count (bytes ++ more), drop count (bytes ++ more))) None) (le-leb count (length (bytes ++ more)) still)
      ∙ ap₂ (λ (front back : List ℕ). Some (front, back)) (take-append-le count bytes more le) (drop-append-le count bytes more le)
      ∙ ap (λ (z : List ℕ × List ℕ). Some (z.0, z.1 ++ more)) h.1;
  shorter = λ bytes x e.
      let h = cond_some (leb count (length bytes)) (take count bytes, drop count bytes) x e in
      omega (arith, length-drop count bytes, ap (λ (z : List ℕ × List ℕ). length z.1) h.1);
}

-- and bytes behind their length
pub text_reader : IsReader text_at
text_reader = reader_then number_at bytes_at number_reader bytes_reader

-- ---- values

-- the value of each wire is read so, if what follows a group is told so
pub wire_reader : (group : List ℕ → Option (List ℕ)) → IsSkipper group → (wire : Wire) → IsReader (value_of_wire group wire)
wire_reader group skips Varint = reader_map number_at number_value number_reader
wire_reader group skips EightBytes = reader_map (bytes_at 8) (λ passed. other_value) (bytes_reader 8)
wire_reader group skips Delimited = reader_map text_at bytes_value text_reader
wire_reader group skips GroupStart = reader_of other_value group skips
wire_reader group skips GroupEnd = record { follows = λ bytes more x e. absurd (none-some x e); shorter = λ bytes x e. absurd (none-some x e) }
wire_reader group skips FourBytes = reader_map (bytes_at 4) (λ passed. other_value) (bytes_reader 4)
