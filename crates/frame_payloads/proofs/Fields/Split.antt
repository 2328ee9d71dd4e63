-- Values of one length that are read are those that were written, and values that were written are read.
use Rattle.std.proofs.Common.{◌≡◌, ◌∙◌, ℕ, zero, suc, ◌+◌, ◌*◌, ◌≤◌, List, [], ◌∷◌, ◌++◌, length, take, drop, Some, refl, sym, ap, ap₂, subst, arith, length-take-le}
use Rattle.std.specs.List.{flat_map, AllByRecursion}
use Rattle.std.proofs.lemmas.List.{take_at, drop_at, take-append-drop, length-append, length-drop, nil_from_length}
use Rattle.namespace_id.specs.Bytes.{AreBytes, IsString}
use Rattle.namespace_id.proofs.StringLemmas.{AreBytes-take, AreBytes-drop}
use Rattle.frame_fields.specs.Fields.{split_into, values_at}
use Rattle.frame_payloads.proofs.Fields.Readers.{Takes, Takes-is, front_takes, front_again}

-- values that are strings, and the strings that they are
pub record AreTexts {A : Type 0} (value : List ℕ → A) (text : A → List ℕ) : Type 0 where
  pub there : (bytes : List ℕ) → text (value bytes) ≡ bytes
  pub back : (x : A) → value (text x) ≡ x

-- ---- what is read of bytes

-- so many values as were asked for are read
pub length-split_into : {A : Type 0} (value : List ℕ → A) (size count : ℕ) (bytes : List ℕ) → length (split_into value size count bytes) ≡ count
unfolding split_into
length-split_into value size zero bytes = refl
length-split_into value size (suc count) bytes = ap suc (length-split_into value size count (drop size bytes))

-- behind the first of some values are the others
others_long : (size count : ℕ) (bytes : List ℕ) → size * suc count ≤ length bytes → (size ≤ length bytes) × (size * count ≤ length (drop size bytes))
others_long size count bytes long = let sum : size * suc count ≡ size + size * count = search arith in (omega arith, omega (arith, length-drop size bytes))

-- each value that is read has the one length
pub are_values_of : {A : Type 0} (value : List ℕ → A) (text : A → List ℕ) (texts : AreTexts value text) (size count : ℕ) (bytes : List ℕ) → AreBytes bytes → size * count ≤ length bytes
    → AllByRecursion (λ x. IsString size (text x)) (split_into value size count bytes)
unfolding split_into
are_values_of value text texts size zero bytes fits long = tt
are_values_of value text texts size (suc count) bytes fits long =
    let l = others_long size count bytes long in (
      rw (texts.there (take size bytes)) (record { size_is = length-take-le size bytes l.0; fits = AreBytes-take size bytes fits }),
      are_values_of value text texts size count (drop size bytes) (AreBytes-drop size bytes fits) l.1,
    )

-- the values of bytes spell them
pub value_bytes-of : {A : Type 0} (value : List ℕ → A) (text : A → List ℕ) (texts : AreTexts value text) (size count : ℕ) (bytes : List ℕ) → length bytes ≡ size * count
    → flat_map text (split_into value size count bytes) ≡ bytes
unfolding split_into
value_bytes-of value text texts size zero bytes len =
    let none : length bytes ≡ 0 = omega arith in
    sym (nil_from_length bytes none)
value_bytes-of value text texts size (suc count) bytes len =
    let sum : size * suc count ≡ size + size * count = search arith in
    let behind : length (drop size bytes) ≡ size * count = omega (arith, length-drop size bytes) in
    ap₂ (λ (x y : List ℕ). x ++ y) (texts.there (take size bytes)) (value_bytes-of value text texts size count (drop size bytes) behind) ∙ take-append-drop size bytes

-- ---- what is read of a spelling

-- each value is written in the one length
pub length-value_bytes : {A : Type 0} (text : A → List ℕ) (size : ℕ) (values : List A) → AllByRecursion (λ x. IsString size (text x)) values → length (flat_map text values) ≡ size * length values
length-value_bytes text size [] all = let none : 0 ≡ size * 0 = omega arith in none
length-value_bytes text size (x ∷ xs) all =
    let sum : length (text x ++ flat_map text xs) ≡ length (text x) + length (flat_map text xs) = length-append (text x) (flat_map text xs) in
    let first : length (text x) ≡ size = all.0.size_is in
    let others : length (flat_map text xs) ≡ size * length xs = length-value_bytes text size xs all.1 in
    let each : size * suc (length xs) ≡ size + size * length xs = search arith in
    omega (arith, sum, first, others, each)

-- the values of a spelling are those spelled
pub of_value_bytes : {A : Type 0} (value : List ℕ → A) (text : A → List ℕ) (texts : AreTexts value text) (size : ℕ) (values : List A) → AllByRecursion (λ x. IsString size (text x)) values
    → split_into value size (length values) (flat_map text values) ≡ values
unfolding split_into
of_value_bytes value text texts size [] all = refl
of_value_bytes {A} value text texts size (x ∷ xs) all =
    let first : take size (text x ++ flat_map text xs) ≡ text x = take_at (text x) (flat_map text xs) size all.0.size_is in
    let behind : drop size (text x ++ flat_map text xs) ≡ flat_map text xs = drop_at (text x) (flat_map text xs) size all.0.size_is in
    ap₂ (λ (y : A) (ys : List A). y ∷ ys) (ap value first ∙ texts.back x)
    (ap (λ (l : List ℕ). split_into value size (length xs) l) behind ∙ of_value_bytes value text texts size xs all.1)

-- the values of a spelling are those spelled
pub split_into-spelled : {A : Type 0} (value : List ℕ → A) (text : A → List ℕ) (texts : AreTexts value text) (size count : ℕ) (bytes : List ℕ) (values : List A)
    → AllByRecursion (λ x. IsString size (text x)) values → length values ≡ count → bytes ≡ flat_map text values → split_into value size count bytes ≡ values
split_into-spelled value text texts size count bytes values all len e =
    ap₂ (λ (n : ℕ) (l : List ℕ). split_into value size n l) (sym len) e ∙ of_value_bytes value text texts size values all

-- ---- the field

-- values that are read are those that were written
pub values_take : {A : Type 0} (value : List ℕ → A) (text : A → List ℕ) (texts : AreTexts value text) (size count : ℕ) (bytes : List ℕ) (values : List A) (rest : List ℕ) → AreBytes bytes
    → values_at value size count bytes ≡ Some (values, rest) → Takes bytes (flat_map text values) rest × (length values ≡ count) × AllByRecursion (λ x. IsString size (text x)) values
values_take {A} value text texts size count bytes values rest fits e =
    let front : List ℕ = take (size * count) bytes in
    let t = front_takes (λ (l : List ℕ). split_into value size count l) (size * count) bytes values rest fits e in
    let len : length front ≡ size * count = t.0.size_is in
    let long : size * count ≤ length front = omega arith in
    let spelled : flat_map text values ≡ front = ap (λ (xs : List A). flat_map text xs) (sym t.1) ∙ value_bytes-of value text texts size count front len in (
      Takes-is bytes front (flat_map text values) rest rest (sym spelled) refl t.2,
      ap (λ (xs : List A). length xs) (sym t.1) ∙ length-split_into value size count front,
      subst (λ (xs : List A). AllByRecursion (λ x. IsString size (text x)) xs) t.1 (are_values_of value text texts size count front t.0.fits long),
    )

-- values that were written are read, whatever follows them
pub values_again : {A : Type 0} (value : List ℕ → A) (text : A → List ℕ) (texts : AreTexts value text) (size : ℕ) (values : List A) (rest : List ℕ) → AllByRecursion (λ x. IsString size (text x)) values
    → values_at value size (length values) (flat_map text values ++ rest) ≡ Some (values, rest)
values_again {A} value text texts size values rest all =
    subst (λ (xs : List A). values_at value size (length values) (flat_map text values ++ rest) ≡ Some (xs, rest)) (of_value_bytes value text texts size values all)
    (front_again (λ (l : List ℕ). split_into value size (length values) l) (size * length values) (flat_map text values) rest (length-value_bytes text size values all))
