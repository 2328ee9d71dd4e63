-- How many compact shares there are, and that they are shares.
use Rattle.std.proofs.Common.{◌≡◌, ℕ, zero, suc, ◌+◌, ◌-◌, ◌/◌, ◌%◌, ◌<◌, nat_le, ◌^◌, ◌≤◌, Bool, true, false, List, [], ◌∷◌, ◌++◌, length, take, drop, replicate, sym, ap, refl, inl, inr, arith, subst, length-append, length-take}
use Rattle.std.specs.List.{AllByRecursion}
use Rattle.std.specs.Int.{w32, to_be_bytes}
use Rattle.std.proofs.lemmas.Bool.{cases_lt}
use Rattle.std.proofs.lemmas.List.{length-replicate}
use Rattle.std.proofs.lemmas.Bool.Decides.{nat_tests}
use Rattle.namespace_id.specs.declared.namespaces.Namespace.{Namespace}
use Rattle.namespace_id.specs.Bytes.{AreBytes}
use Rattle.namespace_id.specs.Names.{IsNamespace}
use Rattle.namespace_id.specs.Shares.{IsShare, AreShares}
use Rattle.namespace_id.proofs.StringLemmas.{AreBytes-none, AreBytes-cons, AreBytes-replicate, AreBytes-append, AreBytes-take, AreBytes-drop}
use Rattle.share_split.specs.Blobs.{max_sequence_length, later_content, info, filled, sequence_share}
use Rattle.share_split.specs.Units.{first_compact_content, later_compact_content, unit_text, units_text, starts_from, reserved_of, later_compact_shares, compact_count, unit_shares_of, unit_share_count}
use Rattle.proto_fields.specs.Varints.{varint_within, varint}
use Rattle.proto_fields.proofs.Varint.Bytes.{varint_within-low, varint_within-high}

-- ---- their number

-- there are as many later compact shares as asked for
length-later_compact_shares : (name : Namespace) (i : ℕ) (starts text : List ℕ) (count : ℕ) → length (later_compact_shares count name i starts text) ≡ count
unfolding later_compact_shares
length-later_compact_shares name i starts text zero = refl
length-later_compact_shares name i starts text (suc count) =
    ap suc (length-later_compact_shares name (suc i) starts (drop later_compact_content text) count)

-- a sequence has a share
some-compact_count : (size : ℕ) → 0 < compact_count size
some-compact_count size = grind (arith, nat_tests)

-- the compact shares of units are as many as counted
pub unit_shares_are_counted : (name : Namespace) (units : List (List ℕ)) → length (unit_shares_of name units) ≡ unit_share_count units
unit_shares_are_counted name [] = refl
unit_shares_are_counted name (unit ∷ units) =
    let text : List ℕ = units_text (unit ∷ units) in
    omega (
      arith,
      length-later_compact_shares name 1 (starts_from 0 (unit ∷ units)) (drop first_compact_content text) (compact_count (length text) - 1),
      some-compact_count (length text),
    )

-- a text that is too long would take more shares than a square has
pub long_texts_take_many_shares : (units : List (List ℕ)) → max_sequence_length < length (units_text units) → 2 ^ 23 < unit_share_count units
long_texts_take_many_shares [] h = absurd (omega arith)
long_texts_take_many_shares (unit ∷ units) h =
    let size : ℕ = length (units_text (unit ∷ units)) in
    let long : nat_le size first_compact_content ≡ false = grind (arith, nat_tests) in
    rw long (omega arith)

-- ---- they are shares

-- four bytes of a number are bytes
pub AreBytes-number : (n : ℕ) → AreBytes (to_be_bytes w32 n)
AreBytes-number n zero = omega arith
AreBytes-number n (suc zero) = omega arith
AreBytes-number n (suc (suc zero)) = omega arith
AreBytes-number n (suc (suc (suc zero))) = omega arith
AreBytes-number n (suc (suc (suc (suc i)))) = omega arith

-- a varint has bytes
AreBytes-varint_within : (more n : ℕ) → AreBytes (varint_within more n)
unfolding varint_within
AreBytes-varint_within zero n = AreBytes-none
AreBytes-varint_within (suc more) n =
    elim (cases_lt n 128) [
      | inl lt ↦ subst (λ (l : List ℕ). AreBytes l) (sym (varint_within-low more n lt)) (AreBytes-cons n [] (omega arith) AreBytes-none)
      | inr le ↦
          subst (λ (l : List ℕ). AreBytes l) (sym (varint_within-high more n le))
          (AreBytes-cons (n % 128 + 128) (varint_within more (n / 128)) (omega arith) (AreBytes-varint_within more (n / 128)))
    ]

-- the text of units has bytes
AreBytes-units_text : (units : List (List ℕ)) → AllByRecursion AreBytes units → AreBytes (units_text units)
AreBytes-units_text [] all = AreBytes-none
AreBytes-units_text (unit ∷ units) all =
    AreBytes-append (unit_text unit) (units_text units)
    (AreBytes-append (varint (length unit)) unit (AreBytes-varint_within 10 (length unit)) all.0) (AreBytes-units_text units all.1)

-- content that is filled has bytes
AreBytes-filled : (n : ℕ) (content : List ℕ) → AreBytes content → AreBytes (filled n content)
AreBytes-filled n content fits = AreBytes-take n (content ++ replicate n 0) (AreBytes-append content (replicate n 0) fits (AreBytes-replicate n 0 (omega arith)))

-- content that is filled has the length that is asked for
length-filled : (n : ℕ) (content : List ℕ) → length (filled n content) ≡ n
length-filled n content =
    omega (arith, length-take n (content ++ replicate n 0), length-append content (replicate n 0), length-replicate {A = ℕ} n 0)

-- an info byte is a byte
info-lt : (version : ℕ) (start : Bool) → version ≤ 1 → info version start < 256
info-lt version true few = omega arith
info-lt version false few = omega arith

-- a share of a sequence is a share, where its fields fit in it
pub sequence_fits : (name : Namespace) (version : ℕ) (start : Bool) (fields content : List ℕ) → version ≤ 1 → length fields ≤ later_content → IsNamespace name
    → AreBytes fields → AreBytes content → IsShare (sequence_share name version start fields content)
unfolding sequence_share
sequence_fits name version start fields content low few named fits content_fits =
    let n : ℕ = later_content - length fields in
    let rest : List ℕ = fields ++ filled n content in
    record {
      size_is = omega (
        arith,
        few,
        named.size_is,
        length-append name.0 (info version start ∷ rest),
        length-append fields (filled n content),
        length-filled n content,
      );
      fits = AreBytes-append name.0 (info version start ∷ rest) named.fits
          (AreBytes-cons (info version start) rest (info-lt version start low) (AreBytes-append fields (filled n content) fits (AreBytes-filled n content content_fits)));
    }

-- later compact shares are shares
later_are_shares : (name : Namespace) (i : ℕ) (starts text : List ℕ) (count : ℕ) → IsNamespace name → AreBytes text
    → AreShares (later_compact_shares count name i starts text)
unfolding later_compact_shares
later_are_shares name i starts text zero named fits = tt
later_are_shares name i starts text (suc count) named fits = (
  sequence_fits name 0 false (to_be_bytes w32 (reserved_of i starts)) (take later_compact_content text) (omega arith) (omega arith) named
      (AreBytes-number (reserved_of i starts)) (AreBytes-take later_compact_content text fits),
  later_are_shares name (suc i) starts (drop later_compact_content text) count named (AreBytes-drop later_compact_content text fits),
)

-- the compact shares of units are shares
pub unit_shares_are_shares : (name : Namespace) (units : List (List ℕ)) → IsNamespace name → AllByRecursion AreBytes units
    → AreShares (unit_shares_of name units)
unit_shares_are_shares name [] named all = tt
unit_shares_are_shares name (unit ∷ units) named all =
    let text : List ℕ = units_text (unit ∷ units) in
    let fits : AreBytes text = AreBytes-units_text (unit ∷ units) all in
    let starts : List ℕ = starts_from 0 (unit ∷ units) in (
      sequence_fits name 0 true (to_be_bytes w32 (length text) ++ to_be_bytes w32 (reserved_of 0 starts)) (take first_compact_content text) (omega arith) (omega arith) named
          (AreBytes-append (to_be_bytes w32 (length text)) (to_be_bytes w32 (reserved_of 0 starts)) (AreBytes-number (length text)) (AreBytes-number (reserved_of 0 starts)))
          (AreBytes-take first_compact_content text fits),
      later_are_shares name 1 starts (drop first_compact_content text) (compact_count (length text) - 1) named (AreBytes-drop first_compact_content text fits),
    )
