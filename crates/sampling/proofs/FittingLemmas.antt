-- Generated blobs and units take few shares.
use Rattle.std.proofs.Common.{◌≡◌, ◌∙◌, ℕ, zero, suc, ◌+◌, ◌-◌, ◌*◌, ◌/◌, ◌%◌, ◌^◌, ◌<◌, ◌≤◌, min, List, [], ◌∷◌, length, true, false, refl, ap, inl, inr, length-append, arith}
use Rattle.std.specs.Prelude.{None}
use Rattle.std.specs.List.{AllByRecursion}
use Rattle.std.proofs.Math.Nat.{mod-lt}
use Rattle.std.proofs.lemmas.List.{length-take-le}
use Rattle.std.proofs.lemmas.Bool.{cases_lt}
use Rattle.std.proofs.lemmas.Bool.Decides.{nat_tests}
use Rattle.namespace_id.specs.Names.{namespace_refusal}
use Rattle.namespace_id.proofs.DoublingLemmas.{least_from}
use Rattle.share_split.specs.Blobs.{NamedBytes, share_count}
use Rattle.share_split.specs.Units.{unit_text, units_text, compact_count, unit_share_count}
use Rattle.share_split.specs.Widths.{is_wide_enough, subtree_width_of}
use Rattle.proto_fields.specs.Varints.{varint}
use Rattle.proto_fields.proofs.Varint.Bytes.{length-varint-low, length-varint-high}
use Rattle.square_layout.specs.Layout.{share_count_of}
use Rattle.sampling.specs.Words.{key_word}
use Rattle.sampling.specs.Generated.{word_count, word_bytes, made_bytes, unit_len, made_unit, name_with, blob_len, made_blob, after_blob, blobs_at}
use Rattle.sampling.proofs.WordLemmas.{length-word_bytes}

-- a blob of a block of width k: its namespace is one of a blob, it has bytes, and at most k shares
pub record Fits (k : ℕ) (blob : NamedBytes) : Type 0 where
  pub named : namespace_refusal blob.namespace.0 ≡ None
  pub some : 1 ≤ length blob.bytes
  pub few : share_count_of blob ≤ k

-- there are so many bytes as are made
pub length-bytes_at : (key : List ℕ) (place len : ℕ) → length (made_bytes key place len) ≡ len
length-bytes_at key place len =
    length-take-le len (word_bytes key place (word_count len))
    (omega (arith, length-word_bytes key (word_count len) place))

-- ---- blobs

-- the namespaces are those of blobs
name_passes : (last : ℕ) → namespace_refusal (name_with last).0 ≡ None
name_passes last = refl

-- bytes that fit in so many shares take no more
few_shares : (size later : ℕ) → size ≤ 478 + 482 * later → share_count size false ≤ 1 + later
few_shares size later h = elim (cases_lt 478 size) [
  | inl above ↦
      let shares : share_count size false ≡ 1 + ((size - 478) / 482 + min 1 ((size - 478) % 482)) =
      grind (arith, nat_tests) in
      omega (arith, shares)
  | inr within ↦ (let one : share_count size false ≡ 1 = grind (arith, nat_tests) in omega (arith, one))
]

-- a blob has no more shares than its word says
len-le : (k : ℕ) (key : List ℕ) (place : ℕ) → blob_len k key place ≤ 478 + 482 * (key_word key (place + 1) % k)
len-le k key place = omega arith

-- and at least a byte
len-ge : (k : ℕ) (key : List ℕ) (place : ℕ) → 1 ≤ blob_len k key place
len-ge k key place =
    let less : key_word key (place + 2) % 256 < 256 =
    mod-lt (key_word key (place + 2)) (omega arith) in omega (arith, less)

-- a blob that is made fits
blob_fits : (k : ℕ) (key : List ℕ) (place : ℕ) → 0 < k → Fits k (made_blob k key place)
blob_fits k key place some =
    let long : length (made_bytes key (place + 3) (blob_len k key place)) ≡ blob_len k key place =
    length-bytes_at key (place + 3) (blob_len k key place) in
    let most : key_word key (place + 1) % k < k = mod-lt (key_word key (place + 1)) some in record {
      named = name_passes (key_word key place % 16);
      some = omega (arith, long, len-ge k key place);
      few =
          let shares : share_count (length (made_bytes key (place + 3) (blob_len k key place))) false ≤ 1 + key_word key
          (place + 1) % k =
          few_shares (length (made_bytes key (place + 3) (blob_len k key place))) (key_word key (place + 1) % k)
          (omega (arith, long, len-le k key place)) in
          omega (arith, shares, most);
    }

-- so do all
pub blobs_fit : (k : ℕ) (key : List ℕ) (count place : ℕ) → 0 < k → AllByRecursion (Fits k) (blobs_at k key place count)
unfolding blobs_at
blobs_fit k key zero place some = tt
blobs_fit k key (suc count) place some = (blob_fits k key place some, blobs_fit k key count (after_blob k key place) some)

-- and there are so many
pub length-blobs_at : (k : ℕ) (key : List ℕ) (count place : ℕ) → length (blobs_at k key place count) ≡ count
unfolding blobs_at
length-blobs_at k key zero place = refl
length-blobs_at k key (suc count) place = ap suc (length-blobs_at k key count (after_blob k key place))

-- up to 64 shares for each share of a subtree have none wider
pub narrow : (count j : ℕ) → j ≤ 28 → count ≤ 64 * 2 ^ j → subtree_width_of count ≤ 2 ^ j
narrow count j low h =
    let one : 1 * 2 ^ j ≡ 2 ^ j = omega arith in
    let wide : is_wide_enough count (1 * 2 ^ j) ≡ true = grind (arith, nat_tests, one) in
    omega (arith, one, least_from (is_wide_enough count) 28 1 j low wide)

-- ---- units

-- the length of a unit is written in at most two bytes
short_varint : (len : ℕ) → len ≤ 400 → length (varint len) ≤ 2
short_varint len h = elim (cases_lt len 128) [
  | inl low ↦ omega (arith, length-varint-low len low)
  | inr high ↦ omega (arith, length-varint-high len high (omega arith), length-varint-low (len / 128) (omega arith))
]

-- a text of at most 474 bytes takes one compact share
one_share : (size : ℕ) → size ≤ 474 → compact_count size ≡ 1
one_share size h = grind (arith, nat_tests)

-- a unit takes one share
unit_share : (unit : List ℕ) → length unit ≤ 400 → unit_share_count (unit ∷ []) ≡ 1
unit_share unit h =
    let long : length (units_text (unit ∷ [])) ≡ length (varint (length unit)) + length unit + 0 =
    length-append (unit_text unit) [] ∙ ap (λ (n : ℕ). n + 0) (length-append (varint (length unit)) unit) in
    one_share (length (units_text (unit ∷ []))) (omega (arith, long, short_varint (length unit) h))

-- a unit that is made takes one
pub made_unit_share : (key : List ℕ) (place : ℕ) → unit_share_count (made_unit key place ∷ []) ≡ 1
made_unit_share key place =
    let less : key_word key place % 400 < 400 = mod-lt (key_word key place) (omega arith) in
    unit_share (made_unit key place) (omega (arith, length-bytes_at key (place + 1) (unit_len key place), less))
