-- The namespaces of the shares of blobs and units, and of padding.
use Rattle.std.proofs.Common.{◌≡◌, ℕ, zero, suc, ◌-◌, Bool, true, false, List, [], ◌∷◌, ◌++◌, length, take, drop, is_some, ap}
use Rattle.std.specs.Int.{w32, to_be_bytes}
use Rattle.namespace_id.specs.declared.namespaces.Namespace.{Namespace}
use Rattle.namespace_id.proofs.StringLemmas.{front}
use Rattle.namespace_id.specs.Shares.{name_in}
use Rattle.namespace_id.specs.Sizes.{share_size, namespace_size}
use Rattle.share_split.specs.Blobs.{info, filled, version_of, signer_bytes, first_blob_content, later_content, sequence_share, later_shares, share_count}
use Rattle.share_split.specs.Units.{units_text, starts_from, reserved_of, first_compact_content, later_compact_content, later_compact_shares, compact_count}
use Rattle.square_layout.specs.ShareNames.{AreNamed, BlobSharesAreNamed, UnitSharesAreNamed, PaddingIsNamed}

-- ---- the namespace of a share

-- a share has the namespace that it begins with
name_front : (name : Namespace) (rest : List ℕ) → length name.0 ≡ 29 → name_in (record { 0 = name.0 ++ rest }) ≡ name
name_front name rest n = ap (λ (l : List ℕ). let x : Namespace = record { 0 = l } in x) (front name.0 rest 29 n)

-- a share of a sequence has the namespace of the sequence
pub name_in-sequence_share : (name : Namespace) (version : ℕ) (start : Bool) (fields content : List ℕ) → length name.0 ≡ 29
    → name_in (sequence_share name version start fields content) ≡ name
unfolding sequence_share
name_in-sequence_share name version start fields content n =
    name_front name (info version start ∷ (fields ++ filled (share_size - namespace_size - 1 - length fields) content)) n

-- ---- shares of one namespace

-- the later shares of a blob have its namespace
later_shares-named : (count : ℕ) (name : Namespace) (version : ℕ) (bytes : List ℕ) → length name.0 ≡ 29 → AreNamed name (later_shares count name version bytes)
unfolding later_shares
later_shares-named zero name version bytes n = tt
later_shares-named (suc count) name version bytes n =
    (name_in-sequence_share name version false [] (take later_content bytes) n, later_shares-named count name version (drop later_content bytes) n)

-- the shares of a blob have its namespace
pub blob_shares_of-named : BlobSharesAreNamed
blob_shares_of-named name signer bytes n =
    let first : ℕ = first_blob_content (is_some signer) in (
      name_in-sequence_share name (version_of signer) true (to_be_bytes w32 (length bytes) ++ signer_bytes signer) (take first bytes) n,
      later_shares-named (share_count (length bytes) (is_some signer) - 1) name (version_of signer) (drop first bytes) n,
    )

-- the later compact shares have the namespace of their sequence
later_compact_shares-named : (count : ℕ) (name : Namespace) (i : ℕ) (starts text : List ℕ) → length name.0 ≡ 29 → AreNamed name (later_compact_shares count name i starts text)
unfolding later_compact_shares
later_compact_shares-named zero name i starts text n = tt
later_compact_shares-named (suc count) name i starts text n = (
  name_in-sequence_share name 0 false (to_be_bytes w32 (reserved_of i starts)) (take later_compact_content text) n,
  later_compact_shares-named count name (suc i) starts (drop later_compact_content text) n,
)

-- the shares of units have their namespace
pub unit_shares_of-named : UnitSharesAreNamed
unit_shares_of-named name [] n = tt
unit_shares_of-named name (unit ∷ units) n =
    let text : List ℕ = units_text (unit ∷ units) in
    let starts : List ℕ = starts_from 0 (unit ∷ units) in (
      name_in-sequence_share name 0 true (to_be_bytes w32 (length text) ++ to_be_bytes w32 (reserved_of 0 starts)) (take first_compact_content text) n,
      later_compact_shares-named (compact_count (length text) - 1) name 1 starts (drop first_compact_content text) n,
    )

-- padding has its namespace
pub padding-named : PaddingIsNamed
padding-named zero name n = tt
padding-named (suc count) name n = (name_in-sequence_share name 0 true (to_be_bytes w32 0) [] n, padding-named count name n)
