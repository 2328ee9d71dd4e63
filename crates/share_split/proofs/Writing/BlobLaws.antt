-- How many shares a blob has, and that they are shares.
use Rattle.std.proofs.Common.{◌≡◌, ◌∙◌, ℕ, zero, suc, ◌-◌, ◌<◌, ◌≤◌, Bool, true, false, List, [], ◌++◌, length, take, drop, Option, Some, None, refl, ap, arith, length-append}
use Rattle.std.specs.Prelude.{is_some, IfSome}
use Rattle.std.specs.Int.{w32, to_be_bytes}
use Rattle.std.proofs.lemmas.Bool.Decides.{nat_tests}
use Rattle.namespace_id.specs.declared.namespaces.Namespace.{Namespace}
use Rattle.namespace_id.specs.Bytes.{AreBytes, IsString}
use Rattle.namespace_id.specs.Names.{IsNamespace}
use Rattle.namespace_id.specs.Sizes.{most_shares}
use Rattle.namespace_id.specs.Shares.{IsShare, AreShares}
use Rattle.namespace_id.proofs.StringLemmas.{AreBytes-none, AreBytes-append, AreBytes-take, AreBytes-drop}
use Rattle.share_split.specs.Blobs.{later_content, signer_size, max_sequence_length, version_of, signer_bytes, first_blob_content, later_shares, share_count, blob_shares_of}
use Rattle.share_split.specs.Joined.{padding_of, padding_share}
use Rattle.share_split.proofs.Writing.UnitLaws.{AreBytes-number, sequence_fits}

-- ---- their number

-- there are as many later shares as asked for
length-later_shares : (count : ℕ) (name : Namespace) (version : ℕ) (bytes : List ℕ) → length (later_shares count name version bytes) ≡ count
unfolding later_shares
length-later_shares zero name version bytes = refl
length-later_shares (suc count) name version bytes = ap suc (length-later_shares count name version (drop 482 bytes))

-- a blob takes a share
share_count-some : (size : ℕ) (signed : Bool) → 0 < share_count size signed
share_count-some size true = grind (arith, nat_tests)
share_count-some size false = grind (arith, nat_tests)

-- the shares of a blob are as many as counted
pub length-blob_shares_of : (name : Namespace) (signer : Option (List ℕ)) (bytes : List ℕ)
    → length (blob_shares_of name signer bytes) ≡ share_count (length bytes) (is_some signer)
length-blob_shares_of name signer bytes =
    let count : ℕ = share_count (length bytes) (is_some signer) in
    let rest : List ℕ = drop (first_blob_content (is_some signer)) bytes in
    ap suc (length-later_shares (count - 1) name (version_of signer) rest) ∙ omega (arith, share_count-some (length bytes) (is_some signer))

-- so many shares hold no more than a sequence may have
pub few_shares_hold_a_sequence : (size : ℕ) (signed : Bool) → share_count size signed ≤ most_shares → size ≤ max_sequence_length
few_shares_hold_a_sequence size true few = grind (arith, nat_tests)
few_shares_hold_a_sequence size false few = grind (arith, nat_tests)

-- ---- they are shares

-- the later shares of a blob are shares
later_are_shares : (count : ℕ) (name : Namespace) (version : ℕ) (bytes : List ℕ) → version ≤ 1 → IsNamespace name → AreBytes bytes
    → AreShares (later_shares count name version bytes)
unfolding later_shares
later_are_shares zero name version bytes low named fits = tt
later_are_shares (suc count) name version bytes low named fits = (
  sequence_fits name version false [] (take later_content bytes) low (omega arith) named AreBytes-none (AreBytes-take later_content bytes fits),
  later_are_shares count name version (drop later_content bytes) low named (AreBytes-drop later_content bytes fits),
)

-- the version of a blob is 0 or 1
pub version_of-low : (signer : Option (List ℕ)) → version_of signer ≤ 1
version_of-low None = omega arith
version_of-low (Some signer) = omega arith

-- the bytes of a signer are few, and bytes
signer_fits : (signer : Option (List ℕ)) → IfSome signer (IsString signer_size) → IsString (length (signer_bytes signer)) (signer_bytes signer) × (length (signer_bytes signer) ≤ signer_size)
signer_fits None is = (record { size_is = refl; fits = AreBytes-none }, omega arith)
signer_fits (Some signer) is = (record { size_is = refl; fits = is.fits }, omega (arith, is.size_is))

-- the shares of a blob are shares
pub blob_shares_are_shares : (name : Namespace) (signer : Option (List ℕ)) (bytes : List ℕ) → IsNamespace name
    → IfSome signer (IsString signer_size) → AreBytes bytes → AreShares (blob_shares_of name signer bytes)
blob_shares_are_shares name signer bytes named signed fits =
    let first : ℕ = first_blob_content (is_some signer) in
    let size : List ℕ = to_be_bytes w32 (length bytes) in
    let s = signer_fits signer signed in (
      sequence_fits name (version_of signer) true (size ++ signer_bytes signer) (take first bytes) (version_of-low signer)
          (omega (arith, length-append size (signer_bytes signer), s.1)) named
          (AreBytes-append size (signer_bytes signer) (AreBytes-number (length bytes)) s.0.fits) (AreBytes-take first bytes fits),
      later_are_shares (share_count (length bytes) (is_some signer) - 1) name (version_of signer) (drop first bytes) (version_of-low signer) named (AreBytes-drop first bytes fits),
    )

-- padding is a share
pub gap_is_share : (version : ℕ) (name : Namespace) → version ≤ 1 → IsNamespace name → IsShare (padding_of version name)
gap_is_share version name low named =
    sequence_fits name version true (to_be_bytes w32 0) [] low (omega arith) named (AreBytes-number 0) AreBytes-none

-- that of version 0 is
pub padding_is_share : (name : Namespace) → IsNamespace name → IsShare (padding_share name)
padding_is_share name named = gap_is_share 0 name (omega arith) named
