-- A sample that is proved under the header of a square has a root proof under its data root.
use Rattle.std.proofs.Common.{◌≡◌, ◌∙◌, ℕ, zero, suc, ◌-◌, ◌*◌, ◌^◌, ◌<◌, ◌≤◌, List, [], ◌∷◌, ◌++◌, length, take, drop, get_or, refl, sym, ap, subst, inl, inr, arith, length-append}
use Rattle.std.specs.List.{AllByRecursion}
use Rattle.std.proofs.Math.Nat.{pow-suc, one-le-pow}
use Rattle.std.proofs.lemmas.Bool.{cases_lt}
use Rattle.std.proofs.lemmas.List.{length-take, length-drop}
use Rattle.std.proofs.lemmas.List.Elements.{All-from_recursion}
use Rattle.namespace_id.specs.declared.cells.Axis.{Axis}
use Rattle.namespace_id.specs.declared.digests.Digest.{Digest}
use Rattle.namespace_id.specs.Bytes.{IsString}
use Rattle.namespace_id.specs.Digests.{IsDigest, no_digest}
use Rattle.namespace_id.proofs.PowerLemmas.{halvings-le}
use Rattle.nmt_proofs.proofs.Parts.DigestLemmas.{string-sha256}
use Rattle.nmt_proofs.proofs.Parts.ListLemmas.{each-append}
use Rattle.data_header.specs.Headers.{Roots, root_of}
use Rattle.data_header.specs.DataRoots.{leaf_hash, inner_hash, merkle_root, root_halvings, root_place, led, path_of, data_root_of}
use Rattle.data_header.specs.Paths.{most_hashes}
use Rattle.data_header.proofs.RootLemmas.{path_of-low, path_of-high, length-path_of}
use Rattle.data_header.proofs.LedLemmas.{led-path_of}
use Rattle.axis_roots.specs.declared.message.messages.Message.{Message}
use Rattle.axis_roots.specs.Messages.{index}
use Rattle.axis_roots.specs.Openings.{IsProved}
use Rattle.axis_roots.specs.Grids.{IsHeaderOf}
use Rattle.axis_roots.proofs.Grids.NumberLemmas.{index-lt}
use Rattle.square_layout.specs.Blocks.{SquareShares}
use Rattle.blob_commit.specs.Proofs.{RootedParts, RootedHolds, IsRooted}
use Rattle.blob_commit.proofs.HeaderLemmas.{header_whole, power_width, place-lt, root-at}

-- ---- the hashes that lead to a data root

-- the root over some digests is a hash
root-string : (depth : ℕ) (digests : List Digest) → 0 < length digests → IsString 32 (merkle_root depth digests)
unfolding merkle_root leaf_hash inner_hash
root-string zero [] some = absurd (omega arith)
root-string zero (digest ∷ digests) some = string-sha256 (0 ∷ digest.0)
root-string (suc d) digests some =
    string-sha256 (1 ∷ merkle_root d (take (2 ^ d) digests) ++ merkle_root d (drop (2 ^ d) digests))

-- those from a place are hashes
path-strings : (depth : ℕ) (digests : List Digest) (place : ℕ) → length digests ≡ 2 ^ depth → AllByRecursion (IsString 32) (path_of depth digests place)
unfolding path_of
path-strings zero digests place power = tt
path-strings (suc d) digests place power =
    let twice : 2 ^ suc d ≡ 2 ^ d * 2 = pow-suc 2 d in
    let one : 1 ≤ 2 ^ d = one-le-pow d 2 (omega arith) in
    let l : List Digest = take (2 ^ d) digests in
    let r : List Digest = drop (2 ^ d) digests in
    let left : length l ≡ 2 ^ d = omega (arith, length-take (2 ^ d) digests) in
    let right : length r ≡ 2 ^ d = omega (arith, length-drop (2 ^ d) digests) in
    elim (cases_lt place (2 ^ d)) [
      | inl low ↦
          subst (AllByRecursion (IsString 32)) (sym (path_of-low d digests place low))
          (each-append (IsString 32) (path_of d l place) (merkle_root d r ∷ []) (path-strings d l place left) (root-string d r (omega (arith, right, one)), tt))
      | inr high ↦
          subst (AllByRecursion (IsString 32)) (sym (path_of-high d digests place high))
          (each-append (IsString 32) (path_of d r (place - 2 ^ d)) (merkle_root d l ∷ []) (path-strings d r (place - 2 ^ d) right) (root-string d l (omega (arith, left, one)), tt))
    ]

-- there are few
few_halvings : (k : ℕ) → root_halvings k ≤ most_hashes
few_halvings k = omega (arith, halvings-le (2 * k))

-- ---- the root of the axis of a sample

-- ---- its root proof

-- a sample that is proved under the header of a square has a root proof
pub sample_rooted : (header : Roots) (square : SquareShares) (message : Message) → IsHeaderOf header square → IsProved header message
    → (proof : RootedParts) × (proof.k ≡ header.k) × (proof.message ≡ message) × IsRooted proof × (length proof.up ≤ most_hashes)
    × RootedHolds (data_root_of header) proof
sample_rooted header square message own proved =
    let k : ℕ = header.k in
    let axis : Axis = message.axis in
    let i : ℕ = index axis message.cell in
    let d : ℕ = root_halvings k in
    let roots : List Digest = header.rows ++ header.cols in
    let place : ℕ = root_place k axis i in
    let hashes : List (List ℕ) = path_of d roots place in
    let whole = header_whole header square own in
    let below : i < 2 * k = index-lt k axis message.cell proved.inside in
    let within : place < 4 * k = place-lt k axis i below in
    let power : 4 * k ≡ 2 ^ d = power_width k whole.width in
    let count : length roots ≡ 2 ^ d = omega (arith, length-append header.rows header.cols, whole.rows, whole.cols, power) in
    let here : get_or roots place no_digest ≡ root_of header axis i = root-at header axis i whole.rows below in
    let deep : length hashes ≡ d = length-path_of d roots place in
    let leads : led place (leaf_hash (root_of header axis i)) hashes ≡ data_root_of header =
    ap (λ (x : Digest). led place (leaf_hash x) hashes) (sym here) ∙ led-path_of d roots place no_digest (omega (arith, within, power)) count in (
      record { k = k; message = message; root = root_of header axis i; up = hashes },
      refl,
      refl,
      record {
        message = proved.sized;
        root = subst IsDigest here (All-from_recursion IsDigest roots whole.digests place no_digest (omega (arith, within, power, count)));
        up = path-strings d roots place count;
      },
      omega (arith, deep, few_halvings k),
      record { lead = record { width = whole.width; place = below; count = deep; leads = leads }; opens = proved },
    )
