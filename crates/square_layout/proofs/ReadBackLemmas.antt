-- Behind its compact shares the square of a block, or of a plan, is its blobs, with padding.
use Rattle.std.proofs.Common.{◌≡◌, ◌∙◌, ℕ, zero, suc, ◌+◌, ◌-◌, ◌*◌, ◌≤◌, Bool, true, false, List, [], ◌∷◌, ◌++◌, length, drop, replicate, None, refl, sym, ap, ap₂, subst, arith, append_assoc}
use Rattle.std.specs.List.{AllByRecursion}
use Rattle.std.proofs.Math.Seq.{drop-append_seam}
use Rattle.std.proofs.lemmas.List.{append-nil}
use Rattle.std.proofs.lemmas.Grind.{flat_map-append}
use Rattle.namespace_id.specs.declared.namespaces.Namespace.{Namespace}
use Rattle.namespace_id.specs.declared.shares.Share.{Share}
use Rattle.namespace_id.specs.Names.{IsNamespace, primary_reserved_padding, tail_padding}
use Rattle.share_split.specs.Blobs.{NamedBytes, blob_shares_of}
use Rattle.share_split.specs.BlobLaws.{FewSharesHoldASequence}
use Rattle.share_split.specs.Joined.{padding, blob, padding_of, padding_share, piece_shares, piece_blobs, IsBlob, IsPiece, AreBlobs}
use Rattle.square_layout.specs.Blocks.{BlockParts, IsBlock}
use Rattle.square_layout.specs.Layout.{share_count_of, start_after, gap_behind, placed, placed_behind, in_order, compact_part, compact_end, laid, width_for, block_square}
use Rattle.square_layout.specs.Plans.{PlanParts, front, lead, planned, plan_width, square_of_plan}
use Rattle.square_layout.specs.Refusals.{layout_refusal}
use Rattle.square_layout.proofs.LaidLemmas.{length-compact_part}
use Rattle.square_layout.proofs.BlobOrderLemmas.{All-in_order}
use Rattle.square_layout.proofs.BlobLemmas.{ordered_are_blobs}
use Rattle.square_layout.proofs.SquareLemmas.{gap_version, gap_version-low, low_is_namespace, tail_is_namespace}

-- ---- blobs with padding

-- a fact of each element of two lists holds of each of both together
each_append : {A : Type 0} (P : A → Type 0) (xs ys : List A) → AllByRecursion P xs → AllByRecursion P ys → AllByRecursion P (xs ++ ys)
each_append P [] ys h k = k
each_append P (x ∷ xs) ys h k = (h.0, each_append P xs ys h.1 k)

-- none
pub no_blobs : AreBlobs [] []
no_blobs = record { pieces = []; are_pieces = tt; parts = refl; shown = refl }

-- one list behind another
pub both_blobs : (s t : List Share) (b c : List NamedBytes) → AreBlobs s b → AreBlobs t c → AreBlobs (s ++ t) (b ++ c)
both_blobs s t b c one other = record {
  pieces = one.pieces ++ other.pieces;
  are_pieces = each_append IsPiece one.pieces other.pieces one.are_pieces other.are_pieces;
  parts = ap₂ (λ (x y : List Share). x ++ y) one.parts other.parts
      ∙ sym (flat_map-append piece_shares one.pieces other.pieces);
  shown = ap₂ (λ (x y : List NamedBytes). x ++ y) one.shown other.shown
      ∙ sym (flat_map-append piece_blobs one.pieces other.pieces);
}

-- padding
one_padding : (version : ℕ) (name : Namespace) → version ≤ 1 → IsNamespace name → AreBlobs (padding_of version name ∷ []) []
one_padding version name low named = record {
  pieces = padding version name ∷ [];
  are_pieces = ((low, named), tt);
  parts = refl;
  shown = refl;
}

-- so much padding of a version
pub some_gap : (n version : ℕ) (name : Namespace) → version ≤ 1 → IsNamespace name → AreBlobs (replicate n (padding_of version name)) []
some_gap zero version name low named = no_blobs
some_gap (suc n) version name low named =
    both_blobs (padding_of version name ∷ []) (replicate n (padding_of version name)) [] [] (one_padding version name low named)
    (some_gap n version name low named)

-- so much padding
pub some_padding : (n : ℕ) (name : Namespace) → IsNamespace name → AreBlobs (replicate n (padding_share name)) []
some_padding n name named = some_gap n 0 name (omega arith) named

-- a blob
pub one_blob : (named : NamedBytes) → IsBlob named → AreBlobs (blob_shares_of named.namespace named.signer named.bytes) (named ∷ [])
one_blob named is = record {
  pieces = blob named ∷ [];
  are_pieces = (is, tt);
  parts = sym (append-nil (blob_shares_of named.namespace named.signer named.bytes));
  shown = refl;
}

-- ---- the layout

-- blobs at their places
pub placed_blobs : (versioned : Bool) (version : ℕ) (name : Namespace) (end : ℕ) (blobs : List NamedBytes) → version ≤ 1 → IsNamespace name
    → AllByRecursion IsBlob blobs → AreBlobs (placed_behind versioned (padding_of version name) end blobs) blobs
unfolding placed_behind
placed_blobs versioned version name end [] low named all = no_blobs
placed_blobs versioned version name end (one ∷ blobs) low named all =
    let gap : List Share = replicate (start_after end one - end) (padding_of version name) in
    let own : List Share = blob_shares_of one.namespace one.signer one.bytes in
    let next : ℕ = start_after end one + share_count_of one in
    both_blobs (gap ++ own) (placed_behind versioned (gap_behind versioned one) next blobs) (one ∷ []) blobs
    (both_blobs gap own [] (one ∷ []) (some_gap (start_after end one - end) version name low named) (one_blob one all.0))
    (placed_blobs versioned (gap_version versioned one) one.namespace next blobs (gap_version-low versioned one) all.0.name all.1)

-- what is behind the compact shares
abbrev pub placed_of : BlockParts → List Share
placed_of block = placed primary_reserved_padding (compact_end block) (in_order block.blobs)

-- the padding behind everything
abbrev pub tail_of : BlockParts → List Share
tail_of block = replicate (width_for block * width_for block - length (laid block)) (padding_share tail_padding)

-- it stands behind the compact shares
pub behind_compact_part : (block : BlockParts) → drop (compact_end block) (block_square block).shares ≡ placed_of block ++ tail_of block
behind_compact_part block =
    ap (λ (n : ℕ). drop n (block_square block).shares) (sym (length-compact_part block))
    ∙ ap (drop (length (compact_part block))) (append_assoc (compact_part block) (placed_of block) (tail_of block))
    ∙ drop-append_seam (compact_part block) (placed_of block ++ tail_of block)

-- the shares behind the compact ones are the blobs, in their order
pub blobs_behind : FewSharesHoldASequence → (block : BlockParts) → layout_refusal block ≡ None → IsBlock block
    → AreBlobs (drop (compact_end block) (block_square block).shares) (in_order block.blobs)
blobs_behind few block none is =
    let blobs = placed_blobs false 0 primary_reserved_padding (compact_end block) (in_order block.blobs) (omega arith) (low_is_namespace 0xFF (omega arith))
    (ordered_are_blobs few block none is) in
    let padded = some_padding (width_for block * width_for block - length (laid block)) tail_padding tail_is_namespace in
    subst (λ (s : List Share). AreBlobs s (in_order block.blobs)) (sym (behind_compact_part block))
    (subst (AreBlobs (placed_of block ++ tail_of block)) (append-nil (in_order block.blobs))
    (both_blobs (placed_of block) (tail_of block) (in_order block.blobs) [] blobs padded))

-- ---- a plan

-- the padding in front of the first blob
lead_padding : (count : ℕ) (blobs : List NamedBytes) → AreBlobs (lead count blobs) []
unfolding lead
lead_padding count [] = no_blobs
lead_padding count (one ∷ blobs) = some_padding count primary_reserved_padding (low_is_namespace 0xFF (omega arith))

-- the shares behind the compact ones of a plan are its blobs, in their order
pub plan_blobs : (plan : PlanParts) → AllByRecursion IsBlob plan.blobs
    → AreBlobs (drop (length (front plan)) (square_of_plan plan).shares) (in_order plan.blobs)
plan_blobs plan all =
    let order : List NamedBytes = in_order plan.blobs in
    let first : List Share = lead (plan.reserve - length (front plan)) plan.blobs in
    let placed_part : List Share = placed_behind true (padding_share primary_reserved_padding) plan.reserve order in
    let tail : List Share = replicate (plan_width plan * plan_width plan - length (planned plan)) (padding_share tail_padding) in
    let back : drop (length (front plan)) (square_of_plan plan).shares ≡ first ++ placed_part ++ tail =
    ap (drop (length (front plan))) (ap (λ (l : List Share). l ++ tail) (append_assoc (front plan) first placed_part)
    ∙ append_assoc (front plan) (first ++ placed_part) tail) ∙ drop-append_seam (front plan) (first ++ placed_part ++ tail) in
    let named : IsNamespace primary_reserved_padding = low_is_namespace 0xFF (omega arith) in
    let blobs : AreBlobs placed_part order =
    placed_blobs true 0 primary_reserved_padding plan.reserve order (omega arith) named (All-in_order IsBlob plan.blobs all) in
    let both : AreBlobs (first ++ placed_part) order = both_blobs first placed_part [] order (lead_padding (plan.reserve - length (front plan)) plan.blobs) blobs in
    let padded : AreBlobs tail [] = some_padding (plan_width plan * plan_width plan - length (planned plan)) tail_padding tail_is_namespace in
    subst (λ (s : List Share). AreBlobs s order) (sym back)
    (subst (AreBlobs (first ++ placed_part ++ tail)) (append-nil order) (both_blobs (first ++ placed_part) tail order [] both padded))
