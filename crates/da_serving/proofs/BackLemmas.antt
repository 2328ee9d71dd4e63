-- The blobs of a block are read back from its square.
use Rattle.std.proofs.Common.{◌≡◌, ◌∙◌, ◌↔◌, ℕ, ◌+◌, ◌-◌, ◌*◌, ◌||◌, List, [], ◌∷◌, ◌++◌, length, drop, replicate, Bool, true, false, cond, true≢false, Ok, refl, sym, ap, ap₂, subst, inl, inr}
use Rattle.std.specs.List.{AllByRecursion}
use Rattle.std.specs.Str.{bytes_eq}
use Rattle.std.proofs.lemmas.Bool.{cases_Bool}
use Rattle.std.proofs.lemmas.Slice.Eq.{bytes_eq-Decides}
use Rattle.namespace_id.specs.declared.namespaces.Namespace.{Namespace}
use Rattle.namespace_id.specs.declared.shares.Share.{Share}
use Rattle.namespace_id.specs.Names.{is_blob_namespace, transaction, pay_for_blob, primary_reserved_padding, tail_padding}
use Rattle.namespace_id.specs.Shares.{name_in, AreShares}
use Rattle.nmt_proofs.proofs.Parts.ListLemmas.{each-append, each-drop, each-then}
use Rattle.share_split.specs.Blobs.{NamedBytes, blob_shares_of}
use Rattle.share_split.specs.Units.{unit_shares_of}
use Rattle.share_split.specs.Joined.{padding_share, IsBlob, AreBlobs}
use Rattle.share_split.specs.Walks.{blobs_joined}
use Rattle.square_layout.specs.Blocks.{BlockParts}
use Rattle.square_layout.specs.Layout.{share_count_of, start_after, placed, placed_behind, in_order, compact_part, compact_end, laid, width_for, block_square}
use Rattle.square_layout.specs.ShareNames.{AreNamed, BlobSharesAreNamed, UnitSharesAreNamed, PaddingIsNamed}
use Rattle.square_layout.proofs.BlobOrderLemmas.{All-in_order}
use Rattle.da_serving.specs.Blobs.{is_compact, behind_compact}

-- ---- compact shares

-- compact shares, and others
abbrev pub AreCompactShares : List Share → Type 0
AreCompactShares shares = AllByRecursion (λ s. is_compact s ≡ true) shares

abbrev pub AreOtherShares : List Share → Type 0
AreOtherShares shares = AllByRecursion (λ s. is_compact s ≡ false) shares

-- ---- the front of compact shares

-- a front of compact shares is left out
pub behind_front : (front rest : List Share) → AreCompactShares front → behind_compact (front ++ rest) ≡ behind_compact rest
unfolding behind_compact
behind_front [] rest all = refl
behind_front (share ∷ front) rest all =
    ap (λ (b : Bool). cond b (behind_compact (front ++ rest)) (share ∷ (front ++ rest))) all.0 ∙ behind_front front rest all.1

-- of others nothing is
pub behind_others : (rest : List Share) → AreOtherShares rest → behind_compact rest ≡ rest
unfolding behind_compact
behind_others [] all = refl
behind_others (share ∷ rest) all = ap (λ (b : Bool). cond b (behind_compact rest) (share ∷ rest)) all.0

-- ---- names

-- whether the shares of a namespace are compact
abbrev is_front : Namespace → Bool
is_front name = bytes_eq name.0 transaction.0 || bytes_eq name.0 pay_for_blob.0

-- whether shares are compact goes by their namespace
pub named_compact : (b : Bool) (name : Namespace) (shares : List Share) → is_front name ≡ b → AreNamed name shares
    → AllByRecursion (λ s. is_compact s ≡ b) shares
named_compact b name shares is named =
    each-then (λ (s : Share). name_in s ≡ name) (λ (s : Share). is_compact s ≡ b) (λ s e. ap is_front e ∙ is) shares named

-- those of a blob aren't
blob_other : (name : Namespace) → is_blob_namespace name.0 ≡ true → is_front name ≡ false
blob_other name blob = ap₂ (λ (a b : Bool). a || b) (apart transaction refl) (apart pay_for_blob refl)
  where
    apart : (front : Namespace) → is_blob_namespace front.0 ≡ false → bytes_eq name.0 front.0 ≡ false
    apart front isnt = elim (cases_Bool (bytes_eq name.0 front.0)) [
      | inl same ↦ absurd (true≢false (sym blob ∙ ap is_blob_namespace ((bytes_eq-Decides name.0 front.0).0 same) ∙ isnt))
      | inr told ↦ told
    ]

-- ---- the layout

-- each of these blobs has a namespace of a blob
abbrev AreNames : List NamedBytes → Type 0
AreNames blobs = AllByRecursion (λ blob. is_blob_namespace blob.namespace.0 ≡ true) blobs

-- blobs at their places, with their padding
placed_others : BlobSharesAreNamed → PaddingIsNamed → (name : Namespace) (end : ℕ) (blobs : List NamedBytes) → is_front name ≡ false → length name.0 ≡ 29
    → AllByRecursion IsBlob blobs → AreNames blobs → AreOtherShares (placed name end blobs)
unfolding placed_behind
placed_others of_blobs of_padding name end [] other size are names = tt
placed_others of_blobs of_padding name end (one ∷ blobs) other size are names =
    let gap : List Share = replicate (start_after end one - end) (padding_share name) in
    let own : List Share = blob_shares_of one.namespace one.signer one.bytes in
    let next : ℕ = start_after end one + share_count_of one in
    let mine : is_front one.namespace ≡ false = blob_other one.namespace names.0 in
    each-append (λ s. is_compact s ≡ false) (gap ++ own) (placed one.namespace next blobs)
    (each-append (λ s. is_compact s ≡ false) gap own
    (named_compact false name gap other (of_padding (start_after end one - end) name size))
    (named_compact false one.namespace own mine (of_blobs one.namespace one.signer one.bytes are.0.name.size_is)))
    (placed_others of_blobs of_padding one.namespace next blobs mine are.0.name.size_is are.1 names.1)

-- the blobs of a block are read back from its square
pub blobs_back : BlobSharesAreNamed → UnitSharesAreNamed → PaddingIsNamed
    → ((shares : List Share) (blobs : List NamedBytes) → AreShares shares → (blobs_joined shares ≡ Ok blobs) ↔ AreBlobs shares blobs)
    → (block : BlockParts) → AllByRecursion IsBlob (in_order block.blobs)
    → AllByRecursion (λ blob. is_blob_namespace blob.namespace.0 ≡ true) block.blobs
    → AreBlobs (drop (compact_end block) (block_square block).shares) (in_order block.blobs) → AreShares (block_square block).shares
    → drop (compact_end block) (block_square block).shares
    ≡ placed primary_reserved_padding (compact_end block) (in_order block.blobs)
    ++ replicate (width_for block * width_for block - length (laid block)) (padding_share tail_padding)
    → (block_square block).shares ≡ compact_part block ++ drop (compact_end block) (block_square block).shares
    → blobs_joined (behind_compact (block_square block).shares) ≡ Ok (in_order block.blobs)
blobs_back of_blobs of_units of_padding join block are names behind shares back parts =
    let rest : List Share = drop (compact_end block) (block_square block).shares in
    let tail : List Share = replicate (width_for block * width_for block - length (laid block)) (padding_share tail_padding) in
    let placed_part : List Share = placed primary_reserved_padding (compact_end block) (in_order block.blobs) in
    let front : AreCompactShares (compact_part block) =
    each-append (λ s. is_compact s ≡ true) (unit_shares_of transaction block.units) (unit_shares_of pay_for_blob block.pay_units)
    (named_compact true transaction (unit_shares_of transaction block.units) refl (of_units transaction block.units refl))
    (named_compact true pay_for_blob (unit_shares_of pay_for_blob block.pay_units) refl (of_units pay_for_blob block.pay_units refl)) in
    let other : AreOtherShares rest = subst AreOtherShares (sym back)
    (each-append (λ s. is_compact s ≡ false) placed_part tail
    (placed_others of_blobs of_padding primary_reserved_padding (compact_end block) (in_order block.blobs) refl refl are
    (All-in_order (λ (blob : NamedBytes). is_blob_namespace blob.namespace.0 ≡ true) block.blobs names))
    (named_compact false tail_padding tail refl
    (of_padding (width_for block * width_for block - length (laid block)) tail_padding refl))) in
    let whole : behind_compact (block_square block).shares ≡ rest =
    ap behind_compact parts ∙ behind_front (compact_part block) rest front ∙ behind_others rest other in
    ap blobs_joined whole
    ∙ (join rest (in_order block.blobs) (each-drop _ (compact_end block) (block_square block).shares shares)).1 behind
