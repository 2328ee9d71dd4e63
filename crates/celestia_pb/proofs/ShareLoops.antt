-- The loop that counts shares.
use Rattle.std.proofs.Common.{◌≡◌, ◌∙◌, ℕ, ◌+◌, ◌-◌, ◌<◌, List, [], ◌∷◌, length, drop, Some, Result, Ok, Err, refl, ap}
use Rattle.namespace_id.specs.declared.shares.Share.{Share}
use Rattle.celestia_pb.specs.RowShares.{share_field, with_share, shares_at}
use Rattle.celestia_pb.specs.ShareLists.{share_behind}
use Rattle.celestia_pb.proofs.ShareLemmas.{read_is_share, shares_at-more}
use Rattle.celestia_pb.proofs.ShareEntries.{share_behind-is, share_rest, share_length}
use Rattle.celestia_pb.proofs.ValueLoops.{with_values, IsCounting, counting_goes}

-- a share before others is one of shares before others
with_share-one : (share : Share) (r : Result (List Share × List ℕ) ℕ) → with_share share r ≡ with_values (share ∷ []) r
with_share-one share (Ok x) = refl
with_share-one share (Err left) = refl

-- so many of these bytes were counted, and the rest is left
abbrev pub IsCountingShares : (most : ℕ) (bytes : List ℕ) (count : ℕ) (rest : List ℕ) → Type 0
IsCountingShares most bytes count rest = IsCounting (share_behind 6) 518 shares_at most bytes count rest

-- one more is counted
pub share_goes : (most : ℕ) (bytes : List ℕ) (count : ℕ) (rest : List ℕ) → IsCountingShares most bytes count rest → count < most
    → (share : Share) (after : List ℕ) → share_field rest ≡ Ok (Some share, after) → IsCountingShares most bytes (count + 1) after
share_goes most bytes count rest at more share after e =
    let h = read_is_share rest share after at.fits e in
    let size : length share.0 ≡ 512 = h.is.size_is in
    counting_goes (share_behind 6) 518 shares_at most bytes count rest at more share after
    (shares_at-more (most - (count + 1)) rest share after e ∙ with_share-one share (shares_at (most - (count + 1)) after))
    (ap (share_behind 6) h.parts ∙ share_behind-is share after size)
    (ap (drop 518) h.parts ∙ share_rest share after size)
    (ap length h.parts ∙ share_length share after size)
    h.fits
