-- What a trial needs of the block that a number makes.
use Rattle.std.proofs.Common.{◌≡◌, ℕ, ◌^◌, ◌<◌, ◌≤◌, List, length, true, arith}
use Rattle.namespace_id.specs.Cells.{is_width}
use Rattle.namespace_id.specs.Sizes.{greatest_width}
use Rattle.namespace_id.proofs.WidthLemmas.{is_width-le}
use Rattle.sampling.specs.Generated.{number_key, after_units, blob_count, drawn_block}
use Rattle.sampling.proofs.FittingLemmas.{length-blobs_at}

-- a block has few blobs
pub few_blobs : (number k : ℕ) → is_width k ≡ true → length (drawn_block number k).blobs < 2 ^ 32
few_blobs number k width =
    let key : List ℕ = number_key number in
    let most : k ≤ greatest_width = is_width-le k width in
    let count : length (drawn_block number k).blobs ≡ blob_count k
    = length-blobs_at k key (blob_count k) (after_units k key (after_units k key 0)) in
    omega (arith, count)
