-- Worked lengths and widths, by the definitions (Celestia specifications, "Shares", "Square Layout").
use Rattle.std.proofs.Common.{◌≡◌, true, false, [], ◌∷◌, refl}
use Rattle.namespace_id.specs.Doublings.{least_doubling}
use Rattle.share_split.specs.Blobs.{share_count}
use Rattle.proto_fields.specs.Varints.{varint_within, varint}
use Rattle.share_split.specs.Widths.{subtree_width_of}

-- 127 takes one byte, and 128 two
varint_of_127 : varint 127 ≡ 127 ∷ []
unfolding varint_within
varint_of_127 = refl

varint_of_128 : varint 128 ≡ 128 ∷ 1 ∷ []
unfolding varint_within
varint_of_128 = refl

-- 300 is AC 02
varint_of_300 : varint 300 ≡ 0xAC ∷ 0x02 ∷ []
unfolding varint_within
varint_of_300 = refl

-- a blob of 478 bytes takes one share, one of 479 bytes two
shares_of_478 : share_count 478 false ≡ 1
shares_of_478 = refl

shares_of_479 : share_count 479 false ≡ 2
shares_of_479 = refl

-- one share holds the 20 bytes of a signer and 458 bytes
shares_of_458_signed : share_count 458 true ≡ 1
shares_of_458_signed = refl

shares_of_459_signed : share_count 459 true ≡ 2
shares_of_459_signed = refl

-- up to 64 shares have subtrees of one share, 65 shares of two
width_of_64 : subtree_width_of 64 ≡ 1
unfolding least_doubling
width_of_64 = refl

width_of_65 : subtree_width_of 65 ≡ 2
unfolding least_doubling
width_of_65 = refl
