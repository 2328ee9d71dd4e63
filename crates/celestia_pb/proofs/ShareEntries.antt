-- Where shares lie: each 518 bytes behind the one before.
use Rattle.std.proofs.Common.{◌≡◌, ◌∙◌, ℕ, ◌+◌, ◌*◌, List, [], ◌∷◌, ◌++◌, length, drop, refl, ap, arith, length-append}
use Rattle.std.proofs.lemmas.List.{take_at, drop_at}
use Rattle.namespace_id.specs.declared.shares.Share.{Share}
use Rattle.namespace_id.specs.Shares.{AreShares}
use Rattle.proto_fields.specs.Varints.{varint, varint_within}
use Rattle.proto_fields.specs.Spelled.{bytes_field}
use Rattle.proto_fields.proofs.CanonicalLemmas.{bytes_field-is}
use Rattle.celestia_pb.specs.ShareLists.{share_behind}
use Rattle.celestia_pb.specs.RowShares.{share_field_text, shares_text}

-- ---- one entry

-- the lengths of a share and of its message
varint-512 : varint 512 ≡ 128 ∷ 4 ∷ []
unfolding varint_within
varint-512 = refl

varint-515 : varint 515 ≡ 131 ∷ 4 ∷ []
unfolding varint_within
varint-515 = refl

-- the message of a share
message_is : (share : List ℕ) → length share ≡ 512 → bytes_field 1 share ≡ 10 ∷ 128 ∷ 4 ∷ share
message_is share size =
    let front : varint (length share) ≡ 128 ∷ 4 ∷ [] = ap varint size ∙ varint-512 in
    bytes_field-is 1 share (omega arith) ∙ ap (λ (l : List ℕ). 10 ∷ l ++ share) front

-- a share has two tags and lengths before it
pub share_entry_is : (share rest : List ℕ) → length share ≡ 512 → bytes_field 1 (bytes_field 1 share) ++ rest ≡ 10 ∷ 131 ∷ 4 ∷ 10 ∷ 128 ∷ 4 ∷ (share ++ rest)
share_entry_is share rest size =
    let message : List ℕ = 10 ∷ 128 ∷ 4 ∷ share in
    let all : length message ≡ 515 = omega (arith, size) in
    let front : varint (length message) ≡ 131 ∷ 4 ∷ [] = ap varint all ∙ varint-515 in
    ap (λ (l : List ℕ). bytes_field 1 l ++ rest) (message_is share size)
    ∙ ap (λ (l : List ℕ). l ++ rest) (bytes_field-is 1 message (omega arith) ∙ ap (λ (l : List ℕ). 10 ∷ l ++ message) front)

-- it is there
pub share_behind-is : (share : Share) (rest : List ℕ) → length share.0 ≡ 512 → share_behind 6 (share_field_text share ++ rest) ≡ share
share_behind-is share rest size =
    ap (share_behind 6) (share_entry_is share.0 rest size) ∙ ap (λ (l : List ℕ). record { 0 = l }) (take_at share.0 rest 512 size)

-- it has 518 bytes
pub share_rest : (share : Share) (rest : List ℕ) → length share.0 ≡ 512 → drop 518 (share_field_text share ++ rest) ≡ rest
share_rest share rest size = ap (drop 518) (share_entry_is share.0 rest size) ∙ drop_at share.0 rest 512 size

pub share_length : (share : Share) (rest : List ℕ) → length share.0 ≡ 512 → length (share_field_text share ++ rest) ≡ 518 + length rest
share_length share rest size = omega (arith, ap length (share_entry_is share.0 rest size), length-append share.0 rest, size)

-- ---- of shares that were written

-- how long they are
pub length-shares_text : (shares : List Share) → AreShares shares → length (shares_text shares) ≡ 518 * length shares
length-shares_text [] all = refl
length-shares_text (share ∷ shares) all =
    omega (arith, share_length share (shares_text shares) all.0.size_is, length-shares_text shares all.1)
