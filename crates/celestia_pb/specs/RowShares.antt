-- Shares in repeated fields: each as a message Share in a field 1.
use Rattle.std.specs.Prelude.{ℕ, zero, suc, List, [], ◌∷◌, flat_map, Option, Some, None, Result, Ok, Err}
use Rattle.namespace_id.specs.declared.shares.Share.{Share}
use Rattle.proto_fields.specs.Spelled.{bytes_field}
use Rattle.celestia_pb.specs.Reading.{then_read}
use Rattle.celestia_pb.specs.Messages.{optional_message}
use Rattle.celestia_pb.specs.Samples.{share_message, share_left}
use Rattle.celestia_pb.specs.ShareLists.{shares_behind}

-- ---- written

-- the field of a share
abbrev pub share_field_text : Share → List ℕ
share_field_text share = bytes_field 1 (share_message share)

-- those of shares
abbrev pub shares_text : List Share → List ℕ
shares_text shares = flat_map share_field_text shares

-- ---- read

-- the share in a field that may be in front, and what follows
abbrev pub share_field : List ℕ → Result (Option Share × List ℕ) ℕ
share_field bytes = optional_message (λ rest part. share_left part) 1 bytes

-- a share before others
abbrev pub with_share : Share → Result (List Share × List ℕ) ℕ → Result (List Share × List ℕ) ℕ
with_share share (Ok others) = Ok (share ∷ others.0, others.1)
with_share share (Err left) = Err left

-- a share that may have been there, and those that follow it
abbrev pub before_shares : (List ℕ → Result (List Share × List ℕ) ℕ) → Option Share → List ℕ → Result (List Share × List ℕ) ℕ
before_shares others None rest = Ok ([], rest)
before_shares others (Some share) rest = with_share share (others rest)

-- the shares in fields 1, as long as such a field is in front, at most so many, and what follows
unfoldable pub shares_at : ℕ → List ℕ → Result (List Share × List ℕ) ℕ
shares_at zero bytes = Ok ([], bytes)
shares_at (suc most) bytes = then_read (before_shares (shares_at most)) (share_field bytes)

-- ---- where they lie

-- the bytes of the field of a share
abbrev pub share_entry_size : ℕ
share_entry_size = 518

-- so many shares, each behind two tags and lengths
abbrev pub tagged_shares : ℕ → List ℕ → List Share
tagged_shares count bytes = shares_behind 6 count bytes
