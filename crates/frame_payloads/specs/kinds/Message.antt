-- The payload of a sample (docs/FORMATS.md, "Payloads").
use Rattle.axis_roots.specs.declared.message.messages.Message as sent
use Rattle.std.specs.Prelude.{ℕ, ◌+◌, ◌*◌, List, [], ◌∷◌, length, ◌++◌}
use Rattle.std.specs.Int.{w16, to_be_bytes}
use Rattle.namespace_id.specs.Sizes.{share_size, digest_size, most_depth}
use Rattle.frame_payloads.specs.codec.Texts.{digest_bytes, axis_byte}

-- a cell, an axis, a share, and a path behind the number of its nodes
abbrev pub message_payload : sent.Message → List ℕ
message_payload m =
    to_be_bytes w16 m.cell.row ++ to_be_bytes w16 m.cell.col ++ axis_byte m.axis ∷ []
    ++ m.share.0 ++ length m.path ∷ digest_bytes m.path

-- the most bytes of such a payload
abbrev pub most_message : ℕ
most_message = 6 + share_size + digest_size * most_depth
