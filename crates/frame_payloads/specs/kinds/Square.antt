-- The payload of an original square (docs/FORMATS.md, "Payloads").
use Rattle.std.specs.Prelude.{ℕ, ◌*◌, List, length, Option, Some, None, if◌then◌else◌, not, ◌==◌, ◌++◌}
use Rattle.std.specs.Int.{w16, to_be_bytes}
use Rattle.namespace_id.specs.Cells.{is_width}
use Rattle.namespace_id.specs.Sizes.{share_size}
use Rattle.square_layout.specs.Blocks.{SquareShares}
use Rattle.frame_fields.specs.Fields.{◌>>=◌, big_endian_at, shares_of}
use Rattle.namespace_id.specs.Shares.{share_bytes}

-- a width, and its shares, row-major
abbrev pub square_payload : SquareShares → List ℕ
square_payload s = to_be_bytes w16 s.k ++ share_bytes s.shares

-- a width k, and the k * k shares of a square of this width
unfoldable pub square_at : List ℕ → Option SquareShares
square_at bytes = do
  k ← big_endian_at w16 bytes
  if not (is_width k.0) then None else
      if length k.1 == share_size * (k.0 * k.0)
      then Some (record { k = k.0; shares = shares_of (k.0 * k.0) k.1 })
      else None
