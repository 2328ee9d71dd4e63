-- The payload of a header (docs/FORMATS.md, "Payloads").
use Rattle.std.specs.Prelude.{ℕ, ◌*◌, List, length, take, drop, Option, Some, None, if◌then◌else◌, not, ◌==◌, ◌++◌}
use Rattle.std.specs.Int.{w16, to_be_bytes}
use Rattle.namespace_id.specs.Cells.{is_width}
use Rattle.data_header.specs.Headers.{Roots}
use Rattle.frame_fields.specs.Fields.{◌>>=◌, big_endian_at, digests_of}
use Rattle.frame_payloads.specs.codec.Texts.{digest_bytes}

-- a width, the roots of the rows, the roots of the columns
abbrev pub header_payload : Roots → List ℕ
header_payload h = to_be_bytes w16 h.k ++ digest_bytes h.rows ++ digest_bytes h.cols

-- 2k digests, and 2k digests
abbrev pub roots_of : ℕ → List ℕ → Roots
roots_of k bytes = record {
  k = k;
  rows = digests_of (2 * k) (take (180 * k) bytes);
  cols = digests_of (2 * k) (drop (180 * k) bytes);
}

-- a width k, and the roots of a header of this width
unfoldable pub header_at : List ℕ → Option Roots
header_at bytes = do
  k ← big_endian_at w16 bytes
  if not (is_width k.0) then None else
      if length k.1 == 360 * k.0 then Some (roots_of k.0 k.1) else None
