-- The sample that a payload is (docs/FORMATS.md, "Payloads").
use Rattle.axis_roots.specs.declared.message.messages.Message as sent
use Rattle.std.specs.Prelude.{ℕ, List, length, Option, Some, None, if◌then◌else◌, ◌==◌}
use Rattle.namespace_id.specs.declared.cells.Cell.{Cell}
use Rattle.namespace_id.specs.declared.shares.Share.{Share}
use Rattle.namespace_id.specs.Sizes.{share_size, most_depth}
use Rattle.namespace_id.specs.Shares.{share_of}
use Rattle.frame_fields.specs.Fields.{◌>>=◌, string_at, axis_at, cell_at, path_at}

-- a sample at the front of bytes, and the bytes after it
unfoldable pub message_front : List ℕ → Option (sent.Message × List ℕ)
message_front bytes = do
  cell ← cell_at bytes
  axis ← axis_at cell.1
  share ← string_at share_size axis.1
  path ← path_at most_depth share.1
  Some (
    record {
      cell = cell.0;
      axis = axis.0;
      share = share_of share.0;
      path = path.0;
    },
    path.1,
  )

-- a sample that is all of the bytes
unfoldable pub message_at : List ℕ → Option sent.Message
message_at bytes = do
  front ← message_front bytes
  if length front.1 == 0 then Some front.0 else None

-- the cell and the share of a sample at the front of bytes, of which its nodes aren't read
unfoldable pub shown_front : List ℕ → Option (Cell × Share)
shown_front bytes = do
  cell ← cell_at bytes
  axis ← axis_at cell.1
  share ← string_at share_size axis.1
  Some (cell.0, share_of share.0)
