-- A session as contracts see it, by its fields.
use Rattle.std.specs.Prelude.{map, Option, Some, None}
use Rattle.data_header.specs.Headers.{Roots}
use Rattle.axis_roots.specs.declared.message.messages.Message.{Message}
use Rattle.axis_roots.specs.declared.message.proved.Proved.{Proved}
use Rattle.axis_roots.specs.Proved.{kept_message}
use Rattle.repair_queue.specs.declared.boards.Board.{Board}
use Rattle.repair_queue.specs.declared.ending.Ending.{Ending}
use Rattle.repair_queue.specs.declared.ending.Ending.TheVariants.{Fraud, Clash}
use Rattle.repair_queue.specs.SessionParts.{SessionParts, SessionEnd, going, accused, collided}

-- what ended it
abbrev pub end_of : Option Ending → SessionEnd
end_of None = going
end_of (Some (Fraud proof)) = accused proof.claim
end_of (Some (Clash clash)) = collided clash.left clash.right

-- the sample of a certificate, if there is one
abbrev pub certified_message : Option Proved → Option Message
certified_message None = None
certified_message (Some kept) = Some (kept_message kept)

-- a session by its header, its board and what ended it
abbrev pub parts_by : Roots → Board → Option Ending → SessionParts
parts_by header b end = record {
  header = header;
  kept = map certified_message b.pool.given;
  row_places = b.pool.places.rows;
  col_places = b.pool.places.cols;
  row_marks = b.marks.rows.items;
  col_marks = b.marks.cols.items;
  shares = b.grid.shares;
  ended = end_of end;
}
