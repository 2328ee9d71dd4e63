use Rattle.namespace_id.proofs.RoomLemmas.{are_no_cells}
use Rattle.namespace_id.proofs.rooms.CellRoom.new.Goals as goal

-- no cell, and the memory that was asked for
pub invariant_of-result : goal.invariant_of-result
invariant_of-result c = record {
  cells = are_no_cells c.args.k c.in_ok-list.list.items c.requires.width c.in_ok-list.ensures.items;
  capacity = c.in_ok-list.ensures.capacity;
}
