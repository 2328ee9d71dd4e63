use Rattle.std.proofs.Common.{arith}
use Rattle.namespace_id.proofs.RoomLemmas.{are_no_cells}
use Rattle.namespace_id.proofs.RowMajorLemmas.{cells_parts}
use Rattle.namespace_id.proofs.rooms.CellRoom.clear.Goals as goal

-- no cell, and the memory that there was
pub invariant_of-self : goal.invariant_of-self
invariant_of-self c = record {
  cells = are_no_cells c.self.inside.k c.clear.new.self.items
      (cells_parts c.self.inside.k c.self.inside.list.items c.self.invariant.cells).0 c.clear.ensures.items;
  capacity = omega (arith, c.clear.ensures.capacity, c.self.invariant.capacity);
}
