use Rattle.std.proofs.Common.{◌≡◌, ◌+◌, ◌≤◌, ◌++◌, drop, length, map}
use Rattle.std.specs.List.{flat_map}
use Rattle.frame_payloads.specs.kinds.Fraud.{cell_payload}
use Rattle.frame_payloads.proofs.kinds.fraud_set.put_cells.Given as goal

-- what is held and what is left are all, and so are their lengths
abbrev pub invariant-loop-cell : goal.invariant-loop-cell
invariant-loop-cell g l = record {
  held : g.O.Out.held l.out ++ map g.O.Out.byte (flat_map (cell_payload l.axis) (drop l.cell-index l.cells)) ≡ g.O.Out.held l.fn.out ++ map g.O.Out.byte (flat_map (cell_payload l.axis) l.cells);
  taken : g.O.Out.taken l.out + length (flat_map (cell_payload l.axis) (drop l.cell-index l.cells)) ≡ g.O.Out.taken l.fn.out + length (flat_map (cell_payload l.axis) l.cells);
  limit : g.O.Out.limit l.fn.out ≤ g.O.Out.limit l.out;
}
