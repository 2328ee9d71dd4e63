use Rattle.std.proofs.Common.{◌≡◌}
use Rattle.celestia_pb.specs.NamespaceData.{entries_left}
use Rattle.celestia_pb.proofs.NamespaceDataLoops.{left_from, with_entries}
use Rattle.celestia_pb.proofs.namespace_data.entries_in.Given as goal

-- the entries that were taken and those that are left are all
abbrev pub invariant-loop-i : goal.invariant-loop-i
invariant-loop-i l = entries_left l.rows l.bytes ≡ with_entries l.entries.items (left_from l.i l.rows l.rest)
