use Rattle.std.proofs.Common.{◌≡◌, ◌+◌, ◌*◌, ◌^◌, ◌≤◌, drop, length}
use Rattle.std.specs.List.{list_all}
use Rattle.celestia_pb.specs.NamespaceData.{namespace_data_text, has_part}
use Rattle.celestia_pb.proofs.namespace_data.entries_size.Given as goal

-- what was counted and what is left are all; those that were counted have messages
abbrev pub invariant-loop-entry : goal.invariant-loop-entry
invariant-loop-entry l = record {
  all : l.size + length (namespace_data_text (drop l.entry-index l.entries)) ≡ length (namespace_data_text l.entries);
  few : l.size ≤ 2 ^ 21 * l.entry-index;
  tests : list_all has_part l.entries ≡ list_all has_part (drop l.entry-index l.entries);
}
