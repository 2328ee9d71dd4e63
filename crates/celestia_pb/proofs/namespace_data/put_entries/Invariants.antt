use Rattle.std.proofs.Common.{◌≡◌, ◌+◌, ◌≤◌, ◌++◌, true, drop, length, vec_len, vec_capacity}
use Rattle.std.specs.List.{list_all}
use Rattle.celestia_pb.specs.NamespaceData.{namespace_data_text, has_part}
use Rattle.celestia_pb.proofs.namespace_data.put_entries.Given as goal

-- what is there and what is left are all, there is capacity for what is left, and what is left has messages
abbrev pub invariant-loop-entry : goal.invariant-loop-entry
invariant-loop-entry l = record {
  all : l.out.items ++ namespace_data_text (drop l.entry-index l.entries) ≡ l.fn.out.items ++ namespace_data_text l.entries;
  len : vec_len l.out + length (namespace_data_text (drop l.entry-index l.entries)) ≡ vec_len l.fn.out + length (namespace_data_text l.entries);
  capacity : vec_capacity l.fn.out ≤ vec_capacity l.out;
  tests : list_all has_part (drop l.entry-index l.entries) ≡ true;
}
