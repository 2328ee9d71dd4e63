use Rattle.std.proofs.Common.{◌≡◌, ◌+◌, ◌≤◌, ◌++◌, drop, length, vec_len, vec_capacity}
use Rattle.proto_fields.specs.Canonical.{parts_text}
use Rattle.celestia_pb.proofs.aunts.put_aunts.Given as goal

-- what is there and what is left are all, and there is capacity for what is left
abbrev pub invariant-loop-hash : goal.invariant-loop-hash
invariant-loop-hash l = record {
  all : l.out.items ++ parts_text l.number (drop l.hash-index l.hashes) ≡ l.fn.out.items ++ parts_text l.number l.hashes;
  len : vec_len l.out + length (parts_text l.number (drop l.hash-index l.hashes)) ≡ vec_len l.fn.out + length (parts_text l.number l.hashes);
  capacity : vec_capacity l.fn.out ≤ vec_capacity l.out;
}
