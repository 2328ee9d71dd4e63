use Rattle.std.proofs.Common.{◌≡◌, ◌+◌, ◌≤◌, ◌++◌, drop, length, vec_len, vec_capacity}
use Rattle.celestia_pb.specs.Digests.{digests_text}
use Rattle.celestia_pb.proofs.digests.put_digests.Given as goal

-- what is there and what is left are all, and there is capacity for what is left
abbrev pub invariant-loop-digest : goal.invariant-loop-digest
invariant-loop-digest l = record {
  all : l.out.items ++ digests_text l.number (drop l.digest-index l.digests) ≡ l.fn.out.items ++ digests_text l.number l.digests;
  len : vec_len l.out + length (digests_text l.number (drop l.digest-index l.digests)) ≡ vec_len l.fn.out + length (digests_text l.number l.digests);
  capacity : vec_capacity l.fn.out ≤ vec_capacity l.out;
}
