use Rattle.std.proofs.Common.{◌≡◌, ◌+◌, ◌≤◌, ◌++◌, drop, length, vec_len, vec_capacity}
use Rattle.namespace_id.specs.Shares.{share_bytes}
use Rattle.celestia_pb.proofs.share_lists.put_shares.Given as goal

-- what is there and what is left are all, and there is capacity for what is left
abbrev pub invariant-loop-share : goal.invariant-loop-share
invariant-loop-share l = record {
  all : l.out.items ++ share_bytes (drop l.share-index l.shares) ≡ l.fn.out.items ++ share_bytes l.shares;
  len : vec_len l.out + length (share_bytes (drop l.share-index l.shares)) ≡ vec_len l.fn.out + length (share_bytes l.shares);
  capacity : vec_capacity l.fn.out ≤ vec_capacity l.out;
}
