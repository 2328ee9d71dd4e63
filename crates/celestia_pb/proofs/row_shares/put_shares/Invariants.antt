use Rattle.std.proofs.Common.{◌≡◌, ◌+◌, ◌≤◌, ◌++◌, drop, length, vec_len, vec_capacity}
use Rattle.celestia_pb.specs.RowShares.{shares_text}
use Rattle.celestia_pb.proofs.row_shares.put_shares.Given as goal

-- what is there and what is left are all, and there is capacity for what is left
abbrev pub invariant-loop-share : goal.invariant-loop-share
invariant-loop-share l = record {
  all : l.out.items ++ shares_text (drop l.share-index l.shares) ≡ l.fn.out.items ++ shares_text l.shares;
  len : vec_len l.out + length (shares_text (drop l.share-index l.shares)) ≡ vec_len l.fn.out + length (shares_text l.shares);
  capacity : vec_capacity l.fn.out ≤ vec_capacity l.out;
}
