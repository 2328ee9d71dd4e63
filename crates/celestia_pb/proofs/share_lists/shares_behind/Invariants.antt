use Rattle.std.proofs.Common.{◌≡◌, ◌+◌, ◌*◌, drop, vec_len}
use Rattle.celestia_pb.specs.ShareLists.{shares_behind}
use Rattle.celestia_pb.proofs.share_lists.shares_behind.Given as goal

-- so many were taken, and the rest lies behind them
abbrev pub invariant-loop : goal.invariant-loop
invariant-loop l = record {
  items : l.shares.items ≡ shares_behind l.front l.counter l.bytes;
  len : vec_len l.shares ≡ l.counter;
  rest : l.rest ≡ drop ((l.front + 512) * l.counter) l.bytes;
}
