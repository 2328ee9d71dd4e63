use Rattle.std.proofs.Common.{◌≡◌, ◌*◌, drop, vec_len}
use Rattle.celestia_pb.specs.Digests.{digests_in}
use Rattle.celestia_pb.proofs.digests.digests_in.Given as goal

-- so many were taken, and the rest lies behind them
abbrev pub invariant-loop : goal.invariant-loop
invariant-loop l = record {
  items : l.digests.items ≡ digests_in l.counter l.bytes;
  len : vec_len l.digests ≡ l.counter;
  rest : l.rest ≡ drop (92 * l.counter) l.bytes;
}
