use Rattle.std.proofs.Common.{◌≡◌, ◌*◌, drop}
use Rattle.celestia_pb.specs.Digests.{digests_in}
use Rattle.celestia_pb.proofs.inclusions.path_in.Given as goal

-- so many were taken, and the rest lies behind them
abbrev pub invariant-loop : goal.invariant-loop
invariant-loop l = record {
  items : l.path ≡ digests_in l.counter l.bytes;
  rest : l.rest ≡ drop (92 * l.counter) l.bytes;
}
