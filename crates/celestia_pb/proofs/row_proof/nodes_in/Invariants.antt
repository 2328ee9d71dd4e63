use Rattle.std.proofs.Common.{◌≡◌, ◌*◌, drop}
use Rattle.celestia_pb.specs.Digests.{digests_in}
use Rattle.celestia_pb.proofs.row_proof.nodes_in.Given as goal

-- so many were taken, and the rest lies behind them
abbrev pub invariant-loop : goal.invariant-loop
invariant-loop l = record {
  items : l.nodes ≡ digests_in l.counter l.bytes;
  rest : l.rest ≡ drop (92 * l.counter) l.bytes;
}
