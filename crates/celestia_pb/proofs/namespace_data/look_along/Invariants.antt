use Rattle.std.proofs.Common.{◌≡◌}
use Rattle.namespace_id.specs.Answers.{refusal_in}
use Rattle.celestia_pb.specs.NamespaceData.{entries_left}
use Rattle.celestia_pb.proofs.NamespaceDataLoops.{left_from}
use Rattle.celestia_pb.proofs.namespace_data.look_along.Given as goal

-- all are refused as those that are left
abbrev pub invariant-loop : goal.invariant-loop
invariant-loop l = refusal_in (entries_left l.rows l.bytes) ≡ refusal_in (left_from l.counter l.rows l.rest)
