use Rattle.std.proofs.Common.{◌≡◌, ◌≤◌, ◌+◌, length}
use Rattle.da_files.specs.Requests.{failing_from}
use Rattle.da_serving.proofs.serving.first_refused.Given as goal

-- the requests before all passed
abbrev pub invariant-loop-next : goal.invariant-loop-next
invariant-loop-next g l = record {
  first : failing_from (g.S.Server.passes l.square) 0 (g.S.Server.asked l.requests)
      ≡ failing_from (g.S.Server.passes l.square) l.number (g.S.Server.asked l.rest);
  few : l.number + length l.rest ≤ length l.requests;
}

-- how many bytes are left
abbrev pub decreases-loop-next : goal.decreases-loop-next
decreases-loop-next g l = length l.rest
