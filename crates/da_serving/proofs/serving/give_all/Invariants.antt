use Rattle.std.proofs.Common.{◌≡◌, true, length}
use Rattle.std.specs.List.{AllByRecursion}
use Rattle.data_header.specs.Headers.{Roots}
use Rattle.axis_roots.specs.Grids.{IsHeaderOf}
use Rattle.da_serving.proofs.ServingLemmas.{IsServed}
use Rattle.da_serving.proofs.serving.give_all.Given as goal

-- the requests before were answered under the square's header, no write failed, and those to come pass and allow a frame each
abbrev pub invariant-loop-next : goal.invariant-loop-next
invariant-loop-next g l = record {
  under : (header : Roots) × IsHeaderOf header l.fn.square × g.S.Server.serves l.server l.fn.square header
      × IsServed (g.S.Server.allows l.fn.square header) (g.O.Sink.taken l.fn.out) (g.O.Sink.taken l.out) (g.O.Sink.faults l.fn.out) (g.O.Sink.faults l.out)
      (g.S.Server.asked l.requests) (g.S.Server.asked l.rest);
  pass : AllByRecursion (λ request. g.S.Server.passes l.fn.square request ≡ true) (g.S.Server.asked l.rest);
}

-- how many bytes are left
abbrev pub decreases-loop-next : goal.decreases-loop-next
decreases-loop-next g l = length l.rest
