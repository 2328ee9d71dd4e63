use Rattle.std.proofs.Common.{◌≡◌, ◌++◌, length, IsSome, ◌↔◌}
use Rattle.da_wire.specs.Values.{values_of}
use Rattle.da_commands.specs.Show.{all_kinds, shown_as, shown_bytes}
use Rattle.da_status.proofs.WriteLemmas.{Written}
use Rattle.da_commands.proofs.show.list.Given as goal

-- what is shown of the frames before was written or is held, and no write failed
abbrev pub invariant-loop-found : goal.invariant-loop-found
invariant-loop-found g l = record {
  shown : Written (g.O.Sink.taken l.fn.out) (g.O.Sink.taken l.out) (shown_bytes (shown_as l.form) (values_of all_kinds l.frames))
      (l.room ++ shown_bytes (shown_as l.form) (values_of all_kinds l.rest));
  told : IsSome (g.O.Sink.taken l.fn.out) ↔ IsSome (g.O.Sink.taken l.out);
  faults : g.O.Sink.faults l.out ≡ g.O.Sink.faults l.fn.out;
}

-- how many bytes are left
abbrev pub decreases-loop-found : goal.decreases-loop-found
decreases-loop-found g l = length l.rest
