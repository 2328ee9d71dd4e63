use Rattle.std.proofs.Common.{◌≡◌, ◌-◌, ◌≤◌, length, take, IsSome, ◌↔◌}
use Rattle.std.specs.Io.KnownBytes.{Appends}
use Rattle.da_io.proofs.whole.write_all.Given as goal

-- the front of the piece was appended, and no call has failed
abbrev pub invariant-loop-at : goal.invariant-loop-at
invariant-loop-at g l = record {
  within : l.at ≤ length l.bytes;
  taken : Appends (g.O.Sink.taken l.fn.out) (g.O.Sink.taken l.out) (take l.at l.bytes);
  told : IsSome (g.O.Sink.taken l.fn.out) ↔ IsSome (g.O.Sink.taken l.out);
  faults : g.O.Sink.faults l.out ≡ g.O.Sink.faults l.fn.out;
}

-- how many bytes are still to be taken
abbrev pub decreases-loop-at : goal.decreases-loop-at
decreases-loop-at g l = length l.bytes - l.at
