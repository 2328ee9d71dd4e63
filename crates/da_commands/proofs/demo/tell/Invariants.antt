use Rattle.std.proofs.Common.{◌≡◌, IsSome, ◌↔◌}
use Rattle.da_commands.specs.Demo.{trial_bytes}
use Rattle.da_status.proofs.WriteLemmas.{Written}
use Rattle.da_commands.proofs.Answering.DemoLemmas.{bytes_from}
use Rattle.da_commands.proofs.demo.tell.Given as goal

-- the lines before number i were written, and no write failed
abbrev pub invariant-loop-i : goal.invariant-loop-i
invariant-loop-i g l = record {
  lines : Written (g.O.Sink.taken l.fn.out) (g.O.Sink.taken l.out) (trial_bytes l.trial) (bytes_from l.trial l.i);
  told : IsSome (g.O.Sink.taken l.fn.out) ↔ IsSome (g.O.Sink.taken l.out);
  faults : g.O.Sink.faults l.out ≡ g.O.Sink.faults l.fn.out;
}
