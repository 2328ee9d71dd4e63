-- a write that failed put nothing
use Rattle.std.specs.Io.KnownBytes.{Keeps}
use Rattle.da_io.proofs.blocking.BlockingWrite.write.Given as goal

abbrev pub invariant-loop : goal.invariant-loop
invariant-loop g l = Keeps (g.S.Write.contents l.initial.self.stream) (g.S.Write.contents l.self.stream)
