-- a read that failed took nothing, and the buffer keeps its length
use Rattle.std.specs.Prelude.{◌≡◌, length}
use Rattle.std.specs.Io.KnownBytes.{Keeps}
use Rattle.da_io.proofs.blocking.BlockingRead.read.Given as goal

abbrev pub invariant-loop : goal.invariant-loop
invariant-loop g l =
    (length l.buf ≡ length l.initial.buf) × Keeps (g.S.Read.remaining l.initial.self.stream) (g.S.Read.remaining l.self.stream)
