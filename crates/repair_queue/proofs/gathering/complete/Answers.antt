use Rattle.std.proofs.Common.{arith}
use Rattle.repair_queue.proofs.Lines.CompleteLemmas.{originals_known}
use Rattle.repair_queue.proofs.gathering.complete.Goals as goal

pub overflow_sub-k : goal.overflow_sub-k
overflow_sub-k c = omega (arith, c.requires.positive)

pub bounds-known-k : goal.bounds-known-k
bounds-known-k c = omega (arith, c.requires.positive, c.requires.known.count)

-- the originals are given
pub returns-then-known-k-clause-entries : goal.returns-then-known-k-clause-entries
returns-then-known-k-clause-entries c =
    originals_known c.args.k c.args.known.now c.args.given.now c.copy_from_slice.new.self c.extend.new.recovery c.requires.known c.requires.given c.copy_from_slice.ensures.after
    c.if-known-k.true
