use Rattle.std.proofs.Common.{◌≡◌, ◌+◌, length}
use Rattle.wire_tests.proofs.streams.counted.Given as goal

-- the bytes that were taken, and those that are left
abbrev pub invariant-loop-rest : goal.invariant-loop-rest
invariant-loop-rest l = l.stream.taken + length l.rest ≡ length l.fn.bytes

abbrev pub decreases-loop-rest : goal.decreases-loop-rest
decreases-loop-rest l = length l.rest
