use Rattle.std.proofs.Common.{length}
use Rattle.nmt_tree.specs.Queues.{queued}
use Rattle.da_wire.specs.Frames.{frames_of}
use Rattle.da_judging.proofs.AheadLemmas.{Leads}
use Rattle.da_judging.proofs.ahead.fill.Given as goal

-- the leaves so far are those that the frames before show
abbrev pub invariant-frames : goal.invariant-frames
invariant-frames l = Leads l.k (queued l.queue) (frames_of l.rest) (frames_of l.bytes)

-- how many bytes are left
abbrev pub decreases-frames : goal.decreases-frames
decreases-frames l = length l.rest
