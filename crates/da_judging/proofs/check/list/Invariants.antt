use Rattle.std.proofs.Common.{◌≡◌, ◌&&◌, ◌++◌, length, IsSome, ◌↔◌}
use Rattle.da_wire.specs.Frames.{frames_of}
use Rattle.nmt_tree.specs.Queues.{queued}
use Rattle.da_judging.specs.Ahead.{AreAhead}
use Rattle.da_judging.specs.Check.{check_lines, are_ok}
use Rattle.da_status.proofs.WriteLemmas.{Written}
use Rattle.da_judging.proofs.check.list.Given as goal

-- the partial trees are those of this header, the digests of leaves ahead those of the frames left, the lines of the frames before were written or are held, no write failed,
-- and it is known whether all of them are proved
abbrev pub invariant-loop-frame : goal.invariant-loop-frame
invariant-loop-frame g l = record {
  trees : l.trees ≡ l.fn.trees;
  ahead : AreAhead l.header.k (queued l.queue) (frames_of l.rest);
  lines : Written (g.O.Sink.taken l.fn.out) (g.O.Sink.taken l.out) (check_lines l.header (frames_of l.messages)) (l.room ++ check_lines l.header (frames_of l.rest));
  ok : are_ok l.header (frames_of l.messages) ≡ (l.all_ok && are_ok l.header (frames_of l.rest));
  told : IsSome (g.O.Sink.taken l.fn.out) ↔ IsSome (g.O.Sink.taken l.out);
  faults : g.O.Sink.faults l.out ≡ g.O.Sink.faults l.fn.out;
}

-- how many bytes are left
abbrev pub decreases-loop-frame : goal.decreases-loop-frame
decreases-loop-frame g l = length l.rest
