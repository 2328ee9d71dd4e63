use Rattle.std.proofs.Common.{◌∙◌, arith}
use Rattle.axis_roots.proofs.Grids.KeptLemmas.{codewords_next, kept_next}
use Rattle.axis_roots.proofs.square.extending.extend_axes.Goals as goal

pub loop-index-preserved : goal.loop-index-preserved
loop-index-preserved c = record {
  room = c.extend_axis.ensures.room ∙ c.loop-index.invariant.room;
  k = c.extend_axis.ensures.k ∙ c.loop-index.invariant.k;
  codewords = codewords_next c.args.grid.now.k c.loop-index.grid.k c.loop-index.grid.shares c.extend_axis.new.grid.shares c.args.axis c.loop-index.index
      c.loop-index.invariant.k (omega arith) c.extend_axis.ensures.codeword c.extend_axis.ensures.kept c.loop-index.invariant.codewords;
  kept = kept_next c.args.grid.now.k c.loop-index.grid.k c.args.grid.now.shares c.loop-index.grid.shares c.extend_axis.new.grid.shares c.args.axis
      c.loop-index.index c.loop-index.invariant.k c.extend_axis.ensures.kept c.loop-index.invariant.kept;
}
