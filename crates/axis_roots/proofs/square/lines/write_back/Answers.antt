use Rattle.std.proofs.Common.{◌≡◌, ◌∙◌, ◌+◌, ap, arith}
use Rattle.axis_roots.specs.Lines.{cell_on}
use Rattle.axis_roots.proofs.Grids.KeptLemmas.{back_next, back_kept, backed}
use Rattle.axis_roots.proofs.square.lines.write_back.Goals as goal

pub loop-pos-preserved : goal.loop-pos-preserved
loop-pos-preserved c =
    let on : c.cell_on.result ≡ cell_on c.args.axis c.args.index (c.args.grid.now.k + c.loop-pos.pos) =
    c.cell_on.ensures ∙ ap (λ n. cell_on c.args.axis c.args.index (n + c.loop-pos.pos)) c.width-k.ensures.value in
    record {
      k = omega arith;
      written = back_next c.args.grid.now.k c.loop-pos.grid.k c.loop-pos.grid.shares c.set.new.self.shares c.args.line.now c.args.axis c.args.index
          c.loop-pos.pos c.cell_on.result _ c.loop-pos.invariant.k on c.requires.index (omega arith) c.requires.line c.set.ensures.cell
          c.set.ensures.others c.loop-pos.invariant.written;
      kept = back_kept c.args.grid.now.k c.loop-pos.grid.k c.args.grid.now.shares c.loop-pos.grid.shares c.set.new.self.shares c.args.axis c.args.index
          c.loop-pos.pos c.cell_on.result c.loop-pos.invariant.k on c.set.ensures.others c.loop-pos.invariant.kept;
    }

pub returns-clause-line : goal.returns-clause-line
returns-clause-line c =
    backed c.args.grid.now.k c.args.grid.now.shares c.loop-pos.grid.shares c.args.line.now c.args.axis c.args.index c.requires.index c.requires.line
    (λ pos h. c.loop-pos.invariant.written pos (omega arith)) c.loop-pos.invariant.kept
