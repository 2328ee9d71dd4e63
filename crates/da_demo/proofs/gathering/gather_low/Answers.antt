use Rattle.std.proofs.Common.{◌∙◌, ap, ℕ, arith}
use Rattle.namespace_id.specs.declared.cells.Axis.TheVariants.{Col}
use Rattle.axis_roots.specs.Trees.{message_at}
use Rattle.da_demo.specs.Sessions.{low_cell}
use Rattle.da_demo.proofs.GatheredLemmas.{gathered_none, gathered_more, gathered_all}
use Rattle.da_demo.proofs.gathering.gather_low.Goals as goal

-- none yet
pub loop-col-init : goal.loop-col-init
loop-col-init c = record {
  gathered = gathered_none c.args.header.now
      (λ col. message_at c.args.grid.now.k c.args.grid.now.shares (low_cell c.args.grid.now.k col) Col)
      c.args.gathered.now;
  under = c.requires.header;
  few = omega (arith, c.requires.none);
}

-- one more
pub loop-col-preserved : goal.loop-col-preserved
loop-col-preserved c = record {
  gathered = λ before.
      gathered_more c.args.header.now
      (λ col. message_at c.args.grid.now.k c.args.grid.now.shares (low_cell c.args.grid.now.k col) Col) c.loop-col.col
      c.message_at.result c.loop-col.gathered c.take_in.new.self
      (c.message_at.ensures
      ∙ ap (λ (k : ℕ). message_at c.args.grid.now.k c.args.grid.now.shares (low_cell k c.loop-col.col) Col)
      c.width-k.ensures.value)
      (c.loop-col.invariant.gathered before) c.in_ok-take_in.ensures.gathered;
  under = c.take_in.ensures.header;
  few = omega (arith, c.loop-col.invariant.few, c.take_in.ensures.near);
}

-- all
pub returns : goal.returns
returns c = λ before.
    gathered_all c.args.header.now
    (λ col. message_at c.args.grid.now.k c.args.grid.now.shares (low_cell c.args.grid.now.k col) Col)
    c.loop-col.col c.args.grid.now.k c.loop-col.gathered
    (omega (arith, c.width-k.ensures.value)) (c.loop-col.invariant.gathered before)
