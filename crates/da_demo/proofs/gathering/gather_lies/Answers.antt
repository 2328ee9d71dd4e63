use Rattle.std.proofs.Common.{arith}
use Rattle.namespace_id.specs.declared.cells.Axis.TheVariants.{Row}
use Rattle.axis_roots.specs.Trees.{message_at}
use Rattle.da_demo.specs.Sessions.{spoiled_message, lie_cell}
use Rattle.da_demo.proofs.GatheredLemmas.{gathered_none, gathered_more, gathered_all, lie_is}
use Rattle.da_demo.proofs.gathering.gather_lies.Goals as goal

-- none yet
pub loop-i-init : goal.loop-i-init
loop-i-init c = record {
  gathered = gathered_none c.args.header.now
      (λ i. spoiled_message (message_at c.args.grid.now.k c.args.grid.now.shares (lie_cell i) Row)) c.args.gathered.now;
  under = c.requires.header;
  few = omega (arith, c.requires.none);
}

-- one more
pub loop-i-preserved : goal.loop-i-preserved
loop-i-preserved c = record {
  gathered = λ before.
      gathered_more c.args.header.now
      (λ i. spoiled_message (message_at c.args.grid.now.k c.args.grid.now.shares (lie_cell i) Row)) c.loop-i.i _
      c.loop-i.gathered c.take_in.new.self
      (lie_is c.message_at-message.result
      (message_at c.args.grid.now.k c.args.grid.now.shares (lie_cell c.loop-i.i) Row) c.spoil.new.share
      c.message_at-message.ensures c.spoil.ensures)
      (c.loop-i.invariant.gathered before) c.in_ok-take_in.ensures.gathered;
  under = c.take_in.ensures.header;
  few = omega (arith, c.loop-i.invariant.few, c.take_in.ensures.near);
}

-- all
pub returns-clause-gathered : goal.returns-clause-gathered
returns-clause-gathered c = λ before.
    gathered_all c.args.header.now
    (λ i. spoiled_message (message_at c.args.grid.now.k c.args.grid.now.shares (lie_cell i) Row))
    c.loop-i.i c.args.grid.now.k c.loop-i.gathered
    (omega (arith, c.width-i-end.ensures.value)) (c.loop-i.invariant.gathered before)
