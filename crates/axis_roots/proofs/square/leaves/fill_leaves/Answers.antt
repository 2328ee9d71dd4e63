use Rattle.std.proofs.Common.{◌∙◌, inl, arith}
use Rattle.namespace_id.proofs.NumberLemmas.{inside}
use Rattle.axis_roots.proofs.Grids.QuarterLemmas.{row_next}
use Rattle.axis_roots.proofs.square.leaves.fill_leaves.Goals as goal

-- the leaves over the next row
pub loop-row-preserved : goal.loop-row-preserved
loop-row-preserved c =
    row_next c.args.grid.now.k c.args.grid.now.shares c.loop-row.leaves c.put_row.new.leaves c.loop-row.row c.put_row.ensures.leaves
    (λ number low. c.put_row.ensures.others number (inl low)) c.loop-row.invariant

-- at the end every row has had its turn
pub returns : goal.returns
returns c = record {
  count = c.loop-row.auto.leaves ∙ c.requires;
  digests = λ cell within.
      c.loop-row.invariant cell within (omega (arith, (inside c.args.grid.now.k cell within).0, c.loop-row-test.false, c.width-row-end.ensures.value));
}
