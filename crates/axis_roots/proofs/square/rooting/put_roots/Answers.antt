use Rattle.std.proofs.Common.{◌*◌, arith, below_more}
use Rattle.axis_roots.specs.Grids.{axis_root}
use Rattle.axis_roots.proofs.Grids.RootingLemmas.{strict_some, strict_none, roots_next, all_roots, all_ordered}
use Rattle.axis_roots.proofs.square.rooting.put_roots.Goals as goal

pub returns-in_default-clause-ordered : goal.returns-in_default-clause-ordered
returns-in_default-clause-ordered c = λ shares are leaves.
    strict_none c.args.k (2 * c.args.k) shares c.args.axis c.loop-index.index (omega arith) (c.in_default.ensures shares are leaves)

pub loop-index-preserved : goal.loop-index-preserved
loop-index-preserved c = record {
  ordered = λ shares are leaves.
      let found = strict_some c.args.k shares c.args.axis c.loop-index.index c.in-Some.root (c.in-Some.ensures shares are leaves) in
      below_more _ _ (c.loop-index.invariant.ordered shares are leaves) found.0;
  written = λ shares are leaves.
      let found = strict_some c.args.k shares c.args.axis c.loop-index.index c.in-Some.root (c.in-Some.ensures shares are leaves) in
      roots_next (axis_root c.args.k shares c.args.axis) c.loop-index.roots c.loop-index.index c.in-Some.root (omega arith) found.1
      (c.loop-index.invariant.written shares are leaves);
}

pub returns-clause-ordered : goal.returns-clause-ordered
returns-clause-ordered c = λ shares are leaves.
    all_ordered c.args.k (2 * c.args.k) shares c.args.axis (λ i h. c.loop-index.invariant.ordered shares are leaves i (omega arith))

pub returns-clause-roots : goal.returns-clause-roots
returns-clause-roots c = λ shares are leaves holds.
    all_roots c.args.k shares c.args.axis c.loop-index.roots (omega arith) (λ i h. c.loop-index.invariant.written shares are leaves i (omega arith))
