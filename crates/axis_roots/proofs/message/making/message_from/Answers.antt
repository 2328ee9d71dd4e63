use Rattle.std.proofs.Common.{ap, refl}
use Rattle.nmt_tree.specs.Trees.{StoredTree}
use Rattle.axis_roots.specs.Messages.{index}
use Rattle.axis_roots.proofs.Messages.MessageLemmas.{opens_made}
use Rattle.axis_roots.proofs.message.making.message_from.Goals as goal

pub returns-clause-opens : goal.returns-clause-opens
returns-clause-opens c =
    opens_made c.args.grid.now.k c.args.tree.now.count (index c.args.axis c.args.cell) c.position.result c.args.grid.now.shares
    (record { cell = c.args.cell; axis = c.args.axis; share = c.cell.result.now; path = c.make_leaf.result }) c.args.tree.now.leaves
    c.law.ensures.width c.requires.cell c.message_law.ensures c.cell.ensures (ap (λ (t : StoredTree). t.count) c.requires.tree) refl
    c.position.ensures (ap (λ (t : StoredTree). t.leaves) c.requires.tree) c.make_leaf.ensures.leaf
