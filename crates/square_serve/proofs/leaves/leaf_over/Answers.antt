use Rattle.std.proofs.Common.{◌∙◌, ℕ, ap₂}
use Rattle.namespace_id.specs.declared.shares.Share.{Share}
use Rattle.namespace_id.specs.Cells.{leaf_namespace}
use Rattle.nmt_tree.specs.Digests.{leaf_digest}
use Rattle.square_serve.proofs.NeededLemmas.{leaf_put}
use Rattle.square_serve.proofs.leaves.leaf_over.Goals as goal

pub returns-clause-leaves : goal.returns-clause-leaves
returns-clause-leaves c =
    leaf_put c.args.grid.now.k c.args.grid.now.shares c.args.leaves.now _ c.args.cell c.leaf-digest.result c.requires.cell
    c.place-place.ensures.place
    (c.leaf-digest.ensures
    ∙ ap₂ leaf_digest (c.leaf_namespace-name.ensures ∙ ap₂ (λ (k : ℕ) (share : Share). leaf_namespace k c.args.cell share) c.width.ensures.value c.cell.ensures) c.cell-2.ensures)
    c.requires.leaves
