use Rattle.std.proofs.Common.{◌∙◌, List, Some, map, sym, ap, ap₂}
use Rattle.namespace_id.specs.declared.digests.Digest.{Digest}
use Rattle.axis_roots.specs.Trees.{stored_root}
use Rattle.axis_roots.proofs.Grids.StoredLemmas.{header-stored}
use Rattle.axis_roots.proofs.square.trees.Trees.header.Goals as goal

pub returns : goal.returns
returns c = λ k shares made.
    header-stored k shares (record { k = c.self.inside.k; rows = c.self.inside.rows.items; cols = c.self.inside.cols.items }) c.self.invariant.width
    (made ∙ ap Some (sym c.self.view_is))
    ∙ ap₂ (λ (rows cols : List Digest). Some (record { k = c.self.inside.k; rows = rows; cols = cols }))
    (sym (c.in_ok-rows.ensures ∙ ap (map stored_root) c.deref.ensures.value)) (sym (c.in_ok-cols.ensures ∙ ap (map stored_root) c.deref-2.ensures.value))
