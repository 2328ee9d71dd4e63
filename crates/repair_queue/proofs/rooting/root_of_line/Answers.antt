use Rattle.std.proofs.Common.{rules, ◌≡◌, ◌∙◌, ℕ, ◌*◌, IsTrue, length, true, sym, ap, subst}
use Rattle.namespace_id.specs.Cells.{is_width}
use Rattle.nmt_tree.specs.Roots.{is_leaf_count}
use Rattle.data_header.specs.Headers.{Roots}
use Rattle.axis_roots.specs.Lines.{line_names}
use Rattle.repair_queue.proofs.Lines.MakeLemmas.{falls, rises}
use Rattle.repair_queue.proofs.rooting.root_of_line.Goals as goal

-- the names fall
pub returns-then-not-are_ordered-clause-root : goal.returns-then-not-are_ordered-clause-root
returns-then-not-are_ordered-clause-root c =
    falls c.args.header.now.k c.args.axis c.args.index c.args.line.now c.name_leaves.new.names
    (c.name_leaves.ensures ∙ ap (λ (h : Roots). line_names h.k c.args.axis c.args.index c.args.line.now) c.header.view_is)
    (sym c.are_ordered.ensures ∙ c.if-not-are_ordered.true)

pub fold_root-requires : goal.fold_root-requires
fold_root-requires c =
    let count : IsTrue (is_leaf_count (2 * c.args.header.now.k)) = search rules in
    subst (λ (n : ℕ). IsTrue (is_leaf_count n)) (sym (c.copy_from_slice.ensures.len ∙ c.requires.folded)) count

-- or they don't
pub returns-clause-root : goal.returns-clause-root
returns-clause-root c =
    rises c.args.header.now.k c.args.axis c.args.index c.args.line.now c.name_leaves.new.names c.digest_leaves.new.digests c.copy_from_slice.new.self
    (length c.copy_from_slice.new.self) c.fold_root.result
    (subst (λ (h : Roots). is_width h.k ≡ true) c.header.view_is c.header.invariant.width) c.requires.line
    (c.name_leaves.ensures ∙ ap (λ (h : Roots). line_names h.k c.args.axis c.args.index c.args.line.now) c.header.view_is) c.digest_leaves.ensures
    c.copy_from_slice.ensures.after (c.copy_from_slice.ensures.len ∙ c.requires.folded) c.fold_root.ensures
    (sym c.are_ordered.ensures ∙ c.if-not-are_ordered.false)
