use Rattle.std.proofs.Common.{◌≡◌, ◌∙◌, ◌*◌, ◌<◌, ℕ, List, Some, true, sym, arith}
use Rattle.std.proofs.lemmas.Bool.{true≢false}
use Rattle.namespace_id.specs.declared.cells.Axis.TheVariants.{Row}
use Rattle.namespace_id.specs.declared.shares.Share.{Share}
use Rattle.data_header.specs.Headers.{Roots}
use Rattle.axis_roots.specs.Grids.{is_ordered_axis, header_of_grid}
use Rattle.blob_commit.proofs.RowTreeLemmas.{row_ordered, some_of, if_some, row_tree_of}
use Rattle.blob_commit.proofs.trees.row_tree.Goals as goal

-- the names of the row don't fall, so there is a sample
filled : (k row : ℕ) (shares : List Share) (header : Roots) → header_of_grid k shares ≡ Some header → row < k → is_ordered_axis k shares Row row ≡ true
filled k row shares header e lt = row_ordered k shares header row e (omega (arith, lt))

pub unwrap-requires : goal.unwrap-requires
unwrap-requires c =
    some_of c.message_of.result (λ none. absurd (true≢false (sym (filled c.args.grid.now.k c.args.row c.args.grid.now.shares c.args.header.now c.requires.header c.requires.row) ∙ c.message_of.ensures.none.0 none)))

pub returns : goal.returns
returns c =
    let made = some_of c.message_of.result (λ none. absurd (true≢false (sym (filled c.args.grid.now.k c.args.row c.args.grid.now.shares c.args.header.now c.requires.header c.requires.row) ∙ c.message_of.ensures.none.0 none))) in
    let count : c.message_of.new.tree.count ≡ 2 * c.args.grid.now.k = omega (arith, c.message_of.ensures.count, c.in_ok-tree.ensures.count, c.width.ensures.value) in
    row_tree_of c.args.grid.now.k c.args.grid.now.shares c.args.header.now c.args.row c.message_of.new.tree c.width.ensures.grid.width c.requires.header c.requires.row count
    (if_some c.message_of.result _ made c.message_of.ensures.leaves)
