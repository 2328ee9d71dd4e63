use Rattle.std.proofs.Common.{◌≡◌, ◌∙◌, ◌*◌, ℕ}
use Rattle.data_header.specs.Headers.{Roots}
use Rattle.axis_roots.specs.Partials.{roots_in}
use Rattle.axis_roots.proofs.Messages.PartialLemmas.{trees_roots, trees_leaves, trees_count}
use Rattle.axis_roots.proofs.message.partials.PartialTrees.new.Goals as goal

-- there is a tree for each root of the header
pub invariant_of-result : goal.invariant_of-result
invariant_of-result c =
    let n : ℕ = 2 * c.header.inside.k in record {
      width = c.header.invariant.width;
      row_count = trees_count n n c.in_ok-rows.rows.items c.deref.result.now c.header.inside.rows.items c.in_ok-rows.ensures.trees c.deref.ensures.value c.header.invariant.rows;
      col_count = trees_count n n c.in_ok-cols.cols.items c.deref-2.result.now c.header.inside.cols.items c.in_ok-cols.ensures.trees c.deref-2.ensures.value c.header.invariant.cols;
      row_leaves = trees_leaves n c.in_ok-rows.rows.items c.deref.result.now c.in_ok-rows.ensures.trees;
      col_leaves = trees_leaves n c.in_ok-cols.cols.items c.deref-2.result.now c.in_ok-cols.ensures.trees;
    }

-- the roots in them are those of the header
pub returns : goal.returns
returns c =
    let n : ℕ = 2 * c.header.inside.k in
    let rows : roots_in c.in_ok-rows.rows.items ≡ c.header.inside.rows.items =
    trees_roots n c.in_ok-rows.rows.items c.deref.result.now c.header.inside.rows.items c.in_ok-rows.ensures.trees c.deref.ensures.value in
    let cols : roots_in c.in_ok-cols.cols.items ≡ c.header.inside.cols.items =
    trees_roots n c.in_ok-cols.cols.items c.deref-2.result.now c.header.inside.cols.items c.in_ok-cols.ensures.trees c.deref-2.ensures.value in
    (λ j. let header : Roots = record { k = c.header.inside.k; rows = rows j; cols = cols j } in header) ∙ c.header.view_is
