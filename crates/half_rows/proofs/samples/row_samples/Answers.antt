use Rattle.std.proofs.Common.{◌∙◌, cond, Some, None, List, sym, ap, subst}
use Rattle.namespace_id.specs.declared.shares.Share.{Share}
use Rattle.namespace_id.specs.declared.cells.Axis.TheVariants.{Row}
use Rattle.axis_roots.specs.Trees.{line_stored}
use Rattle.celestia_pb.specs.HalfRows.{HalfParts, IsHalf}
use Rattle.half_rows.specs.Rows.{is_ordered_row}
use Rattle.half_rows.proofs.RowLemmas.{row_falls}
use Rattle.half_rows.proofs.samples.row_samples.Goals as goal

-- the namespaces of the row fall, which is one
pub returns-in_default-clause-unordered : goal.returns-in_default-clause-unordered
returns-in_default-clause-unordered c = λ _.
    row_falls c.args.half c.width_of-k.result c.args.row c.in_ok-line.line.items (subst (λ (h : HalfParts). IsHalf h) c.half.view_is c.half.invariant)
    c.width_of-k.ensures.value c.in_ok-line.ensures.row
    (sym c.in_default.is ∙ c.in_ok-tree.ensures
    ∙ ap (λ (l : List Share). cond (is_ordered_row c.width_of-k.result c.args.row l) (Some (line_stored c.width_of-k.result Row c.args.row l)) None) c.deref.ensures.value)
