-- Samples of the cells of a decided row or column that are taken out.
use Rattle.std.proofs.Common.{◌≡◌, ◌∙◌, ℕ, ◌+◌, sym, ap, inl, inr, below_more}
use Rattle.std.specs.Prelude.{None}
use Rattle.namespace_id.specs.declared.cells.Cell.{Cell}
use Rattle.namespace_id.specs.declared.cells.Axis.{Axis}
use Rattle.namespace_id.specs.declared.cells.Axis.TheVariants.{Row, Col}
use Rattle.axis_roots.specs.Messages.{index}
use Rattle.axis_roots.specs.Lines.{cell_on}
use Rattle.axis_roots.proofs.Grids.AxisLemmas.{index-cell_on}
use Rattle.repair_queue.specs.Slots.{Kept, IsEmptied}
use Rattle.repair_queue.specs.Keeping.{IsClearedAt, IsClearedTo}
use Rattle.repair_queue.proofs.Places.PlaceLemmas.{same_cell}

-- both slots of a cell are empty where one and then the other was emptied
pub both_emptied : (old mid new : Kept) (cell : Cell) → IsEmptied old mid Row cell → IsEmptied mid new Col cell → IsClearedAt old new cell
both_emptied old mid new cell row col = record {
  here = elim [
    | Row ↦ col.elsewhere Row cell (λ x. let e : Row ≡ Col = x.0 in absurd cc) ∙ row.here
    | Col ↦ col.here
  ];
  elsewhere = λ other d apart. col.elsewhere other d (λ x. apart x.1) ∙ row.elsewhere other d (λ x. apart x.1);
}

-- one cell more
pub cleared_next : (old mid new : Kept) (axis : Axis) (i pos : ℕ) (cell : Cell) → cell ≡ cell_on axis i pos → IsClearedTo old mid axis i pos → IsClearedAt mid new cell
    → IsClearedTo old new axis i (pos + 1)
cleared_next old mid new axis i pos cell is to at = record {
  here = λ own. below_more (λ p. new own (cell_on axis i p) ≡ None) pos
      (λ p earlier. elim (same_cell (cell_on axis i p) cell) [
        | inl e ↦ ap (new own) e ∙ at.here own
        | inr apart ↦ at.elsewhere own (cell_on axis i p) apart ∙ to.here own p earlier
      ]) (ap (new own) (sym is) ∙ at.here own);
  each = λ own d. elim (same_cell d cell) [
    | inl e ↦ inr (ap (index axis) e ∙ ap (index axis) is ∙ index-cell_on axis i pos, ap (new own) e ∙ at.here own)
    | inr apart ↦ elim (to.each own d) [
      | inl same ↦ inl (at.elsewhere own d apart ∙ same)
      | inr gone ↦ inr (gone.0, at.elsewhere own d apart ∙ gone.1)
    ]
  ];
}
