-- Cells as keys of maps and sets.
use Rattle.std.proofs.Common.{◌≡◌, ◌==◌, true, ap₂, ℕ}
use Rattle.std.proofs.lemmas.Bool.{and_parts, eqb-true}
use Rattle.namespace_id.specs.declared.cells.Cell.{Cell}
use Rattle.namespace_id.specs.contracts.cells.CellPartialEq.TheImpl.{eq-value}

-- cells that compare as equal are one
pub equal_cells : (a b : Cell) → eq-value.it a b ≡ true → a ≡ b
equal_cells a b e =
    let both = and_parts (a.row == b.row) (a.col == b.col) e in
    ap₂ (λ (r c : ℕ). record { row = r; col = c }) (eqb-true a.row b.row both.0) (eqb-true a.col b.col both.1)
