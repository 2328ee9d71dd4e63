-- Missing cells that are told.
use Rattle.std.proofs.Common.{◌≡◌, ◌≢◌, ◌∙◌, ◌<◌, ℕ, List, [], ◌∷◌, ◌++◌, length, Some, refl, sym, ap, ap₂, arith}
use Rattle.namespace_id.specs.declared.cells.Cell.{Cell}
use Rattle.namespace_id.specs.Cells.{CellList}
use Rattle.da_wire.specs.declared.frames.Frame.TheVariants.{Missing}
use Rattle.da_wire.specs.Spelling.{spelling}
use Rattle.da_wire.specs.Writing.{AppendsSpelling}

-- a list that isn't empty has some cells
pub some_cells : (cells : List Cell) → cells ≢ [] → 0 < length cells
some_cells [] some = absurd (some refl)
some_cells (cell ∷ cells) some = omega arith

-- the spelling that was appended to no bytes is that of the cells
pub told_cells : (cells : CellList) (k : ℕ) (list : List Cell) (old new : List ℕ) → k ≡ cells.k → list ≡ cells.list → old ≡ []
    → AppendsSpelling (Missing (record { k = k; list = list })) old new → spelling (Missing cells) ≡ Some new
told_cells cells k list old new width same none appends =
    ap₂ (λ (w : ℕ) (l : List Cell). spelling (Missing (record { k = w; list = l }))) (sym width) (sym same) ∙ appends.1
    ∙ ap Some (sym (appends.2 ∙ ap (λ (l : List ℕ). l ++ appends.0) none))
