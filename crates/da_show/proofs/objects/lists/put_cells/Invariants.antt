use Rattle.std.proofs.Common.{◌≡◌, ◌++◌, drop, string_bytes}
use Rattle.da_show.specs.JsonTexts.{items_from, list_text, cell_text}
use Rattle.da_show.proofs.objects.lists.put_cells.Given as goal

-- what is there and what is left are all
abbrev pub invariant-loop-cell : goal.invariant-loop-cell
invariant-loop-cell l =
    string_bytes l.out ++ items_from cell_text l.later (drop l.cell-index l.cells)
    ≡ string_bytes l.fn.out ++ list_text cell_text l.cells
