use Rattle.std.proofs.Common.{◌≡◌, ◌++◌, drop, map, string_bytes}
use Rattle.da_show.specs.Text.{following, cell_line}
use Rattle.da_show.proofs.text.lists.put_cells.Given as goal

-- what is there and what is left are all
abbrev pub invariant-loop-cell : goal.invariant-loop-cell
invariant-loop-cell l =
    string_bytes l.out ++ following (map cell_line (drop l.cell-index l.cells))
    ≡ string_bytes l.fn.out ++ following (map cell_line l.cells)
