use Rattle.std.proofs.Common.{◌≡◌, ◌-◌, drop}
use Rattle.namespace_id.specs.Cells.{is_before}
use Rattle.namespace_id.specs.Lists.{holds_along}
use Rattle.namespace_id.proofs.cells.are_ascending.Given as goal

-- the cells from the one before on decide
abbrev pub invariant-loop-i : goal.invariant-loop-i
invariant-loop-i l = holds_along is_before (drop (l.i - 1) l.cells) ≡ holds_along is_before l.cells
