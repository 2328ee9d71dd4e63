use Rattle.std.proofs.Common.{◌≡◌, ◌-◌, drop, map}
use Rattle.std.specs.Prelude.{nat_lt}
use Rattle.namespace_id.specs.Lists.{holds_along}
use Rattle.axis_roots.specs.Messages.{position}
use Rattle.axis_roots.proofs.message.messages.are_ascending.Given as goal

-- the positions from the one before on decide
abbrev pub invariant-loop-i : goal.invariant-loop-i
invariant-loop-i l =
    holds_along nat_lt (drop (l.i - 1) (map (λ m. position l.axis m.cell) l.cells)) ≡ holds_along nat_lt (map (λ m. position l.axis m.cell) l.cells)
