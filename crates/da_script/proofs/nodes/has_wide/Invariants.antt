use Rattle.std.proofs.Common.{◌≡◌, ◌*◌, ◌-◌, ◌≤◌, length}
use Rattle.std.specs.List.{list_any}
use Rattle.da_script.specs.Scripts.{draws_at}
use Rattle.da_script.specs.Parts.{is_wide}
use Rattle.da_script.proofs.nodes.has_wide.Given as goal

-- none so far draws too many
abbrev pub invariant-loop : goal.invariant-loop
invariant-loop l = record {
  size : 34 * (l.count - l.counter) ≤ length l.rest;
  left : list_any (is_wide l.k) (draws_at (l.count - l.counter) l.rest) ≡ list_any (is_wide l.k) (draws_at l.count l.draws);
}
