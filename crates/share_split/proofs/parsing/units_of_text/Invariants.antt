use Rattle.std.proofs.Common.{◌≡◌, ◌≤◌, ◌-◌, ◌++◌, drop, length, ℕ, List}
use Rattle.share_split.specs.Walks.{units_from}
use Rattle.share_split.specs.Units.{starts_from}
use Rattle.share_split.specs.Steps.{behind_units}
use Rattle.share_split.proofs.parsing.units_of_text.Given as goal

-- the units so far and those of the text that is left are all, and the starts are theirs
abbrev pub invariant-loop-at : goal.invariant-loop-at
invariant-loop-at l = record {
  within : l.at ≤ length l.text;
  units : behind_units l.placed.units.items (units_from 0 l.at (drop l.at l.text)) ≡ units_from 0 0 l.text;
  starts : (more : List (List ℕ)) → l.placed.starts.items ++ starts_from l.at more ≡ starts_from 0 (l.placed.units.items ++ more);
}

abbrev pub decreases-loop-at : goal.decreases-loop-at
decreases-loop-at l = length l.text - l.at
