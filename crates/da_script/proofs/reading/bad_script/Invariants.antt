use Rattle.std.proofs.Common.{◌≡◌, ◌≤◌, ◌-◌, drop, length}
use Rattle.da_wire.specs.Walks.{stop_from}
use Rattle.da_script.specs.Scripts.{front_size, move_at}
use Rattle.da_script.proofs.reading.bad_script.Given as goal

-- the events so far are whole, and the bytes from here on decide
abbrev pub invariant-loop-at : goal.invariant-loop-at
invariant-loop-at l = record {
  within : l.at ≤ length l.script;
  rest : stop_from (move_at l.items) 0 l.at (drop l.at l.script)
      ≡ stop_from (move_at l.items) 0 (front_size l.script) (drop (front_size l.script) l.script);
}

abbrev pub decreases-loop-at : goal.decreases-loop-at
decreases-loop-at l = length l.script - l.at
