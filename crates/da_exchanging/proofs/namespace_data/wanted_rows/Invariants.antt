use Rattle.std.proofs.Common.{◌≡◌}
use Rattle.std.specs.List.{filter}
use Rattle.namespace_id.specs.Lists.{ascending}
use Rattle.square_serve.specs.Answers.{is_wanted}
use Rattle.da_exchanging.proofs.namespace_data.wanted_rows.Given as goal

-- the rows before the next that may hold the namespace
abbrev pub invariant-loop-row : goal.invariant-loop-row
invariant-loop-row l = l.rows.items ≡ filter (is_wanted l.header l.name) (ascending 0 l.row)
