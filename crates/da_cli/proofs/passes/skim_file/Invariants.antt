use Rattle.std.proofs.Common.{◌-◌, ◌≤◌}
use Rattle.std.specs.String.{string_bytes}
use Rattle.da_cli.specs.Limits.{stream_limit}
use Rattle.da_cli.proofs.StreamedLemmas.{IsPassing}
use Rattle.da_cli.proofs.passes.skim_file.Given as goal

-- so many bytes were passed over
abbrev pub invariant-loop-count : goal.invariant-loop-count
invariant-loop-count g l = IsPassing g.I.Inputs (string_bytes l.fn.name) l.fn.inputs l.inputs l.taken × (l.taken ≤ stream_limit)

abbrev pub decreases-loop-count : goal.decreases-loop-count
decreases-loop-count g l = stream_limit - l.taken
