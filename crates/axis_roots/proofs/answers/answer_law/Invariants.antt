use Rattle.std.proofs.Common.{take}
use Rattle.std.specs.List.{All}
use Rattle.axis_roots.specs.Answers.{IsEntry}
use Rattle.axis_roots.proofs.answers.answer_law.Given as goal

-- so are those before this one
abbrev pub invariant-loop-entry : goal.invariant-loop-entry
invariant-loop-entry l = All IsEntry (take l.entry-index l.answer)
