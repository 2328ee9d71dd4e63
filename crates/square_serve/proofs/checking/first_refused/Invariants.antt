use Rattle.std.proofs.Common.{◌≡◌, drop}
use Rattle.square_serve.specs.Answers.{refused_from, first_refused}
use Rattle.square_serve.proofs.checking.first_refused.Given as goal

-- what is left to be found from here on is what is to be found
abbrev pub invariant-loop-i : goal.invariant-loop-i
invariant-loop-i l = refused_from l.header l.name l.i (drop l.i l.entries) ≡ first_refused l.header l.name l.entries
