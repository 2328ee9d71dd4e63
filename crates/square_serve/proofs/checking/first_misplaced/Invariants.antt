use Rattle.std.proofs.Common.{◌≡◌, ◌≤◌}
use Rattle.square_serve.specs.Answers.{first_misplaced}
use Rattle.square_serve.proofs.Judging.WalkLemmas.{walked}
use Rattle.square_serve.proofs.checking.first_misplaced.Given as goal

-- what is left to be found from here on is what is to be found
abbrev pub invariant-loop-row : goal.invariant-loop-row
invariant-loop-row l = record {
  few : l.next ≤ l.row;
  so_far : walked l.header l.name l.entries l.row l.next ≡ first_misplaced l.header l.name l.entries;
}
