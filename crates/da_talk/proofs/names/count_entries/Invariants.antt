use Rattle.std.proofs.Common.{◌≡◌, ◌+◌, ◌≤◌, length, map}
use Rattle.square_serve.specs.Answers.{is_wanted}
use Rattle.square_serve.specs.Serving.{row_entry, answer_for}
use Rattle.square_serve.proofs.PassingLemmas.{passing_from}
use Rattle.da_talk.proofs.names.count_entries.Given as goal

-- those that are counted and those that are left are all
abbrev pub invariant-loop-row : goal.invariant-loop-row
invariant-loop-row l = record {
  all : l.count + length (map (row_entry l.held.k l.held.grid l.name) (passing_from (is_wanted l.held.header l.name) l.held.k l.row)) ≡ length (answer_for l.held l.name);
  few : l.count ≤ l.row;
}
