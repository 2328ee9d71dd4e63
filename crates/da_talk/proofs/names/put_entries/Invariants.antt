use Rattle.std.proofs.Common.{◌≡◌, ◌+◌, ◌-◌, ◌*◌, ◌≤◌, ◌++◌, map, vec_len, vec_capacity}
use Rattle.std.specs.List.{flat_map}
use Rattle.square_serve.specs.Answers.{is_wanted}
use Rattle.square_serve.specs.Serving.{row_entry, answer_for}
use Rattle.square_serve.proofs.PassingLemmas.{passing_from}
use Rattle.frame_payloads.specs.kinds.Names.{entry_bytes}
use Rattle.da_talk.specs.Replies.{most_entry}
use Rattle.da_talk.proofs.names.put_entries.Given as goal

-- what is there and what is left are all, and there is room for what is left
abbrev pub invariant-loop-row : goal.invariant-loop-row
invariant-loop-row l = record {
  kept : l.held ≡ l.fn.held;
  all : l.text.items ++ flat_map entry_bytes (map (row_entry l.fn.held.k l.fn.held.grid l.name) (passing_from (is_wanted l.fn.held.header l.name) l.fn.held.k l.row))
      ≡ l.fn.text.items ++ flat_map entry_bytes (answer_for l.fn.held l.name);
  len : vec_len l.text + most_entry l.fn.held.k * (l.fn.held.k - l.row) ≤ vec_len l.fn.text + most_entry l.fn.held.k * l.fn.held.k;
  capacity : vec_capacity l.fn.text ≤ vec_capacity l.text;
}
