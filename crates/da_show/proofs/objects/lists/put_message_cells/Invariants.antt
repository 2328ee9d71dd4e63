use Rattle.std.proofs.Common.{◌≡◌, ◌++◌, drop, string_bytes}
use Rattle.da_show.specs.JsonTexts.{items_from, list_text, cell_of_text}
use Rattle.da_show.proofs.objects.lists.put_message_cells.Given as goal

-- what is there and what is left are all
abbrev pub invariant-loop-message : goal.invariant-loop-message
invariant-loop-message l =
    string_bytes l.out ++ items_from cell_of_text l.later (drop l.message-index l.messages)
    ≡ string_bytes l.fn.out ++ list_text cell_of_text l.messages
