use Rattle.std.proofs.Common.{◌≡◌, ◌++◌, drop, string_bytes}
use Rattle.da_show.specs.JsonTexts.{items_from, list_text, entry_text}
use Rattle.da_show.proofs.objects.lists.put_entries.Given as goal

-- what is there and what is left are all
abbrev pub invariant-loop-entry : goal.invariant-loop-entry
invariant-loop-entry l =
    string_bytes l.out ++ items_from entry_text l.later (drop l.entry-index l.entries)
    ≡ string_bytes l.fn.out ++ list_text entry_text l.entries
