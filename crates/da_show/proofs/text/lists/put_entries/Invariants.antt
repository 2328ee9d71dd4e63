use Rattle.std.proofs.Common.{◌≡◌, ◌++◌, drop, map, string_bytes}
use Rattle.da_show.specs.Text.{following, entry_line}
use Rattle.da_show.proofs.text.lists.put_entries.Given as goal

-- what is there and what is left are all
abbrev pub invariant-loop-entry : goal.invariant-loop-entry
invariant-loop-entry l =
    string_bytes l.out ++ following (map entry_line (drop l.entry-index l.entries))
    ≡ string_bytes l.fn.out ++ following (map entry_line l.entries)
