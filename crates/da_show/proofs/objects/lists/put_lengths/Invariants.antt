use Rattle.std.proofs.Common.{◌≡◌, ◌++◌, drop, string_bytes}
use Rattle.da_show.specs.JsonTexts.{items_from, list_text, length_text}
use Rattle.da_show.proofs.objects.lists.put_lengths.Given as goal

-- what is there and what is left are all
abbrev pub invariant-loop-unit : goal.invariant-loop-unit
invariant-loop-unit l =
    string_bytes l.out ++ items_from length_text l.later (drop l.unit-index l.units)
    ≡ string_bytes l.fn.out ++ list_text length_text l.units
