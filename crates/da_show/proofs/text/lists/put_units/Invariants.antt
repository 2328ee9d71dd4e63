use Rattle.std.proofs.Common.{◌≡◌, ◌++◌, drop, map, string_bytes}
use Rattle.da_show.specs.Text.{following, unit_line}
use Rattle.da_show.proofs.text.lists.put_units.Given as goal

-- what is there and what is left are all
abbrev pub invariant-loop-unit : goal.invariant-loop-unit
invariant-loop-unit l =
    string_bytes l.out ++ following (map (unit_line l.word) (drop l.unit-index l.units))
    ≡ string_bytes l.fn.out ++ following (map (unit_line l.word) l.units)
