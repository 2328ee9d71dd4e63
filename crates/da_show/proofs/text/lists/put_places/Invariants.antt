use Rattle.std.proofs.Common.{◌≡◌, ◌++◌, drop, map, string_bytes}
use Rattle.da_show.specs.Text.{following, place_line}
use Rattle.da_show.proofs.text.lists.put_places.Given as goal

-- what is there and what is left are all
abbrev pub invariant-loop-place : goal.invariant-loop-place
invariant-loop-place l =
    string_bytes l.out ++ following (map place_line (drop l.place-index l.places))
    ≡ string_bytes l.fn.out ++ following (map place_line l.places)
