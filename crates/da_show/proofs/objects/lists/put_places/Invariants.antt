use Rattle.std.proofs.Common.{◌≡◌, ◌++◌, drop, string_bytes}
use Rattle.da_show.specs.JsonTexts.{items_from, list_text, entry_place_text}
use Rattle.da_show.proofs.objects.lists.put_places.Given as goal

-- what is there and what is left are all
abbrev pub invariant-loop-place : goal.invariant-loop-place
invariant-loop-place l =
    string_bytes l.out ++ items_from entry_place_text l.later (drop l.place-index l.places)
    ≡ string_bytes l.fn.out ++ list_text entry_place_text l.places
