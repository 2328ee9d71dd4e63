use Rattle.std.proofs.Common.{◌≡◌, ◌++◌, drop, string_bytes}
use Rattle.da_show.specs.JsonTexts.{items_from, list_text, root_text}
use Rattle.da_show.proofs.objects.lists.put_roots.Given as goal

-- what is there and what is left are all
abbrev pub invariant-loop-root : goal.invariant-loop-root
invariant-loop-root l =
    string_bytes l.out ++ items_from root_text l.later (drop l.root-index l.roots)
    ≡ string_bytes l.fn.out ++ list_text root_text l.roots
