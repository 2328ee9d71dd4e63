use Rattle.std.proofs.Common.{◌≡◌, ◌++◌, drop, string_bytes}
use Rattle.da_show.specs.JsonTexts.{items_from, list_text, share_text}
use Rattle.da_show.proofs.objects.lists.put_shares.Given as goal

-- what is there and what is left are all
abbrev pub invariant-loop-share : goal.invariant-loop-share
invariant-loop-share l =
    string_bytes l.out ++ items_from share_text l.later (drop l.share-index l.shares)
    ≡ string_bytes l.fn.out ++ list_text share_text l.shares
