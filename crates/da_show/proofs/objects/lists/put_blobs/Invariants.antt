use Rattle.std.proofs.Common.{◌≡◌, ◌++◌, drop, string_bytes}
use Rattle.da_show.specs.JsonTexts.{items_from, list_text, blob_text}
use Rattle.da_show.proofs.objects.lists.put_blobs.Given as goal

-- what is there and what is left are all
abbrev pub invariant-loop-blob : goal.invariant-loop-blob
invariant-loop-blob l =
    string_bytes l.out ++ items_from blob_text l.later (drop l.blob-index l.blobs)
    ≡ string_bytes l.fn.out ++ list_text blob_text l.blobs
