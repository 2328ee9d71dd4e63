use Rattle.std.proofs.Common.{◌≡◌, ◌++◌, drop, map, string_bytes}
use Rattle.da_show.specs.Text.{following, block_blob_line}
use Rattle.da_show.proofs.text.lists.put_blobs.Given as goal

-- what is there and what is left are all
abbrev pub invariant-loop-blob : goal.invariant-loop-blob
invariant-loop-blob l =
    string_bytes l.out ++ following (map block_blob_line (drop l.blob-index l.blobs))
    ≡ string_bytes l.fn.out ++ following (map block_blob_line l.blobs)
