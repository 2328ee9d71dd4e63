use Rattle.std.proofs.Common.{◌≡◌, ◌++◌, drop}
use Rattle.std.specs.List.{flat_map}
use Rattle.proto_fields.specs.Spelled.{bytes_field}
use Rattle.tx_list.specs.Spelled.{blob_spelling}
use Rattle.tx_list.proofs.spelling.put_blobs.Given as goal

-- the fields so far and those that are left are all
abbrev pub invariant-loop-blob : goal.invariant-loop-blob
invariant-loop-blob l =
    l.out.items ++ flat_map (λ blob. bytes_field 2 (blob_spelling blob)) (drop l.blob-index l.blobs)
    ≡ l.fn.out.items ++ flat_map (λ blob. bytes_field 2 (blob_spelling blob)) l.blobs
