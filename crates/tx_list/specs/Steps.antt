-- What single steps of laying out a list do.
use Rattle.std.specs.Prelude.{ℕ, List, [], ◌∷◌, map, set}
use Rattle.share_split.specs.Blobs.{NamedBytes}
use Rattle.tx_list.specs.declared.placing.NumberedBlob.{NumberedBlob}
use Rattle.tx_list.specs.Places.{Numbered, BlobPlace}

-- a blob with its number, wherever the blob lies
abbrev pub numbered : NumberedBlob → Numbered
numbered one = record { number = one.number; blob = one.blob.now }

-- the blobs without their numbers
abbrev pub unnumbered : List Numbered → List NamedBytes
unnumbered all = map (λ one. one.blob) all

-- a list of places after each of these was written at its number
unfoldable pub put_places : List BlobPlace → List ℕ → List ℕ
put_places [] starts = starts
put_places (place ∷ places) starts = put_places places (set starts place.number place.start)
