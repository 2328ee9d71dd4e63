-- Where the blobs of a list start: each has a number, stands in order, and is looked up by its number.
use Rattle.std.specs.Prelude.{ℕ, zero, suc, ◌+◌, ◌==◌, List, [], ◌∷◌, length, if◌then◌else◌}
use Rattle.namespace_id.specs.Names.{is_at_most}
use Rattle.share_split.specs.Blobs.{NamedBytes}
use Rattle.square_layout.specs.Layout.{share_count_of, start_after}

-- a blob with its number
pub record Numbered : Type 0 where
  pub number : ℕ
  pub blob : NamedBytes

-- blobs, numbered from i on
unfoldable pub numbered_from : ℕ → List NamedBytes → List Numbered
numbered_from i [] = []
numbered_from i (blob ∷ blobs) = record { number = i; blob = blob } ∷ numbered_from (suc i) blobs

-- one among others that are in order and came after it: before the first whose namespace isn't smaller
unfoldable pub put_numbered : Numbered → List Numbered → List Numbered
put_numbered one [] = one ∷ []
put_numbered one (other ∷ others) =
    if is_at_most one.blob.namespace other.blob.namespace then one ∷ other ∷ others else other ∷ put_numbered one others

-- by ascending namespace, and within one namespace as they came
unfoldable pub order_numbered : List Numbered → List Numbered
order_numbered [] = []
order_numbered (one ∷ others) = put_numbered one (order_numbered others)

-- a number, and the place of its blob
pub record BlobPlace : Type 0 where
  pub number : ℕ
  pub start : ℕ

-- the places of blobs in order, of which the first ones end at `end`: each is the least that it may have
unfoldable pub places_from : ℕ → List Numbered → List BlobPlace
places_from end [] = []
places_from end (one ∷ others) =
    record { number = one.number; start = start_after end one.blob }
    ∷ places_from (start_after end one.blob + share_count_of one.blob) others

-- the place beside a number, which stands there once; this one where it doesn't
unfoldable pub place_of : ℕ → ℕ → List BlobPlace → ℕ
place_of found i [] = found
place_of found i (place ∷ places) = place_of (if place.number == i then place.start else found) i places

-- so many places, of the numbers from i on
unfoldable pub places_of : ℕ → ℕ → List BlobPlace → List ℕ
places_of i zero places = []
places_of i (suc count) places = place_of 0 i places ∷ places_of (suc i) count places

-- blobs with their numbers, in order
abbrev pub ordered : List NamedBytes → List Numbered
ordered blobs = order_numbered (numbered_from 0 blobs)

-- the places of blobs, none of which starts before `end`, in the order in which they came
abbrev pub blob_places : ℕ → List NamedBytes → List ℕ
blob_places end blobs = places_of 0 (length blobs) (places_from end (ordered blobs))
