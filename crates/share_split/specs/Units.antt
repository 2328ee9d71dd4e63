-- Units as compact shares (Celestia specifications, "Shares", transaction shares).
use Rattle.std.specs.Prelude.{ℕ, zero, suc, ◌+◌, ◌-◌, ◌*◌, ◌==◌, nat_lt, true, false, List, [], ◌∷◌, ◌++◌, length, take, drop, if◌then◌else◌}
use Rattle.std.specs.List.{flat_map}
use Rattle.std.specs.Int.{w32, to_be_bytes}
use Rattle.namespace_id.specs.declared.namespaces.Namespace.{Namespace}
use Rattle.namespace_id.specs.declared.shares.Share.{Share}
use Rattle.namespace_id.specs.Sizes.{share_size}
use Rattle.proto_fields.specs.Varints.{varint}
use Rattle.share_split.specs.Blobs.{first_content, later_content, sequence_share, count_from}

-- the bytes of content in the first compact share of a sequence: four reserved bytes come before it
abbrev pub first_compact_content : ℕ
first_compact_content = first_content - 4

-- the bytes of content in a later compact share: four reserved bytes come before it
abbrev pub later_compact_content : ℕ
later_compact_content = later_content - 4

-- ---- the text of units

-- a unit behind its length
abbrev pub unit_text : List ℕ → List ℕ
unit_text unit = varint (length unit) ++ unit

-- units, one after another
abbrev pub units_text : List (List ℕ) → List ℕ
units_text units = flat_map unit_text units

-- where units start in their text, if the first starts at `at`: at the length before each
unfoldable pub starts_from : ℕ → List (List ℕ) → List ℕ
starts_from at [] = []
starts_from at (unit ∷ units) = at ∷ starts_from (at + length (unit_text unit)) units

-- ---- compact shares

-- where the content of share i of a sequence begins in the text
abbrev pub content_start : ℕ → ℕ
content_start i =
    if i == 0 then 0 else first_compact_content + later_compact_content * (i - 1)

-- the place of the content in share i
abbrev pub content_place : ℕ → ℕ
content_place i = if i == 0 then share_size - first_compact_content else share_size - later_compact_content

-- the starts from a place of the text on; starts are ascending
unfoldable pub starts_on : ℕ → List ℕ → List ℕ
starts_on from [] = []
starts_on from (start ∷ starts) = if nat_lt start from then starts_on from starts else start ∷ starts

-- the place in share i of a unit that starts here in the text; 0 where that is behind the share's content
abbrev pub place_in : ℕ → ℕ → ℕ
place_in i start =
    if nat_lt start (content_start (suc i)) then content_place i + (start - content_start i) else 0

-- that of the first of some units, by where they start; 0 where there are none
abbrev pub first_place : ℕ → List ℕ → ℕ
first_place i [] = 0
first_place i (start ∷ starts) = place_in i start

-- the number that the reserved bytes of share i state, where units start at these places of the text: the
-- place of the first unit that starts in the share's content, 0 where none does
abbrev pub reserved_of : ℕ → List ℕ → ℕ
reserved_of i starts = first_place i (starts_on (content_start i) starts)

-- the first compact share of a sequence, whose fields are the length of the sequence and the reserved bytes
abbrev pub first_compact_share : Namespace → ℕ → ℕ → List ℕ → Share
first_compact_share name size reserved content =
    sequence_share name 0 true (to_be_bytes w32 size ++ to_be_bytes w32 reserved) content

-- a later compact share of a sequence, whose one field is the reserved bytes
abbrev pub later_compact_share : Namespace → ℕ → List ℕ → Share
later_compact_share name reserved content = sequence_share name 0 false (to_be_bytes w32 reserved) content

-- so many later compact shares, from share i on, over what is left of the text
unfoldable pub later_compact_shares : ℕ → Namespace → ℕ → List ℕ → List ℕ → List Share
later_compact_shares zero name i starts text = []
later_compact_shares (suc count) name i starts text =
    later_compact_share name (reserved_of i starts) (take later_compact_content text)
    ∷ later_compact_shares count name (suc i) starts (drop later_compact_content text)

-- how many compact shares a text of this length takes
abbrev pub compact_count : ℕ → ℕ
compact_count size = count_from first_compact_content later_compact_content size

-- the one compact sequence of these units, of length 0 where there are none
abbrev pub compact_shares : Namespace → List (List ℕ) → List Share
compact_shares name units =
    first_compact_share name (length (units_text units)) (reserved_of 0 (starts_from 0 units))
    (take first_compact_content (units_text units))
    ∷ later_compact_shares (compact_count (length (units_text units)) - 1) name 1 (starts_from 0 units)
    (drop first_compact_content (units_text units))

-- the compact shares of units: no shares for no units
abbrev pub unit_shares_of : Namespace → List (List ℕ) → List Share
unit_shares_of name [] = []
unit_shares_of name (unit ∷ units) = compact_shares name (unit ∷ units)

-- how many shares units take
abbrev pub unit_share_count : List (List ℕ) → ℕ
unit_share_count [] = 0
unit_share_count (unit ∷ units) = compact_count (length (units_text (unit ∷ units)))
