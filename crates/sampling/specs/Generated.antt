-- Generated blocks (docs/FORMATS.md, "Generated blocks").
use Rattle.std.specs.Prelude.{ℕ, zero, suc, ◌+◌, ◌-◌, ◌*◌, ◌/◌, ◌%◌, List, [], ◌∷◌, ◌++◌, max, nat_le, take, replicate, Some, None, if◌then◌else◌}
use Rattle.std.specs.Int.{w32, w64, to_le_bytes, div_ceil}
use Rattle.namespace_id.specs.declared.namespaces.Namespace.{Namespace}
use Rattle.share_split.specs.Blobs.{NamedBytes, first_content, later_content}
use Rattle.square_layout.specs.Blocks.{BlockParts}
use Rattle.sampling.specs.Words.{key_word}

-- the key of a number: its eight bytes, the lowest first, and 24 zeros
abbrev pub number_key : ℕ → List ℕ
number_key number = to_le_bytes w64 number ++ replicate 24 0

-- ---- bytes

-- how many words so many bytes take: four bytes are of one word
abbrev pub word_count : ℕ → ℕ
word_count len = div_ceil len 4

-- the bytes of so many words from a place on, the lowest byte of each word first
unfoldable pub word_bytes : List ℕ → ℕ → ℕ → List ℕ
word_bytes key place zero = []
word_bytes key place (suc count) = to_le_bytes w32 (key_word key place) ++ word_bytes key (suc place) count

-- so many bytes of the words from a place on; what the last word has over is dropped
abbrev pub made_bytes : List ℕ → ℕ → ℕ → List ℕ
made_bytes key place len = take len (word_bytes key place (word_count len))

-- ---- units

-- the length of the unit that is made at a place: from 1 to 400
abbrev pub unit_len : List ℕ → ℕ → ℕ
unit_len key place = 1 + key_word key place % 400

-- the unit that is made at a place: a word for its length, then its bytes
abbrev pub made_unit : List ℕ → ℕ → List ℕ
made_unit key place = made_bytes key (place + 1) (unit_len key place)

-- the place behind it
abbrev pub after_unit : List ℕ → ℕ → ℕ
after_unit key place = place + 1 + word_count (unit_len key place)

-- the units of one kind in a block of a width: one, but none where the width is 1
abbrev pub units_at : ℕ → List ℕ → ℕ → List (List ℕ)
units_at k key place = if nat_le 2 k then made_unit key place ∷ [] else []

-- the place behind them
abbrev pub after_units : ℕ → List ℕ → ℕ → ℕ
after_units k key place = if nat_le 2 k then after_unit key place else place

-- ---- blobs

-- the namespace that ends in a byte: version 0, 18 zeros, 1, eight zeros, and the byte
abbrev pub name_with : ℕ → Namespace
name_with last = record { 0 = 0 ∷ replicate 18 0 ++ 1 ∷ replicate 8 0 ++ last ∷ [] }

-- how many shares the blob has that is made at a place, from 1 to the width: of its second word
abbrev pub made_shares : ℕ → List ℕ → ℕ → ℕ
made_shares k key place = 1 + key_word key (place + 1) % k

-- its length: that of so many shares, less a number below 256, of its third word
abbrev pub blob_len : ℕ → List ℕ → ℕ → ℕ
blob_len k key place = first_content + later_content * (made_shares k key place - 1) - key_word key (place + 2) % 256

-- the blob that is made at a place: a word for its namespace, two for its length, then its bytes
abbrev pub made_blob : ℕ → List ℕ → ℕ → NamedBytes
made_blob k key place = record {
  namespace = name_with (key_word key place % 16);
  bytes = made_bytes key (place + 3) (blob_len k key place);
  signer = None;
}

-- the place behind it
abbrev pub after_blob : ℕ → List ℕ → ℕ → ℕ
after_blob k key place = place + 3 + word_count (blob_len k key place)

-- so many blobs, one after another
unfoldable pub blobs_at : ℕ → List ℕ → ℕ → ℕ → List NamedBytes
blobs_at k key place zero = []
blobs_at k key place (suc count) = made_blob k key place ∷ blobs_at k key (after_blob k key place) count

-- how many blobs a block of a width has
abbrev pub blob_count : ℕ → ℕ
blob_count k = max 1 (k / 2)

-- ---- the block

-- the block of a width that the words of a key make: its unit, its unit of payments, and its blobs
abbrev pub made_block : ℕ → List ℕ → BlockParts
made_block k key = record {
  units = units_at k key 0;
  pay_units = units_at k key (after_units k key 0);
  blobs = blobs_at k key (after_units k key (after_units k key 0)) (blob_count k);
  width = Some k;
}

-- the block of a width that a number makes
abbrev pub drawn_block : ℕ → ℕ → BlockParts
drawn_block number k = made_block k (number_key number)
