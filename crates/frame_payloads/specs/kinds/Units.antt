-- Units, as transactions, and lists of values behind their count (docs/FORMATS.md, "Payloads").
use Rattle.std.specs.Prelude.{ℕ, List, Option}
use Rattle.std.specs.Int.{w32}
use Rattle.frame_fields.specs.Fields.{text_at, list_at}
use Rattle.frame_payloads.specs.codec.Texts.{text_bytes, list_bytes}

-- the greatest number of four bytes
abbrev pub most : ℕ
most = 0xffffffff

-- a unit behind its length in four bytes
abbrev pub unit_bytes : List ℕ → List ℕ
unit_bytes unit = text_bytes w32 unit

-- a unit, read behind its length in four bytes
abbrev pub unit_at : List ℕ → Option (List ℕ × List ℕ)
unit_at bytes = text_at w32 most bytes

-- values behind their count in four bytes
abbrev pub counted_bytes : {A : Type 0} → (A → List ℕ) → List A → List ℕ
counted_bytes bytes_of values = list_bytes w32 bytes_of values

-- values, read behind their count in four bytes
abbrev pub counted_at : {A : Type 0} → (List ℕ → Option (A × List ℕ)) → List ℕ → Option (List A × List ℕ)
counted_at one bytes = list_at w32 most one bytes
