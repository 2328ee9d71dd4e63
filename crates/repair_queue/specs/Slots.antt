-- The samples that are kept of each cell, one along its row and one along its column, and a flag for each row and
-- column; and what a change of them leaves.
use Rattle.std.specs.Prelude.{◌≡◌, ◌≢◌, ℕ, List, get_or, Bool, true, false, Option, Some, None}
use Rattle.namespace_id.specs.declared.cells.Cell.{Cell}
use Rattle.namespace_id.specs.declared.cells.Axis.{Axis}
use Rattle.namespace_id.specs.declared.cells.Axis.TheVariants.{Row, Col}
use Rattle.axis_roots.specs.declared.message.proved.Proved.{Proved}
use Rattle.namespace_id.specs.declared.shares.Share.{Share}
use Rattle.axis_roots.specs.Proved.{kept_message}

-- what slots hold: for an axis and a cell the sample that is kept, if one is
abbrev pub Kept : Type 0
Kept = Axis → Cell → Option Proved

-- which rows and columns are decided
abbrev pub Flags : Type 0
Flags = Axis → ℕ → Bool

-- the flags, by the list of each kind
abbrev pub flags_of : List Bool → List Bool → Flags
flags_of rows cols Row i = get_or rows i false
flags_of rows cols Col i = get_or cols i false

-- a cell is known: one of its slots is filled
abbrev pub IsKnown : Kept → Cell → Type 0
IsKnown slot cell = (axis : Axis) × (kept : Proved) × (slot axis cell ≡ Some kept)

-- a slot holds a sample that shows another share
pub record IsApart (slot : Option Proved) (share : Share) : Type 0 where
  pub kept : Proved
  pub held : slot ≡ Some kept
  pub other : (kept_message kept).share ≢ share

-- a slot holds none, or one that shows this share
abbrev pub IsAlike : Option Proved → Share → Type 0
IsAlike slot share = (kept : Proved) → slot ≡ Some kept → (kept_message kept).share ≡ share

-- ---- changes

-- one slot holds this sample now, and no other changed
pub record IsPut (old new : Kept) (axis : Axis) (cell : Cell) (kept : Proved) : Type 0 where
  pub here : new axis cell ≡ Some kept
  pub elsewhere : (other : Axis) (d : Cell) → ((other ≡ axis) × (d ≡ cell) → ⊥) → new other d ≡ old other d

-- one slot is empty now, and no other changed
pub record IsEmptied (old new : Kept) (axis : Axis) (cell : Cell) : Type 0 where
  pub here : new axis cell ≡ None
  pub elsewhere : (other : Axis) (d : Cell) → ((other ≡ axis) × (d ≡ cell) → ⊥) → new other d ≡ old other d

-- one flag is set now, and no other changed
pub record IsFlagged (old new : Flags) (axis : Axis) (i : ℕ) : Type 0 where
  pub here : new axis i ≡ true
  pub elsewhere : (other : Axis) (j : ℕ) → ((other ≡ axis) × (j ≡ i) → ⊥) → new other j ≡ old other j
