-- The same sets by lists of derivations, newest first: each item is given, or follows from items behind it.
use Rattle.std.specs.Prelude.{◌≡◌, ◌⊎◌, ℕ, ◌*◌, ◌<◌, List, [], ◌∷◌}
use Rattle.std.specs.List.{Contains}
use Rattle.namespace_id.specs.declared.cells.Cell.{Cell}
use Rattle.namespace_id.specs.declared.cells.Axis.{Axis}
use Rattle.namespace_id.specs.declared.shares.Share.{Share}
use Rattle.leopard_code.specs.Codewords.{IsCodeword}
use Rattle.data_header.specs.Headers.{Roots}
use Rattle.axis_roots.specs.declared.message.messages.Message.{Message}
use Rattle.axis_roots.specs.Openings.{IsProved}
use Rattle.axis_roots.specs.Lines.{cell_on, entry}
use Rattle.repair_queue.specs.Closures.{AreChosen}

-- each item of a list is given, or follows from items behind it
abbrev pub AreDerived : {A : Type 0} → (A → Type 0) → (List A → A → Type 0) → List A → Type 0
AreDerived given follows [] = Unit {0}
AreDerived given follows (x ∷ xs) = (given x ⊎ follows xs x) × AreDerived given follows xs

-- an item stands in such a list
abbrev pub IsListed : {A : Type 0} → (A → Type 0) → (List A → A → Type 0) → A → Type 0
IsListed {A} given follows x = (xs : List A) × AreDerived given follows xs × Contains xs x

-- ---- cells

-- the cell of a proved sample
abbrev pub IsSeen : Roots → List Message → Cell → Type 0
IsSeen header ms cell = (m : Message) × Contains ms m × IsProved header m × (m.cell ≡ cell)

-- a cell of a row or a column of which k cells stand in a list
pub record IsFilled (header : Roots) (cells : List Cell) (cell : Cell) : Type 0 where
  pub axis : Axis
  pub index : ℕ
  pub chosen : List ℕ
  pub pos : ℕ
  pub within : index < 2 * header.k
  pub are_chosen : AreChosen header.k chosen
  pub cells_there : (p : ℕ) → Contains chosen p → Contains cells (cell_on axis index p)
  pub below : pos < 2 * header.k
  pub here : cell_on axis index pos ≡ cell

-- ---- cells with their shares

-- the cell and the share of a proved sample
abbrev pub IsShownPair : Roots → List Message → Cell × Share → Type 0
IsShownPair header ms pair = (m : Message) × Contains ms m × IsProved header m × ((m.cell, m.share) ≡ pair)

-- a cell and its share in a codeword along a row or a column, of which k shares stand in a list
pub record IsRebuiltPair (header : Roots) (pairs : List (Cell × Share)) (pair : Cell × Share) : Type 0 where
  pub axis : Axis
  pub index : ℕ
  pub word : List Share
  pub chosen : List ℕ
  pub pos : ℕ
  pub within : index < 2 * header.k
  pub codeword : IsCodeword header.k word
  pub are_chosen : AreChosen header.k chosen
  pub pairs_there : (p : ℕ) → Contains chosen p → Contains pairs (cell_on axis index p, entry word p)
  pub below : pos < 2 * header.k
  pub here : (cell_on axis index pos, entry word pos) ≡ pair
