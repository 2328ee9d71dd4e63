-- What a light node keeps, and for which plan and events it stands.
use Rattle.std.specs.Prelude.{◌≡◌, ◌↔◌, ℕ, ◌+◌, ◌*◌, ◌<◌, ◌≤◌, List, [], length, slice_get, get_or, ◌==◌, ◌&&◌, Bool, true, false, Option, Some}
use Rattle.std.specs.List.{Contains, list_all, fold}
use Rattle.indexmap.specs.IndexSet.{insert_key}
use Rattle.namespace_id.specs.declared.cells.Cell.{Cell}
use Rattle.namespace_id.specs.Cells.{is_width, is_in_square}
use Rattle.data_header.specs.Headers.{Roots}
use Rattle.axis_roots.specs.Claims.{ClaimParts}
use Rattle.light_node.specs.declared.events.Event.{Event}
use Rattle.light_node.specs.Events.{IsShownCell, IsFirstAccepted}
use Rattle.light_node.specs.Plans.{PicksInside, IsPlanOf}

-- a light node as contracts see it: its header, its picker with the number below which that may be asked, how many
-- cells it planned, these cells, each once, where it comes first, whether each cell of the square is shown, row-major,
-- the place of the first wanted cell that isn't shown, and the first accepted claim
pub record NodeParts (F : Type 0) : Type 0 where
  pub header : Roots
  pub limit : ℕ
  pub pick : F
  pub planned : ℕ
  pub wanted : List Cell
  pub shown : List Bool
  pub next : ℕ
  pub claim : Option ClaimParts

-- the mark of a cell
abbrev pub is_marked : ℕ → List Bool → Cell → Bool
is_marked k shown cell = get_or shown (cell.row * (2 * k) + cell.col) false

-- the cells of a list in front of a place are marked
abbrev pub AreMarkedBefore : ℕ → List Bool → List Cell → ℕ → Type 0
AreMarkedBefore k shown cells next = (i : ℕ) (cell : Cell) → i < next → slice_get cells i ≡ Some cell
    → is_marked k shown cell ≡ true

-- the cell at a place of a list isn't marked
abbrev pub IsUnmarkedAt : ℕ → List Bool → List Cell → ℕ → Type 0
IsUnmarkedAt k shown cells next = (cell : Cell) → slice_get cells next ≡ Some cell → is_marked k shown cell ≡ false

-- a cell of the square that is in a list and isn't marked
pub record IsUnmarkedIn (k : ℕ) (shown : List Bool) (cells : List Cell) (cell : Cell) : Type 0 where
  pub inside : is_in_square k cell ≡ true
  pub listed : Contains cells cell
  pub unmarked : is_marked k shown cell ≡ false

-- what holds of each node: the picker may be asked, there is a mark for each cell, and all wanted cells in front of
-- the next one are marked, which isn't
pub record IsNode {F : Type 0} (can_pick : F → ℕ → Type 0) (picks : F → ℕ → Cell → Type 0) (node : NodeParts F)
    : Type 0 where
  pub width : is_width node.header.k ≡ true
  pub picker : PicksInside can_pick picks node.pick node.limit node.header.k
  pub within : node.planned ≤ node.limit
  pub marks : length node.shown ≡ 2 * node.header.k * (2 * node.header.k)
  pub inside : list_all (is_in_square node.header.k) node.wanted ≡ true
  pub next : node.next ≤ length node.wanted
  pub before : AreMarkedBefore node.header.k node.shown node.wanted node.next
  pub waiting : IsUnmarkedAt node.header.k node.shown node.wanted node.next

-- whether two cells are one
abbrev pub is_same : Cell → Cell → Bool
is_same a b = (a.row == b.row) && (a.col == b.col)

-- the planned cells, each once, where it comes first
abbrev pub distinct : List Cell → List Cell
distinct plan = fold (insert_key is_same) [] plan

-- the cells that a picker answered to so many numbers, from the first on, were added to a list, each where it wasn't
-- there
pub record ArePicked {F : Type 0} (picks : F → ℕ → Cell → Type 0) (pick : F) (first n : ℕ)
    (old new : List Cell) : Type 0 where
  pub cells : List Cell
  pub count : length cells ≡ n
  pub picked : (i : ℕ) (cell : Cell) → slice_get cells i ≡ Some cell → picks pick (first + i) cell
  pub added : new ≡ fold (insert_key is_same) old cells

-- a node stands for the cells that it planned, in their order, and for the events that it was handed
pub record NodeStands {F : Type 0} (picks : F → ℕ → Cell → Type 0) (node : NodeParts F) (plan : List Cell)
    (events : List Event) : Type 0 where
  pub count : length plan ≡ node.planned
  pub picked : IsPlanOf picks node.pick plan
  pub wanted : node.wanted ≡ distinct plan
  pub shown : (cell : Cell) → is_in_square node.header.k cell ≡ true
      → (is_marked node.header.k node.shown cell ≡ true) ↔ IsShownCell node.header events cell
  pub claim : IsFirstAccepted node.header events node.claim

-- what no call changes: the header, the picker, and how often that may be asked
pub record IsSameNode {F : Type 0} (old new : NodeParts F) : Type 0 where
  pub header : new.header ≡ old.header
  pub limit : new.limit ≡ old.limit
  pub pick : new.pick ≡ old.pick
