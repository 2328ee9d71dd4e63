-- The verdict of a sampling light node over everything that it was handed (docs/RULES.md, "Light nodes").
use Rattle.std.specs.Prelude.{◌≡◌, ◌≢◌, ◌↔◌, ◌++◌, List, [], ◌∷◌, Option, Some, None}
use Rattle.std.specs.List.{Contains}
use Rattle.namespace_id.specs.declared.cells.Cell.{Cell}
use Rattle.namespace_id.specs.Cells.{CellList, AreCells}
use Rattle.data_header.specs.Headers.{Roots}
use Rattle.axis_roots.specs.declared.message.messages.Message.{Message}
use Rattle.axis_roots.specs.Openings.{IsProved}
use Rattle.axis_roots.specs.Claims.{ClaimParts, Accepts}
use Rattle.light_node.specs.declared.events.Event.{Event}
use Rattle.light_node.specs.declared.events.Event.TheVariants.{Sample, Claim}
use Rattle.light_node.specs.declared.events.LightState.{LightState}
use Rattle.light_node.specs.declared.events.LightState.TheVariants as state
use Rattle.light_node.specs.declared.events.Light.{Light}
use Rattle.light_node.specs.declared.events.Light.TheVariants as light

-- a sample among the events is proved under the header and shows this cell
abbrev pub IsShownCell : Roots → List Event → Cell → Type 0
IsShownCell header events cell = (m : Message) × Contains events (Sample m) × IsProved header m × (m.cell ≡ cell)

-- no claim among the events is accepted under the header
abbrev pub NoneAccepted : Roots → List Event → Type 0
NoneAccepted header events = (claim : ClaimParts) → Contains events (Claim claim) → Accepts header claim → ⊥

-- the first claim among the events that is accepted under the header, if one is
abbrev pub IsFirstAccepted : Roots → List Event → Option ClaimParts → Type 0
IsFirstAccepted header events None = NoneAccepted header events
IsFirstAccepted header events (Some claim) = Accepts header claim
    × (before after : List Event) × (events ≡ before ++ Claim claim ∷ after) × NoneAccepted header before

-- each planned cell is shown
abbrev pub AllShown : Roots → List Cell → List Event → Type 0
AllShown header plan events = (cell : Cell) → Contains plan cell → IsShownCell header events cell

-- a planned cell that isn't shown
abbrev pub IsWaitedFor : Roots → List Cell → List Event → Cell → Type 0
IsWaitedFor header plan events cell = Contains plan cell × (IsShownCell header events cell → ⊥)

-- the planned cells that aren't shown, row-major
pub record AreWaitedFor (header : Roots) (plan : List Cell) (events : List Event) (cells : CellList) : Type 0 where
  pub width : cells.k ≡ header.k
  pub row_major : AreCells cells
  pub waited_for : (cell : Cell) → Contains cells.list cell ↔ IsWaitedFor header plan events cell

-- the state of a node that planned these cells and was handed these events
abbrev pub IsState : Roots → List Cell → List Event → LightState → Type 0
IsState header plan events state.Waiting =
    NoneAccepted header events × ((cell : Cell) × IsWaitedFor header plan events cell)
IsState header plan events state.Available = NoneAccepted header events × AllShown header plan events
IsState header plan events state.Rejected = (claim : ClaimParts) × IsFirstAccepted header events (Some claim)

-- the light verdict: the first accepted claim; where there is none, available where each planned cell is shown, and
-- otherwise the others
abbrev pub IsLight : Roots → List Cell → List Event → Light → Type 0
IsLight header plan events (light.Waiting cells) =
    NoneAccepted header events × (cells.list ≢ []) × AreWaitedFor header plan events cells
IsLight header plan events light.Available = NoneAccepted header events × AllShown header plan events
IsLight header plan events (light.Rejected claim) = IsFirstAccepted header events (Some claim)

-- the state that goes with a verdict
abbrev pub state_of_light : Light → LightState
state_of_light (light.Waiting cells) = state.Waiting
state_of_light light.Available = state.Available
state_of_light (light.Rejected claim) = state.Rejected
