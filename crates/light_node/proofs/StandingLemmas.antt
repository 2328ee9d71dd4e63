-- The events for which a node stands beside those that it was handed, and the plans by which its state is the same.
use Rattle.std.proofs.Common.{◌≡◌, ℕ, List, [], ◌∷◌, ◌++◌, sym, subst, inl, inr}
use Rattle.std.specs.Prelude.{Option, Some, None}
use Rattle.std.specs.List.{Contains}
use Rattle.namespace_id.specs.declared.cells.Cell.{Cell}
use Rattle.namespace_id.proofs.MemberLemmas.{contains_none}
use Rattle.data_header.specs.Headers.{Roots}
use Rattle.axis_roots.specs.Claims.{ClaimParts, Accepts}
use Rattle.light_node.specs.declared.events.Event.{Event}
use Rattle.light_node.specs.declared.events.Event.TheVariants.{Claim}
use Rattle.light_node.specs.declared.events.LightState.{LightState}
use Rattle.light_node.specs.declared.events.LightState.TheVariants as state
use Rattle.light_node.specs.Events.{IsFirstAccepted, IsState}
use Rattle.light_node.specs.Nodes.{NodeParts, NodeStands, distinct}
use Rattle.light_node.proofs.DistinctLemmas.{all_added-have, all_added-only}
use Rattle.light_node.proofs.EventLemmas.{stays_shown, claim_shows, first_kept, none_by_claim}

-- ---- distinct cells of a plan

-- a planned cell is among the distinct ones
pub planned_distinct : (plan : List Cell) (cell : Cell) → Contains plan cell → Contains (distinct plan) cell
planned_distinct plan cell at = all_added-have plan [] cell at

-- and the other way round
pub distinct_planned : (plan : List Cell) (cell : Cell) → Contains (distinct plan) cell → Contains plan cell
distinct_planned plan cell at = elim (all_added-only plan [] cell at) [
  | inl none ↦ absurd (contains_none cell none)
  | inr there ↦ there
]

-- plans with the same cells have one state
state_by_cells : (header : Roots) (plan other : List Cell) (events : List Event) (one : LightState)
    → ((cell : Cell) → Contains plan cell → Contains other cell)
    → ((cell : Cell) → Contains other cell → Contains plan cell) → IsState header plan events one
    → IsState header other events one
state_by_cells header plan other events state.Waiting to from (none, (cell, waits)) =
    (none, (cell, (to cell waits.0, waits.1)))
state_by_cells header plan other events state.Available to from (none, all) =
    (none, λ cell at. all cell (from cell at))
state_by_cells header plan other events state.Rejected to from first = first

-- so the state is that by the distinct cells
pub state_distinct : (header : Roots) (plan : List Cell) (events : List Event) (one : LightState)
    → IsState header plan events one → IsState header (distinct plan) events one
state_distinct header plan events one is =
    state_by_cells header plan (distinct plan) events one (planned_distinct plan) (distinct_planned plan) is

-- and the other way round
pub distinct_state : (header : Roots) (plan : List Cell) (events : List Event) (one : LightState)
    → IsState header (distinct plan) events one → IsState header plan events one
distinct_state header plan events one is =
    state_by_cells header (distinct plan) plan events one (distinct_planned plan) (planned_distinct plan) is

-- ---- one claim more

-- a claim that isn't accepted changes no first one
first_without : (header : Roots) (events : List Event) (claim : ClaimParts) (kept : Option ClaimParts)
    → (Accepts header claim → ⊥) → IsFirstAccepted header events kept
    → IsFirstAccepted header (events ++ Claim claim ∷ []) kept
first_without header events claim None refused none = none_by_claim header events claim none refused
first_without header events claim (Some first) refused is = first_kept header events (Claim claim) first is

module _ {F : Type 0} (picks : F → ℕ → Cell → Type 0) (node : NodeParts F) (plan : List Cell) (events : List Event)
    (claim : ClaimParts) (stands : NodeStands picks node plan events) where
  -- a node stands for one claim more, where its first one is the first of them
  claim_more : IsFirstAccepted node.header (events ++ Claim claim ∷ []) node.claim
      → NodeStands picks node plan (events ++ Claim claim ∷ [])
  claim_more first = record {
    count = stands.count;
    picked = stands.picked;
    wanted = stands.wanted;
    shown = λ cell within. (
      (λ marked. stays_shown node.header events (Claim claim) cell ((stands.shown cell within).0 marked)),
      λ shown. (stands.shown cell within).1 (claim_shows node.header events claim cell shown),
    );
    claim = first;
  }

  -- where it isn't accepted
  pub stands_refused : (Accepts node.header claim → ⊥) → NodeStands picks node plan (events ++ Claim claim ∷ [])
  stands_refused refused = claim_more (first_without node.header events claim node.claim refused stands.claim)

  -- and where one was before
  pub stands_later : (first : ClaimParts) → node.claim ≡ Some first
      → NodeStands picks node plan (events ++ Claim claim ∷ [])
  stands_later first is =
      claim_more (subst (IsFirstAccepted node.header (events ++ Claim claim ∷ [])) (sym is)
      (first_kept node.header events (Claim claim) first (subst (IsFirstAccepted node.header events) is stands.claim)))
