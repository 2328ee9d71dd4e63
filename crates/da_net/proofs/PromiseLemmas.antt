-- What a network promises.
use Rattle.std.proofs.Common.{◌≡◌, ◌∙◌, ℕ, List, [], ◌∷◌, ◌++◌, Some, refl, sym, subst, inl, inr}
use Rattle.std.specs.Prelude.{◌⊎◌}
use Rattle.std.specs.List.{AllByRecursion, Contains}
use Rattle.std.proofs.lemmas.List.Elements.{Contains-append_right}
use Rattle.std.proofs.lemmas.Option.{same_Some}
use Rattle.namespace_id.specs.declared.cells.Cell.{Cell}
use Rattle.namespace_id.proofs.MemberLemmas.{contains_head, contains_tail}
use Rattle.data_header.specs.Headers.{Roots}
use Rattle.square_layout.specs.Blocks.{SquareShares}
use Rattle.axis_roots.specs.declared.message.messages.Message.{Message}
use Rattle.axis_roots.specs.Messages.{IsMessage}
use Rattle.axis_roots.specs.Openings.{IsProved}
use Rattle.axis_roots.specs.Lines.{cell_on}
use Rattle.axis_roots.specs.Grids.{IsHeaderOf}
use Rattle.axis_roots.specs.Claims.{ClaimParts, Accepts}
use Rattle.axis_roots.proofs.Messages.FalseClaimLemmas.{accepted_false}
use Rattle.repair_queue.specs.Closures.{Half, seen, filled}
use Rattle.repair_queue.specs.Settled.{IsSettled}
use Rattle.repair_queue.specs.Verdicts.{VerdictParts, whole, fraud, clash, IsWhole, IsVerdict, IsOwnVerdict}
use Rattle.repair_queue.proofs.Facts.ClosureLemmas.{half_least}
use Rattle.repair_queue.proofs.Facts.OwnLemmas.{own_verdict}
use Rattle.light_node.specs.declared.events.Event.{Event}
use Rattle.light_node.specs.declared.events.Event.TheVariants as event
use Rattle.light_node.specs.Events.{IsFirstAccepted}
use Rattle.da_net.specs.declared.items.Item.{Item}
use Rattle.da_net.specs.declared.items.Item.TheVariants as item
use Rattle.da_net.specs.declared.items.Kept.{Kept}
use Rattle.da_net.specs.Networks.{messages_of, item_events, NodeKind, full, light, Network, Standing, settled, clashing, waiting, available, rejecting, NodeMayStand, IsRejecting, IsClashing, handed, IsRun}
use Rattle.da_net.specs.Promises.{IsAlarmed, PoolNames, Reached, given, reached, AreAvailable, IsPlanned, WereHandedTo}
use Rattle.da_net.proofs.HandedLemmas.{event_there, claim_back, sample_back, message_there, message_back, stays_handed, handed_pooled, pool_messages}

-- ---- nodes that reject

-- who rejects holds an accepted claim
pub holds_accepted : (header : Roots) (kind : NodeKind) (items : List Item) (claim : ClaimParts) → NodeMayStand header kind items (rejecting claim) → Accepts header claim
holds_accepted header full items claim stands = stands.0
holds_accepted header (light plan) items claim stands = stands.0

-- the first accepted claim is among the items
first_there : (header : Roots) (items : List Item) (claim : ClaimParts) → IsFirstAccepted header (item_events items) (Some claim) → Contains items (item.Claim claim)
first_there header items claim (accepts, before, after, is, none) =
    claim_back items claim (subst (λ (l : List Event). Contains l (event.Claim claim)) (sym is)
    (Contains-append_right before (event.Claim claim ∷ after) (event.Claim claim) (contains_head (event.Claim claim) after)))

-- who was handed an accepted claim rejects
pub rejects_by : (header : Roots) (kind : NodeKind) (items : List Item) (claim : ClaimParts) (standing : Standing)
    → Contains items (item.Claim claim) → Accepts header claim → NodeMayStand header kind items standing → IsRejecting standing
rejects_by header full items claim settled at accepts stands = stands.0 claim (event_there items (item.Claim claim) at) accepts
rejects_by header full items claim (clashing left right) at accepts stands = stands.0 claim (event_there items (item.Claim claim) at) accepts
rejects_by header full items claim waiting at accepts stands = stands
rejects_by header full items claim available at accepts stands = stands
rejects_by header full items claim (rejecting other) at accepts stands = tt
rejects_by header (light plan) items claim settled at accepts stands = stands
rejects_by header (light plan) items claim (clashing left right) at accepts stands = stands
rejects_by header (light plan) items claim waiting at accepts stands = stands.0 claim (event_there items (item.Claim claim) at) accepts
rejects_by header (light plan) items claim available at accepts stands = stands.0 claim (event_there items (item.Claim claim) at) accepts
rejects_by header (light plan) items claim (rejecting other) at accepts stands = tt

-- and does so whatever comes later
pub rejects_on : (net : Network) (pool later : List Item) (steps more : List Kept) (node : ℕ) (kind : NodeKind) (claim : ClaimParts) (standing : Standing)
    → Contains (handed pool steps node) (item.Claim claim) → Accepts net.header claim
    → NodeMayStand net.header kind (handed (pool ++ later) (steps ++ more) node) standing → IsRejecting standing
rejects_on net pool later steps more node kind claim standing at accepts stands =
    rejects_by net.header kind (handed (pool ++ later) (steps ++ more) node) claim standing
    (stays_handed pool later steps more node (item.Claim claim) at) accepts stands

-- a full node rejects, has a collision or is settled
pub full_cases : (header : Roots) (items : List Item) (standing : Standing) → NodeMayStand header full items standing
    → IsRejecting standing ⊎ (IsClashing standing ⊎ ((standing ≡ settled) × IsSettled header (messages_of items)))
full_cases header items settled stands = inr (inr (refl, stands.1))
full_cases header items (clashing left right) stands = inr (inl tt)
full_cases header items waiting stands = absurd stands
full_cases header items available stands = absurd stands
full_cases header items (rejecting claim) stands = inl tt

-- ---- under a square's own header

-- samples that were handed have their shape
handed_sized : (items : List Item) → ((m : Message) → Contains items (item.Message m) → IsMessage m) → AllByRecursion IsMessage (messages_of items)
handed_sized [] each = tt
handed_sized (item.Message n ∷ items) each =
    (each n (contains_head (item.Message n) items), handed_sized items (λ m at. each m (contains_tail (item.Message n) (item.Message m) items at)))
handed_sized (item.Claim c ∷ items) each = handed_sized items (λ m at. each m (contains_tail (item.Claim c) (item.Message m) items at))

module _ (net : Network) (pool : List Item) (steps : List Kept) (node : ℕ) (square : SquareShares) (run : IsRun net pool steps)
    (own : IsHeaderOf net.header square) where
  -- an accepted claim that was handed names a collision
  claim_names : (claim : ClaimParts) → Contains (handed pool steps node) (item.Claim claim) → Accepts net.header claim → PoolNames pool square
  claim_names claim at accepts =
      inr (claim, handed_pooled pool steps node (item.Claim claim) at, accepted_false net.header claim accepts square own)

  -- what samples that were handed say of a verdict
  pub own_or_names : (v : VerdictParts) → IsVerdict net.header (messages_of (handed pool steps node)) v → IsOwnVerdict square v ⊎ PoolNames pool square
  own_or_names v verdict =
      let sized : AllByRecursion IsMessage (messages_of (handed pool steps node)) =
      handed_sized (handed pool steps node) (λ m at. pool_messages net pool steps run m (handed_pooled pool steps node (item.Message m) at)) in
      elim (own_verdict net.header square (messages_of (handed pool steps node)) own sized v verdict) [
        | inl is ↦ inl is
        | inr (m, at, proved, names) ↦
            inr (inl (m, handed_pooled pool steps node (item.Message m) (message_back (handed pool steps node) m at), names))
      ]

  -- who rejects or has a collision names one
  pub alarmed_names : (kind : NodeKind) (standing : Standing) → NodeMayStand net.header kind (handed pool steps node) standing → IsAlarmed standing → PoolNames pool square
  alarmed_names full settled stands (inl never) = absurd never
  alarmed_names full settled stands (inr never) = absurd never
  alarmed_names full (clashing left right) stands alarmed = elim (own_or_names (clash left right) stands.1) [
    | inl never ↦ absurd never
    | inr names ↦ names
  ]
  alarmed_names full waiting stands alarmed = absurd stands
  alarmed_names full available stands alarmed = absurd stands
  alarmed_names full (rejecting claim) (accepts, inl at) alarmed = claim_names claim at accepts
  alarmed_names full (rejecting claim) (accepts, inr found) alarmed = elim (own_or_names (fraud claim) found) [
    | inl never ↦ absurd never
    | inr names ↦ names
  ]
  alarmed_names (light plan) settled stands alarmed = absurd stands
  alarmed_names (light plan) (clashing left right) stands alarmed = absurd stands
  alarmed_names (light plan) waiting stands (inl never) = absurd never
  alarmed_names (light plan) waiting stands (inr never) = absurd never
  alarmed_names (light plan) available stands (inl never) = absurd never
  alarmed_names (light plan) available stands (inr never) = absurd never
  alarmed_names (light plan) (rejecting claim) stands alarmed =
      claim_names claim (first_there net.header (handed pool steps node) claim stands) stands.0

-- ---- agreement

-- another whole square is this one, or a collision is named
pub same_whole : (net : Network) (pool : List Item) (steps : List Kept) (node other : ℕ) (square another : SquareShares) → IsRun net pool steps
    → IsWhole net.header (messages_of (handed pool steps node)) square → IsWhole net.header (messages_of (handed pool steps other)) another
    → (another ≡ square) ⊎ PoolNames pool square
same_whole net pool steps node other square another run one two = own_or_names net pool steps other square run one.own (whole another) two

-- ---- all that light nodes were handed

module _ (net : Network) (pool : List Item) (steps : List Kept) (nodes : List ℕ) (to : ℕ) (are : AreAvailable net pool steps nodes)
    (handed_too : WereHandedTo pool steps nodes to) where
  -- a cell that one of them planned is recoverable
  pub planned_half : (cell : Cell) → IsPlanned net nodes cell → Half net.header (messages_of (handed pool steps to)) cell
  planned_half cell (node, plan, at, is, planned) =
      let found = are node at in
      let kind : light found.0 ≡ light plan = same_Some (light found.0) (light plan) (sym found.1.is_light ∙ is) in
      let same : found.0 ≡ plan = cc in
      let shown = found.1.stands.1 cell (subst (λ (l : List Cell). Contains l cell) (sym same) planned) in
      subst (λ (c : Cell). Half net.header (messages_of (handed pool steps to)) c) shown.3
      (seen shown.0 (message_there (handed pool steps to) shown.0
      (handed_too node shown.0 at (sample_back (handed pool steps node) shown.0 shown.1))) shown.2)

  -- so what follows from them by halves is
  pub reached_half : (cells : List Cell) → ((cell : Cell) → Contains cells cell → IsPlanned net nodes cell)
      → (cell : Cell) → Reached net.header.k cells cell → Half net.header (messages_of (handed pool steps to)) cell
  reached_half cells planned cell (given c at) = planned_half cell (planned cell at)
  reached_half cells planned cell (reached axis i chosen pos within are each below) =
      filled axis i chosen pos within are (λ p at. reached_half cells planned (cell_on axis i p) (each p at)) below

-- a full node rejects, or has a collision, or these cells are recoverable to it
pub planned_cases : (net : Network) (pool : List Item) (steps : List Kept) (nodes : List ℕ) (to : ℕ) (standing : Standing)
    → AreAvailable net pool steps nodes → WereHandedTo pool steps nodes to → NodeMayStand net.header full (handed pool steps to) standing
    → IsRejecting standing ⊎ (IsClashing standing ⊎ ((standing ≡ settled) × ((cell : Cell) → IsPlanned net nodes cell
    → Half net.header (messages_of (handed pool steps to)) cell)))
planned_cases net pool steps nodes to standing are too stands = elim (full_cases net.header (handed pool steps to) standing stands) [
  | inl rejects ↦ inl rejects
  | inr (inl clashes) ↦ inr (inl clashes)
  | inr (inr rests) ↦ inr (inr (rests.0, planned_half net pool steps nodes to are too))
]

-- ---- closures

-- recoverable cells follow by halves from those of proved samples
pub half_reached : (header : Roots) (ms : List Message) (cells : List Cell)
    → ((m : Message) → Contains ms m → IsProved header m → Contains cells m.cell) → (cell : Cell) → Half header ms cell → Reached header.k cells cell
half_reached header ms cells all =
    half_least header ms (λ cell. Reached header.k cells cell) (λ m at proved. given m.cell (all m at proved))
    (λ axis i chosen pos within are each below. reached axis i chosen pos within are each below)

-- and the other way round
pub reached_halves : (header : Roots) (ms : List Message) (cells : List Cell) → ((cell : Cell) → Contains cells cell → Half header ms cell)
    → (cell : Cell) → Reached header.k cells cell → Half header ms cell
reached_halves header ms cells all cell (given c at) = all cell at
reached_halves header ms cells all cell (reached axis i chosen pos within are each below) =
    filled axis i chosen pos within are (λ p at. reached_halves header ms cells all (cell_on axis i p) (each p at)) below
