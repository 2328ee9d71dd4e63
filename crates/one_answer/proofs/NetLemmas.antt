-- A node of a network stands in one way where nothing alarmed it, is in one state, and misses one list of cells.
use Rattle.std.proofs.Common.{◌≡◌, ◌∙◌, ◌<◌, ℕ, zero, suc, List, [], ◌∷◌, length, slice_get, Option, Some, None, inl, inr, refl, sym, subst, ap, arith}
use Rattle.namespace_id.specs.Cells.{CellList}
use Rattle.data_header.specs.Headers.{Roots}
use Rattle.da_net.specs.declared.items.Item.{Item}
use Rattle.da_net.specs.declared.items.NodeState.{NodeState}
use Rattle.da_net.specs.Networks.{messages_of, item_events, NodeKind, full, light, Standing, settled, clashing, waiting, available, rejecting, NodeMayStand, handed}
use Rattle.da_net.specs.Promises.{IsAlarmed}
use Rattle.da_net.specs.Nets.{NetParts, alarm_at, FitsAlarm, HasState, AreMissed, standing_state}
use Rattle.one_answer.proofs.CellLemmas.{same_left, same_waited}

-- a node that isn't alarmed stands in one way
pub one_calm : (header : Roots) (kind : NodeKind) (items : List Item) (one other : Standing) → NodeMayStand header kind items one
    → NodeMayStand header kind items other → (IsAlarmed one → ⊥) → (IsAlarmed other → ⊥) → one ≡ other
one_calm header full items settled settled a b calm still = refl
one_calm header full items settled (clashing left right) a b calm still = absurd (still (inr tt))
one_calm header full items settled waiting a b calm still = absurd b
one_calm header full items settled available a b calm still = absurd b
one_calm header full items settled (rejecting claim) a b calm still = absurd (still (inl tt))
one_calm header full items (clashing left right) other a b calm still = absurd (calm (inr tt))
one_calm header full items waiting other a b calm still = absurd a
one_calm header full items available other a b calm still = absurd a
one_calm header full items (rejecting claim) other a b calm still = absurd (calm (inl tt))
one_calm header (light plan) items settled other a b calm still = absurd a
one_calm header (light plan) items (clashing left right) other a b calm still = absurd a
one_calm header (light plan) items waiting settled a b calm still = absurd b
one_calm header (light plan) items waiting (clashing left right) a b calm still = absurd b
one_calm header (light plan) items waiting waiting a b calm still = refl
one_calm header (light plan) items waiting available a b calm still = absurd (a.1.1.1 (b.1 a.1.0 a.1.1.0))
one_calm header (light plan) items waiting (rejecting claim) a b calm still = absurd (still (inl tt))
one_calm header (light plan) items available settled a b calm still = absurd b
one_calm header (light plan) items available (clashing left right) a b calm still = absurd b
one_calm header (light plan) items available waiting a b calm still = absurd (b.1.1.1 (a.1 b.1.0 b.1.1.0))
one_calm header (light plan) items available available a b calm still = refl
one_calm header (light plan) items available (rejecting claim) a b calm still = absurd (still (inl tt))
one_calm header (light plan) items (rejecting claim) other a b calm still = absurd (calm (inl tt))

-- two standings that fit one alarm are one
one_fitting : (header : Roots) (kind : NodeKind) (items : List Item) (alarm : Option Standing) (one other : Standing)
    → NodeMayStand header kind items one → NodeMayStand header kind items other → FitsAlarm alarm one → FitsAlarm alarm other → one ≡ other
one_fitting header kind items None one other a b calm still = one_calm header kind items one other a b calm still
one_fitting header kind items (Some alarm) one other a b is same = is ∙ sym same

-- a node of a network is in one state
pub one_state : (net : NetParts) (node : ℕ) (one other : NodeState) → HasState net node one → HasState net node other
    → one ≡ other
one_state net node one other (standing, has, is) (standing', has', is') =
    let kinds : Some has'.kind ≡ Some has.kind = sym has'.is_node ∙ has.is_node in
    let kind : has'.kind ≡ has.kind = cc in
    let stands = subst (λ (k : NodeKind). NodeMayStand net.header k (handed net.pool net.steps node) standing') kind has'.stands in
    is ∙ ap standing_state (one_fitting net.header has.kind (handed net.pool net.steps node) (alarm_at net node) standing standing' has.stands stands has.fits has'.fits) ∙ sym is'

-- the cells that a node misses are one list
pub same_missed : (header : Roots) (kind : NodeKind) (items : List Item) (cells others : CellList)
    → AreMissed header kind items cells → AreMissed header kind items others → cells ≡ others
same_missed header full items cells others a b = same_left header (messages_of items) cells others a b
same_missed header (light plan) items cells others a b = same_waited header plan (item_events items) cells others a b

-- a node that is there is of some kind
pub some_kind : {A : Type 0} (nodes : List A) (node : ℕ) → node < length nodes → (kind : A) × (slice_get nodes node ≡ Some kind)
some_kind [] node within = absurd (omega arith)
some_kind (kind ∷ nodes) zero within = (kind, refl)
some_kind (kind ∷ nodes) (suc node) within = some_kind nodes node (omega arith)
