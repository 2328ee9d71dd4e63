-- Light nodes that are handed one item more.
use Rattle.std.proofs.Common.{◌≡◌, ◌∙◌, ℕ, List, [], ◌∷◌, ◌++◌, true, refl, sym, ap, subst}
use Rattle.std.specs.Prelude.{Option, Some, None, is_some, false, option_copied}
use Rattle.std.proofs.Common.{Bor}
use Rattle.std.specs.List.{Contains}
use Rattle.std.proofs.lemmas.List.Elements.{Contains-append_left, Contains-append_right}
use Rattle.namespace_id.proofs.MemberLemmas.{contains_head}
use Rattle.namespace_id.specs.declared.cells.Cell.{Cell}
use Rattle.data_header.specs.Headers.{Roots}
use Rattle.axis_roots.specs.Claims.{ClaimParts, Accepts}
use Rattle.light_node.specs.declared.events.Event.{Event}
use Rattle.light_node.specs.declared.events.Event.TheVariants as event
use Rattle.light_node.specs.declared.events.Light.{Light}
use Rattle.light_node.specs.declared.events.Light.TheVariants as light
use Rattle.light_node.specs.Events.{IsFirstAccepted, IsLight}
use Rattle.light_node.specs.Nodes.{NodeParts, NodeStands}
use Rattle.da_net.specs.declared.items.Item.{Item}
use Rattle.da_net.specs.declared.items.Item.TheVariants as item
use Rattle.da_net.specs.declared.copies.ClaimRoom.{ClaimRoom}
use Rattle.da_net.specs.Networks.{item_event, item_events}
use Rattle.da_net.specs.Nodes.{IsSpareClaim, HasSpareClaim, IsLightNode, Rejects, IsLightStep}
use Rattle.light_node.proofs.EventLemmas.{first_kept}
use Rattle.light_node.proofs.StandingLemmas.{stands_refused, stands_later}
use Rattle.da_net.proofs.GrowthLemmas.{events-push}
use Rattle.da_net.proofs.HandedLemmas.{event_there}

module _ {F : Type 0} (picks : F → ℕ → Cell → Type 0) (header : Roots) (items : List Item) (node : NodeParts F) (is : IsLightNode picks header items node)
    (c : ClaimParts) where
  -- its events with one claim more
  abbrev more : List Event
  more = item_events items ++ event.Claim c ∷ []

  -- it stands for one claim more, where it does so for these events
  light_more : NodeStands picks node is.plan more → IsLightNode picks header (items ++ item.Claim c ∷ []) node
  light_more stands = record {
    header_is = is.header_is;
    plan = is.plan;
    stands = subst (NodeStands picks node is.plan) (sym (events-push items (item.Claim c))) stands;
  }

  -- who rejected keeps its claim
  stands_kept : (kept : Option ClaimParts) → node.claim ≡ kept → Rejects kept → NodeStands picks node is.plan more
  stands_kept None e rejects = absurd rejects
  stands_kept (Some first) e rejects = stands_later picks node is.plan (item_events items) c is.stands first e

  pub light_kept : Rejects node.claim → IsLightNode picks header (items ++ item.Claim c ∷ []) node
  light_kept rejects = light_more (stands_kept node.claim refl rejects)

  -- a claim that isn't accepted changes nothing
  pub light_unaccepted : (Accepts header c → ⊥) → IsLightNode picks header (items ++ item.Claim c ∷ []) node
  light_unaccepted not =
      light_more (stands_refused picks node is.plan (item_events items) c is.stands (subst (λ (h : Roots). Accepts h c → ⊥) (sym is.header_is) not))

-- ---- a step

-- the same cells are wanted, of one plan
pub same_wanted : {F : Type 0} (picks : F → ℕ → Cell → Type 0) (old new : NodeParts F) (plan : List Cell) (before after : List Event)
    → NodeStands picks old plan before → NodeStands picks new plan after → new.wanted ≡ old.wanted
same_wanted picks old new plan before after one two = two.wanted ∙ sym one.wanted

-- the first accepted claim is among the events
pub among : (header : Roots) (events : List Event) (claim : ClaimParts) → IsFirstAccepted header events (Some claim) → Contains events (event.Claim claim)
among header events claim (accepts, before, after, is, none) =
    subst (λ (l : List Event). Contains l (event.Claim claim)) (sym is)
    (Contains-append_right before (event.Claim claim ∷ after) (event.Claim claim) (contains_head (event.Claim claim) after))

-- two verdicts by a claim that are one have one claim
same_verdict : (a b : ClaimParts) → light.Rejected a ≡ light.Rejected b → a ≡ b
same_verdict a b e = cc

module _ (once : (header : Roots) (plan : List Cell) (events : List Event) (one other : Light) → IsLight header plan events one → IsLight header plan events other → one ≡ other) where
  -- a first claim that was before is the first after
  pub same_first : (header : Roots) (events : List Event) (one : Event) (kept : Option ClaimParts) (claim : ClaimParts)
      → IsFirstAccepted header events (Some claim) → IsFirstAccepted header (events ++ one ∷ []) kept → kept ≡ Some claim
  same_first header events one None claim first none =
      absurd (none claim (Contains-append_left events (one ∷ []) (event.Claim claim) (among header events claim first)) first.0)
  same_first header events one (Some other) claim first second =
      ap Some (same_verdict other claim (once header [] (events ++ one ∷ []) (light.Rejected other) (light.Rejected claim) second
      (first_kept header events one claim first)))

  -- a light node that was handed one item more as an event
  pub light_step : {F : Type 0} (picks : F → ℕ → Cell → Type 0) (header : Roots) (items : List Item) (one : Item) (old new : NodeParts F)
      → (is : IsLightNode picks header items old) → new.header ≡ old.header
      → ((plan : List Cell) (events : List Event) → NodeStands picks old plan events → NodeStands picks new plan (events ++ item_event one ∷ []))
      → IsLightStep picks header (items ++ one ∷ []) old new
  light_step picks header items one old new is same stands =
      let after : NodeStands picks new is.plan (item_events items ++ item_event one ∷ []) = stands is.plan (item_events items) is.stands in record {
        node = record {
          header_is = same ∙ is.header_is;
          plan = is.plan;
          stands = subst (NodeStands picks new is.plan) (sym (events-push items one)) after;
        };
        wanted = same_wanted picks old new is.plan (item_events items) (item_events items ++ item_event one ∷ []) is.stands after;
        keeps = λ claim e.
            same_first old.header (item_events items) (item_event one) new.claim claim
            (subst (IsFirstAccepted old.header (item_events items)) e is.stands.claim)
            (subst (λ (h : Roots). IsFirstAccepted h (item_events items ++ item_event one ∷ []) new.claim) same after.claim);
      }

-- an accepted claim that was handed makes a light node reject
pub light_rejects : {F : Type 0} (picks : F → ℕ → Cell → Type 0) (header : Roots) (items : List Item) (node : NodeParts F) (claim : ClaimParts)
    → IsLightNode picks header items node → Contains items (item.Claim claim) → Accepts header claim → Rejects node.claim
light_rejects picks header items node claim is at accepts =
    by_claim node.claim (subst (λ (h : Roots). IsFirstAccepted h (item_events items) node.claim) is.header_is is.stands.claim)
  where
    by_claim : (kept : Option ClaimParts) → IsFirstAccepted header (item_events items) kept → Rejects kept
    by_claim None none = none claim (event_there items (item.Claim claim) at) accepts
    by_claim (Some other) first = tt

-- ---- the claim that a light node answers

module _ (header : Roots) (events : List Event) where
  -- where one is answered, it rejects
  pub found_rejects : (found : Option (Bor ClaimParts)) (kept : Option ClaimParts) → is_some found ≡ true → IsFirstAccepted header events (option_copied found)
      → IsFirstAccepted header events kept → Rejects kept
  found_rejects None kept some found first = absurd cc
  found_rejects (Some r) None some found none = absurd (none r.now (among header events r.now found) found.0)
  found_rejects (Some r) (Some claim) some found first = tt

  -- where none is, it doesn't
  pub missing_rejects : (found : Option (Bor ClaimParts)) (kept : Option ClaimParts) → is_some found ≡ false → IsFirstAccepted header events (option_copied found)
      → IsFirstAccepted header events kept → Rejects kept → ⊥
  missing_rejects None None none found first rejects = rejects
  missing_rejects None (Some claim) none found first rejects = found claim (among header events claim first) first.0
  missing_rejects (Some r) kept none found first rejects = absurd cc

-- a room that is there
pub spare_some : (k : ℕ) (room : Option ClaimRoom) → HasSpareClaim k room → is_some room ≡ true
spare_some k None spare = absurd spare
spare_some k (Some cells) spare = refl

pub spare_is : (k : ℕ) (room : Option ClaimRoom) (cells : ClaimRoom) → room ≡ Some cells → HasSpareClaim k room → IsSpareClaim k cells
spare_is k room cells e spare = subst (HasSpareClaim k) e spare
