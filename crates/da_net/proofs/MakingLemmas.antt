-- Seats of nodes to which nothing was handed.
use Rattle.std.proofs.Common.{◌≡◌, ℕ, List, [], ◌∷◌, ◌++◌, length, map, replicate, refl, sym, ap, ap₂, subst, inl, inr}
use Rattle.std.specs.Prelude.{Option, Some, None}
use Rattle.namespace_id.specs.declared.cells.Cell.{Cell}
use Rattle.std.specs.List.{AllZip, Contains}
use Rattle.namespace_id.proofs.MemberLemmas.{contains_none, contains_cons}
use Rattle.data_header.specs.Headers.{Roots}
use Rattle.axis_roots.specs.Claims.{ClaimParts}
use Rattle.repair_queue.specs.declared.sessions.SessionState.TheVariants as state
use Rattle.repair_queue.specs.SessionParts.{SessionParts, SessionStands}
use Rattle.repair_queue.specs.Sessions.{session_state}
use Rattle.light_node.specs.declared.events.Event.{Event}
use Rattle.light_node.specs.declared.events.Event.TheVariants as event
use Rattle.light_node.specs.Events.{IsFirstAccepted}
use Rattle.light_node.specs.Nodes.{NodeParts}
use Rattle.light_node.proofs.ListLemmas.{listed_at}
use Rattle.da_net.specs.declared.seats.Node.TheVariants.{Full, Light}
use Rattle.da_net.specs.declared.seats.Seat.{Seat}
use Rattle.da_net.specs.declared.copies.ClaimRoom.{ClaimRoom}
use Rattle.da_net.specs.Networks.{NodeKind, full, light, Standing, start}
use Rattle.da_net.specs.Nodes.{HasSpareClaim, IsNodeSession, IsFreshNode}
use Rattle.da_net.specs.Nets.{rejecting_claim}
use Rattle.da_net.specs.Seats.{node_kind, alarm_with, alarm_of, HasSpareFor, IsFreshSeat, IsNet}
use Rattle.da_net.proofs.FullLemmas.{settled_by}
use Rattle.da_net.proofs.NetLemmas.{seen}

-- the seat of a full node
pub fresh_full : {F : Type 0} (picks : F → ℕ → Cell → Type 0) (header : Roots) (s : SessionParts) (kept published : Option ClaimRoom)
    → s.header ≡ header → session_state s ≡ state.Open → SessionStands s [] → HasSpareClaim header.k kept → HasSpareClaim header.k published
    → IsFreshSeat {F = F} picks header full (record { node = Full (record { session = Some s; end = None }); kept = kept; published = published })
fresh_full picks header s kept published same goes stands spare other =
    let has : IsNodeSession header [] s = record { header_is = same; goes_on = goes; stands = stands } in record {
      seat_is = record {
        is_node = record {
          stands = (λ claim at accepts. contains_none (event.Claim claim) at, settled_by header [] s has);
          session = has;
        };
        spare = spare;
      };
      kind_is = refl;
      calm = refl;
      unpublished = other;
    }

-- of no events none is the first claim
no_claim : (header : Roots) (o : Option ClaimParts) → IsFirstAccepted header [] o → o ≡ None
no_claim header None first = refl
no_claim header (Some claim) (accepts, before, after, is, none) = absurd (empty before is)
  where
    empty : (before : List Event) → [] ≡ before ++ event.Claim claim ∷ after → ⊥
    empty [] e = cc
    empty (x ∷ before) e = cc

-- the seat of a light node
pub fresh_light : {F : Type 0} (picks : F → ℕ → Cell → Type 0) (header : Roots) (node : NodeParts F) (kept published : Option ClaimRoom)
    → IsFreshNode picks header node → HasSpareClaim header.k kept → HasSpareClaim header.k published
    → IsFreshSeat picks header (light node.wanted) (record { node = Light node; kept = kept; published = published })
fresh_light picks header node kept published (same, plan, stands) spare other =
    let none : node.claim ≡ None = no_claim node.header node.claim stands.claim in record {
      seat_is = record {
        is_node = record { header_is = same; plan = plan; stands = stands };
        spare = subst (λ (o : Option ClaimParts). HasSpareFor header.k (rejecting_claim (alarm_with o)) kept) (sym none) spare;
      };
      kind_is = refl;
      calm = ap alarm_with none;
      unpublished = other;
    }

-- ---- lists of them

-- one list of kinds is another
pub zip_same : {A B : Type 0} (R : A → B → Type 0) (xs others : List A) (ys : List B) → xs ≡ others → AllZip R xs ys → AllZip R others ys
zip_same R xs others ys e zip = subst (λ (l : List _). AllZip R l ys) e zip

module _ {F : Type 0} (picks : F → ℕ → Cell → Type 0) (header : Roots) where
  -- their kinds
  fresh_kinds : (kinds : List NodeKind) (seats : List (Seat F)) → AllZip (IsFreshSeat picks header) kinds seats → map (λ (s : Seat F). node_kind s.node) seats ≡ kinds
  fresh_kinds [] [] zip = refl
  fresh_kinds [] (s ∷ seats) zip = absurd zip
  fresh_kinds (k ∷ kinds) [] zip = absurd zip
  fresh_kinds (k ∷ kinds) (s ∷ seats) zip = ap₂ (λ (x : NodeKind) (l : List NodeKind). x ∷ l) zip.0.kind_is (fresh_kinds kinds seats zip.1)

  -- nothing alarmed them
  fresh_alarms : (kinds : List NodeKind) (seats : List (Seat F)) → AllZip (IsFreshSeat picks header) kinds seats
      → map (λ (s : Seat F). alarm_of s.node) seats ≡ replicate (length kinds) None
  fresh_alarms [] [] zip = refl
  fresh_alarms [] (s ∷ seats) zip = absurd zip
  fresh_alarms (k ∷ kinds) [] zip = absurd zip
  fresh_alarms (k ∷ kinds) (s ∷ seats) zip =
      ap₂ (λ (x : Option Standing) (l : List (Option Standing)). x ∷ l) zip.0.calm (fresh_alarms kinds seats zip.1)

  -- each is fresh
  each_fresh : (kinds : List NodeKind) (seats : List (Seat F)) → AllZip (IsFreshSeat picks header) kinds seats → (seat : Seat F) → Contains seats seat
      → (kind : NodeKind) × IsFreshSeat picks header kind seat
  each_fresh kinds [] zip seat at = absurd (contains_none seat at)
  each_fresh [] (s ∷ seats) zip seat at = absurd zip
  each_fresh (k ∷ kinds) (s ∷ seats) zip seat at = elim (contains_cons s seat seats at) [
    | inl e ↦ (k, subst (IsFreshSeat picks header k) e zip.0)
    | inr later ↦ each_fresh kinds seats zip.1 seat later
  ]

  -- they are a network in which nothing has happened
  pub fresh_net : (kinds : List NodeKind) (seats : List (Seat F)) → AllZip (IsFreshSeat picks header) kinds seats → IsNet picks header seats [] []
  fresh_net kinds seats zip = record {
    run = start;
    seated = λ node seat at. (each_fresh kinds seats zip seat (listed_at seats node seat at)).1.seat_is;
    unpublished = λ node seat at. (each_fresh kinds seats zip seat (listed_at seats node seat at)).1.unpublished;
    judged = λ place entry at. absurd (contains_none entry (listed_at [] place entry at));
  }

  -- as contracts see it
  pub fresh_seen : (kinds : List NodeKind) (seats : List (Seat F)) (most_items most_steps : ℕ) → AllZip (IsFreshSeat picks header) kinds seats
      → seen header seats most_items most_steps [] [] ≡ record {
        header = header;
        nodes = kinds;
        alarms = replicate (length kinds) None;
        most_items = most_items;
        most_steps = most_steps;
        pool = [];
        steps = [];
      }
  fresh_seen kinds seats most_items most_steps zip =
      ap₂ (λ (n : List NodeKind) (a : List (Option Standing)). record {
        header = header;
        nodes = n;
        alarms = a;
        most_items = most_items;
        most_steps = most_steps;
        pool = [];
        steps = [];
      }) (fresh_kinds kinds seats zip) (fresh_alarms kinds seats zip)
