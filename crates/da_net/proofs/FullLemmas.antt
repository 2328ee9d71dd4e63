-- Full nodes that are handed one item more.
use Rattle.std.proofs.Common.{◌≡◌, ℕ, List, [], ◌∷◌, ◌++◌, true, refl, sym, subst, inl, inr}
use Rattle.std.specs.Prelude.{◌≤◌, Option, Some, None, IfSome, is_some, false, length}
use Rattle.std.proofs.lemmas.List.Elements.{Contains-append_left, Contains-push}
use Rattle.data_header.specs.Headers.{Roots}
use Rattle.axis_roots.specs.declared.message.messages.Message.{Message}
use Rattle.axis_roots.specs.Openings.{IsProved}
use Rattle.axis_roots.specs.Claims.{ClaimParts, Accepts}
use Rattle.axis_roots.proofs.Messages.SetLemmas.{accepted_few}
use Rattle.repair_queue.specs.Closures.{Covers}
use Rattle.repair_queue.specs.Settled.{IsSettled}
use Rattle.repair_queue.specs.Verdicts.{IsFraud, IsFoundClash}
use Rattle.repair_queue.specs.SessionParts.{SessionParts, SessionStands}
use Rattle.repair_queue.proofs.Facts.GrowthLemmas.{fraud_grows, clash_grows, settled_same}
use Rattle.repair_queue.proofs.Facts.SessionLawLemmas.{session_settled, session_same}
use Rattle.light_node.specs.Events.{NoneAccepted}
use Rattle.da_net.specs.declared.items.Item.{Item}
use Rattle.da_net.specs.declared.items.Item.TheVariants as item
use Rattle.da_net.specs.declared.full.End.{End}
use Rattle.da_net.specs.declared.full.End.TheVariants as end
use Rattle.da_net.specs.declared.full.FullNode.{FullNode}
use Rattle.da_net.specs.Networks.{messages_of, item_events, full, settled, clashing, rejecting, NodeMayStand, IsRejecting}
use Rattle.da_net.specs.Nodes.{HasSpareClaim, standing_by, IsNodeSession, HasSession, IsFullNode, EndsSo, SpareAfter, ComesOfFeeding}
use Rattle.da_net.specs.declared.full.Fed.TheVariants.{On, Ended as Stopped}
use Rattle.axis_roots.proofs.Messages.ClaimLemmas.{Shape, shape_of}
use Rattle.da_net.specs.declared.copies.ClaimRoom.{ClaimRoom}
use Rattle.repair_queue.specs.Verdicts.{VerdictParts, IsVerdict}
use Rattle.std.proofs.lemmas.Option.{same_Some}
use Rattle.da_net.proofs.GrowthLemmas.{messages-message, messages-claim, covers_more, covers_refused, covers_self, none_by_message, none_by_claim}

-- the samples of a session that nothing ended are settled
pub settled_by : (header : Roots) (ms : List Message) (s : SessionParts) → IsNodeSession header ms s → IsSettled header ms
settled_by header ms s has = subst (λ (h : Roots). IsSettled h ms) has.header_is (session_settled s ms has.goes_on has.stands)

-- it stands for each list with the same proved samples
session_covers : (header : Roots) (ms others : List Message) (s : SessionParts) → Covers header ms others → Covers header others ms → IsNodeSession header ms s
    → IsNodeSession header others s
session_covers header ms others s to from has = record {
  header_is = has.header_is;
  goes_on = has.goes_on;
  stands = session_same s ms others (subst (λ (h : Roots). Covers h ms others) (sym has.header_is) to)
      (subst (λ (h : Roots). Covers h others ms) (sym has.header_is) from) has.stands;
}

module _ (header : Roots) (items : List Item) where
  -- ---- a sample

  module _ (m : Message) where
    -- the samples with it
    abbrev more : List Message
    more = messages_of (items ++ item.Message m ∷ [])

    -- they cover those before
    more_messages : Covers header (messages_of items) more
    more_messages = subst (Covers header (messages_of items)) (sym (messages-message items m)) (covers_more header (messages_of items) m)

    -- what ended a node does so still
    ended_by_message : (e : End) → NodeMayStand header full items (standing_by (Some e)) → NodeMayStand header full (items ++ item.Message m ∷ []) (standing_by (Some e))
    ended_by_message (end.Clash pair) stands =
        (none_by_message header items m stands.0, clash_grows header (messages_of items) more pair.left pair.right more_messages stands.1)
    ended_by_message (end.Rejected claim) (accepts, inl at) = (accepts, inl (Contains-append_left items (item.Message m ∷ []) (item.Claim claim) at))
    ended_by_message (end.Rejected claim) (accepts, inr found) =
        (accepts, inr (fraud_grows header (messages_of items) more claim more_messages found))

    -- a node that ended
    ended_node : (o : Option End) (s : Option SessionParts) → is_some o ≡ true → NodeMayStand header full items (standing_by o)
        → NodeMayStand header full (items ++ item.Message m ∷ []) (standing_by o) × HasSession header more o s
    ended_node None s some stands = absurd cc
    ended_node (Some e) s some stands = (ended_by_message e stands, tt)

    pub full_ended : (node : FullNode) → is_some node.end ≡ true → IsFullNode header items node → IsFullNode header (items ++ item.Message m ∷ []) node
    full_ended node some is = let both = ended_node node.end node.session some is.stands in record { stands = both.0; session = both.1 }

    -- a node whose session goes on, and a sample that isn't proved
    refused_on : (IsProved header m → ⊥) → (s : Option SessionParts) → NodeMayStand header full items settled → HasSession header (messages_of items) None s
        → NodeMayStand header full (items ++ item.Message m ∷ []) settled × HasSession header more None s
    refused_on not None stands has = absurd has
    refused_on not (Some s) stands has =
        let back : Covers header more (messages_of items) =
        subst (λ (l : List Message). Covers header l (messages_of items)) (sym (messages-message items m))
        (covers_refused header (messages_of items) (messages_of items) m (covers_self header (messages_of items)) not) in (
          (none_by_message header items m stands.0, settled_same header (messages_of items) more more_messages back stands.1),
          session_covers header (messages_of items) more s more_messages back has,
        )

    -- whatever the node
    refused_node : (IsProved header m → ⊥) → (o : Option End) (s : Option SessionParts) → NodeMayStand header full items (standing_by o)
        → HasSession header (messages_of items) o s → NodeMayStand header full (items ++ item.Message m ∷ []) (standing_by o) × HasSession header more o s
    refused_node not None s stands has = refused_on not s stands has
    refused_node not (Some e) s stands has = (ended_by_message e stands, tt)

    pub full_refused : (node : FullNode) → (IsProved header m → ⊥) → IsFullNode header items node → IsFullNode header (items ++ item.Message m ∷ []) node
    full_refused node not is =
        let both = refused_node not node.end node.session is.stands is.session in record { stands = both.0; session = both.1 }

    -- a session that was fed with it
    module _ (none : NoneAccepted header (item_events items)) where
      -- it goes on
      pub fed_on : (s : SessionParts) → IsNodeSession header (messages_of items ++ m ∷ []) s
          → IsFullNode header (items ++ item.Message m ∷ []) (record { session = Some s; end = None })
      fed_on s has =
          let here : IsNodeSession header more s = subst (λ (l : List Message). IsNodeSession header l s) (sym (messages-message items m)) has in
          record { stands = (none_by_message header items m none, settled_by header more s here); session = here }

      -- or a collision ends it
      pub fed_clash : (left right : List ℕ) → IsFoundClash header (messages_of items ++ m ∷ []) left right
          → NodeMayStand header full (items ++ item.Message m ∷ []) (clashing left right)
      fed_clash left right found =
          (none_by_message header items m none, subst (λ (l : List Message). IsFoundClash header l left right) (sym (messages-message items m)) found)

      -- or a fraud
      pub fed_fraud : (claim : ClaimParts) → IsFraud header (messages_of items ++ m ∷ []) claim → NodeMayStand header full (items ++ item.Message m ∷ []) (rejecting claim)
      fed_fraud claim found = (found.accepts, inr (subst (λ (l : List Message). IsFraud header l claim) (sym (messages-message items m)) found))

  -- ---- a claim

  module _ (c : ClaimParts) where
    -- it changes no samples
    same_session : (o : Option End) (s : Option SessionParts) → HasSession header (messages_of items) o s → HasSession header (messages_of (items ++ item.Claim c ∷ [])) o s
    same_session o s has = subst (λ (l : List Message). HasSession header l o s) (sym (messages-claim items c)) has

    -- who rejected does so still
    rejects_more : (claim : ClaimParts) → NodeMayStand header full items (rejecting claim) → NodeMayStand header full (items ++ item.Claim c ∷ []) (rejecting claim)
    rejects_more claim (accepts, inl at) = (accepts, inl (Contains-append_left items (item.Claim c ∷ []) (item.Claim claim) at))
    rejects_more claim (accepts, inr found) =
        (accepts, inr (subst (λ (l : List Message). IsFraud header l claim) (sym (messages-claim items c)) found))

    -- a claim that isn't accepted changes nothing
    unaccepted_stands : (Accepts header c → ⊥) → (o : Option End) → NodeMayStand header full items (standing_by o) → NodeMayStand header full (items ++ item.Claim c ∷ []) (standing_by o)
    unaccepted_stands not None stands =
        (none_by_claim header items c stands.0 not, subst (IsSettled header) (sym (messages-claim items c)) stands.1)
    unaccepted_stands not (Some (end.Clash pair)) stands =
        (none_by_claim header items c stands.0 not, subst (λ (l : List Message). IsFoundClash header l pair.left pair.right) (sym (messages-claim items c)) stands.1)
    unaccepted_stands not (Some (end.Rejected claim)) stands = rejects_more claim stands

    pub full_unaccepted : (node : FullNode) → (Accepts header c → ⊥) → IsFullNode header items node → IsFullNode header (items ++ item.Claim c ∷ []) node
    full_unaccepted node not is = record {
      stands = unaccepted_stands not node.end is.stands;
      session = same_session node.end node.session is.session;
    }

    -- who rejected keeps its claim
    kept_stands : (o : Option End) → IsRejecting (standing_by o) → NodeMayStand header full items (standing_by o) → NodeMayStand header full (items ++ item.Claim c ∷ []) (standing_by o)
    kept_stands None rejects stands = absurd rejects
    kept_stands (Some (end.Clash pair)) rejects stands = absurd rejects
    kept_stands (Some (end.Rejected claim)) rejects stands = rejects_more claim stands

    pub full_kept : (node : FullNode) → IsRejecting (standing_by node.end) → IsFullNode header items node → IsFullNode header (items ++ item.Claim c ∷ []) node
    full_kept node rejects is = record {
      stands = kept_stands node.end rejects is.stands;
      session = same_session node.end node.session is.session;
    }

    -- who didn't rejects by an accepted one
    pub full_accepts : Accepts header c → (s : Option SessionParts) → IsFullNode header (items ++ item.Claim c ∷ []) (record { session = s; end = Some (end.Rejected c) })
    full_accepts accepts s = record { stands = (accepts, inl (Contains-push items (item.Claim c))); session = tt }

-- ---- sessions

-- an accepted claim has as many samples as the width
pub accepted_count : (header : Roots) (claim : ClaimParts) → Accepts header claim → length claim.cells ≡ header.k
accepted_count header claim accepts = let shape : Shape header.k claim = shape_of header.k claim accepts.bad.shape in shape.count

-- and its set no more nodes than that
pub accepted_nodes : (header : Roots) (claim : ClaimParts) → Accepts header claim → IfSome claim.set (λ nodes. length nodes ≤ length claim.cells)
accepted_nodes header claim accepts =
    subst (λ (n : ℕ). IfSome claim.set (λ nodes. length nodes ≤ n)) (sym (accepted_count header claim accepts)) (accepted_few header claim accepts)

-- what ended a session by its verdict
pub fed_ended : (header : Roots) (ms : List Message) (old new : Option ClaimRoom) (verdict : VerdictParts) (e : End) → EndsSo verdict e → SpareAfter old new e
    → IsVerdict header ms verdict → ComesOfFeeding header ms old new (Stopped e)
fed_ended header ms old new verdict (end.Clash pair) so same is = (subst (IsVerdict header ms) so is, same)
fed_ended header ms old new verdict (end.Rejected claim) so same is = subst (IsVerdict header ms) so is

-- the session of a node that nothing ended
session_by : (header : Roots) (items : List Item) (o : Option End) (s : Option SessionParts) (old : SessionParts) → is_some o ≡ false → s ≡ Some old
    → NodeMayStand header full items (standing_by o) → HasSession header (messages_of items) o s
    → IsNodeSession header (messages_of items) old × NoneAccepted header (item_events items)
session_by header items None None old f e stands has = absurd has
session_by header items None (Some x) old f e stands has = (subst (IsNodeSession header (messages_of items)) (same_Some x old e) has, stands.0)
session_by header items (Some y) s old f e stands has = absurd cc

pub session_of : (header : Roots) (items : List Item) (node : FullNode) (old : SessionParts) → is_some node.end ≡ false → node.session ≡ Some old
    → IsFullNode header items node → IsNodeSession header (messages_of items) old × NoneAccepted header (item_events items)
session_of header items node old f e is = session_by header items node.end node.session old f e is.stands is.session

-- nothing ended it
pub none_by : (o : Option End) → is_some o ≡ false → o ≡ None
none_by None f = refl
none_by (Some x) f = absurd cc

module _ (header : Roots) (items : List Item) (m : Message) (node : FullNode) (old : SessionParts) (f : is_some node.end ≡ false) (e : node.session ≡ Some old)
    (old_room new_room : Option ClaimRoom) (is : IsFullNode header items node) where
  -- the session goes on
  pub taken_on : (s : SessionParts) → ((fed : List Message) → SessionStands old fed → ComesOfFeeding header (fed ++ m ∷ []) old_room new_room (On s))
      → IsFullNode header (items ++ item.Message m ∷ []) (record { session = Some s; end = node.end }) × (new_room ≡ old_room)
  taken_on s fed =
      let both = session_of header items node old f e is in
      let now = fed (messages_of items) both.0.stands in (
        subst (λ (o : Option End). IsFullNode header (items ++ item.Message m ∷ []) (record { session = Some s; end = o })) (sym (none_by node.end f))
            (fed_on header items m both.1 s now.0),
        now.1,
      )

  -- or it ended
  pub taken_end : (s : Option SessionParts) (o : End) → ((fed : List Message) → SessionStands old fed → ComesOfFeeding header (fed ++ m ∷ []) old_room new_room (Stopped o))
      → IsFullNode header (items ++ item.Message m ∷ []) (record { session = s; end = Some o })
  taken_end s (end.Clash pair) fed =
      let both = session_of header items node old f e is in
      record { stands = fed_clash header items m both.1 pair.left pair.right (fed (messages_of items) both.0.stands).0; session = tt }
  taken_end s (end.Rejected claim) fed =
      let both = session_of header items node old f e is in
      record { stands = fed_fraud header items m both.1 claim (fed (messages_of items) both.0.stands); session = tt }

  -- the room for a claim is there still, where it doesn't reject
  pub room_end : (o : End) → ((fed : List Message) → SessionStands old fed → ComesOfFeeding header (fed ++ m ∷ []) old_room new_room (Stopped o))
      → HasSpareClaim header.k old_room → (IsRejecting (standing_by (Some o)) → ⊥) → HasSpareClaim header.k new_room
  room_end (end.Clash pair) fed room not =
      let both = session_of header items node old f e is in
      subst (HasSpareClaim header.k) (sym (fed (messages_of items) both.0.stands).1) room
  room_end (end.Rejected claim) fed room not = absurd (not tt)

-- a node that nothing ended doesn't reject
pub none_rejects : (o : Option End) → is_some o ≡ false → IsRejecting (standing_by o) → ⊥
none_rejects None f rejects = rejects
none_rejects (Some x) f rejects = absurd cc
