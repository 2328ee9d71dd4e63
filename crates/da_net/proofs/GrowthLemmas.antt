-- What more items change for a full node.
use Rattle.std.proofs.Common.{◌≡◌, List, [], ◌∷◌, ◌++◌, refl, sym, ap, subst, inl, inr}
use Rattle.std.specs.Prelude.{None}
use Rattle.std.proofs.lemmas.List.Elements.{Contains-append_left, Contains-push_cases}
use Rattle.data_header.specs.Headers.{Roots}
use Rattle.axis_roots.specs.declared.message.messages.Message.{Message}
use Rattle.axis_roots.specs.Openings.{IsProved}
use Rattle.axis_roots.specs.Claims.{ClaimParts, Accepts}
use Rattle.repair_queue.specs.Closures.{Covers}
use Rattle.light_node.specs.declared.events.Event.{Event}
use Rattle.light_node.specs.Events.{NoneAccepted}
use Rattle.light_node.proofs.EventLemmas.{first_by_sample, none_by_claim as refused_none}
use Rattle.da_net.specs.declared.items.Item.{Item}
use Rattle.da_net.specs.declared.items.Item.TheVariants as item
use Rattle.da_net.specs.Networks.{messages_of, item_event, item_events}

-- ---- lists

-- one sample more
pub messages-message : (items : List Item) (m : Message) → messages_of (items ++ item.Message m ∷ []) ≡ messages_of items ++ m ∷ []
messages-message [] m = refl
messages-message (item.Message n ∷ items) m = ap (λ (l : List Message). n ∷ l) (messages-message items m)
messages-message (item.Claim c ∷ items) m = messages-message items m

-- a claim is no sample
pub messages-claim : (items : List Item) (c : ClaimParts) → messages_of (items ++ item.Claim c ∷ []) ≡ messages_of items
messages-claim [] c = refl
messages-claim (item.Message n ∷ items) c = ap (λ (l : List Message). n ∷ l) (messages-claim items c)
messages-claim (item.Claim d ∷ items) c = messages-claim items c

-- one event more
pub events-push : (items : List Item) (one : Item) → item_events (items ++ one ∷ []) ≡ item_events items ++ item_event one ∷ []
events-push [] one = refl
events-push (x ∷ items) one = ap (λ (l : List Event). item_event x ∷ l) (events-push items one)

-- ---- what covers what

-- a longer list has the proved samples
pub covers_more : (header : Roots) (ms : List Message) (m : Message) → Covers header ms (ms ++ m ∷ [])
covers_more header ms m n at proved = Contains-append_left ms (m ∷ []) n at

-- one that isn't proved adds none
pub covers_refused : (header : Roots) (ms others : List Message) (m : Message) → Covers header ms others → (IsProved header m → ⊥) → Covers header (ms ++ m ∷ []) others
covers_refused header ms others m covers not n at proved = elim (Contains-push_cases ms m n at) [
  | inl before ↦ covers n before proved
  | inr e ↦ absurd (not (subst (IsProved header) (sym e) proved))
]

-- a list has its own
pub covers_self : (header : Roots) (ms : List Message) → Covers header ms ms
covers_self header ms m at proved = at

-- ---- claims

-- after a sample no claim is accepted that wasn't before
pub none_by_message : (header : Roots) (items : List Item) (m : Message) → NoneAccepted header (item_events items)
    → NoneAccepted header (item_events (items ++ item.Message m ∷ []))
none_by_message header items m none =
    subst (NoneAccepted header) (sym (events-push items (item.Message m))) (first_by_sample header (item_events items) m None none)

-- nor after a claim that isn't
pub none_by_claim : (header : Roots) (items : List Item) (c : ClaimParts) → NoneAccepted header (item_events items) → (Accepts header c → ⊥)
    → NoneAccepted header (item_events (items ++ item.Claim c ∷ []))
none_by_claim header items c none refused =
    subst (NoneAccepted header) (sym (events-push items (item.Claim c))) (refused_none header (item_events items) c none refused)
