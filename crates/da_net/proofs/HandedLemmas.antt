-- What nodes were handed.
use Rattle.std.proofs.Common.{◌≡◌, ◌∙◌, ℕ, ◌<◌, ◌==◌, List, [], ◌∷◌, ◌++◌, append_assoc, length, Bool, Option, Some, None, slice_get, option_to_list, refl, sym, ap, ap₂, subst, inl, inr, arith}
use Rattle.std.specs.Prelude.{cond}
use Rattle.std.specs.List.{Contains}
use Rattle.std.proofs.lemmas.Bool.{cases_Bool, eqb-true, eq-eqb}
use Rattle.std.proofs.lemmas.List.{length-append, get_or_append_left}
use Rattle.std.proofs.lemmas.Option.{slice_get_within, get_or_from_slice_get, slice_get-get_or}
use Rattle.std.proofs.lemmas.List.Elements.{Contains-append_left, Contains-append_right, Contains-append_cases, Contains-push_cases}
use Rattle.namespace_id.proofs.MemberLemmas.{contains_head, contains_tail, contains_none, contains_cons}
use Rattle.axis_roots.specs.declared.message.messages.Message.{Message}
use Rattle.axis_roots.specs.Messages.{IsMessage}
use Rattle.axis_roots.specs.Claims.{ClaimParts}
use Rattle.light_node.specs.declared.events.Event.TheVariants as event
use Rattle.light_node.proofs.ListLemmas.{listed_at, place_front}
use Rattle.da_net.specs.declared.items.Item.{Item}
use Rattle.da_net.specs.declared.items.Item.TheVariants as item
use Rattle.da_net.specs.declared.items.Kept.{Kept}
use Rattle.da_net.specs.declared.items.Kept.TheVariants as kept
use Rattle.da_net.specs.Networks.{messages_of, item_event, item_events, IsNetItem, Network, handed_by, handed, IsRun, start, put, hand, publish}
use Rattle.da_net.specs.Promises.{WasHanded}

-- ---- items, samples and events

-- a place of a list is one of a longer list
longer : {A : Type 0} (xs ys : List A) (i : ℕ) → i < length xs → i < length (xs ++ ys)
longer xs ys i within = let e = length-append xs ys in omega (arith, within, e)

-- two samples that are one item are one
same_message : (m n : Message) → item.Message m ≡ item.Message n → m ≡ n
same_message m n e = cc

-- a claim is no sample
claim_apart : (c : ClaimParts) (m : Message) → item.Claim c ≡ item.Message m → ⊥
claim_apart c m e = cc

-- two claims that are one event are one item
event_claim : (one : Item) (c : ClaimParts) → item_event one ≡ event.Claim c → one ≡ item.Claim c
event_claim (item.Message m) c e = absurd cc
event_claim (item.Claim d) c e = let same : d ≡ c = cc in ap (λ (x : ClaimParts). item.Claim x) same

-- an item whose event is a sample is this sample
event_sample : (one : Item) (m : Message) → item_event one ≡ event.Sample m → one ≡ item.Message m
event_sample (item.Message n) m e = let same : n ≡ m = cc in ap (λ (x : Message). item.Message x) same
event_sample (item.Claim d) m e = absurd cc

-- an item is among the items of its event
pub event_there : (items : List Item) (one : Item) → Contains items one → Contains (item_events items) (item_event one)
event_there [] one at = absurd (contains_none one at)
event_there (x ∷ items) one at = elim (contains_cons x one items at) [
  | inl e ↦ subst (λ (y : Item). Contains (item_event x ∷ item_events items) (item_event y)) e (contains_head (item_event x) (item_events items))
  | inr later ↦ contains_tail (item_event x) (item_event one) (item_events items) (event_there items one later)
]

-- a claim among the events is among the items
pub claim_back : (items : List Item) (c : ClaimParts) → Contains (item_events items) (event.Claim c) → Contains items (item.Claim c)
claim_back [] c at = absurd (contains_none (event.Claim c) at)
claim_back (x ∷ items) c at = elim (contains_cons (item_event x) (event.Claim c) (item_events items) at) [
  | inl e ↦ subst (λ (y : Item). Contains (x ∷ items) y) (event_claim x c e) (contains_head x items)
  | inr later ↦ contains_tail x (item.Claim c) items (claim_back items c later)
]

-- a sample among the events is among the items
pub sample_back : (items : List Item) (m : Message) → Contains (item_events items) (event.Sample m) → Contains items (item.Message m)
sample_back [] m at = absurd (contains_none (event.Sample m) at)
sample_back (x ∷ items) m at = elim (contains_cons (item_event x) (event.Sample m) (item_events items) at) [
  | inl e ↦ subst (λ (y : Item). Contains (x ∷ items) y) (event_sample x m e) (contains_head x items)
  | inr later ↦ contains_tail x (item.Message m) items (sample_back items m later)
]

-- a sample among the items is in the list of their samples
pub message_there : (items : List Item) (m : Message) → Contains items (item.Message m) → Contains (messages_of items) m
message_there [] m at = absurd (contains_none (item.Message m) at)
message_there (item.Message n ∷ items) m at = elim (contains_cons (item.Message n) (item.Message m) items at) [
  | inl e ↦ subst (λ (y : Message). Contains (n ∷ messages_of items) y) (same_message n m e) (contains_head n (messages_of items))
  | inr later ↦ contains_tail n m (messages_of items) (message_there items m later)
]
message_there (item.Claim c ∷ items) m at = elim (contains_cons (item.Claim c) (item.Message m) items at) [
  | inl e ↦ absurd (claim_apart c m e)
  | inr later ↦ message_there items m later
]

-- and the other way round
pub message_back : (items : List Item) (m : Message) → Contains (messages_of items) m → Contains items (item.Message m)
message_back [] m at = absurd (contains_none m at)
message_back (item.Message n ∷ items) m at = elim (contains_cons n m (messages_of items) at) [
  | inl e ↦ subst (λ (y : Message). Contains (item.Message n ∷ items) (item.Message y)) e (contains_head (item.Message n) items)
  | inr later ↦ contains_tail (item.Message n) (item.Message m) items (message_back items m later)
]
message_back (item.Claim c ∷ items) m at = contains_tail (item.Claim c) (item.Message m) items (message_back items m at)

-- ---- steps

-- what one step hands to a node
by_step : (pool : List Item) (step : Kept) (node : ℕ) (one : Item) → Contains (handed_by pool step node) one
    → (place : ℕ) × (step ≡ kept.Hand place node) × (slice_get pool place ≡ Some one)
by_step pool kept.Put node one at = absurd (contains_none one at)
by_step pool (kept.Hand place to) node one at = elim (cases_Bool (to == node)) [
  | inl same ↦
      let here : Contains (option_to_list (slice_get pool place)) one = subst (λ (b : Bool). Contains (cond b (option_to_list (slice_get pool place)) []) one) same at in
      (place, ap (λ (n : ℕ). kept.Hand place n) (eqb-true to node same), from_option (slice_get pool place) one here)
  | inr other ↦ absurd (contains_none one (subst (λ (b : Bool). Contains (cond b (option_to_list (slice_get pool place)) []) one) other at))
]
  where
    from_option : (o : Option Item) (one : Item) → Contains (option_to_list o) one → o ≡ Some one
    from_option None one at = absurd (contains_none one at)
    from_option (Some x) one at = elim (contains_cons x one [] at) [
      | inl e ↦ ap Some e
      | inr none ↦ absurd (contains_none one none)
    ]
by_step pool (kept.Publish by) node one at = absurd (contains_none one at)

-- a step that hands an item to a node does
pub step_hands : (pool : List Item) (place node : ℕ) (one : Item) → slice_get pool place ≡ Some one
    → handed_by pool (kept.Hand place node) node ≡ one ∷ []
step_hands pool place node one e = ap (λ (b : Bool). cond b (option_to_list (slice_get pool place)) []) (eq-eqb node node refl) ∙ ap option_to_list e

-- a node was handed what a step handed to it
pub was_handed : (pool : List Item) (steps : List Kept) (node : ℕ) (one : Item) → Contains (handed pool steps node) one → WasHanded pool steps node one
was_handed pool [] node one at = absurd (contains_none one at)
was_handed pool (step ∷ steps) node one at = elim (Contains-append_cases (handed_by pool step node) (handed pool steps node) one at) [
  | inl now ↦
      let found = by_step pool step node one now in
      (found.0, subst (λ (s : Kept). Contains (step ∷ steps) s) found.1 (contains_head step steps), found.2)
  | inr later ↦
      let found = was_handed pool steps node one later in
      (found.0, contains_tail step (kept.Hand found.0 node) steps found.1, found.2)
]

-- and nothing else
pub hands : (pool : List Item) (steps : List Kept) (node : ℕ) (one : Item) → WasHanded pool steps node one → Contains (handed pool steps node) one
hands pool [] node one (place, at, e) = absurd (contains_none (kept.Hand place node) at)
hands pool (step ∷ steps) node one (place, at, e) = elim (contains_cons step (kept.Hand place node) steps at) [
  | inl now ↦
      let here : handed_by pool step node ≡ one ∷ [] = ap (λ (s : Kept). handed_by pool s node) now ∙ step_hands pool place node one e in
      Contains-append_left (handed_by pool step node) (handed pool steps node) one
      (subst (λ (l : List Item). Contains l one) (sym here) (contains_head one []))
  | inr later ↦ Contains-append_right (handed_by pool step node) (handed pool steps node) one (hands pool steps node one (place, later, e))
]

-- an item at a place of a list stays there when the list grows
pub still_placed : {A : Type 0} (xs ys : List A) (i : ℕ) (x : A) → slice_get xs i ≡ Some x → slice_get (xs ++ ys) i ≡ Some x
still_placed xs ys i x e =
    let within : i < length xs = slice_get_within xs i x e in
    slice_get-get_or (xs ++ ys) i x (longer xs ys i within)
    ∙ ap Some (get_or_append_left xs ys x i within ∙ get_or_from_slice_get xs i x x e)

-- what was handed isn't taken back
pub stays_handed : (pool later : List Item) (steps more : List Kept) (node : ℕ) (one : Item) → Contains (handed pool steps node) one
    → Contains (handed (pool ++ later) (steps ++ more) node) one
stays_handed pool later steps more node one at =
    let found = was_handed pool steps node one at in
    hands (pool ++ later) (steps ++ more) node one (
      found.0,
      Contains-append_left steps more (kept.Hand found.0 node) found.1,
      still_placed pool later found.0 one found.2,
    )

-- and is in the pool
pub handed_pooled : (pool : List Item) (steps : List Kept) (node : ℕ) (one : Item) → Contains (handed pool steps node) one → Contains pool one
handed_pooled pool steps node one at = let found = was_handed pool steps node one at in listed_at pool found.0 one found.2

-- ---- runs

-- what is handed in a run was in the pool
pub hands_within : (net : Network) (pool : List Item) (steps : List Kept) → IsRun net pool steps → (place node : ℕ)
    → Contains steps (kept.Hand place node) → place < length pool
hands_within net pool steps start place node at = absurd (contains_none (kept.Hand place node) at)
hands_within net pool steps (put before done one run is) place node at =
    elim (Contains-push_cases done kept.Put (kept.Hand place node) at) [
      | inl old ↦ longer before (one ∷ []) place (hands_within net before done run place node old)
      | inr e ↦ absurd cc
    ]
hands_within net pool steps (hand before done here to run within is) place node at =
    elim (Contains-push_cases done (kept.Hand here to) (kept.Hand place node) at) [
      | inl old ↦ hands_within net before done run place node old
      | inr e ↦ let same : here ≡ place = cc in subst (λ (i : ℕ). i < length before) same within
    ]
hands_within net pool steps (publish before done by kind claim run is stands) place node at =
    elim (Contains-push_cases done (kept.Publish by) (kept.Hand place node) at) [
      | inl old ↦ longer before (item.Claim claim ∷ []) place (hands_within net before done run place node old)
      | inr e ↦ absurd cc
    ]

-- the samples of the pool have their shape
pub pool_messages : (net : Network) (pool : List Item) (steps : List Kept) → IsRun net pool steps → (m : Message)
    → Contains pool (item.Message m) → IsMessage m
pool_messages net pool steps start m at = absurd (contains_none (item.Message m) at)
pool_messages net pool steps (put before done one run is) m at = elim (Contains-push_cases before one (item.Message m) at) [
  | inl old ↦ pool_messages net before done run m old
  | inr e ↦ subst IsNetItem e is
]
pool_messages net pool steps (hand before done here to run within is) m at = pool_messages net before done run m at
pool_messages net pool steps (publish before done by kind claim run is stands) m at =
    elim (Contains-push_cases before (item.Claim claim) (item.Message m) at) [
      | inl old ↦ pool_messages net before done run m old
      | inr e ↦ absurd (claim_apart claim m e)
    ]

-- what a node was handed in more steps comes behind
pub handed-append : (pool : List Item) (steps more : List Kept) (node : ℕ) → handed pool (steps ++ more) node ≡ handed pool steps node ++ handed pool more node
handed-append pool [] more node = refl
handed-append pool (step ∷ steps) more node =
    ap (λ (l : List Item). handed_by pool step node ++ l) (handed-append pool steps more node)
    ∙ sym (append_assoc (handed_by pool step node) (handed pool steps node) (handed pool more node))

-- of a greater pool it is the same
pub handed-grown : (pool later : List Item) (steps : List Kept) (node : ℕ)
    → ((place to : ℕ) → Contains steps (kept.Hand place to) → place < length pool) → handed (pool ++ later) steps node ≡ handed pool steps node
handed-grown pool later [] node within = refl
handed-grown pool later (step ∷ steps) node within =
    ap₂ (λ (l r : List Item). l ++ r) (by_grown step (λ place to e. within place to (subst (λ (s : Kept). Contains (step ∷ steps) s) e (contains_head step steps))))
    (handed-grown pool later steps node (λ place to at. within place to (contains_tail step (kept.Hand place to) steps at)))
  where
    by_grown : (s : Kept) → ((place to : ℕ) → s ≡ kept.Hand place to → place < length pool) → handed_by (pool ++ later) s node ≡ handed_by pool s node
    by_grown kept.Put within = refl
    by_grown (kept.Hand place to) within =
        ap (λ (o : Option Item). cond (to == node) (option_to_list o) []) (place_front pool later place (within place to refl))
    by_grown (kept.Publish by) within = refl

-- so in a run it goes on
pub handed_goes_on : (net : Network) (pool later : List Item) (steps more : List Kept) (node : ℕ) → IsRun net pool steps
    → (rest : List Item) × (handed (pool ++ later) (steps ++ more) node ≡ handed pool steps node ++ rest)
handed_goes_on net pool later steps more node run = (
  handed (pool ++ later) more node,
  handed-append (pool ++ later) steps more node
      ∙ ap (λ (l : List Item). l ++ handed (pool ++ later) more node) (handed-grown pool later steps node (hands_within net pool steps run)),
)
