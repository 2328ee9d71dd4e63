-- What a step does to a network.
use Rattle.std.proofs.Common.{◌≡◌, ◌∙◌, ◌≢◌, ℕ, ◌<◌, ◌≤◌, ◌+◌, ◌==◌, List, [], ◌∷◌, ◌++◌, append-nil, length, map, set, get_or, Bool, true, false, ◌||◌, ◌&&◌, true≢false, Option, Some, None, slice_get, option_to_list, refl, sym, ap, ap₂, subst, inl, inr, arith}
use Rattle.std.proofs.Common.{Bor}
use Rattle.std.specs.Prelude.{◌⊎◌, is_some, option_copied, IfSome, nat_le, cond, option_and_then, option_map}
use Rattle.std.specs.List.{list_any}
use Rattle.std.proofs.lemmas.Bool.{cases_Bool, eq-eqb}
use Rattle.std.proofs.lemmas.Bool.Decides.{eqb_tells, nat_tests}
use Rattle.std.proofs.lemmas.Option.{slice_get_read, slice_get_within, slice_get-get_or, slice_get_cases, slice_get_past, slice_get-map, same_Some, none-some, get_or_from_slice_get}
use Rattle.std.proofs.lemmas.List.{length-map, length-set, get_or-set_same, get_or-set_other, map-append, length-append, get_or_append_left, get_or-append-add}
use Rattle.std.proofs.lemmas.List.Folds.{list_any-append}
use Rattle.std.proofs.Math.Seq.{map-set_same}
use Rattle.namespace_id.specs.declared.cells.Cell.{Cell}
use Rattle.data_header.specs.Headers.{Roots}
use Rattle.axis_roots.specs.Claims.{ClaimParts, Accepts}
use Rattle.da_net.specs.declared.items.Item.{Item}
use Rattle.da_net.specs.declared.items.Item.TheVariants as item
use Rattle.da_net.specs.declared.items.Kept.{Kept}
use Rattle.da_net.specs.declared.items.Kept.TheVariants as kept
use Rattle.da_net.specs.declared.items.NodeState.{NodeState}
use Rattle.da_net.specs.declared.full.End.{End}
use Rattle.da_net.specs.declared.full.End.TheVariants as end
use Rattle.da_net.specs.declared.seats.Node.{Node}
use Rattle.da_net.specs.declared.seats.Node.TheVariants.{Full, Light}
use Rattle.da_net.specs.declared.seats.Seat.{Seat}
use Rattle.da_net.specs.declared.seats.Entry.{Entry}
use Rattle.da_net.specs.Networks.{IsNetItem, item_events, NodeKind, full, Network, Standing, settled, clashing, waiting, available, rejecting, NodeMayStand, handed_by, handed, IsRun, put, hand, publish}
use Rattle.da_net.specs.Nodes.{standing_by}
use Rattle.da_net.specs.declared.items.NetEvent.{NetEvent}
use Rattle.da_net.specs.Nets.{is_full, is_pooling, has_claim, NetParts, AfterClash, alarm_at, FitsAlarm, HasState, standing_state, rejecting_claim, is_publishing, IsHanded, IsPooled}
use Rattle.da_net.specs.Seats.{node_kind, alarm_by, alarm_with, alarm_of, IsNodeFor, HasSpareFor, HasUnpublished, IsSeat, IsSeatStep, SeatStands, IsJudgedEntry, pool_items, network_with, IsNet, IsCopied}
use Rattle.da_net.proofs.HandedLemmas.{handed-append, handed-grown, hands_within, step_hands}
use Rattle.light_node.specs.Events.{IsFirstAccepted}
use Rattle.da_net.specs.declared.copies.ClaimRoom.{ClaimRoom}
use Rattle.da_net.proofs.PromiseLemmas.{holds_accepted}

-- ---- lists

-- what is written stands at its place
pub slice_get-set_same : {A : Type 0} (xs : List A) (i : ℕ) (x : A) → i < length xs → slice_get (set xs i x) i ≡ Some x
slice_get-set_same xs i x within =
    let n = length-set xs i x in
    slice_get-get_or (set xs i x) i x (omega (arith, within, n)) ∙ ap Some (get_or-set_same xs i x x within)

-- and nothing else changes
pub slice_get-set_other : {A : Type 0} (xs : List A) (i j : ℕ) (x : A) → j ≢ i → slice_get (set xs i x) j ≡ slice_get xs j
slice_get-set_other xs i j x ne =
    let n = length-set xs i x in
    elim (slice_get_cases xs j).1 [
      | inl found ↦
          let within : j < length xs = found.1 in
          slice_get-get_or (set xs i x) j found.0 (omega (arith, within, n)) ∙ ap Some (get_or-set_other xs i j x found.0 ne ∙ found.3) ∙ sym found.2
      | inr past ↦
          let beyond : length xs ≤ j = past.0 in
          slice_get_past (set xs i x) j (omega (arith, beyond, n)) ∙ sym past.1
    ]

-- an item of a longer list is one of the list, or the last
pub slice_get-push_cases : {A : Type 0} (xs : List A) (x y : A) (i : ℕ) → slice_get (xs ++ x ∷ []) i ≡ Some y → (slice_get xs i ≡ Some y) ⊎ (x ≡ y)
slice_get-push_cases xs x y i e = elim (slice_get_cases xs i).1 [
  | inl found ↦
      let within : i < length xs = found.1 in
      let here : slice_get (xs ++ x ∷ []) i ≡ Some found.0 =
      slice_get-get_or (xs ++ x ∷ []) i found.0 (let n = length-append xs (x ∷ []) in omega (arith, within, n))
      ∙ ap Some (get_or_append_left xs (x ∷ []) found.0 i within ∙ found.3) in
      inl (found.2 ∙ sym here ∙ e)
  | inr past ↦
      let beyond : length xs ≤ i = past.0 in
      let inside : i < length (xs ++ x ∷ []) = slice_get_within (xs ++ x ∷ []) i y e in
      let n : length (xs ++ x ∷ []) ≡ length xs + 1 = length-append xs (x ∷ []) in
      let at : i ≡ length xs + 0 = omega (arith, beyond, inside, n) in
      inr (sym (get_or-append-add xs (x ∷ []) 0 y) ∙ ap (λ (n : ℕ). get_or (xs ++ x ∷ []) n y) (sym at)
      ∙ get_or_from_slice_get (xs ++ x ∷ []) i y y e)
]

-- ---- a run goes on

module _ {F : Type 0} (picks : F → ℕ → Cell → Type 0) (header : Roots) (seats : List (Seat F)) (pool : List Entry) (steps : List Kept)
    (is : IsNet picks header seats pool steps) where
  -- the items of the pool with one more
  items-push : (entry : Entry) → pool_items (pool ++ entry ∷ []) ≡ pool_items pool ++ entry.item ∷ []
  items-push entry = map-append (λ (e : Entry). e.item) pool (entry ∷ [])

  -- a step that hands nothing
  handed_same : (later : List Item) (step : Kept) (node : ℕ) → handed_by (pool_items pool ++ later) step node ≡ []
      → handed (pool_items pool ++ later) (steps ++ step ∷ []) node ≡ handed (pool_items pool) steps node
  handed_same later step node none =
      handed-append (pool_items pool ++ later) steps (step ∷ []) node
      ∙ ap₂ (λ (l r : List Item). l ++ (r ++ [])) (handed-grown (pool_items pool) later steps node (hands_within (network_with header seats) (pool_items pool) steps is.run)) none
      ∙ append-nil (handed (pool_items pool) steps node)

  -- a seat of a network
  seat_there : (later : List Item) (step : Kept) (node : ℕ) (seat : Seat F) → slice_get seats node ≡ Some seat
      → handed_by (pool_items pool ++ later) step node ≡ [] → IsSeat picks header (handed (pool_items pool ++ later) (steps ++ step ∷ []) node) seat
  seat_there later step node seat at none =
      subst (λ (l : List Item). IsSeat picks header l seat) (sym (handed_same later step node none)) (is.seated node seat at)

  -- no publishing more
  same_published : (step : Kept) (node : ℕ) → is_publishing node step ≡ false → list_any (is_publishing node) (steps ++ step ∷ []) ≡ list_any (is_publishing node) steps
  same_published step node not =
      list_any-append (is_publishing node) steps (step ∷ []) ∙ ap (λ (b : Bool). list_any (is_publishing node) steps || (b || false)) not ∙ or_false (list_any (is_publishing node) steps)
    where
      or_false : (b : Bool) → (b || (false || false)) ≡ b
      or_false true = refl
      or_false false = refl

  -- the judgements stay
  judged_more : (entry : Entry) → IsJudgedEntry header entry → (place : ℕ) (one : Entry) → slice_get (pool ++ entry ∷ []) place ≡ Some one → IsJudgedEntry header one
  judged_more entry judged place one at = elim (slice_get-push_cases pool entry one place at) [
    | inl before ↦ is.judged place one before
    | inr e ↦ subst (IsJudgedEntry header) e judged
  ]

  -- an item is put into the pool
  pub net_put : (entry : Entry) → IsNetItem entry.item → IsJudgedEntry header entry → IsNet picks header seats (pool ++ entry ∷ []) (steps ++ kept.Put ∷ [])
  net_put entry shape judged = record {
    run = subst (λ (l : List Item). IsRun (network_with header seats) l (steps ++ kept.Put ∷ [])) (sym (items-push entry))
        (put (pool_items pool) steps entry.item is.run shape);
    seated = λ node seat at.
        subst (λ (l : List Item). IsSeat picks header (handed l (steps ++ kept.Put ∷ []) node) seat) (sym (items-push entry))
        (seat_there (entry.item ∷ []) kept.Put node seat at refl);
    unpublished = λ node seat at.
        subst (λ (b : Bool). HasUnpublished header.k b seat.published) (sym (same_published kept.Put node refl)) (is.unpublished node seat at);
    judged = judged_more entry judged;
  }

  -- ---- one seat changes

  module _ (to : ℕ) (old new : Seat F) (at : slice_get seats to ≡ Some old) where
    -- there is such a seat
    within_seats : to < length seats
    within_seats = slice_get_within seats to old at

    -- the nodes are of their kinds
    pub same_network : node_kind new.node ≡ node_kind old.node → network_with {F = F} header (set seats to new) ≡ network_with header seats
    same_network e = ap (λ (l : List NodeKind). record { header = header; nodes = l })
        (map-set_at (λ (seat : Seat F). node_kind seat.node) seats to new old at e)
      where
        map-set_at : (f : Seat F → NodeKind) (xs : List (Seat F)) (i : ℕ) (x y : Seat F) → slice_get xs i ≡ Some y → f x ≡ f y → map f (set xs i x) ≡ map f xs
        map-set_at f xs i x y there same = map-set_same f xs i x y (same ∙ ap f (sym (get_or_from_slice_get xs i y y there)))

    -- which seat this is
    seat_cases : (node : ℕ) (seat : Seat F) → slice_get (set seats to new) node ≡ Some seat
        → ((node ≡ to) × (new ≡ seat)) ⊎ ((node ≢ to) × (slice_get seats node ≡ Some seat))
    seat_cases node seat there = elim (eqb_tells node to) [
      | inl same ↦ inl (
        same.1,
        same_Some new seat (sym (slice_get-set_same seats to new within_seats)
            ∙ ap (λ (n : ℕ). slice_get (set seats to new) n) (sym same.1) ∙ there),
      )
      | inr other ↦ inr (other.1, sym (slice_get-set_other seats to node new other.1) ∙ there)
    ]

    -- an item is handed to the node
    module _ (place : ℕ) (entry : Entry) (there : slice_get pool place ≡ Some entry) (step : IsSeatStep picks header (handed (pool_items pool) steps to ++ entry.item ∷ []) old new) where
      -- it is an item of the pool
      item_there : slice_get (pool_items pool) place ≡ Some entry.item
      item_there = slice_get-map (λ (e : Entry). e.item) pool place ∙ ap (option_map (λ (e : Entry). e.item)) there

      -- the node got it
      pub handed_it : handed (pool_items pool) (steps ++ kept.Hand place to ∷ []) to ≡ handed (pool_items pool) steps to ++ entry.item ∷ []
      handed_it = handed-append (pool_items pool) steps (kept.Hand place to ∷ []) to
          ∙ ap (λ (l : List Item). handed (pool_items pool) steps to ++ (l ++ [])) (step_hands (pool_items pool) place to entry.item item_there)

      -- and no other
      handed_not : (node : ℕ) → node ≢ to → handed (pool_items pool) (steps ++ kept.Hand place to ∷ []) node ≡ handed (pool_items pool) steps node
      handed_not node ne = handed-append (pool_items pool) steps (kept.Hand place to ∷ []) node
          ∙ ap (λ (b : Bool). handed (pool_items pool) steps node ++ (cond b (option_to_list (slice_get (pool_items pool) place)) [] ++ [])) (apart to node (λ e. ne (sym e)))
          ∙ append-nil (handed (pool_items pool) steps node)
        where
          apart : (a b : ℕ) → a ≢ b → (a == b) ≡ false
          apart a b ne = elim (eqb_tells a b) [
            | inl same ↦ absurd (ne same.1)
            | inr other ↦ other.0
          ]

      pub net_hand : IsNet picks header (set seats to new) pool (steps ++ kept.Hand place to ∷ [])
      net_hand = record {
        run = subst (λ (n : Network). IsRun n (pool_items pool) (steps ++ kept.Hand place to ∷ [])) (sym (same_network step.kind))
            (hand (pool_items pool) steps place to is.run (slice_get_within (pool_items pool) place entry.item item_there)
            (slice_get_within (network_with header seats).nodes to (node_kind old.node) (slice_get-map (λ (seat : Seat F). node_kind seat.node) seats to
            ∙ ap (option_map (λ (seat : Seat F). node_kind seat.node)) at)));
        seated = λ node seat e. elim (seat_cases node seat e) [
          | inl same ↦
              subst (λ (s : Seat F). IsSeat picks header (handed (pool_items pool) (steps ++ kept.Hand place to ∷ []) node) s) same.1
              (subst (λ (n : ℕ). IsSeat picks header (handed (pool_items pool) (steps ++ kept.Hand place to ∷ []) n) new) (sym same.0)
              (subst (λ (l : List Item). IsSeat picks header l new) (sym handed_it) step.seat))
          | inr other ↦
              subst (λ (l : List Item). IsSeat picks header l seat) (sym (handed_not node other.0)) (is.seated node seat other.1)
        ];
        unpublished = λ node seat e.
            subst (λ (b : Bool). HasUnpublished header.k b seat.published) (sym (same_published (kept.Hand place to) node refl)) (elim (seat_cases node seat e) [
              | inl same ↦
                  subst (λ (s : Seat F). HasUnpublished header.k (list_any (is_publishing node) steps) s.published) same.1
                  (subst (λ (o : Option _). HasUnpublished header.k (list_any (is_publishing node) steps) o) (sym step.unpublished)
                  (is.unpublished node old (ap (slice_get seats) same.0 ∙ at)))
              | inr other ↦ is.unpublished node seat other.1
            ]);
        judged = is.judged;
      }

-- ---- what contracts see

-- a network that keeps these, as contracts see it
abbrev pub seen : {F : Type 0} → Roots → List (Seat F) → ℕ → ℕ → List Entry → List Kept → NetParts
seen header seats most_items most_steps pool steps = record {
  header = header;
  nodes = map (λ seat. node_kind seat.node) seats;
  alarms = map (λ seat. alarm_of seat.node) seats;
  most_items = most_items;
  most_steps = most_steps;
  pool = pool_items pool;
  steps = steps;
}

-- there is capacity for a step, and for an item
pub room_for_step : (net : NetParts) (one : NetEvent) → is_full net one ≡ false → length net.steps < net.most_steps
room_for_step net one free = elim (cases_Bool (nat_le net.most_steps (length net.steps))) [
  | inl over ↦ absurd (true≢false (sym (ap (λ (b : Bool). cond b true (is_pooling one && nat_le net.most_items (length net.pool))) over) ∙ free))
  | inr not ↦ grind (arith, nat_tests)
]

pub room_for_item : (net : NetParts) (one : NetEvent) → is_full net one ≡ false → is_pooling one ≡ true → length net.pool < net.most_items
room_for_item net one free pools = elim (cases_Bool (nat_le net.most_steps (length net.steps))) [
  | inl over ↦ absurd (true≢false (sym (ap (λ (b : Bool). cond b true (is_pooling one && nat_le net.most_items (length net.pool))) over) ∙ free))
  | inr not ↦
      let both : (is_pooling one && nat_le net.most_items (length net.pool)) ≡ false =
      sym (ap (λ (b : Bool). cond b true (is_pooling one && nat_le net.most_items (length net.pool))) not) ∙ free in
      let rest : nat_le net.most_items (length net.pool) ≡ false = sym (ap (λ (b : Bool). b && nat_le net.most_items (length net.pool)) pools) ∙ both in
      grind (arith, nat_tests)
]

-- a claim alarms
pub claim_alarm : (a : Option Standing) (claim : ClaimParts) → rejecting_claim a ≡ Some claim → a ≡ Some (rejecting claim)
claim_alarm None claim e = absurd (none-some claim e)
claim_alarm (Some settled) claim e = absurd (none-some claim e)
claim_alarm (Some (clashing left right)) claim e = absurd (none-some claim e)
claim_alarm (Some waiting) claim e = absurd (none-some claim e)
claim_alarm (Some available) claim e = absurd (none-some claim e)
claim_alarm (Some (rejecting other)) claim e = ap (λ (c : ClaimParts). Some (rejecting c)) (same_Some other claim e)

-- a seat that is read is the one of the node's number
pub seat_read : {F : Type 0} {kinds : List NodeKind} (seats : List (Seat F)) (node : ℕ) (seat : Seat F) → map (λ (s : Seat F). node_kind s.node) seats ≡ kinds
    → node < length kinds → seat ≡ get_or seats node seat → slice_get seats node ≡ Some seat
seat_read {F = F} seats node seat are within is =
    let count : length (map (λ (s : Seat F). node_kind s.node) seats) ≡ length seats = length-map seats (λ (s : Seat F). node_kind s.node) in
    let within_kinds : node < length (map (λ (s : Seat F). node_kind s.node) seats) = subst (λ (l : List NodeKind). node < length l) (sym are) within in
    slice_get_read seats (length seats) node seat refl (omega (arith, within_kinds, count)) is

-- what alarmed the node of a seat
pub alarm_there : {F : Type 0} (header : Roots) (seats : List (Seat F)) (most_items most_steps : ℕ) (pool : List Entry) (steps : List Kept) (node : ℕ) (seat : Seat F)
    → slice_get seats node ≡ Some seat → alarm_at (seen header seats most_items most_steps pool steps) node ≡ alarm_of seat.node
alarm_there header seats most_items most_steps pool steps node seat at =
    ap (λ (o : Option (Option Standing)). option_and_then (λ alarm. alarm) o)
    (slice_get-map (λ (s : Seat _). alarm_of s.node) seats node ∙ ap (option_map (λ (s : Seat _). alarm_of s.node)) at)

-- how a node stands, by its seat
pub standing_there : {F : Type 0} (header : Roots) (seats : List (Seat F)) (most_items most_steps : ℕ) (pool : List Entry) (steps : List Kept) (node : ℕ) (seat : Seat F)
    (one : NodeState) → slice_get seats node ≡ Some seat
    → (standing : Standing) × SeatStands header (handed (pool_items pool) steps node) seat standing × (one ≡ standing_state standing)
    → HasState (seen header seats most_items most_steps pool steps) node one
standing_there header seats most_items most_steps pool steps node seat one at (standing, is, e) = (
  standing,
  record {
    kind = node_kind seat.node;
    is_node = slice_get-map (λ (s : Seat _). node_kind s.node) seats node ∙ ap (option_map (λ (s : Seat _). node_kind s.node)) at;
    stands = is.stands;
    fits = subst (λ (a : Option Standing). FitsAlarm a standing) (sym (alarm_there header seats most_items most_steps pool steps node seat at)) is.fits;
  },
  e,
)

module _ {F : Type 0} (picks : F → ℕ → Cell → Type 0) (header : Roots) (seats : List (Seat F)) (most_items most_steps : ℕ) (pool : List Entry) (steps : List Kept)
    (is : IsNet picks header seats pool steps) (to : ℕ) (old new : Seat F) (at : slice_get seats to ≡ Some old) (place : ℕ) (entry : Entry)
    (there : slice_get pool place ≡ Some entry) (step : IsSeatStep picks header (handed (pool_items pool) steps to ++ entry.item ∷ []) old new)
    (after : (left right : List ℕ) → alarm_of old.node ≡ Some (clashing left right) → AfterClash header left right entry.item (alarm_of new.node)) where
  -- the new seat stands at its place
  new_there : slice_get (set seats to new) to ≡ Some new
  new_there = slice_get-set_same seats to new (slice_get_within seats to old at)

  -- what a handing did
  pub is_handed : (one : NodeState)
      → ((h : Roots) (items : List Item) → IsSeat picks h items new → (standing : Standing) × SeatStands h items new standing × (one ≡ standing_state standing))
      → IsHanded (seen header seats most_items most_steps pool steps) (seen header (set seats to new) most_items most_steps pool (steps ++ kept.Hand place to ∷ []))
      place to one
  is_handed one state = record {
    pool = refl;
    steps = refl;
    state_is = standing_there header (set seats to new) most_items most_steps pool (steps ++ kept.Hand place to ∷ []) to new one new_there
        (state header (handed (pool_items pool) (steps ++ kept.Hand place to ∷ []) to)
        (subst (λ (l : List Item). IsSeat picks header l new) (sym (handed_it picks header seats pool steps is to old new at place entry there step)) step.seat));
    keeps = λ claim e.
        let before : alarm_of old.node ≡ Some (rejecting claim) = sym (alarm_there header seats most_items most_steps pool steps to old at) ∙ e in
        alarm_there header (set seats to new) most_items most_steps pool (steps ++ kept.Hand place to ∷ []) to new new_there
        ∙ claim_alarm (alarm_of new.node) claim (step.keeps claim (ap rejecting_claim before));
    clashes = λ left right given e placed.
        let before : alarm_of old.node ≡ Some (clashing left right) = sym (alarm_there header seats most_items most_steps pool steps to old at) ∙ e in
        let same : entry.item ≡ given =
        same_Some entry.item given (sym (slice_get-map (λ (n : Entry). n.item) pool place ∙ ap (option_map (λ (n : Entry). n.item)) there) ∙ placed) in
        subst (AfterClash header left right given) (sym (alarm_there header (set seats to new) most_items most_steps pool (steps ++ kept.Hand place to ∷ []) to new new_there))
        (subst (λ (i : Item). AfterClash header left right i (alarm_of new.node)) same (after left right before));
    others = λ node ne.
        ap (λ (o : Option (Option Standing)). option_and_then (λ alarm. alarm) o)
        (slice_get-map (λ (s : Seat F). alarm_of s.node) (set seats to new) node
        ∙ ap (option_map (λ (s : Seat F). alarm_of s.node)) (slice_get-set_other seats to node new ne)
        ∙ sym (slice_get-map (λ (s : Seat F). alarm_of s.node) seats node));
  }

-- ---- publishing

-- a full node that holds a claim stands so
full_claims : (header : Roots) (items : List Item) (o : Option End) (claim : ClaimParts) → rejecting_claim (alarm_by o) ≡ Some claim
    → NodeMayStand header full items (standing_by o) → NodeMayStand header full items (rejecting claim)
full_claims header items None claim e stands = absurd (none-some claim e)
full_claims header items (Some (end.Clash pair)) claim e stands = absurd (none-some claim e)
full_claims header items (Some (end.Rejected other)) claim e stands =
    subst (λ (c : ClaimParts). NodeMayStand header full items (rejecting c)) (same_Some other claim e) stands

-- and so does a light node
light_claims : (o : Option ClaimParts) (claim : ClaimParts) → rejecting_claim (alarm_with o) ≡ Some claim → o ≡ Some claim
light_claims None claim e = absurd (none-some claim e)
light_claims (Some other) claim e = e

-- a node that holds a claim stands so
pub node_claims : {F : Type 0} (picks : F → ℕ → Cell → Type 0) (header : Roots) (items : List Item) (node : Node F) (claim : ClaimParts)
    → rejecting_claim (alarm_of node) ≡ Some claim → IsNodeFor picks header items node → NodeMayStand header (node_kind node) items (rejecting claim)
node_claims picks header items (Full node) claim e is = full_claims header items node.end claim e is.stands
node_claims picks header items (Light node) claim e is =
    subst (λ (h : Roots). IsFirstAccepted h (item_events items) (Some claim)) is.header_is
    (subst (IsFirstAccepted node.header (item_events items)) (light_claims node.claim claim e) is.stands.claim)

module _ {F : Type 0} (picks : F → ℕ → Cell → Type 0) (header : Roots) (seats : List (Seat F)) (pool : List Entry) (steps : List Kept)
    (is : IsNet picks header seats pool steps) (by : ℕ) (old new : Seat F) (at : slice_get seats by ≡ Some old) (claim : ClaimParts) (copied : IsCopied old new claim) where
  -- the claim as an item of the pool
  abbrev pub claimed : Entry
  claimed = record { item = item.Claim claim; accepted = true }

  -- the node stands so
  by_stands : NodeMayStand header (node_kind old.node) (handed (pool_items pool) steps by) (rejecting claim)
  by_stands = node_claims picks header (handed (pool_items pool) steps by) old.node claim copied.held (is.seated by old at).is_node

  -- a seat as before
  copied_seat : (items : List Item) → IsSeat picks header items old → IsSeat picks header items new
  copied_seat items seat = record {
    is_node = subst (IsNodeFor picks header items) (sym copied.node_is) seat.is_node;
    spare = subst (λ (n : Node F). HasSpareFor header.k (rejecting_claim (alarm_of n)) new.kept) (sym copied.node_is)
        (subst (λ (o : Option ClaimRoom). HasSpareFor header.k (rejecting_claim (alarm_of old.node)) o) (sym copied.kept_is) seat.spare);
  }

  -- the publishing counts
  published_now : list_any (is_publishing by) (steps ++ kept.Publish by ∷ []) ≡ true
  published_now = list_any-append (is_publishing by) steps (kept.Publish by ∷ [])
      ∙ ap (λ (b : Bool). list_any (is_publishing by) steps || (b || false)) (eq-eqb by by refl) ∙ or_true (list_any (is_publishing by) steps)
    where
      or_true : (b : Bool) → (b || (true || false)) ≡ true
      or_true true = refl
      or_true false = refl

  -- for this node alone
  published_not : (node : ℕ) → node ≢ by → is_publishing node (kept.Publish by) ≡ false
  published_not node ne = elim (eqb_tells by node) [
    | inl same ↦ absurd (ne (sym same.1))
    | inr other ↦ other.0
  ]

  -- a claim is published
  pub net_publish : IsNet picks header (set seats by new) (pool ++ claimed ∷ []) (steps ++ kept.Publish by ∷ [])
  net_publish = record {
    run = subst (λ (n : Network). IsRun n (pool_items (pool ++ claimed ∷ [])) (steps ++ kept.Publish by ∷ []))
        (sym (same_network picks header seats pool steps is by old new at (ap node_kind copied.node_is)))
        (subst (λ (l : List Item). IsRun (network_with header seats) l (steps ++ kept.Publish by ∷ [])) (sym (items-push picks header seats pool steps is claimed))
        (publish (pool_items pool) steps by (node_kind old.node) claim is.run
        (slice_get-map (λ (seat : Seat F). node_kind seat.node) seats by ∙ ap (option_map (λ (seat : Seat F). node_kind seat.node)) at) by_stands));
    seated = λ node seat e. subst (λ (l : List Item). IsSeat picks header (handed l (steps ++ kept.Publish by ∷ []) node) seat) (sym (items-push picks header seats pool steps is claimed))
        (elim (seat_cases picks header seats pool steps is by old new at node seat e) [
          | inl same ↦
              subst (λ (s : Seat F). IsSeat picks header (handed (pool_items pool ++ item.Claim claim ∷ []) (steps ++ kept.Publish by ∷ []) node) s) same.1
              (copied_seat (handed (pool_items pool ++ item.Claim claim ∷ []) (steps ++ kept.Publish by ∷ []) node)
              (seat_there picks header seats pool steps is (item.Claim claim ∷ []) (kept.Publish by) node old (ap (slice_get seats) same.0 ∙ at) refl))
          | inr other ↦ seat_there picks header seats pool steps is (item.Claim claim ∷ []) (kept.Publish by) node seat other.1 refl
        ]);
    unpublished = λ node seat e. elim (seat_cases picks header seats pool steps is by old new at node seat e) [
      | inl same ↦
          subst (λ (n : ℕ). HasUnpublished header.k (list_any (is_publishing n) (steps ++ kept.Publish by ∷ [])) seat.published) (sym same.0)
          (subst (λ (b : Bool). HasUnpublished header.k b seat.published) (sym published_now)
          (subst (λ (s : Seat F). s.published ≡ None) same.1 copied.used))
      | inr other ↦
          subst (λ (b : Bool). HasUnpublished header.k b seat.published)
          (sym (same_published picks header seats pool steps is (kept.Publish by) node (published_not node other.0))) (is.unpublished node seat other.1)
    ];
    judged = judged_more picks header seats pool steps is claimed (λ e. holds_accepted header (node_kind old.node) (handed (pool_items pool) steps by) claim by_stands, λ accepts. refl);
  }

  -- what it did
  pub is_published : (most_items most_steps : ℕ) → IsPooled (seen header seats most_items most_steps pool steps)
      (seen header (set seats by new) most_items most_steps (pool ++ claimed ∷ []) (steps ++ kept.Publish by ∷ [])) (item.Claim claim) (kept.Publish by) (length (pool_items pool))
  is_published most_items most_steps = record {
    place_is = refl;
    pool = items-push picks header seats pool steps is claimed;
    steps = refl;
    alarms = map-set_same (λ (seat : Seat F). alarm_of seat.node) seats by new old
        (ap alarm_of copied.node_is ∙ ap (λ (s : Seat F). alarm_of s.node) (sym (get_or_from_slice_get seats by old old at)));
  }

-- ---- readers

-- whether a claim is answered
pub claim_there : (found : Option (Bor ClaimParts)) → is_some found ≡ has_claim (option_copied found)
claim_there None = refl
claim_there (Some r) = refl

-- a claim that a node holds is accepted
pub claim_accepts : {F : Type 0} (picks : F → ℕ → Cell → Type 0) (header : Roots) (items : List Item) (node : Node F) (found : Option ClaimParts)
    → found ≡ rejecting_claim (alarm_of node) → IsNodeFor picks header items node → IfSome found (Accepts header)
claim_accepts picks header items node None e is = tt
claim_accepts picks header items node (Some claim) e is =
    holds_accepted header (node_kind node) items claim (node_claims picks header items node claim (sym e) is)
