-- Light verdicts and states: there is one, whatever the order of events.
use Rattle.std.proofs.Common.{◌≡◌, ◌∙◌, ℕ, List, [], ◌∷◌, ◌++◌, append_assoc, Some, true, refl, sym, subst, ap, ap₂}
use Rattle.std.specs.Prelude.{◌↔◌}
use Rattle.std.specs.List.{Contains}
use Rattle.std.proofs.lemmas.List.Elements.{Contains-append_left, Contains-append_right}
use Rattle.namespace_id.specs.declared.cells.Cell.{Cell}
use Rattle.namespace_id.specs.Cells.{CellList, are_cells}
use Rattle.namespace_id.proofs.MemberLemmas.{contains_head, contains_tail}
use Rattle.namespace_id.proofs.RowMajorLemmas.{cells_once}
use Rattle.data_header.specs.Headers.{Roots}
use Rattle.axis_roots.specs.Claims.{ClaimParts, Accepts}
use Rattle.light_node.specs.declared.events.Event.{Event}
use Rattle.light_node.specs.declared.events.Event.TheVariants.{Sample, Claim}
use Rattle.light_node.specs.declared.events.LightState.{LightState}
use Rattle.light_node.specs.declared.events.LightState.TheVariants as state
use Rattle.light_node.specs.declared.events.Light.{Light}
use Rattle.light_node.specs.declared.events.Light.TheVariants as light
use Rattle.light_node.specs.Events.{IsShownCell, NoneAccepted, IsFirstAccepted, AllShown, IsWaitedFor, AreWaitedFor, IsState, IsLight, state_of_light}
use Rattle.light_node.proofs.EventLemmas.{same_claim}

-- ---- states

-- a claim among the events is accepted
abbrev pub SomeAccepted : Roots → List Event → Type 0
SomeAccepted header events = (claim : ClaimParts) × Contains events (Claim claim) × Accepts header claim

-- the first accepted claim is one
pub first_accepted : (header : Roots) (events : List Event) (claim : ClaimParts)
    → IsFirstAccepted header events (Some claim) → SomeAccepted header events
first_accepted header events claim (accepts, before, after, is, none) = (
  claim,
  subst (λ (l : List Event). Contains l (Claim claim)) (sym is)
      (Contains-append_right before (Claim claim ∷ after) (Claim claim) (contains_head (Claim claim) after)),
  accepts,
)

-- what a state says, whatever the order of the events
abbrev pub Says : Roots → List Cell → List Event → LightState → Type 0
Says header plan events state.Waiting =
    NoneAccepted header events × ((cell : Cell) × IsWaitedFor header plan events cell)
Says header plan events state.Available = NoneAccepted header events × AllShown header plan events
Says header plan events state.Rejected = SomeAccepted header events

-- a state says so
pub says : (header : Roots) (plan : List Cell) (events : List Event) (one : LightState)
    → IsState header plan events one → Says header plan events one
says header plan events state.Waiting is = is
says header plan events state.Available is = is
says header plan events state.Rejected (claim, first) = first_accepted header events claim first

-- a planned cell isn't shown though all are
waits_shown : (header : Roots) (plan : List Cell) (events : List Event) → ((cell : Cell) × IsWaitedFor header plan
    events cell)
    → AllShown header plan events → ⊥
waits_shown header plan events (cell, waits) all = waits.1 (all cell waits.0)

-- an accepted claim is among events none of which is one
some_none : (header : Roots) (events : List Event) → SomeAccepted header events → NoneAccepted header events → ⊥
some_none header events (claim, at, accepts) none = none claim at accepts

-- no two states say what is so
pub says_once : (header : Roots) (plan : List Cell) (events : List Event) (one other : LightState)
    → Says header plan events one → Says header plan events other → one ≡ other
says_once header plan events state.Waiting state.Waiting a b = refl
says_once header plan events state.Waiting state.Available a b = absurd (waits_shown header plan events a.1 b.1)
says_once header plan events state.Waiting state.Rejected a b = absurd (some_none header events b a.0)
says_once header plan events state.Available state.Waiting a b = absurd (waits_shown header plan events b.1 a.1)
says_once header plan events state.Available state.Available a b = refl
says_once header plan events state.Available state.Rejected a b = absurd (some_none header events b a.0)
says_once header plan events state.Rejected state.Waiting a b = absurd (some_none header events a b.0)
says_once header plan events state.Rejected state.Available a b = absurd (some_none header events a b.0)
says_once header plan events state.Rejected state.Rejected a b = refl

-- ---- the order of events

module _ (header : Roots) (plan : List Cell) (events others : List Event)
    (same : (event : Event) → Contains events event ↔ Contains others event) where
  -- no other claims are accepted
  none_there : NoneAccepted header events → NoneAccepted header others
  none_there none = λ claim at accepts. none claim ((same (Claim claim)).1 at) accepts

  -- what is shown here is shown there
  shown_there : (cell : Cell) → IsShownCell header events cell → IsShownCell header others cell
  shown_there cell (m, at, proved, is) = (m, (same (Sample m)).0 at, proved, is)

  -- and the other way round
  shown_here : (cell : Cell) → IsShownCell header others cell → IsShownCell header events cell
  shown_here cell (m, at, proved, is) = (m, (same (Sample m)).1 at, proved, is)

  -- so a state says there what it says here
  pub says_there : (one : LightState) → Says header plan events one → Says header plan others one
  says_there state.Waiting (none, (cell, waits)) =
      (none_there none, (cell, (waits.0, λ shown. waits.1 (shown_here cell shown))))
  says_there state.Available (none, all) = (none_there none, λ cell at. shown_there cell (all cell at))
  says_there state.Rejected (claim, at, accepts) = (claim, (same (Claim claim)).0 at, accepts)

-- ---- verdicts

-- the first accepted claim of two lists that are one, where each begins with claims that aren't accepted
first_of_split : (header : Roots) (a b : ClaimParts) (before front after back : List Event)
    → before ++ Claim a ∷ after ≡ front ++ Claim b ∷ back
    → NoneAccepted header before → NoneAccepted header front → Accepts header a → Accepts header b → a ≡ b
first_of_split header a b [] [] after back e none other ha hb = let f : Claim a ≡ Claim b = cc in same_claim a b f
first_of_split header a b [] (y ∷ front) after back e none other ha hb =
    let f : Claim a ≡ y = cc in
    absurd (other a (subst (λ (x : Event). Contains (y ∷ front) x) (sym f) (contains_head y front)) ha)
first_of_split header a b (x ∷ before) [] after back e none other ha hb =
    let f : x ≡ Claim b = cc in absurd (none b (subst (λ (z : Event). Contains (x ∷ before) z) f (contains_head x
    before)) hb)
first_of_split header a b (x ∷ before) (y ∷ front) after back e none other ha hb =
    let f : before ++ Claim a ∷ after ≡ front ++ Claim b ∷ back = cc in
    first_of_split header a b before front after back f (λ claim at. none claim (contains_tail x (Claim claim) before
    at))
    (λ claim at. other claim (contains_tail y (Claim claim) front at)) ha hb

-- the first accepted claim stays the first
pub first_stays : (header : Roots) (events later : List Event) (claim : ClaimParts) → IsFirstAccepted header events (Some claim)
    → IsFirstAccepted header (events ++ later) (Some claim)
first_stays header events later claim (accepts, before, after, is, none) = (
  accepts,
  before,
  after ++ later,
  ap (λ (l : List Event). l ++ later) is ∙ append_assoc before (Claim claim ∷ after) later,
  none,
)

-- there is one first accepted claim
first_once : (header : Roots) (events : List Event) (a b : ClaimParts) → IsFirstAccepted header events (Some a)
    → IsFirstAccepted header events (Some b) → a ≡ b
first_once header events a b (ha, before, after, is, none) (hb, front, back, is_too, none_too) =
    first_of_split header a b before front after back (sym is ∙ is_too) none none_too ha hb

-- the planned cells that aren't shown are one list
waited_once : (header : Roots) (plan : List Cell) (events : List Event) (a b : CellList)
    → AreWaitedFor header plan events a → AreWaitedFor header plan events b → a ≡ b
waited_once header plan events a b ha hb =
    let width : a.k ≡ b.k = ha.width ∙ sym hb.width in
    ap₂ (λ (k : ℕ) (l : List Cell). record { k = k; list = l }) width
    (cells_once a.k a.list b.list ha.row_major (subst (λ (k : ℕ). are_cells k b.list ≡ true) (sym width) hb.row_major)
    (λ cell. (
      λ at. (hb.waited_for cell).1 ((ha.waited_for cell).0 at),
      λ at. (ha.waited_for cell).1 ((hb.waited_for
          cell).0 at),
    )))

-- of a list that isn't empty a cell is waited for
waits_one : (header : Roots) (plan : List Cell) (events : List Event) (k : ℕ) (list : List Cell) → (list ≡ [] → ⊥)
    → AreWaitedFor header plan events (record { k = k; list = list }) → (cell : Cell) × IsWaitedFor header plan events
    cell
waits_one header plan events k [] some are = absurd (some refl)
waits_one header plan events k (cell ∷ list) some are = (cell, (are.waited_for cell).0 (contains_head cell list))

-- a verdict has its state
pub light_state : (header : Roots) (plan : List Cell) (events : List Event) (one : Light) → IsLight header plan events
    one
    → IsState header plan events (state_of_light one)
light_state header plan events (light.Waiting cells) (none, some, are) =
    (none, waits_one header plan events cells.k cells.list some are)
light_state header plan events light.Available is = is
light_state header plan events (light.Rejected claim) first = (claim, first)

-- there is one state
pub state_once : (header : Roots) (plan : List Cell) (events : List Event) (one other : LightState)
    → IsState header plan events one → IsState header plan events other → one ≡ other
state_once header plan events one other a b =
    says_once header plan events one other (says header plan events one a) (says header plan events other b)

-- and one verdict
pub light_once : (header : Roots) (plan : List Cell) (events : List Event) (one other : Light)
    → IsLight header plan events one → IsLight header plan events other → one ≡ other
light_once header plan events (light.Waiting cells) (light.Waiting others) a b =
    ap (λ (c : CellList). light.Waiting c) (waited_once header plan events cells others a.2 b.2)
light_once header plan events (light.Waiting cells) light.Available a b =
    absurd (waits_shown header plan events (waits_one header plan events cells.k cells.list a.1 a.2) b.1)
light_once header plan events (light.Waiting cells) (light.Rejected claim) a b =
    absurd (some_none header events (first_accepted header events claim b) a.0)
light_once header plan events light.Available (light.Waiting cells) a b =
    absurd (waits_shown header plan events (waits_one header plan events cells.k cells.list b.1 b.2) a.1)
light_once header plan events light.Available light.Available a b = refl
light_once header plan events light.Available (light.Rejected claim) a b =
    absurd (some_none header events (first_accepted header events claim b) a.0)
light_once header plan events (light.Rejected claim) (light.Waiting cells) a b =
    absurd (some_none header events (first_accepted header events claim a) b.0)
light_once header plan events (light.Rejected claim) light.Available a b =
    absurd (some_none header events (first_accepted header events claim a) b.0)
light_once header plan events (light.Rejected claim) (light.Rejected other) a b =
    ap (λ (c : ClaimParts). light.Rejected c) (first_once header events claim other a b)

-- ---- the laws

-- the order of events and their repeats change no state
pub same_state : (header : Roots) (plan : List Cell) (events others : List Event) (one other : LightState)
    → ((event : Event) → Contains events event ↔ Contains others event)
    → IsState header plan events one → IsState header plan others other → one ≡ other
same_state header plan events others one other same a b =
    says_once header plan others one other (says_there header plan events others same one (says header plan events one
    a))
    (says header plan others other b)

-- once rejected, it stays rejected
pub stays_rejected : (header : Roots) (plan more : List Cell) (events later : List Event) (one : LightState)
    → IsState header plan events state.Rejected → IsState header more (events ++ later) one → one ≡ state.Rejected
stays_rejected header plan more events later one (claim, first) is =
    let some = first_accepted header events claim first in
    says_once header more (events ++ later) one state.Rejected (says header more (events ++ later) one is)
    (some.0, Contains-append_left events later (Claim some.0) some.1, some.2)
