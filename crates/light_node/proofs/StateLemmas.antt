-- What a node that stands for a plan and for events answers.
use Rattle.std.proofs.Common.{◌≡◌, ◌∙◌, List, [], ◌∷◌, Bool, true, false, true≢false, Option, Some, None, is_some, option_copied, slice_get, Bor, sym, ap, subst, ℕ, inl, inr}
use Rattle.std.specs.Prelude.{◌↔◌}
use Rattle.std.specs.List.{Contains}
use Rattle.std.proofs.lemmas.List.Elements.{Contains-append_left, Contains-append_right}
use Rattle.std.proofs.lemmas.Bool.{cases_Bool}
use Rattle.namespace_id.specs.declared.cells.Cell.{Cell}
use Rattle.namespace_id.specs.Cells.{CellList, AreCells, is_in_square}
use Rattle.namespace_id.proofs.MemberLemmas.{contains_head, contains_none}
use Rattle.namespace_id.proofs.RoomLemmas.{all_each}
use Rattle.data_header.specs.Headers.{Roots}
use Rattle.axis_roots.specs.Claims.{ClaimParts}
use Rattle.light_node.specs.declared.events.Event.{Event}
use Rattle.light_node.specs.Events.{IsShownCell, NoneAccepted, IsFirstAccepted, AllShown, IsWaitedFor, AreWaitedFor}
use Rattle.light_node.specs.Plans.{IsNextWanted}
use Rattle.light_node.specs.Nodes.{NodeParts, IsNode, NodeStands, is_marked, IsUnmarkedIn}
use Rattle.light_node.proofs.DistinctLemmas.{all_added-have, all_added-only}
use Rattle.light_node.proofs.FailingLemmas.{first_failing, first_failing-added, first_failing-at, none_failing, some_failing}

module _ {F : Type 0} (can_pick : F → ℕ → Type 0) (picks : F → ℕ → Cell → Type 0) (node : NodeParts F)
    (good : IsNode can_pick picks node) (plan : List Cell) (events : List Event) (stands : NodeStands picks node plan
    events) where
  -- a planned cell is wanted
  pub planned_wanted : (cell : Cell) → Contains plan cell → Contains node.wanted cell
  planned_wanted cell at = subst (λ (l : List Cell). Contains l cell) (sym stands.wanted) (all_added-have plan [] cell
      at)

  -- so it is in the square
  pub planned_inside : (cell : Cell) → Contains plan cell → is_in_square node.header.k cell ≡ true
  planned_inside cell at = all_each (is_in_square node.header.k) node.wanted good.inside cell (planned_wanted cell at)

  -- the first planned cell that isn't marked is the next one
  first_unshown : first_failing (is_marked node.header.k node.shown) plan ≡ slice_get node.wanted node.next
  first_unshown =
      sym (first_failing-added (is_marked node.header.k node.shown) plan [])
      ∙ ap (first_failing (is_marked node.header.k node.shown)) (sym stands.wanted)
      ∙ first_failing-at (is_marked node.header.k node.shown) node.wanted node.next good.before good.waiting

  -- it is that which isn't shown
  next_by : (next : Option Cell) → first_failing (is_marked node.header.k node.shown) plan ≡ next
      → IsNextWanted node.header plan events next
  next_by None e = λ cell at.
      (stands.shown cell (planned_inside cell at)).0 (none_failing (is_marked node.header.k node.shown) plan e cell at)
  next_by (Some cell) e =
      let parts = some_failing (is_marked node.header.k node.shown) plan cell e in
      let front : (other : Cell) → Contains parts.0 other → Contains plan other =
      λ other at. subst (λ (l : List Cell). Contains l other) (sym parts.2)
      (Contains-append_left parts.0 (cell ∷ parts.1) other at) in
      let here : Contains plan cell =
      subst (λ (l : List Cell). Contains l cell) (sym parts.2)
      (Contains-append_right parts.0 (cell ∷ parts.1) cell (contains_head cell parts.1)) in (
        parts.0,
        parts.1,
        parts.2,
        λ other at. (stands.shown other (planned_inside other (front other at))).0 (parts.3 other at),
        λ shown. true≢false (sym ((stands.shown cell (planned_inside cell here)).1 shown) ∙ parts.4),
      )

  -- the cell at the next place is the next one
  pub next_is : IsNextWanted node.header plan events (slice_get node.wanted node.next)
  next_is = next_by (slice_get node.wanted node.next) first_unshown

  -- and nothing but planned cells is wanted
  wanted_planned : (cell : Cell) → Contains node.wanted cell → Contains plan cell
  wanted_planned cell at =
      elim (all_added-only plan [] cell (subst (λ (l : List Cell). Contains l cell) stands.wanted at)) [
        | inl none ↦ absurd (contains_none cell none)
        | inr there ↦ there
      ]

  -- a cell that isn't shown isn't marked
  unshown_unmarked : (cell : Cell) → is_in_square node.header.k cell ≡ true → (IsShownCell node.header events cell → ⊥)
      → is_marked node.header.k node.shown cell ≡ false
  unshown_unmarked cell within isnt = elim (cases_Bool (is_marked node.header.k node.shown cell)) [
    | inl marked ↦ absurd (isnt ((stands.shown cell within).0 marked))
    | inr unmarked ↦ unmarked
  ]

  -- the unmarked wanted cells are those that are waited for
  pub are_waited_for : (room : CellList) → room.k ≡ node.header.k → AreCells room
      → ((cell : Cell) → Contains room.list cell ↔ IsUnmarkedIn node.header.k node.shown node.wanted cell)
      → AreWaitedFor node.header plan events room
  are_waited_for room width cells filled = record {
    width = width;
    row_major = cells;
    waited_for = λ cell. (
      λ at.
          let is = (filled cell).0 at in (
            wanted_planned cell is.listed,
            λ shown. true≢false (sym ((stands.shown cell is.inside).1 shown) ∙ is.unmarked),
          ),
      λ waits. (filled cell).1 (record {
        inside = planned_inside cell waits.0;
        listed = planned_wanted cell waits.0;
        unmarked = unshown_unmarked cell (planned_inside cell waits.0) waits.1;
      }),
    );
  }

  -- also where the width is known by another name
  pub are_waited_for_at : (k : ℕ) (room : CellList) (shown : List Bool) → k ≡ node.header.k → room.k ≡ k → AreCells
      room
      → shown ≡ node.shown
      → ((cell : Cell) → Contains room.list cell ↔ IsUnmarkedIn k shown node.wanted cell)
      → AreWaitedFor node.header plan events room
  are_waited_for_at k room shown same width cells e filled =
      are_waited_for room (width ∙ same) cells
      (subst (λ (l : List Bool). (cell : Cell) → Contains room.list cell ↔ IsUnmarkedIn node.header.k l node.wanted
      cell) e
      (subst (λ (m : ℕ). (cell : Cell) → Contains room.list cell ↔ IsUnmarkedIn m shown node.wanted cell) same filled))

  -- where none is waited for, all are shown
  pub none_waited_for : (room : CellList) → room.list ≡ [] → AreWaitedFor node.header plan events room
      → AllShown node.header plan events
  none_waited_for room none are = λ cell at. elim (cases_Bool (is_marked node.header.k node.shown cell)) [
    | inl marked ↦ (stands.shown cell (planned_inside cell at)).0 marked
    | inr unmarked ↦
        let waits : Contains room.list cell =
        (are.waited_for cell).1 (
          at,
          λ shown. true≢false (sym ((stands.shown cell (planned_inside cell at)).1 shown) ∙
              unmarked),
        ) in
        absurd (contains_none cell (subst (λ (l : List Cell). Contains l cell) none waits))
  ]

-- ---- states

-- a claim that is kept
pub claim_there : (header : Roots) (events : List Event) (found : Option (Bor ClaimParts)) → is_some found ≡ true
    → IsFirstAccepted header events (option_copied found) → (claim : ClaimParts) × IsFirstAccepted header events (Some
    claim)
claim_there header events None some first = absurd (true≢false (sym some))
claim_there header events (Some claim) some first = (claim.now, first)

-- none that is
pub claim_missing : (header : Roots) (events : List Event) (found : Option (Bor ClaimParts)) → is_some found ≡ false
    → IsFirstAccepted header events (option_copied found) → NoneAccepted header events
claim_missing header events None none first = first
claim_missing header events (Some claim) none first = absurd (true≢false none)

-- a cell that is wanted next is waited for
pub next_waits : (header : Roots) (plan : List Cell) (events : List Event) (next : Option Cell) → is_some next ≡ true
    → IsNextWanted header plan events next → (cell : Cell) × IsWaitedFor header plan events cell
next_waits header plan events None some is = absurd (true≢false (sym some))
next_waits header plan events (Some cell) some (before, after, e, front, isnt) = (
  cell,
  (
    subst (λ (l : List Cell). Contains l cell) (sym e)
        (Contains-append_right before (cell ∷ after) cell (contains_head cell after)),
    isnt,
  ),
)

-- where none is, all are shown
pub none_waits : (header : Roots) (plan : List Cell) (events : List Event) (next : Option Cell) → is_some next ≡ false
    → IsNextWanted header plan events next → AllShown header plan events
none_waits header plan events None none is = is
none_waits header plan events (Some cell) none is = absurd (true≢false none)
