-- Plans that grow by what a picker names.
use Rattle.std.proofs.Common.{◌≡◌, ◌∙◌, ℕ, zero, suc, ◌+◌, ◌<◌, ◌≤◌, List, [], ◌∷◌, ◌++◌, length, length-append, take, true, Some, slice_get, sym, ap, ap₂, subst, inl, inr, arith}
use Rattle.std.specs.List.{Contains, list_all, fold}
use Rattle.std.proofs.Math.Seq.{take-append_seam}
use Rattle.std.proofs.lemmas.List.Sums.{fold-append}
use Rattle.indexmap.specs.IndexSet.{insert_key}
use Rattle.namespace_id.specs.declared.cells.Cell.{Cell}
use Rattle.namespace_id.specs.Cells.{is_in_square}
use Rattle.namespace_id.proofs.RoomLemmas.{all_each, each_all}
use Rattle.light_node.specs.declared.events.Event.{Event}
use Rattle.light_node.specs.Nodes.{NodeParts, IsNode, NodeStands, ArePicked, is_same, AreMarkedBefore, IsUnmarkedAt}
use Rattle.light_node.proofs.DistinctLemmas.{added, all_added-begins, all_added-only}
use Rattle.light_node.proofs.ListLemmas.{place_of, place_cases, place_front}

module _ {F : Type 0} (picks : F → ℕ → Cell → Type 0) (pick : F) (first : ℕ) where
  -- one cell more
  pub one_picked : (n : ℕ) (old new newest : List Cell) (cell : Cell) → ArePicked picks pick first n old new
      → picks pick (first + n) cell → newest ≡ added new cell → ArePicked picks pick first (n + 1) old newest
  one_picked n old new newest cell are is e = record {
    cells = are.cells ++ cell ∷ [];
    count = length-append are.cells (cell ∷ []) ∙ ap (λ (m : ℕ). m + 1) are.count;
    picked = λ i other at. elim (place_cases are.cells (cell ∷ []) i other at) [
      | inl front ↦ are.picked i other front
      | inr (j, place, last) ↦ last_picked i other j place last
    ];
    added = e ∙ ap (λ (l : List Cell). insert_key is_same l cell) are.added
        ∙ sym (fold-append (insert_key is_same) old are.cells (cell ∷ []));
  }
    where
      last_picked : (i : ℕ) (other : Cell) (j : ℕ) → i ≡ length are.cells + j → slice_get (cell ∷ []) j ≡ Some other
          → picks pick (first + i) other
      last_picked i other zero place last =
          let same : cell ≡ other = cc in
          let at : first + n ≡ first + i = omega (arith, are.count) in
          subst (λ (c : Cell). picks pick (first + i) c) same (subst (λ (m : ℕ). picks pick m cell) at is)
      last_picked i other (suc j) place last = cc

  -- the list begins with what was there
  pub picked_begin : (n : ℕ) (old new : List Cell) → ArePicked picks pick first n old new
      → (rest : List Cell) × (new ≡ old ++ rest)
  picked_begin n old new are =
      let begins = all_added-begins are.cells old in (begins.0, are.added ∙ begins.1)

  -- so they can be cut off
  pub picked_cut : (n : ℕ) (old new : List Cell) → ArePicked picks pick first n old new → take (length old) new ≡ old
  picked_cut n old new are =
      let begins = picked_begin n old new are in
      ap (take (length old)) begins.1 ∙ take-append_seam old begins.0

module _ {F : Type 0} (can_pick : F → ℕ → Type 0) (picks : F → ℕ → Cell → Type 0) (node : NodeParts F)
    (good : IsNode can_pick picks node) (n : ℕ) (fits : node.planned + n ≤ node.limit) (wanted : List Cell)
    (are : ArePicked picks node.pick node.planned n node.wanted wanted) where
  -- the picked cells are in the square
  picked_inside : (cell : Cell) → Contains are.cells cell → is_in_square node.header.k cell ≡ true
  picked_inside cell at =
      let place = place_of are.cells cell at in
      let below : node.planned + place.0 < node.limit = omega (arith, fits, are.count, place.1) in
      (good.picker (node.planned + place.0) below).1 cell (are.picked place.0 cell place.2)

  -- so all wanted cells are
  pub wanted_inside : list_all (is_in_square node.header.k) wanted ≡ true
  wanted_inside = each_all (is_in_square node.header.k) wanted (λ cell at.
      elim (all_added-only are.cells node.wanted cell (subst (λ (l : List Cell). Contains l cell) are.added at)) [
        | inl old ↦ all_each (is_in_square node.header.k) node.wanted good.inside cell old
        | inr new ↦ picked_inside cell new
      ])

  -- the next place is still within the list
  pub next_within : node.next ≤ length wanted
  next_within =
      let begins = picked_begin picks node.pick node.planned n node.wanted wanted are in
      let long : length wanted ≡ length node.wanted + length begins.0 =
      ap (λ (l : List Cell). length l) begins.1 ∙ length-append node.wanted begins.0 in
      omega (arith, good.next, long)

  -- what stands in front of it is still marked
  pub front_marked : AreMarkedBefore node.header.k node.shown wanted node.next
  front_marked = λ i cell below e.
      let begins = picked_begin picks node.pick node.planned n node.wanted wanted are in
      let within : i < length node.wanted = omega (arith, good.next, below) in
      good.before i cell below
      (sym (place_front node.wanted begins.0 i within) ∙ ap (λ (l : List Cell). slice_get l i) (sym begins.1) ∙ e)

  -- and the node is a node with the next place behind them
  pub good_more : (next : ℕ) → next ≤ length wanted → AreMarkedBefore node.header.k node.shown wanted next
      → IsUnmarkedAt node.header.k node.shown wanted next
      → IsNode can_pick picks (record node { planned = node.planned + n; wanted = wanted; next = next })
  good_more next end before waiting = record {
    width = good.width;
    picker = good.picker;
    within = fits;
    marks = good.marks;
    inside = wanted_inside;
    next = end;
    before = before;
    waiting = waiting;
  }

  -- it stands for the longer plan
  pub stands_more : (next : ℕ) (plan : List Cell) (events : List Event) → NodeStands picks node plan events
      → (cells : List Cell) × (length cells ≡ n)
      × NodeStands picks (record node { planned = node.planned + n; wanted = wanted; next = next }) (plan ++ cells)
      events
  stands_more next plan events stands = (
    are.cells,
    are.count,
    record {
      count = length-append plan are.cells ∙ ap₂ (λ (a b : ℕ). a + b) stands.count are.count;
      picked = λ number cell e. elim (place_cases plan are.cells number cell e) [
        | inl front ↦ stands.picked number cell front
        | inr (j, is, at) ↦
            let there : node.planned + j ≡ number = sym (is ∙ ap (λ (a : ℕ). a + j) stands.count) in
            subst (λ (m : ℕ). picks node.pick m cell) there (are.picked j cell at)
      ];
      wanted = are.added ∙ ap (λ (l : List Cell). fold (insert_key is_same) l are.cells) stands.wanted
          ∙ sym (fold-append (insert_key is_same) [] plan are.cells);
      shown = stands.shown;
      claim = stands.claim;
    },
  )
