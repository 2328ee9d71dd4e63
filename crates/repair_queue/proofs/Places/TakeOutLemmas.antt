-- A sample that is taken out of a pool.
use Rattle.std.proofs.Common.{◌≡◌, ◌≢◌, ◌∙◌, ℕ, ◌+◌, ◌*◌, ◌<◌, ◌≤◌, List, [], ◌∷◌, ◌++◌, length, get_or, set, Bool, true, false, not, refl, sym, ap, subst, inl, inr, arith, length-append}
use Rattle.std.specs.Prelude.{Option, Some, None, is_some}
use Rattle.std.proofs.lemmas.Bool.{cases_eq, cases_lt, true≢false}
use Rattle.std.proofs.lemmas.List.{get_or-set_other, get_or_append_left, get_or_read_under, length-set}
use Rattle.std.proofs.Math.Seq.{get_or-append_seam}
use Rattle.namespace_id.specs.declared.cells.Cell.{Cell}
use Rattle.namespace_id.specs.declared.cells.Axis.{Axis}
use Rattle.namespace_id.specs.Cells.{is_in_square}
use Rattle.axis_roots.specs.declared.message.proved.Proved.{Proved}
use Rattle.repair_queue.specs.Slots.{Kept, IsPut, IsEmptied}
use Rattle.repair_queue.specs.Places.{IsPlaced}
use Rattle.repair_queue.specs.Pools.{slots_by, samples_of_row, AreFree, AreAtHome, IsPool}
use Rattle.repair_queue.proofs.Places.PlaceLemmas.{same_slot}
use Rattle.repair_queue.proofs.Counting.SampleLemmas.{all_more, row_more, row_same}

-- one place more is free
module _ (count : ℕ) (old new : Axis → Cell → ℕ) (axis : Axis) (cell : Cell) (place : ℕ) (placed : IsPlaced old new axis cell 0) (here : place ≡ old axis cell)
    (some : place ≢ 0) (below : place < count) (only : (other : Axis) (d : Cell) → old other d ≡ place → (other ≡ axis) × (d ≡ cell)) (free : List ℕ)
    (are : AreFree count old free) where
  more : length (free ++ place ∷ []) ≡ length free + 1
  more = length-append free (place ∷ [])

  last : get_or (free ++ place ∷ []) (length free) 0 ≡ place
  last = get_or-append_seam free place [] 0

  before : (i : ℕ) → i < length free → get_or (free ++ place ∷ []) i 0 ≡ get_or free i 0
  before i h = get_or_append_left free (place ∷ []) 0 i h

  -- what holds of those before and of this one holds of each
  each : (P : ℕ → Type 0) → ((i : ℕ) → i < length free → P (get_or free i 0)) → P place → (i : ℕ) → i < length (free ++ place ∷ [])
      → P (get_or (free ++ place ∷ []) i 0)
  each P of_free of_place i h = elim (cases_lt i (length free)) [
    | inl less ↦ subst P (sym (before i less)) (of_free i less)
    | inr not_less ↦
        let e : length free ≡ i = omega (arith, more) in
        subst (λ (j : ℕ). P (get_or (free ++ place ∷ []) j 0)) e (subst P (sym last) of_place)
  ]

  -- none of them is a cell's
  unled_free : (i : ℕ) → i < length free → (other : Axis) (d : Cell) → new other d ≢ get_or free i 0
  unled_free i h other d e = elim (same_slot other axis d cell) [
    | inl (ea, ec) ↦ are.some i h (sym e ∙ ap (λ (a : Axis). new a d) ea ∙ ap (new axis) ec ∙ placed.here)
    | inr apart ↦ are.unled i other d h (sym (placed.elsewhere other d apart) ∙ e)
  ]

  unled_place : (other : Axis) (d : Cell) → new other d ≢ place
  unled_place other d e = elim (same_slot other axis d cell) [
    | inl (ea, ec) ↦ some (sym e ∙ ap (λ (a : Axis). new a d) ea ∙ ap (new axis) ec ∙ placed.here)
    | inr apart ↦ apart (only other d (sym (placed.elsewhere other d apart) ∙ e))
  ]

  pub more_free : AreFree count new (free ++ place ∷ [])
  more_free = record {
    within = each (λ q. q < count) are.within below;
    some = each (λ q. q ≢ 0) are.some some;
    apart = λ i j less h.
        let first : i < length free = omega (arith, more) in
        elim (cases_lt j (length free)) [
          | inl both ↦ λ e. are.apart i j less both (sym (before i first) ∙ e ∙ before j both)
          | inr not_both ↦
              let end : length free ≡ j = omega (arith, more) in
              λ e. are.unled i axis cell first (sym here ∙ sym last ∙ ap (λ (q : ℕ). get_or (free ++ place ∷ []) q 0) end ∙ sym e ∙ before i first)
        ];
    unled = λ i other d h. each (λ q. new other d ≢ q) (λ j below_free. unled_free j below_free other d) (unled_place other d) i h;
  }

-- samples stay at home where a slot is emptied
emptied_home : (old new : Kept) (axis : Axis) (cell : Cell) → AreAtHome old → IsEmptied old new axis cell → AreAtHome new
emptied_home old new axis cell home emptied other d kept held = elim (same_slot other axis d cell) [
  | inl (ea, ec) ↦
      let none : None ≡ Some kept = sym (ap (λ (a : Axis). new a d) ea ∙ ap (new axis) ec ∙ emptied.here) ∙ held in absurd cc
  | inr apart ↦ home other d kept (sym (emptied.elsewhere other d apart) ∙ held)
]

module _ (k : ℕ) (old new : Axis → Cell → ℕ) (given : List (Option Proved)) (free : List ℕ) (room : ℕ) (axis : Axis) (cell : Cell) (place : ℕ) (kept : Proved) (gone : Option Proved)
    (pool : IsPool k old given free room) (within : is_in_square k cell ≡ true) (here : place ≡ old axis cell) (held : slots_by given old axis cell ≡ Some kept)
    (none : gone ≡ None) (placed : IsPlaced old new axis cell 0) where
  -- the list of samples then
  abbrev left : List (Option Proved)
  left = set given place gone

  -- a sample is there
  held_there : get_or given place None ≡ Some kept
  held_there = ap (λ (q : ℕ). get_or given q None) here ∙ held

  below : place < length given
  below = subst (λ (q : ℕ). q < length given) (sym here) (pool.leads axis cell)

  -- only this cell's place is the one
  only : (other : Axis) (d : Cell) → old other d ≡ place → (other ≡ axis) × (d ≡ cell)
  only other d e =
      let one = pool.home axis cell kept held in
      let two = pool.home other d kept (ap (λ (q : ℕ). get_or given q None) e ∙ held_there) in (sym two.0 ∙ one.0, sym two.1 ∙ one.1)

  -- it isn't the first
  not_first : place ≢ 0
  not_first e =
      let no : None ≡ Some kept = sym pool.first ∙ ap (λ (q : ℕ). get_or given q None) (sym e) ∙ held_there in cc

  -- the first is empty still
  first_left : get_or left 0 None ≡ None
  first_left = get_or-set_other given place 0 gone None (λ e. not_first (sym e)) ∙ pool.first

  -- its slot is empty, and no other changed
  pub out_emptied : IsEmptied (slots_by given old) (slots_by left new) axis cell
  out_emptied = record {
    here = ap (λ (q : ℕ). get_or left q None) placed.here ∙ first_left;
    elsewhere = λ other d apart.
        ap (λ (q : ℕ). get_or left q None) (placed.elsewhere other d apart)
        ∙ get_or-set_other given place (old other d) gone None (λ e. apart (only other d e));
  }

  -- it was put in, seen from here
  put_back : IsPut (slots_by left new) (slots_by given old) axis cell kept
  put_back = record { here = held; elsewhere = λ other d apart. sym (out_emptied.elsewhere other d apart) }

  fewer : (row : ℕ) → row < 2 * k → samples_of_row k (slots_by left new) row < 2 * k
  fewer row below_all = elim (cases_eq row cell.row) [
    | inl e ↦
        let more : samples_of_row k (slots_by given old) cell.row ≡ samples_of_row k (slots_by left new) cell.row + 1 =
        row_more k (slots_by left new) (slots_by given old) axis cell kept within put_back out_emptied.here in
        let few : samples_of_row k (slots_by given old) cell.row < 2 * k = subst (λ (r : ℕ). samples_of_row k (slots_by given old) r < 2 * k) e (pool.few row below_all) in
        let now : samples_of_row k (slots_by left new) cell.row < 2 * k = omega (arith, more, few) in
        subst (λ (r : ℕ). samples_of_row k (slots_by left new) r < 2 * k) (sym e) now
    | inr apart ↦
        subst (λ (n : ℕ). n < 2 * k) (row_same k (slots_by left new) (slots_by given old) axis cell kept put_back row apart) (pool.few row below_all)
  ]

  -- each cell's place is there
  led : (other : Axis) (d : Cell) → new other d < length given
  led other d = elim (same_slot other axis d cell) [
    | inl (ea, ec) ↦
        subst (λ (q : ℕ). q < length given) (sym (ap (λ (a : Axis). new a d) ea ∙ ap (new axis) ec ∙ placed.here)) (omega (arith, below))
    | inr apart ↦ subst (λ (q : ℕ). q < length given) (sym (placed.elsewhere other d apart)) (pool.leads other d)
  ]

  -- a pool it stays
  pub out_pool : (n now : ℕ) (more : List ℕ) → n ≡ k → more ≡ free ++ place ∷ [] → room ≤ now → IsPool n new left more now
  out_pool n now more same extended fits =
      let long : length left ≡ length given = length-set given place gone in
      subst (λ (m : ℕ). IsPool m new left more now) (sym same) (subst (λ (l : List ℕ). IsPool k new left l now) (sym extended) (record {
        width = pool.width;
        leads = subst (λ (n : ℕ). (other : Axis) (d : Cell) → new other d < n) (sym long) led;
        first = first_left;
        home = emptied_home (slots_by given old) (slots_by left new) axis cell pool.home out_emptied;
        free = subst (λ (n : ℕ). AreFree n new (free ++ place ∷ [])) (sym long) (more_free (length given) old new axis cell place placed here not_first below only free pool.free);
        used = omega (arith, long, length-append free (place ∷ []), pool.used, all_more k (slots_by left new) (slots_by given old) axis cell kept put_back within out_emptied.here);
        few = fewer;
        most = omega (arith, long, pool.most);
        free_capacity = omega (arith, fits, pool.free_capacity);
      }))

-- what is read at the place of a cell is what its slot holds
pub read_slot : (given : List (Option Proved)) (place : Axis → Cell → ℕ) (axis : Axis) (cell : Cell) (at : ℕ) (value : Option Proved) → at ≡ place axis cell
    → at < length given → value ≡ get_or given at value → value ≡ slots_by given place axis cell
read_slot given place axis cell at value here below read =
    get_or_read_under given at (length given) value None read below refl ∙ ap (λ (q : ℕ). get_or given q None) here

-- a look that finds a sample there
some_there : (value : Option Proved) (none : Bool) → is_some value ≡ not none → none ≡ false → (kept : Proved) × (value ≡ Some kept)
some_there (Some kept) none test is = (kept, refl)
some_there None none test is = absurd (true≢false (sym (test ∙ ap not is)))

pub look_there : (given : List (Option Proved)) (place : Axis → Cell → ℕ) (axis : Axis) (cell : Cell) (at : ℕ) (value : Option Proved) (none : Bool) → at ≡ place axis cell
    → at < length given → value ≡ get_or given at value → is_some value ≡ not none → none ≡ false → (kept : Proved) × (slots_by given place axis cell ≡ Some kept)
look_there given place axis cell at value none here below read test is =
    let there = some_there value none test is in (there.0, sym (read_slot given place axis cell at value here below read) ∙ there.1)
