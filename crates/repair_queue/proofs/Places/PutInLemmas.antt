-- A sample that is put into a pool.
use Rattle.std.proofs.Common.{◌≡◌, ◌≢◌, ◌∙◌, ℕ, zero, suc, ◌+◌, ◌*◌, ◌<◌, ◌≤◌, List, [], ◌∷◌, length, get_or, true, refl, sym, ap, subst, inl, inr, arith}
use Rattle.std.specs.Prelude.{Option, Some, None}
use Rattle.namespace_id.specs.declared.cells.Cell.{Cell}
use Rattle.namespace_id.specs.declared.cells.Axis.{Axis}
use Rattle.namespace_id.specs.Cells.{is_width, is_in_square}
use Rattle.namespace_id.proofs.WidthLemmas.{is_width-pos}
use Rattle.axis_roots.specs.declared.message.proved.Proved.{Proved}
use Rattle.axis_roots.specs.Proved.{kept_message}
use Rattle.repair_queue.specs.Slots.{Kept, IsPut}
use Rattle.repair_queue.specs.Places.{cell_place, IsPlaced}
use Rattle.repair_queue.specs.Pools.{PoolParts, slots_by, slot_in, samples_of_row, samples_of_all, AreFree, IsStored, AreAtHome, IsPool, HasPlace, HasFullCapacity}
use Rattle.repair_queue.proofs.Places.PlaceLemmas.{same_slot}
use Rattle.repair_queue.proofs.Places.PutLemmas.{put_cases}
use Rattle.repair_queue.proofs.Counting.SampleLemmas.{sum_below-lt, no_samples, no_samples_of_all, all_more, rows_few}

-- there is capacity for one sample more where no place is free
all_few : (k : ℕ) (slot : Kept) → 0 < k → ((row : ℕ) → row < 2 * k → samples_of_row k slot row < 2 * k) → samples_of_all k slot + 2 ≤ 2 * k * (2 * k)
all_few k slot some few =
    let all : samples_of_all k slot + 2 * k ≤ 2 * k * (2 * k) = sum_below-lt (samples_of_row k slot) (2 * k) (2 * k) few in omega arith

pub room_left : (p : PoolParts) (room : ℕ) → IsPool p.places.k (cell_place p.places) p.given p.free room → HasFullCapacity p → HasPlace p
room_left p room pool roomy none = omega (arith, none, all_few p.places.k (slot_in p) (is_width-pos p.places.k pool.width) pool.few, pool.used, roomy)

-- the list of samples may have such capacity under another width that is the same
pub keeps_capacity : (k n room now : ℕ) → n ≡ k → room ≤ now → 2 * k * (2 * k) ≤ room → 2 * n * (2 * n) ≤ now
keeps_capacity k n room now same more roomy = subst (λ (m : ℕ). 2 * m * (2 * m) ≤ now) (sym same) (omega arith)

module _ (k : ℕ) (old new : Axis → Cell → ℕ) (given made : List (Option Proved)) (free left : List ℕ) (room place : ℕ) (kept : Proved)
    (pool : IsPool k old given free room) (within : is_in_square k (kept_message kept).cell ≡ true) (stored : IsStored given made free left kept place)
    (placed : IsPlaced old new (kept_message kept).axis (kept_message kept).cell place) where
  -- no cell's sample stood there
  unled : (other : Axis) (d : Cell) → old other d ≢ place
  unled other d = stored.unled (old other d) (pool.leads other d) (λ j h. pool.free.unled j other d h)

  -- its slot is filled, and no other changed
  pub in_put : IsPut (slots_by given old) (slots_by made new) (kept_message kept).axis (kept_message kept).cell kept
  in_put = record {
    here = ap (λ (q : ℕ). get_or made q None) placed.here ∙ stored.here;
    elsewhere = λ other d apart.
        ap (λ (q : ℕ). get_or made q None) (placed.elsewhere other d apart) ∙ stored.others (old other d) (pool.leads other d) (unled other d);
  }

  -- each cell's place is there
  led : (other : Axis) (d : Cell) → new other d < length made
  led other d = elim (same_slot other (kept_message kept).axis d (kept_message kept).cell) [
    | inl (ea, ec) ↦
        subst (λ (q : ℕ). q < length made) (sym (ap (λ (a : Axis). new a d) ea ∙ ap (new (kept_message kept).axis) ec ∙ placed.here)) stored.within
    | inr apart ↦
        let was : old other d < length given = pool.leads other d in omega (arith, placed.elsewhere other d apart, was, stored.longer)
  ]

  -- each sample is at home
  put_home : AreAtHome (slots_by made new)
  put_home other d one held = elim (put_cases (slots_by given old) (slots_by made new) kept in_put other d one held) [
    | inl (ea, ec, e) ↦ (ap (λ (x : Proved). (kept_message x).axis) (sym e) ∙ sym ea, ap (λ (x : Proved). (kept_message x).cell) (sym e) ∙ sym ec)
    | inr was ↦ pool.home other d one was
  ]

  -- the places that are left free
  left_free : AreFree (length made) new left
  left_free = record {
    within = λ i h.
        let was = stored.were i h in
        let there : get_or free i 0 < length given = pool.free.within i was.0 in omega (arith, was.1, there, stored.longer);
    some = λ i h e. let was = stored.were i h in pool.free.some i was.0 (sym was.1 ∙ e);
    apart = λ i j less h e.
        let first = stored.were i (omega arith) in
        let second = stored.were j h in pool.free.apart i j less second.0 (sym first.1 ∙ e ∙ second.1);
    unled = λ i other d h e.
        let was = stored.were i h in
        elim (same_slot other (kept_message kept).axis d (kept_message kept).cell) [
          | inl (ea, ec) ↦
              stored.apart pool.free.apart i h (sym e ∙ ap (λ (a : Axis). new a d) ea ∙ ap (new (kept_message kept).axis) ec ∙ placed.here)
          | inr apart ↦ pool.free.unled i other d was.0 (sym (placed.elsewhere other d apart) ∙ e ∙ was.1)
        ];
  }

  -- a pool it stays
  pub in_pool : (n now : ℕ) → n ≡ k → slots_by given old (kept_message kept).axis (kept_message kept).cell ≡ None
      → samples_of_row k (slots_by given old) (kept_message kept).cell.row + 1 < 2 * k → now ≡ room → IsPool n new made left now
  in_pool n now width empty few same =
      let rows_now : (row : ℕ) → row < 2 * k → samples_of_row k (slots_by made new) row < 2 * k =
      rows_few k (slots_by given old) (slots_by made new) (kept_message kept).axis (kept_message kept).cell kept in_put within empty pool.few few in
      let one : samples_of_all k (slots_by made new) ≡ samples_of_all k (slots_by given old) + 1 =
      all_more k (slots_by given old) (slots_by made new) (kept_message kept).axis (kept_message kept).cell kept in_put within empty in
      let used_now : length made ≡ 1 + samples_of_all k (slots_by made new) + length left = omega (arith, one, pool.used, stored.count) in
      let first_there : 0 < length given = let x = pool.leads (kept_message kept).axis (kept_message kept).cell in omega (arith, x) in
      let not_first : 0 ≢ place = stored.unled 0 first_there (λ j h e. pool.free.some j h (sym e)) in
      subst (λ (m : ℕ). IsPool m new made left now) (sym width) (record {
        width = pool.width;
        leads = led;
        first = stored.others 0 first_there not_first ∙ pool.first;
        home = put_home;
        free = left_free;
        used = used_now;
        few = rows_now;
        most = elim stored.full [
          | inl count ↦ omega (arith, count, pool.most)
          | inr none ↦ omega (arith, none, used_now, all_few k (slots_by made new) (is_width-pos k pool.width) rows_now)
        ];
        free_capacity = omega (arith, same, pool.free_capacity);
      })

-- ---- at the start

-- where there is only an empty place, none is kept
lone_none : (i : ℕ) → get_or {A = Option Proved} (None ∷ []) i None ≡ None
lone_none zero = refl
lone_none (suc i) = refl

pub nothing_kept : (given : List (Option Proved)) (place : Axis → Cell → ℕ) → given ≡ None ∷ [] → (axis : Axis) (cell : Cell) → slots_by given place axis cell ≡ None
nothing_kept given place items axis cell = ap (λ (l : List (Option Proved)). get_or l (place axis cell) None) items ∙ lone_none (place axis cell)

-- a pool without samples
pub new_pool : (k n : ℕ) (place : Axis → Cell → ℕ) (given : List (Option Proved)) (free : List ℕ) (room : ℕ) → n ≡ k → is_width k ≡ true
    → ((axis : Axis) (cell : Cell) → place axis cell ≡ 0) → given ≡ None ∷ [] → free ≡ [] → 2 * k * (2 * k) ≤ room → IsPool n place given free room
new_pool k n place given free room same width zeros items none free_capacity =
    let empty : (axis : Axis) (cell : Cell) → slots_by given place axis cell ≡ None = nothing_kept given place items in
    let one : length given ≡ 1 = ap length items in
    let no_free : length free ≡ 0 = ap length none in
    let some : 0 < k = is_width-pos k width in
    let rows : (row : ℕ) → row < 2 * k → samples_of_row k (slots_by given place) row < 2 * k = λ row h. omega (arith, some, no_samples k (slots_by given place) empty row) in
    subst (λ (m : ℕ). IsPool m place given free room) (sym same) (record {
      width = width;
      leads = λ axis cell. omega (arith, one, zeros axis cell);
      first = ap (λ (l : List (Option Proved)). get_or l 0 None) items;
      home = λ axis cell kept held. let no : None ≡ Some kept = sym (empty axis cell) ∙ held in absurd cc;
      free = record {
        within = λ i h. absurd (omega (arith, no_free));
        some = λ i h. absurd (omega (arith, no_free));
        apart = λ i j less h. absurd (omega (arith, no_free));
        unled = λ i axis cell h. absurd (omega (arith, no_free));
      };
      used = omega (arith, one, no_free, no_samples_of_all k (slots_by given place) empty);
      few = rows;
      most = omega (arith, one, all_few k (slots_by given place) some rows);
      free_capacity = free_capacity;
    })
