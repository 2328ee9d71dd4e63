-- Places of samples: what is read at a cell, and a sample more.
use Rattle.std.proofs.Common.{◌≡◌, ◌≢◌, ◌∙◌, ℕ, zero, suc, ◌+◌, ◌*◌, ◌<◌, List, length, get_or, set, replicate, cond, Bool, true, false, refl, sym, ap, subst, inl, inr, arith}
use Rattle.std.proofs.lemmas.Bool.{cases_Bool}
use Rattle.std.proofs.lemmas.List.{get_or-set_same, get_or-set_other, get_or_read_under}
use Rattle.namespace_id.specs.declared.cells.Cell.{Cell}
use Rattle.namespace_id.specs.declared.cells.Axis.{Axis}
use Rattle.namespace_id.specs.declared.cells.Axis.TheVariants.{Row, Col}
use Rattle.namespace_id.specs.Cells.{is_in_square}
use Rattle.axis_roots.proofs.Grids.NumberLemmas.{inside, number-lt, cell_of, cell_of-number}
use Rattle.repair_queue.specs.Places.{place_in, places_in, IsPlaced}

-- the place of a cell of the square is read at its number
pub place_within : (k : ℕ) (places : List ℕ) (cell : Cell) → is_in_square k cell ≡ true → place_in k places cell ≡ get_or places (cell.row * (2 * k) + cell.col) 0
unfolding place_in
place_within k places cell within = ap (λ (b : Bool). cond b (get_or places (cell.row * (2 * k) + cell.col) 0) 0) within

-- outside of it there is none
place_outside : (k : ℕ) (places : List ℕ) (cell : Cell) → is_in_square k cell ≡ false → place_in k places cell ≡ 0
unfolding place_in
place_outside k places cell out = ap (λ (b : Bool). cond b (get_or places (cell.row * (2 * k) + cell.col) 0) 0) out

-- what is read at the number of a cell is its place
pub place_read : (k : ℕ) (places : List ℕ) (cell : Cell) (at value : ℕ) → is_in_square k cell ≡ true → length places ≡ 2 * k * (2 * k)
    → at ≡ cell.row * (2 * k) + cell.col → value ≡ get_or places at value → value ≡ place_in k places cell
place_read k places cell at value within long number read =
    let below : at < 2 * k * (2 * k) = omega (arith, number-lt (2 * k) cell (inside k cell within).0 (inside k cell within).1) in
    get_or_read_under places at (2 * k * (2 * k)) value 0 read below (sym long)
    ∙ ap (λ (i : ℕ). get_or places i 0) number ∙ sym (place_within k places cell within)

-- along a row, or a column
pub row_place : (k : ℕ) (rows cols : List ℕ) (axis : Axis) (cell : Cell) (value : ℕ) → axis ≡ Row → value ≡ place_in k rows cell → value ≡ places_in k rows cols axis cell
row_place k rows cols axis cell value is e = e ∙ ap (λ (a : Axis). places_in k rows cols a cell) (sym is)

pub col_place : (k : ℕ) (rows cols : List ℕ) (axis : Axis) (cell : Cell) (value : ℕ) → axis ≡ Col → value ≡ place_in k cols cell → value ≡ places_in k rows cols axis cell
col_place k rows cols axis cell value is e = e ∙ ap (λ (a : Axis). places_in k rows cols a cell) (sym is)

-- where all are 0, each is
zero_at : (n i : ℕ) → get_or {A = ℕ} (replicate n 0) i 0 ≡ 0
zero_at zero i = refl
zero_at (suc n) zero = refl
zero_at (suc n) (suc i) = zero_at n i

no_place : (k n : ℕ) (places : List ℕ) (cell : Cell) → places ≡ replicate n 0 → place_in k places cell ≡ 0
no_place k n places cell zeros = elim (cases_Bool (is_in_square k cell)) [
  | inl there ↦ place_within k places cell there ∙ ap (λ (l : List ℕ). get_or l (cell.row * (2 * k) + cell.col) 0) zeros ∙ zero_at n (cell.row * (2 * k) + cell.col)
  | inr out ↦ place_outside k places cell out
]

pub no_places : (k n : ℕ) (rows cols : List ℕ) → rows ≡ replicate n 0 → cols ≡ replicate n 0 → (axis : Axis) (cell : Cell) → places_in k rows cols axis cell ≡ 0
no_places k n rows cols row_zeros col_zeros Row cell = no_place k n rows cell row_zeros
no_places k n rows cols row_zeros col_zeros Col cell = no_place k n cols cell col_zeros

-- ---- a place that is set

-- it is that of its cell
place_set : (k : ℕ) (places : List ℕ) (cell : Cell) (at n : ℕ) → is_in_square k cell ≡ true → length places ≡ 2 * k * (2 * k)
    → at ≡ cell.row * (2 * k) + cell.col → place_in k (set places at n) cell ≡ n
place_set k places cell at n within long number =
    place_within k (set places at n) cell within ∙ ap (λ (i : ℕ). get_or (set places at n) i 0) (sym number)
    ∙ get_or-set_same places at n 0 (omega (arith, number-lt (2 * k) cell (inside k cell within).0 (inside k cell within).1))

-- and those of all other cells stay
place_other : (k : ℕ) (places : List ℕ) (cell d : Cell) (at n : ℕ) → is_in_square k cell ≡ true
    → at ≡ cell.row * (2 * k) + cell.col → (d ≡ cell → ⊥) → place_in k (set places at n) d ≡ place_in k places d
place_other k places cell d at n within number apart = elim (cases_Bool (is_in_square k d)) [
  | inl there ↦
      let numbers : d.row * (2 * k) + d.col ≢ at =
      λ e. apart (sym (cell_of-number (2 * k) d (inside k d there).1) ∙ ap (cell_of (2 * k)) (e ∙ number) ∙ cell_of-number (2 * k) cell (inside k cell within).1) in
      place_within k (set places at n) d there ∙ get_or-set_other places at (d.row * (2 * k) + d.col) n 0 numbers
      ∙ sym (place_within k places d there)
  | inr out ↦ place_outside k (set places at n) d out ∙ sym (place_outside k places d out)
]

pub row_placed : (k : ℕ) (rows cols : List ℕ) (axis : Axis) (cell : Cell) (at n : ℕ) → is_in_square k cell ≡ true → at ≡ cell.row * (2 * k) + cell.col
    → length rows ≡ 2 * k * (2 * k) → axis ≡ Row → IsPlaced (places_in k rows cols) (places_in k (set rows at n) cols) axis cell n
row_placed k rows cols axis cell at n within number long is =
    subst (λ (a : Axis). IsPlaced (places_in k rows cols) (places_in k (set rows at n) cols) a cell n) (sym is) (record {
      here = place_set k rows cell at n within long number;
      elsewhere = elim [ Row ↦ λ d apart. place_other k rows cell d at n within number (λ e. apart (refl, e)) | Col ↦ λ d apart. refl ];
    })

pub col_placed : (k : ℕ) (rows cols : List ℕ) (axis : Axis) (cell : Cell) (at n : ℕ) → is_in_square k cell ≡ true → at ≡ cell.row * (2 * k) + cell.col
    → length cols ≡ 2 * k * (2 * k) → axis ≡ Col → IsPlaced (places_in k rows cols) (places_in k rows (set cols at n)) axis cell n
col_placed k rows cols axis cell at n within number long is =
    subst (λ (a : Axis). IsPlaced (places_in k rows cols) (places_in k rows (set cols at n)) a cell n) (sym is) (record {
      here = place_set k cols cell at n within long number;
      elsewhere = elim [ Row ↦ λ d apart. refl | Col ↦ λ d apart. place_other k cols cell d at n within number (λ e. apart (refl, e)) ];
    })
