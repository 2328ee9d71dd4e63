-- Row-major lists, and the numbers of their cells.
use Rattle.std.proofs.Common.{◌≡◌, ◌∙◌, ℕ, ◌+◌, ◌*◌, ◌/◌, ◌%◌, ◌<◌, List, length, get_or, map, sym, ap, arith, IsTrue}
use Rattle.std.proofs.lemmas.Nat.{div-add-mod'}
use Rattle.std.proofs.lemmas.List.{get_or-map, length-map, ext_get_or}
use Rattle.namespace_id.specs.declared.cells.Cell.{Cell}
use Rattle.namespace_id.specs.declared.cells.Axis.{Axis}
use Rattle.namespace_id.specs.declared.cells.Axis.TheVariants.{Row, Col}
use Rattle.namespace_id.specs.Cells.{is_in_square}
use Rattle.namespace_id.specs.Lists.{ascending}
use Rattle.namespace_id.proofs.AscendingLemmas.{length-ascending, get_or-ascending}
use Rattle.axis_roots.specs.Messages.{position, index}
pub use Rattle.namespace_id.specs.Cells.{cell_numbered as cell_of}
pub use Rattle.namespace_id.proofs.NumberLemmas.{inside, in_square, number-lt, row-lt, cell_numbered-number as cell_of-number}

-- the place of a cell of the square on its axis
pub position-lt : (k : ℕ) (axis : Axis) (cell : Cell) → IsTrue (is_in_square k cell) → position axis cell < 2 * k
position-lt k Row cell h = (inside k cell h).1
position-lt k Col cell h = (inside k cell h).0

-- and which axis it is
pub index-lt : (k : ℕ) (axis : Axis) (cell : Cell) → IsTrue (is_in_square k cell) → index axis cell < 2 * k
index-lt k Row cell h = (inside k cell h).0
index-lt k Col cell h = (inside k cell h).1

-- the row-major list of the values at all cells
pub listed : {A : Type 0} → ℕ → (Cell → A) → List A
listed n f = map (λ number. f (cell_of n number)) (ascending 0 (n * n))

-- it has as many values as there are cells
pub length-listed : {A : Type 0} (n : ℕ) (f : Cell → A) → length (listed n f) ≡ n * n
unfolding listed
length-listed n f = length-map (ascending 0 (n * n)) (λ number. f (cell_of n number)) ∙ length-ascending (n * n) 0

-- and the value at each cell
pub get_or-listed : {A : Type 0} (n : ℕ) (f : Cell → A) (cell : Cell) (d : A) → cell.row < n → cell.col < n → get_or (listed n f) (cell.row * n + cell.col) d ≡ f cell
unfolding listed
get_or-listed n f cell d hr hc =
    let number : ℕ = cell.row * n + cell.col in
    let within : number < n * n = number-lt n cell hr hc in
    let start : 0 + number ≡ number = omega arith in
    get_or-map (λ x. f (cell_of n x)) (ascending 0 (n * n)) number 0 d (omega (arith, length-ascending (n * n) 0))
    ∙ ap (λ (x : ℕ). f (cell_of n x)) (get_or-ascending (n * n) 0 number within ∙ start)
    ∙ ap f (cell_of-number n cell hc)

-- two row-major lists with the same values at all cells are one
pub same_listed : {A : Type 0} (n : ℕ) (d : A) (xs ys : List A) → 0 < n → length xs ≡ n * n → length ys ≡ n * n
    → ((cell : Cell) → cell.row < n → cell.col < n → get_or xs (cell.row * n + cell.col) d ≡ get_or ys (cell.row * n + cell.col) d) → xs ≡ ys
same_listed n d xs ys some hx hy same =
    ext_get_or d xs ys (hx ∙ sym hy) (λ number h.
    let below : number < n * n = omega arith in
    let whole : number / n * n + number % n ≡ number = div-add-mod' number n in
    ap (λ (x : ℕ). get_or xs x d) (sym whole) ∙ same (cell_of n number) (row-lt n number some below) (omega arith) ∙ ap (λ (x : ℕ). get_or ys x d) whole)
