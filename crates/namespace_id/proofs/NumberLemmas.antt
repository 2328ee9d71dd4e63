-- The numbers of cells, row by row.
use Rattle.std.proofs.Common.{◌≡◌, ℕ, zero, suc, ◌+◌, ◌*◌, ◌/◌, ◌%◌, ◌<◌, ◌≤◌, true, ap, ap₂, inl, inr, arith}
use Rattle.std.proofs.Math.Nat.{div-lt_iff_lt-mul, div-zero, div-mul-le_self, le-div_iff_mul-le, mul-le-mul_right}
use Rattle.std.proofs.lemmas.Nat.{div-mul-add, mod-mul-add, div-add-mod'}
use Rattle.std.proofs.lemmas.Bool.{cases_lt, cases_eq}
use Rattle.std.proofs.lemmas.Bool.Decides.{nat_tests}
use Rattle.namespace_id.specs.declared.cells.Cell.{Cell}
use Rattle.namespace_id.specs.Cells.{is_in_square, is_before, cell_numbered}

-- what the test of a cell says
pub inside : (k : ℕ) (cell : Cell) → is_in_square k cell ≡ true → (cell.row < 2 * k) × (cell.col < 2 * k)
inside k cell h = grind (arith, nat_tests)

-- a cell whose row and column are below 2k is in the square
pub in_square : (k : ℕ) (cell : Cell) → cell.row < 2 * k → cell.col < 2 * k → is_in_square k cell ≡ true
in_square k cell row col = grind (arith, nat_tests)

-- a row ends before a later one begins
pub row_before : (m j n : ℕ) → m < j → m * n + n ≤ j * n
row_before m j n h =
    let more : (m + 1) * n ≤ j * n = mul-le-mul_right n (omega arith) in omega arith

-- the number of a cell is below that of all cells
pub number-lt : (n : ℕ) (cell : Cell) → cell.row < n → cell.col < n → cell.row * n + cell.col < n * n
number-lt n cell row col = omega (arith, row_before cell.row n n row)

-- the cell with the number of a cell is that cell
pub cell_numbered-number : (n : ℕ) (cell : Cell) → cell.col < n → cell_numbered n (cell.row * n + cell.col) ≡ cell
cell_numbered-number n cell h =
    ap₂ (λ (r c : ℕ). record { row = r; col = c }) (div-mul-add cell.row n cell.col h)
    (mod-mul-add cell.row n cell.col h)

-- the row of a number
pub row-lt : (n number : ℕ) → 0 < n → number < n * n → number / n < n
row-lt n number some h = (div-lt_iff_lt-mul some).1 h

-- a cell before another has a lower number
pub before_lower : (n : ℕ) (a b : Cell) → a.col < n → is_before a b ≡ true → a.row * n + a.col < b.row * n + b.col
before_lower n a b col h = elim (cases_lt a.row b.row) [
  | inl above ↦ omega (arith, row_before a.row b.row n above)
  | inr not_above ↦
      let both : (a.row ≡ b.row) × (a.col < b.col) = grind (arith, nat_tests) in
      let same : a.row * n ≡ b.row * n = ap (λ (r : ℕ). r * n) both.0 in
      omega (arith, both.1)
]

-- a cell with a lower number is before another
pub lower_before : (n : ℕ) (a b : Cell) → a.col < n → b.col < n → a.row * n + a.col < b.row * n + b.col
    → is_before a b ≡ true
lower_before n a b ha hb h = elim (cases_lt a.row b.row) [
  | inl above ↦ grind (arith, nat_tests)
  | inr not_above ↦ elim (cases_eq a.row b.row) [
    | inl e ↦
        let same : a.row * n ≡ b.row * n = ap (λ (r : ℕ). r * n) e in
        let less : a.col < b.col = omega arith in
        grind (arith, nat_tests)
    | inr apart ↦ absurd (omega (arith, row_before b.row a.row n (omega arith)))
  ]
]

-- a lower number is in no later row
row-le : (n less more : ℕ) → less < more → less / n ≤ more / n
row-le zero less more h = omega (arith, div-zero less, div-zero more)
row-le (suc n) less more h =
    (le-div_iff_mul-le {k = suc n} {x = less / suc n} {y = more} (omega arith)).1
    (omega (arith, h, div-mul-le_self less (suc n)))

-- the cell with a lower number is before that with a higher one
pub numbers_rise : (n less more : ℕ) → less < more → is_before (cell_numbered n less) (cell_numbered n more) ≡ true
numbers_rise n less more h =
    let first : less / n * n + less % n ≡ less = div-add-mod' less n in
    let second : more / n * n + more % n ≡ more = div-add-mod' more n in
    elim (cases_lt (less / n) (more / n)) [
      | inl above ↦ grind (arith, nat_tests)
      | inr not_above ↦
          let e : less / n ≡ more / n = omega (arith, row-le n less more h) in
          let same : less / n * n ≡ more / n * n = ap (λ (r : ℕ). r * n) e in
          let lower : less % n < more % n = omega arith in
          grind (arith, nat_tests)
    ]
