-- A commitment proof that has its shape has few rows, and few subtrees in each.
use Rattle.std.proofs.Common.{◌≡◌, ◌∙◌, ℕ, suc, ◌+◌, ◌-◌, ◌*◌, ◌/◌, ◌%◌, ◌<◌, ◌≤◌, ◌&&◌, List, [], ◌∷◌, length, true, IsTrue, refl, sym, ap, inl, inr, arith}
use Rattle.std.specs.List.{AllByRecursion}
use Rattle.std.proofs.lemmas.Bool.{and_parts}
use Rattle.std.proofs.Math.Nat.{mod-lt, min-le_left, min-le_right}
use Rattle.namespace_id.specs.Cells.{is_width}
use Rattle.namespace_id.proofs.WidthLemmas.{is_width-le, is_width-pos}
use Rattle.namespace_id.specs.Sizes.{greatest_width}
use Rattle.blob_commit.specs.Cuts.{levels_of}
use Rattle.blob_commit.specs.Proofs.{RowParts, CommitParts, part_of_row, row_sizes, fits_rows, is_range, has_commit_shape}
use Rattle.blob_commit.proofs.CommitOwnLemmas.{min_cases, row-lt, next_row, range_parts}
use Rattle.blob_commit.proofs.FitLemmas.{fits-parts, few_rows}
use Rattle.blob_commit.proofs.CutLemmas.{fits_often, pieces-le}

-- ---- rows

-- there are no more rows than the square has from the first one's on
rows-le : (k levels at left : ℕ) (rows : List RowParts) → 0 < k → fits_rows k levels at left rows ≡ true → at + left ≤ k * k → length rows ≤ k - at / k
rows-le k levels at left [] some fits within = omega arith
rows-le k levels at left (row ∷ rows) some fits within =
    let n : ℕ = part_of_row k at left in
    let parts = fits-parts k levels at left (row ∷ rows) rows row refl fits in
    let inside : at / k < k = row-lt at k (omega (arith, parts.0, within)) in
    let r_lt : at % k < k = mod-lt at some in
    elim (min_cases left (k - at % k)) [
      | inl all ↦
          let none = few_rows k levels (at + n) (left - n) rows some parts.2 in
          omega (arith, none, all, inside)
      | inr full_row ↦
          let under : k % 1 < 1 = mod-lt k (omega arith) in
          let next : suc (at / k) ≡ (at + n) / k = (next_row at k 1 (omega arith) some (omega (arith, r_lt)) (omega (arith, under))).1 ∙ ap (λ (m : ℕ). (at + m) / k) (sym full_row) in
          let rest = rows-le k levels (at + n) (left - n) rows some parts.2 (omega (arith, min-le_left left (k - at % k), within)) in
          omega (arith, rest, next, inside)
    ]

-- so there are few, and none has a great index
pub range_rows : (k start count levels : ℕ) (rows : List RowParts) → IsTrue (is_width k) → is_range k start count ≡ true → fits_rows k levels start count rows ≡ true
    → (length rows ≤ greatest_width) × (start / k + length rows ≤ greatest_width)
range_rows k start count levels rows width range fits =
    let some = is_width-pos k width in
    let within = (range_parts k start count range).1 in
    let few = rows-le k levels start count rows some fits within in
    let low : start / k ≤ k = fits_often start k k some (omega (arith, within)) in
    (omega (arith, few, is_width-le k width), omega (arith, few, low, is_width-le k width))

-- ---- subtrees

-- so there are at most as many in a row as the greatest width
sizes-le : (k levels at left : ℕ) → IsTrue (is_width k) → length (row_sizes k levels at left) ≤ greatest_width
sizes-le k levels at left width =
    omega (arith, pieces-le levels (part_of_row k at left), min-le_right left (k - at % k), is_width-le k width)

-- and in each row
few_subtrees : (k levels at left : ℕ) (rows : List RowParts) → IsTrue (is_width k) → fits_rows k levels at left rows ≡ true
    → AllByRecursion (λ (row : RowParts). length row.subtrees ≤ greatest_width) rows
few_subtrees k levels at left [] width fits = tt
few_subtrees k levels at left (row ∷ rows) width fits =
    let parts = fits-parts k levels at left (row ∷ rows) rows row refl fits in
    (omega (arith, parts.1, sizes-le k levels at left width), few_subtrees k levels (at + part_of_row k at left) (left - part_of_row k at left) rows width parts.2)

-- ---- of a proof

-- what a shape says: a width, a range, and rows that fit it
pub shape_parts : (proof : CommitParts) → has_commit_shape proof ≡ true
    → IsTrue (is_width proof.k) × (is_range proof.k proof.start proof.count ≡ true) × (fits_rows proof.k (levels_of proof.count) proof.start proof.count proof.rows ≡ true)
shape_parts proof h =
    let two = and_parts (is_width proof.k && is_range proof.k proof.start proof.count) (fits_rows proof.k (levels_of proof.count) proof.start proof.count proof.rows) h in
    let one = and_parts (is_width proof.k) (is_range proof.k proof.start proof.count) two.0 in
    (one.0, one.1, two.1)

-- few rows
pub shape_rows : (proof : CommitParts) → has_commit_shape proof ≡ true → length proof.rows ≤ greatest_width
shape_rows proof h =
    let parts = shape_parts proof h in
    let range = range_parts proof.k proof.start proof.count parts.1 in
    let rows = rows-le proof.k (levels_of proof.count) proof.start proof.count proof.rows (is_width-pos proof.k parts.0) parts.2 range.1 in
    omega (arith, rows, is_width-le proof.k parts.0)

-- with few subtrees each
pub shape_subtrees : (proof : CommitParts) → has_commit_shape proof ≡ true → AllByRecursion (λ row. length row.subtrees ≤ greatest_width) proof.rows
shape_subtrees proof h =
    let parts = shape_parts proof h in
    few_subtrees proof.k (levels_of proof.count) proof.start proof.count proof.rows parts.0 parts.2
