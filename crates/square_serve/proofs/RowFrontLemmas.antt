-- Rows of a square as the fronts of rows of its extension.
use Rattle.std.proofs.Common.{◌≡◌, ◌∙◌, ℕ, ◌+◌, ◌-◌, ◌*◌, ◌<◌, ◌≤◌, List, length, get_or, take, drop, map, Bool, true, false, cond, IsTrue, sym, ap, ap₂, subst, arith}
use Rattle.std.specs.Prelude.{◌⊎◌, ◌++◌}
use Rattle.std.proofs.lemmas.Bool.Decides.{nat_tests}
use Rattle.std.proofs.lemmas.List.{get_or-take, get_or-drop, get_or_append_left, ext_get_or, length-take-le, get_or-map, length-map}
use Rattle.namespace_id.specs.declared.cells.Cell.{Cell}
use Rattle.namespace_id.specs.declared.cells.Axis.TheVariants.{Row}
use Rattle.namespace_id.specs.declared.namespaces.Namespace.{Namespace}
use Rattle.namespace_id.specs.declared.shares.Share.{Share}
use Rattle.namespace_id.specs.Names.{parity}
use Rattle.namespace_id.specs.Shares.{name_in}
use Rattle.namespace_id.specs.Cells.{is_width, is_original, leaf_namespace, cell_in}
use Rattle.leopard_code.specs.Codewords.{IsCodeword}
use Rattle.axis_roots.specs.Lines.{blank}
use Rattle.axis_roots.specs.Grids.{share_at, axis_names, axis_shares, Extends}
use Rattle.axis_roots.specs.Quarters.{quarter_row}
use Rattle.axis_roots.proofs.Grids.AxisLemmas.{length-along}
use Rattle.axis_roots.proofs.Grids.LineLemmas.{length-line_names}
use Rattle.axis_roots.proofs.Grids.WordLemmas.{one_word}
use Rattle.axis_roots.proofs.Grids.QuarterLemmas.{row_cut, length-quarter_row}
use Rattle.square_serve.proofs.RowLemmas.{axis_names-original, axis_shares-at}
use Rattle.square_serve.proofs.Serving.StoredLemmas.{row_part}

-- ---- the namespace of the leaf over a cell, by the square alone

-- in the square it is that of the square's share
pub original_read : (k : ℕ) (square grid : List Share) (cell : Cell) (share : Share) (name : Namespace) → Extends k square grid → cell.row < k → cell.col < k
    → share ≡ share_at k square cell → name ≡ name_in share → name ≡ leaf_namespace k cell (share_at (2 * k) grid cell)
original_read k square grid cell share name extends low left at is =
    let inside : is_original k cell ≡ true = grind (arith, nat_tests) in
    is ∙ ap name_in (at ∙ sym (extends.quarter cell low left))
    ∙ sym (ap (λ (b : Bool). cond b (name_in (share_at (2 * k) grid cell)) parity) inside)

-- outside of it PARITY
pub parity_read : (k : ℕ) (cell : Cell) (share : Share) → (k ≤ cell.row) ⊎ (k ≤ cell.col) → parity ≡ leaf_namespace k cell share
parity_read k cell share out =
    let outside : is_original k cell ≡ false = grind (arith, nat_tests) in
    sym (ap (λ (b : Bool). cond b (name_in share) parity) outside)

-- ---- the k shares of a row

-- there are 2k shares along a row of a grid
pub length-row : (k : ℕ) (grid : List Share) (row : ℕ) → length (axis_shares k grid Row row) ≡ 2 * k
length-row k grid row = length-along k (share_at (2 * k) grid) Row row

-- the first k of them are k
pub length-front : (k : ℕ) (grid : List Share) (row : ℕ) → length (take k (axis_shares k grid Row row)) ≡ k
length-front k grid row = length-take-le k (axis_shares k grid Row row) (omega (arith, length-row k grid row))

-- a row of a square is the front of that row of its extension
pub square_row : (k : ℕ) (square grid : List Share) (row : ℕ) → length square ≡ k * k → Extends k square grid → row < k
    → quarter_row k square row ≡ take k (axis_shares k grid Row row)
square_row k square grid row count extends h =
    let long : length (quarter_row k square row) ≡ k = length-quarter_row k row square h count in
    ext_get_or blank (quarter_row k square row) (take k (axis_shares k grid Row row)) (long ∙ sym (length-front k grid row)) (λ i lt.
    let within : i < k = omega (arith, lt, long) in
    get_or-take k (drop (row * k) square) i blank within ∙ get_or-drop (row * k) square i blank
    ∙ sym (extends.quarter (cell_in row i) h within)
    ∙ sym (get_or-take k (axis_shares k grid Row row) i blank within ∙ axis_shares-at k grid row i (omega (arith, within))))

-- so are the shares of a row that are cut out of a square
pub square_cut : (k n : ℕ) (square shares grid : List Share) (row : ℕ) → n ≡ k → shares ≡ square → length square ≡ k * k → Extends k square grid → row < k
    → take ((row + 1) * n - row * n) (drop (row * n) shares) ≡ take k (axis_shares k grid Row row)
square_cut k n square shares grid row same is count extends h =
    row_cut n row shares ∙ ap₂ (λ (m : ℕ) (l : List Share). quarter_row m l row) same is ∙ square_row k square grid row count extends h

-- there are k of them
pub length-square_cut : (k n : ℕ) (square shares : List Share) (row : ℕ) → n ≡ k → shares ≡ square → length square ≡ k * k → row < k
    → length (take ((row + 1) * n - row * n) (drop (row * n) shares)) ≡ k
length-square_cut k n square shares row same is count h =
    ap length (row_cut n row shares ∙ ap₂ (λ (m : ℕ) (l : List Share). quarter_row m l row) same is) ∙ length-quarter_row k row square h count

-- so are the first k shares of a row that are cut out of a grid
pub grid_row : (k n : ℕ) (grid shares : List Share) (row : ℕ) → n ≡ k → shares ≡ grid → length grid ≡ 2 * k * (2 * k) → row < k
    → take (row * (2 * n) + n - row * (2 * n)) (drop (row * (2 * n)) shares) ≡ take k (axis_shares k grid Row row)
grid_row k n grid shares row same is size h =
    let number : row * (2 * n) + n - row * (2 * n) ≡ k = omega (arith, same) in
    let first : row * (2 * n) ≡ row * (2 * k) + 0 = ap (λ (m : ℕ). row * (2 * m)) same ∙ (let e : row * (2 * k) ≡ row * (2 * k) + 0 = omega arith in e) in
    (λ i. take (number i) (drop (first i) (is i))) ∙ row_part k grid row 0 k size h (omega arith)

-- with the recovery shares of it, it is that row
pub row_extended : (k n : ℕ) (square grid front back : List Share) (row : ℕ) → IsTrue (is_width k) → n ≡ k → Extends k square grid → row < k
    → front ≡ take k (axis_shares k grid Row row) → IsCodeword n (front ++ back) → front ++ back ≡ axis_shares k grid Row row
row_extended k n square grid front back row width same extends h is code =
    sym (one_word k (axis_shares k grid Row row) (front ++ back) width (extends.codewords Row row (omega (arith, h)))
    (subst (λ (m : ℕ). IsCodeword m (front ++ back)) same code) (λ i lt.
    sym (get_or_append_left front back blank i (omega (arith, lt, ap length is, length-front k grid row))
    ∙ ap (λ (l : List Share). get_or l i blank) is ∙ get_or-take k (axis_shares k grid Row row) i blank lt)))

-- ---- their namespaces

-- the namespaces of the first k leaves of a row are those of its first k shares
pub front_names : (k : ℕ) (grid front : List Share) (row : ℕ) → row < k → front ≡ take k (axis_shares k grid Row row)
    → map name_in front ≡ take k (axis_names k grid Row row)
front_names k grid front row h is =
    let long : length front ≡ k = ap length is ∙ length-front k grid row in
    let names : length (take k (axis_names k grid Row row)) ≡ k =
    length-take-le k (axis_names k grid Row row) (omega (arith, length-line_names k Row row (axis_shares k grid Row row))) in
    ext_get_or parity (map name_in front) (take k (axis_names k grid Row row)) (length-map front name_in ∙ long ∙ sym names) (λ i lt.
    let within : i < k = omega (arith, lt, length-map front name_in, long) in
    get_or-map name_in front i blank parity (omega (arith, within, long))
    ∙ ap (λ (l : List Share). name_in (get_or l i blank)) is
    ∙ ap name_in (get_or-take k (axis_shares k grid Row row) i blank within ∙ axis_shares-at k grid row i (omega (arith, within)))
    ∙ sym (get_or-take k (axis_names k grid Row row) i parity within ∙ axis_names-original k grid row i h within))
