-- Quarters of extended squares, and the leaves over the rows of an extension.
use Rattle.std.proofs.Common.{◌≡◌, ◌≢◌, ◌⊎◌, ◌∙◌, ℕ, ◌+◌, ◌-◌, ◌*◌, ◌/◌, ◌%◌, ◌<◌, ◌≤◌, List, ◌++◌, length, get_or, set, take, drop, cond, Bool, true, false, sym, ap, ap₂, subst, inl, inr, arith, below_more, true≢false, IsTrue, length-drop}
use Rattle.std.specs.Prelude.{nat_lt, Option, Some, None, IfSome, IsNone}
use Rattle.std.proofs.lemmas.Nat.{div-add-mod'}
use Rattle.std.proofs.lemmas.Bool.{cases_lt}
use Rattle.std.proofs.lemmas.Bool.Decides.{nat_tests}
use Rattle.std.proofs.lemmas.List.{get_or-take, get_or-drop, get_or_append_left, get_or-append-add, get_or-set_same, get_or-set_other, ext_get_or, length-take-le}
use Rattle.namespace_id.specs.declared.cells.Cell.{Cell}
use Rattle.namespace_id.specs.declared.cells.Axis.TheVariants.{Row, Col}
use Rattle.namespace_id.specs.declared.shares.Share.{Share}
use Rattle.namespace_id.specs.Shares.{IsShare, AreShares}
use Rattle.namespace_id.specs.declared.digests.Digest.{Digest}
use Rattle.namespace_id.specs.Digests.{no_digest}
use Rattle.namespace_id.specs.Cells.{is_width, is_in_square, cell_in, leaf_namespace}
use Rattle.namespace_id.proofs.NumberLemmas.{inside, row_before, row-lt}
use Rattle.namespace_id.proofs.WidthLemmas.{is_width-pos}
use Rattle.nmt_tree.specs.Digests.{leaf_digest}
use Rattle.data_header.specs.Headers.{Roots}
use Rattle.leopard_code.specs.Codewords.{IsCodeword}
use Rattle.square_layout.specs.Blocks.{SquareShares, IsSquare}
use Rattle.axis_roots.specs.Lines.{blank}
use Rattle.axis_roots.specs.Grids.{share_at, axis_shares, Extends, leaf_over, AreLeafDigests, header_of_grid, IsHeaderOf, HasNoHeader}
use Rattle.axis_roots.specs.Quarters.{quarter_column, IsLowerLeft, quarter_row, left_half}
use Rattle.axis_roots.proofs.Grids.ExtensionLemmas.{extension_there}
use Rattle.axis_roots.proofs.Grids.HeaderLemmas.{header_made, header_not_made}
use Rattle.axis_roots.proofs.Grids.AxisLemmas.{get_or-mapped, get_or-along}
use Rattle.axis_roots.proofs.Grids.WordLemmas.{share_in, shares_each, length-mapped, one_word}

-- ---- columns of a quarter

-- a column of a quarter has k shares
length-quarter_column : (k : ℕ) (quarter : List Share) (col : ℕ) → length (quarter_column k quarter col) ≡ k
length-quarter_column k quarter col = length-mapped k (λ row. share_at k quarter (cell_in row col))

-- the share of a column in one row
get_or-quarter_column : (k : ℕ) (quarter : List Share) (col row : ℕ) → row < k → get_or (quarter_column k quarter col) row blank ≡ share_at k quarter (cell_in row col)
get_or-quarter_column k quarter col row h = get_or-mapped (λ row. share_at k quarter (cell_in row col)) k row blank h

-- a list that has the shares of a column
pub is_quarter_column : (k : ℕ) (quarter line : List Share) (col : ℕ) → length line ≡ k
    → ((row : ℕ) → row < k → get_or line row blank ≡ share_at k quarter (cell_in row col)) → line ≡ quarter_column k quarter col
is_quarter_column k quarter line col long each =
    ext_get_or blank line (quarter_column k quarter col) (long ∙ sym (length-quarter_column k quarter col)) (λ row h.
    let within : row < k = omega arith in
    each row within ∙ sym (get_or-quarter_column k quarter col row within))

-- one more share of a column that is read
pub column_next : (k : ℕ) (square line : List Share) (col row : ℕ) (share : Share) → row < length line
    → share ≡ share_at k square (cell_in row col)
    → ((r : ℕ) → r < row → get_or line r blank ≡ share_at k square (cell_in r col))
    → (r : ℕ) → r < row + 1 → get_or (set line row share) r blank ≡ share_at k square (cell_in r col)
column_next k square line col row share within is before =
    below_more _ _
    (λ r h.
    let apart : r ≢ row = λ (e : r ≡ row). absurd (omega arith) in
    get_or-set_other line row r share blank apart ∙ before r h)
    (get_or-set_same line row share blank within ∙ is)

-- another column is as it was, where the cells of other columns are
pub same_column : (k : ℕ) (old new : List Share) (col other : ℕ) → other < k → other ≢ col
    → ((cell : Cell) → cell.col < k → cell.col ≢ col → share_at k new cell ≡ share_at k old cell)
    → quarter_column k new other ≡ quarter_column k old other
same_column k old new col other within apart kept =
    is_quarter_column k old (quarter_column k new other) other (length-quarter_column k new other)
    (λ row h. get_or-quarter_column k new other row h ∙ kept (cell_in row other) within apart)

-- the columns so far, after the next one became a codeword with that of the square
pub columns_next : (k m n : ℕ) (square old new front back : List Share) (col : ℕ) → m ≡ k → n ≡ k → col < k
    → front ≡ quarter_column k square col → IsCodeword m (front ++ back) → quarter_column n new col ≡ back
    → ((other : ℕ) → other < n → other ≢ col → quarter_column n new other ≡ quarter_column n old other)
    → ((c : ℕ) → c < col → IsCodeword k (quarter_column k square c ++ quarter_column k old c))
    → (c : ℕ) → c < col + 1 → IsCodeword k (quarter_column k square c ++ quarter_column k new c)
columns_next k m n square old new front back col wide same hc is code made kept before =
    below_more _ _
    (λ c h.
    let apart : c ≢ col = λ (e : c ≡ col). absurd (omega arith) in
    subst (λ (word : List Share). IsCodeword k (quarter_column k square c ++ word))
    (sym (subst (λ (x : ℕ). quarter_column x new c ≡ quarter_column x old c) same (kept c (omega arith) apart))) (before c h))
    (subst (λ (x : ℕ). IsCodeword x (quarter_column k square col ++ quarter_column k new col)) wide
    (subst (λ (word : List Share). IsCodeword m (quarter_column k square col ++ word))
    (sym (subst (λ (x : ℕ). quarter_column x new col ≡ back) same made))
    (subst (λ (word : List Share). IsCodeword m (word ++ back)) is code)))

-- ---- rows of an extension

-- the share of a row of a quarter in one column
get_or-quarter_row : (k : ℕ) (quarter : List Share) (row pos : ℕ) → pos < k → get_or (quarter_row k quarter row) pos blank ≡ share_at k quarter (cell_in row pos)
get_or-quarter_row k quarter row pos h = get_or-take k (drop (row * k) quarter) pos blank h ∙ get_or-drop (row * k) quarter pos blank

-- a share of the lower left quarter stands k rows further down in the extension
lower_share : (k : ℕ) (square quarter grid : List Share) → IsTrue (is_width k) → IsLowerLeft k square quarter → Extends k square grid
    → (row col : ℕ) → row < k → col < k → share_at k quarter (cell_in row col) ≡ share_at (2 * k) grid (cell_in (k + row) col)
lower_share k square quarter grid width lower extended row col hr hc =
    let v : Cell → Share = share_at (2 * k) grid in
    let front : List Share = quarter_column k square col in
    let back : List Share = quarter_column k quarter col in
    let long : length front ≡ k = length-quarter_column k square col in
    let same : axis_shares k grid Col col ≡ front ++ back =
    one_word k (axis_shares k grid Col col) (front ++ back) width (extended.codewords Col col (omega arith)) (lower.codewords col hc) (λ q hq.
    get_or-along k v Col col q blank (omega arith) ∙ extended.quarter (cell_in q col) hq hc ∙ sym (get_or-quarter_column k square col q hq)
    ∙ sym (get_or_append_left front back blank q (omega arith))) in
    sym (get_or-quarter_column k quarter col row hr)
    ∙ sym (get_or-append-add front back row blank)
    ∙ ap (λ (n : ℕ). get_or (front ++ back) (n + row) blank) long
    ∙ ap (λ (word : List Share). get_or word (k + row) blank) (sym same)
    ∙ get_or-along k v Col col (k + row) blank (omega arith)

-- the left half of a row of the extension has the first k shares of that row
left_share : (k : ℕ) (square quarter grid : List Share) → IsTrue (is_width k) → IsLowerLeft k square quarter → Extends k square grid
    → (row pos : ℕ) → row < 2 * k → pos < k → get_or (left_half k square quarter row) pos blank ≡ share_at (2 * k) grid (cell_in row pos)
left_share k square quarter grid width lower extended row pos hr hp = elim (cases_lt row k) [
  | inl above ↦
      let test : nat_lt row k ≡ true = grind (arith, nat_tests) in
      ap (λ (b : Bool). get_or (cond b (quarter_row k square row) (quarter_row k quarter (row - k))) pos blank) test
      ∙ get_or-quarter_row k square row pos hp ∙ sym (extended.quarter (cell_in row pos) above hp)
  | inr below ↦
      let test : nat_lt row k ≡ false = grind (arith, nat_tests) in
      let whole : k + (row - k) ≡ row = omega arith in
      ap (λ (b : Bool). get_or (cond b (quarter_row k square row) (quarter_row k quarter (row - k))) pos blank) test
      ∙ get_or-quarter_row k quarter (row - k) pos hp
      ∙ lower_share k square quarter grid width lower extended (row - k) pos (omega arith) hp
      ∙ ap (λ (r : ℕ). share_at (2 * k) grid (cell_in r pos)) whole
]

-- the shares of a row, cut out of a list of m rows
pub row_cut : (m row : ℕ) (shares : List Share)
    → take ((row + 1) * m - row * m) (drop (row * m) shares) ≡ quarter_row m shares row
row_cut m row shares =
    let span : (row + 1) * m - row * m ≡ m = omega arith in
    ap (λ (n : ℕ). take n (drop (row * m) shares)) span

-- they are m
pub length-quarter_row : (m row : ℕ) (shares : List Share) → row < m → length shares ≡ m * m
    → length (quarter_row m shares row) ≡ m
length-quarter_row m row shares h count =
    length-take-le m (drop (row * m) shares) (omega (arith, length-drop (row * m) shares, row_before row m m h))

-- the left half of a row above the quarter is a row of the square
pub upper_half : (k m row : ℕ) (square quarter shares : List Share) → m ≡ k → shares ≡ square → row < m
    → quarter_row m shares row ≡ left_half k square quarter row
upper_half k m row square quarter shares wide is h =
    let below : row < k = omega arith in
    let test : nat_lt row k ≡ true = grind (arith, nat_tests) in
    ap₂ (λ (n : ℕ) (l : List Share). quarter_row n l row) wide is
    ∙ sym (ap (λ (b : Bool). cond b (quarter_row k square row) (quarter_row k quarter (row - k))) test)

-- and further down one of the quarter
pub lower_half : (k m row : ℕ) (square quarter : List Share) → m ≡ k → m ≤ row
    → quarter_row m quarter (row - m) ≡ left_half k square quarter row
lower_half k m row square quarter wide h =
    let above : k ≤ row = omega arith in
    let test : nat_lt row k ≡ false = grind (arith, nat_tests) in
    ap (λ (n : ℕ). quarter_row n quarter (row - n)) wide
    ∙ sym (ap (λ (b : Bool). cond b (quarter_row k square row) (quarter_row k quarter (row - k))) test)

-- a row of the extension is its left half, followed by the recovery shares of that
row_word : (k : ℕ) (square quarter grid left right : List Share) (row : ℕ) → IsTrue (is_width k) → IsLowerLeft k square quarter → Extends k square grid → row < 2 * k
    → left ≡ left_half k square quarter row → length left ≡ k → IsCodeword k (left ++ right) → axis_shares k grid Row row ≡ left ++ right
row_word k square quarter grid left right row width lower extended hr is long code =
    one_word k (axis_shares k grid Row row) (left ++ right) width (extended.codewords Row row hr) code (λ q hq.
    get_or-along k (share_at (2 * k) grid) Row row q blank (omega arith)
    ∙ sym (left_share k square quarter grid width lower extended row q hr hq)
    ∙ ap (λ (l : List Share). get_or l q blank) (sym is)
    ∙ sym (get_or_append_left left right blank q (omega arith)))

-- the right half of a row of the extension has the last k shares of that row
right_share : (k : ℕ) (square quarter grid left right : List Share) (row pos : ℕ) → IsTrue (is_width k) → IsLowerLeft k square quarter → Extends k square grid → row < 2 * k → pos < k
    → left ≡ left_half k square quarter row → length left ≡ k → IsCodeword k (left ++ right) → get_or right pos blank ≡ share_at (2 * k) grid (cell_in row (k + pos))
right_share k square quarter grid left right row pos width lower extended hr hp is long code =
    sym (get_or-append-add left right pos blank)
    ∙ ap (λ (n : ℕ). get_or (left ++ right) (n + pos) blank) long
    ∙ ap (λ (word : List Share). get_or word (k + pos) blank) (sym (row_word k square quarter grid left right row width lower extended hr is long code))
    ∙ get_or-along k (share_at (2 * k) grid) Row row (k + pos) blank (omega arith)

-- ---- the share of a cell

-- a cell of the left half
pub left_cell : (k m : ℕ) (square quarter left : List Share) (cell : Cell) (share : Share) → m ≡ k → IsTrue (is_width m) → IsLowerLeft k square quarter
    → IsTrue (is_in_square k cell) → left ≡ left_half k square quarter cell.row → cell.col < m → share ≡ get_or left cell.col blank
    → (grid : List Share) → Extends k square grid → share ≡ share_at (2 * k) grid cell
left_cell k m square quarter left cell share same width lower within is low at grid extended =
    at ∙ ap (λ (l : List Share). get_or l cell.col blank) is
    ∙ left_share k square quarter grid (subst (λ (n : ℕ). IsTrue (is_width n)) same width) lower extended cell.row cell.col (inside k cell within).0 (omega arith)

-- a cell of the right half
pub right_cell : (k m a : ℕ) (square quarter left right : List Share) (cell : Cell) (share : Share) → m ≡ k → a ≡ k → IsTrue (is_width m) → IsLowerLeft k square quarter
    → IsTrue (is_in_square k cell) → left ≡ left_half k square quarter cell.row → length left ≡ k → IsCodeword a (left ++ right) → m ≤ cell.col
    → share ≡ get_or right (cell.col - m) blank → (grid : List Share) → Extends k square grid → share ≡ share_at (2 * k) grid cell
right_cell k m a square quarter left right cell share same wide width lower within is long code high at grid extended =
    let col : cell.col < 2 * k = (inside k cell within).1 in
    let place : k + (cell.col - m) ≡ cell.col = omega arith in
    at
    ∙ right_share k square quarter grid left right cell.row (cell.col - m) (subst (λ (n : ℕ). IsTrue (is_width n)) same width) lower extended
    (inside k cell within).0 (omega arith) is long (subst (λ (n : ℕ). IsCodeword n (left ++ right)) wide code)
    ∙ ap (λ (n : ℕ). share_at (2 * k) grid (cell_in cell.row n)) place

-- ---- leaves over a row

-- the leaves over cells of a row beside each other
abbrev pub HasLeaves : ℕ → ℕ → ℕ → List Share → List Digest → ℕ → Type 0
HasLeaves k row col shares leaves count =
    (pos : ℕ) → pos < count → get_or leaves (row * (2 * k) + (col + pos)) no_digest
    ≡ leaf_digest (leaf_namespace k (cell_in row (col + pos)) (get_or shares pos blank)) (get_or shares pos blank)

-- every other leaf is as it was
abbrev pub HasOthers : ℕ → ℕ → ℕ → List Digest → List Digest → Type 0
HasOthers k row col old new =
    (number : ℕ) → (number < row * (2 * k) + col) ⊎ (row * (2 * k) + (col + k) ≤ number) → get_or new number no_digest ≡ get_or old number no_digest

-- the leaves over the cells of a grid in the first rows
abbrev pub HasRows : ℕ → List Share → List Digest → ℕ → Type 0
HasRows k grid leaves row =
    (cell : Cell) → IsTrue (is_in_square k cell) → cell.row < row → get_or leaves (cell.row * (2 * k) + cell.col) no_digest ≡ leaf_over k grid cell

-- the rows so far, after the next one was hashed and those before it stayed
pub row_next : (k : ℕ) (grid : List Share) (was new : List Digest) (row : ℕ)
    → ((col : ℕ) → col < 2 * k → get_or new (row * (2 * k) + col) no_digest ≡ leaf_over k grid (cell_in row col))
    → ((number : ℕ) → number < row * (2 * k) → get_or new number no_digest ≡ get_or was number no_digest)
    → HasRows k grid was row → HasRows k grid new (row + 1)
row_next k grid was new row made kept before cell within h =
    elim (cases_lt cell.row row) [
      | inl above ↦
          let col : cell.col < 2 * k = (inside k cell within).1 in
          let low : cell.row * (2 * k) + cell.col < row * (2 * k) = omega (arith, row_before cell.row row (2 * k) above) in
          kept (cell.row * (2 * k) + cell.col) low ∙ before cell within above
      | inr last ↦
          let same : row ≡ cell.row = omega arith in
          subst (λ (r : ℕ). get_or new (r * (2 * k) + cell.col) no_digest ≡ leaf_over k grid (cell_in r cell.col)) same
          (made cell.col (inside k cell within).1)
    ]

-- a leaf over a cell, by its share
leaf_is : (k : ℕ) (grid : List Share) (cell : Cell) (share : Share) → share ≡ share_at (2 * k) grid cell
    → leaf_digest (leaf_namespace k cell share) share ≡ leaf_over k grid cell
leaf_is k grid cell share is = ap (λ (s : Share). leaf_digest (leaf_namespace k cell s) s) is

-- a row whose two halves were hashed has its leaves
row_leaves : (k : ℕ) (grid left right : List Share) (half new : List Digest) (row : ℕ) → axis_shares k grid Row row ≡ left ++ right → length left ≡ k
    → HasLeaves k row 0 left half k → HasLeaves k row k right new k → HasOthers k row k half new
    → (col : ℕ) → col < 2 * k → get_or new (row * (2 * k) + col) no_digest ≡ leaf_over k grid (cell_in row col)
row_leaves k grid left right half new row word long first second kept col hc = elim (cases_lt col k) [
  | inl low ↦
      let share : get_or left col blank ≡ share_at (2 * k) grid (cell_in row col) =
      sym (get_or_append_left left right blank col (omega arith)) ∙ ap (λ (w : List Share). get_or w col blank) (sym word)
      ∙ get_or-along k (share_at (2 * k) grid) Row row col blank hc in
      let start : 0 + col ≡ col = omega arith in
      kept (row * (2 * k) + col) (inl (omega arith))
      ∙ ap (λ (n : ℕ). get_or half (row * (2 * k) + n) no_digest) (sym start)
      ∙ first col low
      ∙ ap (λ (n : ℕ). leaf_digest (leaf_namespace k (cell_in row n) (get_or left col blank)) (get_or left col blank)) start
      ∙ leaf_is k grid (cell_in row col) (get_or left col blank) share
  | inr high ↦
      let pos : ℕ = col - k in
      let at : k + pos ≡ col = omega arith in
      let share : get_or right pos blank ≡ share_at (2 * k) grid (cell_in row col) =
      sym (get_or-append-add left right pos blank) ∙ ap (λ (n : ℕ). get_or (left ++ right) (n + pos) blank) long
      ∙ ap (λ (n : ℕ). get_or (left ++ right) n blank) at ∙ ap (λ (w : List Share). get_or w col blank) (sym word)
      ∙ get_or-along k (share_at (2 * k) grid) Row row col blank hc in
      ap (λ (n : ℕ). get_or new (row * (2 * k) + n) no_digest) (sym at)
      ∙ second pos (omega arith)
      ∙ ap (λ (n : ℕ). leaf_digest (leaf_namespace k (cell_in row n) (get_or right pos blank)) (get_or right pos blank)) at
      ∙ leaf_is k grid (cell_in row col) (get_or right pos blank) share
]

-- the rows so far, after the next row of an extension was hashed by halves
rows_next : (k : ℕ) (square quarter grid left right : List Share) (was half new : List Digest) (row : ℕ) → IsTrue (is_width k)
    → IsLowerLeft k square quarter → Extends k square grid → row < 2 * k
    → left ≡ left_half k square quarter row → length left ≡ k → IsCodeword k (left ++ right)
    → HasLeaves k row 0 left half k → HasOthers k row 0 was half → HasLeaves k row k right new k → HasOthers k row k half new
    → HasRows k grid was row → HasRows k grid new (row + 1)
rows_next k square quarter grid left right was half new row width lower extended hr is long code first kept second others =
    row_next k grid was new row
    (row_leaves k grid left right half new row (row_word k square quarter grid left right row width lower extended hr is long code) long first second others)
    (λ number low. others number (inl (omega arith)) ∙ kept number (inl (omega arith)))

-- the same, of every extension of the square, where each step speaks of the width that it was told
pub every_next : (k m a : ℕ) (square quarter left right : List Share) (was half new : List Digest) (row : ℕ) → m ≡ k → a ≡ k → IsTrue (is_width m)
    → IsLowerLeft k square quarter → row < 2 * k
    → left ≡ left_half k square quarter row → length left ≡ k → IsCodeword a (left ++ right)
    → HasLeaves m row 0 left half m → HasOthers m row 0 was half → HasLeaves m row m right new m → HasOthers m row m half new
    → ((grid : List Share) → Extends k square grid → HasRows k grid was row) → (grid : List Share) → Extends k square grid → HasRows k grid new (row + 1)
every_next k m a square quarter left right was half new row same wide width lower hr is long code first kept second others before grid extended =
    rows_next k square quarter grid left right was half new row (subst (λ (n : ℕ). IsTrue (is_width n)) same width) lower extended hr is long
    (subst (λ (n : ℕ). IsCodeword n (left ++ right)) wide code)
    (subst (λ (n : ℕ). HasLeaves n row 0 left half n) same first)
    (subst (λ (n : ℕ). HasOthers n row 0 was half) same kept)
    (subst (λ (n : ℕ). HasLeaves n row n right new n) same second)
    (subst (λ (n : ℕ). HasOthers n row n half new) same others)
    (before grid extended)

-- ---- headers

-- the shares of an extension are shares
pub extension_shares : (k : ℕ) (square grid : List Share) → IsTrue (is_width k) → Extends k square grid → AreShares grid
extension_shares k square grid width extended =
    let some : 0 < k = is_width-pos k width in
    shares_each grid blank (λ number h.
    let within : number < 2 * k * (2 * k) = omega (arith, extended.size) in
    let row : number / (2 * k) < 2 * k = row-lt (2 * k) number (omega arith) within in
    let col : number % (2 * k) < 2 * k = omega arith in
    let word : IsCodeword k (axis_shares k grid Row (number / (2 * k))) = extended.codewords Row (number / (2 * k)) row in
    subst IsShare
    (get_or-along k (share_at (2 * k) grid) Row (number / (2 * k)) (number % (2 * k)) blank col
    ∙ ap (λ (n : ℕ). get_or grid n blank) (div-add-mod' number (2 * k)))
    (share_in (axis_shares k grid Row (number / (2 * k))) (number % (2 * k)) blank (omega (arith, word.count)) word.shares))

-- the header over the leaves of a square's extension is that of the extension
header_over_leaves : (k m : ℕ) (square : List Share) (leaves table : List Digest) (made : Option Roots) → m ≡ k → IsTrue (is_width k) → table ≡ leaves
    → ((grid : List Share) → Extends k square grid → AreLeafDigests k grid leaves)
    → ((shares : List Share) → AreShares shares → AreLeafDigests m shares table → made ≡ header_of_grid m shares)
    → (grid : List Share) → Extends k square grid → made ≡ header_of_grid k grid
header_over_leaves k m square leaves table made same width is are law grid extended =
    subst (λ (n : ℕ). AreLeafDigests n grid table → made ≡ header_of_grid n grid) same (law grid (extension_shares k square grid width extended))
    (subst (λ (l : List Digest). AreLeafDigests k grid l) (sym is) (are grid extended))

-- the header of a square's extension is the square's, and where there is none the square has none
header_by : (square : SquareShares) (grid : List Share) (made : Option Roots) → IsSquare square → Extends square.k square.shares grid
    → made ≡ header_of_grid square.k grid → IfSome made (λ header. IsHeaderOf header square) × (IsNone made → HasNoHeader square)
header_by square grid (Some header) whole extended is = (header_made square grid header whole extended (sym is), λ none. absurd (true≢false none))
header_by square grid None whole extended is = (tt, λ none header. header_not_made square grid header extended (sym is))

-- so is the header over the leaves of its extension
pub square_header : (square : SquareShares) (m : ℕ) (leaves table : List Digest) (made : Option Roots) → IsSquare square → AreShares square.shares
    → m ≡ square.k → table ≡ leaves → ((grid : List Share) → Extends square.k square.shares grid → AreLeafDigests square.k grid leaves)
    → ((shares : List Share) → AreShares shares → AreLeafDigests m shares table → made ≡ header_of_grid m shares)
    → IfSome made (λ header. IsHeaderOf header square) × (IsNone made → HasNoHeader square)
square_header square m leaves table made whole shares same is are law =
    let extension = extension_there square whole shares in
    header_by square extension.0 made whole extension.1
    (header_over_leaves square.k m square.shares leaves table made same whole.width is are law extension.0 extension.1)
