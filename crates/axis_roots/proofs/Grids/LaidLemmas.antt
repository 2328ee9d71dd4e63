-- The header of a square whose namespaces never fall.
use Rattle.std.proofs.Common.{◌≡◌, ◌∙◌, ℕ, zero, suc, ◌+◌, ◌-◌, ◌*◌, ◌<◌, ◌≤◌, List, [], ◌∷◌, length, get_or, map, Bool, true, false, cond, refl, sym, ap, ap₂, subst, inl, inr, arith}
use Rattle.std.specs.Prelude.{Some, None, IsSome}
use Rattle.std.proofs.Math.Nat.{mul-le-mul_right}
use Rattle.std.proofs.lemmas.Bool.{cases_Bool, and_parts, and_from}
use Rattle.std.proofs.lemmas.Bool.Decides.{nat_tests}
use Rattle.std.proofs.lemmas.List.{get_or-map, length-map}
use Rattle.namespace_id.specs.declared.cells.Cell.{Cell}
use Rattle.namespace_id.specs.declared.cells.Axis.{Axis}
use Rattle.namespace_id.specs.declared.cells.Axis.TheVariants.{Row, Col}
use Rattle.namespace_id.specs.declared.namespaces.Namespace.{Namespace}
use Rattle.namespace_id.specs.declared.shares.Share.{Share}
use Rattle.namespace_id.specs.Shares.{IsShare, name_in}
use Rattle.namespace_id.specs.Names.{is_at_most, parity}
use Rattle.namespace_id.specs.Cells.{is_original, leaf_namespace}
use Rattle.namespace_id.specs.Lists.{holds_along}
use Rattle.namespace_id.proofs.ShareLemmas.{name_in-is}
use Rattle.namespace_id.proofs.OrderLemmas.{at_most_refl, at_most_trans, at_most_parity}
use Rattle.nmt_tree.specs.Roots.{is_ordered}
use Rattle.square_layout.specs.Blocks.{SquareShares, IsSquare}
use Rattle.axis_roots.specs.Lines.{blank, cell_on}
use Rattle.axis_roots.specs.Grids.{share_at, axis_cells, axis_shares, axis_names, is_ordered_axis, are_ordered_axes, header_of_grid, Extends}
use Rattle.axis_roots.proofs.Grids.NumberLemmas.{number-lt}
use Rattle.axis_roots.proofs.Grids.AxisLemmas.{get_or-along}
use Rattle.axis_roots.proofs.Grids.LineLemmas.{length-line_names, get_or-axis_names}
use Rattle.axis_roots.proofs.Grids.WordLemmas.{share_in}
use Rattle.axis_roots.proofs.Grids.HeaderLemmas.{ordered_axes}

-- ---- a test along a list, pair by pair

-- what it says of one pair
along-at : {A : Type 0} (test : A → A → Bool) (xs : List A) (i : ℕ) (d : A) → holds_along test xs ≡ true → suc i < length xs → test (get_or xs i d) (get_or xs (suc i) d) ≡ true
unfolding holds_along
along-at test [] i d along h = absurd (omega arith)
along-at test (a ∷ []) i d along h = absurd (omega arith)
along-at test (a ∷ b ∷ xs) zero d along h = (and_parts (test a b) (holds_along test (b ∷ xs)) along).0
along-at test (a ∷ b ∷ xs) (suc i) d along h = along-at test (b ∷ xs) i d (and_parts (test a b) (holds_along test (b ∷ xs)) along).1 (omega arith)

-- it holds along the list where it holds of each pair
pub along-each : {A : Type 0} (test : A → A → Bool) (xs : List A) (d : A) → ((i : ℕ) → suc i < length xs → test (get_or xs i d) (get_or xs (suc i) d) ≡ true) → holds_along test xs ≡ true
unfolding holds_along
along-each test [] d each = refl
along-each test (a ∷ []) d each = refl
along-each test (a ∷ b ∷ xs) d each =
    and_from (test a b) (holds_along test (b ∷ xs)) (each 0 (omega arith)) (along-each test (b ∷ xs) d (λ i h. each (suc i) (omega arith)))

-- of names that never fall, an earlier one isn't above a later one
ordered-at : (names : List Namespace) (d : Namespace) (i more : ℕ) → is_ordered names ≡ true → i + more < length names → is_at_most (get_or names i d) (get_or names (i + more) d) ≡ true
ordered-at names d i zero ordered h =
    let same : i ≡ i + 0 = omega arith in
    ap (λ (j : ℕ). is_at_most (get_or names i d) (get_or names j d)) (sym same) ∙ at_most_refl (get_or names i d)
ordered-at names d i (suc more) ordered h =
    let next : suc (i + more) ≡ i + suc more = omega arith in
    subst (λ (j : ℕ). is_at_most (get_or names i d) (get_or names j d) ≡ true) next
    (at_most_trans (get_or names i d) (get_or names (i + more) d) (get_or names (suc (i + more)) d)
    (ordered-at names d i more ordered (omega arith)) (along-at is_at_most names (i + more) d ordered (omega arith)))

-- the same, of two places in order
ordered-le : (names : List Namespace) (d : Namespace) (i j : ℕ) → is_ordered names ≡ true → i ≤ j → j < length names → is_at_most (get_or names i d) (get_or names j d) ≡ true
ordered-le names d i j ordered low high =
    let more : i + (j - i) ≡ j = omega arith in
    subst (λ (n : ℕ). is_at_most (get_or names i d) (get_or names n d) ≡ true) more (ordered-at names d i (j - i) ordered (omega arith))

-- ---- cells of one axis

-- a cell of the original square is in its quarter
pub original-inside : (k : ℕ) (cell : Cell) → is_original k cell ≡ true → (cell.row < k) × (cell.col < k)
original-inside k cell h = grind (arith, nat_tests)

-- a cell before one of the original square is in it, and its number is smaller
original-before : (k : ℕ) (axis : Axis) (i pos : ℕ) → is_original k (cell_on axis i (suc pos)) ≡ true → is_original k (cell_on axis i pos) ≡ true
original-before k Row i pos h = grind (arith, nat_tests)
original-before k Col i pos h = grind (arith, nat_tests)

-- the number of a cell in the list of the square's shares
abbrev number : ℕ → Cell → ℕ
number k cell = cell.row * k + cell.col

-- a cell before another on an axis has no greater number
number-before : (k : ℕ) (axis : Axis) (i pos : ℕ) → number k (cell_on axis i pos) ≤ number k (cell_on axis i (suc pos))
number-before k Row i pos = omega arith
number-before k Col i pos =
    let more : pos * k ≤ suc pos * k = mul-le-mul_right k (omega arith) in omega arith

-- ---- the names along an axis

-- in the original square a leaf has its share's namespace
original_name : (k : ℕ) (cell : Cell) (share : Share) → is_original k cell ≡ true → leaf_namespace k cell share ≡ name_in share
original_name k cell share t = ap (λ (b : Bool). cond b (name_in share) parity) t

-- outside of it the namespace of parity shares
parity_name : (k : ℕ) (cell : Cell) (share : Share) → is_original k cell ≡ false → leaf_namespace k cell share ≡ parity
parity_name k cell share f = ap (λ (b : Bool). cond b (name_in share) parity) f

-- a name isn't above that of a parity share
before_parity : (k : ℕ) (cell : Cell) (share : Share) → IsShare share → is_at_most (leaf_namespace k cell share) parity ≡ true
before_parity k cell share is = elim (cases_Bool (is_original k cell)) [
  | inl t ↦ ap (λ (name : Namespace). is_at_most name parity) (original_name k cell share t) ∙ at_most_parity (name_in share) (name_in-is share is)
  | inr f ↦ ap (λ (name : Namespace). is_at_most name parity) (parity_name k cell share f) ∙ at_most_refl parity
]

module _ (square : SquareShares) (grid : List Share) (whole : IsSquare square) (extended : Extends square.k square.shares grid)
    (ordered : is_ordered (map name_in square.shares) ≡ true) where
  -- each cell of the extension has a share
  axis_share : (axis : Axis) (i pos : ℕ) → i < 2 * square.k → pos < 2 * square.k → IsShare (share_at (2 * square.k) grid (cell_on axis i pos))
  axis_share axis i pos hi hp =
      let word = extended.codewords axis i hi in
      subst IsShare (get_or-along square.k (share_at (2 * square.k) grid) axis i pos blank hp)
      (share_in (map (share_at (2 * square.k) grid) (axis_cells square.k axis i)) pos blank (omega (arith, word.count)) word.shares)

  -- the name of a cell of the original square
  square_name : (cell : Cell) → is_original square.k cell ≡ true
      → leaf_namespace square.k cell (share_at (2 * square.k) grid cell) ≡ get_or (map name_in square.shares) (number square.k cell) parity
  square_name cell t =
      let low = original-inside square.k cell t in
      let within : number square.k cell < square.k * square.k = number-lt square.k cell low.0 low.1 in
      original_name square.k cell (share_at (2 * square.k) grid cell) t
      ∙ ap name_in (extended.quarter cell low.0 low.1)
      ∙ sym (get_or-map name_in square.shares (number square.k cell) blank parity (omega (arith, whole.count)))

  -- no namespace along an axis is followed by a smaller one
  step : (axis : Axis) (i pos : ℕ) → i < 2 * square.k → suc pos < 2 * square.k
      → is_at_most (leaf_namespace square.k (cell_on axis i pos) (share_at (2 * square.k) grid (cell_on axis i pos)))
      (leaf_namespace square.k (cell_on axis i (suc pos)) (share_at (2 * square.k) grid (cell_on axis i (suc pos)))) ≡ true
  step axis i pos hi hp = elim (cases_Bool (is_original square.k (cell_on axis i (suc pos)))) [
    | inl t ↦
        let low = original-inside square.k (cell_on axis i (suc pos)) t in
        let within : number square.k (cell_on axis i (suc pos)) < square.k * square.k = number-lt square.k (cell_on axis i (suc pos)) low.0 low.1 in
        ap₂ is_at_most (square_name (cell_on axis i pos) (original-before square.k axis i pos t)) (square_name (cell_on axis i (suc pos)) t)
        ∙ ordered-le (map name_in square.shares) parity (number square.k (cell_on axis i pos)) (number square.k (cell_on axis i (suc pos))) ordered
        (number-before square.k axis i pos) (omega (arith, length-map square.shares name_in, whole.count))
    | inr f ↦
        ap (is_at_most (leaf_namespace square.k (cell_on axis i pos) (share_at (2 * square.k) grid (cell_on axis i pos))))
        (parity_name square.k (cell_on axis i (suc pos)) (share_at (2 * square.k) grid (cell_on axis i (suc pos))) f)
        ∙ before_parity square.k (cell_on axis i pos) (share_at (2 * square.k) grid (cell_on axis i pos)) (axis_share axis i pos hi (omega arith))
  ]

  -- so each axis is ordered
  axis_laid : (axis : Axis) (i : ℕ) → i < 2 * square.k → is_ordered_axis square.k grid axis i ≡ true
  axis_laid axis i hi =
      along-each is_at_most (axis_names square.k grid axis i) parity (λ pos h.
      let next : suc pos < 2 * square.k = omega (arith, length-line_names square.k axis i (axis_shares square.k grid axis i)) in
      ap₂ is_at_most (get_or-axis_names square.k grid axis i pos parity (omega arith)) (get_or-axis_names square.k grid axis i (suc pos) parity next)
      ∙ step axis i pos hi next)

-- an answer whose test holds is there
some-cond : {A : Type 0} (b : Bool) (a : A) → b ≡ true → IsSome (cond b (Some a) None)
some-cond b a t = subst (λ (c : Bool). IsSome (cond c (Some a) None)) (sym t) refl

-- a square whose namespaces never fall has a header
pub header_laid : (square : SquareShares) (grid : List Share) → IsSquare square → Extends square.k square.shares grid
    → is_ordered (map name_in square.shares) ≡ true → IsSome (header_of_grid square.k grid)
header_laid square grid whole extended ordered =
    some-cond (are_ordered_axes square.k grid) _ (ordered_axes square.k grid (axis_laid square grid whole extended ordered))
