-- The header of a grid and of a square.
use Rattle.std.proofs.Common.{◌≡◌, ◌∙◌, ℕ, zero, suc, ◌+◌, ◌*◌, ◌<◌, ◌≤◌, List, length, Bool, true, false, cond, ◌&&◌, refl, sym, ap, subst, inl, inr, arith}
use Rattle.std.specs.Prelude.{Some, None}
use Rattle.std.specs.List.{list_all}
use Rattle.std.proofs.lemmas.Bool.{cases_lt, cases_Bool, and_parts, and_from}
use Rattle.std.proofs.lemmas.List.{length-map, ext_get_or}
use Rattle.namespace_id.specs.declared.cells.Axis.{Axis}
use Rattle.namespace_id.specs.declared.cells.Axis.TheVariants.{Row, Col}
use Rattle.namespace_id.specs.declared.shares.Share.{Share}
use Rattle.namespace_id.specs.Digests.{no_digest}
use Rattle.nmt_tree.specs.Roots.{halvings, root, strict_root}
use Rattle.data_header.specs.Headers.{Roots, AreRoots, root_of}
use Rattle.namespace_id.specs.Lists.{ascending}
use Rattle.namespace_id.proofs.AscendingLemmas.{length-ascending}
use Rattle.square_layout.specs.Blocks.{SquareShares, IsSquare}
use Rattle.axis_roots.specs.Lines.{line_root, line_strict_root}
use Rattle.axis_roots.specs.Grids.{axis_names, axis_shares, axis_root, axis_roots, is_ordered_axis, are_ordered_axes, header_of_grid, Extends, IsHeaderOf, grid_roots}
use Rattle.axis_roots.proofs.Grids.AxisLemmas.{get_or-mapped}
use Rattle.axis_roots.proofs.Grids.ExtensionLemmas.{extension_once}

-- ---- a test of each of some numbers

-- what the test of all says of one
pub all-at : (p : ℕ → Bool) (n first : ℕ) → list_all p (ascending first n) ≡ true → (i : ℕ) → first ≤ i → i < first + n → p i ≡ true
unfolding ascending
all-at p zero first all i low high = absurd (omega arith)
all-at p (suc n) first all i low high =
    let both = and_parts (p first) (list_all p (ascending (suc first) n)) all in
    elim (cases_lt first i) [
      | inl later ↦ all-at p n (suc first) both.1 i (omega arith) (omega arith)
      | inr here ↦ let e : first ≡ i = omega arith in ap p (sym e) ∙ both.0
    ]

-- all pass where each one does
pub all-each : (p : ℕ → Bool) (n first : ℕ) → ((i : ℕ) → first ≤ i → i < first + n → p i ≡ true) → list_all p (ascending first n) ≡ true
unfolding ascending
all-each p zero first each = refl
all-each p (suc n) first each =
    and_from (p first) (list_all p (ascending (suc first) n)) (each first (omega arith) (omega arith))
    (all-each p n (suc first) (λ i low high. each i (omega arith) (omega arith)))

-- where not all pass, one fails
one_fails : (p : ℕ → Bool) (n first : ℕ) → list_all p (ascending first n) ≡ false → (i : ℕ) × (i < first + n) × (p i ≡ false)
unfolding ascending
one_fails p zero first fails = absurd cc
one_fails p (suc n) first fails = elim (cases_Bool (p first)) [
  | inl t ↦
      let rest = one_fails p n (suc first) (ap (λ (b : Bool). b && list_all p (ascending (suc first) n)) (sym t) ∙ fails) in
      let within : rest.0 < suc first + n = rest.1 in
      (rest.0, omega arith, rest.2)
  | inr f ↦ (first, omega arith, f)
]

-- ---- the order of all axes

-- where all axes are ordered, each one is
pub ordered_axis : (k : ℕ) (shares : List Share) → are_ordered_axes k shares ≡ true → (axis : Axis) (index : ℕ) → index < 2 * k → is_ordered_axis k shares axis index ≡ true
unfolding are_ordered_axes
ordered_axis k shares all Row index h =
    let both = and_parts (list_all (is_ordered_axis k shares Row) (ascending 0 (2 * k))) (list_all (is_ordered_axis k shares Col) (ascending 0 (2 * k))) all in
    all-at (is_ordered_axis k shares Row) (2 * k) 0 both.0 index (omega arith) (omega arith)
ordered_axis k shares all Col index h =
    let both = and_parts (list_all (is_ordered_axis k shares Row) (ascending 0 (2 * k))) (list_all (is_ordered_axis k shares Col) (ascending 0 (2 * k))) all in
    all-at (is_ordered_axis k shares Col) (2 * k) 0 both.1 index (omega arith) (omega arith)

-- and the other way round
pub ordered_axes : (k : ℕ) (shares : List Share) → ((axis : Axis) (index : ℕ) → index < 2 * k → is_ordered_axis k shares axis index ≡ true) → are_ordered_axes k shares ≡ true
unfolding are_ordered_axes
ordered_axes k shares each =
    and_from (list_all (is_ordered_axis k shares Row) (ascending 0 (2 * k))) (list_all (is_ordered_axis k shares Col) (ascending 0 (2 * k)))
    (all-each (is_ordered_axis k shares Row) (2 * k) 0 (λ i low high. each Row i (omega arith)))
    (all-each (is_ordered_axis k shares Col) (2 * k) 0 (λ i low high. each Col i (omega arith)))

-- where not all are, one falls
falling_axis : (k : ℕ) (shares : List Share) → are_ordered_axes k shares ≡ false → (axis : Axis) × (index : ℕ) × (index < 2 * k) × (is_ordered_axis k shares axis index ≡ false)
unfolding are_ordered_axes
falling_axis k shares fails = elim (cases_Bool (list_all (is_ordered_axis k shares Row) (ascending 0 (2 * k)))) [
  | inl t ↦
      let one = one_fails (is_ordered_axis k shares Col) (2 * k) 0
      (ap (λ (b : Bool). b && list_all (is_ordered_axis k shares Col) (ascending 0 (2 * k))) (sym t) ∙ fails) in
      let within : one.0 < 0 + 2 * k = one.1 in
      (Col, one.0, omega arith, one.2)
  | inr f ↦
      let one = one_fails (is_ordered_axis k shares Row) (2 * k) 0 f in
      let within : one.0 < 0 + 2 * k = one.1 in
      (Row, one.0, omega arith, one.2)
]

-- ---- headers

-- what stands in an answer that is there
pub some_if : {A : Type 0} (b : Bool) (made found : A) → cond b (Some made) None ≡ Some found → (b ≡ true) × (found ≡ made)
some_if true made found e = (refl, cc)
some_if false made found e = absurd cc

-- an answer that is not there
pub none_if : {A : Type 0} (b : Bool) (made : A) → cond b (Some made) None ≡ None → b ≡ false
none_if true made e = absurd cc
none_if false made e = refl

-- a grid of width k has 2k roots along an axis
length-axis_roots : (k : ℕ) (shares : List Share) (axis : Axis) → length (axis_roots k shares axis) ≡ 2 * k
length-axis_roots k shares axis = length-map (ascending 0 (2 * k)) (axis_root k shares axis) ∙ length-ascending (2 * k) 0

-- the root of one axis among all of them
get_or-roots : (k : ℕ) (shares : List Share) (axis : Axis) (index : ℕ) → index < 2 * k → root_of (grid_roots k shares) axis index ≡ axis_root k shares axis index
get_or-roots k shares Row index h = get_or-mapped (axis_root k shares Row) (2 * k) index no_digest h
get_or-roots k shares Col index h = get_or-mapped (axis_root k shares Col) (2 * k) index no_digest h

-- the header has the grid's width
pub header_width : (k : ℕ) (shares : List Share) (header : Roots) → header_of_grid k shares ≡ Some header → header.k ≡ k
header_width k shares header e = ap (λ (roots : Roots). roots.k) (some_if (are_ordered_axes k shares) (grid_roots k shares) header e).1

-- its root of each axis is the root of the leaves along it
pub header_root : (k : ℕ) (shares : List Share) (header : Roots) → header_of_grid k shares ≡ Some header → (axis : Axis) (index : ℕ) → index < 2 * k
    → root_of header axis index ≡ axis_root k shares axis index
header_root k shares header e axis index h =
    ap (λ (roots : Roots). root_of roots axis index) (some_if (are_ordered_axes k shares) (grid_roots k shares) header e).1 ∙ get_or-roots k shares axis index h

-- and its strict root
pub header_strict : (k : ℕ) (shares : List Share) (header : Roots) → header_of_grid k shares ≡ Some header → (axis : Axis) (index : ℕ) → index < 2 * k
    → line_strict_root k axis index (axis_shares k shares axis index) ≡ Some (root_of header axis index)
unfolding strict_root line_root
header_strict k shares header e axis index h =
    let ordered = ordered_axis k shares (some_if (are_ordered_axes k shares) (grid_roots k shares) header e).0 axis index h in
    ap (λ (b : Bool). cond b (Some (root (halvings (2 * k)) (axis_names k shares axis index) (axis_shares k shares axis index))) None) ordered
    ∙ ap Some (sym (header_root k shares header e axis index h))

-- a grid has none only where the namespaces of an axis fall
pub header_falls : (k : ℕ) (shares : List Share) → header_of_grid k shares ≡ None
    → (axis : Axis) × (index : ℕ) × (index < 2 * k) × (is_ordered_axis k shares axis index ≡ false)
header_falls k shares e = falling_axis k shares (none_if (are_ordered_axes k shares) (grid_roots k shares) e)

-- a square has at most one header
pub header_once : (square : SquareShares) (header other : Roots) → IsHeaderOf header square → IsHeaderOf other square → header ≡ other
header_once square header other h o =
    let same : h.grid ≡ o.grid = extension_once square.k square.shares h.grid o.grid h.whole.width h.extends o.extends in
    let both : Some header ≡ Some other = sym h.roots ∙ ap (header_of_grid square.k) same ∙ o.roots in cc

-- it has a width and its count of roots
pub header_roots : (square : SquareShares) (header : Roots) → IsHeaderOf header square → AreRoots header
header_roots square header h =
    let roots : AreRoots (grid_roots square.k h.grid) = record {
      width = h.whole.width;
      rows = length-axis_roots square.k h.grid Row;
      cols = length-axis_roots square.k h.grid Col;
    } in
    let made : header ≡ grid_roots square.k h.grid = (some_if (are_ordered_axes square.k h.grid) (grid_roots square.k h.grid) header h.roots).1 in
    subst AreRoots (sym made) roots

-- it is the header of any extension of the square
pub header_made : (square : SquareShares) (grid : List Share) (header : Roots) → IsSquare square → Extends square.k square.shares grid
    → header_of_grid square.k grid ≡ Some header → IsHeaderOf header square
header_made square grid header is extended made = record { whole = is; grid = grid; extends = extended; roots = made }

-- a square whose extension has none has no header
pub header_not_made : (square : SquareShares) (grid : List Share) (header : Roots) → Extends square.k square.shares grid
    → header_of_grid square.k grid ≡ None → IsHeaderOf header square → ⊥
header_not_made square grid header extended none h =
    let same : h.grid ≡ grid = extension_once square.k square.shares h.grid grid h.whole.width h.extends extended in
    let both : Some header ≡ None = sym h.roots ∙ ap (header_of_grid square.k) same ∙ none in absurd cc

-- a header whose roots are the strict roots of all rows and columns of a grid is the grid's
pub header_by_strict : (k : ℕ) (shares : List Share) (header : Roots) → AreRoots header → header.k ≡ k
    → ((axis : Axis) (index : ℕ) → index < 2 * k → line_strict_root k axis index (axis_shares k shares axis index) ≡ Some (root_of header axis index))
    → header_of_grid k shares ≡ Some header
unfolding strict_root line_root
header_by_strict k shares header are width strict =
    let each : (axis : Axis) (index : ℕ) → index < 2 * k → (is_ordered_axis k shares axis index ≡ true) × (root_of header axis index ≡ axis_root k shares axis index)
    = λ axis index h. some_if (is_ordered_axis k shares axis index) (axis_root k shares axis index) (root_of header axis index) (strict axis index h) in
    let ordered : are_ordered_axes k shares ≡ true = ordered_axes k shares (λ axis index h. (each axis index h).0) in
    let wide : 2 * header.k ≡ 2 * k = ap (λ (n : ℕ). 2 * n) width in
    let rows : header.rows ≡ axis_roots k shares Row =
    ext_get_or no_digest header.rows (axis_roots k shares Row) (are.rows ∙ wide ∙ sym (length-axis_roots k shares Row))
    (λ i h. let below : i < 2 * k = omega (arith, are.rows, wide, length-axis_roots k shares Row) in (each Row i below).1 ∙ sym (get_or-roots k shares Row i below)) in
    let cols : header.cols ≡ axis_roots k shares Col =
    ext_get_or no_digest header.cols (axis_roots k shares Col) (are.cols ∙ wide ∙ sym (length-axis_roots k shares Col))
    (λ i h. let below : i < 2 * k = omega (arith, are.cols, wide, length-axis_roots k shares Col) in (each Col i below).1 ∙ sym (get_or-roots k shares Col i below)) in
    let same : header ≡ grid_roots k shares = λ i. record { k = width i; rows = rows i; cols = cols i } in
    ap (λ (b : Bool). cond b (Some (grid_roots k shares)) None) ordered ∙ ap Some (sym same)
