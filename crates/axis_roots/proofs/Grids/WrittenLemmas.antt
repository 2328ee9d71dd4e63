-- Shares that are put into the cells of an axis, one after another.
use Rattle.std.proofs.Common.{◌≡◌, ◌≢◌, ◌∙◌, ℕ, ◌+◌, ◌*◌, ◌<◌, List, length, get_or, sym, ap, subst, arith, below_more, IsTrue}
use Rattle.std.proofs.lemmas.List.{get_or_default}
use Rattle.namespace_id.specs.declared.cells.Cell.{Cell}
use Rattle.namespace_id.specs.declared.cells.Axis.{Axis}
use Rattle.namespace_id.specs.declared.cells.Axis.TheVariants.{Row, Col}
use Rattle.namespace_id.specs.declared.shares.Share.{Share}
use Rattle.namespace_id.specs.Cells.{is_in_square}
use Rattle.axis_roots.specs.Messages.{position, index}
use Rattle.axis_roots.specs.Lines.{blank, cell_on}
use Rattle.axis_roots.specs.Grids.{share_at}
use Rattle.axis_roots.proofs.Grids.NumberLemmas.{in_square}
use Rattle.axis_roots.proofs.Grids.AxisLemmas.{index-cell_on, position-cell_on}

-- the cells of an axis are in the square
pub on_axis_in_square : (k : ℕ) (axis : Axis) (i pos : ℕ) → i < 2 * k → pos < 2 * k → IsTrue (is_in_square k (cell_on axis i pos))
on_axis_in_square k Row i pos hi hp = in_square k (cell_on Row i pos) hi hp
on_axis_in_square k Col i pos hi hp = in_square k (cell_on Col i pos) hp hi

-- the cells of another axis aren't that of this place, and neither is that of another place
pub other_axis : (axis : Axis) (i pos : ℕ) (cell other : Cell) → cell ≡ cell_on axis i pos → index axis other ≢ i → other ≢ cell
other_axis axis i pos cell other on apart same = apart (ap (index axis) (same ∙ on) ∙ index-cell_on axis i pos)

-- a cell before a place of an axis is not the one there
pub other_place : (axis : Axis) (i pos place : ℕ) (cell : Cell) → cell ≡ cell_on axis i pos → place < pos → cell_on axis i place ≢ cell
other_place axis i pos place cell on before same =
    let e : place ≡ pos = sym (position-cell_on axis i place) ∙ ap (position axis) (same ∙ on) ∙ position-cell_on axis i pos in absurd (omega arith)

-- the shares along an axis, after one more was put into its cell
pub written_next : (k m : ℕ) (now new line : List Share) (axis : Axis) (i pos : ℕ) (cell : Cell) (d : Share)
    → m ≡ k → cell ≡ cell_on axis i pos → i < 2 * k → pos < 2 * k → length line ≡ 2 * k
    → share_at (2 * m) new cell ≡ get_or line pos d
    → ((other : Cell) → IsTrue (is_in_square m other) → other ≢ cell → share_at (2 * m) new other ≡ share_at (2 * m) now other)
    → ((place : ℕ) → place < pos → share_at (2 * k) now (cell_on axis i place) ≡ get_or line place blank)
    → (place : ℕ) → place < pos + 1 → share_at (2 * k) new (cell_on axis i place) ≡ get_or line place blank
written_next k m now new line axis i pos cell d same on hi hp long here others before =
    below_more _ _
    (λ place h.
    let as_it_was : share_at (2 * k) new (cell_on axis i place) ≡ share_at (2 * k) now (cell_on axis i place) =
    subst (λ (n : ℕ). share_at (2 * n) new (cell_on axis i place) ≡ share_at (2 * n) now (cell_on axis i place)) same
    (others (cell_on axis i place) (subst (λ (n : ℕ). IsTrue (is_in_square n (cell_on axis i place))) (sym same) (on_axis_in_square k axis i place hi (omega arith)))
    (other_place axis i pos place cell on h)) in
    as_it_was ∙ before place h)
    (ap (share_at (2 * k) new) (sym on) ∙ subst (λ (n : ℕ). share_at (2 * n) new cell ≡ get_or line pos d) same here ∙ get_or_default line pos d blank (omega arith))

-- the cells of another axis are as they were
pub others_next : (k m : ℕ) (old now new : List Share) (axis : Axis) (i pos : ℕ) (cell : Cell)
    → m ≡ k → cell ≡ cell_on axis i pos
    → ((other : Cell) → IsTrue (is_in_square m other) → other ≢ cell → share_at (2 * m) new other ≡ share_at (2 * m) now other)
    → ((other : Cell) → IsTrue (is_in_square k other) → index axis other ≢ i → share_at (2 * k) now other ≡ share_at (2 * k) old other)
    → (other : Cell) → IsTrue (is_in_square k other) → index axis other ≢ i → share_at (2 * k) new other ≡ share_at (2 * k) old other
others_next k m old now new axis i pos cell same on others before other inside apart =
    subst (λ (n : ℕ). share_at (2 * n) new other ≡ share_at (2 * n) now other) same
    (others other (subst (λ (n : ℕ). IsTrue (is_in_square n other)) (sym same) inside) (other_axis axis i pos cell other on apart))
    ∙ before other inside apart
