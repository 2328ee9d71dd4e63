-- A grid whose last share was spoiled has a header where the grid has one.
use Rattle.std.proofs.Common.{◌≡◌, ◌≢◌, ◌∙◌, ℕ, ◌-◌, ◌*◌, ◌<◌, List, Bool, true, false, cond, is_some, IsSome, Some, None, refl, sym, ap, inl, inr, arith}
use Rattle.std.proofs.lemmas.Bool.{cases_Bool}
use Rattle.std.proofs.lemmas.Bool.Decides.{nat_tests}
use Rattle.namespace_id.specs.declared.cells.Cell.{Cell}
use Rattle.namespace_id.specs.declared.cells.Axis.{Axis}
use Rattle.namespace_id.specs.declared.cells.Axis.TheVariants.{Row, Col}
use Rattle.namespace_id.specs.declared.namespaces.Namespace.{Namespace}
use Rattle.namespace_id.specs.declared.shares.Share.{Share}
use Rattle.namespace_id.specs.Names.{parity}
use Rattle.namespace_id.specs.Shares.{name_in}
use Rattle.namespace_id.specs.Cells.{is_in_square, is_original, leaf_namespace}
use Rattle.data_header.specs.Headers.{Roots}
use Rattle.nmt_tree.specs.Roots.{is_ordered}
use Rattle.axis_roots.specs.Lines.{cell_on}
use Rattle.axis_roots.specs.Grids.{share_at, axis_names, axis_roots, are_ordered_axes, header_of_grid}
use Rattle.axis_roots.proofs.Grids.AxisLemmas.{same_along}
use Rattle.axis_roots.proofs.Grids.LineLemmas.{axis_names-cells}
use Rattle.axis_roots.proofs.Grids.HeaderLemmas.{ordered_axis, ordered_axes}
use Rattle.axis_roots.proofs.Grids.WrittenLemmas.{on_axis_in_square}
use Rattle.da_demo.specs.Sessions.{last_cell, IsCheat}

-- a cell of the original square isn't the last one
original-lt : (k : ℕ) (cell : Cell) → is_original k cell ≡ true → cell.row < k
original-lt k cell h = grind (arith, nat_tests)

-- the namespace of the leaf over a cell
abbrev leaf_name : ℕ → List Share → Cell → Namespace
leaf_name k grid cell = leaf_namespace k cell (share_at (2 * k) grid cell)

-- it is the same in both grids
same_name : (k : ℕ) (grid other : List Share) (cell : Cell) → IsCheat k grid other → is_in_square k cell ≡ true
    → leaf_name k other cell ≡ leaf_name k grid cell
same_name k grid other cell cheat inside = elim (cases_Bool (is_original k cell)) [
  | inl original ↦
      let below : cell.row < k = original-lt k cell original in
      let apart : cell ≢ last_cell k
      = λ same. let row : cell.row ≡ 2 * k - 1 = ap (λ (c : Cell). c.row) same in absurd (omega arith) in
      ap (leaf_namespace k cell) (cheat.others cell inside apart)
  | inr outside ↦
      ap (λ (b : Bool). cond b (name_in (share_at (2 * k) other cell)) parity) outside
      ∙ sym (ap (λ (b : Bool). cond b (name_in (share_at (2 * k) grid cell)) parity) outside)
]

-- so are all namespaces along an axis
same_names : (k : ℕ) (grid other : List Share) (axis : Axis) (i : ℕ) → IsCheat k grid other → i < 2 * k
    → axis_names k other axis i ≡ axis_names k grid axis i
same_names k grid other axis i cheat h =
    axis_names-cells k other axis i
    ∙ same_along k (leaf_name k other) (leaf_name k grid) axis i parity
    (λ pos hp. same_name k grid other (cell_on axis i pos) cheat (on_axis_in_square k axis i pos h hp))
    ∙ sym (axis_names-cells k grid axis i)

-- where something is there, the test held
there : {A : Type 0} (b : Bool) (made : A) → IsSome (cond b (Some made) None) → b ≡ true
there true made h = refl
there false made h = h

-- there is a header where the other grid has one
pub cheat_header : (k : ℕ) (grid other : List Share) → IsCheat k grid other → IsSome (header_of_grid k grid)
    → IsSome (header_of_grid k other)
cheat_header k grid other cheat some =
    let ordered : are_ordered_axes k grid ≡ true
    = there (are_ordered_axes k grid) (record { k = k; rows = axis_roots k grid Row; cols = axis_roots k grid Col })
    some in
    let others : are_ordered_axes k other ≡ true
    = ordered_axes k other
    (λ axis i h. ap is_ordered (same_names k grid other axis i cheat h) ∙ ordered_axis k grid ordered axis i h) in
    let header : Roots = record { k = k; rows = axis_roots k other Row; cols = axis_roots k other Col } in
    ap (λ (b : Bool). is_some {T = Roots} (cond b (Some header) None)) others
