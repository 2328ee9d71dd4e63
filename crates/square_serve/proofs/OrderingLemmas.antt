-- The leaf namespaces along rows and columns, one after another.
use Rattle.std.proofs.Common.{◌≡◌, ◌∙◌, ℕ, ◌+◌, ◌-◌, ◌*◌, ◌<◌, ◌≤◌, List, length, drop, true, false, sym, ap, ap₂, arith}
use Rattle.namespace_id.specs.declared.cells.Cell.{Cell}
use Rattle.namespace_id.specs.declared.cells.Axis.{Axis}
use Rattle.namespace_id.specs.declared.namespaces.Namespace.{Namespace}
use Rattle.namespace_id.specs.declared.shares.Share.{Share}
use Rattle.namespace_id.specs.Names.{is_at_most, parity}
use Rattle.namespace_id.specs.Cells.{leaf_namespace}
use Rattle.namespace_id.proofs.AlongLemmas.{along_fails, along_on, along_end}
use Rattle.nmt_tree.specs.Roots.{is_ordered}
use Rattle.nmt_tree.specs.Spans.{name_at}
use Rattle.axis_roots.specs.Lines.{cell_on}
use Rattle.axis_roots.specs.Grids.{share_at, axis_names, axis_shares, is_ordered_axis}
use Rattle.axis_roots.proofs.Grids.LineLemmas.{length-line_names, get_or-axis_names}

module _ (k : ℕ) (grid : List Share) (axis : Axis) (index : ℕ) where
  -- they never fall from the one before a place on exactly where they never do; this is that one
  pub record IsOrderedFrom (pos : ℕ) (last : Namespace) : Type 0 where
    pub last_is : last ≡ name_at (axis_names k grid axis index) (pos - 1)
    pub rest : is_ordered (drop (pos - 1) (axis_names k grid axis index)) ≡ is_ordered_axis k grid axis index

  -- there are 2k of them
  length-names : length (axis_names k grid axis index) ≡ 2 * k
  length-names = length-line_names k axis index (axis_shares k grid axis index)

  -- the one of the leaf over a cell of the axis
  pub name_read : (pos : ℕ) (cell : Cell) (name : Namespace) → pos < 2 * k → cell ≡ cell_on axis index pos → name ≡ leaf_namespace k cell (share_at (2 * k) grid cell)
      → name ≡ name_at (axis_names k grid axis index) pos
  name_read pos cell name h on is =
      is ∙ ap (λ (c : Cell). leaf_namespace k c (share_at (2 * k) grid c)) on ∙ sym (get_or-axis_names k grid axis index pos parity h)

  -- at one that falls
  pub order_fails : (pos : ℕ) (last name : Namespace) → 1 ≤ pos → pos < 2 * k → name ≡ name_at (axis_names k grid axis index) pos
      → is_at_most last name ≡ false → IsOrderedFrom pos last → false ≡ is_ordered_axis k grid axis index
  order_fails pos last name low high is falls so_far =
      along_fails is_at_most (axis_names k grid axis index) pos parity low (omega (arith, high, length-names))
      (ap₂ is_at_most (sym so_far.last_is) (sym is) ∙ falls) so_far.rest

  -- at one that doesn't
  pub order_on : (pos : ℕ) (last name : Namespace) → 1 ≤ pos → pos < 2 * k → name ≡ name_at (axis_names k grid axis index) pos
      → is_at_most last name ≡ true → IsOrderedFrom pos last → IsOrderedFrom (pos + 1) name
  order_on pos last name low high is holds so_far = record {
    last_is = let place : pos ≡ pos + 1 - 1 = omega arith in is ∙ ap (name_at (axis_names k grid axis index)) place;
    rest = along_on is_at_most (axis_names k grid axis index) pos parity low (omega (arith, high, length-names))
        (ap₂ is_at_most (sym so_far.last_is) (sym is) ∙ holds) so_far.rest;
  }

  -- behind the last one
  pub order_end : (pos : ℕ) (last : Namespace) → 2 * k ≤ pos → IsOrderedFrom pos last → true ≡ is_ordered_axis k grid axis index
  order_end pos last h so_far = along_end is_at_most (axis_names k grid axis index) pos (omega (arith, h, length-names)) so_far.rest
