-- Digests of leaves and shares that are written along a row or a column.
use Rattle.std.proofs.Common.{◌≡◌, ◌≢◌, ◌∙◌, ℕ, ◌+◌, ◌*◌, ◌<◌, ◌≤◌, List, length, get_or, set, sym, ap, subst, arith, below_more, IsTrue}
use Rattle.std.proofs.lemmas.List.{get_or-set_same, get_or-set_other, get_or_default}
use Rattle.namespace_id.specs.declared.cells.Cell.{Cell}
use Rattle.namespace_id.specs.declared.cells.Axis.{Axis}
use Rattle.namespace_id.specs.declared.digests.Digest.{Digest}
use Rattle.namespace_id.specs.declared.shares.Share.{Share}
use Rattle.namespace_id.specs.Cells.{is_in_square}
use Rattle.namespace_id.specs.Digests.{no_digest}
use Rattle.namespace_id.proofs.BelowLemmas.{same_cell}
use Rattle.axis_roots.specs.Messages.{index, position}
use Rattle.axis_roots.specs.Lines.{cell_on}
use Rattle.axis_roots.specs.Grids.{share_at}
use Rattle.axis_roots.proofs.Grids.AxisLemmas.{index-cell_on, position-cell_on}
use Rattle.axis_roots.proofs.Grids.NumberLemmas.{inside, number-lt}
use Rattle.axis_roots.proofs.Grids.WrittenLemmas.{on_axis_in_square}
use Rattle.repair_queue.specs.Keeping.{AreWrittenLeaves}

-- the number of a cell
abbrev number_of : ℕ → Cell → ℕ
number_of k cell = cell.row * (2 * k) + cell.col

-- one more
pub one_written : (k : ℕ) (old new : List Digest) (axis : Axis) (i : ℕ) (digests : List Digest) (pos at : ℕ) (cell : Cell) (d : Digest) → i < 2 * k → pos < 2 * k
    → length new ≡ 2 * k * (2 * k) → length digests ≡ 2 * k → cell ≡ cell_on axis i pos → at ≡ number_of k cell
    → AreWrittenLeaves k old new axis i digests pos → AreWrittenLeaves k old (set new at (get_or digests pos d)) axis i digests (pos + 1)
one_written k old new axis i digests pos at cell d hi hp long count is number so =
    let place : at ≡ number_of k (cell_on axis i pos) = number ∙ ap (number_of k) is in
    let there = inside k (cell_on axis i pos) (on_axis_in_square k axis i pos hi hp) in
    let below : at < length new = omega (arith, long, place, number-lt (2 * k) (cell_on axis i pos) there.0 there.1) in
    record {
      here = below_more (λ p. get_or (set new at (get_or digests pos d)) (number_of k (cell_on axis i p)) no_digest ≡ get_or digests p no_digest) pos
          (λ p before.
          let off : number_of k (cell_on axis i p) ≢ at =
          λ e.
          let same : p ≡ pos =
          sym (position-cell_on axis i p)
          ∙ ap (position axis) (same_cell (2 * k) (cell_on axis i p) (cell_on axis i pos) (inside k _ (on_axis_in_square k axis i p hi (omega arith))).1 (inside k _ (on_axis_in_square k axis i pos hi hp)).1 (e ∙ place))
          ∙ position-cell_on axis i pos in absurd (omega (arith, same, before)) in
          get_or-set_other new at (number_of k (cell_on axis i p)) (get_or digests pos d) no_digest off ∙ so.here p before)
          (ap (λ (n : ℕ). get_or (set new at (get_or digests pos d)) n no_digest) (sym place)
          ∙ get_or-set_same new at (get_or digests pos d) no_digest below
          ∙ get_or_default digests pos d no_digest (omega (arith, count)));
      elsewhere = λ other within apart.
          let off : number_of k other ≢ at =
          λ e. apart (ap (index axis) (same_cell (2 * k) other (cell_on axis i pos) (inside k other within).1 (inside k _ (on_axis_in_square k axis i pos hi hp)).1 (e ∙ place)) ∙ index-cell_on axis i pos) in
          get_or-set_other new at (number_of k other) (get_or digests pos d) no_digest off ∙ so.elsewhere other within apart;
    }

-- ---- shares

-- the shares of an axis behind a place, after one was put into the cell there
pub later_next : (k m : ℕ) (old now new : List Share) (axis : Axis) (i pos : ℕ) (cell : Cell)
    → m ≡ k → cell ≡ cell_on axis i pos → i < 2 * k
    → ((other : Cell) → IsTrue (is_in_square m other) → other ≢ cell → share_at (2 * m) new other ≡ share_at (2 * m) now other)
    → ((place : ℕ) → pos ≤ place → place < 2 * k → share_at (2 * k) now (cell_on axis i place) ≡ share_at (2 * k) old (cell_on axis i place))
    → (place : ℕ) → pos + 1 ≤ place → place < 2 * k → share_at (2 * k) new (cell_on axis i place) ≡ share_at (2 * k) old (cell_on axis i place)
later_next k m old now new axis i pos cell same on hi others before place behind hp =
    let here : Cell = cell_on axis i place in
    subst (λ (n : ℕ). share_at (2 * n) new here ≡ share_at (2 * n) now here) same
    (others here (subst (λ (n : ℕ). IsTrue (is_in_square n here)) (sym same) (on_axis_in_square k axis i place hi hp))
    (λ is. let e : place ≡ pos = sym (position-cell_on axis i place) ∙ ap (position axis) (is ∙ on) ∙ position-cell_on axis i pos in absurd (omega (arith, e, behind))))
    ∙ before place (omega arith) hp
