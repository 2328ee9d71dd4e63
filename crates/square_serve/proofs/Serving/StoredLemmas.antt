-- What is read from the stored trees and the shares of a grid.
use Rattle.std.proofs.Common.{◌≡◌, ◌∙◌, ℕ, ◌+◌, ◌-◌, ◌*◌, ◌<◌, ◌≤◌, List, length, take, drop, get_or, IsTrue, true, Some, refl, sym, ap, subst₂, arith, length-drop}
use Rattle.std.proofs.lemmas.List.{get_or-take, get_or-drop, ext_get_or, length-take-le}
use Rattle.namespace_id.specs.declared.cells.Cell.{Cell}
use Rattle.namespace_id.specs.declared.cells.Axis.{Axis}
use Rattle.namespace_id.specs.declared.cells.Axis.TheVariants.{Row}
use Rattle.namespace_id.specs.declared.shares.Share.{Share}
use Rattle.namespace_id.specs.declared.digests.Digest.{Digest}
use Rattle.namespace_id.specs.Cells.{is_in_square}
use Rattle.data_header.specs.Headers.{Roots}
use Rattle.axis_roots.specs.declared.message.messages.Message.{Message}
use Rattle.axis_roots.specs.Messages.{index, root_for}
use Rattle.axis_roots.specs.Openings.{OpensAt, IsProved}
use Rattle.axis_roots.specs.Lines.{blank}
use Rattle.axis_roots.specs.Grids.{share_at, axis_shares, axis_root, is_ordered_axis, are_ordered_axes, header_of_grid}
use Rattle.axis_roots.specs.Trees.{message_at}
use Rattle.axis_roots.proofs.Grids.AxisLemmas.{length-along}
use Rattle.axis_roots.proofs.Grids.NumberLemmas.{index-lt, number-lt}
use Rattle.axis_roots.proofs.Grids.HeaderLemmas.{some_if, ordered_axis, header_width, header_root}
use Rattle.axis_roots.proofs.Messages.MessageLemmas.{message_opens}
use Rattle.square_serve.specs.Serving.{HeldParts, IsHeld}
use Rattle.square_serve.proofs.RowLemmas.{axis_shares-at}

-- ---- samples

-- the sample of a cell is proved under the header of its grid where it opens under the root of its axis
pub message_proved : (k : ℕ) (shares : List Share) (header : Roots) (cell : Cell) (axis : Axis) (m : Message) → header_of_grid k shares ≡ Some header
    → IsTrue (is_in_square k cell) → m ≡ message_at k shares cell axis → OpensAt k m (axis_root k shares axis (index axis cell)) → IsProved header m
message_proved k shares header cell axis m made inside e opens =
    let root : root_for header m ≡ axis_root k shares axis (index axis cell) =
    ap (root_for header) e ∙ header_root k shares header made axis (index axis cell) (index-lt k axis cell inside) in
    subst₂ (λ (n : ℕ) (root : Digest). OpensAt n m root) (sym (header_width k shares header made)) (sym root) opens

-- so is that of each cell of a held square
pub sample_proved : (held : HeldParts) (cell : Cell) (axis : Axis) → IsHeld held → is_in_square held.k cell ≡ true → IsProved held.header (message_at held.k held.grid cell axis)
sample_proved held cell axis is inside =
    let ordered : is_ordered_axis held.k held.grid axis (index axis cell) ≡ true =
    ordered_axis held.k held.grid (some_if (are_ordered_axes held.k held.grid) _ held.header is.roots).0 axis (index axis cell) (index-lt held.k axis cell inside) in
    message_proved held.k held.grid held.header cell axis (message_at held.k held.grid cell axis) is.roots inside refl
    (message_opens held.k held.grid cell axis is.grid is.shares inside ordered)

-- ---- shares

-- neighboring shares of a row are neighbors in a row-major list
pub row_part : (k : ℕ) (shares : List Share) (row start count : ℕ) → length shares ≡ 2 * k * (2 * k) → row < k → start + count ≤ k
    → take count (drop (row * (2 * k) + start) shares) ≡ take count (drop start (axis_shares k shares Row row))
row_part k shares row start count size h within =
    let n : ℕ = 2 * k in
    let last : row * n + n ≤ n * n = omega (arith, h, number-lt n (record { row = row; col = n - 1 }) (omega (arith, h)) (omega (arith, h))) in
    let long : length (axis_shares k shares Row row) ≡ n = length-along k (share_at n shares) Row row in
    let left : length (take count (drop (row * n + start) shares)) ≡ count = length-take-le count (drop (row * n + start) shares) (omega (arith, length-drop (row * n + start) shares, size, last, within)) in
    let right : length (take count (drop start (axis_shares k shares Row row))) ≡ count =
    length-take-le count (drop start (axis_shares k shares Row row)) (omega (arith, length-drop start (axis_shares k shares Row row), long, within)) in
    ext_get_or blank (take count (drop (row * n + start) shares)) (take count (drop start (axis_shares k shares Row row))) (left ∙ sym right) (λ i lt.
    let below : i < count = omega (arith, lt, left) in
    let place : row * n + start + i ≡ row * n + (start + i) = omega arith in
    get_or-take count (drop (row * n + start) shares) i blank below ∙ get_or-drop (row * n + start) shares i blank
    ∙ ap (λ (j : ℕ). get_or shares j blank) place
    ∙ sym (get_or-take count (drop start (axis_shares k shares Row row)) i blank below ∙ get_or-drop start (axis_shares k shares Row row) i blank
    ∙ axis_shares-at k shares row (start + i) (omega (arith, below, within))))
