-- The row that a half is of: there is one, and its samples are those of each square that has it.
use Rattle.std.proofs.Common.{◌≡◌, ◌∙◌, ℕ, ◌*◌, ◌<◌, Bool, true, false, cond, Some, None, List, length, refl, sym, ap, arith}
use Rattle.namespace_id.specs.declared.cells.Axis.TheVariants.{Row}
use Rattle.namespace_id.specs.declared.shares.Share.{Share}
use Rattle.namespace_id.specs.Cells.{cell_in}
use Rattle.namespace_id.specs.Shares.{AreShares}
use Rattle.nmt_tree.specs.Trees.{StoredTree}
use Rattle.nmt_proofs.specs.Making.{leaf_nodes}
use Rattle.leopard_code.proofs.LawLemmas.{one_codeword, through_shares}
use Rattle.axis_roots.specs.Lines.{blank}
use Rattle.axis_roots.specs.Grids.{share_at, axis_shares, Extends}
use Rattle.axis_roots.specs.Trees.{axis_leaves, line_stored, message_at}
use Rattle.axis_roots.proofs.Grids.AxisLemmas.{get_or-along}
use Rattle.celestia_pb.specs.HalfRows.{HalfParts, IsHalf}
use Rattle.half_rows.specs.Rows.{width_of, positions_of_half, HasHalf, IsRowOf, is_ordered_row, sample_in}
use Rattle.half_rows.proofs.PlaceLemmas.{half_positions, length-places_of}

-- there is a row that has the half
pub row_is_there : (half : HalfParts) → IsHalf half → AreShares half.shares → (line : List Share) × IsRowOf half line
row_is_there half is are =
    let k : ℕ = width_of half in
    let found = through_shares k (positions_of_half k half.side) half.shares is.width (length-places_of k half.side) (half_positions k half.side) refl are in
    (found.0, record { codeword = found.1; half_of = found.2 })

-- and no other one
pub row_is_one : (half : HalfParts) (one other : List Share) → IsHalf half → IsRowOf half one → IsRowOf half other → one ≡ other
row_is_one half one other is first second =
    let k : ℕ = width_of half in
    one_codeword k (positions_of_half k half.side) one other is.width (length-places_of k half.side) (half_positions k half.side) first.codeword second.codeword
    (λ i h.
    let place : i < length (positions_of_half k half.side) = omega (arith, h, length-places_of k half.side) in
    first.half_of i place ∙ sym (second.half_of i place))

-- the sample of a row of an extension is that of its cell
same_sample : (k row col : ℕ) (grid line : List Share) → col < 2 * k → line ≡ axis_shares k grid Row row
    → sample_in (record { k = k; row = row; line = line }) col ≡ message_at k grid (cell_in row col) Row
same_sample k row col grid line within e =
    ap (λ (l : List Share). sample_in (record { k = k; row = row; line = l }) col) e
    ∙ ap (λ (s : Share). record { cell = cell_in row col; axis = Row; share = s; path = leaf_nodes (2 * k) (axis_leaves k grid Row row) col })
    (get_or-along k (share_at (2 * k) grid) Row row col blank within)

pub samples_are_of_square : (half : HalfParts) (square grid line : List Share) (row col : ℕ) → IsHalf half → Extends (width_of half) square grid
    → row < 2 * width_of half → col < 2 * width_of half → HasHalf half (axis_shares (width_of half) grid Row row) → IsRowOf half line
    → sample_in (record { k = width_of half; row = row; line = line }) col ≡ message_at (width_of half) grid (cell_in row col) Row
samples_are_of_square half square grid line row col is extends low within has row_of =
    same_sample (width_of half) row col grid line within
    (row_is_one half line (axis_shares (width_of half) grid Row row) is row_of (record { codeword = extends.codewords Row row low; half_of = has }))

-- ---- what the calls find

-- no tree was made
no_tree : (b : Bool) (t : StoredTree) → None ≡ cond b (Some t) None → b ≡ false
no_tree true t e = absurd cc
no_tree false t e = refl

-- so the namespaces of the row fall, which is one
pub row_falls : (half : HalfParts) (k row : ℕ) (line : List Share) → IsHalf half → k ≡ width_of half → IsRowOf half line
    → None ≡ cond (is_ordered_row k row line) (Some (line_stored k Row row line)) None
    → (other : List Share) → IsRowOf half other → is_ordered_row (width_of half) row other ≡ false
row_falls half k row line is width row_of none other of_other =
    ap (λ (l : List Share). is_ordered_row (width_of half) row l) (row_is_one half other line is of_other row_of)
    ∙ ap (λ (n : ℕ). is_ordered_row n row line) (sym width)
    ∙ no_tree (is_ordered_row k row line) (line_stored k Row row line) none
