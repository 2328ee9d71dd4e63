-- Grids with the same shares.
use Rattle.std.proofs.Common.{◌≡◌, ◌∙◌, ◌⊎◌, ℕ, ◌*◌, ◌<◌, List, length, get_or, IsTrue, inl, inr, sym, ap, ap₂, subst, arith, ⊎_elim}
use Rattle.std.proofs.lemmas.Bool.{cases_eq}
use Rattle.std.proofs.lemmas.List.{ext_get_or}
use Rattle.std.proofs.Math.Nat.{div-add-mod'}
use Rattle.namespace_id.specs.declared.cells.Cell.{Cell}
use Rattle.namespace_id.specs.declared.shares.Share.{Share}
use Rattle.namespace_id.specs.Cells.{is_width, is_in_square, cell_numbered}
use Rattle.namespace_id.proofs.AllCellsLemmas.{numbered_inside}
use Rattle.namespace_id.proofs.WidthLemmas.{is_width-pos}
use Rattle.square_layout.specs.Blocks.{SquareShares}
use Rattle.axis_roots.specs.Grids.{IsGrid, share_at}
use Rattle.axis_roots.specs.Lines.{blank}

-- two grids of one width with the same share in each cell are one
same_grid : (k : ℕ) (xs ys : List Share) → 0 < k → length xs ≡ 2 * k * (2 * k) → length ys ≡ 2 * k * (2 * k)
    → ((cell : Cell) → IsTrue (is_in_square k cell) → share_at (2 * k) xs cell ≡ share_at (2 * k) ys cell) → xs ≡ ys
same_grid k xs ys some count other same =
    ext_get_or blank xs ys (count ∙ sym other) (λ i within.
    let at = div-add-mod' i (2 * k) in
    ap (λ (n : ℕ). get_or xs n blank) (sym at) ∙ same (cell_numbered (2 * k) i) (numbered_inside k i some (omega (arith, within, count)))
    ∙ ap (λ (n : ℕ). get_or ys n blank) at)

-- cells are one, or two
cell_or_other : (one other : Cell) → (one ≡ other) ⊎ (one ≡ other → ⊥)
cell_or_other one other =
    ⊎_elim
    (λ (row : one.row ≡ other.row).
    ⊎_elim (λ (col : one.col ≡ other.col). inl (ap₂ (λ (r c : ℕ). record { row = r; col = c }) row col))
    (λ (apart : one.col ≡ other.col → ⊥). inr (λ e. apart (ap (λ (cell : Cell). cell.col) e))) (cases_eq one.col other.col))
    (λ (apart : one.row ≡ other.row → ⊥). inr (λ e. apart (ap (λ (cell : Cell). cell.row) e))) (cases_eq one.row other.row)

-- so are those with one share in one cell, and in all others what stood there
set_once : (k : ℕ) (old xs ys : List Share) (cell : Cell) (share : Share) → 0 < k → length xs ≡ 2 * k * (2 * k) → length ys ≡ 2 * k * (2 * k)
    → share_at (2 * k) xs cell ≡ share → share_at (2 * k) ys cell ≡ share
    → ((at : Cell) → IsTrue (is_in_square k at) → (at ≡ cell → ⊥) → share_at (2 * k) xs at ≡ share_at (2 * k) old at)
    → ((at : Cell) → IsTrue (is_in_square k at) → (at ≡ cell → ⊥) → share_at (2 * k) ys at ≡ share_at (2 * k) old at) → xs ≡ ys
set_once k old xs ys cell share some count other here there left right =
    same_grid k xs ys some count other (λ at inside.
    ⊎_elim
    (λ (same : at ≡ cell). ap (share_at (2 * k) xs) same ∙ here ∙ sym there ∙ ap (share_at (2 * k) ys) (sym same))
    (λ (apart : at ≡ cell → ⊥). left at inside apart ∙ sym (right at inside apart)) (cell_or_other at cell))

-- a grid into which a share is put
abbrev IsSet : SquareShares → SquareShares → Cell → Share → Type 0
IsSet old new cell share =
    (share_at (2 * old.k) new.shares cell ≡ share)
    × ((at : Cell) → IsTrue (is_in_square old.k at) → (at ≡ cell → ⊥) → share_at (2 * old.k) new.shares at ≡ share_at (2 * old.k) old.shares at)

-- two grids into which one share is put are one
pub one_grid : (old other new new_other : SquareShares) (cell : Cell) (share : Share) → old ≡ other → IsGrid new → IsGrid new_other → new.k ≡ old.k → new_other.k ≡ other.k
    → share_at (2 * old.k) new.shares cell ≡ share → share_at (2 * other.k) new_other.shares cell ≡ share
    → ((at : Cell) → IsTrue (is_in_square old.k at) → (at ≡ cell → ⊥) → share_at (2 * old.k) new.shares at ≡ share_at (2 * old.k) old.shares at)
    → ((at : Cell) → IsTrue (is_in_square other.k at) → (at ≡ cell → ⊥) → share_at (2 * other.k) new_other.shares at ≡ share_at (2 * other.k) other.shares at)
    → new ≡ new_other
one_grid old other new new_other cell share same is also width other_width here there left right =
    let set : IsSet old new_other cell share = subst (λ (grid : SquareShares). IsSet grid new_other cell share) (sym same) (there, right) in
    let wide : new_other.k ≡ old.k = other_width ∙ ap (λ (grid : SquareShares). grid.k) (sym same) in
    let count : length new.shares ≡ 2 * old.k * (2 * old.k) = is.count ∙ ap (λ (k : ℕ). 2 * k * (2 * k)) width in
    let counted : length new_other.shares ≡ 2 * old.k * (2 * old.k) = also.count ∙ ap (λ (k : ℕ). 2 * k * (2 * k)) wide in
    let some : 0 < old.k = is_width-pos old.k (ap is_width (sym width) ∙ is.width) in
    let shares : new.shares ≡ new_other.shares = set_once old.k old.shares new.shares new_other.shares cell share some count counted here set.0 left set.1 in
    let widths : new.k ≡ new_other.k = width ∙ sym wide in
    λ i. record { k = widths i; shares = shares i }
