-- The shares of the original cells, row by row.
use Rattle.std.proofs.Common.{◌≡◌, ◌≢◌, ◌∙◌, ℕ, ◌+◌, ◌*◌, ◌<◌, ◌≤◌, List, [], ◌∷◌, ◌++◌, length, get_or, take, set, true, sym, ap, subst, inl, inr, arith}
use Rattle.std.proofs.lemmas.Bool.{cases_eq}
use Rattle.std.proofs.lemmas.List.{get_or_append_left, get_or-append-add, get_or-set_other, get_or_default, take_more_set, length-set, length-append}
use Rattle.namespace_id.specs.declared.cells.Cell.{Cell}
use Rattle.namespace_id.specs.declared.shares.Share.{Share}
use Rattle.namespace_id.specs.Cells.{is_original}
use Rattle.axis_roots.specs.Lines.{blank}
use Rattle.axis_roots.specs.Grids.{share_at}
use Rattle.axis_roots.proofs.Grids.NumberLemmas.{number-lt}
use Rattle.axis_roots.proofs.Grids.LaidLemmas.{original-inside}
use Rattle.repair_queue.specs.Boards.{Shared}
use Rattle.namespace_id.proofs.BelowLemmas.{same_cell}

-- these are the shares of the cells with lower numbers
pub record AreSharesBelow (k n : ℕ) (of_cell : Shared) (shares : List Share) : Type 0 where
  pub count : length shares ≡ n
  pub are : (cell : Cell) → is_original k cell ≡ true → cell.row * k + cell.col < n → share_at k shares cell ≡ of_cell cell

-- one cell more
pub shares_more : (k n : ℕ) (of_cell : Shared) (shares : List Share) (cell : Cell) (share : Share) → cell.col < k → cell.row * k + cell.col ≡ n
    → share ≡ of_cell cell → AreSharesBelow k n of_cell shares → AreSharesBelow k (n + 1) of_cell (shares ++ share ∷ [])
shares_more k n of_cell shares cell share within number here below = record {
  count = length-append shares (share ∷ []) ∙ omega (arith, below.count);
  are = λ d there h. elim (cases_eq (d.row * k + d.col) n) [
    | inl e ↦
        let same : cell ≡ d = same_cell k cell d within (original-inside k d there).1 (number ∙ sym e) in
        let place : length shares + 0 ≡ d.row * k + d.col = omega (arith, below.count, e) in
        ap (λ (i : ℕ). get_or (shares ++ share ∷ []) i blank) (sym place) ∙ get_or-append-add shares (share ∷ []) 0 blank ∙ here ∙ ap of_cell same
    | inr apart ↦
        get_or_append_left shares (share ∷ []) blank (d.row * k + d.col) (omega (arith, below.count)) ∙ below.are d there (omega arith)
  ];
}

-- the first n of these were moved to the front of those of all cells, and those of later places are as they were
pub record AreMoved (k n : ℕ) (all shares : List Share) : Type 0 where
  pub front : AreSharesBelow k n (share_at (2 * k) all) (take n shares)
  pub rest : (j : ℕ) → n ≤ j → get_or shares j blank ≡ get_or all j blank
  pub size : length shares ≡ 2 * k * (2 * k)

-- one more, which stood no nearer to the front
pub one_moved : (k n from : ℕ) (all shares : List Share) (cell : Cell) (share : Share) → cell.col < k → cell.row * k + cell.col ≡ n
    → from ≡ cell.row * (2 * k) + cell.col → from < length shares → share ≡ get_or shares from share → AreMoved k n all shares
    → AreMoved k (n + 1) all (set shares n share)
one_moved k n from all shares cell share within number place below read moved =
    let later : n ≤ from = omega arith in
    let here : share ≡ share_at (2 * k) all cell =
    read ∙ get_or_default shares from share blank below ∙ moved.rest from later ∙ ap (λ (i : ℕ). get_or all i blank) place in record {
      front = subst (AreSharesBelow k (n + 1) (share_at (2 * k) all)) (sym (take_more_set shares n share (omega arith)))
          (shares_more k n (share_at (2 * k) all) (take n shares) cell share within number here moved.front);
      rest = λ j h. let apart : j ≢ n = omega arith in get_or-set_other shares n j share blank apart ∙ moved.rest j (omega arith);
      size = length-set shares n share ∙ moved.size;
    }

-- at the end these are of all original cells
pub all_shares : (k n : ℕ) (of_cell : Shared) (shares : List Share) → n ≡ k * k → AreSharesBelow k n of_cell shares → (cell : Cell)
    → is_original k cell ≡ true → share_at k shares cell ≡ of_cell cell
all_shares k n of_cell shares end below cell within =
    let both = original-inside k cell within in below.are cell within (omega (arith, end, number-lt k cell both.0 both.1))
