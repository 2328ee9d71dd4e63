-- Where all cells are recoverable and the list is settled, the facts are a square whose header is this one.
use Rattle.std.proofs.Common.{◌≡◌, ℕ, ◌*◌, ◌<◌, List, length, true, refl, sym, subst, inl, inr}
use Rattle.std.specs.Prelude.{Some}
use Rattle.std.proofs.lemmas.Bool.{cases_Bool}
use Rattle.namespace_id.specs.declared.cells.Cell.{Cell}
use Rattle.namespace_id.specs.declared.cells.Axis.{Axis}
use Rattle.namespace_id.specs.declared.shares.Share.{Share}
use Rattle.namespace_id.specs.Cells.{is_in_square, is_original}
use Rattle.leopard_code.specs.Codewords.{IsCodeword}
use Rattle.data_header.specs.Headers.{Roots, AreRoots, root_of}
use Rattle.square_layout.specs.Blocks.{SquareShares, IsSquare}
use Rattle.axis_roots.specs.declared.message.messages.Message.{Message}
use Rattle.axis_roots.specs.Lines.{blank, cell_on, line_strict_root}
use Rattle.axis_roots.specs.Grids.{share_at, axis_shares, Extends}
use Rattle.axis_roots.proofs.Grids.NumberLemmas.{inside, listed, length-listed, get_or-listed}
use Rattle.axis_roots.proofs.Grids.AxisLemmas.{is_along}
use Rattle.axis_roots.proofs.Grids.HeaderLemmas.{header_by_strict}
use Rattle.axis_roots.proofs.Grids.WrittenLemmas.{on_axis_in_square}
use Rattle.axis_roots.proofs.Grids.LaidLemmas.{original-inside}
use Rattle.repair_queue.specs.Closures.{Half, Fact}
use Rattle.repair_queue.specs.Settled.{IsLineSettled, IsSettled}
use Rattle.repair_queue.specs.Verdicts.{IsWhole}
use Rattle.repair_queue.proofs.Facts.ClosureLemmas.{half_fact}
use Rattle.repair_queue.proofs.Facts.SettledLemmas.{settled_codeword}
use Rattle.repair_queue.proofs.Facts.VerdictLemmas.{all_decided, one_fact, original, original_inside}

module _ (header : Roots) (ms : List Message) (all : (cell : Cell) → is_in_square header.k cell ≡ true → Half header ms cell) where
  -- a share for any cell, a fact for one of the square
  chosen_share : (cell : Cell) → (share : Share) × (is_in_square header.k cell ≡ true → Fact header ms cell share)
  chosen_share cell = elim (cases_Bool (is_in_square header.k cell)) [
    | inl within ↦ let one = half_fact header ms cell (all cell within) in (one.0, λ h. one.1)
    | inr out ↦ (blank, λ within. absurd cc)
  ]

  -- those of the 2k by 2k cells
  facts_grid : List Share
  facts_grid = listed (2 * header.k) (λ cell. (chosen_share cell).0)

  -- as many as there are cells
  length-facts_grid : length facts_grid ≡ 2 * header.k * (2 * header.k)
  unfolding facts_grid
  length-facts_grid = length-listed (2 * header.k) (λ cell. (chosen_share cell).0)

  -- each is a fact
  grid_fact : (cell : Cell) → is_in_square header.k cell ≡ true → Fact header ms cell (share_at (2 * header.k) facts_grid cell)
  unfolding facts_grid
  grid_fact cell within =
      let both = inside header.k cell within in
      subst (λ (share : Share). Fact header ms cell share) (sym (get_or-listed (2 * header.k) (λ c. (chosen_share c).0) cell blank both.0 both.1))
      ((chosen_share cell).1 within)

  module _ (settled : IsSettled header ms) where
    -- each row and column of them is settled
    line_there : (axis : Axis) (i : ℕ) → i < 2 * header.k → IsLineSettled header ms axis i
    line_there axis i within = settled axis i (all_decided header ms all axis i within)

    -- with these shares
    line_is : (axis : Axis) (i : ℕ) (within : i < 2 * header.k) → (line_there axis i within).shares ≡ axis_shares header.k facts_grid axis i
    line_is axis i within =
        let x : IsLineSettled header ms axis i = line_there axis i within in
        is_along header.k (share_at (2 * header.k) facts_grid) axis i blank x.shares x.count (λ pos below.
        let cell : Cell = cell_on axis i pos in
        sym ((x.only pos below (share_at (2 * header.k) facts_grid cell)).0 (grid_fact cell (on_axis_in_square header.k axis i pos within below))))

    -- so they extend the square that stands in their upper left quarter
    grid_extends : (shares : List Share) → ((cell : Cell) → is_original header.k cell ≡ true → Fact header ms cell (share_at header.k shares cell))
        → Extends header.k shares facts_grid
    grid_extends shares facts = record {
      size = length-facts_grid;
      quarter = λ cell hr hc.
          let within = original_inside header.k cell hr hc in
          one_fact header ms settled all cell within (share_at (2 * header.k) facts_grid cell) (share_at header.k shares cell)
          (grid_fact cell within) (facts cell (original header.k cell hr hc));
      codewords = λ axis i within. subst (IsCodeword header.k) (line_is axis i within)
          (settled_codeword header ms axis i (all_decided header ms all axis i within) (line_there axis i within));
    }

    -- and have the header's strict roots
    grid_strict : (axis : Axis) (i : ℕ) → i < 2 * header.k
        → line_strict_root header.k axis i (axis_shares header.k facts_grid axis i) ≡ Some (root_of header axis i)
    grid_strict axis i within =
        subst (λ (line : List Share). line_strict_root header.k axis i line ≡ Some (root_of header axis i)) (line_is axis i within) (line_there axis i within).root

-- the header is that of the square that the facts hold, so this square is whole
pub whole_square : (header : Roots) (ms : List Message) (square : SquareShares) → AreRoots header → IsSquare square → square.k ≡ header.k
    → ((cell : Cell) → is_in_square header.k cell ≡ true → Half header ms cell) → IsSettled header ms
    → ((cell : Cell) → is_original header.k cell ≡ true → Fact header ms cell (share_at header.k square.shares cell)) → IsWhole header ms square
whole_square header ms square are is width all settled facts =
    let grid : List Share = facts_grid header ms all in record {
      all = all;
      settled = settled;
      facts = facts;
      own = record {
        whole = is;
        grid = grid;
        extends = subst (λ (k : ℕ). Extends k square.shares grid) (sym width) (grid_extends header ms all settled square.shares facts);
        roots = header_by_strict square.k grid header are (sym width)
            (subst (λ (k : ℕ). (axis : Axis) (i : ℕ) → i < 2 * k → line_strict_root k axis i (axis_shares k grid axis i) ≡ Some (root_of header axis i)) (sym width)
            (grid_strict header ms all settled));
      };
    }

-- and there is one
pub whole_there : (header : Roots) (ms : List Message) → AreRoots header → ((cell : Cell) → is_in_square header.k cell ≡ true → Half header ms cell)
    → IsSettled header ms → (square : SquareShares) × IsWhole header ms square
whole_there header ms are all settled =
    let share : Cell → Share = share_at (2 * header.k) (facts_grid header ms all) in
    let square : SquareShares = record { k = header.k; shares = listed header.k share } in (
      square,
      whole_square header ms square are (record { width = are.width; count = length-listed header.k share }) refl all settled (λ cell within.
          let quarter = original-inside header.k cell within in
          subst (λ (s : Share). Fact header ms cell s) (sym (get_or-listed header.k share cell blank quarter.0 quarter.1))
          (grid_fact header ms all cell (original_inside header.k cell quarter.0 quarter.1))),
    )
