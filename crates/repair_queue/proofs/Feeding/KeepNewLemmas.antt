-- Keeping a sample of a cell on no decided row or column.
use Rattle.std.proofs.Common.{◌≡◌, ◌∙◌, ℕ, ◌+◌, ◌*◌, ◌<◌, List, [], ◌∷◌, ◌++◌, Bool, true, false, ◌||◌, refl, sym, ap, ap₂, subst, inl, inr, arith}
use Rattle.std.specs.Prelude.{Option, Some, None, is_some}
use Rattle.std.proofs.lemmas.Bool.{cases_eq, cases_lt}
use Rattle.std.specs.Str.{bytes_eq}
use Rattle.namespace_id.specs.declared.shares.Share.{Share}
use Rattle.namespace_id.specs.declared.cells.Cell.{Cell}
use Rattle.namespace_id.specs.declared.cells.Axis.{Axis}
use Rattle.namespace_id.specs.declared.cells.Axis.TheVariants.{Row, Col}
use Rattle.namespace_id.specs.Cells.{is_in_square}
use Rattle.data_header.specs.Headers.{Roots}
use Rattle.axis_roots.specs.declared.message.messages.Message.{Message}
use Rattle.axis_roots.specs.declared.message.proved.Proved.{Proved}
use Rattle.axis_roots.specs.Messages.{index}
use Rattle.axis_roots.specs.Proved.{kept_message, IsUnder}
use Rattle.axis_roots.proofs.Grids.NumberLemmas.{index-lt}
use Rattle.repair_queue.specs.declared.boards.Board.{Board}
use Rattle.repair_queue.specs.declared.counts.Counts.{Counts}
use Rattle.repair_queue.specs.Slots.{Kept, Flags, IsPut}
use Rattle.repair_queue.specs.Repairs.{Shows}
use Rattle.repair_queue.specs.Pools.{PoolParts, slot_in, samples_of_row}
use Rattle.repair_queue.specs.Counts.{Numbers, count_of, pending, IsRaised, AreQueued}
use Rattle.repair_queue.specs.Boards.{given_of, decided_of, shared_of, is_lined, is_found, found_count, AreAtRest, AreCounted, AreWaiting, IsGood, HoldsFor}
use Rattle.repair_queue.specs.Moves.{IsKeptOn}
use Rattle.repair_queue.proofs.Places.PlaceLemmas.{same_cell}
use Rattle.repair_queue.proofs.Places.TakenLemmas.{under_proved}
use Rattle.repair_queue.proofs.Places.TakeFromLemmas.{same_eq}
use Rattle.repair_queue.proofs.Lines.LinedLemmas.{lined_off, found_held}
use Rattle.repair_queue.proofs.Feeding.StandLemmas.{stands_lined, stands_shown, put_sound, put_stands}
use Rattle.repair_queue.proofs.Counting.CountedLemmas.{count_from-same, IsFoundNow, count_off, count_on, count_few}
use Rattle.repair_queue.proofs.Counting.SampleLemmas.{rest_few}

module _ (old new : Kept) (flag : Flags) (kept : Proved) (put : IsPut old new (kept_message kept).axis (kept_message kept).cell kept) where
  -- other cells are known as before
  found_off : (d : Cell) → (d ≡ (kept_message kept).cell → ⊥) → is_found new flag d ≡ is_found old flag d
  found_off d apart =
      ap₂ (λ (r c : Option Proved). is_lined flag d || is_some r || is_some c) (put.elsewhere Row d (λ x. apart x.1)) (put.elsewhere Col d (λ x. apart x.1))

  -- its cell is known
  found_here : is_found new flag (kept_message kept).cell ≡ true
  found_here = found_held new flag (kept_message kept).axis (kept_message kept).cell kept put.here

  -- where it was, the same cells are known
  pub found_same : is_found old flag (kept_message kept).cell ≡ true → (d : Cell) → is_found new flag d ≡ is_found old flag d
  found_same was d = elim (same_cell d (kept_message kept).cell) [
    | inl e ↦ ap (is_found new flag) e ∙ found_here ∙ sym was ∙ ap (is_found old flag) (sym e)
    | inr apart ↦ found_off d apart
  ]

  -- where it wasn't, this one comes to be known
  pub found_now : is_found old flag (kept_message kept).cell ≡ false → IsFoundNow flag old new (kept_message kept).cell
  found_now was = record { was = was; is = found_here; elsewhere = found_off }

-- counts of its row and column that were raised
pub record AreBothRaised (old new : Numbers) (cell : Cell) : Type 0 where
  pub here : (axis : Axis) → new axis (index axis cell) ≡ old axis (index axis cell) + 1
  pub elsewhere : (axis : Axis) (j : ℕ) → (j ≡ index axis cell → ⊥) → new axis j ≡ old axis j

pub both_raised : (old mid new : Numbers) (cell : Cell) → IsRaised old mid Row cell.row → IsRaised mid new Col cell.col → AreBothRaised old new cell
both_raised old mid new cell row col = record {
  here = elim [
    | Row ↦ col.elsewhere Row cell.row (λ x. let e : Row ≡ Col = x.0 in absurd cc) ∙ row.here
    | Col ↦ col.here ∙ ap (λ (n : ℕ). n + 1) (row.elsewhere Col cell.col (λ x. let e : Col ≡ Row = x.0 in absurd cc))
  ];
  elsewhere = elim [
    | Row ↦ λ j apart. col.elsewhere Row j (λ x. let e : Row ≡ Col = x.0 in absurd cc) ∙ row.elsewhere Row j (λ x. apart x.1)
    | Col ↦ λ j apart. col.elsewhere Col j (λ x. apart x.1) ∙ row.elsewhere Col j (λ x. let e : Col ≡ Row = x.0 in absurd cc)
  ];
}

module _ (header : Roots) (b : Board) (good : IsGood header b) (kept : Proved) (under : IsUnder header kept)
    (off : is_lined (decided_of b) (kept_message kept).cell ≡ false) (empty : given_of b (kept_message kept).axis (kept_message kept).cell ≡ None) where
  -- the sample's cell is in the square
  inside : is_in_square header.k (kept_message kept).cell ≡ true
  inside = (under_proved header kept under).inside

  -- where all is decided that can be, its row has room for it
  pub room_for : AreAtRest header.k (given_of b) (decided_of b) → samples_of_row b.pool.places.k (given_of b) (kept_message kept).cell.row + 1 < 2 * b.pool.places.k
  room_for rest =
      subst (λ (k : ℕ). samples_of_row k (given_of b) (kept_message kept).cell.row + 1 < 2 * k) (good.width ∙ sym good.parts.pool_width)
      (rest_few header.k (given_of b) (decided_of b) (kept_message kept).cell inside rest off)

  module _ (pool : PoolParts) (width : pool.places.k ≡ b.pool.places.k) (put : IsPut (given_of b) (slot_in pool) (kept_message kept).axis (kept_message kept).cell kept) where
    -- the board with this pool and other counts
    abbrev board_with : Counts → Board
    board_with counts = record { pool = pool; marks = b.marks; counts = counts; grid = b.grid; leaves = b.leaves }

    good_with : (counts : Counts) → counts.k ≡ b.counts.k → AreCounted header.k (slot_in pool) (decided_of b) (count_of counts)
        → AreWaiting header.k (decided_of b) (count_of counts) (pending counts) → IsGood header (board_with counts)
    good_with counts same counted queued = record {
      width = good.width;
      parts = record {
        pool_width = width ∙ good.parts.pool_width;
        marks_width = good.parts.marks_width;
        counts_width = same ∙ good.parts.counts_width;
        digests = good.parts.digests;
      };
      sound = put_sound header (given_of b) (slot_in pool) (decided_of b) (shared_of b) kept under empty put good.sound;
      leaves = good.leaves;
      counted = counted;
      queued = queued;
    }

    stands_with : (counts : Counts) (ms : List Message) → HoldsFor header ms b → HoldsFor header (ms ++ kept_message kept ∷ []) (board_with counts)
    stands_with counts ms stand = put_stands header (given_of b) (slot_in pool) (decided_of b) (shared_of b) kept under empty put off ms stand

    -- where the cell was known
    pub keeps_known : is_found (given_of b) (decided_of b) (kept_message kept).cell ≡ true → IsKeptOn header b (board_with b.counts) (kept_message kept)
    keeps_known found = (
      good_with b.counts refl
          (λ axis i within low.
          good.counted axis i within low
          ∙ sym (count_from-same (λ pos. is_found (given_of b) (decided_of b) _) (λ pos. is_found (slot_in pool) (decided_of b) _) (2 * header.k) 0
          (λ q l h. found_same (given_of b) (slot_in pool) (decided_of b) kept put found _)))
          good.queued,
      stands_with b.counts,
    )

    -- and where it wasn't
    module _ (unknown : is_found (given_of b) (decided_of b) (kept_message kept).cell ≡ false) (mid counts : Counts)
        (first : mid.k ≡ b.counts.k) (second : counts.k ≡ mid.k)
        (row : IsRaised (count_of b.counts) (count_of mid) Row (kept_message kept).cell.row)
        (col : IsRaised (count_of mid) (count_of counts) Col (kept_message kept).cell.col)
        (one : AreQueued b.counts.k (count_of b.counts) (count_of mid) (pending b.counts) (pending mid))
        (two : AreQueued mid.k (count_of mid) (count_of counts) (pending mid) (pending counts)) where
      -- the cell comes to be known
      comes : IsFoundNow (decided_of b) (given_of b) (slot_in pool) (kept_message kept).cell
      comes = found_now (given_of b) (slot_in pool) (decided_of b) kept put unknown

      raised : AreBothRaised (count_of b.counts) (count_of counts) (kept_message kept).cell
      raised = both_raised (count_of b.counts) (count_of mid) (count_of counts) (kept_message kept).cell row col

      counted_now : AreCounted header.k (slot_in pool) (decided_of b) (count_of counts)
      counted_now axis i within low = elim (cases_eq i (index axis (kept_message kept).cell)) [
        | inl e ↦
            let there : count_of counts axis (index axis (kept_message kept).cell)
            ≡ found_count (slot_in pool) (decided_of b) axis (index axis (kept_message kept).cell) (2 * header.k) =
            raised.here axis
            ∙ ap (λ (n : ℕ). n + 1) (good.counted axis (index axis (kept_message kept).cell) (index-lt header.k axis (kept_message kept).cell inside)
            (lined_off (decided_of b) axis (kept_message kept).cell off))
            ∙ sym (count_on header.k (decided_of b) (given_of b) (slot_in pool) (kept_message kept).cell inside comes axis) in
            subst (λ (j : ℕ). count_of counts axis j ≡ found_count (slot_in pool) (decided_of b) axis j (2 * header.k)) (sym e) there
        | inr apart ↦
            raised.elsewhere axis i apart ∙ good.counted axis i within low
            ∙ sym (count_off header.k (decided_of b) (given_of b) (slot_in pool) (kept_message kept).cell inside comes axis i apart)
      ]

      queued_now : AreWaiting header.k (decided_of b) (count_of counts) (pending counts)
      queued_now axis i within low many =
          let same : b.counts.k ≡ header.k = good.parts.counts_width ∙ sym good.width in
          elim (cases_lt (count_of mid axis i) header.k) [
            | inl few ↦ two.come axis i (omega (arith, few, same, first)) (omega (arith, many, same, first))
            | inr enough ↦ two.stay (axis, i) (elim (cases_lt (count_of b.counts axis i) header.k) [
              | inl less ↦ one.come axis i (omega (arith, less, same)) (omega (arith, enough, same))
              | inr before ↦ one.stay (axis, i) (good.queued axis i within low (omega arith))
            ])
          ]

      pub keeps_unknown : IsKeptOn header b (board_with counts) (kept_message kept)
      keeps_unknown = (good_with counts (second ∙ first) counted_now queued_now, stands_with counts)

-- a sample that shows a share which is shown already
pub keeps_shown : (header : Roots) (b : Board) → IsGood header b → (m : Message) (axis : Axis) → is_lined (decided_of b) m.cell ≡ false
    → Shows (given_of b axis m.cell) m.share → IsKeptOn header b b m
keeps_shown header b good m axis off shows = (good, λ ms stand. stands_shown header ms (given_of b) (decided_of b) (shared_of b) m stand off axis shows)

-- or the share of its decided row or column
pub keeps_lined : (header : Roots) (b : Board) → IsGood header b → (m : Message) → is_lined (decided_of b) m.cell ≡ true → shared_of b m.cell ≡ m.share → IsKeptOn header b b m
keeps_lined header b good m on same = (good, λ ms stand. stands_lined header ms (given_of b) (decided_of b) (shared_of b) m stand on same)

-- ---- as the code looks at them

module _ (header : Roots) (b : Board) (good : IsGood header b) (kept : Proved) (under : IsUnder header kept)
    (off : is_lined (decided_of b) (kept_message kept).cell ≡ false) (m : Message) (same : m ≡ kept_message kept)
    (unknown : is_found (given_of b) (decided_of b) m.cell ≡ false) where
  -- the counts of the row and the column of a cell that isn't known aren't full
  few_read : (axis : Axis) → count_of b.counts axis (index axis m.cell) < 2 * b.counts.k
  few_read axis =
      let within : is_in_square header.k m.cell ≡ true =
      subst (λ (x : Message). is_in_square header.k x.cell ≡ true) (sym same) (under_proved header kept under).inside in
      let low : is_lined (decided_of b) m.cell ≡ false = subst (λ (x : Message). is_lined (decided_of b) x.cell ≡ false) (sym same) off in
      let width : header.k ≡ b.counts.k = good.width ∙ sym good.parts.counts_width in
      omega (
        arith,
        good.counted axis (index axis m.cell) (index-lt header.k axis m.cell within) (lined_off (decided_of b) axis m.cell low),
        count_few header.k (decided_of b) (given_of b) m.cell within unknown axis,
        width,
      )

  pub few_row : count_of b.counts Row m.cell.row < 2 * b.counts.k
  few_row = few_read Row

  -- also after that of the row was raised
  pub few_col : (mid : Counts) → mid.k ≡ b.counts.k → IsRaised (count_of b.counts) (count_of mid) Row m.cell.row → count_of mid Col m.cell.col < 2 * mid.k
  few_col mid width raised =
      let stays : count_of mid Col m.cell.col ≡ count_of b.counts Col m.cell.col = raised.elsewhere Col m.cell.col (λ x. let e : Col ≡ Row = x.0 in absurd cc) in
      let few : count_of b.counts Col m.cell.col < 2 * b.counts.k = few_read Col in
      omega (arith, stays, few, width)

-- a sample that shows a share, which are compared
pub shows_same : (slot : Option Proved) (kept : Proved) (m : Message) (share : Share) (t : Bool) → slot ≡ Some kept → m ≡ kept_message kept
    → t ≡ bytes_eq m.share.0 share.0 → t ≡ true → Shows slot share
shows_same slot kept m share t held same test is = record {
  kept = kept;
  held = held;
  share_is = ap (λ (x : Message). x.share) (sym same) ∙ same_eq m.share share t test is;
}
