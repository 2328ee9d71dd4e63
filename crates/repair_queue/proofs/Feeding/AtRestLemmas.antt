-- What is kept where each half-known row and column is decided: it settles the samples, and known cells are the recoverable ones.
use Rattle.std.proofs.Common.{◌≡◌, ℕ, List, true, false, refl, sym, subst, inl, inr}
use Rattle.std.proofs.lemmas.Bool.{cases_Bool}
use Rattle.namespace_id.specs.declared.cells.Cell.{Cell}
use Rattle.namespace_id.specs.declared.cells.Axis.{Axis}
use Rattle.namespace_id.specs.declared.shares.Share.{Share}
use Rattle.namespace_id.specs.Cells.{is_in_square}
use Rattle.data_header.specs.Headers.{Roots}
use Rattle.axis_roots.specs.declared.message.messages.Message.{Message}
use Rattle.axis_roots.specs.Messages.{index, position}
use Rattle.axis_roots.specs.Proved.{kept_message}
use Rattle.axis_roots.specs.Lines.{cell_on}
use Rattle.axis_roots.proofs.Grids.AxisLemmas.{cell_on-own}
use Rattle.axis_roots.proofs.Grids.NumberLemmas.{position-lt, index-lt}
use Rattle.repair_queue.specs.Closures.{Half, Fact, shown, IsDecided}
use Rattle.repair_queue.specs.Settled.{IsSettled, along, CellsFit}
use Rattle.repair_queue.specs.Slots.{Kept, Flags}
use Rattle.repair_queue.specs.Repairs.{Shows, IsSlotted}
use Rattle.repair_queue.specs.Boards.{Shared, is_lined, is_found, AreAtRest, IsSound, Stands}
use Rattle.repair_queue.proofs.Facts.ClosureLemmas.{half_least, fact_half}
use Rattle.repair_queue.proofs.Facts.SettledLemmas.{fits_settles, cells_fit}
use Rattle.repair_queue.proofs.Places.TakenLemmas.{under_proved}
use Rattle.repair_queue.proofs.Counting.CountedLemmas.{rest_decided}
use Rattle.repair_queue.proofs.Lines.LinedLemmas.{lined_by, lined_on, lined_one, found_lined, found_held, found_how}

module _ (header : Roots) (ms : List Message) (slot : Kept) (flag : Flags) (shares : Shared) (sound : IsSound header slot flag shares)
    (stand : Stands header ms slot flag shares) where
  -- the share of a cell on a decided row or column is a fact
  pub lined_fact : (cell : Cell) → is_in_square header.k cell ≡ true → is_lined flag cell ≡ true → Fact header ms cell (shares cell)
  lined_fact cell inside on =
      let one = lined_one flag cell on in
      subst (λ (c : Cell). Fact header ms c (shares c)) (cell_on-own one.0 cell)
      (stand.facts one.0 (index one.0 cell) (position one.0 cell) (index-lt header.k one.0 cell inside) (position-lt header.k one.0 cell inside) one.1)

  -- the share that a kept sample shows of a cell on none is one
  pub shown_fact : (axis : Axis) (cell : Cell) (share : Share) → is_lined flag cell ≡ false → Shows (slot axis cell) share → Fact header ms cell share
  shown_fact axis cell share off shows =
      let slotted : IsSlotted header axis cell shows.kept = sound.slotted axis cell shows.kept shows.held in
      subst (Fact header ms cell) shows.share_is
      (subst (λ (c : Cell). Fact header ms c (kept_message shows.kept).share) slotted.cell_is
      (shown (kept_message shows.kept) (stand.fed axis cell shows.kept off shows.held) (under_proved header shows.kept slotted.under)))

  -- known cells are recoverable
  pub found_half : (cell : Cell) → is_in_square header.k cell ≡ true → is_found slot flag cell ≡ true → Half header ms cell
  found_half cell inside is = elim (cases_Bool (is_lined flag cell)) [
    | inl on ↦ fact_half header ms cell (shares cell) (lined_fact cell inside on)
    | inr off ↦ elim (found_how slot flag cell is) [
      | inl on ↦ fact_half header ms cell (shares cell) (lined_fact cell inside on)
      | inr (axis, kept, held) ↦
          fact_half header ms cell (kept_message kept).share
          (shown_fact axis cell (kept_message kept).share off (record { kept = kept; held = held; share_is = refl }))
    ]
  ]

  module _ (rest : AreAtRest header.k slot flag) where
    -- and recoverable cells are known
    pub half_found : (cell : Cell) → Half header ms cell → is_found slot flag cell ≡ true
    half_found = half_least header ms (λ cell. is_found slot flag cell ≡ true)
        (λ m at proved. elim (cases_Bool (is_lined flag m.cell)) [
          | inl on ↦ found_lined slot flag m.cell on
          | inr off ↦
              let there = stand.shown m at proved off in
              let shows : Shows (slot there.0 m.cell) m.share = there.1 in
              found_held slot flag there.0 m.cell shows.kept shows.held
        ])
        (λ axis i chosen pos within are known below.
        found_lined slot flag (cell_on axis i pos) (lined_on flag axis i pos (rest_decided header.k slot flag rest axis i chosen within are known)))

    -- a decided row or column is marked
    pub decided_set : (axis : Axis) (i : ℕ) → IsDecided header ms axis i → flag axis i ≡ true
    decided_set axis i d = rest_decided header.k slot flag rest axis i d.chosen d.within d.are_chosen (λ p at. half_found (cell_on axis i p) (d.halves p at))

    -- the shares fit
    rest_fits : CellsFit header ms shares
    rest_fits = record {
      codeword = λ axis i d. (sound.lines axis i d.within (decided_set axis i d)).codeword;
      root = λ axis i d. (sound.lines axis i d.within (decided_set axis i d)).root;
      shown = λ axis m at proved d. sym (stand.lined m at proved (lined_by flag axis m.cell (decided_set axis (index axis m.cell) d)));
    }

    -- so they settle the samples
    pub rest_settled : IsSettled header ms
    rest_settled = fits_settles header ms (λ axis i d. along header.k shares axis i) (cells_fit header ms shares rest_fits)
