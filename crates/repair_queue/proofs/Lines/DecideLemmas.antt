-- Deciding a row or a column by the known cells that were gathered.
use Rattle.std.proofs.Common.{◌≡◌, ◌∙◌, ℕ, ◌*◌, ◌<◌, List, length, get_or, cond, Bool, true, refl, sym, ap, subst, inl, inr, arith}
use Rattle.std.specs.Prelude.{◌⊎◌, ◌||◌, Option, Some, None, is_some}
use Rattle.std.proofs.lemmas.Bool.{cases_Bool}
use Rattle.std.proofs.lemmas.List.{get_or_default}
use Rattle.std.proofs.lemmas.Option.{slice_get-get_or, get_or_from_slice_get}
use Rattle.namespace_id.specs.declared.cells.Cell.{Cell}
use Rattle.namespace_id.specs.declared.cells.Axis.{Axis}
use Rattle.namespace_id.specs.declared.cells.Axis.TheVariants.{Row, Col}
use Rattle.namespace_id.specs.declared.shares.Share.{Share}
use Rattle.namespace_id.specs.Cells.{is_in_square}
use Rattle.leopard_code.specs.Codewords.{IsCodeword, HasEntries}
use Rattle.data_header.specs.Headers.{Roots}
use Rattle.axis_roots.specs.declared.message.messages.Message.{Message}
use Rattle.axis_roots.specs.declared.message.proved.Proved.{Proved}
use Rattle.axis_roots.specs.Lines.{blank, entry, cell_on}
use Rattle.axis_roots.proofs.Grids.WrittenLemmas.{on_axis_in_square}
use Rattle.repair_queue.specs.declared.boards.Board.{Board}
use Rattle.repair_queue.specs.declared.tools.Tools.{Tools}
use Rattle.repair_queue.specs.declared.ending.Ending.{Ending}
use Rattle.repair_queue.specs.Closures.{AreChosen, Fact, rebuilt}
use Rattle.repair_queue.specs.Slots.{Kept, Flags}
use Rattle.repair_queue.specs.Lines.{AreFacts}
use Rattle.repair_queue.specs.Repairs.{Shows}
use Rattle.repair_queue.specs.Boards.{Shared, is_lined, is_found, share_of_first, found_share, IsSound, Stands, HoldsFor}
use Rattle.repair_queue.specs.Tools.{AreGathered}
use Rattle.repair_queue.specs.Moves.{SettlesLine, DecidesLine}
use Rattle.repair_queue.proofs.Facts.ChosenLemmas.{chosen-lt}
use Rattle.repair_queue.proofs.Feeding.AtRestLemmas.{lined_fact, shown_fact}

-- the first of two samples shows the first share
first_shown : (row col : Option Proved) → (is_some row || is_some col) ≡ true → Shows row (share_of_first row col) ⊎ Shows col (share_of_first row col)
first_shown (Some kept) col e = inl (record { kept = kept; held = refl; share_is = refl })
first_shown None (Some kept) e = inr (record { kept = kept; held = refl; share_is = refl })
first_shown None None e = absurd cc

module _ (header : Roots) (ms : List Message) (slot : Kept) (flag : Flags) (shares : Shared) (sound : IsSound header slot flag shares) (stand : Stands header ms slot flag shares) where
  -- the share that is known of a cell is a fact
  pub found_fact : (cell : Cell) → is_in_square header.k cell ≡ true → is_found slot flag cell ≡ true → Fact header ms cell (found_share slot flag shares cell)
  found_fact cell inside found = elim (cases_Bool (is_lined flag cell)) [
    | inl on ↦
        subst (Fact header ms cell) (sym (ap (λ (b : Bool). cond b (shares cell) (share_of_first (slot Row cell) (slot Col cell))) on))
        (lined_fact header ms slot flag shares sound stand cell inside on)
    | inr off ↦
        subst (Fact header ms cell) (sym (ap (λ (b : Bool). cond b (shares cell) (share_of_first (slot Row cell) (slot Col cell))) off))
        (elim (first_shown (slot Row cell) (slot Col cell)
        (sym (ap (λ (b : Bool). b || is_some (slot Row cell) || is_some (slot Col cell)) off) ∙ found)) [
          | inl row ↦ shown_fact header ms slot flag shares sound stand Row cell (share_of_first (slot Row cell) (slot Col cell)) off row
          | inr col ↦ shown_fact header ms slot flag shares sound stand Col cell (share_of_first (slot Row cell) (slot Col cell)) off col
        ])
  ]

  -- the codeword through k of them is made of facts
  pub gathered_facts : (axis : Axis) (i : ℕ) (known : List ℕ) (given line : List Share) → i < 2 * header.k → AreChosen header.k known
      → AreGathered slot flag shares axis i known given → IsCodeword header.k line → HasEntries known given line → AreFacts header ms axis i line
  gathered_facts axis i known given line within chosen gathered code entries pos below =
      rebuilt axis i line known pos within code chosen (λ p at.
      let j : ℕ = at.0 in
      let h : j < length known = at.1 in
      let place : get_or known j 0 ≡ p = get_or_default known j 0 p h ∙ at.2 in
      let inside : is_in_square header.k (cell_on axis i (get_or known j 0)) ≡ true =
      on_axis_in_square header.k axis i (get_or known j 0) within (subst (λ (q : ℕ). q < 2 * header.k) (sym place) (chosen-lt header.k known chosen p at)) in
      let share : get_or line (get_or known j 0) blank ≡ get_or given j blank =
      get_or_from_slice_get line (get_or known j 0) (get_or given j blank) blank
      (entries j h ∙ slice_get-get_or given j blank (omega (arith, gathered.count))) in
      let fact : Fact header ms (cell_on axis i (get_or known j 0)) (found_share slot flag shares (cell_on axis i (get_or known j 0))) =
      found_fact (cell_on axis i (get_or known j 0)) inside (gathered.found j h) in
      subst (λ (q : ℕ). Fact header ms (cell_on axis i q) (entry line q)) place
      (subst (Fact header ms (cell_on axis i (get_or known j 0))) (sym (share ∙ gathered.share j h)) fact)) below

-- what settles a row or column of facts decides it
pub settles_decides : (header : Roots) (s t : Board) (tools : Tools) (axis : Axis) (i : ℕ) (line : List Share) (result : Option Ending)
    → ((ms : List Message) → HoldsFor header ms s → AreFacts header ms axis i line) → SettlesLine header s t tools axis i line result → DecidesLine header s t tools result
settles_decides header s t tools axis i line None facts settles = (settles.0, settles.1, λ ms stand. settles.2 ms (facts ms stand) stand)
settles_decides header s t tools axis i line (Some ended) facts settles = λ ms stand. settles ms (facts ms stand) stand
