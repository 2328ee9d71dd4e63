-- Where no sample is proved nothing is recoverable, and all cells are missing.
use Rattle.std.proofs.Common.{◌≡◌, ◌*◌, ◌<◌, List, true, nat_lt, refl, subst, arith}
use Rattle.std.specs.List.{Contains}
use Rattle.std.proofs.lemmas.Bool.{lt-ltb, and_from}
use Rattle.namespace_id.specs.declared.cells.Cell.{Cell}
use Rattle.namespace_id.specs.Cells.{is_width, all_cells}
use Rattle.namespace_id.proofs.AllCellsLemmas.{are_all_cells, all_member}
use Rattle.namespace_id.proofs.WidthLemmas.{is_width-pos}
use Rattle.data_header.specs.Headers.{Roots}
use Rattle.axis_roots.specs.declared.message.messages.Message.{Message}
use Rattle.axis_roots.specs.Openings.{IsProved}
use Rattle.axis_roots.specs.Lines.{cell_on}
use Rattle.repair_queue.specs.Closures.{Half}
use Rattle.repair_queue.specs.Verdicts.{missing, IsVerdict}
use Rattle.repair_queue.proofs.Facts.ClosureLemmas.{half_least}
use Rattle.repair_queue.proofs.Facts.ChosenLemmas.{some_chosen}

module _ (header : Roots) (ms : List Message) (lies : (m : Message) → Contains ms m → IsProved header m → ⊥) where
  -- no cell is recoverable
  nothing_half : (cell : Cell) → Half header ms cell → ⊥
  nothing_half = half_least header ms (λ cell. ⊥) lies
      (λ axis i chosen pos within are none below. let one = some_chosen header.k chosen (omega (arith, within)) are in none one.0 one.1)

-- and all cells of the square are missing
pub all_missing : (header : Roots) (ms : List Message) → is_width header.k ≡ true → ((m : Message) → Contains ms m → IsProved header m → ⊥)
    → IsVerdict header ms (missing (record { k = header.k; list = all_cells header.k }))
all_missing header ms width lies = record {
  settled = λ axis i d.
      let below : i < 2 * header.k = d.within in
      let one = some_chosen header.k d.chosen (omega (arith, below)) d.are_chosen in
      absurd (nothing_half header ms lies (cell_on axis i one.0) (d.halves one.0 one.1));
  width = refl;
  row_major = are_all_cells header.k width;
  some = λ none.
      let some : 0 < header.k = is_width-pos header.k width in
      let low : nat_lt 0 (2 * header.k) ≡ true = lt-ltb 0 (2 * header.k) (omega (arith, some)) in
      let at = (all_member header.k (record { row = 0; col = 0 }) width).1 (and_from (nat_lt 0 (2 * header.k)) (nat_lt 0 (2 * header.k)) low low) in
      let nowhere = subst (λ (cells : List Cell). Contains cells (record { row = 0; col = 0 })) none at in
      absurd (omega (arith, nowhere.1));
  missing = λ cell. (
    (λ at. ((all_member header.k cell width).0 at, nothing_half header ms lies cell)),
    (λ out. (all_member header.k cell width).1 out.0),
  );
}
