use Rattle.std.proofs.Common.{◌∙◌, ℕ, List, ◌++◌, length, ap, arith, eqb, ltb}
use Rattle.namespace_id.specs.Cells.{CellList}
use Rattle.namespace_id.specs.declared.cells.Cell.{Cell}
use Rattle.frame_payloads.specs.Payloads.{max_payload}
use Rattle.frame_payloads.specs.kinds.Missing.{missing_payload}
use Rattle.frame_payloads.proofs.Forms.CellCounts.{cells_few}
use Rattle.frame_payloads.proofs.Forms.MissingForm.{length-missing}
use Rattle.da_wire.specs.Spelling.{frame, missing_kind}
use Rattle.da_talk.proofs.SpellingLemmas.{some_is, missing_parts}
use Rattle.da_talk.proofs.frames.put_missing_frame.Goals as goal

-- no square has so many cells
pub overflow_cast-count : goal.overflow_cast-count
overflow_cast-count c = omega (arith, cells_few (record { k = c.args.k; list = c.args.cells.now }) c.requires.cells)

pub overflow_mul-count : goal.overflow_mul-count
overflow_mul-count c = omega (arith, cells_few (record { k = c.args.k; list = c.args.cells.now }) c.requires.cells)

pub overflow_add-count : goal.overflow_add-count
overflow_add-count c = omega (arith, cells_few (record { k = c.args.k; list = c.args.cells.now }) c.requires.cells)

-- there is room for all cells of the square
pub put_cells-requires : goal.put_cells-requires
put_cells-requires c =
    let cells : CellList = record { k = c.args.k; list = c.args.cells.now } in
    record {
      capacity = omega (
        arith,
        c.requires.capacity,
        c.cells_laws.ensures.count c.args.k c.args.cells.now c.requires.cells,
        length-missing cells,
        c.put_head.ensures.len,
        c.put_head.ensures.capacity,
        c.append.ensures.len,
        c.append.ensures.capacity,
        c.append-2.ensures.len,
        c.append-2.ensures.capacity,
      );
    }

-- the parts are the spelling
pub returns-clause-appended : goal.returns-clause-appended
returns-clause-appended c =
    let cells : CellList = record { k = c.args.k; list = c.args.cells.now } in (
      frame missing_kind (missing_payload cells),
      some_is (eqb (length c.args.cells.now) 0) (ltb max_payload (length (missing_payload cells))) (frame missing_kind (missing_payload cells))
          (c.wire_laws.ensures.missing cells c.requires.cells (λ none. absurd (omega (arith, c.requires.some, ap (λ (l : List Cell). length l) none)))),
      missing_parts cells c.args.text.now.items c.put_head.new.text.items c.append.new.out.items c.append-2.new.out.items c.put_cells.new.text.items
          c.put_head.ensures.appended
          (c.append.ensures.appended ∙ ap (λ (l : List ℕ). c.put_head.new.text.items ++ l) c.to_be_bytes.ensures)
          (c.append-2.ensures.appended ∙ ap (λ (l : List ℕ). c.append.new.out.items ++ l) c.to_be_bytes-2.ensures) c.put_cells.ensures.appended,
    )
