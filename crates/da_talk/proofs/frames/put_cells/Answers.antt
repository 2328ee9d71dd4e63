use Rattle.std.proofs.lemmas.List.{get_or_default}
use Rattle.frame_payloads.specs.codec.Texts.{cell_bytes}
use Rattle.da_talk.proofs.PutLoops.{put_room, put_more, put_end}
use Rattle.da_talk.proofs.frames.put_cells.Goals as goal

-- it has no more bytes than are left
pub put_cell-requires : goal.put_cell-requires
put_cell-requires c = record {
  capacity = put_room cell_bytes c.args.cells.now c.loop-cell.cell-index _ c.loop-cell-test.true
      (get_or_default c.args.cells.now c.loop-cell.cell-index (record { row = 0; col = 0 }) _ c.loop-cell-test.true)
      c.args.text.now c.loop-cell.text _ _ c.loop-cell.invariant c.requires.capacity;
}

-- one more was appended
pub loop-cell-preserved : goal.loop-cell-preserved
loop-cell-preserved c =
    put_more cell_bytes c.args.cells.now c.loop-cell.cell-index _ c.loop-cell-test.true
    (get_or_default c.args.cells.now c.loop-cell.cell-index (record { row = 0; col = 0 }) _ c.loop-cell-test.true)
    c.args.text.now c.loop-cell.text _ _ c.loop-cell.invariant c.put_cell.new.text c.put_cell.ensures

-- none are left
pub returns : goal.returns
returns c =
    let all = put_end cell_bytes c.args.cells.now c.loop-cell.cell-index c.loop-cell-test.false
    c.args.text.now c.loop-cell.text _ _ c.loop-cell.invariant in
    record { appended = all.appended; capacity = all.capacity }
