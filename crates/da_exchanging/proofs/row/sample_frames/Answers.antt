use Rattle.std.proofs.Common.{◌∙◌, ap}
use Rattle.da_wire.specs.declared.frames.Frame.TheVariants.{Message}
use Rattle.da_exchanging.proofs.RowLemmas.{columns_none, columns_more}
use Rattle.da_exchanging.proofs.row.sample_frames.Goals as goal

-- no column yet
pub loop-col-init : goal.loop-col-init
loop-col-init c = columns_none c.args.samples.now c.new-text.result.items c.new-text.ensures.items

-- one column more
pub loop-col-preserved : goal.loop-col-preserved
loop-col-preserved c =
    columns_more c.args.samples.now c.loop-col.col c.message_frame-frame.result c.loop-col.text.items c.append_frame.new.text.items
    c.loop-col.invariant (c.message_frame-frame.ensures.value ∙ ap Message c.sample.ensures) c.in-Ok.ensures
