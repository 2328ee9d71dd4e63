use Rattle.std.proofs.Common.{[], ◌∷◌}
use Rattle.da_wire.specs.Spelling.{sample_kind}
use Rattle.da_files.proofs.FrameLemmas.{values_unread}
use Rattle.da_exchanging.specs.Ids.{cell_of}
use Rattle.da_exchanging.proofs.AskedLemmas.{cell_there}
use Rattle.da_exchanging.proofs.ids.asked_cell_in.Goals as goal

-- memory ran out in place of a value alone
pub returns-in-Err : goal.returns-in-Err
returns-in-Err c =
    values_unread cell_of (sample_kind ∷ []) cell_there c.args.bytes.now c.in-Err.error c.reason.result c.reason.ensures c.in-Err.ensures.read
