use Rattle.std.proofs.Common.{◌∙◌, length}
use Rattle.half_rows.proofs.PlaceLemmas.{last_positions}
use Rattle.half_rows.proofs.lines.rebuild_half.Goals as goal

-- the last k positions
pub rebuild-requires-clause-known : goal.rebuild-requires-clause-known
rebuild-requires-clause-known c =
    (last_positions c.args.room.now (length c.args.recovery.now) c.deref.result.now (c.deref.ensures.value ∙ c.in_ok-known.ensures) c.requires.recovery).0

pub rebuild-requires-clause-positions : goal.rebuild-requires-clause-positions
rebuild-requires-clause-positions c =
    (last_positions c.args.room.now (length c.args.recovery.now) c.deref.result.now (c.deref.ensures.value ∙ c.in_ok-known.ensures) c.requires.recovery).1
