use Rattle.half_rows.proofs.PlaceLemmas.{front_entries}
use Rattle.half_rows.proofs.lines.extend_half.Goals as goal

-- the originals are in front
pub returns-clause-originals : goal.returns-clause-originals
returns-clause-originals c =
    front_entries c.args.room.now c.args.originals.now c.copy_from_slice.new.self c.extend.new.recovery c.requires.originals c.copy_from_slice.ensures.after
