use Rattle.std.proofs.Common.{◌∙◌, sym}
use Rattle.square_serve.proofs.Judging.PlaceLemmas.{placed_entries}
use Rattle.square_serve.proofs.checking.judge.Goals as goal

-- no entry is misplaced
pub first_refused-requires : goal.first_refused-requires
first_refused-requires c =
    placed_entries c.args.header.now c.args.name.now c.args.entries.now (sym c.in_default.is ∙ c.first_misplaced.ensures)
