use Rattle.square_layout.specs.Blocks.{SquareShares}
use Rattle.da_serving.specs.Prove.{ProvesRange}
use Rattle.da_files.proofs.FormLemmas.{once_single}
use Rattle.da_serving.proofs.prove.range.Goals as goal

-- the file is the square that was read
pub returns-in-Ok : goal.returns-in-Ok
returns-in-Ok g c =
    once_single (λ (square : SquareShares). ProvesRange square c.args.start c.args.count) _ _ _ _ _ _ _ _ c.in-Ok.ensures.square c.prove_range.ensures
