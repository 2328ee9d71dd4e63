use Rattle.da_serving.specs.Commit.{CommitsEither}
use Rattle.da_files.proofs.FormLemmas.{once_single}
use Rattle.da_serving.proofs.commit.execute.Goals as goal

-- the file is the block that was read
pub returns-in-Ok : goal.returns-in-Ok
returns-in-Ok g c =
    once_single CommitsEither _ _ _ _ _ _ _ _ c.in-Ok.ensures.block c.commit_either.ensures
