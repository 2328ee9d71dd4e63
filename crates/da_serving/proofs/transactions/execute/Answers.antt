use Rattle.da_serving.specs.Transactions.{Unlays}
use Rattle.da_files.proofs.FormLemmas.{once_single}
use Rattle.da_serving.proofs.transactions.execute.Goals as goal

-- the file is the square that was read
pub returns-in-Ok : goal.returns-in-Ok
returns-in-Ok g c =
    once_single Unlays _ _ _ _ _ _ _ _ c.in-Ok.ensures.square c.unlay.ensures
