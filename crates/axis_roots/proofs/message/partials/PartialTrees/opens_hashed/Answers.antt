use Rattle.std.proofs.Common.{rules}
use Rattle.axis_roots.specs.Openings.{IsProved}
use Rattle.axis_roots.proofs.Messages.OwnLemmas.{accepted_own}
use Rattle.axis_roots.proofs.message.partials.PartialTrees.opens_hashed.Goals as goal

-- the sample is proved where its nodes open it
pub returns-in-Ok-clause-own : goal.returns-in-Ok-clause-own
returns-in-Ok-clause-own c =
    let proved : IsProved c.args.self.now c.args.message.now = search rules in
    λ _. accepted_own c.args.self.now c.args.message.now proved
