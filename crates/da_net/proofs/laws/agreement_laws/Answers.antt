use Rattle.repair_queue.proofs.Facts.WholeLemmas.{whole_there}
use Rattle.da_net.specs.Networks.{messages_of}
use Rattle.da_net.proofs.PromiseLemmas.{alarmed_names, same_whole}
use Rattle.da_net.proofs.laws.agreement_laws.Goals as goal

-- what is settled and whole has a square
pub returns-clause-square : goal.returns-clause-square
returns-clause-square c = λ header items are complete. whole_there header (messages_of items) are complete.all complete.stands.1

pub returns-clause-header : goal.returns-clause-header
returns-clause-header c = λ header items square verdict. verdict.own

pub returns-clause-others : goal.returns-clause-others
returns-clause-others c = λ net pool steps node other kind standing square run verdict.
    alarmed_names net pool steps other square run verdict.own kind standing

pub returns-clause-same : goal.returns-clause-same
returns-clause-same c = same_whole
