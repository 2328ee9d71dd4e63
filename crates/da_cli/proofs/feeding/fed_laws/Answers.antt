use Rattle.da_cli.proofs.FedLemmas.{lies_same, proved_fed, fed_proved}
use Rattle.da_cli.proofs.feeding.fed_laws.Goals as goal

pub returns-clause-lies : goal.returns-clause-lies
returns-clause-lies c = lies_same

pub returns-clause-all : goal.returns-clause-all
returns-clause-all c = proved_fed

pub returns-clause-only : goal.returns-clause-only
returns-clause-only c = fed_proved
