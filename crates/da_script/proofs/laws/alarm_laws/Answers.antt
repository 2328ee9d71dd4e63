use Rattle.da_script.proofs.AlarmLemmas.{tells_own}
use Rattle.da_script.proofs.laws.alarm_laws.Goals as goal

pub returns : goal.returns
returns c = record { own = tells_own c.rejection_laws.ensures.own }
