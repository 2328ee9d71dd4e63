use Rattle.da_cli.proofs.RunLemmas.{completes}
use Rattle.da_cli.proofs.OwnLemmas.{are_own}
use Rattle.da_cli.proofs.running.run.Goals as goal

pub returns-clause-complete : goal.returns-clause-complete
returns-clause-complete g c = completes _ _ _ _ _ c.answer-status.ensures.ran.meaning

pub returns-clause-own : goal.returns-clause-own
returns-clause-own g c = are_own _ _ c.run_laws.ensures.own c.run_laws.ensures.own_answer c.run_laws.ensures.answer_file c.run_laws.ensures.own_repair c.run_laws.ensures.own_light c.run_laws.ensures.own_compact
    c.run_laws.ensures.own_follow c.run_laws.ensures.own_net c.run_laws.ensures.own_prove
