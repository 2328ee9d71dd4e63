use Rattle.one_answer.proofs.NetLemmas.{one_state}
use Rattle.one_answer.proofs.nets.state_twice.Goals as goal

pub returns : goal.returns
returns g c = one_state c.args.net.now c.args.node _ _ c.state.ensures.state c.state-2.ensures.state
