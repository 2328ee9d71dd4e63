use Rattle.std.proofs.Common.{refl}
use Rattle.da_net.specs.declared.items.StepRefusal.TheVariants as refusal
use Rattle.da_net.proofs.StepRefusalLemmas.{refused_for}
use Rattle.da_net.proofs.nets.Net.step.Goals as goal

-- each refusal says what its test does
pub returns-clause-full : goal.returns-clause-full
returns-clause-full g c =
    let says = refused_for c.args.self.now c.args.event c.try_step.result c.try_step.ensures.refusal (refusal.Full c.args.event) in
    (λ e. (says.0 e).0, λ h. says.1 (h, refl))

pub returns-clause-no_item : goal.returns-clause-no_item
returns-clause-no_item g c = refused_for c.args.self.now c.args.event c.try_step.result c.try_step.ensures.refusal refusal.NoItem

pub returns-clause-no_node : goal.returns-clause-no_node
returns-clause-no_node g c = refused_for c.args.self.now c.args.event c.try_step.result c.try_step.ensures.refusal refusal.NoNode

pub returns-clause-not_rejecting : goal.returns-clause-not_rejecting
returns-clause-not_rejecting g c =
    refused_for c.args.self.now c.args.event c.try_step.result c.try_step.ensures.refusal refusal.NotRejecting

pub returns-clause-published : goal.returns-clause-published
returns-clause-published g c =
    refused_for c.args.self.now c.args.event c.try_step.result c.try_step.ensures.refusal refusal.Published
