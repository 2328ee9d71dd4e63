use Rattle.da_net.specs.declared.items.Item.TheVariants as item
use Rattle.da_net.proofs.LightLemmas.{light_step}
use Rattle.da_net.proofs.lights.hand_sample.Goals as goal

-- the light node's plan and events go on
pub returns : goal.returns
returns g c = λ header items is.
    light_step c.light_laws.ensures.once g.F.Picker.picks header items (item.Message c.args.message) c.args.node.now c.event-state.new.self is
    c.event-state.ensures.kept.header c.event-state.ensures.stands
