use Rattle.std.proofs.Common.{◌∙◌, ◌∷◌, ◌++◌, [], ℕ, refl, sym, ap, subst}
use Rattle.std.specs.Prelude.{Option, is_some}
use Rattle.std.proofs.lemmas.List.Elements.{Contains-push}
use Rattle.axis_roots.specs.Claims.{ClaimParts}
use Rattle.light_node.specs.declared.events.Event.TheVariants as event
use Rattle.light_node.specs.Nodes.{NodeStands}
use Rattle.da_net.specs.declared.items.Item.TheVariants as item
use Rattle.da_net.specs.Networks.{item_events}
use Rattle.da_net.specs.Nodes.{IsSpareClaim}
use Rattle.da_net.proofs.FullLemmas.{accepted_count, accepted_nodes}
use Rattle.da_net.proofs.LightLemmas.{light_kept, light_step, light_rejects, found_rejects, missing_rejects, spare_some, spare_is}
use Rattle.da_net.proofs.lights.hand_claim.Goals as goal

-- it rejects already
pub returns-then-is_some-clause-rejects : goal.returns-then-is_some-clause-rejects
returns-then-is_some-clause-rejects g c =
    let is = c.requires.node.1 in
    found_rejects c.args.node.now.header (item_events c.requires.node.0) c.claim.result c.args.node.now.claim (sym c.is_some.ensures ∙ c.if-is_some.true)
    (c.claim.ensures is.plan (item_events c.requires.node.0) is.stands) is.stands.claim

-- and keeps its claim
pub returns-then-is_some-clause-step : goal.returns-then-is_some-clause-step
returns-then-is_some-clause-step g c = λ items is. record {
  node = light_kept g.F.Picker.picks c.args.header.now items c.args.node.now is c.args.claim.now
      (found_rejects c.args.node.now.header (item_events items) c.claim.result c.args.node.now.claim (sym c.is_some.ensures ∙ c.if-is_some.true)
      (c.claim.ensures is.plan (item_events items) is.stands) is.stands.claim);
  wanted = refl;
  keeps = λ claim e. e;
}

-- there is a room for the claim
pub unwrap-requires : goal.unwrap-requires
unwrap-requires g c =
    let is = c.requires.node.1 in
    let spare = c.requires.room (missing_rejects c.args.node.now.header (item_events c.requires.node.0) c.claim.result c.args.node.now.claim
    (sym c.is_some.ensures ∙ c.if-is_some.false) (c.claim.ensures is.plan (item_events c.requires.node.0) is.stands) is.stands.claim) in
    ap (λ (o : Option _). is_some o) c.take.ensures.value ∙ spare_some c.args.header.now.k c.args.room.now spare

pub copy_claim-copy-requires-clause-spare : goal.copy_claim-copy-requires-clause-spare
copy_claim-copy-requires-clause-spare g c =
    let is = c.requires.node.1 in
    let spare = c.requires.room (missing_rejects c.args.node.now.header (item_events c.requires.node.0) c.claim.result c.args.node.now.claim
    (sym c.is_some.ensures ∙ c.if-is_some.false) (c.claim.ensures is.plan (item_events c.requires.node.0) is.stands) is.stands.claim) in
    subst (λ (n : ℕ). IsSpareClaim n c.unwrap.result) (sym (accepted_count c.args.header.now c.args.claim.now c.requires.accepts))
    (spare_is c.args.header.now.k c.args.room.now c.unwrap.result (sym c.take.ensures.value ∙ c.unwrap.ensures) spare)

-- and for the nodes of its set
pub copy_claim-copy-requires-clause-few : goal.copy_claim-copy-requires-clause-few
copy_claim-copy-requires-clause-few g c = accepted_nodes c.args.header.now c.args.claim.now c.requires.accepts

-- it is handed on
pub returns-clause-step : goal.returns-clause-step
returns-clause-step g c = λ items is.
    light_step c.light_laws.ensures.once g.F.Picker.picks c.args.header.now items (item.Claim c.args.claim.now) c.args.node.now c.event-state.new.self is
    c.event-state.ensures.kept.header
    (λ plan events stands. subst (λ (d : ClaimParts). NodeStands g.F.Picker.picks c.event-state.new.self plan (events ++ event.Claim d ∷ []))
    c.copy_claim-copy.ensures (c.event-state.ensures.stands plan events stands))

-- so it rejects
pub returns-clause-rejects : goal.returns-clause-rejects
returns-clause-rejects g c =
    let items = c.requires.node.0 in
    light_rejects g.F.Picker.picks c.args.header.now (items ++ item.Claim c.args.claim.now ∷ []) c.event-state.new.self c.args.claim.now
    (returns-clause-step g c items c.requires.node.1).node (Contains-push items (item.Claim c.args.claim.now)) c.requires.accepts
