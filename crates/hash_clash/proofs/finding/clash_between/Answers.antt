use Rattle.std.proofs.Common.{◌∙◌, ap₂}
use Rattle.nmt_proofs.specs.Clashes.{clash_at}
use Rattle.hash_clash.proofs.MakerLemmas.{nodes_fit, opened_is, between_clash}
use Rattle.hash_clash.proofs.finding.clash_between.Goals as goal

pub find-requires-clause-a : goal.find-requires-clause-a
find-requires-clause-a c = nodes_fit c.args.n c.args.pos_a c.halvings.result c.args.a.now c.nodes.result.now c.requires.a_count c.nodes.ensures.value c.halvings.ensures.value

pub find-requires-clause-b : goal.find-requires-clause-b
find-requires-clause-b c = nodes_fit c.args.n c.args.pos_b c.halvings.result c.args.b.now c.nodes-2.result.now c.requires.b_count c.nodes-2.ensures.value c.halvings.ensures.value

pub found_in-requires : goal.found_in-requires
found_in-requires c =
    between_clash c.args.n c.args.pos_a c.args.pos_b c.args.a.now c.args.b.now c.find.result c.shape_law.ensures c.shape_law-2.ensures
    c.requires.a_count c.requires.b_count c.requires.root
    (c.find.ensures ∙ ap₂ clash_at
    (opened_is c.args.n c.args.pos_a c.halvings.result c.args.a.now c.nodes.result.now c.nodes.ensures.value c.halvings.ensures.value)
    (opened_is c.args.n c.args.pos_b c.halvings.result c.args.b.now c.nodes-2.result.now c.nodes-2.ensures.value c.halvings.ensures.value))

pub returns : goal.returns
returns c =
    c.found_in.ensures ∙ c.find.ensures ∙ ap₂ clash_at
    (opened_is c.args.n c.args.pos_a c.halvings.result c.args.a.now c.nodes.result.now c.nodes.ensures.value c.halvings.ensures.value)
    (opened_is c.args.n c.args.pos_b c.halvings.result c.args.b.now c.nodes-2.result.now c.nodes-2.ensures.value c.halvings.ensures.value)
