use Rattle.std.proofs.Common.{◌∙◌, ap, ap₂, ℕ}
use Rattle.nmt_proofs.specs.Clashes.{clash_at, whole}
use Rattle.hash_clash.proofs.MakerLemmas.{nodes_fit, opened_is, path_leaves_clash}
use Rattle.hash_clash.proofs.finding.clash_path_leaves.Goals as goal

pub find-requires-clause-a : goal.find-requires-clause-a
find-requires-clause-a c = nodes_fit c.args.n c.args.pos c.halvings.result c.args.a.now c.nodes.result.now c.requires.count c.nodes.ensures.value c.halvings.ensures.value

pub found-requires : goal.found-requires
found-requires c =
    path_leaves_clash c.args.n c.args.pos c.args.a.now c.args.names.now c.args.shares.now c.find.result c.requires.leaves c.requires.place
    c.shape_law.ensures c.requires.count c.requires.names c.requires.shares c.namespaces_law.ensures c.shares_law.ensures c.requires.root c.requires.apart
    (c.find.ensures ∙ ap₂ clash_at
    (opened_is c.args.n c.args.pos c.halvings.result c.args.a.now c.nodes.result.now c.nodes.ensures.value c.halvings.ensures.value)
    (ap (λ (k : ℕ). whole k c.args.names.now c.args.shares.now) c.halvings.ensures.value))
