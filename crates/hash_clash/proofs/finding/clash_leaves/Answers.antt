use Rattle.std.proofs.Common.{◌∙◌, ap, ℕ, length, refl}
use Rattle.nmt_proofs.specs.Clashes.{clash_at, whole}
use Rattle.hash_clash.proofs.MakerLemmas.{leaves_clash}
use Rattle.hash_clash.proofs.finding.clash_leaves.Goals as goal

pub found-requires : goal.found-requires
found-requires c =
    leaves_clash (length c.args.names_a.now) c.args.names_a.now c.args.names_b.now c.args.shares_a.now c.args.shares_b.now c.find.result c.requires.leaves
    refl c.requires.a_pairs c.requires.b_names c.requires.b_shares
    c.namespaces_law.ensures c.shares_law.ensures c.namespaces_law-2.ensures c.shares_law-2.ensures c.requires.root c.requires.apart
    (c.find.ensures ∙ ap (λ (k : ℕ). clash_at (whole k c.args.names_a.now c.args.shares_a.now) (whole k c.args.names_b.now c.args.shares_b.now)) c.halvings.ensures.value)
