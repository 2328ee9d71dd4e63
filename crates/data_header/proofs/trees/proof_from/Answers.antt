use Rattle.std.proofs.Common.{◌≡◌, ◌∙◌, ◌+◌, ◌*◌, ℕ, ap, ap₂, subst}
use Rattle.data_header.specs.Headers.{Roots, AreRoots}
use Rattle.data_header.specs.DataRoots.{root_halvings, root_place}
use Rattle.data_header.proofs.OpenLemmas.{opens-siblings}
use Rattle.data_header.proofs.trees.proof_from.Goals as goal

-- the hashes beside the leaf's way lead to the data root
pub returns : goal.returns
returns c =
    let header : Roots = c.args.header.now in
    let k_is : c.header.inside.k ≡ header.k = ap (λ (h : Roots). h.k) c.header.view_is in
    opens-siblings header c.args.hashes.now c.siblings_from.result c.args.axis c.args.index (4 * c.header.inside.k + c.root_place.result) c.root_halvings.result
    (subst AreRoots c.header.view_is c.header.invariant) c.requires.hashes c.requires.index
    (ap₂ (λ (k p : ℕ). 4 * k + p) k_is (c.root_place.ensures ∙ ap (λ (k : ℕ). root_place k c.args.axis c.args.index) k_is))
    (c.root_halvings.ensures.value ∙ ap root_halvings k_is) c.siblings_from.ensures
