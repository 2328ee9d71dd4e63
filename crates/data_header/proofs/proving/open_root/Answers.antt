use Rattle.std.proofs.Common.{◌∙◌, ◌≡◌, sym, ap, ap₂, length, List, ℕ}
use Rattle.data_header.specs.DataRoots.{root_halvings, root_place, leaf_hash, led}
use Rattle.data_header.proofs.OpenLemmas.{opened}
use Rattle.data_header.proofs.proving.open_root.Goals as goal

-- there are as many hashes as 4k has halvings, and where they lead is compared with the root
pub returns : goal.returns
returns c =
    let count : length c.args.path.now ≡ root_halvings c.args.k =
    ap length (sym c.hashes.ensures.value) ∙ c.if-hashes-root_halvings.false ∙ c.root_halvings.ensures.value in
    let leads : c.led.result ≡ led (root_place c.args.k c.args.axis c.args.index) (leaf_hash c.args.digest.now) c.args.path.now =
    c.led.ensures
    ∙ ap₂ (λ (p : ℕ) (h : List ℕ). led p h c.hashes-2.result.now) c.root_place.ensures c.leaf_hash.ensures
    ∙ ap (led (root_place c.args.k c.args.axis c.args.index) (leaf_hash c.args.digest.now)) c.hashes-2.ensures.value in
    opened c.args.root.now c.led.result c.args.k c.args.axis c.args.index c.args.digest.now c.args.path.now c.eq.result
    (sym c.is_width.ensures ∙ c.if-not-is_width.false) c.if-index-k.false count leads c.eq.ensures
