use Rattle.std.proofs.Common.{◌≡◌, ◌∙◌, ℕ, List, length, true, sym, ap, arith}
use Rattle.namespace_id.specs.Cells.{is_width}
use Rattle.data_header.specs.DataRoots.{data_root_of}
use Rattle.blob_commit.specs.Proofs.{RowParts, is_range, subtrees_of}
use Rattle.blob_commit.proofs.WalkLemmas.{some_hashes}
use Rattle.blob_commit.proofs.MakingLemmas.{subtrees_few}
use Rattle.blob_commit.proofs.making.prove_commit.Goals as goal

-- there is capacity for the hash of each subtree, and there is one
pub put_rows-requires : goal.put_rows-requires
put_rows-requires c =
    let same : c.width-k.result ≡ c.args.roots.now.k = c.width-k.ensures.value in
    let width : is_width c.args.roots.now.k ≡ true = ap is_width (sym same) ∙ c.width-k.ensures.width in
    let range : is_range c.args.roots.now.k c.args.start c.args.count ≡ true = ap (λ (m : ℕ). is_range m c.args.start c.args.count) (sym same) ∙ sym c.is_range.ensures ∙ c.if-not-is_range.false in
    let few = subtrees_few (data_root_of c.args.roots.now) c.args.roots.now.k c.args.start c.args.count c.in_ok-rows.rows.items width range c.in_ok-rows.ensures in
    omega (arith, few.0, ap length c.new-hashes.ensures, ap (λ (l : List RowParts). length (subtrees_of l)) c.deref.ensures.value)

pub root_over-commitment-requires-clause-some : goal.root_over-commitment-requires-clause-some
root_over-commitment-requires-clause-some c =
    let same : c.width-k.result ≡ c.args.roots.now.k = c.width-k.ensures.value in
    let width : is_width c.args.roots.now.k ≡ true = ap is_width (sym same) ∙ c.width-k.ensures.width in
    let range : is_range c.args.roots.now.k c.args.start c.args.count ≡ true = ap (λ (m : ℕ). is_range m c.args.start c.args.count) (sym same) ∙ sym c.is_range.ensures ∙ c.if-not-is_range.false in
    let few = subtrees_few (data_root_of c.args.roots.now) c.args.roots.now.k c.args.start c.args.count c.in_ok-rows.rows.items width range c.in_ok-rows.ensures in
    some_hashes c.new-hashes.result c.hashes.result.now (subtrees_of c.deref.result.now) (c.hashes.ensures.value ∙ c.put_rows.ensures)
    (omega (arith, few.1, ap (λ (l : List RowParts). length (subtrees_of l)) c.deref.ensures.value))
