use Rattle.std.proofs.Common.{◌≡◌, ◌∙◌, ℕ, List, [], ◌∷◌, ◌++◌, length, refl, ap, arith, get_or, length-append}
use Rattle.namespace_id.specs.Sizes.{most_depth}
use Rattle.blob_commit.specs.Cuts.{cut_by, cut}
use Rattle.blob_commit.specs.Commitments.{root_over, leaf_hashes, subtree_roots}
use Rattle.blob_commit.proofs.CutLemmas.{few-cut, total, total-of, some_pieces}
use Rattle.blob_commit.proofs.PieceLemmas.{left_behind, hash_more, hashes_all, piece_sized}
use Rattle.blob_commit.proofs.committing.commitment.Goals as goal

pub cut_by-sizes-requires-clause-room : goal.cut_by-sizes-requires-clause-room
cut_by-sizes-requires-clause-room c =
    let few = few-cut (length c.args.shares.now) c.requires.some c.requires.bound in
    let same = ap (λ (l : ℕ). length (cut_by l (length c.args.shares.now))) c.levels_of.ensures.value in
    omega (arith, few, same)

pub loop-i-init : goal.loop-i-init
loop-i-init c =
    let n : ℕ = length c.args.shares.now in
    let sizes_are : c.sizes-sizes.result.now ≡ cut n = c.sizes-sizes.ensures.value ∙ c.cut_by-sizes.ensures ∙ ap (λ (l : ℕ). cut_by l n) c.levels_of.ensures.value in
    record {
      shares = ap total sizes_are ∙ total-of n;
      hashes = ap (λ (l : List (List ℕ)). l ++ leaf_hashes (subtree_roots c.sizes-sizes.result.now c.args.shares.now)) c.new-hashes.ensures;
      count = ap length c.new-hashes.ensures;
    }

pub subtree_root-requires : goal.subtree_root-requires
subtree_root-requires c =
    let n : ℕ = length c.args.shares.now in
    let sizes_are : c.sizes-sizes.result.now ≡ cut n = c.sizes-sizes.ensures.value ∙ c.cut_by-sizes.ensures ∙ ap (λ (l : ℕ). cut_by l n) c.levels_of.ensures.value in
    (piece_sized c.sizes-sizes.result.now n c.loop-i.i (length c.split_at.result.0.now) sizes_are c.requires.some c.requires.bound c.loop-i-test.true c.split_at.ensures.front_len).0

pub loop-i-preserved : goal.loop-i-preserved
loop-i-preserved c = record {
  shares = left_behind c.sizes-sizes.result.now c.loop-i.i (get_or c.sizes-sizes.result.now c.loop-i.i 0) c.loop-i.rest.now c.split_at.result.1.now c.loop-i-test.true refl c.loop-i.invariant.shares c.split_at.ensures.back_len;
  hashes =
      hash_more c.sizes-sizes.result.now c.loop-i.i (get_or c.sizes-sizes.result.now c.loop-i.i 0) c.loop-i.rest.now c.split_at.result.0.now c.split_at.result.1.now c.loop-i.hashes c.push.new.self _ c.leaf_hash.result c.subtree_root.result
      c.loop-i-test.true refl c.split_at.ensures.front c.split_at.ensures.back c.split_at.ensures.front_len c.subtree_root.ensures c.leaf_hash.ensures c.push.ensures c.loop-i.invariant.hashes;
  count = ap length c.push.ensures ∙ omega (arith, length-append c.loop-i.hashes (c.leaf_hash.result ∷ []), c.loop-i.invariant.count);
}

pub root_over-requires-clause-some : goal.root_over-requires-clause-some
root_over-requires-clause-some c =
    let n : ℕ = length c.args.shares.now in
    let sizes_are : c.sizes-sizes.result.now ≡ cut n = c.sizes-sizes.ensures.value ∙ c.cut_by-sizes.ensures ∙ ap (λ (l : ℕ). cut_by l n) c.levels_of.ensures.value in
    let whole : total c.sizes-sizes.result.now ≡ n = ap total sizes_are ∙ total-of n in
    let some = some_pieces c.sizes-sizes.result.now (omega (arith, whole, c.requires.some)) in
    let count = ap length c.hashes.ensures.value in
    omega (arith, some, count, c.loop-i.invariant.count, c.loop-i-test.false)

pub returns : goal.returns
returns c =
    let n : ℕ = length c.args.shares.now in
    let sizes_are : c.sizes-sizes.result.now ≡ cut n = c.sizes-sizes.ensures.value ∙ c.cut_by-sizes.ensures ∙ ap (λ (l : ℕ). cut_by l n) c.levels_of.ensures.value in
    c.root_over.ensures
    ∙ ap (root_over most_depth) (c.hashes.ensures.value ∙ hashes_all c.sizes-sizes.result.now c.loop-i.i c.loop-i.rest.now c.loop-i.hashes _ (omega (arith, c.loop-i-test.false)) c.loop-i.invariant.hashes)
    ∙ ap (λ (l : List ℕ). root_over most_depth (leaf_hashes (subtree_roots l c.args.shares.now))) sizes_are
