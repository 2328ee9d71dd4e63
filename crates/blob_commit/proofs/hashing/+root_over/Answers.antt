use Rattle.std.proofs.Common.{◌≡◌, ◌∙◌, ℕ, suc, ◌-◌, [], take, drop, sym, ap, ap₂, arith}
use Rattle.data_header.specs.DataRoots.{inner_hash}
use Rattle.blob_commit.specs.Commitments.{root_over}
use Rattle.blob_commit.proofs.RootLemmas.{root_over-few, root_over-halves, root_over-one}
use Rattle.blob_commit.proofs.hashing.+root_over.Goals as goal

pub returns-then-depth-eq0 : goal.returns-then-depth-eq0
returns-then-depth-eq0 t c =
    root_over-one c.args.hashes.now [] c.requires.some ∙ ap (λ (d : ℕ). root_over d c.args.hashes.now) (sym c.if-depth-eq0.true)

pub returns-then-hashes-half : goal.returns-then-hashes-half
returns-then-hashes-half t c =
    let lower : ℕ = c.args.depth - 1 in
    let next : suc lower ≡ c.args.depth = omega (arith, c.if-depth-eq0.false) in
    c.root_over.ensures
    ∙ sym (root_over-few lower c.args.hashes.now (omega (arith, c.if-hashes-half.true, c.leaf_count-half.ensures)))
    ∙ ap (λ (d : ℕ). root_over d c.args.hashes.now) next

pub returns : goal.returns
returns t c =
    let lower : ℕ = c.args.depth - 1 in
    let next : suc lower ≡ c.args.depth = omega (arith, c.if-depth-eq0.false) in
    let left = c.root_over-2.ensures ∙ ap (root_over lower) (c.split_at.ensures.front ∙ ap (λ (n : ℕ). take n c.args.hashes.now) c.leaf_count-half.ensures) in
    let right = c.root_over-3.ensures ∙ ap (root_over lower) (c.split_at.ensures.back ∙ ap (λ (n : ℕ). drop n c.args.hashes.now) c.leaf_count-half.ensures) in
    c.inner_hash.ensures ∙ ap₂ inner_hash left right
    ∙ sym (root_over-halves lower c.args.hashes.now (omega (arith, c.if-hashes-half.false, c.leaf_count-half.ensures)))
    ∙ ap (λ (d : ℕ). root_over d c.args.hashes.now) next
