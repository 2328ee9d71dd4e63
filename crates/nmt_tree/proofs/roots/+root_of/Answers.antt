use Rattle.std.proofs.Common.{◌≡◌, ◌∙◌, ◌<◌, ◌+◌, ◌/◌, length, arith, sym, subst, ℕ, IsTrue}
use Rattle.namespace_id.proofs.PowerLemmas.{power-half}
use Rattle.nmt_tree.specs.Roots.{is_leaf_count}
use Rattle.nmt_tree.proofs.RootLemmas.{root_one, root_halves}
use Rattle.nmt_tree.proofs.roots.+root_of.Goals as goal

pub root_of-left-requires : goal.root_of-left-requires
root_of-left-requires t c =
    let halves = power-half (length c.args.names.now) c.requires.count c.if-names-eq1.false in
    let some : 0 < length c.args.names.now = halves.1 in
    (omega arith, (subst (λ (k : ℕ). IsTrue (is_leaf_count k)) (sym c.split_at.ensures.front_len) halves.0, omega arith))

pub root_of-right-requires : goal.root_of-right-requires
root_of-right-requires t c =
    let halves = power-half (length c.args.names.now) c.requires.count c.if-names-eq1.false in
    let same_sum : length c.args.names.now / 2 + length c.args.names.now / 2 ≡ length c.args.names.now = halves.2 in
    let right_len : length c.split_at.result.1.now ≡ length c.args.names.now / 2 = omega arith in
    let some : 0 < length c.args.names.now = halves.1 in
    (omega arith, (subst (λ (k : ℕ). IsTrue (is_leaf_count k)) (sym right_len) halves.0, omega arith))

pub returns-then-names-eq1 : goal.returns-then-names-eq1
returns-then-names-eq1 t c = λ depth e.
    c.leaf.ensures ∙ root_one c.args.names.now c.args.shares.now _ _ depth c.if-names-eq1.true c.requires.pairs e

pub returns : goal.returns
returns t c = λ depth e.
    root_halves c.args.names.now c.args.shares.now depth
    c.split_at.result.0.now c.split_at.result.1.now c.split_at-2.result.0.now c.split_at-2.result.1.now
    c.root_of-left.result c.root_of-right.result c.node.result
    c.if-names-eq1.false e
    c.split_at.ensures.front c.split_at.ensures.back c.split_at-2.ensures.front c.split_at-2.ensures.back
    c.root_of-left.ensures c.root_of-right.ensures
    c.split_at.ensures.front_len c.split_at.ensures.back_len
    c.node.ensures
