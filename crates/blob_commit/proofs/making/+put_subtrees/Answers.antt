use Rattle.std.proofs.Common.{◌+◌, arith}
use Rattle.std.proofs.lemmas.Result.{on_ok_weaker}
use Rattle.blob_commit.proofs.OwnRowLemmas.{aligned-le}
use Rattle.blob_commit.proofs.MakingLemmas.{subtrees_none, subtrees_next, aligned_first}
use Rattle.blob_commit.proofs.making.+put_subtrees.Goals as goal

pub returns-in_default : goal.returns-in_default
returns-in_default t c = λ leaves e. subtrees_none leaves c.args.from c.args.sizes.now c.args.subtrees.now.items c.in_default.ensures.cases

-- the first subtree ends within the tree
pub full_digest-requires-clause-within : goal.full_digest-requires-clause-within
full_digest-requires-clause-within t c =
    let first = aligned_first c.args.from c.args.tree.now.count c.in-Some.size.now c.args.sizes.now c.in-Some.others.now c.in-Some.ensures.cases.0 c.requires.places in
    aligned-le (c.args.from + c.in-Some.size.now) c.args.tree.now.count c.in-Some.others.now first.2

pub overflow_add-from : goal.overflow_add-from
overflow_add-from t c =
    let first = aligned_first c.args.from c.args.tree.now.count c.in-Some.size.now c.args.sizes.now c.in-Some.others.now c.in-Some.ensures.cases.0 c.requires.places in
    let within = aligned-le (c.args.from + c.in-Some.size.now) c.args.tree.now.count c.in-Some.others.now first.2 in
    omega (arith, within, c.requires.small)

pub returns : goal.returns
returns t c =
    on_ok_weaker c.put_subtrees.result
    (λ more. λ leaves e.
    subtrees_next leaves c.args.from c.in-Some.size.now c.args.sizes.now c.in-Some.others.now c.full_digest.result c.args.subtrees.now.items c.push.new.self.items c.put_subtrees.new.subtrees.items
    c.in-Some.ensures.cases.0 (c.full_digest.ensures leaves e) c.in-Ok.ensures.items (more leaves e))
    c.put_subtrees.ensures
