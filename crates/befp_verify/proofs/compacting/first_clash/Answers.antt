use Rattle.std.proofs.Common.{◌∙◌, ◌-◌, sym, subst₂, arith}
use Rattle.std.proofs.lemmas.List.{length-map}
use Rattle.nmt_tree.specs.Roots.{halvings}
use Rattle.nmt_proofs.specs.Merging.{Branch, BranchesAgree, IsBranch}
use Rattle.befp_verify.specs.Placed.{placed_of, placed_branches}
use Rattle.befp_verify.proofs.NeighborLemmas.{placed_at, contains_at, one_root, some_named, none_named, along_next, branch_at}
use Rattle.befp_verify.proofs.compacting.first_clash.Goals as goal

pub clash_between-found-requires-clause-a_count : goal.clash_between-found-requires-clause-a_count
clash_between-found-requires-clause-a_count c =
    (placed_at (IsBranch (halvings c.args.n) c.requires.open.0) c.args.branches.now (c.loop-i.i - 1) c.index-branches-i.result (omega arith) c.index-branches-i.is c.requires.open.1).opening.count

pub clash_between-found-requires-clause-b_count : goal.clash_between-found-requires-clause-b_count
clash_between-found-requires-clause-b_count c =
    (placed_at (IsBranch (halvings c.args.n) c.requires.open.0) c.args.branches.now c.loop-i.i c.index-branches-i-in-loop-i.result (omega arith) c.index-branches-i-in-loop-i.is c.requires.open.1).opening.count

pub clash_between-found-requires-clause-root : goal.clash_between-found-requires-clause-root
clash_between-found-requires-clause-root c =
    one_root (halvings c.args.n) (placed_branches c.args.branches.now) (placed_of c.index-branches-i.result) (placed_of c.index-branches-i-in-loop-i.result) c.requires.open.0
    (placed_at (IsBranch (halvings c.args.n) c.requires.open.0) c.args.branches.now (c.loop-i.i - 1) c.index-branches-i.result (omega arith) c.index-branches-i.is c.requires.open.1)
    (placed_at (IsBranch (halvings c.args.n) c.requires.open.0) c.args.branches.now c.loop-i.i c.index-branches-i-in-loop-i.result (omega arith) c.index-branches-i-in-loop-i.is c.requires.open.1)

pub returns-then-is_some : goal.returns-then-is_some
returns-then-is_some c =
    some_named (halvings c.args.n) (placed_branches c.args.branches.now) (placed_of c.index-branches-i.result) (placed_of c.index-branches-i-in-loop-i.result) c.clash_between-found.result
    (contains_at c.args.branches.now (c.loop-i.i - 1) c.index-branches-i.result (omega arith) c.index-branches-i.is)
    (contains_at c.args.branches.now c.loop-i.i c.index-branches-i-in-loop-i.result (omega arith) c.index-branches-i-in-loop-i.is)
    c.clash_between-found.ensures (sym c.is_some.ensures ∙ c.if-is_some.true)

pub loop-i-preserved : goal.loop-i-preserved
loop-i-preserved c =
    let x : Branch = placed_of c.index-branches-i.result in
    let y : Branch = placed_of c.index-branches-i-in-loop-i.result in
    let alike : BranchesAgree (halvings c.args.n) x y = none_named (halvings c.args.n) x y c.clash_between-found.result c.clash_between-found.ensures (sym c.is_some.ensures ∙ c.if-is_some.false) in
    along_next (BranchesAgree (halvings c.args.n)) (placed_branches c.args.branches.now) c.loop-i.i y c.loop-i.auto.i (omega (arith, length-map c.args.branches.now placed_of, c.loop-i-test.true)) c.loop-i.invariant
    (subst₂ (BranchesAgree (halvings c.args.n))
    (branch_at c.args.branches.now (c.loop-i.i - 1) c.index-branches-i.result y (omega arith) c.index-branches-i.is)
    (branch_at c.args.branches.now c.loop-i.i c.index-branches-i-in-loop-i.result y (omega arith) c.index-branches-i-in-loop-i.is) alike)
