use Rattle.std.proofs.Common.{◌≡◌, ◌∙◌, ◌+◌, ◌-◌, ◌<◌, ℕ, List, ◌++◌, length, get_or, sym, ap, subst, arith, append-nil}
use Rattle.std.specs.List.{AllByRecursion}
use Rattle.std.proofs.lemmas.Result.{on_ok_weaker}
use Rattle.std.proofs.lemmas.List.{get_or_default}
use Rattle.namespace_id.specs.declared.digests.Digest.{Digest}
use Rattle.namespace_id.specs.Digests.{no_digest}
use Rattle.nmt_proofs.proofs.Parts.ListLemmas.{each-take, each-drop}
use Rattle.nmt_proofs.proofs.Parts.StepLemmas.{is_none, is_some, twice_half}
use Rattle.befp_verify.specs.declared.compacting.Placed.{Placed}
use Rattle.befp_verify.specs.Placed.{HasNodes}
use Rattle.befp_verify.proofs.BranchLemmas.{nodes_none, nodes_one, nodes_halved, have_fewer, first_has, joined_nodes}
use Rattle.befp_verify.proofs.compacting.+merge.Goals as goal

-- an interval that holds none takes one node
pub returns-then-is_empty : goal.returns-then-is_empty
returns-then-is_empty t c =
    c.in-Ok.ensures.items
    ∙ ap (λ (l : List Digest). c.args.nodes.now.items ++ l)
    (sym (nodes_none c.args.depth c.args.start c.args.turns c.args.beside c.args.branches.now (is_none _ _ c.is_empty.ensures c.if-is_empty.true)))

-- a place that is shown takes none
pub returns-then-depth-eq0 : goal.returns-then-depth-eq0
returns-then-depth-eq0 t c =
    sym (append-nil c.args.nodes.now.items)
    ∙ ap (λ (l : List Digest). c.args.nodes.now.items ++ l)
    (sym (nodes_one c.args.depth c.args.start c.args.turns c.args.beside c.args.branches.now (is_some _ _ c.is_empty.ensures c.if-is_empty.false) c.if-depth-eq0.true))

pub merge-requires : goal.merge-requires
merge-requires t c =
    let fewer : AllByRecursion (HasNodes (c.args.turns + (c.args.depth - 1))) c.args.branches.now =
    have_fewer (c.args.turns + c.args.depth) (c.args.turns + (c.args.depth - 1)) c.args.branches.now (omega arith) c.requires.paths in (
      omega arith,
      (
        omega arith,
        (
          omega (arith, twice_half c.args.depth (omega arith)),
          (
            c.requires.turned,
            subst (AllByRecursion (HasNodes (c.args.turns + (c.args.depth - 1)))) (sym c.split_at.ensures.front) (each-take _ c.count_before.result c.args.branches.now fewer),
          ),
        ),
      ),
    )

pub merge-requires-2 : goal.merge-requires-2
merge-requires-2 t c =
    let fewer : AllByRecursion (HasNodes (c.args.turns + 1 + (c.args.depth - 1))) c.args.branches.now =
    have_fewer (c.args.turns + c.args.depth) (c.args.turns + 1 + (c.args.depth - 1)) c.args.branches.now (omega arith) c.requires.paths in
    let some : 0 < length c.args.branches.now = is_some _ _ c.is_empty.ensures c.if-is_empty.false in
    let first = first_has (c.args.turns + c.args.depth) c.args.branches.now c.index-branches-0.result some c.requires.paths in
    let same = ap (λ (p : Placed). length p.opening.path) c.index-branches-0.is in (
      omega arith,
      (
        omega arith,
        (
          omega (arith, twice_half c.args.depth (omega arith), c.leaf_count.ensures),
          (
            omega (arith, first, same, ap length c.nodes-path.ensures.value, c.nodes-path.ensures.bound),
            subst (AllByRecursion (HasNodes (c.args.turns + 1 + (c.args.depth - 1)))) (sym c.split_at.ensures.back) (each-drop _ c.count_before.result c.args.branches.now fewer),
          ),
        ),
      ),
    )

-- the nodes of both halves
pub returns : goal.returns
returns t c =
    let ps : List Placed = c.args.branches.now in
    let o : Placed = c.index-branches-0.result in
    let some : 0 < length ps = is_some _ _ c.is_empty.ensures c.if-is_empty.false in
    let path : c.nodes-path.result.now ≡ (get_or ps 0 o).opening.path = c.nodes-path.ensures.value in
    let first = first_has (c.args.turns + c.args.depth) ps o some c.requires.paths in
    let here : c.args.turns < length c.nodes-path.result.now = omega (arith, first, ap length path) in
    let later : c.args.turns + (c.args.depth - 1) < length c.nodes-path.result.now = omega (arith, first, ap length path) in
    on_ok_weaker c.merge-2.result
    (joined_nodes _ _ c.args.nodes.now.items _ _ _
    (nodes_halved c.args.depth c.args.start c.args.turns (c.args.start + c.leaf_count.result) c.count_before.result c.args.beside _ _ o ps c.split_at.result.0.now c.split_at.result.1.now
    some c.if-depth-eq0.false (ap (λ (n : ℕ). c.args.start + n) c.leaf_count.ensures) c.count_before.ensures.count c.split_at.ensures.front c.split_at.ensures.back
    (get_or_default c.nodes-path.result.now c.args.turns _ no_digest here ∙ ap (λ (l : List Digest). get_or l c.args.turns no_digest) path)
    (get_or_default c.nodes-path.result.now (c.args.turns + (c.args.depth - 1)) _ no_digest later ∙ ap (λ (l : List Digest). get_or l (c.args.turns + (c.args.depth - 1)) no_digest) path))
    c.in_ok-merge.ensures) c.merge-2.ensures
