use Rattle.std.proofs.Common.{◌≡◌, ◌∙◌, ℕ, ◌*◌, ◌+◌, ◌<◌, List, Some, ◌++◌, sym, ap, subst, subst₂, arith, inr}
use Rattle.std.specs.List.{AllByRecursion}
use Rattle.namespace_id.specs.declared.digests.Digest.{Digest}
use Rattle.namespace_id.specs.Digests.{AreDigests}
use Rattle.nmt_tree.specs.Roots.{halvings}
use Rattle.nmt_proofs.specs.Merging.{Branch, merged_nodes, HoldsAlong, BranchesAgree}
use Rattle.data_header.specs.Headers.{Roots, AreRoots}
use Rattle.axis_roots.specs.Claims.{ClaimParts, Accepts}
use Rattle.befp_verify.specs.declared.compacting.Placed.{Placed}
use Rattle.befp_verify.specs.Placed.{placed_branches, HasNodes, AreUnderOne, NamesTwoOf}
use Rattle.befp_verify.specs.Compacting.{bare_all, with_set, branches_of}
use Rattle.befp_verify.proofs.CompactLemmas.{compacted_accepts}
use Rattle.befp_verify.proofs.ReadyLemmas.{Ready, ready, wide_claim, two_named}
use Rattle.befp_verify.proofs.compacting.make_set.Goals as goal

pub first_clash-requires-clause-places : goal.first_clash-requires-clause-places
first_clash-requires-clause-places c =
    let width : c.header.inside.k ≡ c.args.header.now.k = ap (λ (r : Roots). r.k) c.header.view_is in
    let roots : AreRoots c.args.header.now = subst AreRoots c.header.view_is c.header.invariant in
    let cells : c.deref.result.now ≡ c.args.claim.now.cells = c.deref.ensures.value ∙ ap (λ (p : ClaimParts). p.cells) c.claim.view_is in
    let made : placed_branches c.in_ok-branches.branches.items ≡ branches_of c.args.header.now.k c.args.claim.now.axis c.args.claim.now.cells =
    c.in_ok-branches.ensures
    ∙ (λ i. branches_of (width i) (ap (λ (p : ClaimParts). p.axis) c.claim.view_is i) (cells i)) in
    let all : Ready c.args.header.now.k c.in_ok-branches.branches.items =
    ready c.args.header.now c.args.claim.now c.in_ok-branches.branches.items roots.width c.requires.accepted c.requires.wide made in
    subst (λ (k : ℕ). AllByRecursion (λ p. p.pos < 2 * k) c.deref-2.result.now) (sym width)
    (subst (AllByRecursion (λ p. p.pos < 2 * c.args.header.now.k)) (sym c.deref-2.ensures.value) all.places)

pub first_clash-requires-clause-open : goal.first_clash-requires-clause-open
first_clash-requires-clause-open c =
    let width : c.header.inside.k ≡ c.args.header.now.k = ap (λ (r : Roots). r.k) c.header.view_is in
    let roots : AreRoots c.args.header.now = subst AreRoots c.header.view_is c.header.invariant in
    let cells : c.deref.result.now ≡ c.args.claim.now.cells = c.deref.ensures.value ∙ ap (λ (p : ClaimParts). p.cells) c.claim.view_is in
    let made : placed_branches c.in_ok-branches.branches.items ≡ branches_of c.args.header.now.k c.args.claim.now.axis c.args.claim.now.cells =
    c.in_ok-branches.ensures
    ∙ (λ i. branches_of (width i) (ap (λ (p : ClaimParts). p.axis) c.claim.view_is i) (cells i)) in
    let all : Ready c.args.header.now.k c.in_ok-branches.branches.items =
    ready c.args.header.now c.args.claim.now c.in_ok-branches.branches.items roots.width c.requires.accepted c.requires.wide made in
    subst (λ (k : ℕ). AreUnderOne (halvings (2 * k)) (placed_branches c.deref-2.result.now)) (sym width)
    (subst (λ (ps : List Placed). AreUnderOne (halvings (2 * c.args.header.now.k)) (placed_branches ps)) (sym c.deref-2.ensures.value) all.open_all)

-- two of its cells name a collision
pub returns-in-Some : goal.returns-in-Some
returns-in-Some c =
    let width : c.header.inside.k ≡ c.args.header.now.k = ap (λ (r : Roots). r.k) c.header.view_is in
    let cells : c.deref.result.now ≡ c.args.claim.now.cells = c.deref.ensures.value ∙ ap (λ (p : ClaimParts). p.cells) c.claim.view_is in
    let made : placed_branches c.in_ok-branches.branches.items ≡ branches_of c.args.header.now.k c.args.claim.now.axis c.args.claim.now.cells =
    c.in_ok-branches.ensures
    ∙ (λ i. branches_of (width i) (ap (λ (p : ClaimParts). p.axis) c.claim.view_is i) (cells i)) in (
      c.requires.wide,
      two_named c.args.header.now.k c.args.claim.now (placed_branches c.deref-2.result.now) c.in-Some.clash (ap placed_branches c.deref-2.ensures.value ∙ made)
          (subst (λ (k : ℕ). NamesTwoOf (halvings (2 * k)) (placed_branches c.deref-2.result.now) c.in-Some.clash) width c.in-Some.ensures),
    )

pub merge-requires-clause-paths : goal.merge-requires-clause-paths
merge-requires-clause-paths c =
    let width : c.header.inside.k ≡ c.args.header.now.k = ap (λ (r : Roots). r.k) c.header.view_is in
    let roots : AreRoots c.args.header.now = subst AreRoots c.header.view_is c.header.invariant in
    let cells : c.deref.result.now ≡ c.args.claim.now.cells = c.deref.ensures.value ∙ ap (λ (p : ClaimParts). p.cells) c.claim.view_is in
    let made : placed_branches c.in_ok-branches.branches.items ≡ branches_of c.args.header.now.k c.args.claim.now.axis c.args.claim.now.cells =
    c.in_ok-branches.ensures
    ∙ (λ i. branches_of (width i) (ap (λ (p : ClaimParts). p.axis) c.claim.view_is i) (cells i)) in
    let all : Ready c.args.header.now.k c.in_ok-branches.branches.items =
    ready c.args.header.now c.args.claim.now c.in_ok-branches.branches.items roots.width c.requires.accepted c.requires.wide made in
    let depth : halvings (2 * c.args.header.now.k) ≡ 0 + c.halvings.result = ap (λ (k : ℕ). halvings (2 * k)) (sym width) ∙ sym c.halvings.ensures.value ∙ (let e : c.halvings.result ≡ 0 + c.halvings.result = omega arith in e) in
    subst (λ (n : ℕ). AllByRecursion (HasNodes n) c.deref-3.result.now) depth
    (subst (AllByRecursion (HasNodes (halvings (2 * c.args.header.now.k)))) (sym c.deref-3.ensures.value) all.paths)

-- the claim with the set is accepted
pub returns : goal.returns
returns c =
    let width : c.header.inside.k ≡ c.args.header.now.k = ap (λ (r : Roots). r.k) c.header.view_is in
    let roots : AreRoots c.args.header.now = subst AreRoots c.header.view_is c.header.invariant in
    let cells : c.deref.result.now ≡ c.args.claim.now.cells = c.deref.ensures.value ∙ ap (λ (p : ClaimParts). p.cells) c.claim.view_is in
    let made : placed_branches c.in_ok-branches.branches.items ≡ branches_of c.args.header.now.k c.args.claim.now.axis c.args.claim.now.cells =
    c.in_ok-branches.ensures
    ∙ (λ i. branches_of (width i) (ap (λ (p : ClaimParts). p.axis) c.claim.view_is i) (cells i)) in
    let k : ℕ = c.args.header.now.k in
    let claim : ClaimParts = c.args.claim.now in
    let nodes : List Digest = c.merge.new.nodes.items in
    let wide = wide_claim claim c.requires.wide in
    let depth : c.halvings.result ≡ halvings (2 * k) = c.halvings.ensures.value ∙ ap (λ (n : ℕ). halvings (2 * n)) width in
    let g : Digest = c.no_node-beside.result in
    let merged : nodes ≡ merged_nodes (halvings (2 * k)) 0 0 g (branches_of k claim.axis claim.cells) =
    c.in_ok-merge.ensures ∙ ap (λ (l : List Digest). l ++ merged_nodes c.halvings.result 0 0 g (placed_branches c.deref-3.result.now)) c.new-nodes.ensures.items
    ∙ (λ i. merged_nodes (depth i) 0 0 g ((ap placed_branches c.deref-3.ensures.value ∙ made) i)) in
    let alike : HoldsAlong (BranchesAgree (halvings (2 * k))) (branches_of k claim.axis claim.cells) =
    subst₂ (λ (n : ℕ) (bs : List Branch). HoldsAlong (BranchesAgree (halvings (2 * n))) bs) width (ap placed_branches c.deref-2.ensures.value ∙ made) c.in_default.ensures in
    let digests : AreDigests nodes = subst AreDigests c.deref-4.ensures.value c.digests_law.ensures in
    let bared : c.in_ok-bare_messages.field-0.items ≡ bare_all claim.axis claim.cells =
    c.in_ok-bare_messages.ensures
    ∙ (λ i. bare_all (ap (λ (p : ClaimParts). p.axis) c.claim.view_is i) ((c.deref-5.ensures.value ∙ ap (λ (p : ClaimParts). p.cells) c.claim.view_is) i)) in
    let parts : ClaimParts = record { axis = c.claim.inside.axis; index = c.claim.inside.index; cells = c.in_ok-bare_messages.field-0.items; set = Some nodes } in
    let same : parts ≡ with_set claim nodes =
    (λ i. record { axis = ap (λ (p : ClaimParts). p.axis) c.claim.view_is i; index = ap (λ (p : ClaimParts). p.index) c.claim.view_is i; cells = bared i; set = Some nodes }) in
    let accepts : Accepts c.args.header.now (with_set claim nodes) =
    compacted_accepts c.args.header.now claim g nodes roots.width c.requires.accepted wide.0 wide.1 alike merged digests in
    inr (c.requires.wide, (nodes, same), subst (Accepts c.args.header.now) (sym same) accepts)
