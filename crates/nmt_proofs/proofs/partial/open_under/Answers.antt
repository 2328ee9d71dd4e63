use Rattle.std.proofs.Common.{◌≡◌, ◌∙◌, ◌==◌, ap, sym, length, ℕ, refl, arith, true, false}
use Rattle.std.proofs.lemmas.Bool.{ne_eqb}
use Rattle.nmt_tree.specs.Roots.{halvings}
use Rattle.nmt_tree.proofs.CountLemmas.{leaf_count-le}
use Rattle.nmt_proofs.specs.Parts.{given}
use Rattle.nmt_proofs.specs.Openings.{opened, one_digest, has_order}
use Rattle.nmt_proofs.specs.Partial.{digest_at}
use Rattle.nmt_proofs.proofs.Parts.SingleLemmas.{length-outside-one}
use Rattle.nmt_proofs.proofs.Parts.ValueLemmas.{none_unordered}
use Rattle.nmt_proofs.proofs.PartialLemmas.{single_count, single_folded}
use Rattle.nmt_proofs.proofs.partial.open_under.Goals as goal

-- a path has a node for each halving
pub returns-then-path-depth-clause-cause : goal.returns-then-path-depth-clause-cause
returns-then-path-depth-clause-cause c =
    ap (λ (k : ℕ). length c.args.path.now == k) (length-outside-one (halvings c.args.count) 0 c.args.leaf.now.from (given c.args.leaf.now.digest))
    ∙ ne_eqb (length c.args.path.now) (halvings c.args.count) (λ e. c.if-path-depth.true (e ∙ sym c.halvings-depth.ensures.value))

-- there are two nodes a leaf
pub fold-requires-clause-memory : goal.fold-requires-clause-memory
fold-requires-clause-memory c = omega (arith, leaf_count-le c.args.count c.requires.is_count, c.requires.room)

-- no digest: a join is not ordered
pub returns-in_default-clause-cause : goal.returns-in_default-clause-cause
returns-in_default-clause-cause c =
    let same : halvings c.args.count ≡ c.halvings-depth.result = sym c.halvings-depth.ensures.value in (
      single_count (halvings c.args.count) c.args.leaf.now.from c.args.leaf.now.digest c.args.path.now (c.if-path-depth.false ∙ c.halvings-depth.ensures.value),
      ap (λ (k : ℕ). has_order k (one_digest c.args.leaf.now.from c.args.leaf.now.digest) c.args.path.now) same
          ∙ none_unordered (opened c.halvings-depth.result 0 (one_digest c.args.leaf.now.from c.args.leaf.now.digest) c.args.path.now) (sym c.in_default.is ∙ c.fold.ensures.value),
    )

-- what it folds to is compared with the root
pub returns-then-eq-clause-cause : goal.returns-then-eq-clause-cause
returns-then-eq-clause-cause c =
    let checks = single_folded c.halvings-depth.result (halvings c.args.count) c.args.leaf.now.from c.args.leaf.now.digest c.in-Some.value (digest_at c.fold.new.nodes 1) (digest_at c.args.nodes.now 1)
    c.args.path.now c.eq.result true c.halvings-depth.ensures.value c.if-path-depth.false (sym c.in-Some.is ∙ c.fold.ensures.value) (c.fold.ensures.kept 1 (omega arith)) c.eq.ensures c.if-eq.true in (checks.0, checks.1, checks.2, refl)

pub returns-else-eq-clause-cause : goal.returns-else-eq-clause-cause
returns-else-eq-clause-cause c =
    single_folded c.halvings-depth.result (halvings c.args.count) c.args.leaf.now.from c.args.leaf.now.digest c.in-Some.value (digest_at c.fold.new.nodes 1) (digest_at c.args.nodes.now 1)
    c.args.path.now c.eq.result false c.halvings-depth.ensures.value c.if-path-depth.false (sym c.in-Some.is ∙ c.fold.ensures.value) (c.fold.ensures.kept 1 (omega arith)) c.eq.ensures c.if-eq.false
