use Rattle.std.proofs.lemmas.List.{take_all}
use Rattle.std.proofs.Common.{◌≡◌, ◌∙◌, ◌+◌, ◌<◌, ℕ, List, [], ◌∷◌, ◌++◌, refl, sym, ap, ap₂, arith, length, length-append, map, take}
use Rattle.namespace_id.specs.declared.cells.Axis.{Axis}
use Rattle.namespace_id.specs.declared.namespaces.Namespace.{Namespace}
use Rattle.namespace_id.specs.declared.shares.Share.{Share}
use Rattle.namespace_id.specs.Cells.{leaf_namespace}
use Rattle.axis_roots.specs.declared.message.messages.Message.{Message}
use Rattle.axis_roots.specs.Messages.{position}
use Rattle.axis_roots.specs.Sets.{along_in, sample_names, is_bare}
use Rattle.axis_roots.proofs.Messages.SetLemmas.{bare_here}
use Rattle.befp_verify.proofs.AlongLemmas.{along_more, along_same, gathered_more, all_at, few_so_far}
use Rattle.befp_verify.proofs.verifying.gather_along.Goals as goal
use Rattle.befp_verify.proofs.verifying.gather_along.Goals.{then-is_along, else-is_along}

pub loop-at-init : goal.loop-at-init
unfolding along_in
loop-at-init c = record { number = refl; positions = refl; leaf_names = refl; copies = refl }

-- fewer are along the axis so far than there are cells
pub bounds-known-count : goal.bounds-known-count
bounds-known-count c = omega (arith, few_so_far c.args.axis c.args.cells.now c.loop-at.at c.loop-at.count c.loop-at-test.true c.loop-at.invariant.number)

pub leaf_namespace-requires-clause-width : goal.leaf_namespace-requires-clause-width
leaf_namespace-requires-clause-width c = c.requires.width

-- a bare cell is in the square
pub leaf_namespace-requires-clause-cell : goal.leaf_namespace-requires-clause-cell
leaf_namespace-requires-clause-cell c =
    bare_here c.args.k c.args.axis c.index-cells-at.result
    (all_at (is_bare c.args.k c.args.axis) c.args.cells.now c.loop-at.at c.index-cells-at.result c.loop-at-test.true c.index-cells-at.is c.requires.bare)
    (sym c.is_along.ensures ∙ c.if-is_along.true)

pub bounds-names-count : goal.bounds-names-count
bounds-names-count c = omega (arith, few_so_far c.args.axis c.args.cells.now c.loop-at.at c.loop-at.count c.loop-at-test.true c.loop-at.invariant.number)

pub bounds-shares-count : goal.bounds-shares-count
bounds-shares-count c = omega (arith, few_so_far c.args.axis c.args.cells.now c.loop-at.at c.loop-at.count c.loop-at-test.true c.loop-at.invariant.number)

-- one more where it is along the axis
pub loop-at-preserved : goal.loop-at-preserved
loop-at-preserved c =
    let axis : Axis = c.args.axis in
    let cells : List Message = c.args.cells.now in
    let i : ℕ = c.loop-at.at in
    let m : Message = c.index-cells-at.result in
    let so_far : List Message = along_in axis (take i cells) in
    let inside : i < length cells = c.loop-at-test.true in
    let few : c.loop-at.count < length cells = few_so_far axis cells i c.loop-at.count inside c.loop-at.invariant.number in
    elim c.if-is_along.branch [
      | then-is_along w ↦
          let more : along_in axis (take (i + 1) cells) ≡ so_far ++ m ∷ [] = along_more axis cells i m inside c.index-cells-at.is (sym c.is_along.ensures ∙ w.if-is_along.true) in
          record {
            number = omega (arith, w.count-is, c.loop-at.invariant.number, ap length more, length-append so_far (m ∷ []));
            positions = ap₂ (λ (x : ℕ) (y : List ℕ). take x y) w.count-is w.known-is
                ∙ gathered_more (λ x. position axis x.cell) c.loop-at.known c.loop-at.count _ so_far _ m (omega (arith, few)) more w.position.ensures c.loop-at.invariant.positions;
            leaf_names = ap₂ (λ (x : ℕ) (y : List Namespace). take x y) w.count-is w.names-is
                ∙ gathered_more (λ x. leaf_namespace c.args.k x.cell x.share) c.loop-at.names c.loop-at.count _ so_far _ m (omega (arith, few)) more w.leaf_namespace.ensures c.loop-at.invariant.leaf_names;
            copies = ap₂ (λ (x : ℕ) (y : List Share). take x y) w.count-is w.shares-is
                ∙ gathered_more (λ x. x.share) c.loop-at.shares c.loop-at.count _ so_far _ m (omega (arith, few)) more refl c.loop-at.invariant.copies;
          }
      | else-is_along w ↦
          let same : along_in axis (take (i + 1) cells) ≡ so_far = along_same axis cells i m inside c.index-cells-at.is (sym c.is_along.ensures ∙ w.if-is_along.false) in
          record {
            number = w.count-is ∙ c.loop-at.invariant.number ∙ sym (ap length same);
            positions = ap₂ (λ (x : ℕ) (y : List ℕ). take x y) w.count-is w.known-is ∙ c.loop-at.invariant.positions ∙ sym (ap (map (λ x. position axis x.cell)) same);
            leaf_names = ap₂ (λ (x : ℕ) (y : List Namespace). take x y) w.count-is w.names-is ∙ c.loop-at.invariant.leaf_names ∙ sym (ap (sample_names c.args.k) same);
            copies = ap₂ (λ (x : ℕ) (y : List Share). take x y) w.count-is w.shares-is ∙ c.loop-at.invariant.copies ∙ sym (ap (map (λ x. x.share)) same);
          }
    ]

-- behind the last cell, those so far are all
pub returns-clause-count : goal.returns-clause-count
returns-clause-count c =
    c.loop-at.invariant.number
    ∙ ap (λ (ms : List Message). length (along_in c.args.axis ms)) (take_all c.loop-at.at c.args.cells.now (omega arith))

pub returns-clause-known : goal.returns-clause-known
returns-clause-known c =
    c.loop-at.invariant.positions
    ∙ ap (λ (ms : List Message). map (λ m. position c.args.axis m.cell) (along_in c.args.axis ms))
    (take_all c.loop-at.at c.args.cells.now (omega arith))

pub returns-clause-names : goal.returns-clause-names
returns-clause-names c =
    c.loop-at.invariant.leaf_names
    ∙ ap (λ (ms : List Message). sample_names c.args.k (along_in c.args.axis ms))
    (take_all c.loop-at.at c.args.cells.now (omega arith))

pub returns-clause-shares : goal.returns-clause-shares
returns-clause-shares c =
    c.loop-at.invariant.copies
    ∙ ap (λ (ms : List Message). map (λ m. m.share) (along_in c.args.axis ms))
    (take_all c.loop-at.at c.args.cells.now (omega arith))
