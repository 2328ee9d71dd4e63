use Rattle.std.proofs.Common.{◌∙◌, ap, sym, length, true, false, Ok, Err}
use Rattle.std.proofs.lemmas.Result.{err_from_is_err_and}
use Rattle.nmt_tree.specs.Roots.{halvings}
use Rattle.nmt_proofs.specs.declared.opening.OpenRefusal.{OpenRefusal}
use Rattle.nmt_proofs.specs.declared.opening.OpenRefusal.TheVariants.{Incomplete}
use Rattle.nmt_proofs.specs.Openings.{one_digest}
use Rattle.nmt_proofs.specs.Complete.{absence_break}
use Rattle.nmt_proofs.proofs.Parts.PublicLemmas.{opens_absence, breaks_with}
use Rattle.nmt_proofs.proofs.Parts.CauseLemmas.{first_refusal}
use Rattle.nmt_proofs.proofs.Neighbors.AbsenceLemmas.{IsAnswer, absence_refused, absence_by_leaf}
use Rattle.nmt_proofs.proofs.opening.open_absent.Goals as goal
use Rattle.nmt_proofs.proofs.opening.open_absent.Goals.{After-from_residual, Then-excludes, Else-excludes}

-- the refusal of the nodes is passed on
refused : (c : After-from_residual) → IsAnswer (halvings c.args.n) c.args.pos c.args.name.now c.args.leaf.now c.args.nodes.now c.args.root.now c.from_residual.result
refused c =
    let p = err_from_is_err_and c.from_residual.result c.from_residual.ensures.1 in
    absence_refused (halvings c.args.n) c.args.pos c.args.name.now c.args.leaf.now c.args.nodes.now c.args.root.now c.in_err-open_complete.field-0.0 c.open_complete.result c.from_residual.result
    c.open_complete.ensures c.in_err-open_complete.was (p.1 ∙ ap (λ (e : OpenRefusal). Err e) p.2)

-- the leaf leaves no place either
accepted : (c : Then-excludes) → IsAnswer (halvings c.args.n) c.args.pos c.args.name.now c.args.leaf.now c.args.nodes.now c.args.root.now (Ok tt)
accepted c =
    absence_by_leaf (halvings c.args.n) c.args.pos c.args.name.now c.args.leaf.now c.args.nodes.now c.args.root.now c.open_complete.result true
    c.open_complete.ensures c.in_ok-open_complete.was (sym c.if-excludes.true ∙ c.excludes.ensures)

-- the leaf leaves a place
broken : (c : Else-excludes) → IsAnswer (halvings c.args.n) c.args.pos c.args.name.now c.args.leaf.now c.args.nodes.now c.args.root.now (Err (Incomplete (length c.args.nodes.now)))
broken c =
    absence_by_leaf (halvings c.args.n) c.args.pos c.args.name.now c.args.leaf.now c.args.nodes.now c.args.root.now c.open_complete.result false
    c.open_complete.ensures c.in_ok-open_complete.was (sym c.if-excludes.false ∙ c.excludes.ensures)

pub returns-in_err-open_complete-clause-accepts : goal.returns-in_err-open_complete-clause-accepts
returns-in_err-open_complete-clause-accepts c =
    opens_absence (halvings c.args.n) c.args.pos c.args.name.now c.args.leaf.now c.args.nodes.now c.args.root.now c.from_residual.result (refused c)

pub returns-in_err-open_complete-clause-incomplete : goal.returns-in_err-open_complete-clause-incomplete
returns-in_err-open_complete-clause-incomplete c =
    breaks_with (halvings c.args.n) (one_digest c.args.pos c.args.leaf.now) c.args.nodes.now c.args.root.now
    (absence_break (halvings c.args.n) c.args.pos c.args.name.now c.args.leaf.now c.args.nodes.now) c.from_residual.result (refused c)

pub returns-in_err-open_complete-clause-first : goal.returns-in_err-open_complete-clause-first
returns-in_err-open_complete-clause-first c = first_refusal c.from_residual.result _ _ _ _ (refused c)

pub returns-then-excludes-clause-accepts : goal.returns-then-excludes-clause-accepts
returns-then-excludes-clause-accepts c =
    opens_absence (halvings c.args.n) c.args.pos c.args.name.now c.args.leaf.now c.args.nodes.now c.args.root.now (Ok tt) (accepted c)

pub returns-then-excludes-clause-incomplete : goal.returns-then-excludes-clause-incomplete
returns-then-excludes-clause-incomplete c =
    breaks_with (halvings c.args.n) (one_digest c.args.pos c.args.leaf.now) c.args.nodes.now c.args.root.now
    (absence_break (halvings c.args.n) c.args.pos c.args.name.now c.args.leaf.now c.args.nodes.now) (Ok tt) (accepted c)

pub returns-then-excludes-clause-first : goal.returns-then-excludes-clause-first
returns-then-excludes-clause-first c = first_refusal (Ok tt) _ _ _ _ (accepted c)

pub returns-else-excludes-clause-accepts : goal.returns-else-excludes-clause-accepts
returns-else-excludes-clause-accepts c =
    opens_absence (halvings c.args.n) c.args.pos c.args.name.now c.args.leaf.now c.args.nodes.now c.args.root.now (Err (Incomplete (length c.args.nodes.now))) (broken c)

pub returns-else-excludes-clause-incomplete : goal.returns-else-excludes-clause-incomplete
returns-else-excludes-clause-incomplete c =
    breaks_with (halvings c.args.n) (one_digest c.args.pos c.args.leaf.now) c.args.nodes.now c.args.root.now
    (absence_break (halvings c.args.n) c.args.pos c.args.name.now c.args.leaf.now c.args.nodes.now) (Err (Incomplete (length c.args.nodes.now))) (broken c)

pub returns-else-excludes-clause-first : goal.returns-else-excludes-clause-first
returns-else-excludes-clause-first c = first_refusal (Err (Incomplete (length c.args.nodes.now))) _ _ _ _ (broken c)
