use Rattle.std.proofs.Common.{◌≡◌, ◌∙◌, Bool, ◌||◌, List, ◌++◌, ◌∷◌, [], refl, sym, ap}
use Rattle.std.specs.List.{list_any}
use Rattle.std.proofs.lemmas.List.Folds.{list_any-append}
use Rattle.std.proofs.Math.Bool.{or-false}
use Rattle.axis_roots.specs.Sets.{is_along}
use Rattle.axis_roots.specs.declared.message.messages.Message.{Message}
use Rattle.frame_payloads.specs.kinds.Fraud.{set_cell_at}
use Rattle.frame_payloads.proofs.Fields.Many.{kept_first, kept_more, kept_none, kept_all}
use Rattle.frame_payloads.proofs.kinds.fraud_set.after_cells.Goals.{then-shown, else-shown}
use Rattle.frame_payloads.proofs.kinds.fraud_set.after_cells.Goals as goal

pub loop-init : goal.loop-init
loop-init c = ([], kept_first (set_cell_at c.args.axis c.args.index) c.args.count c.args.bytes.now, refl)

pub returns-in_err-cell : goal.returns-in_err-cell
returns-in_err-cell c =
    rw c.from_residual.ensures
    (kept_none (set_cell_at c.args.axis c.args.index) c.args.count c.loop.counter c.loop.rest.now c.loop.invariant.0 _ c.loop-test.true c.in_err-cell.ensures c.loop.invariant.1)

-- the next cell is shown, or one before it was
pub loop-preserved : goal.loop-preserved
loop-preserved c =
    let cells : List Message = c.loop.invariant.0 in
    let cell : Message = c.in_ok-cell.cell in
    let here : Bool = is_along c.args.axis cell in
    let same : c.if-shown.shown ≡ (c.loop.shown || here) = elim c.if-shown.branch [
      | then-shown w ↦ w.shown-is ∙ w.if-shown.true ∙ sym (ap (λ (b : Bool). b || here) w.if-shown.true)
      | else-shown w ↦ w.shown-is ∙ w.is_along-shown.ensures ∙ sym (ap (λ (b : Bool). b || here) w.if-shown.false)
    ] in (
      cells ++ cell ∷ [],
      kept_more (set_cell_at c.args.axis c.args.index) c.args.count c.loop.counter c.loop.rest.now cells cell c.in_ok-cell.after.now _ c.loop-test.true c.in_ok-cell.ensures c.loop.invariant.1,
      same ∙ ap (λ (b : Bool). b || here) c.loop.invariant.2 ∙ sym (list_any-append (is_along c.args.axis) cells (cell ∷ []) ∙ ap (λ (b : Bool). list_any (is_along c.args.axis) cells || b) (or-false here)),
    )

pub returns : goal.returns
returns c = (
  c.loop.invariant.0,
  kept_all (set_cell_at c.args.axis c.args.index) c.args.count c.loop.counter c.loop.rest.now c.loop.invariant.0 _ c.loop-test.false c.loop.invariant.1,
  c.loop.invariant.2,
)
