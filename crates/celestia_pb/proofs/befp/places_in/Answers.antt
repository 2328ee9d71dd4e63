use Rattle.std.proofs.Common.{◌∙◌, true, false, sym, ap}
use Rattle.celestia_pb.specs.declared.befp.Outline.{Outline}
use Rattle.celestia_pb.specs.Reading.{then_read}
use Rattle.celestia_pb.specs.Befp.{befp_axis, places_by}
use Rattle.celestia_pb.proofs.Steps.{err_reads}
use Rattle.celestia_pb.proofs.BefpLemmas.{place_wrong, axis_wrong, places_end}
use Rattle.celestia_pb.proofs.befp.places_in.Goals as goal

-- a place is wrong
pub returns-in_err-seen-clause-claim : goal.returns-in_err-seen-clause-claim
returns-in_err-seen-clause-claim c =
    err_reads _ c.from_residual.result _ _
    (ap (λ (o : Outline). then_read (befp_axis c.args.told) (places_by o c.args.bytes.now)) (sym c.outline_at-outline.ensures)
    ∙ place_wrong c.args.told _ _ c.in_err-seen.ensures.value)
    c.from_residual.ensures

-- the fields behind them are
pub returns-in_err-accused-clause-claim : goal.returns-in_err-accused-clause-claim
returns-in_err-accused-clause-claim c =
    err_reads _ c.from_residual-in_err-accused.result _ _
    (ap (λ (o : Outline). then_read (befp_axis c.args.told) (places_by o c.args.bytes.now)) (sym c.outline_at-outline.ensures)
    ∙ axis_wrong c.args.told _ (c.in_ok-seen.seen, c.in_ok-seen.after.now) _ c.in_ok-seen.ensures.value c.in_err-accused.ensures.value)
    c.from_residual-in_err-accused.ensures

-- something isn't there
pub returns-then-not-is_all-clause-claim : goal.returns-then-not-is_all-clause-claim
returns-then-not-is_all-clause-claim c =
    ap (λ (o : Outline). then_read (befp_axis c.args.told) (places_by o c.args.bytes.now)) (sym c.outline_at-outline.ensures)
    ∙ places_end c.args.told _ (c.in_ok-seen.seen, c.in_ok-seen.after.now) (c.in_ok-accused.accused, c.in_ok-accused.rest.now) false
    c.in_ok-seen.ensures.value c.in_ok-accused.ensures.value (sym c.is_all.ensures ∙ c.if-not-is_all.true)

-- all is
pub returns-clause-claim : goal.returns-clause-claim
returns-clause-claim c =
    ap (λ (o : Outline). then_read (befp_axis c.args.told) (places_by o c.args.bytes.now)) (sym c.outline_at-outline.ensures)
    ∙ places_end c.args.told _ (c.in_ok-seen.seen, c.in_ok-seen.after.now) (c.in_ok-accused.accused, c.in_ok-accused.rest.now) true
    c.in_ok-seen.ensures.value c.in_ok-accused.ensures.value (sym c.is_all.ensures ∙ c.if-not-is_all.false)
