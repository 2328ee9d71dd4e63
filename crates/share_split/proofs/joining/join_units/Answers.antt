use Rattle.std.proofs.Common.{◌∙◌, ap, sym, Ok}
use Rattle.share_split.specs.Walks.{Sequence, units_in}
use Rattle.share_split.proofs.Reading.JoinLaws.{units_law, units_whole}
use Rattle.share_split.proofs.joining.join_units.Goals as goal

-- no shares are no units
pub returns-in_default-clause-units : goal.returns-in_default-clause-units
returns-in_default-clause-units c =
    (units_law c.args.shares.now c.new.result.items c.shares_law.ensures).0
    (ap (units_in c.args.shares.now) (c.in_ok-sequence.ensures ∙ ap Ok c.in_default.is) ∙ ap Ok (sym c.new.ensures.items))

-- shares that are read so are these units
pub returns-clause-units : goal.returns-clause-units
returns-clause-units c =
    (units_law c.args.shares.now c.in_ok-placed.placed.units.items c.shares_law.ensures).0
    (units_whole c.args.shares.now c.in-Some.sequence c.as_slice.result.now c.in_ok-placed.placed.units.items c.as_slice-2.result.now
    (c.in_ok-sequence.ensures ∙ ap Ok c.in-Some.is) (c.as_slice.ensures.value ∙ ap (λ (s : Sequence). s.content) c.sequence.view_is)
    c.in_ok-placed.ensures.units (c.as_slice-2.ensures.value ∙ c.in_ok-placed.ensures.starts) (sym c.bad_reserved.ensures ∙ c.in-None.is))
