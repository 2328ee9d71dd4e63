use Rattle.std.proofs.Common.{◌∙◌}
use Rattle.da_wire.specs.Reading.{raw_seen}
use Rattle.da_wire.proofs.BriefLemmas.{found_brief, missed_brief, no_brief, some_brief, on_err}
use Rattle.da_wire.proofs.briefs.next_brief.Goals as goal

-- no frame of these kinds stands there
pub returns-in_default-clause-after : goal.returns-in_default-clause-after
returns-in_default-clause-after c = no_brief c.args.bytes.now c.in_default.field-0 c.in_default.ensures.value

-- memory runs out in place of a value
pub returns-in_err-value-clause-memory : goal.returns-in_err-value-clause-memory
returns-in_err-value-clause-memory c =
    on_err c.from_residual.result _ (some_brief c.args.bytes.now (raw_seen c.in-Ok.frame) c.in-Ok.ensures.value c.in_err-value.ensures)

-- what the payload holds
pub returns-in-Some-clause-after : goal.returns-in-Some-clause-after
returns-in-Some-clause-after c =
    found_brief c.args.bytes.now (raw_seen c.in-Ok.frame) c.in-Some.value c.in-Ok.ensures.value (c.in_ok-value.ensures ∙ c.in-Some.is)

-- the payload isn't in the grammar
pub returns-in-None-clause-after : goal.returns-in-None-clause-after
returns-in-None-clause-after c =
    missed_brief c.args.bytes.now (raw_seen c.in-Ok.frame) c.in-Ok.ensures.value (c.in_ok-value.ensures ∙ c.in-None.is)
