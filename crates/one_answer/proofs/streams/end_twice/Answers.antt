use Rattle.std.proofs.Common.{◌∙◌, sym}
use Rattle.one_answer.proofs.streams.end_twice.Goals as goal

pub returns : goal.returns
returns c = λ bytes stands stood. c.end.ensures.refusal bytes stands ∙ sym (c.end-2.ensures.refusal bytes stood)
