-- Why a sample is refused in a talk (docs/FORMATS.md, "Payloads").
use Rattle.axis_roots.specs.declared.message.messages.CheckRefusal.{CheckRefusal}
use Rattle.axis_roots.specs.declared.message.messages.CheckRefusal.TheVariants.{OutOfSquare, NodeCount, Unordered, OtherRoot}
use Rattle.frame_payloads.specs.declared.refusals.Reason.{Reason}
use Rattle.frame_payloads.specs.declared.refusals.Reason.TheVariants.{FirstCheck, SecondCheck, ThirdCheck, FourthCheck}

-- the reason of a refusal of a sample: the number of the first check that fails
abbrev pub sample_reason : CheckRefusal → Reason
sample_reason OutOfSquare = FirstCheck
sample_reason NodeCount = SecondCheck
sample_reason Unordered = ThirdCheck
sample_reason OtherRoot = FourthCheck
