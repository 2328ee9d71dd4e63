-- The answer of a repair, as contracts see it.
use Rattle.std.specs.Prelude.{◌≡◌, List}
use Rattle.std.specs.List.{Contains}
use Rattle.data_header.specs.Headers.{Roots}
use Rattle.square_layout.specs.Blocks.{SquareShares}
use Rattle.axis_roots.specs.declared.message.messages.Message.{Message}
use Rattle.axis_roots.specs.Openings.{IsProved}
use Rattle.axis_roots.specs.Own.{NamesClash}
use Rattle.repair_queue.specs.declared.verdict.Verdict.{Verdict}
use Rattle.repair_queue.specs.declared.verdict.Verdict.TheVariants.{Whole, Fraud, Missing, Clash}
use Rattle.repair_queue.specs.declared.ending.Ending.{Ending}
use Rattle.repair_queue.specs.declared.ending.Ending.TheVariants as ended
use Rattle.repair_queue.specs.Verdicts.{VerdictParts, whole, missing, fraud, clash}

-- an answer as contracts see it
abbrev pub verdict_parts : Verdict → VerdictParts
verdict_parts (Whole square) = whole square
verdict_parts (Fraud proof) = fraud proof.claim
verdict_parts (Missing cells) = missing cells
verdict_parts (Clash pair) = clash pair.left pair.right

-- the answer with which a repair ends early
abbrev pub EndsAs : Ending → Verdict → Type 0
EndsAs (ended.Fraud proof) verdict = verdict_parts verdict ≡ fraud proof.claim
EndsAs (ended.Clash pair) verdict = verdict_parts verdict ≡ clash pair.left pair.right

-- a sample of a list that is proved and the square name a collision
abbrev pub SomeNames : Roots → List Message → SquareShares → Type 0
SomeNames header ms square = (m : Message) × Contains ms m × IsProved header m × NamesClash m square
