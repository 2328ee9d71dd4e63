use Rattle.std.proofs.Common.{[]}
use Rattle.da_watching.proofs.LightLemmas.{decided_judged, ended_judged}
use Rattle.da_watching.proofs.OnceLemmas.{lie_unproved, begins_once, replies_once, decides_once, ends_once}
use Rattle.da_watching.proofs.laws.watch_laws.Goals as goal

-- a proved sample isn't refused
pub returns-clause-apart : goal.returns-clause-apart
returns-clause-apart c = λ header frame reason roots lie proved.
    lie_unproved header frame reason (λ m. c.message_laws.ensures.refusal header m roots) lie proved

pub returns-clause-begins : goal.returns-clause-begins
returns-clause-begins c = begins_once (record { once = c.light_laws.ensures.once; state_once = c.light_laws.ensures.state_once })

pub returns-clause-replies : goal.returns-clause-replies
returns-clause-replies c = λ header plan frames frame one other roots.
    replies_once (record { once = c.light_laws.ensures.once; state_once = c.light_laws.ensures.state_once }) header plan frames frame
    (λ reason. returns-clause-apart c header frame reason roots) one other

pub returns-clause-decides : goal.returns-clause-decides
returns-clause-decides c = λ header.
    decides_once (record { once = c.light_laws.ensures.once; state_once = c.light_laws.ensures.state_once }) header []

pub returns-clause-ends : goal.returns-clause-ends
returns-clause-ends c = ends_once (record { once = c.light_laws.ensures.once; state_once = c.light_laws.ensures.state_once })

pub returns-clause-decided : goal.returns-clause-decided
returns-clause-decided c = decided_judged

pub returns-clause-ended : goal.returns-clause-ended
returns-clause-ended c = ended_judged
