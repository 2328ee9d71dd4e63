use Rattle.std.proofs.Common.{arith, ◌-◌, ◌*◌, length}
use Rattle.square_layout.specs.Plans.{planned, plan_width}
use Rattle.square_layout.proofs.AcceptedLemmas.{blobs_between}
use Rattle.square_layout.proofs.NameLemmas.{plan_names_rise}
use Rattle.square_layout.proofs.PlanStanding.{plan_stands}
use Rattle.square_layout.proofs.SquareLemmas.{plan_is_square, plan_has_shares}
use Rattle.square_layout.proofs.ReadBackLemmas.{plan_blobs}
use Rattle.square_layout.proofs.PlanLemmas.{starts-least, plan_fits, planned_fits, planned_is_laid}
use Rattle.square_layout.proofs.laws.plan_laws.Goals as goal

pub returns-clause-least : goal.returns-clause-least
returns-clause-least c end blobs places = starts-least end end blobs places (omega arith)

pub returns-clause-fits : goal.returns-clause-fits
returns-clause-fits c = plan_fits

pub returns-clause-held : goal.returns-clause-held
returns-clause-held c = planned_fits

pub returns-clause-same : goal.returns-clause-same
returns-clause-same c = planned_is_laid

pub returns-clause-stands : goal.returns-clause-stands
returns-clause-stands c = plan_stands

pub returns-clause-square : goal.returns-clause-square
returns-clause-square c = plan_is_square

pub returns-clause-shares : goal.returns-clause-shares
returns-clause-shares c = plan_has_shares

pub returns-clause-behind : goal.returns-clause-behind
returns-clause-behind c = plan_blobs

pub returns-clause-rising : goal.returns-clause-rising
returns-clause-rising c = λ plan named.
    plan_names_rise plan (plan_width plan * plan_width plan - length (planned plan)) (blobs_between plan.blobs named)
