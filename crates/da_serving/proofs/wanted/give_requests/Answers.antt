use Rattle.std.proofs.Common.{◌∙◌}
use Rattle.da_status.specs.declared.status.Status.TheVariants.{Done}
use Rattle.da_files.specs.Frames.{WritesText}
use Rattle.da_serving.specs.Wanted.{requests_bytes}
use Rattle.da_status.proofs.EndLemmas.{once_within}
use Rattle.da_serving.proofs.wanted.give_requests.Goals as goal

-- what is written are the requests
pub returns-in-Ok : goal.returns-in-Ok
returns-in-Ok g c =
    once_within (WritesText Done c.deref.result.now) (WritesText Done (requests_bytes c.args.axis c.args.cells.now)) _ _ _ _ _ _
    (λ w s h. (h.0 ∙ c.deref.ensures.value ∙ c.in-Ok.ensures, h.1)) c.put.ensures
