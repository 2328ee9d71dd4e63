use Rattle.std.proofs.Common.{Some, inr, subst}
use Rattle.std.specs.String.{string_bytes}
use Rattle.da_status.specs.declared.status.Status.{Status}
use Rattle.da_conversing.specs.Tellings.{IsStatus}
use Rattle.da_conversing.proofs.PickLemmas.{opened, file_of}
use Rattle.da_conversing.proofs.attending.talk_over.Goals as goal

-- TALK was picked, and the talk over it came to its end
pub returns-clause-talk : goal.returns-clause-talk
returns-clause-talk g c =
    let name = string_bytes c.args.name in
    let rest = opened _ (g.I.Inputs.files c.args.inputs.now) name (g.I.Inputs.rest c.pick.new.self) _ c.in-Ok.ensures.rest in
    inr (
      c.pick.new.self,
      c.talk-end.new.attender.status,
      c.talk-end.result,
      record { files = c.in-Ok.ensures.files; picked = c.in-Ok.ensures.picked; picks = c.in-Ok.ensures.picks; rest = rest },
      c.talk-end.ensures.talk,
      file_of (g.I.Inputs.files c.args.inputs.now) name _ (g.I.Inputs.rest c.pick.new.self) _ rest c.talk-end.ensures.talk.heard,
      subst (λ (kept : Status). IsStatus 1 c.talk-end.result (Some kept) c.status_of.result) c.status.ensures c.status_of.ensures.status,
    )
