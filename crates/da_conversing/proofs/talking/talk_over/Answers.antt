use Rattle.std.proofs.Common.{inr}
use Rattle.std.specs.String.{string_bytes}
use Rattle.da_conversing.proofs.PickLemmas.{opened, file_of}
use Rattle.da_conversing.proofs.talking.talk_over.Goals as goal

-- TALK was picked, and the talk over it came to its end
pub returns-clause-talk : goal.returns-clause-talk
returns-clause-talk g c =
    inr (
      c.pick.new.self,
      c.talk.result,
      record {
        files = c.in-Ok.ensures.files;
        picked = c.in-Ok.ensures.picked;
        picks = c.in-Ok.ensures.picks;
        rest = opened _ (g.I.Inputs.files c.args.inputs.now) (string_bytes c.args.name) (g.I.Inputs.rest c.pick.new.self) _ c.in-Ok.ensures.rest;
      },
      c.talk.ensures.talk,
      file_of (g.I.Inputs.files c.args.inputs.now) (string_bytes c.args.name) _ (g.I.Inputs.rest c.pick.new.self) _
          (opened _ (g.I.Inputs.files c.args.inputs.now) (string_bytes c.args.name) (g.I.Inputs.rest c.pick.new.self) _ c.in-Ok.ensures.rest)
          c.talk.ensures.talk.heard,
      c.status_of.ensures,
    )
