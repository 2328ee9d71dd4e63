use Rattle.std.proofs.Common.{inr, subst}
use Rattle.std.specs.String.{string_bytes}
use Rattle.data_header.specs.Headers.{Roots}
use Rattle.da_gathering.specs.Gathered.{gathering}
use Rattle.da_conversing.specs.Tellings.{TellsOver}
use Rattle.da_conversing.proofs.gathering.answer_header.Goals as goal

-- the talk is that of a repair under the header
pub returns-clause-course : goal.returns-clause-course
returns-clause-course g c =
    inr (subst (λ (h : Roots). TellsOver g.I.Inputs g.O.Sink (gathering h) (λ kept. kept) 1 (string_bytes c.args.name) c.args.inputs.now c.talk_over.new.inputs c.args.out.now c.talk_over.new.out c.talk_over.result)
    c.in-Ok-new.ensures.header c.talk_over.ensures.talk)
