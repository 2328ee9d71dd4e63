use Rattle.std.proofs.Common.{◌∙◌, ℕ, List, Ok, Some, inr, ap, subst}
use Rattle.da_files.specs.Frames.{header_in}
use Rattle.da_conversing.specs.Inputs.{HasValue}
use Rattle.da_conversing.specs.Gathers.{GathersUnder}
use Rattle.da_conversing.proofs.gathering.answer_gather.Goals as goal

-- HEADER is a header
pub returns-in-Ok-header_of-clause-course : goal.returns-in-Ok-header_of-clause-course
returns-in-Ok-header_of-clause-course g c =
    inr (inr (
      c.in-Ok-header_of.header,
      c.header_of.new.inputs,
      subst (λ (name : List ℕ). HasValue header_in (g.I.Inputs.files c.args.inputs.now) name (Ok c.in-Ok-header_of.header)) c.in-Ok.ensures c.in-Ok-header_of.ensures.header,
      (c.in-Ok-header_of.ensures.picked ∙ ap (λ (name : List ℕ). Some name) c.in-Ok.ensures, c.in-Ok-header_of.ensures.picks),
      c.in-Ok-header_of.ensures.files,
      subst (λ (name : List ℕ). GathersUnder g.I.Inputs g.O.Sink c.header_of.new.inputs c.answer_header.new.inputs c.args.out.now c.answer_header.new.out c.in-Ok-header_of.header name c.answer_header.result)
          c.in-Ok-word_at.ensures c.answer_header.ensures.course,
    ))
