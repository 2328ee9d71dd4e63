use Rattle.std.proofs.Common.{◌∙◌, ℕ, List, Ok, Some, inr, ap, subst}
use Rattle.std.specs.String.{string_bytes}
use Rattle.da_files.specs.Requests.{namespaces_in}
use Rattle.da_conversing.specs.Inputs.{HasValue}
use Rattle.da_conversing.specs.Attends.{wanted_in, AttendsTo}
use Rattle.da_conversing.proofs.attending.answer_attend.Goals as goal

-- WANTED is a list of requests for namespaces
pub returns-in-Ok-wanted_of-clause-course : goal.returns-in-Ok-wanted_of-clause-course
returns-in-Ok-wanted_of-clause-course g c =
    let wanted : List ℕ = c.in-Ok-wanted_of.wanted.items in
    inr (inr (
      wanted,
      c.wanted_of.new.inputs,
      subst (λ (name : List ℕ). HasValue wanted_in (g.I.Inputs.files c.args.inputs.now) name (Ok wanted)) c.in-Ok.ensures c.in-Ok-wanted_of.ensures.wanted,
      (c.in-Ok-wanted_of.ensures.picked ∙ ap (λ (name : List ℕ). Some name) c.in-Ok.ensures, c.in-Ok-wanted_of.ensures.picks),
      c.in-Ok-wanted_of.ensures.files,
      subst (λ (name : List ℕ). AttendsTo g.I.Inputs g.O.Sink c.wanted_of.new.inputs c.answer_wanted.new.inputs c.args.out.now c.answer_wanted.new.out (namespaces_in wanted) name c.answer_wanted.result)
          c.in-Ok-word_at.ensures
          (subst (λ (bytes : List ℕ). AttendsTo g.I.Inputs g.O.Sink c.wanted_of.new.inputs c.answer_wanted.new.inputs c.args.out.now c.answer_wanted.new.out (namespaces_in bytes) (string_bytes c.in-Ok-word_at.second) c.answer_wanted.result)
          c.deref.ensures.value c.answer_wanted.ensures.course),
    ))
