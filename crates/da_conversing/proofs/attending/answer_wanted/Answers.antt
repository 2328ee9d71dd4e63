use Rattle.std.proofs.Common.{◌≡◌, ◌∙◌, ℕ, refl, sym, subst}
use Rattle.std.specs.Prelude.{MatchOption}
use Rattle.std.specs.declared.option.Option.{Option}
use Rattle.std.specs.String.{string_bytes}
use Rattle.da_status.specs.declared.status.Asked.TheVariants.{At}
use Rattle.da_status.specs.declared.status.Status.TheVariants.{BadRequest}
use Rattle.da_files.specs.Requests.{namespaces_in}
use Rattle.da_following.specs.Follow.{each_once}
use Rattle.da_conversing.specs.Attends.{AttendsOver}
use Rattle.da_conversing.proofs.attending.answer_wanted.Goals as goal

-- a namespace can't be followed
pub returns-in-Some-clause-course : goal.returns-in-Some-clause-course
returns-in-Some-clause-course g c =
    subst (λ (o : Option ℕ). MatchOption o (AttendsOver g.I.Inputs g.O.Sink c.args.inputs.now c.args.inputs.now c.args.out.now c.args.out.now (each_once (namespaces_in c.args.wanted.now)) (string_bytes c.args.name) (BadRequest (At c.in-Some.number)))
    (λ at. (BadRequest (At c.in-Some.number) ≡ BadRequest (At at)) × (c.args.inputs.now ≡ c.args.inputs.now) × (c.args.out.now ≡ c.args.out.now)))
    (sym c.in-Some.is ∙ c.first_other.ensures) (refl, refl, refl)

-- each can
pub returns-in-None-clause-course : goal.returns-in-None-clause-course
returns-in-None-clause-course g c =
    subst (λ (o : Option ℕ). MatchOption o (AttendsOver g.I.Inputs g.O.Sink c.args.inputs.now c.answer_each.new.inputs c.args.out.now c.answer_each.new.out (each_once (namespaces_in c.args.wanted.now)) (string_bytes c.args.name) c.answer_each.result)
    (λ at. (c.answer_each.result ≡ BadRequest (At at)) × (c.answer_each.new.inputs ≡ c.args.inputs.now) × (c.answer_each.new.out ≡ c.args.out.now)))
    (sym c.in-None.is ∙ c.first_other.ensures) c.answer_each.ensures.course
