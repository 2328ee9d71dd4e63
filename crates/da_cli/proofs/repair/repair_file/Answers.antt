use Rattle.std.proofs.Common.{◌≡◌, ◌∙◌, ℕ, List, [], ◌++◌, Ok, None, Result, sym, subst, refl}
use Rattle.std.specs.Prelude.{MatchOption}
use Rattle.std.specs.declared.option.Option.{Option}
use Rattle.std.specs.String.{string_bytes}
use Rattle.data_header.specs.Headers.{Roots, AreRoots}
use Rattle.axis_roots.specs.declared.message.messages.Message.{Message}
use Rattle.axis_roots.specs.Messages.{message_refusal}
use Rattle.axis_roots.specs.Openings.{IsProved}
use Rattle.repair_queue.specs.Answers.{verdict_parts}
use Rattle.repair_queue.specs.SessionParts.{SessionStands}
use Rattle.repair_queue.specs.Verdicts.{IsVerdict}
use Rattle.da_wire.specs.Frames.{frames_of}
use Rattle.da_status.specs.declared.status.Status.TheVariants.{BadInput}
use Rattle.da_status.specs.Outcome.{EndsAtOnce}
use Rattle.da_judging.specs.Repair.{Repairs}
use Rattle.da_cli.specs.Feeding.{proved_among}
use Rattle.da_cli.specs.Streamed.{FeedsFile}
use Rattle.da_status.proofs.EndLemmas.{once_within}
use Rattle.da_judging.proofs.RepairLemmas.{repairs}
use Rattle.da_cli.proofs.repair.repair_file.Goals as goal

-- the verdict is one over the proved samples of the file
pub give_verdict-requires : goal.give_verdict-requires
give_verdict-requires g c =
    let header = c.args.header.now in
    let file = subst (λ (r : Result ℕ ℕ). FeedsFile g.I.Inputs 1 (string_bytes c.args.name) c.args.inputs.now c.feed_file.new.inputs header
    (λ (more : List Message). (ms : List Message) → SessionStands c.args.session ms → SessionStands c.feed_file.new.session (ms ++ more)) (Ok r)) c.in-Ok-fed.is c.in-Ok.ensures.fed in
    let ms : List Message = proved_among header (frames_of file.0) in
    (ms, subst (λ (h : Roots). IsVerdict h ms (verdict_parts c.finish.result)) c.in-Ok.ensures.header (c.finish.ensures.verdict ms (file.4 [] c.requires.none)))

-- these are the proved samples of its frames
pub returns-in-Ok-fed : goal.returns-in-Ok-fed
returns-in-Ok-fed g c =
    let header = c.args.header.now in
    let file = subst (λ (r : Result ℕ ℕ). FeedsFile g.I.Inputs 1 (string_bytes c.args.name) c.args.inputs.now c.feed_file.new.inputs header
    (λ (more : List Message). (ms : List Message) → SessionStands c.args.session ms → SessionStands c.feed_file.new.session (ms ++ more)) (Ok r)) c.in-Ok-fed.is c.in-Ok.ensures.fed in
    let raws = frames_of file.0 in
    let ms : List Message = proved_among header raws in
    let verdict = c.finish.result in
    let is = subst (λ (h : Roots). IsVerdict h ms (verdict_parts verdict)) c.in-Ok.ensures.header (c.finish.ensures.verdict ms (file.4 [] c.requires.none)) in
    let roots : AreRoots header = subst AreRoots c.header.view_is c.header.invariant in
    let accepted : (m : Message) → IsProved header m → message_refusal header m ≡ None = λ m proved. (c.message_laws.ensures.refusal header m roots proved.sized).1 proved in
    let ends = once_within _ (Repairs header raws) _ _ _ _ _ _
    (repairs c.verdict_laws.ensures.same_proved header raws ms c.in-Ok-fed.lies verdict (verdict_parts verdict) refl (c.fed_laws.ensures.only header raws) (c.fed_laws.ensures.all header accepted raws)
    (file.3 ∙ c.fed_laws.ensures.lies header raws) is) c.give_verdict.ensures in (
      file.0,
      file.1,
      subst (λ (o : Option ℕ). MatchOption o
          (EndsAtOnce (Repairs header raws) (g.O.Sink.taken c.args.out.now) (g.O.Sink.taken c.give_verdict.new.out) (g.O.Sink.faults c.args.out.now) (g.O.Sink.faults c.give_verdict.new.out)
          (c.give_verdict.new.out ≡ c.args.out.now) c.give_verdict.result)
          (λ at. (c.give_verdict.result ≡ BadInput 1 at) × (c.give_verdict.new.out ≡ c.args.out.now))) (sym file.2) ends,
    )
