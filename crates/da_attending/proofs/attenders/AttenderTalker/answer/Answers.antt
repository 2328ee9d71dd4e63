use Rattle.std.proofs.Common.{◌≡◌, ◌∙◌, Some, sym, ap, arith}
use Rattle.std.specs.Option.{option_map}
use Rattle.blob_feed.specs.Feeds.{NamedAnswer, headed, answered}
use Rattle.da_attending.specs.declared.handed.Handed.{Handed}
use Rattle.da_attending.specs.Attended.{item_in}
use Rattle.da_attending.specs.Attenders.{item_handed}
use Rattle.da_attending.proofs.LedLemmas.{led_more, refuses_answer}
use Rattle.da_attending.proofs.attenders.AttenderTalker.answer.Goals as goal

-- a header
pub returns-in-Some-Header-clause-led : goal.returns-in-Some-Header-clause-led
returns-in-Some-Header-clause-led c = λ goes first frames raw led counted handed.
    let is : item_in raw ≡ Some (headed c.in-Some-Header.header) =
    sym (c.in_ok-header.ensures raw handed)
    ∙ ap (option_map item_handed) (c.in-Some-Header.is ∙ ap (λ (h : Handed). Some h) c.in-Some-Header.field-0-is) in
    led_more first c.args.self.now frames led raw (headed c.in-Some-Header.header) is c.take_header.new.self c.take_header.new.text.items
    c.take_header.ensures.heard (omega (arith, counted, c.requires.few))

-- an answer that fits
pub returns-then-branch-clause-led : goal.returns-then-branch-clause-led
returns-then-branch-clause-led c = λ goes first frames raw led counted handed.
    let given : NamedAnswer = record { name = c.in-Some-Answer.name; answer = c.in-Some-Answer.answer } in
    let is : item_in raw ≡ Some (answered given) =
    sym (c.in_ok-header.ensures raw handed)
    ∙ ap (option_map item_handed) (c.in-Some-Answer.is ∙ ap (λ (h : Handed). Some h) c.in-Some-Answer.field-0-is) in
    led_more first c.args.self.now frames led raw (answered given) is c.take_answer.new.self c.take_answer.new.text.items
    (c.in_ok-take_answer-in-Some-Answer.ensures.heard c.if-branch.true) (omega (arith, counted, c.requires.few))

-- one that doesn't
pub returns-in-Some-Answer-clause-refused : goal.returns-in-Some-Answer-clause-refused
returns-in-Some-Answer-clause-refused c = λ unfit first frames raw led counted handed.
    let given : NamedAnswer = record { name = c.in-Some-Answer.name; answer = c.in-Some-Answer.answer } in
    let is : item_in raw ≡ Some (answered given) =
    sym (c.in_ok-header.ensures raw handed)
    ∙ ap (option_map item_handed) (c.in-Some-Answer.is ∙ ap (λ (h : Handed). Some h) c.in-Some-Answer.field-0-is) in
    refuses_answer first c.args.self.now frames led raw given is (c.in_ok-take_answer-in-Some-Answer.ensures.unfit c.if-branch.false)
