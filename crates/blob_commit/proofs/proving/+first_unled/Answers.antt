use Rattle.std.proofs.Common.{◌≡◌, ◌∙◌, sym, true}
use Rattle.std.proofs.lemmas.Bool.{true≢false}
use Rattle.blob_commit.proofs.WalkLemmas.{unled-none, unled-here, unled-more}
use Rattle.blob_commit.proofs.proving.+first_unled.Goals as goal

pub returns-in_default : goal.returns-in_default
returns-in_default t c = unled-none c.args.root.now c.args.k c.args.index c.args.number c.args.rows.now c.in_default.ensures.cases

pub returns-then-not-is_led : goal.returns-then-not-is_led
returns-then-not-is_led t c =
    unled-here c.args.root.now c.args.k c.args.index c.args.number c.args.rows.now c.in-Some.others.now c.in-Some.row.now c.in-Some.ensures.cases.0
    (λ h. let yes : c.is_led.result ≡ true = c.is_led.ensures.1 h in absurd (true≢false (sym yes ∙ c.if-not-is_led.true)))

pub returns : goal.returns
returns t c =
    c.first_unled.ensures ∙ unled-more c.args.root.now c.args.k c.args.index c.args.number c.args.rows.now c.in-Some.others.now c.in-Some.row.now c.in-Some.ensures.cases.0
    (c.is_led.ensures.0 c.if-not-is_led.false)
