use Rattle.std.proofs.Common.{◌∙◌, ◌+◌, ◌-◌, ◌*◌, sym, arith}
use Rattle.da_words.proofs.ValueLemmas.{next_digit, too_large}
use Rattle.da_words.proofs.values.digits_value.Goals as goal

-- what is above the greatest number stays so
pub returns-then-next-from : goal.returns-then-next-from
returns-then-next-from c =
    let digit = c.in-Some.digit.now in
    sym (c.loop-digit.invariant.so_far
    ∙ next_digit c.args.most c.loop-digit.value digit c.loop-digit.rest.now c.in-Some.after.now
    c.in-Some.ensures.cases.0 (sym c.if-not-is_digit.ensures)
    ∙ too_large c.args.most (10 * c.loop-digit.value + (digit - 48)) c.in-Some.after.now
    (omega (arith, c.if-next-from.true)))
