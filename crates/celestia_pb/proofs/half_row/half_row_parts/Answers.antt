use Rattle.std.proofs.Common.{◌∙◌, sym}
use Rattle.celestia_pb.proofs.HalfRowLemmas.{wrong_end, right_end}
use Rattle.celestia_pb.proofs.half_row.half_row_parts.Goals as goal

-- something is left, or the number is no width
pub returns-then-not-are_all-clause-value : goal.returns-then-not-are_all-clause-value
returns-then-not-are_all-clause-value c =
    wrong_end c.args.bytes.now c.in_ok-count.behind.now c.in_ok-count.count c.in_ok-count.ensures.value c.in-Some.side c.in-Some.rest.now c.in-Some.ensures
    (sym c.are_all.ensures ∙ c.if-not-are_all.true)

-- half a row
pub returns-clause-value : goal.returns-clause-value
returns-clause-value c =
    right_end c.args.bytes.now c.in_ok-count.behind.now c.in_ok-count.count c.in_ok-count.ensures.value c.in-Some.side c.in-Some.rest.now c.in-Some.ensures
    (sym c.are_all.ensures ∙ c.if-not-are_all.false)
