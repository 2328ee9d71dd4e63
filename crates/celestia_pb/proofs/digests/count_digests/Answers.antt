use Rattle.std.proofs.Common.{◌∙◌, ◌+◌, ◌-◌, length, sym, arith}
use Rattle.celestia_pb.specs.Digests.{digests_at, entry_digest}
use Rattle.celestia_pb.proofs.DigestLemmas.{digests_at-none, digests_at-end, digests_at-wrong}
use Rattle.celestia_pb.proofs.ValueLoops.{reading_stops, reading_ends, reading_refuses, counting_begins}
use Rattle.celestia_pb.proofs.CountLoops.{digest_goes}
use Rattle.celestia_pb.proofs.digests.count_digests.Goals as goal

-- all is left
pub loop-count-init : goal.loop-count-init
loop-count-init c = counting_begins entry_digest 92 (digests_at c.args.number) c.args.most c.args.bytes.now c.bytes_law.ensures

-- none is there
pub returns-then-not-begins_part-clause-value : goal.returns-then-not-begins_part-clause-value
returns-then-not-begins_part-clause-value c =
    reading_stops (digests_at c.args.number) _ _ _ _ _ c.loop-count.invariant.all
    (digests_at-end c.args.number (c.args.most - c.loop-count.count) c.loop-count.rest.now (sym c.begins_part.ensures ∙ c.if-not-begins_part.true))

-- one is wrong
pub returns-in_default-clause-value : goal.returns-in_default-clause-value
returns-in_default-clause-value c =
    reading_refuses (digests_at c.args.number) _ _ _ _ _ c.loop-count.invariant.all c.loop-count-test.true (length c.loop-count.rest.now)
    (digests_at-wrong c.args.number (c.args.most - (c.loop-count.count + 1)) c.loop-count.rest.now (sym c.begins_part.ensures ∙ c.if-not-begins_part.false) c.in_default.ensures)

-- one more is counted
pub loop-count-preserved : goal.loop-count-preserved
loop-count-preserved c =
    digest_goes c.args.number c.args.most c.args.bytes.now c.loop-count.count c.loop-count.rest.now (omega arith) c.loop-count.invariant
    c.loop-count-test.true (sym c.begins_part.ensures ∙ c.if-not-begins_part.false) c.in-Some._digest c.in-Some.after.now c.in-Some.ensures

-- no more may be there
pub returns-clause-value : goal.returns-clause-value
returns-clause-value c =
    reading_ends (digests_at c.args.number) _ _ _ _ _ c.loop-count.invariant.all c.loop-count-test.false (digests_at-none c.args.number c.loop-count.rest.now)
