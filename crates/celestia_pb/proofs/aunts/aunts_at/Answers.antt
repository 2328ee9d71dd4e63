use Rattle.std.proofs.Common.{◌∙◌, ◌+◌, ◌-◌, ◌++◌, ◌∷◌, [], List, ℕ, length, sym, ap}
use Rattle.celestia_pb.specs.Aunts.{aunts_at}
use Rattle.celestia_pb.proofs.AuntLemmas.{aunts_at-none, aunts_at-end, aunts_at-wrong}
use Rattle.celestia_pb.proofs.ValueLoops.{reading_stops, reading_ends, reading_refuses}
use Rattle.celestia_pb.proofs.AuntLoops.{gathering_begins, gathering_goes}
use Rattle.celestia_pb.proofs.aunts.aunts_at.Goals as goal

-- all is left
pub loop-count-init : goal.loop-count-init
loop-count-init c = gathering_begins c.args.number 11 c.args.bytes.now c.new-up.result c.new-up.ensures

-- none is there
pub returns-then-not-begins_part-clause-value : goal.returns-then-not-begins_part-clause-value
returns-then-not-begins_part-clause-value c =
    reading_stops (aunts_at c.args.number) _ _ _ _ _ c.loop-count.invariant.all (aunts_at-end c.args.number (11 - c.loop-count.count) c.loop-count.rest.now (sym c.begins_part.ensures ∙ c.if-not-begins_part.true))

-- one is wrong
pub returns-in_default-clause-value : goal.returns-in_default-clause-value
returns-in_default-clause-value c =
    reading_refuses (aunts_at c.args.number) _ _ _ _ _ c.loop-count.invariant.all c.loop-count-test.true (length c.loop-count.rest.now)
    (aunts_at-wrong c.args.number (11 - (c.loop-count.count + 1)) c.loop-count.rest.now (sym c.begins_part.ensures ∙ c.if-not-begins_part.false) c.in_default.ensures.value)

-- one more is gathered
pub loop-count-preserved : goal.loop-count-preserved
loop-count-preserved c =
    gathering_goes c.args.number 11 c.args.bytes.now c.loop-count.up c.loop-count.count c.loop-count.rest.now c.loop-count.invariant
    c.loop-count-test.true (sym c.begins_part.ensures ∙ c.if-not-begins_part.false) c.in-Some.part.now c.in-Some.after.now c.in-Some.ensures.value
    c.in-Some.ensures.shorter c.push.new.self (c.push.ensures ∙ ap (λ (h : List ℕ). c.loop-count.up ++ h ∷ []) c.hash_of.ensures)

-- no more may be there
pub returns-clause-value : goal.returns-clause-value
returns-clause-value c = reading_ends (aunts_at c.args.number) _ _ _ _ _ c.loop-count.invariant.all c.loop-count-test.false (aunts_at-none c.args.number c.loop-count.rest.now)
