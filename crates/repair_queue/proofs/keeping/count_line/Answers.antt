use Rattle.std.proofs.Common.{◌∙◌, ℕ, ◌+◌, ◌*◌, ◌<◌, refl, sym, ap, subst, arith}
use Rattle.repair_queue.specs.declared.counts.Counts.{Counts}
use Rattle.repair_queue.specs.Pools.{slot_in}
use Rattle.repair_queue.specs.Boards.{mark_of}
use Rattle.repair_queue.specs.Counts.{count_of, pending, AreQueued}
use Rattle.repair_queue.specs.Keeping.{IsCountedTo}
use Rattle.repair_queue.proofs.Counting.CountLineLemmas.{none_so, known_so, unknown_so, few_so}
use Rattle.repair_queue.proofs.keeping.count_line.Goals.{then-not-is_found, else-not-is_found}
use Rattle.repair_queue.proofs.keeping.count_line.Goals as goal

-- none is counted
pub loop-pos-init : goal.loop-pos-init
loop-pos-init c = record {
  width = refl;
  next = refl;
  so = none_so c.args.counts.now.k (slot_in c.args.pool.now) (mark_of c.args.marks.now) c.args.axis c.args.index (count_of c.args.counts.now) (pending c.args.counts.now);
}

-- the crossing row or column of an unknown cell isn't known whole
pub raise-requires-clause-below : goal.raise-requires-clause-below
raise-requires-clause-below c =
    let few : count_of c.loop-pos.counts c.crossing-cross.result c.loop-pos.pos < 2 * c.args.counts.now.k =
    few_so c.args.counts.now.k (slot_in c.args.pool.now) (mark_of c.args.marks.now) c.args.axis c.args.index (count_of c.args.counts.now) (count_of c.loop-pos.counts)
    (pending c.args.counts.now) (pending c.loop-pos.counts) c.loop-pos.pos c.cell_on.result c.cell_on.ensures c.loop-pos.invariant.so c.crossing-cross.result
    c.crossing-cross.ensures c.requires.index (omega arith) (sym c.is_found.ensures ∙ c.if-not-is_found.true) c.requires.counted in
    subst (λ (k : ℕ). count_of c.loop-pos.counts c.crossing-cross.result c.loop-pos.pos < 2 * k) (sym c.loop-pos.invariant.width) few

-- an unknown cell is counted
pub loop-pos-preserved : goal.loop-pos-preserved
loop-pos-preserved c = elim c.if-not-is_found.branch [
  | then-not-is_found w ↦ record {
    width = ap (λ (t : Counts). t.k) w.counts-is ∙ w.raise.ensures.width ∙ c.loop-pos.invariant.width;
    next = ap (λ (t : Counts). t.next) w.counts-is ∙ w.raise.ensures.next ∙ c.loop-pos.invariant.next;
    so = subst (λ (t : Counts). IsCountedTo c.args.counts.now.k (slot_in c.args.pool.now) (mark_of c.args.marks.now) c.args.axis c.args.index (count_of c.args.counts.now)
        (count_of t) (pending c.args.counts.now) (pending t) (c.loop-pos.pos + 1)) (sym w.counts-is)
        (unknown_so c.args.counts.now.k (slot_in c.args.pool.now) (mark_of c.args.marks.now) c.args.axis c.args.index (count_of c.args.counts.now) (count_of c.loop-pos.counts)
        (pending c.args.counts.now) (pending c.loop-pos.counts) c.loop-pos.pos c.cell_on.result c.cell_on.ensures c.loop-pos.invariant.so c.crossing-cross.result
        (count_of w.raise.new.self) (pending w.raise.new.self) c.crossing-cross.ensures (sym c.is_found.ensures ∙ w.if-not-is_found.true) w.raise.ensures.raised
        (subst (λ (k : ℕ). AreQueued k (count_of c.loop-pos.counts) (count_of w.raise.new.self) (pending c.loop-pos.counts) (pending w.raise.new.self))
        c.loop-pos.invariant.width w.raise.ensures.queued));
  }
  | else-not-is_found w ↦ record {
    width = ap (λ (t : Counts). t.k) w.counts-is ∙ c.loop-pos.invariant.width;
    next = ap (λ (t : Counts). t.next) w.counts-is ∙ c.loop-pos.invariant.next;
    so = subst (λ (t : Counts). IsCountedTo c.args.counts.now.k (slot_in c.args.pool.now) (mark_of c.args.marks.now) c.args.axis c.args.index (count_of c.args.counts.now)
        (count_of t) (pending c.args.counts.now) (pending t) (c.loop-pos.pos + 1)) (sym w.counts-is)
        (known_so c.args.counts.now.k (slot_in c.args.pool.now) (mark_of c.args.marks.now) c.args.axis c.args.index (count_of c.args.counts.now) (count_of c.loop-pos.counts)
        (pending c.args.counts.now) (pending c.loop-pos.counts) c.loop-pos.pos c.cell_on.result c.cell_on.ensures c.loop-pos.invariant.so
        (sym c.is_found.ensures ∙ w.if-not-is_found.false));
  }
]

-- all are
pub returns-clause-counted : goal.returns-clause-counted
returns-clause-counted c =
    subst (IsCountedTo c.args.counts.now.k (slot_in c.args.pool.now) (mark_of c.args.marks.now) c.args.axis c.args.index (count_of c.args.counts.now)
    (count_of c.loop-pos.counts) (pending c.args.counts.now) (pending c.loop-pos.counts)) (omega (arith, c.loop-pos.invariant.width)) c.loop-pos.invariant.so
