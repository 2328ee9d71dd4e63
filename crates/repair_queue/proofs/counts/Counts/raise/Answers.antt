use Rattle.std.proofs.Common.{rules, ◌≡◌, ◌∙◌, ◌+◌, ℕ, ap, arith}
use Rattle.std.specs.Prelude.{vec_len}
use Rattle.repair_queue.proofs.Counting.RaiseLemmas.{unqueued, queued}
use Rattle.repair_queue.proofs.counts.Counts.raise.Goals as goal

-- no number came to be k
pub returns-else-more-self-clause-queued : goal.returns-else-more-self-clause-queued
returns-else-more-self-clause-queued c =
    unqueued c.args.self.now.k c.args.self.now.rows.items c.args.self.now.cols.items c.put_more.new.rows.items c.put_more.new.cols.items c.args.axis c.args.index
    (c.count-more.result + 1) c.put_more.ensures (ap (λ (n : ℕ). n + 1) c.count-more.ensures) c.if-more-self.false _

-- one did
pub returns-then-more-self-clause-queued : goal.returns-then-more-self-clause-queued
returns-then-more-self-clause-queued c =
    queued c.args.self.now.k c.args.self.now.rows.items c.args.self.now.cols.items c.put_more.new.rows.items c.put_more.new.cols.items c.args.axis c.args.index
    (c.count-more.result + 1) c.put_more.ensures c.args.self.now.next c.args.self.now.queue c.args.self.now.taken c.push.new.self.items (search rules)

-- there is one less below k then, and one more in the queue
pub invariant_of-self : goal.invariant_of-self
invariant_of-self c =
    let fall = c.put_more.ensures.falls c.args.self.now.k c.if-more-self.true in
    let ok = c.push.ensures.succeeds (omega (arith, fall, c.args.self.now.used, c.args.self.now.room)) in
    let len : vec_len c.push.new.self ≡ vec_len c.args.self.now.queue + 1 = search (rules, ok) in record {
      wide = c.args.self.now.wide;
      row_count = c.put_more.ensures.row_count ∙ c.args.self.now.row_count;
      col_count = c.put_more.ensures.col_count ∙ c.args.self.now.col_count;
      used = omega (arith, len, fall, c.args.self.now.used);
      room = omega (arith, c.push.ensures.capacity, c.args.self.now.room);
      taken = omega (arith, len, c.args.self.now.taken);
    }
