use Rattle.std.proofs.Common.{◌≡◌, ◌∙◌, ◌-◌, ◌+◌, length, ap, sym, arith, length-append, true≢false}
use Rattle.nmt_tree.proofs.QueueLemmas.{ready_count}
use Rattle.nmt_tree.proofs.queues.LeafQueue.next.Goals as goal

-- a digest is ready that was not given
pub returns-clause-none : goal.returns-clause-none
returns-clause-none c = (
  λ never. absurd (true≢false never),
  λ none.
      let made = c.make_ready.new.self in
      let count : length made.ready ≡ c.self.inside.hashed - c.self.inside.given =
      ready_count made c.self.inside.given c.self.inside.hashed c.self.inside.digests _ (omega (arith, c.self.invariant.hashed_few)) c.self.view_is in
      let all : length made.ready + length made.waiting ≡ 0 = sym (length-append made.ready made.waiting) ∙ ap length (c.make_ready.ensures.leaves ∙ none) in
      absurd (omega (arith, c.self.invariant.given_few, c.if-self.false)),
)
