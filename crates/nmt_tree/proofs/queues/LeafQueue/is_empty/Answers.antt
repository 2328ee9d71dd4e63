use Rattle.std.proofs.Common.{◌≡◌, ◌+◌, ◌-◌, length, ap, arith}
use Rattle.std.proofs.lemmas.Bool.Decides.{nat_tests}
use Rattle.std.proofs.lemmas.List.{nil_from_length}
use Rattle.nmt_tree.specs.Queues.{queued}
use Rattle.nmt_tree.proofs.QueueLemmas.{leaves_count}
use Rattle.nmt_tree.proofs.queues.LeafQueue.is_empty.Goals as goal

-- as many leaves are in it as are ready and wait
pub returns-then-self : goal.returns-then-self
returns-then-self c =
    let inv = c.self.invariant in
    let count : length (queued c.args.self.now) ≡ c.self.inside.hashed - c.self.inside.given + c.self.inside.waiting =
    leaves_count c.args.self.now c.self.inside.given c.self.inside.hashed c.self.inside.digests c.self.inside.waiting c.self.inside.names c.self.inside.shares
    (omega (arith, inv.hashed_few, inv.digest_room)) (omega (arith, inv.few, inv.name_room)) (omega (arith, inv.few, inv.share_room)) c.self.view_is in
    let all_given : c.self.inside.given ≡ c.self.inside.hashed = c.if-self.true in (
      λ none. nil_from_length (queued c.args.self.now) (let zero : c.self.inside.waiting ≡ 0 = grind (arith, nat_tests) in omega arith),
      λ nil. let empty = ap length nil in let zero : c.self.inside.waiting ≡ 0 = omega arith in grind (arith, nat_tests),
    )

pub returns-else-self : goal.returns-else-self
returns-else-self c =
    let inv = c.self.invariant in
    let count : length (queued c.args.self.now) ≡ c.self.inside.hashed - c.self.inside.given + c.self.inside.waiting =
    leaves_count c.args.self.now c.self.inside.given c.self.inside.hashed c.self.inside.digests c.self.inside.waiting c.self.inside.names c.self.inside.shares
    (omega (arith, inv.hashed_few, inv.digest_room)) (omega (arith, inv.few, inv.name_room)) (omega (arith, inv.few, inv.share_room)) c.self.view_is in (
      λ all_given. absurd (c.if-self.false (let same : c.self.inside.given ≡ c.self.inside.hashed = grind (arith, nat_tests) in same)),
      λ nil. let empty = ap length nil in absurd (c.if-self.false (let same : c.self.inside.given ≡ c.self.inside.hashed = omega (arith, inv.given_few) in same)),
    )
