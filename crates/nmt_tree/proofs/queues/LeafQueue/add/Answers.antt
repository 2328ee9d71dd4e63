use Rattle.std.proofs.Common.{◌≡◌, ◌∙◌, ◌++◌, [], ◌∷◌, length, ap, arith, length-set}
use Rattle.nmt_tree.specs.Digests.{leaf_digest}
use Rattle.nmt_tree.specs.Queues.{QueuedLeaves}
use Rattle.nmt_tree.proofs.QueueLemmas.{waits, waits_more}
use Rattle.nmt_tree.proofs.queues.LeafQueue.add.Goals as goal

-- fewer than 8 wait
pub bounds-self-inside-self-inside : goal.bounds-self-inside-self-inside
bounds-self-inside-self-inside c =
    let count : length c.args.self.now.waiting ≡ c.self.inside.waiting =
    waits c.args.self.now _ c.self.inside.waiting c.self.inside.names c.self.inside.shares (omega (arith, c.self.invariant.few)) (omega (arith, c.self.invariant.few)) c.self.view_is in
    omega (arith, c.requires.room)

pub bounds-self-inside-self-inside-2 : goal.bounds-self-inside-self-inside-2
bounds-self-inside-self-inside-2 c =
    let count : length c.args.self.now.waiting ≡ c.self.inside.waiting =
    waits c.args.self.now _ c.self.inside.waiting c.self.inside.names c.self.inside.shares (omega (arith, c.self.invariant.few)) (omega (arith, c.self.invariant.few)) c.self.view_is in
    omega (arith, c.requires.room)

pub invariant_of-self : goal.invariant_of-self
invariant_of-self c =
    let count : length c.args.self.now.waiting ≡ c.self.inside.waiting =
    waits c.args.self.now _ c.self.inside.waiting c.self.inside.names c.self.inside.shares (omega (arith, c.self.invariant.few)) (omega (arith, c.self.invariant.few)) c.self.view_is in
    record {
      name_room = length-set c.self.inside.names c.self.inside.waiting c.args.name.now ∙ c.self.invariant.name_room;
      share_room = length-set c.self.inside.shares c.self.inside.waiting c.args.share.now ∙ c.self.invariant.share_room;
      digest_room = c.self.invariant.digest_room;
      few = omega (arith, c.requires.room);
      given_few = c.self.invariant.given_few;
      hashed_few = c.self.invariant.hashed_few;
    }

-- the digest of the leaf comes behind those that wait
pub returns-clause-waiting : goal.returns-clause-waiting
returns-clause-waiting c =
    let count : length c.args.self.now.waiting ≡ c.self.inside.waiting =
    waits c.args.self.now _ c.self.inside.waiting c.self.inside.names c.self.inside.shares (omega (arith, c.self.invariant.few)) (omega (arith, c.self.invariant.few)) c.self.view_is in
    waits_more c.self.inside.waiting c.self.inside.names c.self.inside.shares c.args.name.now c.args.share.now (omega (arith, c.requires.room)) (omega (arith, c.requires.room))
    ∙ ap (λ (q : QueuedLeaves). q.waiting ++ leaf_digest c.args.name.now c.args.share.now ∷ []) c.self.view_is
