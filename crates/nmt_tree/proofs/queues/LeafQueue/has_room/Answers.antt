use Rattle.std.proofs.Common.{◌≡◌, length, arith}
use Rattle.std.proofs.lemmas.Bool.Decides.{nat_tests}
use Rattle.nmt_tree.proofs.QueueLemmas.{waits}
use Rattle.nmt_tree.proofs.queues.LeafQueue.has_room.Goals as goal

-- as many wait as stand at the front
pub returns : goal.returns
returns c =
    let count : length c.args.self.now.waiting ≡ c.self.inside.waiting =
    waits c.args.self.now _ c.self.inside.waiting c.self.inside.names c.self.inside.shares (omega (arith, c.self.invariant.few, c.self.invariant.name_room)) (omega (arith, c.self.invariant.few, c.self.invariant.share_room)) c.self.view_is in
    grind (arith, nat_tests)
