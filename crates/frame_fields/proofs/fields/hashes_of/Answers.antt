use Rattle.std.proofs.Common.{ℕ, List}
use Rattle.frame_fields.proofs.SplitLoops.{left_next}
use Rattle.frame_fields.proofs.fields.hashes_of.Goals as goal

pub loop-preserved : goal.loop-preserved
loop-preserved c =
    rw c.push.ensures
    (left_next (λ (hash : List ℕ). hash) 32 c.args.count c.loop.counter _ c.loop.hashes c.hash_of.result c.loop.rest.now c.split_at.result.0.now c.split_at.result.1.now c.loop-test.true c.split_at.ensures.front c.split_at.ensures.back c.hash_of.ensures c.loop.invariant)
