use Rattle.std.proofs.Common.{◌≡◌, ◌∙◌, ℕ, ap, arith}
use Rattle.sampling.specs.Generated.{blobs_at, blob_count}
use Rattle.sampling.proofs.BlobLemmas.{blobs_step, blobs_end}
use Rattle.sampling.proofs.generating.blobs.Goals as goal

pub loop-preserved : goal.loop-preserved
loop-preserved c = record {
  all = λ key place at.
      blobs_step c.args.k key c.loop.words c.blob.new.words c.loop.blobs.items c.push.new.self.items
      (blobs_at c.args.k key place c.max-count.result)
      c.in_ok-blob.blob c.loop.counter c.max-count.result c.loop-test.true (c.in_ok-blob.ensures.value key)
      (c.in_ok-blob.ensures.after key)
      c.in-Ok-push.ensures.items (c.loop.invariant.all key place at);
  near = omega (arith, c.in_ok-blob.ensures.near, c.loop.invariant.near);
}

pub returns : goal.returns
returns c = λ key place at.
    let count : c.max-count.result ≡ blob_count c.args.k = omega (arith, c.max-count.ensures) in
    blobs_end c.args.k key c.loop.words c.loop.blobs.items (blobs_at c.args.k key place c.max-count.result) c.loop.counter c.max-count.result
    (omega (arith, c.loop-test.false)) (c.loop.invariant.all key place at)
    ∙ ap (λ (n : ℕ). blobs_at c.args.k key place n) count
