use Rattle.std.proofs.Common.{ℕ, ◌+◌, ◌*◌, ◌∙◌, arith}
use Rattle.gf_cantor.specs.Words.{place}
use Rattle.gf_cantor.proofs.WordLemmas.{IsAdded, added_from, added_before, word_gains}
use Rattle.gf_cantor.proofs.LaneLemmas.{below_more_by}
use Rattle.gf_cantor.proofs.words.WordFactor.add_products.Goals as goal

-- the next 32 words gain their products; no other byte changes
pub loop-b-preserved : goal.loop-b-preserved
loop-b-preserved c =
    let b : ℕ = c.loop-b.b in
    record {
      done = λ i h.
          below_more_by (λ i. IsAdded c.args.self.now c.args.acc.now c.add_block.new.acc c.args.row.now i) (32 * b) 32
          (λ i l. added_before c.args.self.now c.args.acc.now c.loop-b.acc c.add_block.new.acc c.args.row.now i
          (c.add_block.ensures.before (place i) (omega arith)) (c.add_block.ensures.before (place i + 32) (omega arith)) (c.loop-b.invariant.done i l))
          (λ k l. added_from c.args.self.now c.args.acc.now c.loop-b.acc c.add_block.new.acc c.args.row.now b k l
          (c.add_block.ensures.low k l) (c.add_block.ensures.high k l)
          (c.loop-b.invariant.left (64 * b + k) (omega arith)) (c.loop-b.invariant.left (64 * b + 32 + k) (omega arith)))
          i (omega arith);
      left = λ k h. c.add_block.ensures.behind k (omega arith) ∙ c.loop-b.invariant.left k (omega arith);
    }

-- all words have
pub returns : goal.returns
returns c i h = word_gains c.args.self.now c.args.acc.now c.loop-b.acc c.args.row.now i (c.fits-acc (place i)) (c.loop-b.invariant.done i (omega arith))
