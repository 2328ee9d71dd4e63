use Rattle.std.proofs.Common.{◌≡◌, ◌≤◌, ◌∙◌, ◌+◌, ◌-◌, ◌*◌, arith}
use Rattle.data_header.proofs.HashTreeLemmas.{node_among}
use Rattle.data_header.proofs.trees.put_inner.Goals as goal

-- eight nodes more, whose sixteen stand behind them
pub eights-preserved : goal.eights-preserved
eights-preserved c =
    let first = c.args.count - 8 * (c.eights.eight + 1) in
    let high : 8 ≤ first = omega (arith, c.eights-test.true, c.saturating_sub-eights.ensures) in
    let below : 2 * first + 2 * 8 - 2 * first ≡ 16 = omega arith in
    record {
      count = c.put_eight.ensures.count ∙ c.eights.invariant.count;
      leaves = λ i h. c.put_eight.ensures.behind i (omega arith) ∙ c.eights.invariant.leaves i h;
      inner = λ i low h.
          node_among c.eights.hashes c.put_eight.new.hashes c.eight_nodes-made.result first (2 * first + 2 * 8 - 2 * first) i below high (omega arith)
          c.put_eight.ensures.put c.put_eight.ensures.behind c.eight_nodes-made.ensures (λ behind. c.eights.invariant.inner i (omega arith) h);
    }
