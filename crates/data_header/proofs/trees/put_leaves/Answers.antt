use Rattle.std.proofs.Common.{◌≡◌, ◌∙◌, ◌+◌, ◌-◌, ◌*◌, inl, inr, arith}
use Rattle.std.proofs.lemmas.Bool.{cases_lt}
use Rattle.data_header.proofs.HashTreeLemmas.{leaf_among}
use Rattle.data_header.proofs.trees.put_leaves.Goals as goal

-- eight leaves more
pub eights-preserved : goal.eights-preserved
eights-preserved c =
    let first = 8 * c.eights.eight in
    let eight : first + 8 - first ≡ 8 = omega arith in
    record {
      count = c.put_eight.ensures.count ∙ c.eights.invariant.count;
      put = λ i h. elim (cases_lt i first) [
        | inl before ↦ c.put_eight.ensures.before (c.args.at + i) (omega arith) ∙ c.eights.invariant.put i before
        | inr among ↦
            leaf_among c.args.digests.now c.put_eight.new.hashes c.eight_leaves-made.result c.args.at first (first + 8 - first) i eight among (omega arith)
            c.put_eight.ensures.put c.eight_leaves-made.ensures
      ];
      kept = λ i h. c.put_eight.ensures.before i (omega arith) ∙ c.eights.invariant.kept i h;
    }
