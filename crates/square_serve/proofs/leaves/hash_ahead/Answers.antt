use Rattle.std.proofs.Common.{◌∙◌, ℕ, ◌*◌, ◌<◌, List, length, get_or, ap, subst, sym, arith, length-set}
use Rattle.std.specs.Prelude.{Option}
use Rattle.namespace_id.specs.declared.digests.Digest.{Digest}
use Rattle.square_serve.specs.Needed.{AreNeededLeaves}
use Rattle.square_serve.proofs.NeededLemmas.{bound_kept}
use Rattle.square_serve.proofs.leaves.hash_ahead.Goals as goal
use Rattle.square_serve.proofs.leaves.hash_ahead.Goals.{then-is_none, else-is_none, then-count-eq-BATCH, else-count-eq-BATCH}

-- the next position is gathered where it has no leaf, and eight of them are hashed
pub loop-pos-preserved : goal.loop-pos-preserved
loop-pos-preserved c =
    let k = c.args.grid.now.k in
    let Hashed : List (Option Digest) → Type 0 = AreNeededLeaves k c.args.grid.now.shares in
    let Within : List ℕ → Type 0 = λ positions. (i : ℕ) → i < 8 → get_or positions i 0 < 2 * k in
    record {
      needed = elim c.if-count-eq-BATCH.branch [
        | then-count-eq-BATCH w ↦ subst Hashed (sym w.leaves-is) w.hash_eight.ensures
        | else-count-eq-BATCH w ↦ subst Hashed (sym w.leaves-is) c.loop-pos.invariant.needed
      ];
      count = elim c.if-is_none.branch [
        | then-is_none w ↦ ap length w.positions-is ∙ length-set c.loop-pos.positions c.loop-pos.count c.loop-pos.pos ∙ c.loop-pos.invariant.count
        | else-is_none w ↦ ap length w.positions-is ∙ c.loop-pos.invariant.count
      ];
      positions = elim c.if-is_none.branch [
        | then-is_none w ↦
            subst Within (sym w.positions-is)
            (bound_kept c.loop-pos.positions 8 c.loop-pos.count c.loop-pos.pos (2 * k) (omega (arith, c.loop-pos.invariant.count, c.loop-pos.invariant.few)) (omega (arith, c.loop-pos-test.true, c.width-pos-end.ensures.value)) c.loop-pos.invariant.positions)
        | else-is_none w ↦ subst Within (sym w.positions-is) c.loop-pos.invariant.positions
      ];
      few = elim c.if-count-eq-BATCH.branch [
        | then-count-eq-BATCH w ↦ omega (arith, w.count-is)
        | else-count-eq-BATCH w ↦ elim c.if-is_none.branch [
          | then-is_none v ↦ omega (arith, w.count-is, w.if-count-eq-BATCH, v.count-is, c.loop-pos.invariant.few)
          | else-is_none v ↦ omega (arith, w.count-is, v.count-is, c.loop-pos.invariant.few)
        ]
      ];
    }
