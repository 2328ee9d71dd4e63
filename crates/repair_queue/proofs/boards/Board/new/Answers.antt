use Rattle.std.proofs.Common.{rules, ◌≡◌, ◌∙◌, ℕ, ◌*◌, ◌<◌, length, sym, ap, subst}
use Rattle.std.proofs.lemmas.Bool.{true≢false}
use Rattle.namespace_id.proofs.WidthLemmas.{is_width-pos}
use Rattle.square_layout.specs.Blocks.{SquareShares}
use Rattle.repair_queue.proofs.Feeding.StandLemmas.{nothing_sound}
use Rattle.repair_queue.proofs.Counting.CountedLemmas.{nothing_lined, nothing_counted, nothing_waiting}
use Rattle.repair_queue.proofs.boards.Board.new.Goals as goal

-- nothing is kept and nothing is decided
pub returns-clause-good : goal.returns-clause-good
returns-clause-good c header width =
    let same : c.of-grid.result.k ≡ c.args.k = ap (λ (g : SquareShares). g.k) c.of-grid.ensures in record {
      width = width ∙ sym same;
      parts = record {
        pool_width = c.in_ok-pool.ensures.width ∙ sym same;
        marks_width = c.in_ok-marks.ensures.width ∙ sym same;
        counts_width = c.in_ok-counts.ensures.width ∙ sym same;
        digests = subst (λ (k : ℕ). length c.in_ok-leaves.leaves.items ≡ 2 * k * (2 * k)) (sym same) (search rules);
      };
      sound = nothing_sound header _ _ _ c.in_ok-pool.ensures.empty c.in_ok-marks.ensures.undecided;
      leaves = λ cell within on. absurd (true≢false (sym on ∙ nothing_lined _ c.in_ok-marks.ensures.undecided cell));
      counted = nothing_counted header.k _ _ _ c.in_ok-pool.ensures.empty c.in_ok-marks.ensures.undecided c.in_ok-counts.ensures.none;
      queued = nothing_waiting header.k _ _ _ (subst (λ (k : ℕ). 0 < k) (sym width) (is_width-pos c.args.k c.requires.width)) c.in_ok-counts.ensures.none;
    }
