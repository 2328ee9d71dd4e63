use Rattle.std.proofs.Common.{◌≡◌, ◌∙◌, ℕ, ◌*◌, List, length, sym, ap, subst}
use Rattle.namespace_id.specs.declared.digests.Digest.{Digest}
use Rattle.data_header.specs.Headers.{Roots}
use Rattle.nmt_tree.proofs.SpanLemmas.{length-leaf_digests}
use Rattle.axis_roots.specs.Lines.{line_names}
use Rattle.axis_roots.specs.Trees.{line_leaves}
use Rattle.axis_roots.proofs.Grids.LineLemmas.{length-line_names}
use Rattle.repair_queue.specs.Keeping.{AreWrittenLeaves}
use Rattle.repair_queue.proofs.Lines.KeepLineLemmas.{IsLineKeptOn, line_kept}
use Rattle.repair_queue.proofs.keeping.keep_line.Goals as goal

-- there are as many digests as shares
pub write_leaves-requires-clause-digests : goal.write_leaves-requires-clause-digests
write_leaves-requires-clause-digests c =
    let same : c.header.inside.k ≡ c.args.header.now.k = ap (λ (x : Roots). x.k) c.header.view_is in
    let names = length-line_names c.args.header.now.k c.args.axis c.args.index c.args.line.now in
    ap length c.requires.digests
    ∙ length-leaf_digests (line_names c.args.header.now.k c.args.axis c.args.index c.args.line.now) c.args.line.now (names ∙ sym c.requires.line.codeword.count)
    ∙ names ∙ ap (λ (k : ℕ). 2 * k) (sym same)

-- the board is good, and stands for the same samples
pub returns-clause-kept : goal.returns-clause-kept
returns-clause-kept c =
    let x : IsLineKeptOn c.args.header.now c.args.board.now c.args.axis c.args.index c.args.line.now c.count_line.new.counts c.write_line.new.grid
    c.write_leaves.new.leaves c.set.new.self c.clear_line.new.pool = record {
      good = c.requires.good;
      within = c.requires.index;
      fits = c.requires.line;
      alike = c.requires.alike;
      counts_width = c.count_line.ensures.width;
      counted = c.count_line.ensures.counted;
      grid_width = c.write_line.ensures.k;
      written = c.write_line.ensures.line;
      others = c.write_line.ensures.others;
      digests = subst (λ (k : ℕ). AreWrittenLeaves k c.args.board.now.leaves.items c.write_leaves.new.leaves.items c.args.axis c.args.index
          (line_leaves c.args.header.now.k c.args.axis c.args.index c.args.line.now) (2 * k)) (ap (λ (x : Roots). x.k) c.header.view_is)
          (subst (λ (l : List Digest). AreWrittenLeaves c.header.inside.k c.args.board.now.leaves.items c.write_leaves.new.leaves.items c.args.axis c.args.index l
          (2 * c.header.inside.k)) c.requires.digests c.write_leaves.ensures.written);
      digest_count = c.write_leaves.ensures.count;
      marks_width = c.set.ensures.width;
      flagged = c.set.ensures.flagged;
      pool_width = c.clear_line.ensures.width;
      cleared = c.clear_line.ensures.cleared;
    } in
    line_kept c.args.header.now c.args.board.now c.args.axis c.args.index c.args.line.now c.count_line.new.counts c.write_line.new.grid
    c.write_leaves.new.leaves c.set.new.self c.clear_line.new.pool x
