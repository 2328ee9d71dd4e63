use Rattle.std.proofs.Common.{◌≡◌, ◌∙◌, ℕ, [], sym, ap, subst}
use Rattle.namespace_id.specs.Cells.{CellList}
use Rattle.data_header.specs.Headers.{Roots, AreRoots}
use Rattle.repair_queue.specs.Verdicts.{IsWhole, IsMissing}
use Rattle.repair_queue.proofs.Feeding.FinishLemmas.{none_in, some_in, open_missing, open_whole}
use Rattle.repair_queue.proofs.sessions.answer_open.Goals as goal

-- where no cell is unknown, the original shares are a whole square
pub returns-clause-verdict : goal.returns-clause-verdict
returns-clause-verdict c = λ ms stand.
    let roots : AreRoots c.args.header.now = subst AreRoots c.header.view_is (record {
      width = c.header.invariant.width;
      rows = c.header.invariant.rows;
      cols = c.header.invariant.cols;
    }) in
    let none : c.fill_unknown.new.room.list ≡ [] = sym c.cells.ensures.list ∙ none_in c.cells.result.now c.is_empty.result c.is_empty.ensures c.if-not-is_empty.false in
    subst (λ (k : ℕ). IsWhole c.args.header.now ms (record { k = k; shares = c.original_shares-shares.result.items })) (sym (ap (λ (h : Roots). h.k) c.header.view_is))
    (open_whole c.args.header.now c.args.board c.requires.good c.requires.rest ms stand c.fill_unknown.new.room c.fill_unknown.ensures none roots
    c.original_shares-shares.result.items c.original_shares-shares.ensures)

-- else these are missing
pub returns-then-not-is_empty-clause-verdict : goal.returns-then-not-is_empty-clause-verdict
returns-then-not-is_empty-clause-verdict c = λ ms stand.
    subst (λ (cells : CellList). IsMissing c.args.header.now ms cells) (sym c.into_cells.ensures.value)
    (open_missing c.args.header.now c.args.board c.requires.good c.requires.rest ms stand c.fill_unknown.new.room c.fill_unknown.ensures
    (λ e. some_in c.cells.result.now c.is_empty.result c.is_empty.ensures c.if-not-is_empty.true (c.cells.ensures.list ∙ e)))
