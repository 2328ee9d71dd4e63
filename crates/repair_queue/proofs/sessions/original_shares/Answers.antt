use Rattle.std.proofs.Common.{◌≡◌, ◌∙◌, ℕ, ◌+◌, ◌*◌, ◌<◌, List, length, take, sym, ap, subst, arith}
use Rattle.namespace_id.specs.declared.cells.Cell.{Cell}
use Rattle.namespace_id.specs.declared.shares.Share.{Share}
use Rattle.axis_roots.specs.Grids.{share_at}
use Rattle.repair_queue.specs.Boards.{shared_of}
use Rattle.repair_queue.proofs.Feeding.SharesLemmas.{one_moved, all_shares}
use Rattle.repair_queue.proofs.sessions.original_shares.Goals as goal

-- one share more stands in front, and no later place was written
pub loop-i-preserved : goal.loop-i-preserved
loop-i-preserved c =
    let cell : Cell = c.cell_numbered.result in
    let k : ℕ = c.args.board.grid.k in
    let same : c.width-k.result ≡ k = c.width-k.ensures.value in
    one_moved k c.loop-i.i c.number.result c.args.board.grid.shares c.loop-i.shares.items cell c.index.result.now
    (omega (arith, c.cell_numbered.ensures.col, same))
    (subst (λ (w : ℕ). cell.row * w + cell.col ≡ c.loop-i.i) same c.cell_numbered.ensures.number)
    (subst (λ (w : ℕ). c.number.result ≡ cell.row * (2 * w) + cell.col) same c.number.ensures.value)
    (omega (arith, c.loop-i.invariant.size, subst (λ (w : ℕ). c.number.result < 2 * w * (2 * w)) same c.number.ensures.below))
    c.index.ensures c.loop-i.invariant

-- the shares in front are those of all original cells
pub returns : goal.returns
returns c =
    let k : ℕ = c.args.board.grid.k in
    let n : ℕ = c.loop-i.i in
    let shares : List Share = c.loop-i.shares.items in
    let end : n ≡ c.width-k.result * c.width-k.result = omega (arith, c.loop-i-test.false, c.loop-i.auto.i-end) in
    let all : n ≡ k * k = end ∙ ap (λ (w : ℕ). w * w) c.width-k.ensures.value in
    let items : c.shrink_to_fit.new.self.items ≡ take n shares = c.shrink_to_fit.ensures.items ∙ c.truncate.ensures.items ∙ ap (λ (m : ℕ). take m shares) (sym end) in
    record {
      count = ap length items ∙ c.loop-i.invariant.front.count ∙ all;
      are = λ cell within.
          ap (λ (l : List Share). share_at k l cell) items
          ∙ all_shares k n (shared_of c.args.board) (take n shares) all c.loop-i.invariant.front cell within;
    }
