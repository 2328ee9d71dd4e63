use Rattle.std.proofs.Common.{◌≡◌, ◌∙◌, ℕ, ◌*◌, ◌≤◌, sym, ap, subst}
use Rattle.data_header.specs.Headers.{Roots}
use Rattle.repair_queue.proofs.Feeding.ViewLemmas.{new_open}
use Rattle.repair_queue.proofs.sessions.Session.new.Goals as goal

-- nothing is known of any cell
pub invariant_of-result : goal.invariant_of-result
invariant_of-result c =
    let width : c.width-k.result ≡ c.in_ok-header.header.k = c.width-k.ensures.value ∙ ap (λ (h : Roots). h.k) (sym c.in_ok-header.ensures) in
    let good = c.in_ok-board.ensures.good c.in_ok-header.header (sym width) in record {
      partial = c.in_ok-trees.ensures;
      open_board = (new_open c.in_ok-header.header c.in_ok-board.board c.in_ok-tools.tools c.width-k.result width c.width-k.ensures.width c.in_ok-board.ensures.good
          c.in_ok-tools.ensures c.in_ok-board.ensures.empty c.in_ok-board.ensures.undecided).0;
      cells = c.in_ok-room.ensures.k ∙ width;
      capacity = λ none.
          subst (λ (k : ℕ). 2 * k * (2 * k) ≤ c.in_ok-board.board.pool.capacity) (width ∙ good.width ∙ sym good.parts.pool_width) c.in_ok-board.ensures.capacity;
    }

-- so it stands for no sample
pub returns-clause-stands : goal.returns-clause-stands
returns-clause-stands c =
    (new_open c.in_ok-header.header c.in_ok-board.board c.in_ok-tools.tools c.width-k.result (c.width-k.ensures.value ∙ ap (λ (h : Roots). h.k) (sym c.in_ok-header.ensures))
    c.width-k.ensures.width c.in_ok-board.ensures.good c.in_ok-tools.ensures c.in_ok-board.ensures.empty c.in_ok-board.ensures.undecided).1
