use Rattle.std.proofs.Common.{◌≡◌, ◌∙◌, ℕ, ◌+◌, true, false, drop, sym, ap, arith}
use Rattle.data_header.specs.Headers.{Roots}
use Rattle.square_serve.specs.Placed.{stands_at}
use Rattle.square_serve.proofs.Judging.WalkLemmas.{walked, row_passed, row_taken, row_misplaced, rows_over, rows_done}
use Rattle.square_serve.proofs.checking.first_misplaced.Goals as goal
use Rattle.square_serve.proofs.checking.first_misplaced.Goals.{then-is_wanted+else-not-stands_at, else-is_wanted}

-- a wanted row without its entry
pub returns-then-not-stands_at : goal.returns-then-not-stands_at
returns-then-not-stands_at c =
    let k : c.header.inside.k ≡ c.args.header.now.k = ap (λ (r : Roots). r.k) c.header.view_is in
    let other : stands_at c.args.header.now.k c.loop-row.row (drop c.loop-row.next c.args.entries.now) ≡ false =
    sym (ap (λ (n : ℕ). stands_at n c.loop-row.row (drop c.loop-row.next c.args.entries.now)) k) ∙ sym c.stands_at.ensures ∙ c.if-not-stands_at.true in
    sym (row_misplaced c.args.header.now c.args.name.now c.args.entries.now c.loop-row.row c.loop-row.next (omega (arith, k))
    (sym c.is_wanted.ensures ∙ c.if-is_wanted.true) other) ∙ c.loop-row.invariant.so_far

-- a row passed over, or taken with its entry
pub loop-row-preserved : goal.loop-row-preserved
loop-row-preserved c =
    let k : c.header.inside.k ≡ c.args.header.now.k = ap (λ (r : Roots). r.k) c.header.view_is in
    elim c.if-is_wanted.branch [
      | then-is_wanted+else-not-stands_at w ↦ record {
        few = omega (arith, w.next-is);
        so_far =
            (let there : stands_at c.args.header.now.k c.loop-row.row (drop c.loop-row.next c.args.entries.now) ≡ true =
            sym (ap (λ (n : ℕ). stands_at n c.loop-row.row (drop c.loop-row.next c.args.entries.now)) k) ∙ sym w.stands_at.ensures ∙ w.if-not-stands_at.false in
            ap (λ (n : ℕ). walked c.args.header.now c.args.name.now c.args.entries.now (c.loop-row.row + 1) n) w.next-is
            ∙ row_taken c.args.header.now c.args.name.now c.args.entries.now c.loop-row.row c.loop-row.next (omega (arith, k))
            (sym c.is_wanted.ensures ∙ w.if-is_wanted.true) there ∙ c.loop-row.invariant.so_far);
      }
      | else-is_wanted w ↦ record {
        few = omega (arith, w.next-is);
        so_far =
            ap (λ (n : ℕ). walked c.args.header.now c.args.name.now c.args.entries.now (c.loop-row.row + 1) n) w.next-is
            ∙ row_passed c.args.header.now c.args.name.now c.args.entries.now c.loop-row.row c.loop-row.next (omega (arith, k))
            (sym c.is_wanted.ensures ∙ w.if-is_wanted.false) ∙ c.loop-row.invariant.so_far;
      }
    ]

-- an entry that is left
pub returns-then-next-entries : goal.returns-then-next-entries
returns-then-next-entries c =
    let k : c.header.inside.k ≡ c.args.header.now.k = ap (λ (r : Roots). r.k) c.header.view_is in
    sym (rows_over c.args.header.now c.args.name.now c.args.entries.now c.loop-row.row c.loop-row.next (omega (arith, k)) (omega arith))
    ∙ c.loop-row.invariant.so_far

-- all are taken
pub returns-else-next-entries : goal.returns-else-next-entries
returns-else-next-entries c =
    let k : c.header.inside.k ≡ c.args.header.now.k = ap (λ (r : Roots). r.k) c.header.view_is in
    sym (rows_done c.args.header.now c.args.name.now c.args.entries.now c.loop-row.row c.loop-row.next (omega (arith, k)) (omega arith))
    ∙ c.loop-row.invariant.so_far
