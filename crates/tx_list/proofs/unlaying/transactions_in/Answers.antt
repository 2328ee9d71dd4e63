use Rattle.std.proofs.Common.{◌≡◌, ◌∙◌, ℕ, ◌*◌, length, map, Some, inl, inr, sym, ap, ap₂, subst, arith}
use Rattle.namespace_id.specs.Names.{transaction, pay_for_blob}
use Rattle.namespace_id.specs.Shares.{AreShares}
use Rattle.square_layout.specs.Blocks.{SquareShares}
use Rattle.tx_list.specs.BackRefusals.{run_of, behind_run, wrappers_refusal, payment_at}
use Rattle.tx_list.specs.Payments.{blobs_of}
use Rattle.tx_list.specs.Measures.{measure_of, HaveLengths}
use Rattle.tx_list.proofs.WideLemmas.{wide_by}
use Rattle.tx_list.proofs.unlaying.transactions_in.Goals as goal

-- the square doesn't hold the blobs
pub returns-then-blobs-len-clause-refused : goal.returns-then-blobs-len-clause-refused
returns-then-blobs-len-clause-refused c =
    let shares : c.square.inside.shares.items ≡ c.args.square.now.shares = ap (λ (s : SquareShares). s.shares) c.square.view_is in
    let width : c.square.inside.k ≡ c.args.square.now.k = ap (λ (s : SquareShares). s.k) c.square.view_is in
    let run : c.deref-2.result.now ≡ c.args.square.now.shares = c.deref-2.ensures.value ∙ shares in
    let walked : c.deref-3.result.now ≡ c.args.square.now.shares = c.deref-3.ensures.value ∙ shares in
    let same : c.deref-4.result.now ≡ c.deref-then-blobs-len.result.now = c.deref-4.ensures.value ∙ sym c.deref-then-blobs-len.ensures.value in
    elim c.wide_refusal.ensures [
      | inl full ↦ inl full
      | inr is ↦
          inr (wide_by c.args.square.now c.split_run.result.0.now c.split_run-2.result.0.now c.in_ok-transactions.transactions.items
          c.deref-then-blobs-len.result.now c.in_ok-blobs.blobs (subst AreShares (c.deref.ensures.value ∙ shares) c.shares_law.ensures)
          (sym (ap length shares) ∙ c.square.invariant.count ∙ ap (λ (k : ℕ). k * k) width)
          (c.split_run.ensures.run ∙ ap (run_of transaction) run)
          (c.split_run-2.ensures.run ∙ ap (run_of pay_for_blob) (c.split_run.ensures.behind ∙ ap (behind_run transaction) run))
          c.in_ok-transactions.ensures.first c.in_ok-payments.ensures.first c.in_ok-transactions.ensures.units
          (c.deref-then-blobs-len.ensures.value ∙ c.in_ok-payments.ensures.units)
          (sym (ap₂ (λ l u. wrappers_refusal 0 l u) walked same) ∙ c.in_ok-blobs.ensures.first) (subst HaveLengths same c.in_ok-blobs.ensures.counted)
          (c.in_ok-blobs.ensures.measure ∙ ap₂ (λ l u. measure_of (blobs_of (map (payment_at l) u))) walked same)
          (omega (arith, c.if-blobs-len.true, c.len.ensures, ap length shares)) ∙ ap Some (sym is))
    ]
