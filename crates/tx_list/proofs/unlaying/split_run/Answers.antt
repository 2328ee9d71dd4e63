use Rattle.std.proofs.Common.{◌∙◌, ℕ, take, ap, arith}
use Rattle.tx_list.proofs.UnlayLemmas.{run_taken, run_few}
use Rattle.tx_list.proofs.unlaying.split_run.Goals as goal

pub split_at-requires : goal.split_at-requires
split_at-requires c = omega (arith, c.run_length.ensures, run_few c.args.name.now c.args.shares.now)

pub returns-clause-run : goal.returns-clause-run
returns-clause-run c =
    c.split_at.ensures.front ∙ ap (λ (n : ℕ). take n c.args.shares.now) c.run_length.ensures ∙ run_taken c.args.name.now c.args.shares.now
