use Rattle.std.proofs.Common.{◌∙◌}
use Rattle.tx_list.proofs.UnlayLemmas.{sequence_is}
use Rattle.tx_list.proofs.finding.sequence_at.Goals as goal

pub returns : goal.returns
returns c =
    c.split_at-2.ensures.front
    ∙ sequence_is c.args.shares.now c.split_at.result.1.now c.args.place c.min-count.result c.stated_count.result _ c.if-place-shares.false
    c.split_at.ensures.back c.stated_count.ensures c.min-count.ensures
