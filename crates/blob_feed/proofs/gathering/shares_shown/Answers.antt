use Rattle.blob_feed.proofs.ShownLemmas.{all_shown}
use Rattle.blob_feed.proofs.gathering.shares_shown.Goals as goal

-- none is left
pub returns : goal.returns
returns c = all_shown c.loop-entry.shares.items c.args.entries.now c.loop-entry.entry-index c.loop-entry-test.false
    c.loop-entry.invariant
