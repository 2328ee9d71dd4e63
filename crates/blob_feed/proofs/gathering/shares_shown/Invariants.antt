use Rattle.std.proofs.Common.{◌≡◌, ◌++◌, drop}
use Rattle.std.specs.List.{flat_map}
use Rattle.axis_roots.specs.declared.answers.NsEntry.{NsEntry}
use Rattle.blob_feed.specs.Feeds.{shares_found}
use Rattle.blob_feed.proofs.gathering.shares_shown.Given as goal

-- what is there and what is left are all
abbrev pub invariant-loop-entry : goal.invariant-loop-entry
invariant-loop-entry l =
    l.shares.items ++ flat_map (λ (e : NsEntry). shares_found e.found) (drop l.entry-index l.entries)
    ≡ flat_map (λ (e : NsEntry). shares_found e.found) l.entries
