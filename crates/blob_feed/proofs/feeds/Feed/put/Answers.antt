use Rattle.std.proofs.Common.{◌≡◌, List, Some, if◌then◌else◌, subst}
use Rattle.namespace_id.specs.declared.namespaces.Namespace.{Namespace as Name}
use Rattle.blob_feed.specs.declared.entries.Entry.{Entry as Kept}
use Rattle.blob_feed.specs.Followers.{entry_in, is_name}
use Rattle.blob_feed.proofs.feeds.Feed.put.Goals as goal

-- the map says it of each key
pub returns-in-Ok-clause-put : goal.returns-in-Ok-clause-put
returns-in-Ok-clause-put c = λ name.
    subst (λ (feed : List (Name × Kept)). entry_in c.insert.new.self.entries name
    ≡ (if is_name c.args.namespace name then Some c.args.entry else entry_in feed name)) c.self.view_is
    (c.in-Ok.ensures.updates.0 name)
