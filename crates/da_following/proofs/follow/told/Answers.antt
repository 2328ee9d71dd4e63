use Rattle.std.proofs.Common.{◌≡◌, ◌∙◌, [], List, length, subst}
use Rattle.namespace_id.specs.declared.namespaces.Namespace.{Namespace}
use Rattle.blob_feed.specs.Feeds.{heights_of}
use Rattle.da_files.specs.Requests.{namespaces_in}
use Rattle.da_following.specs.Follow.{each_once, items_in, places_from, IsFeedText}
use Rattle.da_following.specs.Heights.{fed_by}
use Rattle.da_following.proofs.FedByLemmas.{fed_is}
use Rattle.da_following.proofs.WayLemmas.{none_left, way_end}
use Rattle.da_following.proofs.follow.told.Goals as goal

-- all heights were told, and what they feed is the feed of the namespaces that are asked for
pub returns : goal.returns
returns c =
    let wanted = namespaces_in c.args.wanted.now in
    let items = items_in c.args.answers.now in
    let all = heights_of items in
    let names = c.deref-list.result.now in
    let same : names ≡ each_once wanted = c.deref-list.ensures.value ∙ c.in_ok-ascending.ensures ∙ c.in_ok-names.ensures in
    let lines = way_end names all c.close.new.self
    (c.in_ok-close.ensures.way all [] none_left (c.in_ok-hand_over.ensures.way all (c.new-way.ensures.way names items)))
    c.in_ok-close.ensures.none in (
      fed_by names all,
      fed_is names wanted same c.requires (λ height name. c.feed_laws.ensures.first names height name) items,
      subst (λ (l : List Namespace). IsFeedText (fed_by names all) (places_from l 0 (length all)) c.close.new.self.told) same lines,
    )
