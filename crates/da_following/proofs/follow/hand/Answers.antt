use Rattle.std.proofs.Common.{◌≡◌, ◌∙◌, false, List, subst}
use Rattle.std.specs.List.{list_any, cons_option}
use Rattle.namespace_id.specs.declared.namespaces.Namespace.{Namespace as Name}
use Rattle.blob_feed.specs.Followers.{is_name}
use Rattle.da_wire.specs.declared.frames.Frame.{Frame}
use Rattle.da_following.specs.Follow.{item_of}
use Rattle.da_following.specs.Heights.{IsOnWay}
use Rattle.da_following.proofs.WayLemmas.{way_unwanted}
use Rattle.da_following.proofs.follow.hand.Goals as goal

-- the namespace isn't wanted
pub returns-in-Names-clause-way : goal.returns-in-Names-clause-way
returns-in-Names-clause-way c = λ all later on.
    way_unwanted c.args.names.now all c.args.way.now later (record { name = c.in-Names.name; answer = c.in-Names.answer })
    (subst (λ (f : Frame). IsOnWay c.args.names.now all c.args.way.now (cons_option (item_of f) later)) c.in-Names.is on)
    (subst (λ (l : List Name). list_any (is_name c.in-Names.name) l ≡ false) c.requires.names (c.wants.ensures ∙ c.if-wants.false))
