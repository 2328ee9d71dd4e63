use Rattle.std.proofs.Common.{◌∙◌, refl, sym, ap}
use Rattle.da_status.specs.declared.status.Asked.TheVariants.{At}
use Rattle.da_status.specs.declared.status.Status.TheVariants.{BadRequest}
use Rattle.da_files.specs.Frames.{WritesText}
use Rattle.da_files.specs.Requests.{namespaces_in}
use Rattle.da_following.specs.Follow.{items_in, feed_status, FollowsAsked}
use Rattle.da_status.proofs.EndLemmas.{once_within, once_request}
use Rattle.da_following.proofs.FollowLemmas.{asked_follows, asked_refuses}
use Rattle.da_following.proofs.follow.answer.Goals as goal

-- none of the namespaces fails
pub told-requires : goal.told-requires
told-requires g c = sym c.first_other.ensures ∙ c.in-None.is

-- what is written are the lines of the feed
pub returns-in-Ok : goal.returns-in-Ok
returns-in-Ok g c =
    let wanted = namespaces_in c.args.wanted.now in
    let items = items_in c.args.answers.now in
    let told = c.in-Ok.ensures in
    once_within (WritesText c.feed_status.result c.deref.result.now) (FollowsAsked wanted items) _ _ _ _ _ _
    (λ w s h. asked_follows wanted items (sym c.first_other.ensures ∙ c.in-None.is) w s (
      told.0,
      told.1,
      h.0 ∙ c.deref.ensures.value ∙ told.2.lines,
      h.1 ∙ c.feed_status.ensures.value ∙ ap feed_status told.2.missing,
    )) c.put.ensures

-- one can't be followed
pub returns-in-Some : goal.returns-in-Some
returns-in-Some g c =
    let wanted = namespaces_in c.args.wanted.now in
    let items = items_in c.args.answers.now in
    once_request (FollowsAsked wanted items) _ _ _ (BadRequest (At c.in-Some.number)) refl
    (asked_refuses wanted items c.in-Some.number (sym c.first_other.ensures ∙ c.in-Some.is)) refl
