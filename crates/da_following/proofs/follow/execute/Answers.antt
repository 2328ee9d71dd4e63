use Rattle.std.proofs.Common.{◌∙◌, ℕ, List, refl, ap₂}
use Rattle.da_files.specs.Contents.{contents_of}
use Rattle.da_files.specs.Requests.{namespaces_in}
use Rattle.da_following.specs.Follow.{items_in, FollowsAsked, follow_judged, FollowOf}
use Rattle.da_status.specs.Judging.{Judged}
use Rattle.da_status.proofs.EndLemmas.{once_as}
use Rattle.da_files.proofs.FormLemmas.{refused_once, judged_is}
use Rattle.da_following.proofs.follow.execute.Goals as goal

pub returns-in-Err : goal.returns-in-Err
returns-in-Err g c =
    let files = contents_of c.args.files.now in
    refused_once (follow_judged files) (FollowOf files) _ _ _ _ c.in-Err.ensures.judged refl

-- the files are those that were taken
pub returns : goal.returns
returns g c =
    let files = contents_of c.args.files.now in
    let same = ap₂ (λ (x y : List ℕ). FollowsAsked (namespaces_in x) (items_in y)) c.in-Ok.ensures.wanted c.in-Ok.ensures.answers
    ∙ judged_is (follow_judged files) (FollowOf files) c.in-Ok.ensures.judged in
    once_as _ (Judged (follow_judged files) (FollowOf files)) _ _ _ _ _ _ same c.answer.ensures
