-- What the command follow answers.
use Rattle.std.proofs.Common.{◌≡◌, ℕ, Bool, true, false, cond, List, [], length, Some, None, refl, sym, subst}
use Rattle.std.specs.Prelude.{◌==◌, MatchOption}
use Rattle.std.specs.declared.option.Option.{Option}
use Rattle.namespace_id.specs.declared.namespaces.Namespace.{Namespace}
use Rattle.blob_feed.specs.Feeds.{Item, heights_of}
use Rattle.da_status.specs.declared.status.Asked.TheVariants.{At}
use Rattle.da_status.specs.declared.status.Status.{Status}
use Rattle.da_status.specs.declared.status.Status.TheVariants.{Done, BadRequest, Waiting}
use Rattle.da_status.specs.Statuses.{status_kind}
use Rattle.da_status.specs.Outcome.{Relation, Refuses}
use Rattle.da_status.proofs.EndLemmas.{IsAnswer, status_answers}
use Rattle.da_files.specs.Requests.{namespaces_in, failing_from}
use Rattle.da_following.specs.Follow.{wanted_file, answers_file, is_followed, each_once, items_in, places_from, missing_count, feed_status, Follows, FollowsAsked, FollowOf}

-- ---- answers

-- lines come with a complete output
status_by : (b : Bool) (missing : ℕ) → IsAnswer (status_kind (cond b Done (Waiting missing)))
status_by true missing = tt
status_by false missing = tt

-- what is written for headers and answers comes with a complete output
follows_answers : (wanted : List Namespace) (items : List Item) (w : List ℕ) (status : Status) → Follows wanted items w status
    → IsAnswer (status_kind status)
follows_answers wanted items w status (feed, is, lines, ended) =
    let missing = missing_count feed (places_from (each_once wanted) 0 (length (heights_of items))) in
    status_answers status (feed_status missing) ended (status_by (missing == 0) missing)

-- what is answered, by the first namespace that can't be followed
abbrev asked_by : List Namespace → List Item → Option ℕ → Relation
asked_by wanted items o w status =
    MatchOption o (Follows wanted items w status) (λ i. Refuses (BadRequest (At i)) w status)

-- it is an answer
asked_answers : (wanted : List Namespace) (items : List Item) (o : Option ℕ) (w : List ℕ) (status : Status)
    → asked_by wanted items o w status → IsAnswer (status_kind status)
asked_answers wanted items None w status h = follows_answers wanted items w status h
asked_answers wanted items (Some i) w status h = status_answers status (BadRequest (At i)) h.1 tt

-- what follow answers to its files is an answer
pub follow_answers : (files : List (List ℕ)) (w : List ℕ) (status : Status) → FollowOf files w status → IsAnswer (status_kind status)
follow_answers files w status h =
    let wanted = namespaces_in (wanted_file files) in
    asked_answers wanted (items_in (answers_file files)) (failing_from is_followed 0 wanted) w status h

-- a namespace that can't be followed is refused
pub asked_refuses : (wanted : List Namespace) (items : List Item) (i : ℕ) → failing_from is_followed 0 wanted ≡ Some i
    → FollowsAsked wanted items [] (BadRequest (At i))
asked_refuses wanted items i first =
    subst (λ (o : Option ℕ). asked_by wanted items o [] (BadRequest (At i))) (sym first) (refl, refl)

-- where all can be, the lines are the answer
pub asked_follows : (wanted : List Namespace) (items : List Item) → failing_from is_followed 0 wanted ≡ None
    → (w : List ℕ) (status : Status) → Follows wanted items w status → FollowsAsked wanted items w status
asked_follows wanted items none w status h =
    subst (λ (o : Option ℕ). asked_by wanted items o w status) (sym none) h
