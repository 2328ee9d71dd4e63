-- What the first complete answer of a height is read as, as a value (docs/RULES.md, "Following namespaces").
use Rattle.std.specs.Prelude.{Bool, ◌&&◌, List, is_none, Option}
use Rattle.std.specs.List.{find}
use Rattle.std.specs.Option.{option_map}
use Rattle.namespace_id.specs.declared.namespaces.Namespace.{Namespace}
use Rattle.share_split.specs.Walks.{blobs_joined}
use Rattle.data_header.specs.Headers.{Roots}
use Rattle.square_serve.specs.Answers.{answer_refusal}
use Rattle.blob_feed.specs.Feeds.{NamedAnswer, Read, shares_shown}
use Rattle.blob_feed.specs.Followers.{is_name}

-- whether an answer is for the namespace, and complete under the header
abbrev pub completes : Roots → Namespace → NamedAnswer → Bool
completes header name given = is_name given.name name && is_none (answer_refusal header given.name given.answer)

-- what the shares of the first of these answers that is are read as, if one is
abbrev pub first_read : Roots → Namespace → List NamedAnswer → Option Read
first_read header name answers =
    option_map (λ given. blobs_joined (shares_shown given.answer)) (find (completes header name) answers)
