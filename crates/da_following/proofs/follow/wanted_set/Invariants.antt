use Rattle.std.proofs.Common.{◌≡◌, [], length}
use Rattle.std.specs.List.{fold}
use Rattle.std.specs.BTreeSet.{insert_key}
use Rattle.namespace_id.specs.Names.{namespace_cmp}
use Rattle.da_files.specs.Requests.{namespaces_in}
use Rattle.da_following.proofs.follow.wanted_set.Given as goal

-- the namespaces before were put at their places
abbrev pub invariant-loop-name : goal.invariant-loop-name
invariant-loop-name l =
    fold (insert_key namespace_cmp) [] (namespaces_in l.wanted) ≡ fold (insert_key namespace_cmp) l.names.keys (namespaces_in l.rest)

-- how many bytes are left
abbrev pub decreases-loop-name : goal.decreases-loop-name
decreases-loop-name l = length l.rest
