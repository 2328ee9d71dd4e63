use Rattle.std.proofs.Common.{◌≡◌, ◌≤◌, ◌+◌, length}
use Rattle.da_files.specs.Requests.{failing_from, namespaces_in}
use Rattle.da_following.specs.Follow.{is_followed}
use Rattle.da_following.proofs.follow.first_other.Given as goal

-- the namespaces before were all ones of blobs
abbrev pub invariant-loop-name : goal.invariant-loop-name
invariant-loop-name l = record {
  first : failing_from is_followed 0 (namespaces_in l.wanted) ≡ failing_from is_followed l.number (namespaces_in l.rest);
  few : l.number + length l.rest ≤ length l.wanted;
}

-- how many bytes are left
abbrev pub decreases-loop-name : goal.decreases-loop-name
decreases-loop-name l = length l.rest
