use Rattle.std.proofs.Common.{◌≡◌, ◌+◌, ◌-◌, ◌*◌, ◌≤◌, length}
use Rattle.proto_fields.proofs.OpenLemmas.{behind_one, behind_all}
use Rattle.proto_fields.proofs.values.+groups.Given as goal

abbrev pub decreases-behind_group : goal.decreases-behind_group
decreases-behind_group l = 2 * l.most + 1

abbrev pub decreases-value_at : goal.decreases-value_at
decreases-value_at l = 2 * l.most

-- what follows all open groups follows the first
abbrev pub invariant-behind_group-loop-tag : goal.invariant-behind_group-loop-tag
invariant-behind_group-loop-tag l = record {
  few : l.depth ≤ l.most;
  kept : l.depth ≤ 8;
  room : length l.outer ≡ 8;
  same : behind_all l.most l.outer l.depth (behind_one (l.most - l.depth) l.inner l.rest) ≡ behind_one l.most l.number l.fn.bytes;
}

abbrev pub decreases-behind_group-loop-tag : goal.decreases-behind_group-loop-tag
decreases-behind_group-loop-tag l = length l.rest
