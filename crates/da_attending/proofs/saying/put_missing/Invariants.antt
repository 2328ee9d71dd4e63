use Rattle.std.proofs.Common.{◌≡◌, ◌≤◌, ◌+◌, ◌*◌, ◌++◌, None, length, vec_capacity}
use Rattle.std.specs.List.{flat_map}
use Rattle.namespace_id.specs.declared.namespaces.Namespace.{Namespace}
use Rattle.namespace_id.specs.Answers.{HasCapacity}
use Rattle.da_attending.specs.Attended.{height_lines}
use Rattle.da_attending.specs.Attenders.{unknown}
use Rattle.da_attending.proofs.saying.put_missing.Given as goal

-- the lines of the namespaces before were appended
abbrev pub invariant-loop-name : goal.invariant-loop-name
invariant-loop-name l = record {
  lines : l.text.items ++ flat_map (λ (n : Namespace). height_lines l.number n None) (unknown l.known.keys l.rest)
      ≡ l.fn.text.items ++ flat_map (λ (n : Namespace). height_lines l.number n None) (unknown l.known.keys l.names);
  counted : l.count + length (unknown l.known.keys l.rest) ≡ length (unknown l.known.keys l.names);
  few : l.count + length l.rest ≤ length l.names;
  room : HasCapacity l.text (105 * length l.rest);
  capacity : vec_capacity l.fn.text ≤ vec_capacity l.text;
}

-- how many namespaces are left
abbrev pub decreases-loop-name : goal.decreases-loop-name
decreases-loop-name l = length l.rest
