use Rattle.std.proofs.Common.{◌≡◌, ◌||◌, length}
use Rattle.namespace_id.specs.declared.namespaces.Namespace.{Namespace as Name}
use Rattle.da_attending.specs.Attenders.{is_listed}
use Rattle.da_attending.proofs.attenders.set_of.Given as goal

-- the namespaces before are in the set
abbrev pub invariant-loop-name : goal.invariant-loop-name
invariant-loop-name l = (n : Name) → (is_listed l.set.keys n || is_listed l.rest n) ≡ is_listed l.names n

-- how many namespaces are left
abbrev pub decreases-loop-name : goal.decreases-loop-name
decreases-loop-name l = length l.rest
