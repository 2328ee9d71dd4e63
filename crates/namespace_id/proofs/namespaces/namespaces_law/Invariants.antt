use Rattle.std.proofs.Common.{take}
use Rattle.std.specs.List.{All}
use Rattle.namespace_id.specs.Names.{IsNamespace}
use Rattle.namespace_id.proofs.namespaces.namespaces_law.Given as goal

-- so are those before this one
abbrev pub invariant-loop-name : goal.invariant-loop-name
invariant-loop-name l = All IsNamespace (take l.name-index l.names)
