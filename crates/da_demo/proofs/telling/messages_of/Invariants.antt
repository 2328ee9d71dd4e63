use Rattle.std.proofs.Common.{◌≡◌, ◌++◌, map}
use Rattle.axis_roots.specs.Proved.{kept_message}
use Rattle.da_demo.proofs.telling.messages_of.Given as goal

-- the samples so far
abbrev pub invariant-loop-proved : goal.invariant-loop-proved
invariant-loop-proved l = record {
  split : l.fn.cells.items ≡ l.yielded ++ l.proved-iterator.rest.items;
  made : l.messages.items ≡ map kept_message l.yielded;
}
