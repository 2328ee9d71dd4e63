use Rattle.std.proofs.Common.{◌≡◌, ◌++◌, map}
use Rattle.std.specs.List.{AllByRecursion}
use Rattle.axis_roots.specs.Proved.{IsUnder, kept_message}
use Rattle.repair_queue.specs.SessionParts.{SessionStands}
use Rattle.repair_queue.proofs.repairing.repair_list.Given as goal

-- the session is fed with the samples so far
abbrev pub invariant-loop-message : goal.invariant-loop-message
invariant-loop-message l = record {
  split : l.fn.messages.items ≡ l.yielded ++ l.message-iterator.rest.items;
  under : AllByRecursion (IsUnder l.header) l.message-iterator.rest.items;
  header : l.session.header ≡ l.header;
  stands : SessionStands l.session (map kept_message l.yielded);
}
