use Rattle.std.proofs.Common.{rules, refl}
use Rattle.repair_queue.proofs.tools.Tools.new.Goals as goal

-- each buffer is the one that was made
pub returns : goal.returns
returns c = record {
  room = c.in_ok-room.ensures.width;
  code = c.in_ok-code.ensures;
  line = search rules;
  known = search rules;
  given = search rules;
  names = search rules;
  digests = search rules;
  folded = search rules;
  across = search rules;
  spare = (c.in_ok-spare.spare, refl, search rules);
}
