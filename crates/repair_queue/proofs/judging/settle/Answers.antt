use Rattle.std.proofs.Common.{ℕ, List, sym, subst}
use Rattle.std.specs.Prelude.{Option, None}
use Rattle.namespace_id.specs.declared.shares.Share.{Share}
use Rattle.repair_queue.specs.Lines.{AreFacts}
use Rattle.repair_queue.specs.Judging.{IsApartOrAlike}
use Rattle.repair_queue.proofs.judging.settle.Goals as goal

-- no other share is known
pub keep_line-requires-clause-alike : goal.keep_line-requires-clause-alike
keep_line-requires-clause-alike c =
    subst (λ (l : List Share). IsApartOrAlike c.args.header.now.k c.args.board.now c.args.axis c.args.index l None) (sym c.deref.ensures.value)
    (subst (λ (x : Option ℕ). IsApartOrAlike c.args.header.now.k c.args.board.now c.args.axis c.args.index c.args.tools.now.line.items x) c.in-None.is c.requires.apart)

-- the line is kept
pub returns-in-None-clause-settles : goal.returns-in-None-clause-settles
returns-in-None-clause-settles c = (
  c.keep_line.ensures.kept.0,
  c.requires.tools,
  λ ms facts stand. c.keep_line.ensures.kept.1 ms (subst (λ (l : List Share). AreFacts c.args.header.now ms c.args.axis c.args.index l) (sym c.deref.ensures.value) facts) stand,
)
