use Rattle.std.proofs.Common.{sym}
use Rattle.da_demo.proofs.TellLemmas.{same_squares}
use Rattle.da_demo.proofs.telling.is_same.Goals as goal

-- of one width
pub returns-then-one-other : goal.returns-then-one-other
returns-then-one-other c =
    same_squares c.args.one.now c.args.other.now c.one.inside.k c.other.inside.k c.one.inside.shares.items
    c.other.inside.shares.items c.eq.result (sym c.one.view_is) (sym c.other.view_is)
    c.if-one-other.true c.eq.ensures
