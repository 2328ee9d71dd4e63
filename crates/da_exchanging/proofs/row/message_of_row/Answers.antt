use Rattle.std.proofs.Common.{subst}
use Rattle.std.specs.declared.option.Option.{Option}
use Rattle.celestia_pb.specs.HalfRows.{HalfParts}
use Rattle.da_exchanging.specs.Made.{IsMadeOutput}
use Rattle.da_exchanging.specs.Row.{HalfBy}
use Rattle.da_exchanging.proofs.row.message_of_row.Goals as goal

-- the half is that of the samples
pub returns-in-Ok : goal.returns-in-Ok
returns-in-Ok c = subst (λ (h : Option HalfParts). IsMadeOutput (HalfBy h) c.message_or_none.result) c.in-Ok.ensures c.message_or_none.ensures
