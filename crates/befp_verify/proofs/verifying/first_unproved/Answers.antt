use Rattle.std.proofs.Common.{◌∙◌, sym}
use Rattle.befp_verify.specs.Refusals.{cell_refusal}
use Rattle.befp_verify.proofs.UnprovedLemmas.{refused_here, passed_here, refused_none}
use Rattle.befp_verify.proofs.verifying.first_unproved.Goals as goal

-- a cell that is refused
pub returns-in-Some : goal.returns-in-Some
returns-in-Some c =
    refused_here (cell_refusal c.args.header.now c.args.claim.now) c.args.cells.now c.loop-i.i c.index-cells-i.result c.in-Some.why c.loop-i-test.true c.index-cells-i.is
    (sym c.in-Some.is ∙ c.cell_refusal.ensures) ∙ c.loop-i.invariant

-- one that isn't
pub loop-i-preserved : goal.loop-i-preserved
loop-i-preserved c =
    passed_here (cell_refusal c.args.header.now c.args.claim.now) c.args.cells.now c.loop-i.i c.index-cells-i.result c.loop-i-test.true c.index-cells-i.is
    (sym c.in_default.is ∙ c.cell_refusal.ensures) ∙ c.loop-i.invariant

-- none is
pub returns : goal.returns
returns c = refused_none (cell_refusal c.args.header.now c.args.claim.now) c.args.cells.now c.loop-i.i c.loop-i-test.false ∙ c.loop-i.invariant
