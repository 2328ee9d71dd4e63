use Rattle.std.proofs.Common.{◌∙◌, map, sym, arith}
use Rattle.std.proofs.lemmas.List.{length-map, ext_get_or}
use Rattle.axis_roots.specs.Lines.{blank}
use Rattle.befp_verify.proofs.verifying.gather.Goals as goal

-- all are copied
pub returns-clause-shares : goal.returns-clause-shares
returns-clause-shares c =
    ext_get_or blank c.loop-i.shares (map (λ m. m.share) c.args.cells.now) (c.loop-i.invariant.many ∙ sym (length-map c.args.cells.now (λ m. m.share)))
    (λ j h. c.loop-i.invariant.copies j (omega arith))
