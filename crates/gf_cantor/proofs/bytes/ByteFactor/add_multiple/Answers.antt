use Rattle.std.proofs.Common.{◌≡◌, get_or, arith}
use Rattle.gf_cantor.proofs.FieldLaws.{byte_laws}
use Rattle.gf_cantor.specs.Field.{byte_field}
use Rattle.gf_cantor.proofs.Laws.{nothing_added}
use Rattle.gf_cantor.proofs.bytes.ByteFactor.add_multiple.Goals as goal

-- the factor is 0, and so is each product
pub returns-else-self-ne0 : goal.returns-else-self-ne0
returns-else-self-ne0 c i h =
    let none : c.args.self.now ≡ 0 = omega (arith, c.self.view_is, c.if-self-ne0.false) in
    nothing_added byte_field byte_laws c.args.self.now (get_or c.args.acc.now i 0) (get_or c.args.row.now i 0) none
