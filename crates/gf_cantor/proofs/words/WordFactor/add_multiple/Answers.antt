use Rattle.std.proofs.Common.{◌≡◌, arith}
use Rattle.gf_cantor.specs.Field.{word_field}
use Rattle.gf_cantor.specs.Words.{word}
use Rattle.gf_cantor.proofs.FieldLaws.{word_laws}
use Rattle.gf_cantor.proofs.Laws.{nothing_added}
use Rattle.gf_cantor.proofs.words.WordFactor.add_multiple.Goals as goal

-- the factor is 0, and so is each product
pub returns-else-self-ne0 : goal.returns-else-self-ne0
returns-else-self-ne0 c i h =
    let none : c.args.self.now ≡ 0 = omega (arith, c.self.view_is, c.if-self-ne0.false) in
    nothing_added word_field word_laws c.args.self.now (word c.args.acc.now i) (word c.args.row.now i) none
