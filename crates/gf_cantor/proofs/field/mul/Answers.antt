use Rattle.std.proofs.Common.{◌∙◌, sym, ap, arith, ◌≡◌, ℕ}
use Rattle.gf_cantor.specs.Field.{product, byte_field}
use Rattle.gf_cantor.proofs.FieldLaws.{byte_laws}
use Rattle.gf_cantor.proofs.ByteTables.{product-powers}
use Rattle.gf_cantor.proofs.Laws.{zero-product, product-zero}
use Rattle.gf_cantor.proofs.field.mul.Goals as goal
use Rattle.gf_cantor.proofs.field.mul.Goals.{then-a-eq0, else-a-eq0}

-- a factor is 0, and so is the product
pub returns-then-b-eq0 : goal.returns-then-b-eq0
returns-then-b-eq0 c =
    elim c.if-a-eq0.branch [
      | then-a-eq0 w ↦ sym (ap (λ (x : ℕ). product byte_field x c.args.b) w.if-a-eq0.true ∙ zero-product byte_field byte_laws c.args.b)
      | else-a-eq0 w ↦
          let b_zero : c.args.b ≡ 0 = omega arith in
          sym (ap (product byte_field c.args.a) b_zero ∙ product-zero byte_field byte_laws c.args.a)
    ]

-- both factors are powers of x, and their logarithms add
pub returns-else-b-eq0 : goal.returns-else-b-eq0
returns-else-b-eq0 c =
    c.exp.ensures
    ∙ sym (product-powers c.args.a c.args.b c.log.result c.log-else-b-eq0.result c.log.ensures.power c.log-else-b-eq0.ensures.power)
