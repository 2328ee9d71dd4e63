use Rattle.std.proofs.Common.{◌∙◌}
use Rattle.gf_cantor.proofs.Rows.{low_sum-product}
use Rattle.gf_cantor.proofs.bytes.low_products.Goals as goal

-- a factor is the sum of the worths of its bits, and so is its product
pub returns : goal.returns
returns c n h =
    c.sums.ensures n h
    ∙ low_sum-product c.args.by c.mul.result c.mul-2.result c.mul-3.result c.mul-4.result n h c.mul.ensures c.mul-2.ensures c.mul-3.ensures c.mul-4.ensures
