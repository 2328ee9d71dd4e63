use Rattle.gf_cantor.proofs.ByteTables.{product-inverse}
use Rattle.gf_cantor.proofs.field.inv.Goals as goal

-- the logarithms of a label and its inverse add up to 255, and x^255 is 1
pub returns : goal.returns
returns c = product-inverse c.args.a c.log.result c.exp.result c.log.ensures.bound c.log.ensures.power c.exp.ensures
