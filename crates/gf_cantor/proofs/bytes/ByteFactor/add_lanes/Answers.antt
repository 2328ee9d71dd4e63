use Rattle.std.proofs.Common.{◌+◌, ◌∙◌, ℕ, get_or, ap, subst, arith}
use Rattle.std.specs.Prelude.{bit_xor}
use Rattle.gf_cantor.specs.Field.{product, byte_field}
use Rattle.gf_cantor.specs.Tables.{AreByteTables}
use Rattle.gf_cantor.proofs.Rows.{entries-product}
use Rattle.gf_cantor.proofs.bytes.ByteFactor.add_lanes.Goals as goal

-- a byte gains the entries of both tables at its halves, which are its product
pub returns-clause-sums : goal.returns-clause-sums
returns-clause-sums c k l =
    let tables : AreByteTables c.args.self.now c.self.inside.low c.self.inside.high =
    subst (λ (by : ℕ). AreByteTables by c.self.inside.low c.self.inside.high) c.self.view_is c.self.invariant in
    c.add.ensures.sums k l
    ∙ ap (bit_xor (get_or c.args.acc.now (c.args.at + k) 0))
    (c.by_halves.ensures k l
    ∙ entries-product c.args.self.now (get_or c.load-lanes.result k 0) _ _ c.self.inside.low c.self.inside.high
    (omega (arith, c.load-lanes.ensures k l, c.fits-row (c.args.at + k))) (omega arith) (omega arith) tables.lows tables.highs
    ∙ ap (product byte_field c.args.self.now) (c.load-lanes.ensures k l))
