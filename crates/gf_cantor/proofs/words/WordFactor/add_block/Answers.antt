use Rattle.std.proofs.Common.{ℕ, ◌<◌, ◌+◌, ◌*◌, ◌/◌, ◌%◌, ◌∙◌, ap, ap₂, get_or, subst, arith}
use Rattle.std.specs.Prelude.{bit_xor}
use Rattle.gf_cantor.specs.Field.{product, word_field}
use Rattle.gf_cantor.proofs.WordLemmas.{AreTables, low-looked_up, high-looked_up}
use Rattle.gf_cantor.proofs.words.WordFactor.add_block.Goals as goal

-- the lower bytes
pub returns-clause-low : goal.returns-clause-low
returns-clause-low c k l =
    let tables : AreTables c.self.inside.tables c.args.self.now = subst (AreTables c.self.inside.tables) c.self.view_is c.self.invariant in
    let x : ℕ = get_or c.load-low.result k 0 in
    let y : ℕ = get_or c.load-high.result k 0 in
    let hx : x < 256 = omega (arith, c.load-low.ensures k l, (c.fits-row (c.args.at + k))) in
    let hy : y < 256 = omega (arith, c.load-high.ensures k l, (c.fits-row (c.args.at + 32 + k))) in
    c.add-2.ensures.before (c.args.at + k) (omega arith)
    ∙ c.add.ensures.sums k l
    ∙ ap (bit_xor (get_or c.args.acc.now (c.args.at + k) 0))
    (c.look_up.ensures k l
    ∙ low-looked_up c.self.inside.tables c.args.self.now x y _ _ _ _ tables hx hy (omega arith) (omega arith) (omega arith) (omega arith)
    ∙ ap₂ (λ a b. product word_field c.args.self.now (a + 256 * b) % 256) (c.load-low.ensures k l) (c.load-high.ensures k l))

-- the higher bytes
pub returns-clause-high : goal.returns-clause-high
returns-clause-high c k l =
    let tables : AreTables c.self.inside.tables c.args.self.now = subst (AreTables c.self.inside.tables) c.self.view_is c.self.invariant in
    let x : ℕ = get_or c.load-low.result k 0 in
    let y : ℕ = get_or c.load-high.result k 0 in
    let hx : x < 256 = omega (arith, c.load-low.ensures k l, (c.fits-row (c.args.at + k))) in
    let hy : y < 256 = omega (arith, c.load-high.ensures k l, (c.fits-row (c.args.at + 32 + k))) in
    c.add-2.ensures.sums k l
    ∙ ap₂ bit_xor (c.add.ensures.behind (c.args.at + 32 + k) (omega arith))
    (c.look_up-2.ensures k l
    ∙ high-looked_up c.self.inside.tables c.args.self.now x y _ _ _ _ tables hx hy (omega arith) (omega arith) (omega arith) (omega arith)
    ∙ ap₂ (λ a b. product word_field c.args.self.now (a + 256 * b) / 256) (c.load-low.ensures k l) (c.load-high.ensures k l))
