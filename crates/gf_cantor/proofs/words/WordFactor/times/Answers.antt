use Rattle.std.proofs.Common.{◌≡◌, ℕ, ◌+◌, ◌*◌, ◌/◌, ◌%◌, ◌∙◌, ap, ap₂, subst, arith}
use Rattle.gf_cantor.specs.Field.{product, word_field}
use Rattle.gf_cantor.proofs.WordLemmas.{AreTables, low-looked_up, high-looked_up}
use Rattle.gf_cantor.proofs.words.WordFactor.times.Goals as goal

-- both bytes of the product, looked up
pub returns : goal.returns
returns c =
    let tables : AreTables c.self.inside.tables c.args.self.now = subst (AreTables c.self.inside.tables) c.self.view_is c.self.invariant in
    let a : ℕ = c.args.a in
    let whole : a % 256 + 256 * (a / 256) ≡ a = omega arith in
    let p : ℕ = product word_field c.args.self.now (a % 256 + 256 * (a / 256)) in
    let parts : p % 256 + 256 * (p / 256) ≡ p = omega arith in
    ap₂ (λ x y. x + 256 * y)
    (low-looked_up c.self.inside.tables c.args.self.now (a % 256) (a / 256) _ _ _ _ tables (omega arith) (omega (arith, c.ranges.a.fits)) (omega arith) (omega arith) (omega arith) (omega arith))
    (high-looked_up c.self.inside.tables c.args.self.now (a % 256) (a / 256) _ _ _ _ tables (omega arith) (omega (arith, c.ranges.a.fits)) (omega arith) (omega arith) (omega arith) (omega arith))
    ∙ parts
    ∙ ap (product word_field c.args.self.now) whole
