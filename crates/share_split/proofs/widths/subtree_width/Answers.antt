use Rattle.std.proofs.Common.{◌≡◌, ◌∙◌, ◌*◌, ◌/◌, ◌^◌, ℕ, false, refl, sym, ap, arith}
use Rattle.share_split.specs.Widths.{is_wide_enough, subtree_width_of}
use Rattle.share_split.proofs.Width.Powers.{narrow, power-double}
use Rattle.namespace_id.proofs.DoublingLemmas.{way-doubled, way-ends}
use Rattle.share_split.proofs.widths.subtree_width.Goals as goal

pub loop-width-preserved : goal.loop-width-preserved
loop-width-preserved c =
    let width : ℕ = c.loop-width.width in
    let refused : is_wide_enough c.args.count width ≡ false = sym c.is_wide_enough.ensures ∙ c.loop-width-test.true in
    let half : width * 2 / 2 ≡ width = omega arith in
    record {
      way = way-doubled (is_wide_enough c.args.count) (2 ^ 28) (subtree_width_of c.args.count) width (narrow c.args.count width c.requires.bound refused) refused c.loop-width.invariant.way;
      power = power-double width c.loop-width.invariant.power;
      bound = omega (arith, narrow c.args.count width c.requires.bound refused);
      least = λ _. ap (λ (w : ℕ). is_wide_enough c.args.count w) half ∙ refused;
    }

pub loop-width-init : goal.loop-width-init
loop-width-init c = record { way = record { more = 28; ends = refl; value = refl }; power = (0, refl); bound = omega arith; least = λ h. absurd (omega (arith, h)) }

pub returns-clause-value : goal.returns-clause-value
returns-clause-value c =
    way-ends (is_wide_enough c.args.count) (2 ^ 28) (subtree_width_of c.args.count) c.loop-width.width (sym c.is_wide_enough.ensures ∙ c.loop-width-test.false) c.loop-width.invariant.way
