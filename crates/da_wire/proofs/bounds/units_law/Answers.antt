use Rattle.std.proofs.Common.{◌≡◌, ◌∙◌, ℕ, List, subst, arith}
use Rattle.std.proofs.lemmas.List.Elements.{All-more}
use Rattle.namespace_id.specs.Bytes.{AreBytes}
use Rattle.namespace_id.proofs.ElementLemmas.{all_passed}
use Rattle.da_wire.proofs.bounds.units_law.Goals as goal

pub loop-unit-preserved : goal.loop-unit-preserved
loop-unit-preserved c =
    let text : c.deref.result.now ≡ c.unit-item.result = c.deref.ensures.value ∙ c.unit.view_is in
    All-more AreBytes c.args.units.now c.loop-unit.unit-index c.unit-item.result (omega arith) c.loop-unit.invariant
    (subst (λ (l : List ℕ). AreBytes l) (text ∙ c.unit-item.is) c.bytes_law.ensures)

pub returns : goal.returns
returns c = all_passed AreBytes c.args.units.now c.loop-unit.unit-index (omega arith) c.loop-unit.invariant
