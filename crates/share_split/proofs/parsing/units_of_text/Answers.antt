use Rattle.std.proofs.Common.{◌∙◌, ◌<◌, ◌≡◌, ℕ, List, [], length, drop, length-drop, ap, sym, arith, inr, ◌+◌, Some}
use Rattle.share_split.specs.Walks.{text_unit}
use Rattle.std.proofs.lemmas.List.{drop-drop}
use Rattle.namespace_id.proofs.StringLemmas.{AreBytes-drop}
use Rattle.share_split.proofs.Reading.Text.{text_stop, text_end, text_more, starts_more, starts_end}
use Rattle.share_split.proofs.Reading.Unit.{unit_back}
use Rattle.share_split.proofs.parsing.units_of_text.Goals as goal

-- no unit stands here
pub returns-in_default-clause-units : goal.returns-in_default-clause-units
returns-in_default-clause-units c =
    let text : List ℕ = c.args.text.now in
    let at : ℕ = c.loop-at.at in
    inr (text_stop at c.share_with.result (drop at text) c.loop-at.placed.units.items _
    (ap text_unit (sym c.split_at.ensures.back) ∙ c.in_default.ensures.value) (omega (arith, c.loop-at-test.true, length-drop at text)) c.share_with.ensures c.loop-at.invariant.units)

-- one unit more was read
pub loop-at-preserved : goal.loop-at-preserved
loop-at-preserved c =
    let text : List ℕ = c.args.text.now in
    let at : ℕ = c.loop-at.at in
    let size : ℕ = c.in-Some.size in
    let left : 0 < length (drop at text) = omega (arith, c.loop-at-test.true, length-drop at text) in
    let read : text_unit (drop at text) ≡ Some (c.in-Some.unit.now, size) = ap text_unit (sym c.split_at.ensures.back) ∙ c.in-Some.ensures.value in
    let u = unit_back (drop at text) c.in-Some.unit.now size (AreBytes-drop at text (λ i. omega (arith, c.type_inv.text i))) read in
    record {
      within = omega (arith, u.within, length-drop at text, c.loop-at-test.true);
      units = text_more at (drop at text) c.in-Some.unit.now (drop (at + size) text) size c.loop-at.placed.units.items c.keep.new.self.units.items _
          read u.some left (sym (drop-drop size at text)) c.in_ok-keep.ensures.units c.loop-at.invariant.units;
      starts = λ more. starts_more at size c.in-Some.unit.now c.loop-at.placed.units.items c.keep.new.self.units.items more
          c.loop-at.placed.starts.items c.keep.new.self.starts.items u.size_is c.in_ok-keep.ensures.units c.in_ok-keep.ensures.starts (c.loop-at.invariant.starts _);
    }

-- no byte is left
pub returns-clause-units : goal.returns-clause-units
returns-clause-units c =
    text_end c.loop-at.at (drop c.loop-at.at c.args.text.now) c.loop-at.placed.units.items _
    (omega (arith, c.loop-at-test.false, length-drop c.loop-at.at c.args.text.now)) c.loop-at.invariant.units

-- no unit is left
pub returns-clause-starts : goal.returns-clause-starts
returns-clause-starts c = starts_end c.loop-at.at c.loop-at.placed.units.items c.loop-at.placed.starts.items (c.loop-at.invariant.starts [])
