use Rattle.std.proofs.Common.{◌∙◌, ℕ, List, [], ◌∷◌, ◌++◌, sym, ap, arith, append_assoc, append-nil}
use Rattle.tx_list.specs.Unwrapped.{numbers_in}
use Rattle.tx_list.proofs.NumberLemmas.{number_shorter, numbers_next, numbers_end, small_more, too_great, all_are_small}
use Rattle.tx_list.proofs.unwrapping.places_in.Goals as goal

-- the number has more bits
pub returns-then-number-ge-LIMIT : goal.returns-then-number-ge-LIMIT
returns-then-number-ge-LIMIT c =
    too_great (numbers_in c.args.bytes.now) c.loop-number.places.items (numbers_in c.in-Some.after.now) c.in-Some.number
    (c.loop-number.invariant.all ∙ ap (λ (l : List ℕ). c.loop-number.places.items ++ l) (numbers_next c.loop-number.rest.now c.in-Some.after.now c.in-Some.number c.in-Some.ensures))
    c.if-number-ge-LIMIT.true

pub loop-number-smaller : goal.loop-number-smaller
loop-number-smaller c = omega (arith, number_shorter c.loop-number.rest.now c.in-Some.after.now c.in-Some.number c.in-Some.ensures)

pub loop-number-preserved : goal.loop-number-preserved
loop-number-preserved c = record {
  all = c.loop-number.invariant.all
      ∙ ap (λ (l : List ℕ). c.loop-number.places.items ++ l) (numbers_next c.loop-number.rest.now c.in-Some.after.now c.in-Some.number c.in-Some.ensures)
      ∙ sym (append_assoc c.loop-number.places.items (c.in-Some.number ∷ []) (numbers_in c.in-Some.after.now))
      ∙ sym (ap (λ (l : List ℕ). l ++ numbers_in c.in-Some.after.now) c.in-Ok.ensures.items);
  small = small_more c.push.new.self.items c.loop-number.places.items c.in-Some.number c.in-Ok.ensures.items c.loop-number.invariant.small
      c.if-number-ge-LIMIT.false;
}

-- no number is left
pub returns : goal.returns
returns c =
    all_are_small (numbers_in c.args.bytes.now) c.loop-number.places.items
    (c.loop-number.invariant.all ∙ ap (λ (l : List ℕ). c.loop-number.places.items ++ l) (numbers_end c.loop-number.rest.now c.in_default.ensures)
    ∙ append-nil c.loop-number.places.items) c.loop-number.invariant.small
