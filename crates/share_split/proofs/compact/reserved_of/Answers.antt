use Rattle.std.proofs.Common.{◌∙◌, sym, arith}
use Rattle.share_split.proofs.Writing.Starts.{reserved_of-left, place-none, place-next}
use Rattle.share_split.proofs.compact.reserved_of.Goals as goal

-- no unit is left
pub returns-then-next-units : goal.returns-then-next-units
returns-then-next-units c =
    let next = c.args.next in
    sym (reserved_of-left c.args.share next.start c.args.units.now next.index (λ lt. absurd (omega arith))
    ∙ place-none c.args.share next.start c.args.units.now next.index (omega arith))

-- the next unit decides
pub returns : goal.returns
returns c =
    let next = c.args.next in
    c.place_in.ensures
    ∙ sym (reserved_of-left c.args.share next.start c.args.units.now next.index c.requires.place
    ∙ place-next c.args.share next.start c.args.units.now next.index (omega arith))
