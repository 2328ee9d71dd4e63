use Rattle.std.proofs.Common.{◌∙◌, sym, subst, arith}
use Rattle.da_wire.specs.Streams.{IsPush}
use Rattle.da_wire.specs.declared.streams.Pushed.TheVariants as pushed
use Rattle.da_wire.proofs.PushLemmas.{step_stands, step_next, push_bad, push_more, push_frame}
use Rattle.da_wire.proofs.streams.FrameStream.push.Goals as goal

-- the frame under way states a length above the limit
pub returns-then-is_long-clause-stands : goal.returns-then-is_long-clause-stands
returns-then-is_long-clause-stands c bytes stands =
    step_stands c.self.inside.at c.self.inside.taken c.self.inside.front c.take_some-count.new.front bytes c.args.piece.now c.take_some-count.result c.args.self.now c.self.view_is c.self.invariant stands c.take_some-count.ensures.taken c.take_some-count.ensures.none c.take_some-count.ensures.kept c.bytes_law.ensures

pub returns-then-is_long-clause-answer : goal.returns-then-is_long-clause-answer
returns-then-is_long-clause-answer c bytes stands =
    push_bad c.self.inside.at c.self.inside.taken c.self.inside.front c.take_some-count.new.front bytes c.args.piece.now c.take_some-count.result c.args.self.now c.self.view_is c.self.invariant stands c.take_some-count.ensures.taken c.take_some-count.ensures.none c.take_some-count.ensures.kept c.bytes_law.ensures
    (sym c.is_long.ensures ∙ c.if-is_long.true)

-- it isn't whole
pub returns-then-have-from-clause-stands : goal.returns-then-have-from-clause-stands
returns-then-have-from-clause-stands c bytes stands =
    step_stands c.self.inside.at c.self.inside.taken c.self.inside.front c.take_some-count.new.front bytes c.args.piece.now c.take_some-count.result c.args.self.now c.self.view_is c.self.invariant stands c.take_some-count.ensures.taken c.take_some-count.ensures.none c.take_some-count.ensures.kept c.bytes_law.ensures

pub returns-then-have-from-clause-answer : goal.returns-then-have-from-clause-answer
returns-then-have-from-clause-answer c bytes stands =
    push_more c.self.inside.at c.self.inside.taken c.self.inside.front c.take_some-count.new.front bytes c.args.piece.now c.take_some-count.result c.args.self.now c.self.view_is c.self.invariant stands c.take_some-count.ensures.taken c.take_some-count.ensures.none c.take_some-count.ensures.kept c.bytes_law.ensures
    (sym c.is_long.ensures ∙ c.if-is_long.false) (omega (arith, c.if-have-from.true, c.stated.ensures, c.from.ensures))

-- it is whole
pub returns-clause-stands : goal.returns-clause-stands
returns-clause-stands c bytes stands =
    step_next c.self.inside.at c.self.inside.taken c.self.inside.front c.take_some-count.new.front bytes c.args.piece.now c.take_some-count.result c.args.self.now c.self.view_is c.self.invariant stands c.take_some-count.ensures.taken c.take_some-count.ensures.none c.take_some-count.ensures.kept c.bytes_law.ensures
    (sym c.is_long.ensures ∙ c.if-is_long.false) (omega (arith, c.if-have-from.false, c.stated.ensures, c.from.ensures))

pub returns-clause-answer : goal.returns-clause-answer
returns-clause-answer c bytes stands =
    subst (λ (m : _). IsPush bytes c.args.piece.now c.take_some-count.result (pushed.Frame m)) (sym c.message_of.ensures)
    (push_frame c.self.inside.at c.self.inside.taken c.self.inside.front c.take_some-count.new.front bytes c.args.piece.now c.take_some-count.result c.args.self.now c.self.view_is c.self.invariant stands c.take_some-count.ensures.taken c.take_some-count.ensures.none c.take_some-count.ensures.kept c.bytes_law.ensures
    (sym c.is_long.ensures ∙ c.if-is_long.false) (omega (arith, c.if-have-from.false, c.stated.ensures, c.from.ensures)))
