use Rattle.std.proofs.Common.{◌∙◌, sym, subst, arith}
use Rattle.da_wire.specs.StreamParts.{StreamParts}
use Rattle.da_wire.specs.Streams.{StreamStands}
use Rattle.da_wire.proofs.StreamLemmas.{reached_end, reached_long, reached_part}
use Rattle.da_wire.proofs.streams.FrameStream.end.Goals as goal

-- no frame is under way
pub returns-then-have-eq0-clause-place : goal.returns-then-have-eq0-clause-place
returns-then-have-eq0-clause-place c bytes stands =
    let here = subst (λ (s : StreamParts). StreamStands s bytes) (sym c.self.view_is) stands in
    (reached_end c.self.inside.at bytes (omega (arith, here.count, c.if-have-eq0.true, c.self.invariant.begun)) here.whole).bad

-- the frame under way states a length above the limit
pub returns-then-is_long-clause-refusal : goal.returns-then-is_long-clause-refusal
returns-then-is_long-clause-refusal c bytes stands =
    let here = subst (λ (s : StreamParts). StreamStands s bytes) (sym c.self.view_is) stands in
    sym (reached_long _ bytes here (sym c.is_long.ensures ∙ c.if-is_long.true)).refusal

pub returns-then-is_long-clause-place : goal.returns-then-is_long-clause-place
returns-then-is_long-clause-place c bytes stands =
    let here = subst (λ (s : StreamParts). StreamStands s bytes) (sym c.self.view_is) stands in
    (reached_long _ bytes here (sym c.is_long.ensures ∙ c.if-is_long.true)).bad

-- it isn't whole
pub returns-clause-refusal : goal.returns-clause-refusal
returns-clause-refusal c bytes stands =
    let here = subst (λ (s : StreamParts). StreamStands s bytes) (sym c.self.view_is) stands in
    let short = sym c.is_long.ensures ∙ c.if-is_long.false in
    sym (reached_part _ bytes here (omega (arith, c.if-have-eq0.false)) short (c.self.invariant.unfinished short)).refusal

pub returns-clause-place : goal.returns-clause-place
returns-clause-place c bytes stands =
    let here = subst (λ (s : StreamParts). StreamStands s bytes) (sym c.self.view_is) stands in
    let short = sym c.is_long.ensures ∙ c.if-is_long.false in
    (reached_part _ bytes here (omega (arith, c.if-have-eq0.false)) short (c.self.invariant.unfinished short)).bad
