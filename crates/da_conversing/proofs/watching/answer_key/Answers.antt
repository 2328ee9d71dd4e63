use Rattle.std.proofs.Common.{◌∙◌, ◌<◌, ℕ, sym, ap, subst}
use Rattle.std.specs.String.{string_bytes}
use Rattle.data_header.specs.Headers.{Roots}
use Rattle.sampling.specs.Draws.{draw_limit, drawn_cells}
use Rattle.da_conversing.proofs.WatchLemmas.{watches_over}
use Rattle.da_conversing.proofs.watching.answer_key.Goals as goal

-- the cells that the key draws were planned
pub returns-in-Ok-clause-course : goal.returns-in-Ok-clause-course
returns-in-Ok-clause-course g c =
    let width = ap (λ (header : Roots). header.k) c.header.view_is in
    watches_over g.I.Inputs g.O.Sink _ _ _ _ c.args.header.now _ c.args.draws.key c.args.draws.count c.args.to.file (string_bytes c.args.to.name) c.deref.result.now
    (λ over.
    let above = subst (λ (k : ℕ). draw_limit k < c.args.draws.count) (sym width) over in
    let other = c.in-Ok.ensures.too_many.1 above in
    absurd cc)
    (c.deref.ensures.value ∙ c.in-Ok.ensures.drawn ∙ ap (λ (k : ℕ). drawn_cells c.args.draws.key k c.args.draws.count) width)
    c.answer_plan.ensures.course
