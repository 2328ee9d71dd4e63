use Rattle.std.proofs.Common.{◌∙◌, ℕ, IsTrue, ap, sym, subst}
use Rattle.namespace_id.specs.Cells.{is_in_square}
use Rattle.axis_roots.specs.Openings.{IsProved}
use Rattle.axis_roots.specs.Grids.{grid_roots}
use Rattle.square_serve.specs.Serving.{HeldParts}
use Rattle.square_serve.proofs.WantedLemmas.{roots_made}
use Rattle.square_serve.proofs.Serving.StoredLemmas.{message_proved}
use Rattle.square_serve.proofs.held.Held.sample.Goals as goal

pub returns-clause-proved : goal.returns-clause-proved
returns-clause-proved c =
    let inside : IsTrue (is_in_square c.self.inside.grid.k c.args.cell) =
    ap (λ (n : ℕ). is_in_square n c.args.cell) (sym c.width.ensures.value) ∙ sym c.if-not-is_in_square.ensures in
    subst (λ (held : HeldParts). IsProved held.header c.message_from.result) c.self.view_is
    (message_proved c.self.inside.grid.k c.self.inside.grid.shares (grid_roots c.self.inside.grid.k c.self.inside.grid.shares) c.args.cell c.args.axis c.message_from.result
    (roots_made c.self.inside.grid.k c.self.inside.grid.shares c.self.invariant.trees.ordered) inside c.message_from.ensures.value c.message_from.ensures.opens)
