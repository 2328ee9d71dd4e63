use Rattle.std.proofs.Common.{◌∙◌, ◌<◌, List, get_or, ap, arith, length}
use Rattle.square_serve.specs.declared.rows.RowNames.{RowNames}
use Rattle.square_serve.specs.Answers.{is_wanted}
use Rattle.square_serve.specs.RowNames.{lies_between}
use Rattle.square_serve.specs.Serving.{HeldParts}
use Rattle.square_serve.proofs.WantedLemmas.{no_names, length-row_names, between_wanted}
use Rattle.square_serve.proofs.held.Held.wants.Goals as goal

-- there is a pair of namespaces for the row
pub bounds-names-row : goal.bounds-names-row
bounds-names-row c =
    omega (
      arith,
      ap length c.self.invariant.names,
      length-row_names c.self.inside.grid.k c.self.inside.grid.shares,
      ap (λ (h : HeldParts). h.k) c.self.view_is,
      c.requires,
      ap length c.deref-names.ensures.value,
    )

-- the row may hold what lies between them
pub returns : goal.returns
returns c =
    let within : c.args.row < c.self.inside.grid.k = omega (arith, ap (λ (h : HeldParts). h.k) c.self.view_is, c.requires) in
    c.may_hold.ensures
    ∙ ap (λ (l : List RowNames). lies_between (get_or l c.args.row no_names) c.args.namespace.now) c.deref-names.ensures.value
    ∙ between_wanted c.self.inside.grid.k c.self.inside.grid.shares c.self.inside.names.items c.args.row c.args.namespace.now c.self.invariant.names within
    ∙ ap (λ (h : HeldParts). is_wanted h.header c.args.namespace.now c.args.row) c.self.view_is
