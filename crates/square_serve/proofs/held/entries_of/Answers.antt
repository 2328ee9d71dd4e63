use Rattle.std.proofs.Common.{◌∙◌, ◌<◌, List, length, ◌++◌, Vec, Global, ap, sym, subst, arith, append-nil}
use Rattle.axis_roots.specs.declared.answers.NsEntry.{NsEntry}
use Rattle.axis_roots.specs.Grids.{grid_roots}
use Rattle.square_serve.specs.Needed.{AreNeeded}
use Rattle.square_serve.proofs.Serving.EntryLemmas.{entries-pushed, entries-passed, entries-end}
use Rattle.square_serve.proofs.WantedLemmas.{length-row_names, between_wanted}
use Rattle.square_serve.proofs.held.entries_of.Goals.{then-may_hold+in_ok-found+in_ok-push, else-may_hold}
use Rattle.square_serve.proofs.held.entries_of.Goals as goal

-- there is a pair of namespaces for the row
pub bounds-names-row : goal.bounds-names-row
bounds-names-row c =
    omega (arith, ap length c.requires.names, length-row_names c.args.grid.now.k c.args.grid.now.shares, c.loop-row-test.true, c.width-row-end.ensures.value)

pub loop-row-preserved : goal.loop-row-preserved
loop-row-preserved c =
    let within : c.loop-row.row < c.args.grid.now.k = omega (arith, c.loop-row-test.true, c.width-row-end.ensures.value) in
    let wanted = between_wanted c.args.grid.now.k c.args.grid.now.shares c.args.names.now c.loop-row.row c.args.namespace.now c.requires.names within in
    elim c.if-may_hold.branch [
      | then-may_hold+in_ok-found+in_ok-push w ↦ record {
        needed = subst (AreNeeded c.args.grid.now.k c.args.grid.now.shares) (sym w.trees-is) w.make.ensures.needed;
        so_far = entries-pushed (grid_roots c.args.grid.now.k c.args.grid.now.shares) c.args.grid.now.k c.args.grid.now.shares c.args.namespace.now c.loop-row.row _ _ _ _ within (sym wanted ∙ sym w.if-may_hold.ensures)
            (w.in_ok-found.ensures c.args.grid.now.k c.loop-row.row c.args.grid.now.shares (record { within = within; shares = w.front_of.ensures.shares; tree = w.tree-tree.ensures ∙ w.make.ensures.made })) (ap (λ (v : Vec NsEntry Global). v.items) w.entries-is ∙ w.in_ok-push.ensures.items) c.loop-row.invariant.so_far;
      }
      | else-may_hold w ↦ record {
        needed = subst (AreNeeded c.args.grid.now.k c.args.grid.now.shares) (sym w.trees-is) c.loop-row.invariant.needed;
        so_far = entries-passed (grid_roots c.args.grid.now.k c.args.grid.now.shares) c.args.grid.now.k c.args.grid.now.shares c.args.namespace.now c.loop-row.row _ _ _ within (sym wanted ∙ sym w.if-may_hold.ensures)
            (ap (λ (v : Vec NsEntry Global). v.items) w.entries-is) c.loop-row.invariant.so_far;
      }
    ]

pub returns-clause-entries : goal.returns-clause-entries
returns-clause-entries c =
    sym (append-nil c.loop-row.entries.items)
    ∙ ap (λ (l : List NsEntry). c.loop-row.entries.items ++ l)
    (sym (entries-end (grid_roots c.args.grid.now.k c.args.grid.now.shares) c.args.grid.now.k c.args.grid.now.shares c.args.namespace.now c.loop-row.row
    (omega (arith, c.loop-row-test.false, c.width-row-end.ensures.value))))
    ∙ c.loop-row.invariant.so_far
