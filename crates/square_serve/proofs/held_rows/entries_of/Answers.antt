use Rattle.std.proofs.Common.{◌≡◌, ◌∙◌, ◌<◌, List, length, get_or, ◌++◌, Vec, Global, ap, sym, subst, arith, append-nil}
use Rattle.axis_roots.specs.declared.answers.NsEntry.{NsEntry}
use Rattle.axis_roots.specs.Grids.{Extends, grid_roots}
use Rattle.square_serve.specs.Rows.{AreHeldRows}
use Rattle.square_serve.proofs.HeaderLemmas.{own_names, held_kept}
use Rattle.square_serve.proofs.Serving.EntryLemmas.{entries-pushed, entries-passed, entries-end}
use Rattle.square_serve.proofs.WantedLemmas.{length-row_names, between_wanted, no_names}
use Rattle.square_serve.specs.Answers.{is_wanted}
use Rattle.square_serve.specs.RowNames.{lies_between}
use Rattle.square_layout.specs.Blocks.{SquareShares}
use Rattle.namespace_id.specs.declared.shares.Share.{Share}
use Rattle.square_serve.proofs.held_rows.entries_of.Goals.{then-may_hold+in_ok-found+in_ok-push, else-may_hold}
use Rattle.square_serve.proofs.held_rows.entries_of.Goals as goal

-- there is a pair of namespaces for the row
pub bounds-names-row : goal.bounds-names-row
bounds-names-row c =
    let width : c.square.inside.k ≡ c.args.square.now.k = ap (λ (s : SquareShares). s.k) c.square.view_is in
    omega (arith, width, ap length c.requires.held.names, length-row_names c.args.square.now.k c.requires.held.trees.rows.own.1.grid)

pub loop-row-preserved : goal.loop-row-preserved
loop-row-preserved c =
    let width : c.square.inside.k ≡ c.args.square.now.k = ap (λ (s : SquareShares). s.k) c.square.view_is in
    let within : c.loop-row.row < c.args.square.now.k = omega (arith, width) in
    let wanted : (grid : List Share) → Extends c.args.square.now.k c.args.square.now.shares grid
    → lies_between (get_or c.args.names.now c.loop-row.row no_names) c.args.namespace.now ≡ is_wanted (grid_roots c.args.square.now.k grid) c.args.namespace.now c.loop-row.row
    = λ grid extends. between_wanted c.args.square.now.k grid c.args.names.now c.loop-row.row c.args.namespace.now
    (own_names c.args.square.now c.args.names.now c.loop-row.trees c.loop-row.invariant.held grid extends) within in
    elim c.if-may_hold.branch [
      | then-may_hold+in_ok-found+in_ok-push w ↦ record {
        held = subst (AreHeldRows c.args.square.now c.args.names.now) (sym w.trees-is)
            (held_kept c.args.square.now c.args.names.now c.loop-row.trees _ c.loop-row.invariant.held w.make.ensures.trees);
        so_far = λ grid extends.
            entries-pushed (grid_roots c.args.square.now.k grid) c.args.square.now.k grid c.args.namespace.now c.loop-row.row _ _ _ _ within
            (sym (wanted grid extends) ∙ sym w.if-may_hold.ensures)
            (w.in_ok-found.ensures c.args.square.now.k c.loop-row.row grid
            (record { within = within; shares = w.row_of.ensures.shares grid extends; tree = w.tree.ensures ∙ w.make.ensures.made grid extends }))
            (ap (λ (v : Vec NsEntry Global). v.items) w.entries-is ∙ w.in_ok-push.ensures.items) (c.loop-row.invariant.so_far grid extends);
      }
      | else-may_hold w ↦ record {
        held = subst (AreHeldRows c.args.square.now c.args.names.now) (sym w.trees-is) c.loop-row.invariant.held;
        so_far = λ grid extends.
            entries-passed (grid_roots c.args.square.now.k grid) c.args.square.now.k grid c.args.namespace.now c.loop-row.row _ _ _ within
            (sym (wanted grid extends) ∙ sym w.if-may_hold.ensures)
            (ap (λ (v : Vec NsEntry Global). v.items) w.entries-is) (c.loop-row.invariant.so_far grid extends);
      }
    ]

-- a tree was made before memory ran out
pub returns-in_err-found-clause-held : goal.returns-in_err-found-clause-held
returns-in_err-found-clause-held c = held_kept c.args.square.now c.args.names.now c.loop-row.trees c.make.new.self c.loop-row.invariant.held c.make.ensures.trees

pub returns-in_err-push-clause-held : goal.returns-in_err-push-clause-held
returns-in_err-push-clause-held c = held_kept c.args.square.now c.args.names.now c.loop-row.trees c.make.new.self c.loop-row.invariant.held c.make.ensures.trees

pub returns-clause-entries : goal.returns-clause-entries
returns-clause-entries c = λ grid extends.
    let width : c.square.inside.k ≡ c.args.square.now.k = ap (λ (s : SquareShares). s.k) c.square.view_is in
    sym (append-nil c.loop-row.entries.items)
    ∙ ap (λ (l : List NsEntry). c.loop-row.entries.items ++ l)
    (sym (entries-end (grid_roots c.args.square.now.k grid) c.args.square.now.k grid c.args.namespace.now c.loop-row.row (omega (arith, width))))
    ∙ c.loop-row.invariant.so_far grid extends
