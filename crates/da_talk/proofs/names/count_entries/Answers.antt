use Rattle.std.proofs.Common.{◌≡◌, ◌∙◌, ◌+◌, ◌<◌, ℕ, length, map, sym, subst, arith}
use Rattle.square_serve.specs.Answers.{is_wanted}
use Rattle.square_serve.specs.Serving.{row_entry, answer_for}
use Rattle.square_serve.proofs.PassingLemmas.{passing_from}
use Rattle.da_talk.proofs.NamesLemmas.{count_on_row, count_off_row, count_end}
use Rattle.da_talk.proofs.names.count_entries.Goals.{then-wants, else-wants}
use Rattle.da_talk.proofs.names.count_entries.Goals as goal

-- one row more
pub loop-row-preserved : goal.loop-row-preserved
loop-row-preserved c =
    let k : ℕ = c.args.held.now.k in
    let within : c.loop-row.row < k = omega (arith, c.loop-row-test.true, c.width-row-end.ensures.value) in
    elim c.if-wants.branch [
      | then-wants w ↦ record {
        all = subst (λ (n : ℕ). n + length (map (row_entry k c.args.held.now.grid c.args.name.now) (passing_from (is_wanted c.args.held.now.header c.args.name.now) k (c.loop-row.row + 1)))
            ≡ length (answer_for c.args.held.now c.args.name.now)) (sym w.count-is)
            (count_on_row (is_wanted c.args.held.now.header c.args.name.now) (row_entry k c.args.held.now.grid c.args.name.now) k c.loop-row.row c.loop-row.count _ within
            (sym c.wants.ensures ∙ w.if-wants.true) c.loop-row.invariant.all);
        few = omega (arith, w.count-is, c.loop-row.invariant.few);
      }
      | else-wants w ↦ record {
        all = subst (λ (n : ℕ). n + length (map (row_entry k c.args.held.now.grid c.args.name.now) (passing_from (is_wanted c.args.held.now.header c.args.name.now) k (c.loop-row.row + 1)))
            ≡ length (answer_for c.args.held.now c.args.name.now)) (sym w.count-is)
            (count_off_row (is_wanted c.args.held.now.header c.args.name.now) (row_entry k c.args.held.now.grid c.args.name.now) k c.loop-row.row c.loop-row.count _ within
            (sym c.wants.ensures ∙ w.if-wants.false) c.loop-row.invariant.all);
        few = omega (arith, w.count-is, c.loop-row.invariant.few);
      }
    ]

-- none are left
pub returns : goal.returns
returns c =
    count_end (is_wanted c.args.held.now.header c.args.name.now) (row_entry c.args.held.now.k c.args.held.now.grid c.args.name.now) c.args.held.now.k c.loop-row.row c.loop-row.count _
    (omega (arith, c.loop-row-test.false, c.width-row-end.ensures.value)) c.loop-row.invariant.all
