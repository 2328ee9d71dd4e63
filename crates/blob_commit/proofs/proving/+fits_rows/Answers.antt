use Rattle.std.proofs.Common.{◌∙◌, ◌+◌, ◌-◌, ℕ, length, ap, sym, arith}
use Rattle.blob_commit.specs.Cuts.{cut_by}
use Rattle.blob_commit.specs.Proofs.{RowParts, fits_rows}
use Rattle.blob_commit.proofs.WalkLemmas.{fits-none, fits-zero, fits-short, fits-more}
use Rattle.blob_commit.proofs.proving.+fits_rows.Goals as goal

pub returns-in_default : goal.returns-in_default
returns-in_default t c = fits-none c.args.k c.args.levels c.args.at c.args.left c.args.rows.now c.in_default.ensures.cases

pub returns-then-left-eq0 : goal.returns-then-left-eq0
returns-then-left-eq0 t c = fits-zero c.args.k c.args.levels c.args.at c.args.left c.args.rows.now c.in-Some.others.now c.in-Some.row.now c.in-Some.ensures.cases.0 c.if-left-eq0.true

pub returns-then-subtrees-cut_count : goal.returns-then-subtrees-cut_count
returns-then-subtrees-cut_count t c =
    let mine = ap length (c.deref-subtrees.ensures.value ∙ ap (λ (r : RowParts). r.subtrees) c.row.view_is) in
    let sizes = c.cut_count.ensures ∙ ap (λ (n : ℕ). length (cut_by c.args.levels n)) c.part_of_row-part.ensures in
    fits-short c.args.k c.args.levels c.args.at c.args.left c.args.rows.now c.in-Some.others.now c.in-Some.row.now c.in-Some.ensures.cases.0 (omega (arith, c.if-left-eq0.false))
    (λ e. c.if-subtrees-cut_count.true (mine ∙ e ∙ sym sizes))

pub returns : goal.returns
returns t c =
    let mine = ap length (c.deref-subtrees.ensures.value ∙ ap (λ (r : RowParts). r.subtrees) c.row.view_is) in
    let sizes = c.cut_count.ensures ∙ ap (λ (n : ℕ). length (cut_by c.args.levels n)) c.part_of_row-part.ensures in
    c.fits_rows.ensures
    ∙ ap (λ (m : ℕ). fits_rows c.args.k c.args.levels (c.args.at + m) (c.args.left - m) c.in-Some.others.now) c.part_of_row-part.ensures
    ∙ fits-more c.args.k c.args.levels c.args.at c.args.left c.args.rows.now c.in-Some.others.now c.in-Some.row.now c.in-Some.ensures.cases.0 (omega (arith, c.if-left-eq0.false))
    (sym mine ∙ c.if-subtrees-cut_count.false ∙ sizes)
