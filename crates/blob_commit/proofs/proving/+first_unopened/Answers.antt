use Rattle.std.proofs.Common.{◌∙◌, ◌+◌, ◌-◌, ◌%◌, ℕ, ap, sym, arith}
use Rattle.std.proofs.Math.Nat.{min-le_left}
use Rattle.blob_commit.specs.Proofs.{fits_rows}
use Rattle.blob_commit.specs.Refusals.{first_unopened}
use Rattle.blob_commit.proofs.WalkLemmas.{unopened-none, unopened-here, unopened-more}
use Rattle.blob_commit.proofs.FitLemmas.{fits-parts, next_begins}
use Rattle.blob_commit.proofs.proving.+first_unopened.Goals as goal

pub returns-in_default : goal.returns-in_default
returns-in_default t c = unopened-none c.args.k c.args.levels c.args.at c.args.left c.args.number c.args.rows.now c.in_default.ensures.cases

pub row_refusal-requires-clause-some : goal.row_refusal-requires-clause-some
row_refusal-requires-clause-some t c = (fits-parts c.args.k c.args.levels c.args.at c.args.left c.args.rows.now c.in-Some.others.now c.in-Some.row.now c.in-Some.ensures.cases.0 c.requires.fits).0

pub row_refusal-requires-clause-begins : goal.row_refusal-requires-clause-begins
row_refusal-requires-clause-begins t c = c.requires.begins (fits-parts c.args.k c.args.levels c.args.at c.args.left c.args.rows.now c.in-Some.others.now c.in-Some.row.now c.in-Some.ensures.cases.0 c.requires.fits).0

pub row_refusal-requires-clause-fits : goal.row_refusal-requires-clause-fits
row_refusal-requires-clause-fits t c = (fits-parts c.args.k c.args.levels c.args.at c.args.left c.args.rows.now c.in-Some.others.now c.in-Some.row.now c.in-Some.ensures.cases.0 c.requires.fits).1

pub first_unopened-requires : goal.first_unopened-requires
first_unopened-requires t c =
    let parts = fits-parts c.args.k c.args.levels c.args.at c.args.left c.args.rows.now c.in-Some.others.now c.in-Some.row.now c.in-Some.ensures.cases.0 c.requires.fits in
    let rest = ap (λ (m : ℕ). fits_rows c.args.k c.args.levels (c.args.at + m) (c.args.left - m) c.in-Some.others.now) c.part_of_row-part.ensures ∙ parts.2 in
    let le = min-le_left c.args.left (c.args.k - c.args.at % c.args.k) in (
      omega (arith, c.decreases, c.in-Some.ensures.cases.1),
      (
        c.requires.width,
        (
          c.requires.levels,
          (
            c.requires.bound,
            (
              omega (arith, c.requires.within, le, c.part_of_row-part.ensures),
              (
                c.requires.divides,
                (
                  next_begins c.args.k c.args.levels c.args.at c.args.left c.part_of_row-part.result c.requires.width c.requires.levels c.requires.divides c.part_of_row-part.ensures,
                  (rest, omega (arith, c.requires.number, c.in-Some.ensures.cases.1)),
                ),
              ),
            ),
          ),
        ),
      ),
    )

pub returns-in-Some-row_refusal : goal.returns-in-Some-row_refusal
returns-in-Some-row_refusal t c =
    unopened-here c.args.k c.args.levels c.args.at c.args.left c.args.number c.args.rows.now c.in-Some.others.now c.in-Some.row.now c.in-Some-row_refusal.why c.in-Some.ensures.cases.0
    (sym c.in-Some-row_refusal.ensures)

pub returns : goal.returns
returns t c =
    c.first_unopened.ensures
    ∙ ap (λ (m : ℕ). first_unopened c.args.k c.args.levels (c.args.at + m) (c.args.left - m) (c.args.number + 1) c.in-Some.others.now) c.part_of_row-part.ensures
    ∙ unopened-more c.args.k c.args.levels c.args.at c.args.left c.args.number c.args.rows.now c.in-Some.others.now c.in-Some.row.now c.in-Some.ensures.cases.0 (sym c.in_default-row_refusal.ensures)
