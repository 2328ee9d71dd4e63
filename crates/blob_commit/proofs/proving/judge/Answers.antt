use Rattle.std.proofs.Common.{◌∙◌, List, length, ap, sym, arith}
use Rattle.blob_commit.specs.Proofs.{RowParts, subtrees_of}
use Rattle.blob_commit.proofs.WalkLemmas.{some_hashes}
use Rattle.blob_commit.proofs.FitLemmas.{range_divides, range_subtrees}
use Rattle.blob_commit.proofs.ShapeLemmas.{range_rows}
use Rattle.blob_commit.proofs.proving.judge.Goals as goal

pub first_unled-requires-clause-index : goal.first_unled-requires-clause-index
first_unled-requires-clause-index c =
    let width = sym c.is_width.ensures ∙ c.if-not-is_width.false in
    let range = sym c.is_range.ensures ∙ c.if-not-is_range.false in
    let fits = sym c.fits_rows.ensures ∙ c.if-not-fits_rows.false in
    let few = range_rows c.proof.inside.k c.proof.inside.start c.proof.inside.count c.levels_of-levels.result c.deref.result.now width range fits in
    omega (arith, few.1, ap length (c.deref-2.ensures.value ∙ sym c.deref.ensures.value))

pub first_unled-requires-clause-number : goal.first_unled-requires-clause-number
first_unled-requires-clause-number c =
    let width = sym c.is_width.ensures ∙ c.if-not-is_width.false in
    let range = sym c.is_range.ensures ∙ c.if-not-is_range.false in
    let fits = sym c.fits_rows.ensures ∙ c.if-not-fits_rows.false in
    let few = range_rows c.proof.inside.k c.proof.inside.start c.proof.inside.count c.levels_of-levels.result c.deref.result.now width range fits in
    omega (arith, few.0, ap length (c.deref-2.ensures.value ∙ sym c.deref.ensures.value))

pub first_unopened-requires-clause-divides : goal.first_unopened-requires-clause-divides
first_unopened-requires-clause-divides c =
    let width = sym c.is_width.ensures ∙ c.if-not-is_width.false in
    let range = sym c.is_range.ensures ∙ c.if-not-is_range.false in
    range_divides c.proof.inside.k c.proof.inside.start c.proof.inside.count c.levels_of-levels.result width range c.levels_of-levels.ensures.value

pub first_unopened-requires-clause-number : goal.first_unopened-requires-clause-number
first_unopened-requires-clause-number c =
    let width = sym c.is_width.ensures ∙ c.if-not-is_width.false in
    let range = sym c.is_range.ensures ∙ c.if-not-is_range.false in
    let fits = sym c.fits_rows.ensures ∙ c.if-not-fits_rows.false in
    let few = range_rows c.proof.inside.k c.proof.inside.start c.proof.inside.count c.levels_of-levels.result c.deref.result.now width range fits in
    omega (arith, few.0, ap length (c.deref-3.ensures.value ∙ sym c.deref.ensures.value))

pub put_rows-requires : goal.put_rows-requires
put_rows-requires c =
    let width = sym c.is_width.ensures ∙ c.if-not-is_width.false in
    let range = sym c.is_range.ensures ∙ c.if-not-is_range.false in
    let fits = sym c.fits_rows.ensures ∙ c.if-not-fits_rows.false in
    let few = range_subtrees c.proof.inside.k c.proof.inside.start c.proof.inside.count c.levels_of-levels.result c.deref.result.now width range c.levels_of-levels.ensures.value fits in
    omega (arith, few.0, ap (λ (l : List RowParts). length (subtrees_of l)) (c.deref-4.ensures.value ∙ sym c.deref.ensures.value), ap length c.new-hashes.ensures)

pub root_over-requires-clause-some : goal.root_over-requires-clause-some
root_over-requires-clause-some c =
    let width = sym c.is_width.ensures ∙ c.if-not-is_width.false in
    let range = sym c.is_range.ensures ∙ c.if-not-is_range.false in
    let fits = sym c.fits_rows.ensures ∙ c.if-not-fits_rows.false in
    let few = range_subtrees c.proof.inside.k c.proof.inside.start c.proof.inside.count c.levels_of-levels.result c.deref.result.now width range c.levels_of-levels.ensures.value fits in
    some_hashes c.new-hashes.result c.hashes.result.now (subtrees_of c.deref-4.result.now) (c.hashes.ensures.value ∙ c.put_rows.ensures)
    (omega (arith, few.1, ap (λ (l : List RowParts). length (subtrees_of l)) (c.deref-4.ensures.value ∙ sym c.deref.ensures.value)))
