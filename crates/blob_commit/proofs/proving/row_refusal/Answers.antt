use Rattle.std.proofs.Common.{◌∙◌, ◌*◌, ◌%◌, ℕ, List, length, Some, None, refl, ap, sym, arith, subst}
use Rattle.namespace_id.proofs.WidthLemmas.{is_width-pos}
use Rattle.nmt_proofs.specs.Places.{AreAligned}
use Rattle.blob_commit.specs.Cuts.{cut_by}
use Rattle.blob_commit.specs.Proofs.{RowParts}
use Rattle.blob_commit.proofs.WalkLemmas.{refusal_row}
use Rattle.blob_commit.proofs.CutLemmas.{few_in_row}
use Rattle.blob_commit.proofs.FitLemmas.{part-pos, some_sizes, row_places}
use Rattle.blob_commit.proofs.proving.row_refusal.Goals as goal

pub cut_by-sizes-requires-clause-room : goal.cut_by-sizes-requires-clause-room
cut_by-sizes-requires-clause-room c = few_in_row c.args.k c.args.levels c.args.at c.args.left c.part_of_row-part.result c.requires.width c.requires.levels c.requires.bound c.part_of_row-part.ensures

pub open_nodes-opened-requires-clause-some : goal.open_nodes-opened-requires-clause-some
open_nodes-opened-requires-clause-some c =
    let some = some_sizes c.args.levels c.part_of_row-part.result c.requires.levels (omega (arith, part-pos c.args.k c.args.at c.args.left (is_width-pos c.args.k c.requires.width) c.requires.some, c.part_of_row-part.ensures)) in
    omega (arith, some, ap length (c.sizes.ensures.value ∙ c.cut_by-sizes.ensures))

pub open_nodes-opened-requires-clause-places : goal.open_nodes-opened-requires-clause-places
open_nodes-opened-requires-clause-places c =
    subst (λ (l : List ℕ). AreAligned (c.args.at % c.args.k) (2 * c.args.k) l) (sym (c.sizes.ensures.value ∙ c.cut_by-sizes.ensures))
    (row_places c.args.k c.args.levels c.args.at c.args.left c.part_of_row-part.result (c.args.at % c.args.k) c.requires.width c.requires.levels c.requires.bound c.requires.divides c.requires.begins refl c.part_of_row-part.ensures)

pub open_nodes-opened-requires-clause-digests : goal.open_nodes-opened-requires-clause-digests
open_nodes-opened-requires-clause-digests c =
    let mine = ap length (c.deref.ensures.value ∙ ap (λ (r : RowParts). r.subtrees) c.row.view_is) in
    let sizes = ap length (c.sizes.ensures.value ∙ c.cut_by-sizes.ensures ∙ ap (cut_by c.args.levels) c.part_of_row-part.ensures) in
    mine ∙ c.requires.fits ∙ sym sizes

pub returns-in-Ok : goal.returns-in-Ok
returns-in-Ok c =
    sym (refusal_row c.args.k c.args.levels c.args.at c.args.left c.args.row.now c.sizes.result.now c.deref.result.now c.nodes.result.now c.row.inside.root None c.in-Ok.ensures.first
    (c.sizes.ensures.value ∙ c.cut_by-sizes.ensures ∙ ap (cut_by c.args.levels) c.part_of_row-part.ensures)
    (c.deref.ensures.value ∙ ap (λ (r : RowParts). r.subtrees) c.row.view_is) (c.nodes.ensures.value ∙ ap (λ (r : RowParts). r.nodes) c.row.view_is) (ap (λ (r : RowParts). r.root) c.row.view_is))

pub returns-in-Err : goal.returns-in-Err
returns-in-Err c =
    sym (refusal_row c.args.k c.args.levels c.args.at c.args.left c.args.row.now c.sizes.result.now c.deref.result.now c.nodes.result.now c.row.inside.root (Some c.in-Err.why) c.in-Err.ensures.first
    (c.sizes.ensures.value ∙ c.cut_by-sizes.ensures ∙ ap (cut_by c.args.levels) c.part_of_row-part.ensures)
    (c.deref.ensures.value ∙ ap (λ (r : RowParts). r.subtrees) c.row.view_is) (c.nodes.ensures.value ∙ ap (λ (r : RowParts). r.nodes) c.row.view_is) (ap (λ (r : RowParts). r.root) c.row.view_is))
