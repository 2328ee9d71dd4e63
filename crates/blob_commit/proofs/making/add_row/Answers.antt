use Rattle.std.proofs.Common.{◌≡◌, ◌∙◌, ℕ, ◌+◌, ◌-◌, ◌*◌, ◌/◌, ◌%◌, ◌^◌, ◌<◌, ◌≤◌, List, length, refl, sym, ap, subst, arith}
use Rattle.namespace_id.proofs.WidthLemmas.{is_width-pos}
use Rattle.nmt_proofs.specs.Places.{AreAligned}
use Rattle.data_header.specs.DataRoots.{data_root_of}
use Rattle.axis_roots.specs.Trees.{no_tree}
use Rattle.blob_commit.specs.Cuts.{cut_by}
use Rattle.blob_commit.specs.Proofs.{part_of_row}
use Rattle.blob_commit.specs.Making.{IsHeaderRowTree}
use Rattle.blob_commit.proofs.CutLemmas.{few_in_row}
use Rattle.blob_commit.proofs.CommitOwnLemmas.{row-lt}
use Rattle.blob_commit.proofs.FitLemmas.{part-pos, some_sizes, row_places}
use Rattle.blob_commit.proofs.MakingLemmas.{row_holds, at_place}
use Rattle.blob_commit.proofs.making.add_row.Goals as goal

pub cut_by-sizes-requires-clause-room : goal.cut_by-sizes-requires-clause-room
cut_by-sizes-requires-clause-room c =
    few_in_row c.width-k.result c.args.levels c.args.rest.at c.args.rest.left c.part_of_row-part.result c.width-k.ensures.width c.requires.levels c.requires.bound c.part_of_row-part.ensures

-- the tree at the row's place
pub make_row-requires-clause-tree : goal.make_row-requires-clause-tree
make_row-requires-clause-tree c =
    let same : c.width-k.result ≡ c.args.roots.now.k = c.width-k.ensures.value in
    let row : ℕ = c.args.rest.at / c.width-k.result in
    let within : c.args.rest.at + c.args.rest.left ≤ c.width-k.result * c.width-k.result = subst (λ (m : ℕ). c.args.rest.at + c.args.rest.left ≤ m * m) (sym same) c.requires.within in
    let below : row < c.width-k.result = row-lt c.args.rest.at c.width-k.result (omega (arith, within, c.requires.some)) in
    subst (IsHeaderRowTree c.args.roots.now row) (at_place c.args.trees.now row c.index-trees-index.result no_tree (omega (arith, below, same, c.requires.number)) c.index-trees-index.is) (c.requires.trees row (omega (arith, below, same)))

pub make_row-requires-clause-some : goal.make_row-requires-clause-some
make_row-requires-clause-some c =
    let part = part-pos c.width-k.result c.args.rest.at c.args.rest.left (is_width-pos c.width-k.result c.width-k.ensures.width) c.requires.some in
    let some = some_sizes c.args.levels c.part_of_row-part.result c.requires.levels (omega (arith, part, c.part_of_row-part.ensures)) in
    omega (arith, some, ap length (c.sizes.ensures.value ∙ c.cut_by-sizes.ensures))

pub make_row-requires-clause-places : goal.make_row-requires-clause-places
make_row-requires-clause-places c =
    let same : c.width-k.result ≡ c.args.roots.now.k = c.width-k.ensures.value in
    let divides : c.width-k.result % 2 ^ (c.args.levels - 1) ≡ 0 = ap (λ (m : ℕ). m % 2 ^ (c.args.levels - 1)) same ∙ c.requires.divides in
    let places : AreAligned (c.args.rest.at % c.width-k.result) (2 * c.width-k.result) (cut_by c.args.levels c.part_of_row-part.result) =
    row_places c.width-k.result c.args.levels c.args.rest.at c.args.rest.left c.part_of_row-part.result (c.args.rest.at % c.width-k.result) c.width-k.ensures.width c.requires.levels c.requires.bound divides
    c.requires.begins refl c.part_of_row-part.ensures in
    subst (λ (m : ℕ). AreAligned (c.args.rest.at % c.width-k.result) (2 * m) c.sizes.result.now) same
    (subst (λ (l : List ℕ). AreAligned (c.args.rest.at % c.width-k.result) (2 * c.width-k.result) l) (sym (c.sizes.ensures.value ∙ c.cut_by-sizes.ensures)) places)

pub returns : goal.returns
returns c =
    let k : ℕ = c.args.roots.now.k in
    let same : c.width-k.result ≡ k = c.width-k.ensures.value in
    let part : c.part_of_row-part.result ≡ part_of_row k c.args.rest.at c.args.rest.left = c.part_of_row-part.ensures ∙ ap (λ (m : ℕ). part_of_row m c.args.rest.at c.args.rest.left) same in
    record {
      row = c.in_ok-row.row;
      all = c.in-Ok.ensures.items;
      holds =
          row_holds (data_root_of c.args.roots.now) k c.args.levels c.args.rest.at c.args.rest.left (c.args.rest.at / c.width-k.result) (c.args.rest.at % c.width-k.result) c.sizes.result.now c.in_ok-row.row
          (ap (λ (m : ℕ). c.args.rest.at / m) same) (ap (λ (m : ℕ). c.args.rest.at % m) same) (c.sizes.ensures.value ∙ c.cut_by-sizes.ensures ∙ ap (cut_by c.args.levels) part)
          c.in_ok-row.ensures.lead c.in_ok-row.ensures.count c.in_ok-row.ensures.opens;
    }
