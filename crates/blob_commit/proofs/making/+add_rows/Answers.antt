use Rattle.std.proofs.Common.{◌≡◌, ◌∙◌, ℕ, ◌-◌, ◌%◌, ◌^◌, ◌<◌, ap, arith}
use Rattle.std.proofs.Math.Nat.{min-le_left}
use Rattle.std.proofs.lemmas.Result.{on_ok_weaker}
use Rattle.namespace_id.proofs.WidthLemmas.{is_width-pos}
use Rattle.data_header.specs.DataRoots.{data_root_of}
use Rattle.blob_commit.specs.Proofs.{part_of_row}
use Rattle.blob_commit.proofs.FitLemmas.{part-pos, next_begins}
use Rattle.blob_commit.proofs.MakingLemmas.{adds_none, adds_more}
use Rattle.blob_commit.proofs.making.+add_rows.Goals as goal

pub returns-then-rest-eq0 : goal.returns-then-rest-eq0
returns-then-rest-eq0 t c = adds_none (data_root_of c.args.roots.now) c.args.roots.now.k c.args.levels c.args.rest.at c.args.rest.left c.args.rows.now.items c.if-rest-eq0.true

pub add_rows-requires : goal.add_rows-requires
add_rows-requires t c =
    let same : c.width.result ≡ c.args.roots.now.k = c.width.ensures.value in
    let divides : c.width.result % 2 ^ (c.args.levels - 1) ≡ 0 = ap (λ (m : ℕ). m % 2 ^ (c.args.levels - 1)) same ∙ c.requires.divides in
    let part = part-pos c.width.result c.args.rest.at c.args.rest.left (is_width-pos c.width.result c.width.ensures.width) (omega (arith, c.if-rest-eq0.false)) in
    let le = min-le_left c.args.rest.left (c.width.result - c.args.rest.at % c.width.result) in (
      omega (arith, c.decreases, part, le, c.part_of_row-part.ensures),
      (
        c.requires.number,
        (
          c.requires.trees,
          (
            c.requires.levels,
            (
              c.requires.bound,
              (
                omega (arith, c.requires.within, le, c.part_of_row-part.ensures),
                (
                  c.requires.divides,
                  next_begins c.width.result c.args.levels c.args.rest.at c.args.rest.left c.part_of_row-part.result c.width.ensures.width c.requires.levels divides c.part_of_row-part.ensures,
                ),
              ),
            ),
          ),
        ),
      ),
    )

pub returns : goal.returns
returns t c =
    let k : ℕ = c.args.roots.now.k in
    let same : c.width.result ≡ k = c.width.ensures.value in
    let some_k : 0 < k = omega (arith, same, is_width-pos c.width.result c.width.ensures.width) in
    let part : c.part_of_row-part.result ≡ part_of_row k c.args.rest.at c.args.rest.left = c.part_of_row-part.ensures ∙ ap (λ (m : ℕ). part_of_row m c.args.rest.at c.args.rest.left) same in
    on_ok_weaker c.add_rows.result
    (adds_more (data_root_of c.args.roots.now) k c.args.levels c.args.rest.at c.args.rest.left c.part_of_row-part.result c.args.rows.now.items c.add_row.new.rows.items c.add_rows.new.rows.items
    some_k c.requires.divides (omega (arith, c.if-rest-eq0.false)) part c.in_ok-add_row.ensures)
    c.add_rows.ensures
