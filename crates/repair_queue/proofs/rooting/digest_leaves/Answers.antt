use Rattle.std.proofs.Common.{◌≡◌, ◌∙◌, ℕ, ◌+◌, ◌*◌, ◌<◌, length, get_or, true, sym, ap, subst, arith}
use Rattle.std.proofs.lemmas.List.{length-set, get_or_default}
use Rattle.namespace_id.specs.declared.cells.Cell.{Cell}
use Rattle.namespace_id.specs.Digests.{no_digest}
use Rattle.data_header.specs.Headers.{Roots}
use Rattle.axis_roots.specs.Lines.{cell_on}
use Rattle.axis_roots.specs.Trees.{line_leaves}
use Rattle.axis_roots.proofs.Grids.LineLemmas.{length-line_names}
use Rattle.repair_queue.specs.Boards.{decided_of, is_lined}
use Rattle.repair_queue.proofs.Lines.DigestLemmas.{next_digest, kept_digest, all_digests}
use Rattle.repair_queue.proofs.rooting.digest_leaves.Goals as goal

-- there is a name for each digest
pub put_run-requires-clause-names : goal.put_run-requires-clause-names
put_run-requires-clause-names c =
    ap length c.requires.names ∙ length-line_names c.args.header.now.k c.args.axis c.args.index c.args.line.now ∙ sym c.loop-pos.invariant.count

-- one digest more, which was kept
pub loop-pos-preserved : goal.loop-pos-preserved
loop-pos-preserved c =
    let same : c.header.inside.k ≡ c.args.header.now.k = ap (λ (x : Roots). x.k) c.header.view_is in
    let below : c.loop-pos.pos < 2 * c.args.header.now.k = omega (arith, c.loop-pos-test.true, same) in
    let here : c.next_hashed-next.result ≡ c.loop-pos.pos = omega (arith, c.if-pos-next.false, c.next_hashed-next.ensures.from) in
    let hashed = c.next_hashed-next.ensures.hashed (omega (arith, here, below)) in
    let cell : Cell = cell_on c.args.axis c.args.index c.loop-pos.pos in
    let number : c.number.result ≡ cell.row * (2 * c.args.header.now.k) + cell.col =
    c.number.ensures.value ∙ ap (λ (x : Cell). x.row * (2 * c.header.inside.k) + x.col) c.cell_on.ensures
    ∙ ap (λ (k : ℕ). cell.row * (2 * k) + cell.col) same in
    let there : c.number.result < length c.args.board.now.leaves.items =
    subst (λ (n : ℕ). c.number.result < n) (sym c.requires.good.parts.digests)
    (subst (λ (k : ℕ). c.number.result < 2 * k * (2 * k)) (same ∙ c.requires.good.width) c.number.ensures.below) in
    record {
      within = omega (arith, below);
      count = length-set c.loop-pos.digests c.loop-pos.pos c.index.result.now ∙ c.loop-pos.invariant.count;
      so = next_digest (line_leaves c.args.header.now.k c.args.axis c.args.index c.args.line.now) c.loop-pos.digests c.loop-pos.pos c.index.result.now
          (omega (arith, below, c.loop-pos.invariant.count))
          (c.index.ensures ∙ get_or_default c.args.board.now.leaves.items c.number.result c.index.result.now no_digest there
          ∙ ap (λ (n : ℕ). get_or c.args.board.now.leaves.items n no_digest) number
          ∙ kept_digest c.args.header.now c.args.board.now c.args.axis c.args.index c.loop-pos.pos c.args.line.now c.requires.good c.requires.index below c.requires.line
          (c.requires.kept hashed.0) (subst (λ (q : ℕ). is_lined (decided_of c.args.board.now) (cell_on c.args.axis c.args.index q) ≡ true) here hashed.1))
          c.loop-pos.invariant.so;
    }

-- all of them
pub returns : goal.returns
returns c =
    let same : c.header.inside.k ≡ c.args.header.now.k = ap (λ (x : Roots). x.k) c.header.view_is in
    all_digests c.args.header.now.k c.args.axis c.args.index c.args.line.now c.loop-pos.digests c.loop-pos.pos (omega arith) c.requires.line c.loop-pos.invariant.count
    c.loop-pos.invariant.so
