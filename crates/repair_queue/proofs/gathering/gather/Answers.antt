use Rattle.std.proofs.Common.{rules, ◌≡◌, ◌∙◌, ℕ, ◌+◌, ◌*◌, ◌<◌, [], ◌∷◌, ◌++◌, List, length, true, sym, ap, subst, arith, Vec, Global}
use Rattle.std.specs.Prelude.{vec_capacity}
use Rattle.std.proofs.lemmas.List.{length_push}
use Rattle.namespace_id.specs.declared.cells.Cell.{Cell}
use Rattle.namespace_id.specs.declared.shares.Share.{Share}
use Rattle.namespace_id.specs.Cells.{is_in_square}
use Rattle.namespace_id.proofs.WidthLemmas.{is_width-pos}
use Rattle.data_header.specs.Headers.{Roots}
use Rattle.repair_queue.specs.Boards.{given_of, decided_of, shared_of, found_count}
use Rattle.repair_queue.proofs.Lines.GatherLemmas.{IsGathering, none_gathered, unknown_gathered, known_gathered, chosen_gathered}
use Rattle.repair_queue.proofs.gathering.gather.Goals.{in-Some+else-len-header, in_default}
use Rattle.repair_queue.proofs.gathering.gather.Goals as goal
use Rattle.axis_roots.proofs.Grids.WrittenLemmas.{on_axis_in_square}

-- none at first
pub loop-pos-init : goal.loop-pos-init
loop-pos-init c =
    let same : c.header.inside.k ≡ c.args.header.now.k = ap (λ (x : Roots). x.k) c.header.view_is in record {
      few = omega (arith, same, is_width-pos c.header.inside.k c.header.invariant.width, ap length c.clear.ensures.items);
      so = none_gathered (given_of c.args.board.now) (decided_of c.args.board.now) (shared_of c.args.board.now) c.args.axis c.args.index
          c.clear.new.self.items c.clear-2.new.self.items c.clear.ensures.items c.clear-2.ensures.items;
      known = omega (arith, c.requires.known, c.clear.ensures.capacity);
      given = omega (arith, c.requires.given, c.clear-2.ensures.capacity);
    }

-- each cell is in the square
pub known_share-requires-clause-cell : goal.known_share-requires-clause-cell
known_share-requires-clause-cell c =
    let same : c.header.inside.k ≡ c.args.header.now.k = ap (λ (x : Roots). x.k) c.header.view_is in
    subst (λ (k : ℕ). is_in_square k c.cell_on.result ≡ true) c.requires.good.width
    (subst (λ (x : Cell). is_in_square c.args.header.now.k x ≡ true) (sym c.cell_on.ensures)
    (on_axis_in_square c.args.header.now.k c.args.axis c.args.index c.loop-pos.pos c.requires.index (omega arith)))

-- one position more
pub loop-pos-preserved : goal.loop-pos-preserved
loop-pos-preserved c =
    let same : c.header.inside.k ≡ c.args.header.now.k = ap (λ (x : Roots). x.k) c.header.view_is in
    let next = λ (known : List ℕ) (given : List Share). IsGathering (given_of c.args.board.now) (decided_of c.args.board.now) (shared_of c.args.board.now)
    c.args.axis c.args.index (c.loop-pos.pos + 1) known given in
    elim c.match-known_share.branch [
      | in-Some+else-len-header w ↦
          let known : w.push.new.self.items ≡ c.loop-pos.known.items ++ c.loop-pos.pos ∷ [] = search rules in
          let given : w.push-in-Some.new.self.items ≡ c.loop-pos.given.items ++ w.in-Some.share.now ∷ [] = search rules in
          let long : length w.push.new.self.items ≡ length c.loop-pos.known.items + 1 = ap length known ∙ length_push c.loop-pos.known.items c.loop-pos.pos in record {
            few = subst (λ (v : Vec ℕ Global). length v.items < c.args.header.now.k) (sym w.known-is)
                (omega (arith, long, c.loop-pos.invariant.few, same, w.len.ensures, w.push.new.self.ok.0, w.if-len-header.false));
            so = known_gathered (given_of c.args.board.now) (decided_of c.args.board.now) (shared_of c.args.board.now) c.args.axis c.args.index c.loop-pos.pos
                c.loop-pos.known.items c.loop-pos.given.items c.loop-pos.invariant.so c.cell_on.result w.in-Some.share.now c.match-known_share.known.items
                c.match-known_share.given.items c.cell_on.ensures w.in-Some.ensures.0 w.in-Some.ensures.1
                (ap (λ (v : Vec ℕ Global). v.items) w.known-is ∙ known) (ap (λ (v : Vec Share Global). v.items) w.given-is ∙ given);
            known = omega (arith, c.loop-pos.invariant.known, w.push.ensures.capacity, ap (λ (v : Vec ℕ Global). vec_capacity v) w.known-is);
            given = omega (arith, c.loop-pos.invariant.given, w.push-in-Some.ensures.capacity, ap (λ (v : Vec Share Global). vec_capacity v) w.given-is);
          }
      | in_default w ↦ record {
        few = subst (λ (v : Vec ℕ Global). length v.items < c.args.header.now.k) (sym w.known-is) c.loop-pos.invariant.few;
        so = subst (λ (v : Vec ℕ Global). next v.items c.match-known_share.given.items) (sym w.known-is)
            (subst (λ (v : Vec Share Global). next c.loop-pos.known.items v.items) (sym w.given-is)
            (unknown_gathered (given_of c.args.board.now) (decided_of c.args.board.now) (shared_of c.args.board.now) c.args.axis c.args.index c.loop-pos.pos
            c.loop-pos.known.items c.loop-pos.given.items c.loop-pos.invariant.so c.cell_on.result c.cell_on.ensures w.in_default.ensures));
        known = omega (arith, c.loop-pos.invariant.known, ap (λ (v : Vec ℕ Global). vec_capacity v) w.known-is);
        given = omega (arith, c.loop-pos.invariant.given, ap (λ (v : Vec Share Global). vec_capacity v) w.given-is);
      }
    ]

-- k are gathered
full : (c : goal.Then-len-header) → IsGathering (given_of c.args.board.now) (decided_of c.args.board.now) (shared_of c.args.board.now) c.args.axis c.args.index
    (c.loop-pos.pos + 1) c.push.new.self.items c.push-in-Some.new.self.items
full c =
    known_gathered (given_of c.args.board.now) (decided_of c.args.board.now) (shared_of c.args.board.now) c.args.axis c.args.index c.loop-pos.pos
    c.loop-pos.known.items c.loop-pos.given.items c.loop-pos.invariant.so c.cell_on.result c.in-Some.share.now c.push.new.self.items
    c.push-in-Some.new.self.items c.cell_on.ensures c.in-Some.ensures.0 c.in-Some.ensures.1 (search rules) (search rules)

pub returns-then-len-header-clause-chosen : goal.returns-then-len-header-clause-chosen
returns-then-len-header-clause-chosen c =
    let same : c.header.inside.k ≡ c.args.header.now.k = ap (λ (x : Roots). x.k) c.header.view_is in
    chosen_gathered (given_of c.args.board.now) (decided_of c.args.board.now) (shared_of c.args.board.now) c.args.axis c.args.index (c.loop-pos.pos + 1)
    c.push.new.self.items c.push-in-Some.new.self.items (full c) c.args.header.now.k (omega (arith, c.loop-pos-test.true, same))
    (omega (arith, c.len.ensures, c.push.new.self.ok.0, c.if-len-header.true, same))

pub returns-then-len-header-clause-gathered : goal.returns-then-len-header-clause-gathered
returns-then-len-header-clause-gathered c = (full c).gathered

-- the cells are more than are known
pub unreachable-requires : goal.unreachable-requires
unreachable-requires c =
    let same : c.header.inside.k ≡ c.args.header.now.k = ap (λ (x : Roots). x.k) c.header.view_is in
    let end : c.loop-pos.pos ≡ 2 * c.args.header.now.k = omega arith in
    absurd (omega (
      arith,
      c.requires.half,
      c.loop-pos.invariant.few,
      c.loop-pos.invariant.so.all,
      ap (found_count (given_of c.args.board.now) (decided_of c.args.board.now) c.args.axis c.args.index) end,
    ))
