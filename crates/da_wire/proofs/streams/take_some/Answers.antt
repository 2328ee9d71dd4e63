use Rattle.std.proofs.Common.{◌≤◌, ◌∙◌, ◌+◌, ℕ, List, sym, ap, subst, length, take, drop, arith, length-drop}
use Rattle.std.proofs.lemmas.List.{take_rest}
use Rattle.da_wire.specs.StreamParts.{KeepsFront}
use Rattle.da_wire.proofs.TakingLemmas.{taken_all, taken_head, taken_long, taken_body, keeps_on}
use Rattle.da_wire.proofs.streams.take_some.Goals as goal
use Rattle.da_wire.proofs.streams.take_some.Goals.{then-have-via-then-have, then-have-via-else-have+then-is_long-2}

-- a frame that is too long already
pub returns-then-is_long-clause-taken : goal.returns-then-is_long-clause-taken
returns-then-is_long-clause-taken c =
    taken_all c.args.front.now c.keep.new.front c.args.have (length c.args.piece.now) (sym c.is_long.ensures ∙ c.if-is_long.true) c.keep.ensures.first

-- the piece ended within the head, or the head states a length above the limit
pub returns-then-have-clause-taken : goal.returns-then-have-clause-taken
returns-then-have-clause-taken c =
    let short = sym c.is_long.ensures ∙ c.if-is_long.false in
    elim c.then-have.branch [
      | then-have-via-then-have w ↦
          taken_head c.args.front.now c.fill-head.new.front c.args.have (length c.args.piece.now) c.fill-head.result c.requires.unfinished short c.fill-head.ensures.first c.fill-head.ensures.count (omega (arith, w.if-have.true))
      | then-have-via-else-have+then-is_long-2 w ↦
          taken_long c.args.front.now c.fill-head.new.front c.args.have (length c.args.piece.now) c.fill-head.result c.requires.unfinished short c.fill-head.ensures.first c.fill-head.ensures.count
          (sym w.is_long-else-have.ensures ∙ w.if-is_long-2.true)
    ]

-- the head is whole, and the frame goes on
pub returns-clause-taken : goal.returns-clause-taken
returns-clause-taken c =
    let rest = take_rest c.args.piece.now c.fill-head.result in
    taken_body c.args.front.now c.fill-head.new.front c.fill.new.front c.args.have (length c.args.piece.now) c.fill-head.result c.fill.result c.requires.unfinished
    (sym c.is_long.ensures ∙ c.if-is_long.false) c.fill-head.ensures.first c.fill-head.ensures.count c.if-have.false
    (sym c.is_long-else-have.ensures ∙ c.if-is_long-2.false) c.fill.ensures.first
    (omega (arith, c.fill.ensures.count, ap length rest, length-drop c.fill-head.result c.args.piece.now, c.stated.ensures, c.from.ensures))

pub returns-clause-kept : goal.returns-clause-kept
returns-clause-kept c =
    let rest = take_rest c.args.piece.now c.fill-head.result in
    let body : c.fill.result ≤ length (drop c.fill-head.result c.args.piece.now) = omega (arith, c.fill.ensures.count, ap length rest) in
    let second = subst (λ (l : List ℕ). KeepsFront (length c.fill-head.new.front) c.fill-head.new.front c.fill.new.front (c.args.have + c.fill-head.result) (take c.fill.result l)) rest c.fill.ensures.kept in
    let second_here = subst (λ (n : ℕ). KeepsFront n c.fill-head.new.front c.fill.new.front (c.args.have + c.fill-head.result) (take c.fill.result (drop c.fill-head.result c.args.piece.now))) c.fill-head.auto.front second in
    keeps_on (length c.args.front.now) c.args.have c.fill-head.result c.fill.result c.args.front.now c.fill-head.new.front c.fill.new.front c.args.piece.now
    (omega (arith, c.fill-head.ensures.count)) body c.fill-head.ensures.kept second_here
