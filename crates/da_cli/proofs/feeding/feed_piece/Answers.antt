use Rattle.std.proofs.Common.{◌≡◌, ◌<◌, ◌+◌, ◌∙◌, false, eqb, List, ℕ, refl, sym, subst, ap, arith, length, length-drop}
use Rattle.std.proofs.lemmas.List.{take_rest}
use Rattle.std.proofs.lemmas.Bool.Decides.{nat_tests}
use Rattle.repair_queue.specs.SessionParts.{SessionStands}
use Rattle.da_cli.proofs.FeedingLemmas.{IsPart, part_none, part_on}
use Rattle.da_cli.proofs.feeding.feed_piece.Goals as goal

-- at first nothing is done
pub loop-rest-init : goal.loop-rest-init
loop-rest-init c = record {
  header = c.requires.under;
  part = part_none c.args.stream.now (SessionStands c.args.session.now) c.args.header.now c.args.piece.now;
  few = omega arith;
  taken = refl;
}

-- one frame more
pub loop-rest-preserved : goal.loop-rest-preserved
loop-rest-preserved c =
    let rest = c.loop-rest.rest.now in
    let count = c.feed_frame-count.result.0 in
    let on = part_on c.args.stream.now c.loop-rest.stream c.feed_frame-count.new.stream (SessionStands c.args.session.now) (SessionStands c.loop-rest.session) (SessionStands c.feed_frame-count.new.session)
    c.args.header.now c.args.piece.now rest count c.loop-rest.lies c.feed_frame-count.result.1 c.loop-rest.invariant.part c.feed_frame-count.ensures.gone in
    let more : eqb (length rest) 0 ≡ false = sym c.is_empty.ensures ∙ c.loop-rest-test.true in
    let left : 0 < length rest = grind (arith, nat_tests) in
    let some = c.feed_frame-count.ensures.some left in
    record {
      header = c.feed_frame-count.ensures.header;
      part = subst (λ (l : List ℕ). IsPart c.args.stream.now c.feed_frame-count.new.stream (SessionStands c.args.session.now) (SessionStands c.feed_frame-count.new.session)
          c.args.header.now c.args.piece.now l (c.loop-rest.lies + c.feed_frame-count.result.1)) (sym (take_rest rest count)) on;
      few = omega (arith, c.loop-rest.invariant.few, c.feed_frame-count.ensures.few, c.feed_frame-count.ensures.within, ap length (take_rest rest count), length-drop count rest, some);
      taken = omega (arith, c.loop-rest.invariant.taken, c.feed_frame-count.ensures.taken, c.feed_frame-count.ensures.within, ap length (take_rest rest count), length-drop count rest);
    }
