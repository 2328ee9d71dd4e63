use Rattle.std.proofs.Common.{◌≡◌, ◌≤◌, ◌∙◌, sym, ap, arith, take, length, length-take-le, refl}
use Rattle.da_io.specs.Faults.{count_on}
use Rattle.repair_queue.specs.SessionParts.{SessionStands}
use Rattle.da_cli.proofs.FeedingLemmas.{end_on, ends_fed, fed_none, fed_on, judged_feeds, failed_feeds, long_feeds, no_fault, told}
use Rattle.da_cli.proofs.feeding.feed_all.Goals as goal

-- at first nothing was fed
pub loop-count-init : goal.loop-count-init
loop-count-init g c = record {
  header = c.requires.under;
  fed = fed_none c.new-stream.result (g.I.Inputs.rest c.args.inputs.now) (g.I.Inputs.given c.args.inputs.now) c.args.header.now (SessionStands c.args.session.now) c.new-stream.ensures.stands
      (g.met.I.Inputs.counted c.args.inputs.now).0;
  taken = c.new-stream.ensures.taken;
  few = omega arith;
  limit = omega arith;
  faults = refl;
  picks = refl;
  picked = refl;
  files = refl;
}

-- a read failed
pub returns-in_default-clause-fed : goal.returns-in_default-clause-fed
returns-in_default-clause-fed g c =
    failed_feeds c.loop-count.stream _ _ _ _ _ _ c.args.limit c.args.header.now c.loop-count.lies _ _ c.loop-count.invariant.fed (omega (arith, c.loop-count.invariant.taken, c.loop-count.invariant.limit))
    c.in_default.ensures.rest c.in_default.ensures.given

-- a read gave the end
pub returns-then-count-eq0-clause-fed : goal.returns-then-count-eq0-clause-fed
returns-then-count-eq0-clause-fed g c =
    let fed = c.loop-count.invariant.fed in
    let ended = end_on c.loop-count.stream _ _ _ _ _ _ c.args.header.now c.loop-count.lies _ _ c.read.new.buf fed c.if-count-eq0.true c.in-Ok.ensures.rest.0 c.in-Ok.ensures.given in
    judged_feeds c.loop-count.stream _ _ _ _ c.args.limit c.args.header.now c.loop-count.lies _ _ c.judged.result ended
    (omega (arith, c.loop-count.invariant.taken, c.loop-count.invariant.limit)) (c.judged.ensures ended.bytes ended.stands)

pub returns-then-count-eq0-clause-told : goal.returns-then-count-eq0-clause-told
returns-then-count-eq0-clause-told g c =
    told _ _ _ _ c.args.limit c.args.header.now _ _ (returns-then-count-eq0-clause-fed g c)
    (ends_fed _ c.judged.result (c.in-Ok.ensures.rest.1 c.if-count-eq0.true (omega (arith, c.read.auto.buf))))

pub returns-then-count-eq0-clause-faults : goal.returns-then-count-eq0-clause-faults
returns-then-count-eq0-clause-faults g c =
    let fed = c.loop-count.invariant.fed in
    c.in-Ok.ensures.faults ∙ c.loop-count.invariant.faults
    ∙ no_fault (g.I.Inputs.faults c.args.inputs.now) c.loop-count.lies fed.bytes c.judged.result (g.met.I.Inputs.counted c.args.inputs.now).1 (c.judged.ensures fed.bytes fed.stands)

-- a read went past the limit
pub returns-then-count-limit-clause-fed : goal.returns-then-count-limit-clause-fed
returns-then-count-limit-clause-fed g c =
    let within : c.in-Ok.count ≤ length c.read.new.buf = c.in-Ok.ensures.bound.0 in
    let len : length (take c.in-Ok.count c.read.new.buf) ≡ c.in-Ok.count = length-take-le c.in-Ok.count c.read.new.buf within in
    long_feeds c.stream_laws.ensures.stay c.loop-count.stream _ _ _ _ _ _ c.args.limit c.args.header.now c.loop-count.lies _ _ (take c.in-Ok.count c.read.new.buf) c.loop-count.invariant.fed
    (omega (arith, len, c.if-count-limit.true, c.loop-count.invariant.taken, c.loop-count.invariant.limit)) c.in-Ok.ensures.rest.0
    (c.in-Ok.ensures.given ∙ ap (count_on (g.I.Inputs.given c.loop-count.inputs)) (sym len))

pub returns-then-count-limit-clause-told : goal.returns-then-count-limit-clause-told
returns-then-count-limit-clause-told g c =
    told _ _ _ _ c.args.limit c.args.header.now _ _ (returns-then-count-limit-clause-fed g c) tt

-- one piece more
pub loop-count-preserved : goal.loop-count-preserved
loop-count-preserved g c =
    let within : c.in-Ok.count ≤ length c.read.new.buf = c.in-Ok.ensures.bound.0 in
    let len : length (take c.in-Ok.count c.read.new.buf) ≡ c.in-Ok.count = length-take-le c.in-Ok.count c.read.new.buf within in
    record {
      header = c.feed_piece-lies.ensures.header;
      fed = fed_on c.loop-count.stream c.feed_piece-lies.new.stream _ _ _ _ _ _ c.args.header.now c.loop-count.lies c.feed_piece-lies.result _ _ _ (take c.in-Ok.count c.read.new.buf)
          c.loop-count.invariant.fed c.feed_piece-lies.ensures.gone c.in-Ok.ensures.rest.0 (c.in-Ok.ensures.given ∙ ap (count_on (g.I.Inputs.given c.loop-count.inputs)) (sym len));
      taken = omega (arith, c.feed_piece-lies.ensures.taken, c.loop-count.invariant.taken, len);
      few = omega (arith, c.feed_piece-lies.ensures.few, c.loop-count.invariant.few, len);
      limit = omega (arith, c.if-count-limit.false, c.loop-count.invariant.limit);
      faults = c.in-Ok.ensures.faults ∙ c.loop-count.invariant.faults;
      picks = c.in-Ok.ensures.picks ∙ c.loop-count.invariant.picks;
      picked = c.in-Ok.ensures.picked ∙ c.loop-count.invariant.picked;
      files = c.in-Ok.ensures.files ∙ c.loop-count.invariant.files;
    }
