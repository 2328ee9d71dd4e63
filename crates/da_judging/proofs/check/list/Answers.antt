use Rattle.std.proofs.Common.{◌∙◌, ℕ, refl, ap, rules}
use Rattle.data_header.specs.Headers.{Roots}
use Rattle.da_io.specs.Faults.{count_on}
use Rattle.da_wire.specs.Reading.{raw_seen}
use Rattle.da_wire.specs.Frames.{frames_of}
use Rattle.da_judging.specs.Check.{Lists, check_lines}
use Rattle.da_status.proofs.WriteLemmas.{written_part, gathered_on, gathered_part}
use Rattle.da_status.proofs.EndLemmas.{ends_in_fault, once_fault}
use Rattle.da_judging.proofs.AheadLemmas.{new_ahead}
use Rattle.da_judging.proofs.CheckLemmas.{next_line, next_ok}
use Rattle.da_judging.proofs.check.list.Goals as goal

pub returns-in_default-add : goal.returns-in_default-add
returns-in_default-add g c =
    let next = next_line c.args.header.now c.loop-frame.rest.now c.in-Some.after.now c.line_of.result.now (raw_seen c.in-Some.frame) c.finding_of-finding.result
    c.in-Some.ensures.frames c.finding_of-finding.ensures.value c.line_of.ensures in
    once_fault (Lists c.args.header.now (frames_of c.args.messages.now)) _ _ _ _ _
    (ends_in_fault (Lists c.args.header.now (frames_of c.args.messages.now)) _ _ _ _ _ _ _ (refl, refl)
    (gathered_part _ _ _ _ _ _ _ _ c.loop-frame.invariant.lines next c.in_default-add.ensures.taken)
    (c.in_default-add.ensures.faults ∙ ap (λ (n : ℕ). count_on n 1) c.loop-frame.invariant.faults)
    (λ s. c.in_default-add.ensures.told.0 (c.loop-frame.invariant.told.0 s), λ s. c.loop-frame.invariant.told.1 (c.in_default-add.ensures.told.1 s)))

-- before the first frame no digests are ahead, and nothing is held
pub loop-frame-init : goal.loop-frame-init
loop-frame-init g c = record {
  trees = refl;
  ahead = new_ahead c.args.header.now.k c.new-queue.result (frames_of c.args.messages.now) c.new-queue.ensures;
  lines = search rules;
  ok = refl;
  told = (λ s. s, λ s. s);
  faults = refl;
}

-- the digest that is ahead is that of the leaf which the frame shows
pub finding_of-finding-requires-clause-leaf : goal.finding_of-finding-requires-clause-leaf
finding_of-finding-requires-clause-leaf g c =
    (rw (ap (λ (h : Roots). h.k) c.header.view_is) at c.next_leaf-leaf.ensures.next (raw_seen c.in-Some.frame) (frames_of c.in-Some.after.now) c.in-Some.ensures.frames).0

pub loop-frame-preserved : goal.loop-frame-preserved
loop-frame-preserved g c =
    let next = next_line c.args.header.now c.loop-frame.rest.now c.in-Some.after.now c.line_of.result.now (raw_seen c.in-Some.frame) c.finding_of-finding.result
    c.in-Some.ensures.frames c.finding_of-finding.ensures.value c.line_of.ensures in
    record {
      trees = c.finding_of-finding.ensures.kept ∙ c.next_leaf-leaf.ensures.kept ∙ c.loop-frame.invariant.trees;
      ahead = (rw (ap (λ (h : Roots). h.k) c.header.view_is) at c.next_leaf-leaf.ensures.next (raw_seen c.in-Some.frame) (frames_of c.in-Some.after.now) c.in-Some.ensures.frames).1;
      lines = gathered_on _ _ _ _ _ _ _ _ _ c.loop-frame.invariant.lines next c.in-Ok.ensures.taken;
      ok = c.loop-frame.invariant.ok
          ∙ next_ok c.args.header.now c.loop-frame.rest.now c.in-Some.after.now (raw_seen c.in-Some.frame) c.finding_of-finding.result c.loop-frame.all_ok c.is_ok-all_ok.result
          c.in-Some.ensures.frames c.finding_of-finding.ensures.value c.is_ok-all_ok.ensures;
      told = (λ s. c.in-Ok.ensures.told.0 (c.loop-frame.invariant.told.0 s), λ s. c.loop-frame.invariant.told.1 (c.in-Ok.ensures.told.1 s));
      faults = c.in-Ok.ensures.faults ∙ c.loop-frame.invariant.faults;
    }

-- a part of what was held was taken
pub returns-in-Err : goal.returns-in-Err
returns-in-Err g c =
    once_fault (Lists c.args.header.now (frames_of c.args.messages.now)) _ _ _ _ _
    (ends_in_fault (Lists c.args.header.now (frames_of c.args.messages.now)) _ _ _ _ _ _ _ (refl, refl)
    (written_part _ _ _ _ _ c.loop-frame.room (check_lines c.args.header.now (frames_of c.loop-frame.rest.now)) c.loop-frame.invariant.lines refl c.in-Err.ensures.taken)
    (c.in-Err.ensures.faults ∙ ap (λ (n : ℕ). count_on n 1) c.loop-frame.invariant.faults)
    (λ s. c.in-Err.ensures.told.0 (c.loop-frame.invariant.told.0 s), λ s. c.loop-frame.invariant.told.1 (c.in-Err.ensures.told.1 s)))
