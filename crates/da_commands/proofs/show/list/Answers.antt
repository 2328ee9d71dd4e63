use Rattle.std.proofs.Common.{◌∙◌, ◌++◌, ℕ, List, refl, sym, ap}
use Rattle.da_io.specs.Faults.{count_on}
use Rattle.da_wire.specs.Values.{values_of}
use Rattle.da_commands.specs.Show.{all_kinds, shown_as, all_shown, ShowsFrames}
use Rattle.da_status.specs.declared.status.Status.TheVariants.{Done, NoMemory}
use Rattle.da_status.proofs.WriteLemmas.{gathered_on, gathered_part}
use Rattle.da_status.proofs.EndLemmas.{ends_in_fault}
use Rattle.da_commands.proofs.Answering.ShowLemmas.{shows_done, shows_memory, shows_after}
use Rattle.da_commands.proofs.show.list.Goals as goal

-- no frame is left
pub returns-in_default-found : goal.returns-in_default-found
returns-in_default-found g c =
    let shown = shown_as c.args.form in
    let frames = values_of all_kinds c.args.frames.now in
    let rest = c.loop-found.rest.now in
    let none = rw c.in_default-found.is at c.in-Ok.ensures.line in
    rw c.after-in_default-found.ensures (shows_after shown frames _ _ _ _ _ _ _ c.loop-found.room (all_shown shown rest) c.flush-in_default-found.result Done
    c.loop-found.invariant.shown c.loop-found.invariant.faults c.loop-found.invariant.told
    c.flush-in_default-found.ensures.told c.flush-in_default-found.ensures.taken c.flush-in_default-found.ensures.faults
    (λ w counted told. shows_done shown frames _ _ _ _ _ (values_of all_kinds rest) w none counted told))

-- memory runs out in place of a frame, or for its line
pub returns-in_default : goal.returns-in_default
returns-in_default g c =
    let shown = shown_as c.args.form in
    let frames = values_of all_kinds c.args.frames.now in
    let rest = all_shown shown c.loop-found.rest.now in
    rw c.after.ensures (shows_after shown frames _ _ _ _ _ _ _ c.loop-found.room rest c.flush.result NoMemory
    c.loop-found.invariant.shown c.loop-found.invariant.faults c.loop-found.invariant.told c.flush.ensures.told c.flush.ensures.taken c.flush.ensures.faults
    (λ w counted told. shows_memory shown frames _ _ _ _ _ rest w c.in_default.ensures.memory counted told))

-- a part of what was held, with the next frame's line behind it, was taken
pub returns-in_default-add : goal.returns-in_default-add
returns-in_default-add g c =
    let shown = shown_as c.args.form in
    let first = rw c.in-Some.is at c.in-Ok.ensures.line in
    let next = first ∙ ap (λ (l : List ℕ). l ++ all_shown shown c.in-Some.more.now) (sym c.as_bytes.ensures.value) in
    ends_in_fault (ShowsFrames shown (values_of all_kinds c.args.frames.now)) _ _ _ _ _ _ _ (refl, refl)
    (gathered_part _ _ _ _ _ _ _ _ c.loop-found.invariant.shown next c.in_default-add.ensures.taken)
    (c.in_default-add.ensures.faults ∙ ap (λ (n : ℕ). count_on n 1) c.loop-found.invariant.faults)
    (λ s. c.in_default-add.ensures.told.0 (c.loop-found.invariant.told.0 s), λ s. c.loop-found.invariant.told.1 (c.in_default-add.ensures.told.1 s))

pub loop-found-preserved : goal.loop-found-preserved
loop-found-preserved g c =
    let shown = shown_as c.args.form in
    let first = rw c.in-Some.is at c.in-Ok.ensures.line in
    let next = first ∙ ap (λ (l : List ℕ). l ++ all_shown shown c.in-Some.more.now) (sym c.as_bytes.ensures.value) in
    record {
      shown = gathered_on _ _ _ _ _ _ _ _ _ c.loop-found.invariant.shown next c.in-Ok-add.ensures.taken;
      told = (λ s. c.in-Ok-add.ensures.told.0 (c.loop-found.invariant.told.0 s), λ s. c.loop-found.invariant.told.1 (c.in-Ok-add.ensures.told.1 s));
      faults = c.in-Ok-add.ensures.faults ∙ c.loop-found.invariant.faults;
    }
