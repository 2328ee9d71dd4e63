use Rattle.std.proofs.Common.{◌*◌, ℕ, List, ap, subst, arith, le_of_eq}
use Rattle.axis_roots.specs.declared.message.messages.Message.{Message}
use Rattle.da_demo.specs.Gathered.{IsGathered}
use Rattle.da_demo.proofs.HalfLemmas.{first_none, first_all, half_next, few_cells}
use Rattle.da_demo.proofs.gathering.gather_half.Goals as goal

-- the lies alone
pub loop-left-init : goal.loop-left-init
loop-left-init c =
    let all = ap (λ (w : ℕ). 2 * w * (2 * w)) c.width-side.ensures.value in
    record {
      gathered = subst (λ (ms : List Message). IsGathered c.args.header.now ms c.args.gathered.now)
          (first_none c.args.grid.now.k c.args.grid.now.shares _ all);
      within = le_of_eq all;
      under = c.requires.header;
      few = omega (arith, all, c.requires.few);
    }

-- one more cell
pub loop-left-preserved : goal.loop-left-preserved
loop-left-preserved c = record {
  gathered = λ before.
      half_next c.args.header.now c.args.grid.now.k c.args.grid.now.shares c.loop-left.gathered
      c.gather_even.new.gathered _ c.loop-left.left _ c.cell_numbered.result
      c.cell_numbered.ensures.value (ap (λ (w : ℕ). 2 * w) c.width-side.ensures.value) (omega arith)
      (omega (arith, c.loop-left.invariant.within))
      (c.loop-left.invariant.gathered before) c.in_ok-gather_even.ensures.gathered;
  within = omega (arith, c.loop-left.invariant.within);
  under = c.gather_even.ensures.header;
  few = omega (arith, c.loop-left.invariant.few, c.gather_even.ensures.near);
}

-- there are few
pub gather_even-requires-clause-few : goal.gather_even-requires-clause-few
gather_even-requires-clause-few c =
    omega (arith, c.loop-left.invariant.few, few_cells c.args.grid.now.k c.width-side.ensures.grid.width)

-- all
pub returns : goal.returns
returns c = λ before.
    subst (λ (ms : List Message). IsGathered c.args.header.now ms c.loop-left.gathered)
    (first_all c.args.grid.now.k c.args.grid.now.shares c.loop-left.left (omega (arith, c.loop-left-test.false)))
    (c.loop-left.invariant.gathered before)
