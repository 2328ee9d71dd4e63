use Rattle.std.proofs.Common.{◌∙◌, sym, arith}
use Rattle.da_exchanging.specs.LeftHalf.{file_samples, shares_along}
use Rattle.da_exchanging.proofs.LeftHalfLemmas.{along_other, along_more, along_end, none_left, one_left, fewer_left}
use Rattle.da_exchanging.proofs.left_half.shares_along.Goals as goal

-- no sample is left
pub returns-in_default : goal.returns-in_default
returns-in_default c =
    let rest = c.loop-shares.rest.now in
    sym (along_end c.args.row c.loop-shares.col (shares_along c.args.row 0 (file_samples c.args.bytes.now)) c.loop-shares.shares.items (file_samples rest)
    c.loop-shares.invariant.so_far (none_left c.in_ok-message.field-0 rest c.in_default.is c.in_ok-message.ensures.samples))

-- the next is another one
pub returns-then-not-is_at : goal.returns-then-not-is_at
returns-then-not-is_at c =
    let rest = c.loop-shares.rest.now in
    let next = one_left c.in_ok-message.field-0 rest c.in-Some.message c.in-Some.after c.in-Some.is c.in_ok-message.ensures.samples in
    sym (along_other c.args.row c.loop-shares.col (shares_along c.args.row 0 (file_samples c.args.bytes.now)) c.loop-shares.shares.items (file_samples rest)
    c.loop-shares.invariant.so_far c.in-Some.message (file_samples c.in-Some.after.now) next (sym c.is_at.ensures ∙ c.if-not-is_at.true))

-- one more is taken
pub loop-shares-preserved : goal.loop-shares-preserved
loop-shares-preserved c =
    let rest = c.loop-shares.rest.now in
    let next = one_left c.in_ok-message.field-0 rest c.in-Some.message c.in-Some.after c.in-Some.is c.in_ok-message.ensures.samples in
    let fewer = fewer_left c.in_ok-message.field-0 rest c.in-Some.message c.in-Some.after c.in-Some.is c.in_ok-message.ensures.shorter in record {
      so_far = along_more c.args.row c.loop-shares.col (shares_along c.args.row 0 (file_samples c.args.bytes.now)) c.loop-shares.shares.items (file_samples rest)
          c.loop-shares.invariant.so_far c.in-Some.message (file_samples c.in-Some.after.now) next (sym c.is_at.ensures ∙ c.if-not-is_at.false)
          c.push.new.self.items c.in-Ok.ensures.items;
      few = omega (arith, c.loop-shares.invariant.few, fewer);
    }
