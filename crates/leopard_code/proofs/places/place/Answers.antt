use Rattle.std.proofs.Common.{◌∙◌, ◌*◌, ◌<◌, ℕ, [], sym, arith, length, get_or, below_more}
use Rattle.std.proofs.lemmas.Option.{slice_get-get_or}
use Rattle.leopard_code.proofs.LocateLemmas.{slice_get-set_same, slice_get-set_other}
use Rattle.leopard_code.proofs.PositionLemmas.{position-lt}
use Rattle.leopard_code.proofs.StandingLemmas.{positions_apart}
use Rattle.leopard_code.proofs.places.place.Goals as goal

-- the share at i comes to its position, which is none of the earlier ones
pub loop-i-preserved : goal.loop-i-preserved
loop-i-preserved c =
    let i : ℕ = c.loop-i.i in
    let pos : ℕ = get_or c.args.known.now c.loop-i.i 0 in
    let within : get_or c.args.known.now c.loop-i.i 0 < 2 * length c.args.known.now =
    position-lt (length c.args.known.now) c.args.known.now c.loop-i.i (omega arith) c.requires.positions in
    record {
      known = below_more _ _
          (λ j h. slice_get-set_other c.loop-i.all pos (get_or c.args.known.now j 0) (get_or c.args.shares.now c.loop-i.i (record { 0 = [] }))
          (positions_apart (length c.args.known.now) c.args.known.now j c.loop-i.i c.requires.positions h (omega arith))
          ∙ c.loop-i.invariant.known j h)
          (slice_get-set_same c.loop-i.all pos (get_or c.args.shares.now c.loop-i.i (record { 0 = [] })) (omega arith)
          ∙ sym (slice_get-get_or c.args.shares.now c.loop-i.i (record { 0 = [] }) (omega arith)));
      others = λ p u.
          slice_get-set_other c.loop-i.all pos p (get_or c.args.shares.now c.loop-i.i (record { 0 = [] })) (λ e. u c.loop-i.i (omega arith) (sym e))
          ∙ c.loop-i.invariant.others p (λ j h. u j (omega arith));
    }
