use Rattle.std.proofs.Common.{rules, ◌≡◌, ◌+◌, ◌∷◌, ◌++◌, [], ℕ, List, replicate, sym, subst, arith}
use Rattle.std.specs.List.{AllZip}
use Rattle.std.proofs.lemmas.List.{replicate_more}
use Rattle.da_net.specs.declared.seats.Seat.{Seat}
use Rattle.da_net.specs.Networks.{full}
use Rattle.da_net.specs.Seats.{IsFreshSeat}
use Rattle.da_net.proofs.MakingLemmas.{zip_same}
use Rattle.da_net.proofs.making.full_seats.Goals as goal
use Rattle.namespace_id.proofs.ZipLemmas.{zip_push}

-- one more is there
pub loop-number-preserved : goal.loop-number-preserved
loop-number-preserved g c =
    let items : c.push.new.self.items ≡ c.loop-number.seats.items ++ c.in_ok-seat.seat ∷ [] = search rules in
    subst (λ (l : List (Seat g.row.F.Denot)). AllZip (IsFreshSeat g.F.Picker.picks c.args.header.now) (replicate (c.loop-number.number + 1) full) l) (sym items)
    (zip_same (IsFreshSeat g.F.Picker.picks c.args.header.now) (replicate c.loop-number.number full ++ full ∷ []) (replicate (c.loop-number.number + 1) full)
    (c.loop-number.seats.items ++ c.in_ok-seat.seat ∷ []) (replicate_more c.loop-number.number full)
    (zip_push (IsFreshSeat g.F.Picker.picks c.args.header.now) (replicate c.loop-number.number full) c.loop-number.seats.items full c.in_ok-seat.seat
    c.loop-number.invariant c.in_ok-seat.ensures))

-- all are
pub returns : goal.returns
returns g c =
    let e : c.loop-number.number ≡ c.args.count = omega arith in
    subst (λ (n : ℕ). AllZip (IsFreshSeat g.F.Picker.picks c.args.header.now) (replicate n full) c.loop-number.seats.items) e c.loop-number.invariant
