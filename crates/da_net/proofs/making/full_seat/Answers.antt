use Rattle.std.proofs.Common.{◌≡◌, ℕ, ap, subst}
use Rattle.data_header.specs.Headers.{Roots}
use Rattle.da_net.specs.Nodes.{HasSpareClaim}
use Rattle.da_net.proofs.MakingLemmas.{fresh_full}
use Rattle.da_net.proofs.making.full_seat.Goals as goal

-- nothing was handed to it
pub returns : goal.returns
returns g c =
    let width : c.header.inside.k ≡ c.args.header.now.k = ap (λ (h : Roots). h.k) c.header.view_is in
    fresh_full g.F.Picker.picks c.args.header.now c.in_ok-session.session c.in_ok-kept.kept c.in_ok-published.published
    c.in_ok-session.ensures.header c.in_ok-session.ensures.open c.in_ok-session.ensures.stands
    (subst (λ (k : ℕ). HasSpareClaim k c.in_ok-kept.kept) width c.in_ok-kept.ensures)
    (subst (λ (k : ℕ). HasSpareClaim k c.in_ok-published.published) width c.in_ok-published.ensures)
