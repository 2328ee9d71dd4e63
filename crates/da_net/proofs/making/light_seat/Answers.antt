use Rattle.std.proofs.Common.{◌≡◌, ℕ, ap, subst}
use Rattle.data_header.specs.Headers.{Roots}
use Rattle.da_net.specs.Nodes.{HasSpareClaim}
use Rattle.da_net.proofs.MakingLemmas.{fresh_light}
use Rattle.da_net.proofs.making.light_seat.Goals as goal

-- nothing was handed to it
pub returns : goal.returns
returns g c =
    let width : c.header.inside.k ≡ c.args.header.now.k = ap (λ (h : Roots). h.k) c.header.view_is in
    fresh_light g.F.Picker.picks c.args.header.now c.args.node c.in_ok-kept.kept c.in_ok-published.published c.requires
    (subst (λ (k : ℕ). HasSpareClaim k c.in_ok-kept.kept) width c.in_ok-kept.ensures)
    (subst (λ (k : ℕ). HasSpareClaim k c.in_ok-published.published) width c.in_ok-published.ensures)
