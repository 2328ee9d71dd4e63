use Rattle.std.proofs.Common.{◌≡◌, ◌∙◌, [], true, refl, sym, ap, subst}
use Rattle.namespace_id.specs.Cells.{is_width}
use Rattle.data_header.specs.Headers.{Roots}
use Rattle.da_judging.specs.Repair.{messages_in, lies_in}
use Rattle.da_gathering.proofs.SessionLemmas.{fresh_goes}
use Rattle.da_gathering.proofs.gatherer.Gatherer.new.Goals as goal

-- no cell follows from no sample
pub invariant_of-result : goal.invariant_of-result
invariant_of-result c =
    let session = c.in_ok-session.session in
    let stands = c.in_ok-session.ensures.stands in (
      c.in_ok-room.ensures.k ∙ ap (λ (h : Roots). h.k) c.header.view_is,
      record {
        width = subst (λ (h : Roots). is_width h.k ≡ true) c.header.view_is c.header.invariant.width;
        under = c.in_ok-session.ensures.header;
        ms = [];
        stands = stands;
        tells = fresh_goes c.session_laws.ensures.known c.verdict_laws.ensures.nothing session (subst (λ (h : Roots). is_width h.k ≡ true) (c.header.view_is ∙ sym c.in_ok-session.ensures.header) c.header.invariant.width) c.in_ok-session.ensures.open stands;
      },
    )

pub returns-clause-fresh : goal.returns-clause-fresh
unfolding messages_in lies_in
returns-clause-fresh c = (
  record {
    header_is = refl;
    session = c.in_ok-session.session;
    is = refl;
    under = c.in_ok-session.ensures.header;
    stands = c.in_ok-session.ensures.stands;
    lies = refl;
  },
  refl,
)
