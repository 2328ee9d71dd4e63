use Rattle.std.proofs.Common.{◌∙◌, refl, sym, ap, Err}
use Rattle.square_serve.specs.Rows.{HasHeader}
use Rattle.da_serving.specs.Serving.{Serves}
use Rattle.da_status.proofs.EndLemmas.{ends_request}
use Rattle.da_serving.proofs.ServingLemmas.{serves_at, serves_none}
use Rattle.da_serving.proofs.serving.serve.Goals as goal

-- all requests pass
pub give_all-requires : goal.give_all-requires
give_all-requires g c = sym c.first_refused.ensures ∙ c.in-None.is

-- a request is refused, where the square has a header
pub returns-in-Ok : goal.returns-in-Ok
returns-in-Ok g c =
    let square = c.args.square in
    let asked = g.S.Server.asked c.args.requests.now in
    let own : HasHeader square = c.in-Ok.ensures.header refl in
    ends_request (Serves square (g.S.Server.passes square) (g.S.Server.allows square) asked) _ _ _ _ refl
    (serves_at square (g.S.Server.passes square) (g.S.Server.allows square) asked own.0 c.in-Some.number own.1 (sym c.first_refused.ensures ∙ c.in-Some.is)) refl

-- it has none
pub returns-in-Err-NoHeader : goal.returns-in-Err-NoHeader
returns-in-Err-NoHeader g c =
    let square = c.args.square in
    let asked = g.S.Server.asked c.args.requests.now in
    ends_request (Serves square (g.S.Server.passes square) (g.S.Server.allows square) asked) _ _ _ _ refl
    (serves_none square (g.S.Server.passes square) (g.S.Server.allows square) asked
    (c.in-Err-NoHeader.ensures.no_header (ap Err c.in-Err-NoHeader.field-0-is))) refl
