use Rattle.std.proofs.Common.{◌≡◌, true, refl, sym, subst}
use Rattle.std.specs.List.{AllByRecursion}
use Rattle.da_serving.specs.Serving.{IsMadeServer, Serves}
use Rattle.da_status.proofs.EndLemmas.{ends_request}
use Rattle.da_files.proofs.RequestLemmas.{all_pass}
use Rattle.da_serving.proofs.ServingLemmas.{served_none, served_on, served_stopped, served_memory, served_all, serves_ends, serves_none}
use Rattle.da_serving.proofs.serving.give_all.Goals as goal

-- the square has no header
pub returns-in-Ok-None : goal.returns-in-Ok-None
returns-in-Ok-None g c =
    let square = c.args.square in
    let asked = g.S.Server.asked c.args.requests.now in
    ends_request (Serves square (g.S.Server.passes square) (g.S.Server.allows square) asked) _ _ _ _ refl
    (serves_none square (g.S.Server.passes square) (g.S.Server.allows square) asked
    (subst (IsMadeServer g.S.Server.serves square) c.in-Ok-None.field-0-is c.in-Ok-None.ensures)) refl

-- under its header all requests allow a frame each
pub loop-next-init : goal.loop-next-init
loop-next-init g c =
    let square = c.args.square in
    let made = subst (IsMadeServer g.S.Server.serves square) c.in-Ok-Some.field-0-is c.in-Ok-Some.ensures in
    let pass = all_pass (g.S.Server.passes square) 0 _ c.requires in
    record { under = (made.0, made.1, made.2, served_none (g.S.Server.allows square made.0) _ _ _ (c.law.ensures square made.0 made.1 pass)); pass = pass }

-- the next request passes
pub frame-requires : goal.frame-requires
frame-requires g c =
    let under = c.loop-next.invariant.under in
    let pass = subst (AllByRecursion (λ request. g.S.Server.passes c.args.square request ≡ true)) c.in-Some.ensures.0 c.loop-next.invariant.pass in
    (c.args.square, under.0, under.2, pass.0)

-- there was no memory for the next frame
pub returns-in_default-frame : goal.returns-in_default-frame
returns-in_default-frame g c =
    let under = c.loop-next.invariant.under in
    serves_ends c.args.square (g.S.Server.passes c.args.square) (g.S.Server.allows c.args.square) _ under.1 c.requires (served_memory under.3 c.in-Some.ensures.0 _)

-- the next frame was written
pub loop-next-preserved : goal.loop-next-preserved
loop-next-preserved g c =
    let square = c.args.square in
    let under = c.loop-next.invariant.under in
    let pass = subst (AllByRecursion (λ request. g.S.Server.passes square request ≡ true)) c.in-Some.ensures.0 c.loop-next.invariant.pass in
    record {
      under = (
        under.0,
        under.1,
        subst (λ server. g.S.Server.serves server square under.0) (sym c.in-Ok.ensures.kept) under.2,
        served_on under.3 c.in-Some.ensures.0 (c.in-Ok.ensures.allowed square under.0 under.2) c.in-Done.ensures.ends,
      );
      pass = pass.1;
    }

-- it was not written whole
pub returns-in_default-status : goal.returns-in_default-status
returns-in_default-status g c =
    let under = c.loop-next.invariant.under in
    serves_ends c.args.square (g.S.Server.passes c.args.square) (g.S.Server.allows c.args.square) _ under.1 c.requires
    (served_stopped under.3 c.in-Some.ensures.0 (c.in-Ok.ensures.allowed c.args.square under.0 under.2) c.in-Ok.ensures.spelled _ c.give-status.result
    c.in_default-status.not-Done c.give-status.ensures.ends)

-- no request is left
pub returns : goal.returns
returns g c =
    let under = c.loop-next.invariant.under in
    serves_ends c.args.square (g.S.Server.passes c.args.square) (g.S.Server.allows c.args.square) _ under.1 c.requires (served_all under.3 c.in_default.ensures _)
