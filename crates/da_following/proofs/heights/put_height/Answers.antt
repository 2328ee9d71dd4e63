use Rattle.std.proofs.Common.{◌≡◌, ◌∷◌, [], List, ap, subst}
use Rattle.namespace_id.specs.declared.namespaces.Namespace.{Namespace as Name}
use Rattle.da_following.specs.Follow.{places_at}
use Rattle.da_following.specs.Heights.{AreSaid}
use Rattle.da_following.proofs.FeedLineLemmas.{left_less}
use Rattle.da_following.proofs.heights.put_height.Goals as goal

-- one namespace more was told
pub loop-name-preserved : goal.loop-name-preserved
loop-name-preserved c = record {
  left = λ feed said.
      let before = c.loop-name.invariant.left feed said in
      let next : c.loop-name.rest.now ≡ c.in-Some.name.now ∷ c.in-Some.after.now = c.in-Some.ensures.cases.0 in
      let here = subst (AreSaid feed c.args.number c.args.height.now) next before.1 in (
        left_less feed (places_at c.args.names.now c.args.number) ((c.args.number, c.in-Some.name.now) ∷ [])
            (places_at c.loop-name.rest.now c.args.number) (places_at c.in-Some.after.now c.args.number) c.args.told.now
            c.loop-name.told c.put_place.new.told before.0 (ap (λ (l : List Name). places_at l c.args.number) next)
            (c.in_ok-put_place.ensures.more feed here.0),
        here.1,
      );
  fits = c.in_ok-put_place.ensures.fits;
}
