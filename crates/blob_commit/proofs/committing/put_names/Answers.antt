use Rattle.std.proofs.Common.{◌≡◌, ◌∙◌, ◌<◌, ℕ, List, [], ◌∷◌, ◌++◌, ap, ap₂, sym, arith, length, take, map, get_or}
use Rattle.std.proofs.lemmas.List.{take_more, take_more_set, take_all, map-append}
use Rattle.namespace_id.specs.declared.namespaces.Namespace.{Namespace}
use Rattle.namespace_id.specs.declared.shares.Share.{Share}
use Rattle.namespace_id.specs.Shares.{name_in}
use Rattle.blob_commit.proofs.committing.put_names.Goals as goal

pub loop-i-preserved : goal.loop-i-preserved
loop-i-preserved c =
    let none : Share = record { 0 = [] } in
    let i : ℕ = c.loop-i.i in
    let in_shares : i < length c.args.shares.now = c.loop-i-test.true in
    take_more_set c.loop-i.names i _ (omega arith)
    ∙ ap₂ (λ (l : List Namespace) (n : Namespace). l ++ n ∷ []) c.loop-i.invariant c.namespace.ensures
    ∙ sym (ap (map name_in) (take_more c.args.shares.now i none in_shares) ∙ map-append name_in (take i c.args.shares.now) (get_or c.args.shares.now i none ∷ []))

pub returns : goal.returns
returns c =
    let done : length c.args.shares.now ≡ c.loop-i.i = omega arith in
    sym (take_all c.loop-i.i c.loop-i.names (omega arith))
    ∙ c.loop-i.invariant
    ∙ ap (map name_in) (take_all c.loop-i.i c.args.shares.now (omega arith))
