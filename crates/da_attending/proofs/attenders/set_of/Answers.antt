use Rattle.std.proofs.Common.{◌≡◌, ◌∙◌, ◌||◌, ◌∷◌, List, sym, ap}
use Rattle.namespace_id.specs.declared.namespaces.Namespace.{Namespace as Name}
use Rattle.da_attending.specs.Attenders.{is_listed}
use Rattle.da_attending.proofs.NameLemmas.{set_step}
use Rattle.da_attending.proofs.attenders.set_of.Goals as goal

-- one namespace more is in the set
pub loop-name-preserved : goal.loop-name-preserved
loop-name-preserved c = λ n.
    let next : c.loop-name.rest.now ≡ c.in-Some.name.now ∷ c.in-Some.after.now = c.in-Some.ensures.cases.0 in
    ap (λ b. b || is_listed c.in-Some.after.now n) (c.in-Ok.ensures.updates.0 n)
    ∙ set_step c.in-Some.name.now n (is_listed c.loop-name.set.keys n) (is_listed c.in-Some.after.now n)
    ∙ ap (λ (l : List Name). is_listed c.loop-name.set.keys n || is_listed l n) (sym next)
    ∙ c.loop-name.invariant n
