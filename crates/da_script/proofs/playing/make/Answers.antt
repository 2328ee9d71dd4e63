use Rattle.std.proofs.Common.{◌≡◌, ◌∙◌, ℕ, List, Err, false, length, map, vec_len, sym, ap, ap₂, subst, arith}
use Rattle.std.specs.List.{list_any}
use Rattle.std.proofs.lemmas.List.{length-map}
use Rattle.light_node.specs.Nodes.{NodeParts}
use Rattle.da_net.specs.Networks.{light}
use Rattle.da_script.specs.Plays.{light_of}
use Rattle.da_script.specs.Scripts.{light_count, draws_at}
use Rattle.da_script.specs.Parts.{is_wide, is_refused_by}
use Rattle.da_script.proofs.DrawLemmas.{length-draws_at}
use Rattle.da_script.proofs.CountLemmas.{refused_by, few_of, narrow_of, few_not}
use Rattle.da_script.proofs.OutcomeLemmas.{first_is}
use Rattle.da_script.proofs.playing.make.Goals as goal

-- no key draws too many cells
pub lights-requires-clause-few : goal.lights-requires-clause-few
lights-requires-clause-few g c =
    let k = c.args.header.k in
    let refused : is_refused_by k c.args.counts.now c.args.script.now ≡ false =
    subst (λ (k : ℕ). is_refused_by k c.args.counts.now c.args.script.now ≡ false) c.width.ensures.value (sym c.is_refused.ensures ∙ c.if-is_refused.false) in
    ap₂ (λ (n : ℕ) (l : List ℕ). list_any (is_wide k) (draws_at n l)) c.light_count.ensures c.draws.ensures
    ∙ narrow_of k c.args.counts.now c.args.script.now refused

-- there are few items
pub overflow_cast-items : goal.overflow_cast-items
overflow_cast-items g c =
    let few = few_of c.width.result c.args.counts.now c.args.script.now (sym c.is_refused.ensures ∙ c.if-is_refused.false) in omega (arith, few.items_are)

-- and few events
pub overflow_cast-counts : goal.overflow_cast-counts
overflow_cast-counts g c =
    let few = few_of c.width.result c.args.counts.now c.args.script.now (sym c.is_refused.ensures ∙ c.if-is_refused.false) in omega (arith, few.steps_are)

-- it is refused
pub returns-then-is_refused : goal.returns-then-is_refused
returns-then-is_refused g c = λ sizes moves are.
    sym (refused_by c.args.header.k sizes c.args.counts.now moves c.args.script.now are)
    ∙ ap (λ (k : ℕ). is_refused_by k c.args.counts.now c.args.script.now) (sym c.width.ensures.value) ∙ sym c.is_refused.ensures ∙ c.if-is_refused.true

-- it isn't, and the network is the first one
pub returns-in-Ok : goal.returns-in-Ok
returns-in-Ok g c = λ sizes moves are. (
  sym (refused_by c.args.header.k sizes c.args.counts.now moves c.args.script.now are)
      ∙ ap (λ (k : ℕ). is_refused_by k c.args.counts.now c.args.script.now) (sym c.width.ensures.value) ∙ sym c.is_refused.ensures ∙ c.if-is_refused.false,
  c.in-Ok.ensures.made
      ∙ first_is c.args.header c.args.script.now moves c.args.counts.now sizes c.full_count-full.result _ c.full_count-full.ensures
      (c.in_ok-lights.ensures.kinds
      ∙ ap₂ (λ (n : ℕ) (l : List ℕ). map (light_of c.args.header.k) (draws_at n l)) c.light_count.ensures c.draws.ensures) are,
)

-- there aren't too many
pub returns-in-Err-TooMany : goal.returns-in-Err-TooMany
returns-in-Err-TooMany g c =
    let few = few_of c.width.result c.args.counts.now c.args.script.now (sym c.is_refused.ensures ∙ c.if-is_refused.false) in
    let nodes = c.in_ok-lights.lights in
    let draws = draws_at c.light_count.result c.draws.result.now in
    let long : length nodes.items ≡ light_count c.args.script.now =
    sym (length-map nodes.items (λ (n : NodeParts g.row.F.Denot). light n.wanted)) ∙ ap (λ l. length l) c.in_ok-lights.ensures.kinds
    ∙ length-map draws (light_of c.args.header.k) ∙ length-draws_at c.light_count.result c.draws.result.now ∙ c.light_count.ensures in
    absurd (few_not c.full_count-full.result (vec_len nodes) c.args.counts.now.pooling c.args.counts.now.moves (record {
      fulls_are = omega (arith, few.fulls_are, c.full_count-full.ensures);
      lights_are = omega (arith, few.lights_are, long);
      items_are = few.items_are;
      steps_are = few.steps_are;
    }) (c.in-Err-TooMany.ensures.too_many.0 (ap Err c.in-Err-TooMany.field-0-is)))
