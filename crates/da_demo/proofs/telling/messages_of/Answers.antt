use Rattle.std.proofs.Common.{◌∙◌, List, [], ◌∷◌, ◌++◌, map, append_assoc, append-nil, sym, ap, ap₂}
use Rattle.std.proofs.lemmas.List.{map-append, nil_from_length}
use Rattle.axis_roots.specs.declared.message.messages.Message.{Message}
use Rattle.axis_roots.specs.declared.message.proved.Proved.{Proved}
use Rattle.axis_roots.specs.Proved.{kept_message}
use Rattle.da_demo.proofs.telling.messages_of.Goals as goal

-- none at first
pub loop-proved-init : goal.loop-proved-init
loop-proved-init c = record {
  split = sym c.into_iter-proved-iterator.ensures.into_iter_gives.0;
  made = c.in-Ok.ensures.items;
}

-- one more
pub loop-proved-preserved : goal.loop-proved-preserved
loop-proved-preserved c = record {
  split = c.loop-proved.invariant.split ∙ ap (λ (l : List Proved). c.loop-proved.yielded ++ l) c.in-Some.ensures.steps.0
      ∙ sym (append_assoc c.loop-proved.yielded (c.in-Some.proved ∷ []) c.next.new.self.rest.items);
  made = c.in-Ok-push.ensures.items
      ∙ ap₂ (λ (l : List Message) (m : Message). l ++ m ∷ []) c.loop-proved.invariant.made c.into_message.ensures
      ∙ sym (map-append kept_message c.loop-proved.yielded (c.in-Some.proved ∷ []));
}

-- these are all
pub returns : goal.returns
returns c =
    c.loop-proved.invariant.made
    ∙ ap (map kept_message)
    (sym (c.loop-proved.invariant.split
    ∙ ap (λ (l : List Proved). c.loop-proved.yielded ++ l)
    (nil_from_length c.loop-proved.proved-iterator.rest.items
    (sym c.loop-proved.proved-iterator.rest.ok.0 ∙ c.in-None.ensures.steps.0))
    ∙ append-nil c.loop-proved.yielded))
