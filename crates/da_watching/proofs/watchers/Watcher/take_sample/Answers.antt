use Rattle.std.proofs.Common.{◌≡◌, ◌∙◌, ◌++◌, ◌∷◌, [], Some, true≢false, refl, sym, ap, subst, inl, inr}
use Rattle.data_header.specs.Headers.{Roots}
use Rattle.axis_roots.specs.Messages.{message_refusal}
use Rattle.axis_roots.specs.Openings.{IsProved}
use Rattle.light_node.specs.declared.events.Event.TheVariants.{Sample}
use Rattle.light_node.specs.Events.{IsState}
use Rattle.light_node.specs.Nodes.{NodeParts, NodeStands}
use Rattle.frame_payloads.specs.declared.refusals.Reason.{Reason}
use Rattle.da_talk.specs.Replies.{refusal}
use Rattle.da_watching.specs.Watchers.{WatchParts}
use Rattle.da_watching.proofs.watchers.Watcher.take_sample.Goals as goal

-- a lie is refused, and changes nothing
pub returns-in-Err-clause-told : goal.returns-in-Err-clause-told
returns-in-Err-clause-told g c =
    let header : c.self.inside.node.header ≡ c.args.self.now.header =
    c.self.invariant.0 ∙ ap (λ (w : WatchParts g.row.F.Denot). w.header) c.self.view_is in
    let with_node : NodeParts g.row.F.Denot → WatchParts g.row.F.Denot = λ node. record {
      header = c.self.inside.header.now;
      plan = c.self.inside.planned.now;
      node = node;
      claim = c.self.inside.claim;
      status = c.self.inside.status;
    } in
    inl (
      c.in-Err.why,
      subst (λ (h : Roots). message_refusal h c.args.message.now ≡ Some c.in-Err.why) header (sym c.in-Err.ensures.first),
      c.put_refusal_frame.ensures.appended ∙ ap (λ l. l ++ refusal c.sample_reason.result c.args.number) c.requires.empty
          ∙ ap (λ (reason : Reason). refusal reason c.args.number) c.sample_reason.ensures,
      ap with_node c.in-Err.ensures.unchanged ∙ c.self.view_is,
      λ proved. true≢false (sym (c.in-Err.ensures.accepts.1 (subst (λ (h : Roots). IsProved h c.args.message.now) (sym header) proved))),
    )

-- a proved sample is taken by the node
pub returns-clause-told : goal.returns-clause-told
returns-clause-told g c =
    let header : c.self.inside.node.header ≡ c.args.self.now.header =
    c.self.invariant.0 ∙ ap (λ (w : WatchParts g.row.F.Denot). w.header) c.self.view_is in
    inr (
      subst (λ (h : Roots). IsProved h c.args.message.now) header (c.in_default.ensures.accepts.0 refl),
      λ plan events stands.
          let stood = subst (λ (w : WatchParts g.row.F.Denot). NodeStands g.F.Picker.picks w.node plan events) (sym c.self.view_is) stands in
          let stands_now = c.in_default.ensures.stands plan events stood in (
            stands_now,
            c.state-before.result,
            c.state-now.result,
            subst (λ (h : Roots). IsState h plan events c.state-before.result) header (c.state-before.ensures plan events stood),
            subst (λ (h : Roots). IsState h plan (events ++ Sample c.args.message.now ∷ []) c.state-now.result)
                (c.in_default.ensures.kept.header ∙ header) (c.state-now.ensures plan (events ++ Sample c.args.message.now ∷ []) stands_now),
            c.put_news.ensures.written,
          ),
    )
