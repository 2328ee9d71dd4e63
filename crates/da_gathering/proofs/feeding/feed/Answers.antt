use Rattle.std.proofs.Common.{◌∙◌, List, [], ◌∷◌, ◌++◌, sym, ap, subst, inl, inr}
use Rattle.std.specs.List.{Contains}
use Rattle.namespace_id.proofs.MemberLemmas.{contains_cons, contains_none}
use Rattle.axis_roots.specs.declared.message.messages.Message as sent
use Rattle.axis_roots.specs.Openings.{IsProved}
use Rattle.repair_queue.specs.SessionParts.{SessionParts, SessionStands}
use Rattle.da_gathering.specs.Fed.{samples_there}
use Rattle.da_gathering.proofs.SessionLemmas.{stands_more}
use Rattle.da_gathering.proofs.feeding.feed.Goals as goal

-- it was fed with the sample
pub returns-in-Ok-clause-stands : goal.returns-in-Ok-clause-stands
returns-in-Ok-clause-stands c = λ ms stand.
    subst (λ (more : List sent.Message). SessionStands c.feed.new.self (ms ++ more))
    (ap (λ (m : sent.Message). m ∷ []) c.in-Ok.ensures.message ∙ ap samples_there (sym c.in-Some.is))
    (c.feed.ensures.stands ms (subst (λ (s : SessionParts). SessionStands s ms) (sym c.in-Ok.ensures.kept) stand))

-- the sample isn't proved, and it stands for it too
pub returns-in-Err-clause-stands : goal.returns-in-Err-clause-stands
returns-in-Err-clause-stands c = λ ms stand.
    let m = c.in-Some.message in
    let lies : (n : sent.Message) → Contains (m ∷ []) n → IsProved c.args.session.now.header n → ⊥
    = λ n at proved. elim (contains_cons m n [] at) [
      | inl e ↦ let accepted = c.in-Err.ensures.accepts.1 (subst (IsProved c.args.session.now.header) (sym e) proved) in absurd cc
      | inr behind ↦ absurd (contains_none n behind)
    ] in
    subst (λ (more : List sent.Message). SessionStands c.check.new.self (ms ++ more)) (ap samples_there (sym c.in-Some.is))
    (subst (λ (s : SessionParts). SessionStands s (ms ++ m ∷ [])) (sym c.in-Err.ensures.kept)
    (stands_more c.session_laws.ensures.same_proved c.args.session.now ms (m ∷ []) lies stand))
