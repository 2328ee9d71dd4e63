-- What a session of a trial is fed with.
use Rattle.std.proofs.Common.{◌≡◌, ◌∙◌, ℕ, ◌+◌, List, [], ◌∷◌, ◌++◌, map, length, Bool, false, cond, not, is_none, None, Some, Option, length-append, append-nil, add-zero, refl, sym, ap, subst}
use Rattle.std.proofs.lemmas.List.Elements.{filter-append}
use Rattle.data_header.specs.Headers.{Roots}
use Rattle.axis_roots.specs.declared.message.messages.Message.{Message}
use Rattle.axis_roots.specs.declared.message.messages.CheckRefusal.{CheckRefusal}
use Rattle.axis_roots.specs.Messages.{message_refusal}
use Rattle.repair_queue.specs.SessionParts.{SessionParts, SessionStands}
use Rattle.da_demo.specs.declared.gathering.Gathered.{Gathered}
use Rattle.namespace_id.specs.declared.shares.Share.{Share}
use Rattle.namespace_id.specs.Lists.{ascending}
use Rattle.namespace_id.proofs.AscentLemmas.{mapped_none, mapped_more}
use Rattle.da_demo.specs.Sessions.{proved_of, refused_of, spoiled, spoiled_message}
use Rattle.da_demo.specs.Gathered.{IsGathered}

-- a sample that is refused has a refusal
refused : (r : Option CheckRefusal) → (r ≡ None → ⊥) → is_none r ≡ false
refused None h = absurd (h refl)
refused (Some why) h = refl

-- the proved ones among these and one more
proved_more : (header : Roots) (ms : List Message) (m : Message)
    → proved_of header (ms ++ m ∷ []) ≡ proved_of header ms ++ proved_of header (m ∷ [])
proved_more header ms m = filter-append (λ x. is_none (message_refusal header x)) ms (m ∷ [])

-- how many others there are
lies_more : (header : Roots) (ms : List Message) (m : Message)
    → length (refused_of header (ms ++ m ∷ [])) ≡ length (refused_of header ms) + length (refused_of header (m ∷ []))
lies_more header ms m =
    ap length (filter-append (λ x. not (is_none (message_refusal header x))) ms (m ∷ []))
    ∙ length-append (refused_of header ms) (refused_of header (m ∷ []))

-- a sample that is proved is fed
pub take_kept : (header : Roots) (ms : List Message) (m : Message) (old new : Gathered)
    → IsGathered header ms old → message_refusal header m ≡ None → new.session.header ≡ header
    → SessionStands new.session (proved_of header ms ++ m ∷ []) → new.proved ≡ old.proved + 1 → new.lies ≡ old.lies
    → IsGathered header (ms ++ m ∷ []) new
take_kept header ms m old new before holds under fed count lies =
    let all : proved_of header ms ++ m ∷ [] ≡ proved_of header (ms ++ m ∷ []) =
    ap (λ (r : Option CheckRefusal). proved_of header ms ++ cond (is_none r) (m ∷ []) []) (sym holds)
    ∙ sym (proved_more header ms m) in
    record {
      under = under;
      fed = subst (SessionStands new.session) all fed;
      proved = count ∙ ap (λ (n : ℕ). n + 1) before.proved
          ∙ sym (length-append (proved_of header ms) (m ∷ [])) ∙ ap length all;
      lies = lies ∙ before.lies
          ∙ sym (lies_more header ms m ∙ ap (λ (r : Option CheckRefusal).
          length (refused_of header ms) + length (cond (not (is_none r)) (m ∷ []) [])) holds
          ∙ add-zero (length (refused_of header ms)));
    }

-- another one is counted
pub take_lie : (header : Roots) (ms : List Message) (m : Message) (old new : Gathered)
    → IsGathered header ms old → (message_refusal header m ≡ None → ⊥) → new.session ≡ old.session
    → new.proved ≡ old.proved → new.lies ≡ old.lies + 1
    → IsGathered header (ms ++ m ∷ []) new
take_lie header ms m old new before fails session proved lies =
    let same : proved_of header ms ≡ proved_of header (ms ++ m ∷ []) =
    sym (proved_more header ms m ∙ ap (λ (b : Bool). proved_of header ms ++ cond b (m ∷ []) [])
    (refused (message_refusal header m) fails)
    ∙ append-nil (proved_of header ms)) in
    record {
      under = ap (λ (s : SessionParts). s.header) session ∙ before.under;
      fed = subst (λ (s : SessionParts). SessionStands s (proved_of header (ms ++ m ∷ []))) (sym session)
          (subst (SessionStands old.session) same before.fed);
      proved = proved ∙ before.proved ∙ ap length same;
      lies = lies ∙ ap (λ (n : ℕ). n + 1) before.lies
          ∙ sym (lies_more header ms m
          ∙ ap (λ (b : Bool). length (refused_of header ms) + length (cond (not b) (m ∷ []) []))
          (refused (message_refusal header m) fails));
    }

-- ---- samples that are made one by one

-- none yet
pub gathered_none : (header : Roots) (f : ℕ → Message) (gathered : Gathered) → IsGathered header [] gathered
    → IsGathered header (map f (ascending 0 0)) gathered
gathered_none header f gathered before = subst (λ (ms : List Message). IsGathered header ms gathered)
    (mapped_none f [] refl) before

-- one more
pub gathered_more : (header : Roots) (f : ℕ → Message) (n : ℕ) (m : Message) (old new : Gathered) → m ≡ f n
    → IsGathered header (map f (ascending 0 n)) old
    → ((ms : List Message) → IsGathered header ms old → IsGathered header (ms ++ m ∷ []) new)
    → IsGathered header (map f (ascending 0 (n + 1))) new
gathered_more header f n m old new is before taken =
    subst (λ (ms : List Message). IsGathered header ms new) (mapped_more f n (map f (ascending 0 n)) m refl is)
    (taken (map f (ascending 0 n)) before)

-- all of them
pub gathered_all : (header : Roots) (f : ℕ → Message) (n k : ℕ) (gathered : Gathered) → n ≡ k
    → IsGathered header (map f (ascending 0 n)) gathered → IsGathered header (map f (ascending 0 k)) gathered
gathered_all header f n k gathered same = subst (λ (m : ℕ). IsGathered header (map f (ascending 0 m)) gathered) same

-- a lie is the sample of its cell with the share spoiled
pub lie_is : (made want : Message) (share : Share) → made ≡ want → share ≡ spoiled made.share
    → record made { share = share } ≡ spoiled_message want
lie_is made want share is shown = ap (λ (s : Share). record made { share = s }) shown ∙ ap spoiled_message is
