-- The refusal of a step, by numbers and lists.
use Rattle.std.proofs.Common.{◌≡◌, ◌∙◌, ◌↔◌, ◌<◌, ◌≤◌, ◌||◌, ℕ, Bool, true, false, nat_le, length, cond, not, List, [], ◌∷◌, Option, Some, None, Result, Ok, Err, refl, sym, ap, subst, inl, inr}
use Rattle.std.specs.Prelude.{◌⊎◌, IsSome, IsErrOf}
use Rattle.std.specs.List.{Contains, list_any}
use Rattle.std.proofs.lemmas.Bool.{cases_Bool, eqb-true, eq-eqb, leb-true, le-leb, leb-false, lt-leb}
use Rattle.std.proofs.lemmas.Option.{none-some}
use Rattle.namespace_id.specs.Answers.{refusal_in}
use Rattle.namespace_id.proofs.MemberLemmas.{contains_head, contains_tail, contains_cons, contains_none}
use Rattle.axis_roots.specs.Claims.{ClaimParts}
use Rattle.da_net.specs.declared.items.NetEvent.{NetEvent}
use Rattle.da_net.specs.declared.items.NetEvent.TheVariants as event
use Rattle.da_net.specs.declared.items.Kept.{Kept}
use Rattle.da_net.specs.declared.items.Kept.TheVariants as kept
use Rattle.da_net.specs.declared.items.StepRefusal.{StepRefusal}
use Rattle.da_net.specs.declared.items.StepRefusal.TheVariants as refusal
use Rattle.da_net.specs.Nets.{NetParts, alarm_at, rejecting_claim, has_claim, is_publishing, is_full, why_not_hand, why_not_publish, why_not_there, why_not}
use Rattle.da_net.specs.StepRefusals.{IsFull, HasStep, HasBoth, LacksItem, LacksNode, LacksClaim, PublishesAgain}
use Rattle.da_net.proofs.RefusalLemmas.{no_item, no_node, no_publisher, not_rejecting, has_done}

-- ---- capacity

-- one of two tests
either : (a b : Bool) → cond a true b ≡ true → (a ≡ true) ⊎ (b ≡ true)
either true b e = inl refl
either false b e = inr e

-- neither of them
neither : (a b : Bool) → cond a true b ≡ false → (a ≡ false) × (b ≡ false)
neither true b e = absurd (let no : true ≡ false = e in cc)
neither false b e = (refl, e)

-- a second test that holds
second : (a b : Bool) → b ≡ true → cond a true b ≡ true
second true b e = refl
second false b e = e

-- ---- nodes that publish

-- a step that is the publishing by a node
the_publishing : (by : ℕ) (step : Kept) → is_publishing by step ≡ true → step ≡ kept.Publish by
the_publishing by kept.Put e = absurd (let no : false ≡ true = e in cc)
the_publishing by (kept.Hand place to) e = absurd (let no : false ≡ true = e in cc)
the_publishing by (kept.Publish other) e = ap (λ (n : ℕ). kept.Publish n) (eqb-true other by e)

-- one among steps
published_there : (by : ℕ) (steps : List Kept) → list_any (is_publishing by) steps ≡ true → Contains steps (kept.Publish by)
published_there by [] e = absurd (let no : false ≡ true = e in cc)
published_there by (step ∷ steps) e = elim (cases_Bool (is_publishing by step)) [
  | inl t ↦ subst (λ (s : Kept). Contains (step ∷ steps) s) (the_publishing by step t) (contains_head step steps)
  | inr f ↦
      contains_tail step (kept.Publish by) steps
      (published_there by steps (sym (ap (λ (b : Bool). b || list_any (is_publishing by) steps) f) ∙ e))
]

-- and the other way round
there_published : (by : ℕ) (steps : List Kept) → Contains steps (kept.Publish by) → list_any (is_publishing by) steps ≡ true
there_published by [] at = absurd (contains_none (kept.Publish by) at)
there_published by (step ∷ steps) at = elim (contains_cons step (kept.Publish by) steps at) [
  | inl is ↦
      ap (λ (b : Bool). b || list_any (is_publishing by) steps)
      (ap (is_publishing by) is ∙ eq-eqb by by refl)
  | inr later ↦ or_right (is_publishing by step) (list_any (is_publishing by) steps) (there_published by steps later)
]
  where
    or_right : (a b : Bool) → b ≡ true → (a || b) ≡ true
    or_right true b e = refl
    or_right false b e = e

-- no claim
claim_none : (o : Option ClaimParts) → has_claim o ≡ false → o ≡ None
claim_none None e = refl
claim_none (Some claim) e = absurd (let no : true ≡ false = e in cc)

-- a claim
claim_some : (o : Option ClaimParts) → has_claim o ≡ true → IsSome o
claim_some None e = absurd (let no : false ≡ true = e in cc)
claim_some (Some claim) e = refl

-- and the other way round
some_claim : (o : Option ClaimParts) → IsSome o → has_claim o ≡ true
some_claim None e = absurd (let no : false ≡ true = e in cc)
some_claim (Some claim) e = refl

-- ---- the first test that fails

-- of two tests and a refusal for each
two_tests : (a b : Bool) (v w x : StepRefusal) → cond a (Some v) (cond b (Some w) None) ≡ Some x
    → ((a ≡ true) × (v ≡ x)) ⊎ ((a ≡ false) × (b ≡ true) × (w ≡ x))
two_tests true b v w x e = inl (refl, cc)
two_tests false true v w x e = inr (refl, refl, cc)
two_tests false false v w x e = absurd (none-some x e)

-- of one test before others
one_test : (a : Bool) (v x : StepRefusal) (o : Option StepRefusal) → cond a (Some v) o ≡ Some x
    → ((a ≡ true) × (v ≡ x)) ⊎ ((a ≡ false) × (o ≡ Some x))
one_test true v x o e = inl (refl, cc)
one_test false v x o e = inr (refl, e)

-- a test that doesn't hold
not_true : (b : Bool) → not b ≡ true → b ≡ false
not_true true e = absurd (let no : false ≡ true = e in cc)
not_true false e = refl

-- one that does
not_false : (b : Bool) → not b ≡ false → b ≡ true
not_false true e = refl
not_false false e = absurd (let no : true ≡ false = e in cc)

-- ---- of a network

module _ (net : NetParts) where
  -- no capacity for a step or an item
  no_both : cond (nat_le net.most_steps (length net.steps)) true (nat_le net.most_items (length net.pool)) ≡ true
      → (net.most_steps ≤ length net.steps) ⊎ (net.most_items ≤ length net.pool)
  no_both e = elim (either (nat_le net.most_steps (length net.steps)) (nat_le net.most_items (length net.pool)) e) [
    | inl t ↦ inl (leb-true net.most_steps (length net.steps) t)
    | inr t ↦ inr (leb-true net.most_items (length net.pool) t)
  ]

  -- and the other way round
  both_not : (net.most_steps ≤ length net.steps) ⊎ (net.most_items ≤ length net.pool)
      → cond (nat_le net.most_steps (length net.steps)) true (nat_le net.most_items (length net.pool)) ≡ true
  both_not (inl h) =
      ap (λ (a : Bool). cond a true (nat_le net.most_items (length net.pool))) (le-leb net.most_steps (length net.steps) h)
  both_not (inr h) =
      second (nat_le net.most_steps (length net.steps)) (nat_le net.most_items (length net.pool)) (le-leb net.most_items (length net.pool) h)

  -- capacity for both
  both_room : cond (nat_le net.most_steps (length net.steps)) true (nat_le net.most_items (length net.pool)) ≡ false → HasBoth net
  both_room e =
      let each = neither (nat_le net.most_steps (length net.steps)) (nat_le net.most_items (length net.pool)) e in
      (leb-false net.most_steps (length net.steps) each.0, leb-false net.most_items (length net.pool) each.1)

  -- and the other way round
  room_both : HasBoth net → cond (nat_le net.most_steps (length net.steps)) true (nat_le net.most_items (length net.pool)) ≡ false
  room_both h =
      ap (λ (a : Bool). cond a true (nat_le net.most_items (length net.pool))) (lt-leb net.most_steps (length net.steps) h.0)
      ∙ lt-leb net.most_items (length net.pool) h.1

  -- capacity for a step alone
  step_room : cond (nat_le net.most_steps (length net.steps)) true false ≡ false → HasStep net
  step_room e = leb-false net.most_steps (length net.steps) (neither (nat_le net.most_steps (length net.steps)) false e).0

  -- and the other way round
  room_step : HasStep net → cond (nat_le net.most_steps (length net.steps)) true false ≡ false
  room_step h = ap (λ (a : Bool). cond a true false) (lt-leb net.most_steps (length net.steps) h)

  -- no capacity for a step alone
  no_step : cond (nat_le net.most_steps (length net.steps)) true false ≡ true → net.most_steps ≤ length net.steps
  no_step e = elim (either (nat_le net.most_steps (length net.steps)) false e) [
    | inl t ↦ leb-true net.most_steps (length net.steps) t
    | inr f ↦ absurd (let x : false ≡ true = f in cc)
  ]

  -- an event without capacity
  full_is : (one : NetEvent) → is_full net one ≡ true → IsFull net one
  full_is (event.Put one) e = no_both e
  full_is (event.Hand place to) e = no_step e
  full_is (event.Publish by) e = no_both e

  -- and the other way round
  is_full_there : (one : NetEvent) → IsFull net one → is_full net one ≡ true
  is_full_there (event.Put one) h = both_not h
  is_full_there (event.Hand place to) h =
      ap (λ (a : Bool). cond a true false) (le-leb net.most_steps (length net.steps) h)
  is_full_there (event.Publish by) h = both_not h

  -- what each refusal says of an event
  abbrev Says : NetEvent → StepRefusal → Type 0
  Says one (refusal.Full other) = IsFull net one × (other ≡ one)
  Says one refusal.NoItem = LacksItem net one
  Says one refusal.NoNode = LacksNode net one
  Says one refusal.NotRejecting = LacksClaim net one
  Says one refusal.Published = PublishesAgain net one

  -- a handing that is refused
  hand_says : (place to : ℕ) (x : StepRefusal) → HasStep net → why_not_hand net place to ≡ Some x → Says (event.Hand place to) x
  hand_says place to x room e = elim (two_tests (nat_le (length net.pool) place) (nat_le (length net.nodes) to) refusal.NoItem refusal.NoNode x e) [
    | inl (t, is) ↦ subst (Says (event.Hand place to)) is (room, leb-true (length net.pool) place t)
    | inr (f, t, is) ↦
        subst (Says (event.Hand place to)) is (room, leb-false (length net.pool) place f, leb-true (length net.nodes) to t)
  ]

  -- a publishing that is refused by a node that is there
  claim_says : (by : ℕ) (x : StepRefusal) → HasBoth net → by < length net.nodes
      → cond (not (has_claim (rejecting_claim (alarm_at net by)))) (Some refusal.NotRejecting)
      (cond (list_any (is_publishing by) net.steps) (Some refusal.Published) None) ≡ Some x
      → Says (event.Publish by) x
  claim_says by x room there e = elim (two_tests (not (has_claim (rejecting_claim (alarm_at net by)))) (list_any (is_publishing by) net.steps) refusal.NotRejecting refusal.Published x e) [
    | inl (t, is) ↦
        subst (Says (event.Publish by)) is
        (room, there, claim_none (rejecting_claim (alarm_at net by)) (not_true (has_claim (rejecting_claim (alarm_at net by))) t))
    | inr (f, t, is) ↦
        subst (Says (event.Publish by)) is
        (room, there, claim_some (rejecting_claim (alarm_at net by)) (not_false (has_claim (rejecting_claim (alarm_at net by))) f), published_there by net.steps t)
  ]

  -- a publishing that is refused
  publish_says : (by : ℕ) (x : StepRefusal) → HasBoth net → why_not_publish net by ≡ Some x → Says (event.Publish by) x
  publish_says by x room e =
      let rest : Option StepRefusal = cond (not (has_claim (rejecting_claim (alarm_at net by)))) (Some refusal.NotRejecting)
      (cond (list_any (is_publishing by) net.steps) (Some refusal.Published) None) in
      elim (one_test (nat_le (length net.nodes) by) refusal.NoNode x rest e) [
        | inl (t, is) ↦ subst (Says (event.Publish by)) is (room, leb-true (length net.nodes) by t)
        | inr (f, later) ↦ claim_says by x room (leb-false (length net.nodes) by f) later
      ]

  -- an event for which there is capacity
  there_says : (one : NetEvent) (x : StepRefusal) → is_full net one ≡ false → why_not_there net one ≡ Some x → Says one x
  there_says (event.Put one) x f e = absurd (none-some x e)
  there_says (event.Hand place to) x f e = hand_says place to x (step_room f) e
  there_says (event.Publish by) x f e = publish_says by x (both_room f) e

  -- any event that is refused
  why_says : (one : NetEvent) (x : StepRefusal) → why_not net one ≡ Some x → Says one x
  why_says one x e = elim (one_test (is_full net one) (refusal.Full one) x (why_not_there net one) e) [
    | inl (t, is) ↦ subst (Says one) is (full_is one t, refl)
    | inr (f, later) ↦ there_says one x f later
  ]

  -- ---- the other way round

  -- capacity passes
  passes : (one : NetEvent) → is_full net one ≡ false → why_not net one ≡ why_not_there net one
  passes one f = ap (λ (b : Bool). cond b (Some (refusal.Full one)) (why_not_there net one)) f

  -- what a refusal says of an event refuses it
  says_why : (one : NetEvent) (x : StepRefusal) → Says one x → why_not net one ≡ Some x
  says_why one (refusal.Full other) h =
      ap (λ (b : Bool). cond b (Some (refusal.Full one)) (why_not_there net one)) (is_full_there one h.0)
      ∙ sym (ap (λ (o : NetEvent). Some (refusal.Full o)) h.1)
  says_why (event.Put one) refusal.NoItem h = absurd h
  says_why (event.Hand place to) refusal.NoItem h =
      passes (event.Hand place to) (room_step h.0) ∙ sym (no_item net place to h.1)
  says_why (event.Publish by) refusal.NoItem h = absurd h
  says_why (event.Put one) refusal.NoNode h = absurd h
  says_why (event.Hand place to) refusal.NoNode h =
      passes (event.Hand place to) (room_step h.0) ∙ sym (no_node net place to h.1 h.2)
  says_why (event.Publish by) refusal.NoNode h =
      passes (event.Publish by) (room_both h.0) ∙ sym (no_publisher net by h.1)
  says_why (event.Put one) refusal.NotRejecting h = absurd h
  says_why (event.Hand place to) refusal.NotRejecting h = absurd h
  says_why (event.Publish by) refusal.NotRejecting h =
      passes (event.Publish by) (room_both h.0) ∙ sym (not_rejecting net by h.1 (ap has_claim h.2))
  says_why (event.Put one) refusal.Published h = absurd h
  says_why (event.Hand place to) refusal.Published h = absurd h
  says_why (event.Publish by) refusal.Published h =
      passes (event.Publish by) (room_both h.0)
      ∙ sym (has_done net by h.1 (some_claim (rejecting_claim (alarm_at net by)) h.2) (there_published by net.steps h.3))

-- an answer refuses for what is in it
refused_by : {A E : Type 0} (r : Result A E) (x : E) → IsErrOf r x ↔ (refusal_in r ≡ Some x)
refused_by (Ok a) x = (λ e. absurd (let no : Ok a ≡ Err x = e in cc), λ e. absurd (none-some x e))
refused_by (Err why) x = (λ e. ap Some (let is : why ≡ x = (let same : Err why ≡ Err x = e in cc) in is), λ e. ap Err (let is : why ≡ x = cc in is))

-- an answer refuses an event exactly for what its refusal says of it
pub refused_for : {A : Type 0} (net : NetParts) (one : NetEvent) (r : Result A StepRefusal) → refusal_in r ≡ why_not net one
    → (x : StepRefusal) → IsErrOf r x ↔ Says net one x
refused_for net one r why x = (
  λ e. why_says net one x (sym why ∙ (refused_by r x).0 e),
  λ h. (refused_by r x).1 (why ∙ says_why net one x h),
)
