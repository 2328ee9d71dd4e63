-- What a plan and events leave no choice of.
use Rattle.std.proofs.Common.{◌≡◌, ◌∙◌, ℕ, suc, List, [], ◌∷◌, ◌++◌, ◌+◌, length, length-append, slice_get, Option, Some, None, Result, Ok, Err, OnOk, refl, sym, subst, ap, ap₂, arith}
use Rattle.std.specs.List.{Contains}
use Rattle.std.proofs.lemmas.List.Elements.{Contains-append_right}
use Rattle.namespace_id.specs.declared.cells.Cell.{Cell}
use Rattle.namespace_id.proofs.MemberLemmas.{contains_head, contains_tail}
use Rattle.data_header.specs.Headers.{Roots}
use Rattle.axis_roots.specs.Claims.{ClaimParts}
use Rattle.light_node.specs.declared.events.Event.{Event}
use Rattle.light_node.specs.declared.events.Event.TheVariants.{Claim}
use Rattle.light_node.specs.Events.{IsShownCell, NoneAccepted, IsFirstAccepted, AllShown}
use Rattle.light_node.specs.Plans.{IsPlanOf, IsNextWanted}
use Rattle.light_node.specs.Nodes.{NodeParts, NodeStands, distinct}
use Rattle.one_answer.specs.Pickers.{PicksOne}

-- where there is a first accepted claim, not none is accepted
first_none : (header : Roots) (events : List Event) (claim : ClaimParts) → IsFirstAccepted header events (Some claim)
    → NoneAccepted header events → ⊥
first_none header events claim (accepts, before, after, is, before_none) none =
    none claim (subst (λ (l : List Event). Contains l (Claim claim)) (sym is)
    (Contains-append_right before (Claim claim ∷ after) (Claim claim) (contains_head (Claim claim) after))) accepts

-- there is one first accepted claim, where two of them are one, or none
pub one_first : (header : Roots) (events : List Event) (one other : Option ClaimParts)
    → ((a b : ClaimParts) → IsFirstAccepted header events (Some a) → IsFirstAccepted header events (Some b) → a ≡ b)
    → IsFirstAccepted header events one → IsFirstAccepted header events other → one ≡ other
one_first header events None None once a b = refl
one_first header events None (Some claim) once a b = absurd (first_none header events claim b a)
one_first header events (Some claim) None once a b = absurd (first_none header events claim a b)
one_first header events (Some claim) (Some other) once a b = let is = once claim other a b in cc

-- of one list the first element that isn't shown is one
first_hidden : (header : Roots) (events : List Event) (before before' after after' : List Cell) (cell cell' : Cell)
    → before ++ cell ∷ after ≡ before' ++ cell' ∷ after' → AllShown header before events → AllShown header before' events
    → (IsShownCell header events cell → ⊥) → (IsShownCell header events cell' → ⊥) → cell ≡ cell'
first_hidden header events [] [] after after' cell cell' is all all' hidden hidden' = cc
first_hidden header events [] (c ∷ before') after after' cell cell' is all all' hidden hidden' =
    let same : c ≡ cell = cc in
    absurd (hidden (subst (IsShownCell header events) same (all' c (contains_head c before'))))
first_hidden header events (c ∷ before) [] after after' cell cell' is all all' hidden hidden' =
    let same : c ≡ cell' = cc in
    absurd (hidden' (subst (IsShownCell header events) same (all c (contains_head c before))))
first_hidden header events (c ∷ before) (c' ∷ before') after after' cell cell' is all all' hidden hidden' =
    let rest : before ++ cell ∷ after ≡ before' ++ cell' ∷ after' = cc in
    first_hidden header events before before' after after' cell cell' rest
    (λ x at. all x (contains_tail c x before at)) (λ x at. all' x (contains_tail c' x before' at)) hidden hidden'

-- not all planned cells are shown where one is wanted next
next_none : (header : Roots) (plan : List Cell) (events : List Event) (cell : Cell)
    → IsNextWanted header plan events (Some cell) → AllShown header plan events → ⊥
next_none header plan events cell (before, after, is, shown, hidden) all =
    hidden (all cell (subst (λ (l : List Cell). Contains l cell) (sym is)
    (Contains-append_right before (cell ∷ after) cell (contains_head cell after))))

-- one cell is wanted next, or none
pub one_next : (header : Roots) (plan : List Cell) (events : List Event) (one other : Option Cell)
    → IsNextWanted header plan events one → IsNextWanted header plan events other → one ≡ other
one_next header plan events None None a b = refl
one_next header plan events None (Some cell) a b = absurd (next_none header plan events cell b a)
one_next header plan events (Some cell) None a b = absurd (next_none header plan events cell a b)
one_next header plan events (Some cell) (Some cell') (before, after, is, shown, hidden) (before', after', is', shown', hidden') =
    let same = first_hidden header events before before' after after' cell cell' (sym is ∙ is') shown shown' hidden hidden' in cc

-- two plans of as many cells, of a picker with one cell for each number, are one
pub one_plan : (picks : ℕ → Cell → Type 0) → ((number : ℕ) (a b : Cell) → picks number a → picks number b → a ≡ b)
    → (plan other : List Cell) → length plan ≡ length other
    → ((number : ℕ) (cell : Cell) → slice_get plan number ≡ Some cell → picks number cell)
    → ((number : ℕ) (cell : Cell) → slice_get other number ≡ Some cell → picks number cell) → plan ≡ other
one_plan picks one [] [] long p q = refl
one_plan picks one [] (y ∷ ys) long p q = absurd (omega arith)
one_plan picks one (x ∷ xs) [] long p q = absurd (omega arith)
one_plan picks one (x ∷ xs) (y ∷ ys) long p q =
    ap₂ (λ (a : Cell) (l : List Cell). a ∷ l) (one 0 x y (p 0 x refl) (q 0 y refl))
    (one_plan (λ number. picks (suc number)) (λ number. one (suc number)) xs ys (omega arith)
    (λ number. p (suc number)) (λ number. q (suc number)))

-- two nodes with one plan and as many cells more, of such a picker, want the same cells
pub one_wanted : {F : Type 0} (picks : F → ℕ → Cell → Type 0) (pick : F) → PicksOne picks pick → (plan cells others : List Cell)
    (events : List Event) (one other : NodeParts F) → length cells ≡ length others → one.pick ≡ pick → other.pick ≡ pick
    → NodeStands picks one (plan ++ cells) events → NodeStands picks other (plan ++ others) events → one.wanted ≡ other.wanted
one_wanted picks pick once plan cells others events one other long is is' stands stood =
    let count : length (plan ++ cells) ≡ length (plan ++ others) = length-append plan cells ∙ ap (λ (n : ℕ). length plan + n) long ∙ sym (length-append plan others) in
    let same : plan ++ cells ≡ plan ++ others =
    one_plan (picks pick) once (plan ++ cells) (plan ++ others) count
    (subst (λ f. IsPlanOf picks f (plan ++ cells)) is stands.picked) (subst (λ f. IsPlanOf picks f (plan ++ others)) is' stood.picked) in
    stands.wanted ∙ ap distinct same ∙ sym stood.wanted

-- what two calls say of an Ok holds where both are Ok
pub on_both : {A B E F : Type 0} {P Q X : Type 0} (r : Result A E) (s : Result B F) → OnOk r P → OnOk s Q → (P → Q → X) → OnOk r (OnOk s X)
on_both (Ok a) (Ok b) p q both = both p q
on_both (Ok a) (Err e) p q both = tt
on_both (Err e) s p q both = tt
