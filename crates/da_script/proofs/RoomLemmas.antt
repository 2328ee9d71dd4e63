-- The network of a script has room for each of the script's events.
use Rattle.std.proofs.Common.{◌≡◌, ◌∙◌, ℕ, suc, ◌+◌, ◌<◌, ◌≤◌, ◌&&◌, nat_le, Bool, true, false, cond, List, [], ◌∷◌, ◌++◌, length, slice_get, Option, Some, None, refl, sym, ap, ap₂, subst, arith}
use Rattle.std.proofs.lemmas.Bool.Decides.{nat_tests}
use Rattle.std.specs.List.{filter}
use Rattle.std.specs.Option.{option_map}
use Rattle.std.proofs.lemmas.List.{length-append}
use Rattle.std.proofs.lemmas.List.Elements.{filter-append}
use Rattle.data_header.specs.Headers.{Roots}
use Rattle.da_net.specs.declared.items.Item.{Item}
use Rattle.da_net.specs.declared.items.Kept.{Kept}
use Rattle.da_net.specs.declared.items.Kept.TheVariants as kept
use Rattle.da_net.specs.declared.items.NetEvent.{NetEvent}
use Rattle.da_net.specs.declared.items.NetEvent.TheVariants as event
use Rattle.da_net.specs.declared.items.Stepped.{Stepped}
use Rattle.da_net.specs.declared.items.Stepped.TheVariants as stepped
use Rattle.da_net.specs.Nets.{NetParts, HasHappened, IsPooled, IsSameNet, is_full}
use Rattle.da_net.specs.Nets as nets
use Rattle.da_script.specs.declared.reading.Move.{Move}
use Rattle.da_script.specs.declared.reading.Move.TheVariants as move
use Rattle.da_script.specs.Plays.{is_pooling_move, pooling, event_of, first_net, Goes, done, refused, GoOn, start, next}

-- what a number of items is put into the pool by an event
abbrev put_by : Bool → ℕ
put_by pools = cond pools 1 0

-- an item that is there is put
put_same : (found : Option Item) (given : NetEvent) → option_map event.Put found ≡ Some given → nets.is_pooling given ≡ true
put_same None given e = absurd cc
put_same (Some one) given e = let same : event.Put one ≡ given = cc in ap nets.is_pooling (sym same)

-- an event of a network puts an item into the pool exactly where the event of the script does that it is of
same_kind : (items : List Item) (one : Move) (given : NetEvent) → event_of items one ≡ Some given → nets.is_pooling given ≡ is_pooling_move one
same_kind items (move.Put a) given e = put_same (slice_get items a) given e
same_kind items (move.Hand a b) given e = let same : event.Hand a b ≡ given = cc in ap nets.is_pooling (sym same)
same_kind items (move.Publish b) given e = let same : event.Publish b ≡ given = cc in ap nets.is_pooling (sym same)

-- how many items and steps an event adds
record Grows (old new : NetParts) (pools : Bool) : Type 0 where
  pub pool : length new.pool ≡ length old.pool + put_by pools
  pub steps : length new.steps ≡ length old.steps + 1

-- an item more by a step more
pooled_grows : (old new : NetParts) (one : Item) (step : Kept) (place : ℕ) → IsPooled old new one step place → Grows old new true
pooled_grows old new one step place is = record {
  pool = ap length is.pool ∙ length-append old.pool (one ∷ []);
  steps = ap length is.steps ∙ length-append old.steps (step ∷ []);
}

-- an event that has happened
happened_grows : (old new : NetParts) (given : NetEvent) (did : Stepped) → HasHappened old given new did → Grows old new (nets.is_pooling given)
happened_grows old new (event.Put one) (stepped.Pooled place) is = pooled_grows old new one kept.Put place is
happened_grows old new (event.Put one) (stepped.Handed state) is = absurd is
happened_grows old new (event.Hand place to) (stepped.Pooled at) is = absurd is
happened_grows old new (event.Hand place to) (stepped.Handed state) is = record {
  pool = let e : length new.pool ≡ length old.pool = ap length is.pool in omega (arith, e);
  steps = ap length is.steps ∙ length-append old.steps (kept.Hand place to ∷ []);
}
happened_grows old new (event.Publish by) (stepped.Pooled place) (claim, rejects, is) = pooled_grows old new _ (kept.Publish by) place is
happened_grows old new (event.Publish by) (stepped.Handed state) is = absurd is

-- what a network has room for, and what was used of it by some events
record Spent (first net : NetParts) (moves : List Move) : Type 0 where
  pub items : net.most_items ≡ first.most_items
  pub steps : net.most_steps ≡ first.most_steps
  pub pool : length net.pool ≤ pooling moves
  pub kept : length net.steps ≤ length moves

-- one event more counts where it puts an item
pooling-one : (one : Move) → pooling (one ∷ []) ≡ put_by (is_pooling_move one)
pooling-one (move.Put a) = refl
pooling-one (move.Hand a b) = refl
pooling-one (move.Publish b) = refl

-- the events of two lists that put items
pooling-append : (before later : List Move) → pooling (before ++ later) ≡ pooling before + pooling later
pooling-append before later =
    ap length (filter-append is_pooling_move before later) ∙ length-append (filter is_pooling_move before) (filter is_pooling_move later)

-- an event that went by used no more than its own
goes_spent : (items : List Item) (first old new : NetParts) (moves : List Move) (one : Move) (line : List ℕ)
    → Spent first old moves → Goes items old one new line → Spent first new (moves ++ one ∷ [])
goes_spent items first old new moves one line spent (done given did is why happened same line_is) =
    let grows = subst (λ (b : Bool). Grows old new b) (same_kind items one given is) (happened_grows old new given did happened) in
    let more : pooling (moves ++ one ∷ []) ≡ pooling moves + put_by (is_pooling_move one) =
    pooling-append moves (one ∷ []) ∙ ap (λ (n : ℕ). pooling moves + n) (pooling-one one) in
    let longer = length-append moves (one ∷ []) in
    record {
      items = same.most_items ∙ spent.items;
      steps = same.most_steps ∙ spent.steps;
      pool = omega (arith, grows.pool, more, spent.pool);
      kept = omega (arith, grows.steps, longer, spent.kept);
    }
goes_spent items first old new moves one line spent (refused given why is because same line_is) =
    let more : pooling (moves ++ one ∷ []) ≡ pooling moves + pooling (one ∷ []) = pooling-append moves (one ∷ []) in
    let longer = length-append moves (one ∷ []) in
    let now : Spent first new moves = subst (λ (n : NetParts). Spent first n moves) (sym same) spent in
    record {
      items = now.items;
      steps = now.steps;
      pool = omega (arith, more, now.pool);
      kept = omega (arith, longer, now.kept);
    }

-- so do all events that went by
spent_by : (items : List Item) (first net : NetParts) (moves : List Move) (lines : List ℕ) → length first.pool ≡ 0 → length first.steps ≡ 0
    → GoOn items first moves net lines → Spent first net moves
spent_by items first _ _ _ no_items no_steps start =
    record { items = refl; steps = refl; pool = omega (arith, no_items); kept = omega (arith, no_steps) }
spent_by items first _ _ _ no_items no_steps (next moves old lines one new line before goes) =
    goes_spent items first old new moves one line (spent_by items first old moves lines no_items no_steps before) goes

-- a pool that has room isn't full, whatever the event
roomy : (net : NetParts) (given : NetEvent) → length net.steps < net.most_steps
    → (nets.is_pooling given ≡ true → length net.pool < net.most_items) → is_full net given ≡ false
roomy net given steps pool = by_kind (nets.is_pooling given) pool
  where
    left : nat_le net.most_steps (length net.steps) ≡ false
    left = grind (arith, nat_tests)

    by_kind : (b : Bool) → (b ≡ true → length net.pool < net.most_items)
        → cond (nat_le net.most_steps (length net.steps)) true (b && nat_le net.most_items (length net.pool)) ≡ false
    by_kind true some =
        let there : length net.pool < net.most_items = some refl in
        let more : nat_le net.most_items (length net.pool) ≡ false = grind (arith, nat_tests) in
        ap₂ (λ (x y : Bool). cond x true y) left more
    by_kind false some = ap (λ (x : Bool). cond x true false) left

-- the network of a script has room for each of its events, when all before have happened or were refused
pub has_room : (items : List Item) (header : Roots) (script : List ℕ) (before after : List Move) (one : Move) (net : NetParts) (lines : List ℕ)
    → GoOn items (first_net header (before ++ one ∷ after) script) before net lines
    → (given : NetEvent) → event_of items one ≡ Some given → is_full net given ≡ false
has_room items header script before after one net lines went given is =
    let spent = spent_by items (first_net header (before ++ one ∷ after) script) net before lines refl refl went in
    let all : length (before ++ one ∷ after) ≡ length before + suc (length after) = length-append before (one ∷ after) in
    let puts : pooling (before ++ one ∷ after) ≡ pooling before + (pooling (one ∷ []) + pooling after) =
    pooling-append before (one ∷ after) ∙ ap (λ (n : ℕ). pooling before + n) (pooling-append (one ∷ []) after) in
    roomy net given (omega (arith, spent.steps, spent.kept, all))
    (λ (pools : nets.is_pooling given ≡ true).
    let own : pooling (one ∷ []) ≡ 1 =
    pooling-one one ∙ ap put_by (sym (same_kind items one given is) ∙ pools) in
    omega (arith, spent.items, spent.pool, puts, own))
