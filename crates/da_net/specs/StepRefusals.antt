-- When each refusal of a step comes, by numbers and lists, in the order of the tests (docs/RULES.md, "Networks").
use Rattle.std.specs.Prelude.{◌≡◌, ◌⊎◌, ◌<◌, ◌≤◌, length, IsSome, None}
use Rattle.std.specs.List.{Contains}
use Rattle.da_net.specs.declared.items.NetEvent.{NetEvent}
use Rattle.da_net.specs.declared.items.NetEvent.TheVariants as event
use Rattle.da_net.specs.declared.items.Kept.TheVariants as kept
use Rattle.da_net.specs.Nets.{NetParts, alarm_at, rejecting_claim}

-- there is no capacity for an event: for one more step, or for the item that it puts into the pool
abbrev pub IsFull : NetParts → NetEvent → Type 0
IsFull net (event.Put one) = (net.most_steps ≤ length net.steps) ⊎ (net.most_items ≤ length net.pool)
IsFull net (event.Hand place to) = net.most_steps ≤ length net.steps
IsFull net (event.Publish by) = (net.most_steps ≤ length net.steps) ⊎ (net.most_items ≤ length net.pool)

-- there is capacity for a step
abbrev pub HasStep : NetParts → Type 0
HasStep net = length net.steps < net.most_steps

-- there is capacity for a step and an item
abbrev pub HasBoth : NetParts → Type 0
HasBoth net = HasStep net × (length net.pool < net.most_items)

-- there is, and an item is to be handed that isn't in the pool
abbrev pub LacksItem : NetParts → NetEvent → Type 0
LacksItem net (event.Put one) = ⊥
LacksItem net (event.Hand place to) = HasStep net × (length net.pool ≤ place)
LacksItem net (event.Publish by) = ⊥

-- an item of the pool is to be handed to a node that isn't there, or such a node is to publish
abbrev pub LacksNode : NetParts → NetEvent → Type 0
LacksNode net (event.Put one) = ⊥
LacksNode net (event.Hand place to) = HasStep net × (place < length net.pool) × (length net.nodes ≤ to)
LacksNode net (event.Publish by) = HasBoth net × (length net.nodes ≤ by)

-- a node is to publish that has no claim by which it rejects
abbrev pub LacksClaim : NetParts → NetEvent → Type 0
LacksClaim net (event.Put one) = ⊥
LacksClaim net (event.Hand place to) = ⊥
LacksClaim net (event.Publish by) = HasBoth net × (by < length net.nodes) × (rejecting_claim (alarm_at net by) ≡ None)

-- a node that rejects is to publish, and one of the steps is its publishing
abbrev pub PublishesAgain : NetParts → NetEvent → Type 0
PublishesAgain net (event.Put one) = ⊥
PublishesAgain net (event.Hand place to) = ⊥
PublishesAgain net (event.Publish by) =
    HasBoth net × (by < length net.nodes) × IsSome (rejecting_claim (alarm_at net by)) × Contains net.steps (kept.Publish by)
