use Rattle.std.proofs.Common.{◌∙◌, ℕ, Bool, List, Option, Some, Vec, if◌then◌else◌, refl, sym, ap, ap₂}
use Rattle.std.specs.Map.{lookup}
use Rattle.std.specs.Option.{option_map, option_or}
use Rattle.std.specs.declared.alloc.Global.{Global}
use Rattle.namespace_id.specs.declared.namespaces.Namespace.{Namespace}
use Rattle.blob_feed.specs.Feeds.{NamedAnswer}
use Rattle.blob_feed.specs.Followers.{is_name}
use Rattle.blob_feed.proofs.NameLemmas.{same_refl}
use Rattle.da_following.specs.Heights.{said_at}
use Rattle.da_following.proofs.KeptLemmas.{or_none, or_some, some_map, none_map, kept_with}
use Rattle.da_following.proofs.heights.UnderWay.take.Goals as goal

-- something is kept of the namespace
pub returns-then-contains_key-clause-said : goal.returns-then-contains_key-clause-said
returns-then-contains_key-clause-said c =
    let height = c.args.self.now in
    let given : NamedAnswer = record { name = c.args.name.now; answer = c.args.answer.now } in
    let some = some_map (λ (text : Vec ℕ Global). text.items) (lookup (is_name given.name) height.texts.entries)
    ∙ sym c.contains_key.ensures ∙ c.if-contains_key.true in
    kept_with height.header given (said_at height) (said_at height) (or_some (said_at height given.name) _ some) (λ other e. refl)

-- the answer isn't complete
pub returns-in_default-clause-said : goal.returns-in_default-clause-said
returns-in_default-clause-said c =
    let height = c.args.self.now in
    let given : NamedAnswer = record { name = c.args.name.now; answer = c.args.answer.now } in
    let none = sym (ap (option_map (λ (text : Vec ℕ Global). text.items)) c.in_default.is) ∙ c.in_ok-text.ensures in
    kept_with height.header given (said_at height) (said_at height)
    (or_none (said_at height given.name) ∙ ap (option_or (said_at height given.name)) none) (λ other e. refl)

-- it is the first that is
pub returns-in-Ok-clause-said : goal.returns-in-Ok-clause-said
returns-in-Ok-clause-said c =
    let height = c.args.self.now in
    let given : NamedAnswer = record { name = c.args.name.now; answer = c.args.answer.now } in
    let items : Vec ℕ Global → List ℕ = λ text. text.items in
    let none = none_map items (lookup (is_name given.name) height.texts.entries) (sym c.contains_key.ensures ∙ c.if-contains_key.false) in
    let says = sym (ap (option_map items) c.in-Some.is) ∙ c.in_ok-text.ensures in
    let by : Namespace → Bool → Option (List ℕ) = λ other b. option_map items (if b then Some c.in-Some.text else lookup (is_name other) height.texts.entries) in
    kept_with height.header given (said_at height) (said_at (record { header = height.header; texts = c.insert.new.self }))
    (ap (option_map items) (c.in-Ok.ensures.updates.0 given.name) ∙ ap (by given.name) (same_refl given.name) ∙ ap₂ option_or (sym none) says)
    (λ other e. ap (option_map items) (c.in-Ok.ensures.updates.0 other) ∙ ap (by other) e)
