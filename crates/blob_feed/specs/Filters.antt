-- Which namespaces a filter wants.
use Rattle.std.specs.Prelude.{◌≡◌, Bool, true, false}
use Rattle.std.specs.Borrow.{Bor}
use Rattle.std.specs.Fn.{Shared}
use Rattle.namespace_id.specs.declared.namespaces.Namespace.{Namespace}
use Rattle.namespace_id.specs.Names.{IsNamespace}

-- a closure may be called at a reference to a value
abbrev pub MayTake : {F T R : Type 0} → Shared F (Bor T × Unit {0}) R → F → T → Type 0
MayTake {F} {T} g f x = (p : Bor T) → p.now ≡ x → g.pre f (p, tt)

-- a filter may be asked of every namespace, and answers it always alike
abbrev pub IsFilter : {F : Type 0} → (F → Namespace → Type 0) → (F → Namespace → Bool → Type 0) → F → Type 0
IsFilter can_ask answers filter = (name : Namespace) → IsNamespace name
    → can_ask filter name × (answers filter name true → answers filter name false → ⊥)

-- a filter wants a namespace: it answers true to it
abbrev pub wanted_by : {F : Type 0} → (F → Namespace → Bool → Type 0) → F → Namespace → Type 0
wanted_by answers filter name = answers filter name true
