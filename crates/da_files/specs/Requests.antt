-- Lists of requests: the first one, the first that fails a test, and the namespaces that are asked for.
use Rattle.std.specs.Prelude.{◌≡◌, ℕ, ◌+◌, ◌<◌, List, [], ◌∷◌, length, Bool, Some, None, if◌then◌else◌}
use Rattle.std.specs.declared.option.Option.{Option}
use Rattle.std.specs.Borrow.{Bor}
use Rattle.std.specs.List.{filter_map}
use Rattle.namespace_id.specs.declared.namespaces.Namespace as names
use Rattle.da_wire.specs.declared.frames.Frame.{Frame}
use Rattle.da_wire.specs.declared.frames.Frame.TheVariants.{Request}
use Rattle.da_wire.specs.Spelling.{request_kind}
use Rattle.da_wire.specs.Values.{values_of}

-- what stands at the front of the requests in bytes: a request and the bytes after it, or none
abbrev pub IsNext : {A : Type 0} → (List ℕ → List A) → List ℕ → Option (A × Bor (List ℕ)) → Type 0
IsNext requests_in bytes None = requests_in bytes ≡ []
IsNext requests_in bytes (Some next) =
    (requests_in bytes ≡ next.0 ∷ requests_in next.1.now) × (length next.1.now < length bytes)

-- the number of the first request that fails a test; the first one has this number
unfoldable pub failing_from : {A : Type 0} → (A → Bool) → ℕ → List A → Option ℕ
failing_from test number [] = None
failing_from test number (request ∷ requests) =
    if test request then failing_from test (number + 1) requests else Some number

-- the namespace that a frame asks for
abbrev pub namespace_of : Frame → Option names.Namespace
namespace_of (Request name) = Some name
namespace_of frame = None

-- the namespaces that a file asks for
abbrev pub namespaces_in : List ℕ → List names.Namespace
namespaces_in bytes = filter_map namespace_of (values_of (request_kind ∷ []) bytes)
