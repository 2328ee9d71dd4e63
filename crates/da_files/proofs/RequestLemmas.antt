-- Lists of requests: the first one, and the first that fails a test.
use Rattle.std.proofs.Common.{◌≡◌, ◌∙◌, ℕ, ◌+◌, ◌<◌, Bool, true, false, cond, List, [], ◌∷◌, length, None, Some, IfSome, Bor, map, refl, sym, ap, ap₂}
use Rattle.std.specs.declared.option.Option.{Option}
use Rattle.std.specs.List.{filter_map, cons_option, AllByRecursion}
use Rattle.std.specs.Prelude.{MatchOption}
use Rattle.namespace_id.specs.Bytes.{AreBytes}
use Rattle.da_wire.specs.declared.frames.Frame.{Frame}
use Rattle.da_wire.specs.Reading.{is_among}
use Rattle.da_wire.specs.Writing.{kind_of}
use Rattle.da_wire.specs.Values.{values_of, bad_value, values_bytes, IsValue}
use Rattle.da_wire.specs.Laws.{ValuesAreTheFile, BadValueIsFirst}
use Rattle.da_files.specs.Requests.{failing_from, IsNext}

-- a reader of requests finds the first request, and those after it
pub is_next : {A : Type 0} (request_of : Frame → Option A) (make : A → Frame) → ((a : A) → request_of (make a) ≡ Some a) → (kinds bytes : List ℕ)
    (next : Option (A × Bor (List ℕ)))
    → MatchOption next (values_of kinds bytes ≡ []) (λ x. values_of kinds bytes ≡ make x.0 ∷ values_of kinds x.1.now)
    → IfSome next (λ x. length x.1.now < length bytes) → IsNext (λ (l : List ℕ). filter_map request_of (values_of kinds l)) bytes next
is_next request_of make back kinds bytes None found shorter = ap (filter_map request_of) found
is_next {A} request_of make back kinds bytes (Some x) found shorter = (
  ap (filter_map request_of) found ∙ ap (λ (o : Option A). cons_option o (filter_map request_of (values_of kinds x.1.now))) (back x.0),
  shorter,
)

module _ {A : Type 0} (request_of : Frame → Option A) (make : A → Frame) (kinds : List ℕ)
    (is_made : (frame : Frame) → is_among kinds (kind_of frame) ≡ true → (request : A) × (request_of frame ≡ Some request) × (frame ≡ make request)) where
  -- frames that are all requests are the frames of the requests
  made_again : (frames : List Frame) → AllByRecursion (IsValue kinds) frames → map make (filter_map request_of frames) ≡ frames
  made_again [] all = refl
  made_again (frame ∷ frames) all =
      let made = is_made frame all.0.kind in
      ap (λ (o : Option A). map make (cons_option o (filter_map request_of frames))) made.1
      ∙ ap₂ (λ (v : Frame) (vs : List Frame). v ∷ vs) (sym made.2) (made_again frames all.1)

  -- a file of requests is exactly the spellings of the requests that are read of it
  pub asked_again : (bytes : List ℕ) → (values_bytes (values_of kinds bytes) ≡ bytes) × AllByRecursion (IsValue kinds) (values_of kinds bytes)
      → values_bytes (map make (filter_map request_of (values_of kinds bytes))) ≡ bytes
  asked_again bytes h = ap values_bytes (made_again (values_of kinds bytes) h.1) ∙ h.0

-- the values of a file can be written, wherever it leaves its form
pub values_by : (kinds bytes : List ℕ) (bad : Option ℕ) → ValuesAreTheFile → BadValueIsFirst → AreBytes bytes → bad_value kinds bytes ≡ bad
    → AllByRecursion (IsValue kinds) (values_of kinds bytes)
values_by kinds bytes None whole first fits e = (whole kinds bytes fits e).1
values_by kinds bytes (Some at) whole first fits e = (first kinds bytes at fits e).2

module _ {A : Type 0} (test : A → Bool) where
  -- the first request passes where none fails, by its test
  none_by : (b : Bool) (number : ℕ) (later : Option ℕ) → cond b later (Some number) ≡ None → (b ≡ true) × (later ≡ None)
  none_by true number later e = (refl, e)
  none_by false number later e = absurd cc

  -- where no request fails all pass
  pub all_pass : (number : ℕ) (requests : List A) → failing_from test number requests ≡ None → AllByRecursion (λ (request : A). test request ≡ true) requests
  unfolding failing_from
  all_pass number [] none = tt
  all_pass number (request ∷ requests) none =
      let parts = none_by (test request) number (failing_from test (number + 1) requests) none in (parts.0, all_pass (number + 1) requests parts.1)

  -- of no requests none fails
  pub failing_none : (number : ℕ) (requests : List A) → requests ≡ [] → failing_from test number requests ≡ None
  unfolding failing_from
  failing_none number requests none = ap (failing_from test number) none

  -- what the first request's test says of the first that fails
  failing_by : (number : ℕ) (requests later : List A) (request : A) (b : Bool) → requests ≡ request ∷ later → test request ≡ b
      → failing_from test number requests ≡ cond b (failing_from test (number + 1) later) (Some number)
  unfolding failing_from
  failing_by number requests later request b next e =
      ap (failing_from test number) next ∙ ap (λ (t : Bool). cond t (failing_from test (number + 1) later) (Some number)) e

  -- the first request fails
  pub failing_here : (number : ℕ) (requests later : List A) (request : A) → requests ≡ request ∷ later → test request ≡ false
      → failing_from test number requests ≡ Some number
  failing_here number requests later request next e = failing_by number requests later request false next e

  -- the first request passes
  pub failing_later : (number : ℕ) (requests later : List A) (request : A) → requests ≡ request ∷ later → test request ≡ true
      → failing_from test number requests ≡ failing_from test (number + 1) later
  failing_later number requests later request next e = failing_by number requests later request true next e
