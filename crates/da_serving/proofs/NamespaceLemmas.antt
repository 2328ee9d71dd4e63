-- What the command namespace answers.
use Rattle.std.proofs.Common.{◌≡◌, ℕ, true, false, List, [], ◌∷◌, None, Some, IsSome, refl, subst}
use Rattle.std.specs.declared.option.Option.{Option}
use Rattle.std.specs.List.{AllByRecursion, filter_map, cons_option}
use Rattle.std.proofs.lemmas.Bool.{not-true}
use Rattle.namespace_id.specs.declared.namespaces.Namespace as names
use Rattle.namespace_id.specs.Bytes.{AreBytes}
use Rattle.namespace_id.specs.Names.{IsNamespace, is_parity}
use Rattle.data_header.specs.Headers.{Roots}
use Rattle.square_layout.specs.Blocks.{SquareShares}
use Rattle.axis_roots.specs.declared.answers.NsEntry.{NsEntry}
use Rattle.axis_roots.specs.Answers.{AreEntries}
use Rattle.square_serve.specs.Shares.{namespace_shares}
use Rattle.square_serve.specs.Answers.{shown, IsComplete}
use Rattle.da_wire.specs.declared.frames.Frame.{Frame}
use Rattle.da_wire.specs.declared.frames.Frame.TheVariants.{Names, Request}
use Rattle.da_wire.specs.Spelling.{spelling, request_kind, IsFrame}
use Rattle.da_wire.specs.Reading.{is_among}
use Rattle.da_wire.specs.Writing.{kind_of}
use Rattle.da_wire.specs.Values.{values_of, bad_value, IsValue}
use Rattle.da_wire.specs.Laws.{ValuesAreTheFile, BadValueIsFirst}
use Rattle.da_status.specs.declared.status.Status.{Status}
use Rattle.da_status.specs.Statuses.{status_kind}
use Rattle.da_serving.specs.Choices.{HasFrame}
use Rattle.da_files.specs.Requests.{namespace_of, namespaces_in}
use Rattle.da_serving.specs.Namespace.{is_other, AllowsNames, NamespaceOf}
use Rattle.da_status.proofs.EndLemmas.{IsAnswer}
use Rattle.da_files.proofs.RequestLemmas.{values_by}
use Rattle.da_serving.proofs.ServingLemmas.{over_answers}

-- a frame of this kind asks for a namespace, and is the frame that does
pub is_name_frame : (frame : Frame) → is_among (request_kind ∷ []) (kind_of frame) ≡ true
    → (name : names.Namespace) × (namespace_of frame ≡ Some name) × (frame ≡ Request name)
is_name_frame (Request name) e = (name, refl, refl)
is_name_frame frame e = absurd cc

-- ---- the namespaces that are asked for

-- the namespace that a frame asks for is one
named : (frame : Frame) (name : names.Namespace) → namespace_of frame ≡ Some name → IsFrame frame → IsNamespace name
named (Request asked) name e is = let same : asked ≡ name = cc in subst IsNamespace same is
named frame name e is = absurd cc

-- by the namespace that a frame asks for
named_on : (o : Option names.Namespace) (later : List names.Namespace) → ((name : names.Namespace) → o ≡ Some name → IsNamespace name)
    → AllByRecursion IsNamespace later → AllByRecursion IsNamespace (cons_option o later)
named_on None later here all = all
named_on (Some name) later here all = (here name refl, all)

-- what frames ask for are namespaces
all_named : (kinds : List ℕ) (frames : List Frame) → AllByRecursion (IsValue kinds) frames → AllByRecursion IsNamespace (filter_map namespace_of frames)
all_named kinds [] all = tt
all_named kinds (frame ∷ frames) all =
    named_on (namespace_of frame) (filter_map namespace_of frames) (λ name e. named frame name e all.0.is) (all_named kinds frames all.1)

-- what a file asks for are namespaces
pub are_named : ValuesAreTheFile → BadValueIsFirst → (bytes : List ℕ) → AreBytes bytes → AllByRecursion IsNamespace (namespaces_in bytes)
are_named whole first bytes fits =
    let kinds : List ℕ = request_kind ∷ [] in
    all_named kinds (values_of kinds bytes) (values_by kinds bytes (bad_value kinds bytes) whole first fits refl)

-- ---- answers

-- there is a complete answer that shows exactly the square's shares, for each namespace but PARITY
abbrev pub HaveAnswers : Roots → SquareShares → Type 0
HaveAnswers header square =
    (name : names.Namespace) → IsNamespace name → is_parity name ≡ false
    → (answer : List NsEntry) × IsComplete header name answer × AreEntries answer × (shown answer ≡ namespace_shares square name)

-- so each request for one allows a frame that has a spelling, by what is known of frames of answers
pub have_names : (header : Roots) (square : SquareShares) → HaveAnswers header square
    → ((name : names.Namespace) (answer : List NsEntry) → IsNamespace name → AreEntries answer → IsComplete header name answer → IsSome (spelling (Names name answer)))
    → (requests : List names.Namespace) → AllByRecursion IsNamespace requests → AllByRecursion (λ (name : names.Namespace). is_other name ≡ true) requests
    → AllByRecursion (HasFrame (AllowsNames square header)) requests
have_names header square there spelled [] are others = tt
have_names header square there spelled (name ∷ requests) are others =
    let found = there name are.0 (not-true (is_parity name) others.0) in (
      (Names name found.0, (found.0, record { complete = found.1; shares = found.3 }, refl), spelled name found.0 are.0 found.2 found.1),
      have_names header square there spelled requests are.1 others.1,
    )

-- what namespace answers to its files is an answer
pub namespace_answers : (files : List (List ℕ)) (w : List ℕ) (status : Status) → NamespaceOf files w status → IsAnswer (status_kind status)
namespace_answers files w status h = over_answers (λ (square : SquareShares). is_other) AllowsNames namespaces_in files w status h
