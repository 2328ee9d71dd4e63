-- What the command sample answers.
use Rattle.std.proofs.Common.{◌≡◌, ◌∙◌, ℕ, ◌*◌, true, List, [], ◌∷◌, Some, IsSome, refl, sym, ap₂, subst}
use Rattle.std.specs.List.{AllByRecursion}
use Rattle.namespace_id.specs.declared.cells.Cell.{Cell}
use Rattle.namespace_id.specs.declared.cells.Axis.{Axis}
use Rattle.namespace_id.specs.declared.shares.Share.{Share}
use Rattle.data_header.specs.Headers.{Roots}
use Rattle.square_layout.specs.Blocks.{SquareShares}
use Rattle.axis_roots.specs.declared.message.messages.Message as sent
use Rattle.axis_roots.specs.Messages.{IsMessage}
use Rattle.axis_roots.specs.Grids.{Extends, IsHeaderOf, share_at}
use Rattle.axis_roots.specs.Halves.{HeadedSquare}
use Rattle.axis_roots.specs.Openings.{IsProved}
use Rattle.axis_roots.specs.Trees.{message_at}
use Rattle.axis_roots.proofs.Messages.HalfLemmas.{own_proved}
use Rattle.square_serve.specs.Serving.{HeldParts, Holds}
use Rattle.da_wire.specs.declared.frames.Frame.{Frame}
use Rattle.da_wire.specs.declared.frames.Frame.TheVariants.{Message, Sample}
use Rattle.da_wire.specs.Spelling.{spelling, sample_kind}
use Rattle.da_wire.specs.Reading.{is_among}
use Rattle.da_wire.specs.Writing.{kind_of}
use Rattle.da_status.specs.declared.status.Status.{Status}
use Rattle.da_status.specs.Statuses.{status_kind}
use Rattle.da_serving.specs.declared.extension.Extension.TheVariants.{Whole, Left}
use Rattle.da_serving.specs.Choices.{HasFrame}
use Rattle.da_serving.specs.Extension.{IsExtensionOf}
use Rattle.da_serving.specs.Sample.{asked_sample, sample_request, samples_in, is_asked_inside, IsServedSample, AllowsSample, SampleOf}
use Rattle.da_status.proofs.EndLemmas.{IsAnswer}
use Rattle.da_serving.proofs.ServingLemmas.{over_answers}

-- a frame of this kind asks for a sample, and is the frame that does
pub is_sample_frame : (frame : Frame) → is_among (sample_kind ∷ []) (kind_of frame) ≡ true
    → (asked : Cell × Axis) × (asked_sample frame ≡ Some asked) × (frame ≡ sample_request asked)
is_sample_frame (Sample cell axis) e = ((cell, axis), refl, refl)
is_sample_frame frame e = absurd cc

-- a sample of the cell and the axis that are asked for, as a held square gives it, is one of the square
pub is_sample : (held : HeldParts) (square : SquareShares) (asked : Cell × Axis) (m : sent.Message) → Holds held square → m.cell ≡ asked.0 → m.axis ≡ asked.1
    → m.share ≡ share_at (2 * held.k) held.grid asked.0 → IsProved held.header m → IsServedSample square held.header asked m
is_sample held square asked m holds cell axis share proved = record {
  cell = cell;
  axis = axis;
  grid = held.grid;
  extends = holds.extends;
  share = share ∙ ap₂ (λ (k : ℕ) (c : Cell). share_at (2 * k) held.grid c) holds.width (sym cell);
  proved = proved;
}

-- a square with its header, as one that is held
abbrev pub held_of : (header : Roots) (square : SquareShares) → IsHeaderOf header square → HeldParts
held_of header square own = record { k = square.k; grid = own.grid; header = header }

-- it holds the square
pub holds_own : (header : Roots) (square : SquareShares) (own : IsHeaderOf header square) → Holds (held_of header square own) square
holds_own header square own = record { whole = own.whole; width = refl; extends = own.extends; roots = own.roots }

-- so is one of its whole extension, or of its left half
pub whole_sample : (held : HeldParts) (square : SquareShares) (header : Roots) (asked : Cell × Axis) (m : sent.Message) → IsExtensionOf (Whole held) square header
    → m.cell ≡ asked.0 → m.axis ≡ asked.1 → m.share ≡ share_at (2 * held.k) held.grid asked.0 → IsProved held.header m → IsServedSample square header asked m
whole_sample held square header asked m is cell axis share proved =
    subst (λ (h : Roots). IsServedSample square h asked m) is.1.1 (is_sample held square asked m is.1.0 cell axis share proved)

pub half_sample : (half : HeadedSquare) (square : SquareShares) (header : Roots) (asked : Cell × Axis) (m : sent.Message) → IsExtensionOf (Left half) square header
    → m.cell ≡ asked.0 → m.axis ≡ asked.1
    → ((grid : List Share) → Extends half.square.k half.square.shares grid → m.share ≡ share_at (2 * half.square.k) grid asked.0)
    → IsProved half.header m → IsServedSample square header asked m
half_sample half square header asked m is cell axis share proved =
    let own = is.0 in
    is_sample (held_of header square own) square asked m (holds_own header square own) cell axis
    (subst (λ (s : SquareShares). (grid : List Share) → Extends s.k s.shares grid → m.share ≡ share_at (2 * s.k) grid asked.0) is.1.0 share own.grid own.extends)
    (subst (λ (h : Roots). IsProved h m) is.1.1 proved)

-- each cell of a square has a sample
pub own_sample : (header : Roots) (square : SquareShares) (own : IsHeaderOf header square) (asked : Cell × Axis) → is_asked_inside square asked ≡ true
    → IsServedSample square header asked (message_at square.k own.grid asked.0 asked.1)
own_sample header square own asked inside =
    is_sample (held_of header square own) square asked (message_at square.k own.grid asked.0 asked.1) (holds_own header square own) refl refl refl
    (own_proved header square own.grid asked.0 asked.1 own own.extends inside)

-- so each request for one allows a frame that has a spelling, by what is known of frames of samples
pub have_samples : (header : Roots) (square : SquareShares) → IsHeaderOf header square → ((m : sent.Message) → IsMessage m → IsSome (spelling (Message m)))
    → (requests : List (Cell × Axis)) → AllByRecursion (λ (asked : Cell × Axis). is_asked_inside square asked ≡ true) requests
    → AllByRecursion (HasFrame (AllowsSample square header)) requests
have_samples header square own spelled [] inside = tt
have_samples header square own spelled (asked ∷ requests) inside =
    let m = message_at square.k own.grid asked.0 asked.1 in
    let is = own_sample header square own asked inside.0 in
    ((Message m, (m, is, refl), spelled m is.proved.sized), have_samples header square own spelled requests inside.1)

-- what sample answers to its files is an answer
pub sample_answers : (files : List (List ℕ)) (w : List ℕ) (status : Status) → SampleOf files w status → IsAnswer (status_kind status)
sample_answers files w status h = over_answers is_asked_inside AllowsSample samples_in files w status h
