-- Spellings of frames: they have some bytes, and are written.
use Rattle.std.proofs.Common.{◌≡◌, ◌∙◌, ℕ, List, [], ◌++◌, Some, sym, ap}
use Rattle.da_wire.specs.declared.frames.Frame.{Frame}
use Rattle.da_wire.specs.Writing.{AppendsSpelling}
use Rattle.da_status.specs.declared.status.Status.{Status}
use Rattle.da_files.specs.Frames.{WritesWith, WritesText}
pub use Rattle.da_wire.proofs.FrameLemmas.{spelling_some}

-- where a spelling was appended to no bytes, what is written is the frame
pub writes_frame : (frame : Frame) (final : Status) (old new shown : List ℕ) → old ≡ [] → AppendsSpelling frame old new → shown ≡ new
    → (w : List ℕ) (status : Status) → WritesText final shown w status → WritesWith final frame w status
writes_frame frame final old new shown none appended same w status writes =
    let text : w ≡ appended.0 = writes.0 ∙ same ∙ appended.2 ∙ ap (λ (l : List ℕ). l ++ appended.0) none in
    (appended.1 ∙ ap Some (sym text), writes.1)
