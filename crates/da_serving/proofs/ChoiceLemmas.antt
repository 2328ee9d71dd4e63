-- Outputs that are a choice.
use Rattle.std.proofs.Common.{◌≡◌, ◌∙◌, ℕ, List, [], ◌∷◌, ◌++◌, Some, refl, sym, ap, subst, append_assoc, append-nil}
use Rattle.std.specs.List.{AllByRecursion}
use Rattle.da_wire.specs.declared.frames.Frame.{Frame}
use Rattle.da_wire.specs.Spelling.{spelling}
use Rattle.da_serving.specs.Choices.{FramesOf, HasFrame}
use Rattle.da_files.proofs.FileLemmas.{some_there}

module _ {A : Type 0} (Allows : A → Frame → Type 0) where
  -- the frames of some requests, and then those of others
  frames_join : (front later : List A) (w v : List ℕ) → FramesOf Allows front w → FramesOf Allows later v → FramesOf Allows (front ++ later) (w ++ v)
  unfolding FramesOf
  frames_join [] later w v h next = subst (λ (l : List ℕ). FramesOf Allows later (l ++ v)) (sym h) next
  frames_join (request ∷ front) later w v h next =
      let parts : w ++ v ≡ h.1 ++ (h.2 ++ v) = ap (λ (l : List ℕ). l ++ v) h.5 ∙ append_assoc h.1 h.2 v in
      (h.0, h.1, h.2 ++ v, h.3, h.4, parts, frames_join front later h.2 v h.6 next)

  -- one more request
  pub frames_more : (front : List A) (request : A) (frame : Frame) (text w : List ℕ) → FramesOf Allows front w → Allows request frame
      → spelling frame ≡ Some text → FramesOf Allows (front ++ request ∷ []) (w ++ text)
  unfolding FramesOf
  frames_more front request frame text w h allowed spelled =
      frames_join front (request ∷ []) w text h (frame, text, [], allowed, spelled, sym (append-nil text), refl)

  -- requests that allow a frame with a spelling each
  frames_some : (later : List A) → AllByRecursion (HasFrame Allows) later → (v : List ℕ) × FramesOf Allows later v
  unfolding FramesOf
  frames_some [] all = ([], refl)
  frames_some (request ∷ later) all =
      let text = some_there (spelling all.0.0) all.0.2 in
      let next = frames_some later all.1 in
      (text.0 ++ next.0, (all.0.0, text.0, next.0, all.0.1, text.1, refl, next.1))

  -- the front of a whole output
  pub frames_front : (front later : List A) (w : List ℕ) → FramesOf Allows front w → AllByRecursion (HasFrame Allows) later
      → (rest : List ℕ) × FramesOf Allows (front ++ later) (w ++ rest)
  frames_front front later w h all =
      let next = frames_some later all in
      (next.0, frames_join front later w next.0 h next.1)
