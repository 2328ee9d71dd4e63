-- The frames that pushes answer are those of the bytes that they took.
use Rattle.std.proofs.Common.{◌≡◌, ◌∙◌, ℕ, List, [], ◌∷◌, ◌++◌, map, take, Option, sym, ap, append_assoc, append-nil}
use Rattle.std.proofs.lemmas.List.{map-append}
use Rattle.axis_roots.specs.declared.message.messages.Message.{Message}
use Rattle.da_wire.specs.declared.streams.Pushed.{Pushed}
use Rattle.da_wire.specs.declared.streams.Pushed.TheVariants as pushed
use Rattle.da_wire.specs.Reading.{Raw}
use Rattle.da_wire.specs.Walks.{walk_from}
use Rattle.da_wire.specs.Frames.{raw_in, frames_of, raw_message}
use Rattle.da_wire.specs.Streams.{EndsFrame, Push, ArePushes, taken_by, answered, messages_in, EveryCutting, FramesStay}
use Rattle.da_wire.proofs.StreamWalks.{grown}
use Rattle.da_wire.proofs.StreamLemmas.{steady}

-- the samples of frames
abbrev messages : List Raw → List (Option Message)
messages frames = map raw_message frames

-- one answer adds its frame
one_answer : (before after : List Raw) (answer : Pushed) → EndsFrame before after answer → messages after ≡ messages before ++ messages_in answer
one_answer before after pushed.More e = ap messages e ∙ sym (append-nil (messages before))
one_answer before after (pushed.Frame m) e =
    ap messages e.1 ∙ map-append raw_message before (e.0 ∷ []) ∙ ap (λ (n : Option Message). messages before ++ n ∷ []) (sym e.2)
one_answer before after (pushed.Bad at) e = ap messages e ∙ sym (append-nil (messages before))

-- pushes add their frames to those before
pub later_answers : (before : List ℕ) (pushes : List Push) → ArePushes before pushes
    → messages (frames_of (before ++ taken_by pushes)) ≡ messages (frames_of before) ++ answered pushes
later_answers before [] all = ap (λ (l : List ℕ). messages (frames_of l)) (append-nil before) ∙ sym (append-nil (messages (frames_of before)))
later_answers before (push ∷ later) all =
    let some : List ℕ = take push.count push.piece in
    ap (λ (l : List ℕ). messages (frames_of l)) (sym (append_assoc before some (taken_by later)))
    ∙ later_answers (before ++ some) later all.1
    ∙ ap (λ (l : List (Option Message)). l ++ answered later) (one_answer (frames_of before) (frames_of (before ++ some)) push.answer all.0.frames)
    ∙ append_assoc (messages (frames_of before)) (messages_in push.answer) (answered later)

-- the law of streams
pub every_cutting : EveryCutting
unfolding walk_from
every_cutting pushes all = sym (later_answers [] pushes all)

-- the frames of bytes stay
pub frames_stay : FramesStay
frames_stay bytes more = let on = grown raw_in steady 0 bytes more in (on.later, on.found)
