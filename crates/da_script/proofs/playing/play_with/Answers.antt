use Rattle.std.proofs.Common.{◌≡◌, ◌∙◌, ℕ, List, length, sym, ap, subst, arith}
use Rattle.da_wire.specs.declared.frames.RawFrame.{RawFrame}
use Rattle.da_wire.specs.Frames.{frames_of}
use Rattle.da_script.specs.Plays.{items_in}
use Rattle.da_script.specs.Scripts.{bad_script, moves_of}
use Rattle.da_script.specs.Parts.{AreFramesOf, payload_sizes, IsPlayed}
use Rattle.da_script.proofs.CountLemmas.{item_count}
use Rattle.da_script.proofs.OutcomeLemmas.{played_plays}
use Rattle.da_script.proofs.playing.play_with.Goals as goal

-- it isn't in its form
pub returns-in-Some : goal.returns-in-Some
returns-in-Some g c =
    let items = items_in (frames_of c.args.messages.now) in
    let long : c.len.result ≡ length c.in_ok-frames.frames.items = omega (arith, c.len.ensures) in
    let count = long ∙ item_count c.in_ok-frames.frames.items items c.in_ok-frames.ensures.items in
    ap (λ (n : ℕ). bad_script n c.args.script.now) (sym count) ∙ sym c.bad_script.ensures ∙ c.in-Some.is

-- it is
pub returns : goal.returns
returns g c =
    let items = items_in (frames_of c.args.messages.now) in
    let long : c.len.result ≡ length c.in_ok-frames.frames.items = omega (arith, c.len.ensures) in
    let count = long ∙ item_count c.in_ok-frames.frames.items items c.in_ok-frames.ensures.items in
    played_plays c.args.header (frames_of c.args.messages.now) c.args.script.now c.play_moves.result
    (ap (λ (n : ℕ). bad_script n c.args.script.now) (sym count) ∙ sym c.bad_script.ensures ∙ c.in_default.is)
    (subst (λ (sizes : List ℕ). IsPlayed c.args.header sizes items (moves_of (length items) c.args.script.now) c.args.script.now c.play_moves.result)
    (ap payload_sizes c.deref.ensures.value ∙ c.in_ok-frames.ensures.sizes)
    (c.play_moves.ensures items (subst (λ (l : List RawFrame). AreFramesOf l items) (sym c.deref.ensures.value) c.in_ok-frames.ensures.items)))
