-- What the command check answers.
use Rattle.std.proofs.Common.{◌≡◌, ◌∙◌, ℕ, Bool, true, false, ◌&&◌, cond, List, ◌∷◌, ◌++◌, Some, None, refl, sym, ap}
use Rattle.std.specs.Prelude.{◌↔◌, ◌==◌}
use Rattle.std.specs.Option.{option_map_or}
use Rattle.std.proofs.Math.Bool.{and_assoc}
use Rattle.namespace_id.specs.Bytes.{AreBytes}
use Rattle.axis_roots.specs.declared.message.messages.Message as sent
use Rattle.axis_roots.specs.declared.message.messages.CheckRefusal.{CheckRefusal}
use Rattle.axis_roots.specs.Messages.{message_refusal, IsMessage}
use Rattle.square_layout.specs.Blocks.{SquareShares}
use Rattle.axis_roots.specs.Grids.{IsHeaderOf}
use Rattle.axis_roots.specs.Own.{IsOwn}
use Rattle.axis_roots.specs.Openings.{IsProved}
use Rattle.da_wire.specs.Spelling.{message_kind}
use Rattle.da_wire.specs.Reading.{Raw}
use Rattle.frame_fields.specs.Messages.{message_at}
use Rattle.da_wire.specs.Laws.{MessageIsSpelled}
use Rattle.std.specs.declared.option.Option.{Option}
use Rattle.data_header.specs.Headers.{Roots, AreRoots}
use Rattle.da_wire.specs.Frames.{frames_of, raw_message}
use Rattle.da_status.specs.declared.status.Status.{Status}
use Rattle.da_judging.specs.declared.check.Finding.{Finding}
use Rattle.da_judging.specs.declared.check.Finding.TheVariants.{Proved, NoMessage, Refused}
use Rattle.da_status.specs.Statuses.{status_kind, output}
use Rattle.da_files.specs.Frames.{header_in}
use Rattle.da_judging.specs.Check.{IsProvedFrame, IsOwnFrame, finding_of, line_of, is_ok, check_lines, are_ok, status_of_lines, Lists, CheckOf}
use Rattle.da_files.specs.Contents.{header_file, messages_file}
use Rattle.da_files.proofs.FormLemmas.{over_each}

-- the next frame's line comes next
pub next_line : (h : Roots) (rest after line : List ℕ) (frame : Raw) (finding : Finding) → frames_of rest ≡ frame ∷ frames_of after
    → finding ≡ finding_of h frame → line ≡ line_of finding → check_lines h (frames_of rest) ≡ line ++ check_lines h (frames_of after)
next_line h rest after line frame finding frames found shown =
    ap (check_lines h) frames ∙ ap (λ (l : List ℕ). l ++ check_lines h (frames_of after)) (sym (shown ∙ ap line_of found))

-- whether all are proved, with the next frame
pub next_ok : (h : Roots) (rest after : List ℕ) (frame : Raw) (finding : Finding) (so_far ok : Bool) → frames_of rest ≡ frame ∷ frames_of after
    → finding ≡ finding_of h frame → ok ≡ is_ok finding
    → (so_far && are_ok h (frames_of rest)) ≡ ((so_far && ok) && are_ok h (frames_of after))
next_ok h rest after frame finding so_far ok frames found tested =
    let here : are_ok h (frames_of rest) ≡ (ok && are_ok h (frames_of after)) =
    ap (are_ok h) frames ∙ ap (λ (b : Bool). b && are_ok h (frames_of after)) (sym (tested ∙ ap is_ok found)) in
    ap (λ (b : Bool). so_far && b) here ∙ sym (and_assoc so_far ok (are_ok h (frames_of after)))

-- an answer comes with its output
status-kind : (all_ok : Bool) → status_kind (status_of_lines all_ok) ≡ output
status-kind true = refl
status-kind false = refl

-- lines come with the status of a complete output
pub lists_last : (h : Roots) (frames : List Raw) (w : List ℕ) (status : Status) → Lists h frames w status → status_kind status ≡ output
lists_last h frames w status l = ap status_kind l.1 ∙ status-kind _

-- what check answers comes with a complete output
pub check_last : (files : List (List ℕ)) (w : List ℕ) (status : Status) → CheckOf files w status → status_kind status ≡ output
check_last files w status l =
    let frames = frames_of (messages_file files) in
    over_each (λ h. Lists h frames) (header_in (header_file files)) w status (status_kind status ≡ output) (λ h. lists_last h frames w status) l

-- ---- `ok`

-- what is found of a frame, by the sample that it is
abbrev finding_by : Roots → Option sent.Message → Finding
finding_by h o = option_map_or (λ m. option_map_or Refused (message_refusal h m) Proved) o NoMessage

-- a sample that is found proved has no refusal
none_refused : (o : Option CheckRefusal) → option_map_or Refused o Proved ≡ Proved → o ≡ None
none_refused None e = refl
none_refused (Some why) e = absurd cc

-- a frame that is found proved is a sample without a refusal
by_message : (h : Roots) (o : Option sent.Message) → finding_by h o ≡ Proved → (m : sent.Message) × (o ≡ Some m) × (message_refusal h m ≡ None)
by_message h None e = absurd cc
by_message h (Some m) e = (m, refl, none_refused (message_refusal h m) e)

-- a value that is there where a test holds is there
pub in_grammar : (b : Bool) (o : Option sent.Message) (m : sent.Message) → cond b o None ≡ Some m → o ≡ Some m
in_grammar true o m e = e
in_grammar false o m e = absurd cc

-- a frame is found proved exactly where it is a sample that is proved; by what is known of samples that
-- were read, and of their refusals
pub finding_proved : (header : Roots) (frame : Raw) → MessageIsSpelled
    → ((h : Roots) (m : sent.Message) → AreRoots h → IsMessage m → (message_refusal h m ≡ None) ↔ IsProved h m)
    → AreRoots header → AreBytes frame.payload → (finding_of header frame ≡ Proved) ↔ IsProvedFrame header frame
finding_proved header frame spelled refusal roots bytes =
    let sized : (m : sent.Message) → raw_message frame ≡ Some m → IsMessage m
    = λ m e. (spelled frame.payload m bytes (in_grammar (frame.kind == message_kind) (message_at frame.payload) m e)).0 in (
      λ e. let r = by_message header (raw_message frame) e in (r.0, r.1, (refusal header r.0 roots (sized r.0 r.1)).0 r.2),
      λ p. ap (finding_by header) p.1 ∙ ap (λ (o : Option CheckRefusal). option_map_or Refused o Proved) ((refusal header p.0 roots (sized p.0 p.1)).1 p.2),
    )

-- a sample that is proved under the header of a square shows the square's own share, or they name a collision
pub finding_own : (header : Roots) (frame : Raw) (square : SquareShares) → IsProvedFrame header frame
    → ((h : Roots) (m : sent.Message) → IsProved h m → IsOwn h m) → IsHeaderOf header square → IsOwnFrame frame square
finding_own header frame square proved law own = (proved.0, proved.1, law header proved.0 proved.2 square own)
