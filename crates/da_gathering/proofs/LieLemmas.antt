-- The refusals that were said in a talk of a repair are as many as its lies.
use Rattle.std.proofs.Common.{◌≡◌, ◌∙◌, ℕ, ◌+◌, ◌<◌, ◌≤◌, Bool, true, false, cond, List, [], ◌∷◌, ◌++◌, length, length-append, append-nil, Some, None, refl, sym, ap, subst, arith, ltb-false}
use Rattle.std.specs.Prelude.{◌==◌, nat_lt}
use Rattle.std.specs.declared.option.Option.{Option}
use Rattle.std.specs.List.{AllByRecursion, filter}
use Rattle.std.proofs.lemmas.Grind.{flat_map-append}
use Rattle.std.proofs.lemmas.List.Elements.{filter-append}
use Rattle.std.proofs.lemmas.Option.{same_Some}
use Rattle.namespace_id.specs.Cells.{CellList}
use Rattle.data_header.specs.Headers.{Roots}
use Rattle.frame_payloads.specs.Payloads.{max_payload}
use Rattle.frame_payloads.specs.declared.refusals.Reason.{Reason}
use Rattle.frame_payloads.specs.kinds.Missing.{missing_payload}
use Rattle.frame_payloads.specs.kinds.Refusal.{refusal_payload}
use Rattle.da_wire.specs.declared.frames.Frame.TheVariants.{Missing}
use Rattle.da_wire.specs.Spelling.{frame, spelling, missing_kind, refusal_kind}
use Rattle.da_wire.specs.Reading.{Raw}
use Rattle.da_wire.specs.Frames.{frames_of, frames_bytes, IsRaw}
use Rattle.da_wire.specs.Laws.{FilesAreFrames}
use Rattle.da_status.specs.declared.status.Status.{Status}
use Rattle.da_judging.specs.Check.{finding_of, is_ok}
use Rattle.da_judging.specs.Repair.{lies_in}
use Rattle.da_talk.specs.Replies.{refusal}
use Rattle.da_talk.specs.Spoken.{AreReplies, begun, told}
use Rattle.da_talk.specs.Handed.{asks_state, fed}
use Rattle.da_gathering.specs.Gathered.{reason_for, refusal_for, IsReplyBy, gathering, refusals_in}
use Rattle.da_talk.proofs.FedLemmas.{fed_asked, fed_other}
use Rattle.da_gathering.proofs.FedLemmas.{lies_more}
use Rattle.da_gathering.proofs.GatherLemmas.{proved_by, lie_by}

-- ---- frames that were said

-- a frame by its kind and its payload
abbrev raw_with : ℕ → List ℕ → Raw
raw_with kind payload = record { kind = kind; payload = payload; size = 5 + length payload }

-- bytes are frames, of which so many are refusals
record AreSaid (said : List ℕ) (count : ℕ) : Type 0 where
  frames : List Raw
  are : AllByRecursion IsRaw frames
  bytes : frames_bytes frames ≡ said
  refusals : length (filter (λ (f : Raw). f.kind == refusal_kind) frames) ≡ count

-- no bytes are no frames
said_none : AreSaid [] 0
said_none = record { frames = []; are = tt; bytes = refl; refusals = refl }

-- one frame more of a list
are_more : (frames : List Raw) (f : Raw) → AllByRecursion IsRaw frames → IsRaw f → AllByRecursion IsRaw (frames ++ f ∷ [])
are_more [] f all is = (is, tt)
are_more (first ∷ frames) f all is = (all.0, are_more frames f all.1 is)

one_more : (is : Bool) (f : Raw) → length (cond is (f ∷ []) []) ≡ cond is 1 0
one_more true f = refl
one_more false f = refl

-- one frame more of bytes
said_on : (said : List ℕ) (count kind : ℕ) (payload : List ℕ) → AreSaid said count → kind < 256 → length payload ≤ max_payload
    → AreSaid (said ++ frame kind payload) (count + cond (kind == refusal_kind) 1 0)
said_on said count kind payload a byte few =
    let f : Raw = raw_with kind payload in
    let parts : filter (λ (x : Raw). x.kind == refusal_kind) (a.frames ++ f ∷ [])
    ≡ filter (λ (x : Raw). x.kind == refusal_kind) a.frames ++ cond (kind == refusal_kind) (f ∷ []) []
    = filter-append (λ (x : Raw). x.kind == refusal_kind) a.frames (f ∷ []) in
    record {
      frames = a.frames ++ f ∷ [];
      are = are_more a.frames f a.are (record { kind = byte; payload = few; size = refl });
      bytes = flat_map-append (λ (x : Raw). frame x.kind x.payload) a.frames (f ∷ []) ∙ ap (λ (l : List ℕ). l ++ (frame kind payload ++ [])) a.bytes
          ∙ ap (λ (l : List ℕ). said ++ l) (append-nil (frame kind payload));
      refusals = ap length parts ∙ length-append (filter (λ (x : Raw). x.kind == refusal_kind) a.frames) (cond (kind == refusal_kind) (f ∷ []) [])
          ∙ ap (λ (n : ℕ). n + length (cond (kind == refusal_kind) (f ∷ []) [])) a.refusals ∙ ap (λ (n : ℕ). count + n) (one_more (kind == refusal_kind) f);
    }

-- ---- replies

-- missing cells that are spelled are a frame
spelled_frame : (none long : Bool) (kind : ℕ) (payload text : List ℕ) → ◌≡◌ {A = Option (List ℕ)} (cond none None (cond long None (Some (frame kind payload)))) (Some text)
    → (long ≡ false) × (frame kind payload ≡ text)
spelled_frame true long kind payload text e = absurd cc
spelled_frame false true kind payload text e = absurd cc
spelled_frame false false kind payload text e = (refl, same_Some (frame kind payload) text e)

-- they are no refusal
said_missing : (said : List ℕ) (count : ℕ) (cells : CellList) (text : List ℕ) → AreSaid said count → spelling (Missing cells) ≡ Some text → AreSaid (said ++ text) count
said_missing said count cells text a e =
    let payload : List ℕ = missing_payload cells in
    let s = spelled_frame (length cells.list == 0) (nat_lt max_payload (length payload)) missing_kind payload text e in
    let on = said_on said count missing_kind payload a (omega arith) (ltb-false max_payload (length payload) s.0) in
    let same : count + 0 ≡ count = omega arith in
    subst (λ (n : ℕ). AreSaid (said ++ text) n) same (subst (λ (t : List ℕ). AreSaid (said ++ t) (count + 0)) s.1 on)

-- a refusal is one
said_refusal : (said : List ℕ) (count : ℕ) (reason : Reason) (number : ℕ) → AreSaid said count → AreSaid (said ++ refusal reason number) (count + 1)
said_refusal said count reason number a =
    said_on said count refusal_kind (refusal_payload (record { reason = reason; number = number })) a (omega arith) (omega arith)

-- the lies with a frame that doesn't ask
lies_on : (header : Roots) (frames : List Raw) (raw : Raw) (ok : Bool) → asks_state raw ≡ false → is_ok (finding_of header raw) ≡ ok
    → lies_in header (fed (frames ++ raw ∷ [])) ≡ lies_in header (fed frames) + cond ok 0 1
lies_on header frames raw ok other is =
    ap (lies_in header) (fed_other frames raw other) ∙ lies_more header (fed frames) raw
    ∙ ap (λ (b : Bool). lies_in header (fed frames) + cond b 0 1) is

-- the reply to a frame by why it is refused
said_by : (header : Roots) (frames : List Raw) (raw : Raw) (had text : List ℕ) (reason : Option Reason) → asks_state raw ≡ false
    → reason_for (finding_of header raw) ≡ reason → text ≡ refusal_for reason (length frames) → AreSaid had (lies_in header (fed frames))
    → AreSaid (had ++ text) (lies_in header (fed (frames ++ raw ∷ [])))
said_by header frames raw had text None other is made a =
    let lies : lies_in header (fed (frames ++ raw ∷ [])) ≡ lies_in header (fed frames) + 0 =
    lies_on header frames raw true other (proved_by (finding_of header raw) (sym is)) in
    let same : lies_in header (fed frames) ≡ lies_in header (fed (frames ++ raw ∷ [])) = omega (arith, lies) in
    let all : had ≡ had ++ text = sym (ap (λ (l : List ℕ). had ++ l) made ∙ append-nil had) in
    subst (λ (n : ℕ). AreSaid (had ++ text) n) same (subst (λ (l : List ℕ). AreSaid l (lies_in header (fed frames))) all a)
said_by header frames raw had text (Some reason) other is made a =
    let lies = lies_on header frames raw false other (lie_by (finding_of header raw) reason (sym is)) in
    subst (λ (n : ℕ). AreSaid (had ++ text) n) (sym lies)
    (subst (λ (l : List ℕ). AreSaid (had ++ l) (lies_in header (fed frames) + 1)) (sym made) (said_refusal had (lies_in header (fed frames)) reason (length frames) a))

-- the reply to a frame by whether it asks
said_reply : (header : Roots) (frames : List Raw) (raw : Raw) (had text : List ℕ) (asks : Bool) → asks_state raw ≡ asks → IsReplyBy asks header frames raw text
    → AreSaid had (lies_in header (fed frames)) → AreSaid (had ++ text) (lies_in header (fed (frames ++ raw ∷ [])))
said_reply header frames raw had text true is r a =
    subst (λ (l : List Raw). AreSaid (had ++ text) (lies_in header l)) (sym (fed_asked frames raw is)) (said_missing had (lies_in header (fed frames)) r.0 text a r.2)
said_reply header frames raw had text false is r a = said_by header frames raw had text (reason_for (finding_of header raw)) is refl r a

-- ---- talks

-- what was said to frames
all_said : (header : Roots) (kept : Option Status) (frames : List Raw) (said : List ℕ) → AreReplies (gathering header) kept frames said → AreSaid said (lies_in header (fed frames))
unfolding lies_in
all_said header kept frames said (begun text none) = subst (λ (l : List ℕ). AreSaid l 0) (sym none) said_none
all_said header kept frames said (told before raw had text p r) =
    said_reply header before raw had text (asks_state raw) refl r.0 (all_said header kept before had p)

-- so as many refusals as lies, by what is known of frames one after another
pub refuses_each_lie : FilesAreFrames → (header : Roots) (kept : Option Status) (frames : List Raw) (said : List ℕ) → AreReplies (gathering header) kept frames said
    → refusals_in said ≡ lies_in header (fed frames)
refuses_each_lie files header kept frames said t =
    let a = all_said header kept frames said t in
    let are : frames_of said ≡ a.frames = subst (λ (l : List ℕ). frames_of l ≡ a.frames) a.bytes (files a.frames a.are).1 in
    ap (λ (l : List Raw). length (filter (λ (f : Raw). f.kind == refusal_kind) l)) are ∙ a.refusals
