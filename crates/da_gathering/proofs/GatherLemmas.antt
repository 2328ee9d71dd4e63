-- A repair that was fed with one frame more, and what is due to the frame.
use Rattle.std.proofs.Common.{◌≡◌, ◌∙◌, ℕ, ◌+◌, ◌<◌, ◌^◌, Bool, true, false, cond, List, [], ◌∷◌, ◌++◌, length, Some, None, refl, sym, ap, subst, arith}
use Rattle.std.specs.declared.option.Option.{Option}
use Rattle.std.proofs.lemmas.Option.{same_Some}
use Rattle.namespace_id.specs.Cells.{CellList, is_width}
use Rattle.data_header.specs.Headers.{Roots}
use Rattle.axis_roots.specs.declared.message.messages.Message.{Message}
use Rattle.axis_roots.specs.declared.message.messages.CheckRefusal.TheVariants.{OutOfSquare, NodeCount, Unordered, OtherRoot}
use Rattle.repair_queue.specs.declared.sessions.SessionState.TheVariants as state
use Rattle.repair_queue.specs.Settled.{IsSettled}
use Rattle.repair_queue.specs.SessionParts.{SessionParts, SessionStands}
use Rattle.repair_queue.specs.Sessions.{session_state}
use Rattle.repair_queue.specs.Verdicts.{missing, IsVerdict}
use Rattle.frame_payloads.specs.declared.refusals.Reason.{Reason}
use Rattle.da_wire.specs.declared.frames.Frame.TheVariants as kinds
use Rattle.da_wire.specs.Spelling.{spelling}
use Rattle.da_wire.specs.Reading.{Raw}
use Rattle.da_wire.specs.Frames.{raw_message}
use Rattle.da_judging.specs.declared.check.Finding.{Finding}
use Rattle.da_judging.specs.declared.check.Finding.TheVariants as found
use Rattle.da_judging.specs.Check.{finding_of, is_ok}
use Rattle.da_judging.specs.Repair.{messages_in, lies_in}
use Rattle.da_gathering.specs.Gatherings.{Gathering, IsSessionOver}
use Rattle.da_gathering.specs.Fed.{finding_by, samples_there}
use Rattle.da_talk.specs.Handed.{asks_state, fed}
use Rattle.da_gathering.specs.Gathered.{HasGathered, reason_for, refusal_for, AreMissing, IsReplyBy, RepliesOn}
use Rattle.da_talk.proofs.FedLemmas.{fed_asked, fed_other, fed_few}
use Rattle.da_gathering.proofs.FedLemmas.{messages_more, lies_more, lies_few}
use Rattle.da_gathering.proofs.SessionLemmas.{Knows, some_missing}

-- ---- why a frame is refused

-- a frame without a reason is proved
pub proved_by : (f : Finding) → None ≡ reason_for f → is_ok f ≡ true
proved_by found.Proved e = refl
proved_by found.NoMessage e = absurd cc
proved_by (found.Refused OutOfSquare) e = absurd cc
proved_by (found.Refused NodeCount) e = absurd cc
proved_by (found.Refused Unordered) e = absurd cc
proved_by (found.Refused OtherRoot) e = absurd cc

-- one with a reason is a lie
pub lie_by : (f : Finding) (reason : Reason) → Some reason ≡ reason_for f → is_ok f ≡ false
lie_by found.Proved reason e = absurd cc
lie_by found.NoMessage reason e = refl
lie_by (found.Refused why) reason e = refl

-- ---- a session

-- the session of a repair is the one that it has
session_is : (header : Roots) (frames : List Raw) (g : Gathering) (h : HasGathered header frames g) (s : SessionParts) → g.session ≡ Some s → h.session ≡ s
session_is header frames g h s is = same_Some h.session s (sym h.is ∙ is)

-- so it stands for the samples of the frames
pub session_stands : (header : Roots) (frames : List Raw) (g : Gathering) → HasGathered header frames g → (s : SessionParts) → g.session ≡ Some s
    → SessionStands s (messages_in (fed frames))
session_stands header frames g h s is = subst (λ (t : SessionParts). SessionStands t (messages_in (fed frames))) (session_is header frames g h s is) h.stands

-- while it isn't over, cells are missing
pub still_missing : Knows → ((s : SessionParts) (ms : List Message) → session_state s ≡ state.Open → SessionStands s ms → IsSettled s.header ms)
    → (header : Roots) (frames : List Raw) (g : Gathering) → HasGathered header frames g → (s : SessionParts) → g.session ≡ Some s → IsSessionOver false s
    → is_width g.header.k ≡ true → (cells : CellList) × AreMissing header frames cells
still_missing knows settled header frames g h s is goes width =
    let same = session_is header frames g h s is in
    let under : s.header ≡ header = ap (λ (t : SessionParts). t.header) (sym same) ∙ h.under in
    let wide : is_width s.header.k ≡ true = subst (λ (r : Roots). is_width r.k ≡ true) (h.header_is ∙ sym under) width in
    let some = some_missing knows settled s (messages_in (fed frames)) goes (session_stands header frames g h s is) wide in
    (some.0, subst (λ (r : Roots). IsVerdict r (messages_in (fed frames)) (missing some.0)) under some.1)

-- ---- one frame more

-- one that asks changes nothing
pub gathered_asked : (header : Roots) (frames : List Raw) (raw : Raw) (g new : Gathering) → HasGathered header frames g → asks_state raw ≡ true
    → new.header ≡ g.header → new.session ≡ g.session → new.lies ≡ g.lies → HasGathered header (frames ++ raw ∷ []) new
gathered_asked header frames raw g new h asks same_header same_session same_lies = record {
  header_is = same_header ∙ h.header_is;
  session = h.session;
  is = same_session ∙ h.is;
  under = h.under;
  stands = subst (λ (l : List Raw). SessionStands h.session (messages_in l)) (sym (fed_asked frames raw asks)) h.stands;
  lies = same_lies ∙ h.lies ∙ sym (ap (lies_in header) (fed_asked frames raw asks));
}

-- and is told what is missing
pub told_asked : (header : Roots) (frames : List Raw) (raw : Raw) (g : Gathering) → HasGathered header frames g → (s : SessionParts) → g.session ≡ Some s
    → asks_state raw ≡ true → (own : Roots) → own ≡ g.header → (text : List ℕ)
    → ((ms : List Message) → SessionStands s ms → (cells : CellList) × IsVerdict own ms (missing cells) × (spelling (kinds.Missing cells) ≡ Some text))
    → RepliesOn header frames raw text
told_asked header frames raw g h s is asks own same text tells =
    let ms : List Message = messages_in (fed frames) in
    let told = tells ms (session_stands header frames g h s is) in
    let here : AreMissing header frames told.0 = subst (λ (r : Roots). IsVerdict r ms (missing told.0)) (same ∙ h.header_is) told.1 in (
      subst (λ (b : Bool). IsReplyBy b header frames raw text) (sym asks) (told.0, here, told.2),
      told.0,
      subst (λ (l : List Raw). IsVerdict header (messages_in l) (missing told.0)) (sym (fed_asked frames raw asks)) here,
    )

-- another one is fed, and counted where it is a lie
pub gathered_fed : (header : Roots) (frames : List Raw) (raw : Raw) (g new : Gathering) → HasGathered header frames g → (s t : SessionParts) → g.session ≡ Some s
    → asks_state raw ≡ false → new.header ≡ g.header → new.session ≡ Some t → t.header ≡ g.header → (sample : Option Message) → sample ≡ raw_message raw
    → ((ms : List Message) → SessionStands s ms → SessionStands t (ms ++ samples_there sample))
    → new.lies ≡ g.lies + cond (is_ok (finding_of header raw)) 0 1 → HasGathered header (frames ++ raw ∷ []) new
gathered_fed header frames raw g new h s t is other same_header now under sample read stands lies =
    let ms : List Message = messages_in (fed frames) in
    let all : ms ++ samples_there sample ≡ messages_in (fed (frames ++ raw ∷ [])) =
    ap (λ (o : Option Message). ms ++ samples_there o) read ∙ sym (messages_more (fed frames) raw) ∙ sym (ap (λ (l : List Raw). messages_in l) (fed_other frames raw other)) in
    let count : lies_in header (fed (frames ++ raw ∷ [])) ≡ lies_in header (fed frames) + cond (is_ok (finding_of header raw)) 0 1 =
    ap (lies_in header) (fed_other frames raw other) ∙ lies_more header (fed frames) raw in record {
      header_is = same_header ∙ h.header_is;
      session = t;
      is = now;
      under = under ∙ h.header_is;
      stands = subst (λ (l : List Message). SessionStands t l) all (stands ms (session_stands header frames g h s is));
      lies = lies ∙ ap (λ (n : ℕ). n + cond (is_ok (finding_of header raw)) 0 1) h.lies ∙ sym count;
    }

-- what was found of it, by its sample and the header that a repair has
finding_is : (header : Roots) (raw : Raw) (own : Roots) (sample : Option Message) → own ≡ header → sample ≡ raw_message raw
    → reason_for (finding_by own sample) ≡ reason_for (finding_of header raw)
finding_is header raw own sample same read =
    ap (λ (r : Roots). reason_for (finding_by r sample)) same ∙ ap (λ (o : Option Message). reason_for (finding_by header o)) read

-- where it was proved there are no more lies
pub proved_lies : (header : Roots) (raw : Raw) (own : Roots) (sample : Option Message) (n : ℕ) → own ≡ header → sample ≡ raw_message raw
    → None ≡ reason_for (finding_by own sample) → n ≡ n + cond (is_ok (finding_of header raw)) 0 1
proved_lies header raw own sample n same read none =
    let ok = proved_by (finding_of header raw) (none ∙ finding_is header raw own sample same read) in
    let zero : ◌≡◌ {A = ℕ} (cond (is_ok (finding_of header raw)) 0 1) 0 = ap (λ (b : Bool). cond {A = ℕ} b 0 1) ok in omega (arith, zero)

-- and else one more, as their count can tell
pub counted_lies : (header : Roots) (frames : List Raw) (raw : Raw) (g : Gathering) → HasGathered header frames g → (own : Roots) (sample : Option Message) (reason : Reason)
    (number lies counted : ℕ) → own ≡ header → sample ≡ raw_message raw → Some reason ≡ reason_for (finding_by own sample) → length frames ≡ number → number + 1 < 2 ^ 64
    → lies ≡ g.lies → (lies + 1 < 2 ^ 64 → counted ≡ lies + 1) → counted ≡ g.lies + cond (is_ok (finding_of header raw)) 0 1
counted_lies header frames raw g h own sample reason number lies counted same read some count few is counts =
    let no = lie_by (finding_of header raw) reason (some ∙ finding_is header raw own sample same read) in
    let one : ◌≡◌ {A = ℕ} (cond (is_ok (finding_of header raw)) 0 1) 1 = ap (λ (b : Bool). cond {A = ℕ} b 0 1) no in
    let on : counted ≡ lies + 1 = counts (omega (arith, is, h.lies, lies_few header (fed frames), fed_few frames, count, few)) in
    omega (arith, on, one, is)

-- the refusal of a lie is due, nothing of a proved sample
pub refused_due : (header : Roots) (frames : List Raw) (raw : Raw) (own : Roots) (sample : Option Message) (reason : Option Reason) (number : ℕ) (text : List ℕ)
    → asks_state raw ≡ false → own ≡ header → sample ≡ raw_message raw → reason ≡ reason_for (finding_by own sample) → length frames ≡ number
    → text ≡ refusal_for reason number → IsReplyBy (asks_state raw) header frames raw text
refused_due header frames raw own sample reason number text other same read is count made =
    subst (λ (b : Bool). IsReplyBy b header frames raw text) (sym other)
    (made ∙ ap (λ (o : Option Reason). refusal_for o number) (is ∙ finding_is header raw own sample same read)
    ∙ ap (λ (n : ℕ). refusal_for (reason_for (finding_of header raw)) n) (sym count))
