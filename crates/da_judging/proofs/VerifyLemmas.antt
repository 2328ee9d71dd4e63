-- What the command verify answers.
use Rattle.std.proofs.Common.{◌≡◌, ◌∙◌, ℕ, List, [], ◌∷◌, Some, None, refl, ap, subst, ◌⊎◌, ◌*◌, Bool, true, false, inl, inr}
use Rattle.std.specs.Prelude.{◌↔◌}
use Rattle.std.specs.declared.option.Option.{Option}
use Rattle.std.specs.Option.{option_map}
use Rattle.std.specs.List.{AllByRecursion}
use Rattle.data_header.specs.Headers.{Roots, AreRoots}
use Rattle.square_layout.specs.Blocks.{SquareShares}
use Rattle.axis_roots.specs.declared.message.messages.Message as sent
use Rattle.axis_roots.specs.Messages.{message_refusal, IsMessage}
use Rattle.axis_roots.specs.Openings.{IsProved}
use Rattle.axis_roots.specs.Grids.{IsHeaderOf, share_at}
use Rattle.axis_roots.specs.Own.{IsOwn}
use Rattle.axis_roots.proofs.Grids.HeaderLemmas.{header_roots}
use Rattle.axis_roots.specs.Claims.{ClaimParts, Accepts, IsFalseClaim}
use Rattle.axis_roots.specs.declared.answers.NsEntry.{NsEntry}
use Rattle.axis_roots.specs.Answers.{AreEntries}
use Rattle.namespace_id.specs.declared.namespaces.Namespace as names
use Rattle.namespace_id.specs.Names.{IsNamespace}
use Rattle.square_serve.specs.Answers.{answer_refusal, IsComplete}
use Rattle.square_serve.specs.Own.{IsOwnAnswer, ShowsAll, AnswerNames}
use Rattle.befp_verify.specs.Refusals.{HasFraudCause}
use Rattle.data_header.specs.DataRoots.{data_root_of}
use Rattle.blob_commit.specs.Proofs.{RowParts, CommitParts, RootedParts, IsRow, IsCommit, IsRooted, CommitHolds, RootedHolds}
use Rattle.blob_commit.specs.Refusals.{commit_refusal, rooted_refusal}
use Rattle.blob_commit.specs.Places.{IsOwnCommit, IsOwnRooted}
use Rattle.da_wire.specs.Spelling.{IsFrame}
use Rattle.frame_payloads.specs.kinds.Commit.{IsRowSent, IsCommitSent}
use Rattle.da_status.specs.declared.status.Status.{Status}
use Rattle.da_status.specs.Statuses.{status_kind, output}
use Rattle.da_judging.specs.declared.answers.Answer.{Answer}
use Rattle.da_judging.specs.declared.answers.Answer.TheVariants.{Message, Names, Fraud, Commit, Rooted}
use Rattle.da_judging.specs.Answers.{answer_frame, IsAnswerTo}
use Rattle.da_files.specs.Frames.{header_in}
use Rattle.da_files.specs.Forms.{Over}
use Rattle.da_judging.specs.Verify.{answer_file, check_number, ns_number, fraud_number, commit_number, rooted_number, IsAnswerRefusal, verdict_status, answer_in, IsOwnReply, Verifies, VerifyOf}
use Rattle.da_files.specs.Contents.{header_file}
use Rattle.da_status.specs.Outcome.{Relation}
use Rattle.da_files.proofs.FormLemmas.{over_each}
use Rattle.axis_roots.specs.declared.message.messages.CheckRefusal.{CheckRefusal}
use Rattle.axis_roots.specs.declared.message.messages.CheckRefusal.TheVariants.{OutOfSquare, NodeCount, Unordered, OtherRoot}
use Rattle.square_serve.specs.declared.checking.NsRefusal.{NsRefusal}
use Rattle.square_serve.specs.declared.checking.NsRefusal.TheVariants as ns
use Rattle.befp_verify.specs.declared.verifying.FraudRefusal.{FraudRefusal}
use Rattle.befp_verify.specs.declared.verifying.FraudRefusal.TheVariants as fraud
use Rattle.blob_commit.specs.declared.proving.CommitRefusal.{CommitRefusal}
use Rattle.blob_commit.specs.declared.proving.CommitRefusal.TheVariants as commit
use Rattle.blob_commit.specs.declared.rooting.RootedRefusal.{RootedRefusal}
use Rattle.blob_commit.specs.declared.rooting.RootedRefusal.TheVariants as rooted
use Rattle.da_judging.specs.declared.answers.Request.{Request}
use Rattle.da_judging.specs.declared.answers.Request.TheVariants as asked
use Rattle.da_judging.specs.VerifyFor.{request_file, request_in, IsRefusalFor, ShowsAsked, VerifiesFor, VerifyForOf}
use Rattle.std.proofs.lemmas.Slice.Eq.{bytes_eq-Decides}
use Rattle.da_judging.specs.VerifyCommitment.{states_commitment, StatesCommitment, VerifiesCommitment, VerifyCommitmentOf}

-- a verdict comes with its output
pub verdict_kind : (refusal : Option ℕ) → status_kind (verdict_status refusal) ≡ output
verdict_kind None = refl
verdict_kind (Some number) = refl

-- what is answered to a HEADER and an ANSWER comes with a complete output where what is answered to each of them does
last_over : (Means : Roots → Answer → Relation) (files : List (List ℕ)) (w : List ℕ) (status : Status)
    → ((header : Roots) (answer : Answer) → Means header answer w status → status_kind status ≡ output)
    → Over (header_in (header_file files)) (λ header. Over (answer_in (answer_file files)) (Means header)) w status → status_kind status ≡ output
last_over Means files w status each h =
    over_each (λ header. Over (answer_in (answer_file files)) (Means header)) (header_in (header_file files)) w status (status_kind status ≡ output)
    (λ header. over_each (Means header) (answer_in (answer_file files)) w status (status_kind status ≡ output) (each header)) h

-- as what verify answers does
pub verify_last : (files : List (List ℕ)) (w : List ℕ) (status : Status) → VerifyOf files w status → status_kind status ≡ output
verify_last files w status h = last_over Verifies files w status (λ header answer verdict. ap status_kind verdict.3 ∙ verdict_kind verdict.0) h

-- with a REQUEST, too
pub verify_for_last : (files : List (List ℕ)) (w : List ℕ) (status : Status) → VerifyForOf files w status → status_kind status ≡ output
verify_for_last files w status h =
    let asked = request_in (request_file files) in
    last_over (λ header answer. Over asked (VerifiesFor header answer)) files w status
    (λ header answer. over_each (VerifiesFor header answer) asked w status (status_kind status ≡ output)
    (λ request verdict. ap status_kind verdict.3 ∙ verdict_kind verdict.0)) h

-- and with a COMMITMENT
pub verify_commitment_last : (commitment : List ℕ) (files : List (List ℕ)) (w : List ℕ) (status : Status) → VerifyCommitmentOf commitment files w status
    → status_kind status ≡ output
verify_commitment_last commitment files w status h =
    last_over (VerifiesCommitment commitment) files w status (λ header answer verdict. ap status_kind verdict.3 ∙ verdict_kind verdict.0) h

-- ---- answers that aren't refused

-- the number of a refusal is none exactly where there is no refusal
none_numbered : {E : Type 0} (number : E → ℕ) (why : Option E) → (None ≡ option_map number why) ↔ (why ≡ None)
none_numbered number None = (λ e. refl, λ e. refl)
none_numbered number (Some why) = (λ e. absurd cc, λ e. absurd cc)

-- there is no number of a refusal exactly where a fact holds, by what is known of the refusal
pub none_where : {E : Type 0} (number : E → ℕ) (why : Option E) (Fact : Type 0) → (why ≡ None) ↔ Fact → (None ≡ option_map number why) ↔ Fact
none_where number why Fact refusal =
    let numbered = none_numbered number why in (λ e. refusal.0 (numbered.0 e), λ h. numbered.1 (refusal.1 h))

-- a fraud claim isn't refused exactly where it is accepted
pub verified_accepted : (header : Roots) (claim : ClaimParts) → IsAnswerRefusal header (Fraud claim) None ↔ Accepts header claim
verified_accepted header claim = (
  λ refused. subst (HasFraudCause header claim) ((none_numbered fraud_number refused.0).0 refused.2) refused.1,
  λ accepted. (None, accepted, refl),
)

-- the rows of a commitment proof that was sent have their lengths
rows_sized : (rows : List RowParts) → AllByRecursion IsRowSent rows → AllByRecursion IsRow rows
rows_sized [] is = tt
rows_sized (row ∷ rows) is = (is.0.is, rows_sized rows is.1)

-- so has the proof
commit_sized : (proof : CommitParts) → IsCommitSent proof → IsCommit proof
commit_sized proof is = record { commitment = is.commitment; rows = rows_sized proof.rows is.rows }

-- an answer that isn't refused under the header of a square is the square's own, or names a collision, by what is known
-- of samples, of namespace answers, of fraud claims, of commitment proofs and of root proofs
pub verified_own : ((h : Roots) (m : sent.Message) → AreRoots h → IsMessage m → (message_refusal h m ≡ None) ↔ IsProved h m)
    → ((h : Roots) (m : sent.Message) → IsProved h m → IsOwn h m)
    → ((h : Roots) (name : names.Namespace) (a : List NsEntry) → (answer_refusal h name a ≡ None) ↔ IsComplete h name a)
    → ((h : Roots) (name : names.Namespace) (a : List NsEntry) → IsNamespace name → AreEntries a → IsComplete h name a → IsOwnAnswer h name a)
    → ((h : Roots) (claim : ClaimParts) → Accepts h claim → IsFalseClaim h claim)
    → ((root : List ℕ) (proof : CommitParts) → (commit_refusal root proof ≡ None) ↔ CommitHolds root proof)
    → ((h : Roots) (proof : CommitParts) → IsCommit proof → CommitHolds (data_root_of h) proof → IsOwnCommit h proof)
    → ((root : List ℕ) (proof : RootedParts) → IsMessage proof.message → (rooted_refusal root proof ≡ None) ↔ RootedHolds root proof)
    → ((h : Roots) (proof : RootedParts) → IsRooted proof → RootedHolds (data_root_of h) proof → IsOwnRooted h proof)
    → (header : Roots) (answer : Answer) (square : SquareShares) → IsFrame (answer_frame answer) → IsHeaderOf header square → IsAnswerRefusal header answer None
    → IsOwnReply answer square
verified_own refusal own refusals owns accused commits committed rooted shows header (Message m) square is of none =
    own header m ((none_where check_number (message_refusal header m) (IsProved header m) (refusal header m (header_roots square header of) is)).0 none) square of
verified_own refusal own refusals owns accused commits committed rooted shows header (Names name answer) square is of none =
    owns header name answer is.0 is.1 ((none_where ns_number (answer_refusal header name answer) (IsComplete header name answer) (refusals header name answer)).0 none) square of
verified_own refusal own refusals owns accused commits committed rooted shows header (Fraud claim) square is of none =
    accused header claim ((verified_accepted header claim).0 none) square of
verified_own refusal own refusals owns accused commits committed rooted shows header (Commit proof) square is of none =
    committed header proof (commit_sized proof is) ((none_where commit_number (commit_refusal (data_root_of header) proof) (CommitHolds (data_root_of header) proof) (commits (data_root_of header) proof)).0 none) square of
verified_own refusal own refusals owns accused commits committed rooted shows header (Rooted proof) square is of none =
    shows header proof is.is ((none_where rooted_number (rooted_refusal (data_root_of header) proof) (RootedHolds (data_root_of header) proof) (rooted (data_root_of header) proof is.is.message)).0 none) square of

-- ---- answers that aren't refused, and those that aren't what is asked for

-- an answer isn't refused exactly where it isn't without a test, and what the test says holds of it
pub holds_by : (b : Bool) (Fact : Type 0) (header : Roots) (answer : Answer) → (b ≡ true) ↔ Fact
    → IsRefusalFor b header answer None ↔ (IsAnswerRefusal header answer None × Fact)
holds_by true Fact header answer test = (λ h. (h, test.0 refl), λ h. h.0)
holds_by false Fact header answer test = (λ h. absurd cc, λ h. let e = test.1 h.1 in absurd cc)

-- no check of a sample has the number 0
check_some : (why : Option CheckRefusal) → Some 0 ≡ option_map check_number why → ⊥
check_some None e = cc
check_some (Some OutOfSquare) e = cc
check_some (Some NodeCount) e = cc
check_some (Some Unordered) e = cc
check_some (Some OtherRoot) e = cc

-- nor one of a namespace answer
ns_some : (why : Option NsRefusal) → Some 0 ≡ option_map ns_number why → ⊥
ns_some None e = cc
ns_some (Some ns.Parity) e = cc
ns_some (Some (ns.Rows i)) e = cc
ns_some (Some (ns.Proof i why)) e = cc

-- nor one of a fraud claim
fraud_some : (why : Option FraudRefusal) → Some 0 ≡ option_map fraud_number why → ⊥
fraud_some None e = cc
fraud_some (Some fraud.Shape) e = cc
fraud_some (Some (fraud.Cell i why)) e = cc
fraud_some (Some (fraud.Set why)) e = cc
fraud_some (Some fraud.AxisMatches) e = cc

-- nor one of a commitment proof
commit_some : (why : Option CommitRefusal) → Some 0 ≡ option_map commit_number why → ⊥
commit_some None e = cc
commit_some (Some commit.Shape) e = cc
commit_some (Some (commit.Root i)) e = cc
commit_some (Some (commit.Nodes i why)) e = cc
commit_some (Some commit.Commitment) e = cc

-- nor one of a root proof
rooted_some : (why : Option RootedRefusal) → Some 0 ≡ option_map rooted_number why → ⊥
rooted_some None e = cc
rooted_some (Some rooted.Shape) e = cc
rooted_some (Some rooted.Root) e = cc
rooted_some (Some (rooted.Path why)) e = cc

-- no answer is refused by the number 0
never_zero : (header : Roots) (answer : Answer) → IsAnswerRefusal header answer (Some 0) → ⊥
never_zero header (Message m) h = check_some (message_refusal header m) h
never_zero header (Names name answer) h = ns_some (answer_refusal header name answer) h
never_zero header (Fraud claim) h = fraud_some h.0 h.2
never_zero header (Commit proof) h = commit_some (commit_refusal (data_root_of header) proof) h
never_zero header (Rooted proof) h = rooted_some (rooted_refusal (data_root_of header) proof) h

-- an answer is refused by the number 0 exactly where it fails the test
pub zero_by : (b : Bool) (header : Roots) (answer : Answer) → IsRefusalFor b header answer (Some 0) ↔ (b ≡ false)
zero_by true header answer = (λ h. absurd (never_zero header answer h), λ e. absurd cc)
zero_by false header answer = (λ e. refl, λ e. refl)

-- the test of an answer is the plain equation
pub states_is : (commitment : List ℕ) (answer : Answer) → (states_commitment commitment answer ≡ true) ↔ StatesCommitment commitment answer
states_is commitment (Message m) = (λ e. absurd cc, λ h. absurd h)
states_is commitment (Names name answer) = (λ e. absurd cc, λ h. absurd h)
states_is commitment (Fraud claim) = (λ e. absurd cc, λ h. absurd h)
states_is commitment (Commit proof) = bytes_eq-Decides proof.commitment commitment
states_is commitment (Rooted proof) = (λ e. absurd cc, λ h. absurd h)

-- ---- what answers to requests show

-- an answer to a request that is the square's own shows what is asked for, or names a collision
pub shows_asked : (request : Request) (answer : Answer) (square : SquareShares) → IsAnswerTo request answer → IsOwnReply answer square
    → ShowsAsked request answer square
shows_asked (asked.Sample cell axis) (Message m) square to (inl own) =
    inl (record { grid = own.grid; extends = own.extends; at_cell = own.share ∙ ap (share_at (2 * square.k) own.grid) to.0 })
shows_asked (asked.Sample cell axis) (Message m) square to (inr named) = inr named
shows_asked (asked.Sample cell axis) (Names name answer) square to own = absurd to
shows_asked (asked.Sample cell axis) (Fraud claim) square to own = absurd to
shows_asked (asked.Sample cell axis) (Commit proof) square to own = absurd to
shows_asked (asked.Sample cell axis) (Rooted proof) square to (inl own) =
    inl (record { grid = own.grid; extends = own.extends; at_cell = own.share ∙ ap (share_at (2 * square.k) own.grid) to.0 })
shows_asked (asked.Sample cell axis) (Rooted proof) square to (inr named) = inr named
shows_asked (asked.Names name) (Message m) square to own = absurd to
shows_asked (asked.Names name) (Names other answer) square to own =
    subst (λ (n : names.Namespace). ShowsAll n square answer ⊎ AnswerNames n square answer) to own
shows_asked (asked.Names name) (Fraud claim) square to own = absurd to
shows_asked (asked.Names name) (Commit proof) square to own = absurd to
shows_asked (asked.Names name) (Rooted proof) square to own = absurd to
