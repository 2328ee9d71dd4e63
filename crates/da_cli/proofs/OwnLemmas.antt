-- The line `ok`, the answer of a repair, the claim of a light node, and the blobs of a namespace, under the header of a
-- square.
use Rattle.std.proofs.Common.{◌≡◌, ◌↔◌, ◌⊎◌, ℕ, zero, suc, ◌+◌, ◌-◌, Bool, true, false, cond, List, [], ◌∷◌, length, take, drop, None, Some, Result, Ok, Err, IfSome, refl, subst, slice_index}
use Rattle.std.specs.Prelude.{nat_lt, codes, MatchResult}
use Rattle.std.specs.declared.option.Option.{Option}
use Rattle.std.specs.Option.{option_map, option_map_or}
use Rattle.std.specs.List.{AllByRecursion, Contains}
use Rattle.namespace_id.specs.declared.namespaces.Namespace.{Namespace}
use Rattle.namespace_id.specs.Bytes.{AreBytes}
use Rattle.share_split.specs.Walks.{blobs_joined}
use Rattle.blob_feed.specs.Feeds.{header_at, Read, IsFeedOf, shares_in, FirstNames}
use Rattle.namespace_id.proofs.StringLemmas.{AreBytes-take, AreBytes-drop}
use Rattle.namespace_id.proofs.ElementLemmas.{all_at}
use Rattle.data_header.specs.Headers.{Roots}
use Rattle.square_layout.specs.Blocks.{SquareShares}
use Rattle.axis_roots.specs.Grids.{IsHeaderOf}
use Rattle.axis_roots.specs.declared.message.messages.CheckRefusal.TheVariants.{OutOfSquare, NodeCount, Unordered, OtherRoot}
use Rattle.da_wire.specs.declared.frames.FrameError.TheVariants as wire
use Rattle.da_wire.specs.Spelling.{spelling, IsFrame}
use Rattle.frame_payloads.specs.Payloads.{max_payload}
use Rattle.da_wire.specs.Reading.{Raw, promised, raw_of}
use Rattle.da_wire.specs.Frames.{ok_of, raw_in, frames_of}
use Rattle.da_wire.specs.Walks.{walk_from}
use Rattle.da_io.specs.Files.{Files}
use Rattle.da_judging.specs.declared.check.Finding.{Finding}
use Rattle.da_judging.specs.declared.check.Finding.TheVariants.{Proved, NoMessage, Refused}
use Rattle.da_status.specs.declared.status.Status.{Status}
use Rattle.da_status.specs.declared.status.Status.TheVariants.{Done}
use Rattle.da_judging.specs.Check.{finding_of, line_of, IsOwnFrame}
use Rattle.axis_roots.specs.Claims.{ClaimParts}
use Rattle.da_judging.specs.Compact.{claim_file, CompactsJudged, CompactsOwn}
use Rattle.da_files.specs.Frames.{claim_in}
use Rattle.da_judging.specs.Repair.{Repairs, RepairsOwn}
use Rattle.da_judging.specs.Keys.{key_file_in}
use Rattle.da_judging.specs.Light.{Lights, LightOf, light_key_file, JudgesOwn}
use Rattle.da_files.specs.Requests.{namespaces_in}
use Rattle.da_following.specs.Follow.{wanted_file, answers_file, items_in, RunFeed}
use Rattle.da_judging.specs.Verify.{answer_file, answer_in, IsAnswerRefusal, verdict_line, IsOwnReply}
use Rattle.da_judging.specs.declared.answers.Answer.{Answer}
use Rattle.da_judging.specs.Answers.{answer_frame, is_answer_to}
use Rattle.da_judging.specs.VerifyFor.{IsRefusalFor}
use Rattle.da_judging.specs.VerifyCommitment.{states_commitment}
use Rattle.da_files.specs.Contents.{messages_file}
use Rattle.da_files.proofs.FormLemmas.{over_each}
use Rattle.da_judging.proofs.AskedLemmas.{answers_to}
use Rattle.da_judging.proofs.VerifyLemmas.{holds_by, shows_asked, states_is}
use Rattle.da_commands.specs.Net.{script_file, Nets}
use Rattle.da_script.specs.Plays as plays
use Rattle.da_script.specs.Alarms.{TellsOwn}
use Rattle.da_serving.specs.Prove.{ProvesRange}
use Rattle.da_cli.specs.Own.{ProvesOwn, AreOwn}

-- ---- frames of a byte string have bytes

-- the payload of a frame has bytes
abbrev HasBytes : Raw → Type 0
HasBytes raw = AreBytes raw.payload

-- a frame behind its tests of length has bytes
raw_bytes : (a b c : Bool) (raw : Raw) → HasBytes raw
    → IfSome (option_map (λ (r : Raw). (r, r.size)) (ok_of (cond a (Err (wire.Truncated 0)) (cond b (Err (wire.TooLong 0)) (cond c (Err (wire.Truncated 0)) (Ok raw))))))
    (λ (x : Raw × ℕ). HasBytes x.0)
raw_bytes true b c raw h = tt
raw_bytes false true c raw h = tt
raw_bytes false false true raw h = tt
raw_bytes false false false raw h = h

-- the frame in front of a byte string has bytes
front_bytes : (bytes : List ℕ) → AreBytes bytes → IfSome (raw_in bytes) (λ (x : Raw × ℕ). HasBytes x.0)
unfolding raw_of
front_bytes bytes fits =
    raw_bytes (nat_lt (length bytes) 5) (nat_lt max_payload (promised bytes)) (nat_lt (length bytes) (5 + promised bytes))
    (record { kind = slice_index bytes 0; payload = take (promised bytes) (drop 5 bytes); size = 5 + promised bytes })
    (AreBytes-take (promised bytes) (drop 5 bytes) (AreBytes-drop 5 bytes fits))

-- a frame with bytes, and then frames with bytes
frames_on : (o : Option (Raw × ℕ)) (rest : List ℕ) → IfSome o (λ (x : Raw × ℕ). HasBytes x.0)
    → ((skip : ℕ) → AllByRecursion HasBytes (walk_from raw_in skip rest))
    → AllByRecursion HasBytes (option_map_or (λ (x : Raw × ℕ). x.0 ∷ walk_from raw_in (x.1 - 1) rest) o [])
frames_on None rest h later = tt
frames_on (Some x) rest h later = (h, later (x.1 - 1))

-- the frames of a byte string have bytes
frames_fit : (bytes : List ℕ) → AreBytes bytes → (skip : ℕ) → AllByRecursion HasBytes (walk_from raw_in skip bytes)
unfolding walk_from
frames_fit [] fits skip = tt
frames_fit (byte ∷ rest) fits zero = frames_on (raw_in (byte ∷ rest)) rest (front_bytes (byte ∷ rest) fits) (frames_fit rest (λ j. fits (suc j)))
frames_fit (byte ∷ rest) fits (suc skip) = frames_fit rest (λ j. fits (suc j)) skip

-- ---- the line `ok`

-- the line `ok` stands for a frame that is found proved
ok_is_proved : (found : Finding) → line_of found ≡ codes "ok\n" → found ≡ Proved
ok_is_proved Proved e = refl
ok_is_proved NoMessage e = absurd cc
ok_is_proved (Refused OutOfSquare) e = absurd cc
ok_is_proved (Refused NodeCount) e = absurd cc
ok_is_proved (Refused Unordered) e = absurd cc
ok_is_proved (Refused OtherRoot) e = absurd cc

-- the line `ok` stands for an answer that isn't refused
ok_has_none : (refusal : Option ℕ) → verdict_line refusal ≡ codes "ok\n" → refusal ≡ None
ok_has_none None e = refl
ok_has_none (Some number) e = absurd cc

-- by what is known of frames that are found proved, of answers that aren't refused, and of what repair, light and follow
-- answer, under the header of a square
pub are_own : (told : Option Files) (words : List (List ℕ))
    → ((header : Roots) (frame : Raw) (square : SquareShares) → AreBytes frame.payload → IsHeaderOf header square
    → finding_of header frame ≡ Proved → IsOwnFrame frame square)
    → ((header : Roots) (answer : Answer) (square : SquareShares) → IsFrame (answer_frame answer) → IsHeaderOf header square → IsAnswerRefusal header answer None
    → IsOwnReply answer square)
    → ((bytes : List ℕ) (answer : Answer) → AreBytes bytes
    → (answer_in bytes ≡ Ok answer) ↔ (IsFrame (answer_frame answer) × (spelling (answer_frame answer) ≡ Some bytes)))
    → ((header : Roots) (frames : List Raw) (square : SquareShares) (w : List ℕ) (status : Status) → AllByRecursion (λ (raw : Raw). AreBytes raw.payload) frames
    → IsHeaderOf header square → Repairs header frames w status → RepairsOwn header frames square w status)
    → ((header : Roots) (frames : List Raw) (square : SquareShares) (key : List ℕ) (count : ℕ) (w : List ℕ) (status : Status)
    → IsHeaderOf header square → Lights key count header frames w status → JudgesOwn square w status)
    → ((header : Roots) (claim : ClaimParts) (square : SquareShares) (w : List ℕ) (status : Status)
    → IsHeaderOf header square → CompactsJudged header claim w status → CompactsOwn claim square status)
    → ((wanted : List Namespace) (answers : List ℕ) (feed : RunFeed) (number : ℕ) (name : Namespace) (read : Read) (header : Roots) (square : SquareShares)
    → AreBytes answers → IsFeedOf (Contains wanted) (items_in answers) feed → feed number name ≡ Some read
    → header_at (items_in answers) number ≡ Some header → IsHeaderOf header square
    → (read ≡ blobs_joined (shares_in square name)) ⊎ FirstNames (items_in answers) number name square)
    → ((header : Roots) (frames : List Raw) (script : List ℕ) (square : SquareShares) (w : List ℕ) (status : Status)
    → IsHeaderOf header square → Nets header frames script w status → TellsOwn (plays.items_in frames) square w)
    → ((square : SquareShares) (start count : ℕ) (w : List ℕ) → ProvesRange square start count w Done → ProvesOwn square start count w)
    → AreOwn told words
are_own None words found verified file repaired lit compacted followed netted proved = tt
are_own (Some files) words found verified file repaired lit compacted followed netted proved = record {
  check = λ contents header square i frame command read first own fits here ok.
      found header frame square (all_at HasBytes _ i frame (frames_fit _ fits 0) here) own (ok_is_proved (finding_of header frame) ok);
  verify = λ contents header square answer refusal command read first own fits second refused ok.
      verified header answer square ((file (answer_file contents) answer fits).0 second).0 own
      (subst (IsAnswerRefusal header answer) (ok_has_none refusal ok) refused);
  compact = λ contents header square claim w status command read first own second answers.
      compacted header claim square w status own
      (subst (λ (b : Result ClaimParts ℕ). MatchResult b (λ c. CompactsJudged header c w status) (λ at. ⊥)) second
      (subst (λ (a : Result Roots ℕ). MatchResult a (λ h. MatchResult (claim_in (claim_file contents)) (λ c. CompactsJudged h c w status) (λ at. ⊥)) (λ at. ⊥)) first answers));
  verify_for = λ contents header square answer request refusal command read first own fits second third refused ok.
      let holds = (holds_by _ _ header answer (answers_to request answer)).0 (subst (IsRefusalFor (is_answer_to request answer) header answer) (ok_has_none refusal ok) refused) in
      let reply = verified header answer square ((file (answer_file contents) answer fits).0 second).0 own holds.0 in
      (holds.1, reply, shows_asked request answer square holds.1 reply);
  verify_commitment = λ contents header square answer commitment refusal command read first own fits second refused ok.
      let holds = (holds_by _ _ header answer (states_is commitment answer)).0
      (subst (IsRefusalFor (states_commitment commitment answer) header answer) (ok_has_none refusal ok) refused) in
      (holds.1, verified header answer square ((file (answer_file contents) answer fits).0 second).0 own holds.0);
  repair = λ contents header square w status command read first own fits answers.
      repaired header (frames_of (messages_file contents)) square w status (frames_fit _ fits 0) own
      (subst (λ (a : Result Roots ℕ). MatchResult a (λ h. Repairs h (frames_of (messages_file contents)) w status) (λ at. ⊥)) first answers);
  light = λ contents header square key count w status command read first own fits answers.
      lit header (frames_of (messages_file contents)) square key count w status own
      (subst (λ (a : Result Roots ℕ). MatchResult a (λ h. Lights key count h (frames_of (messages_file contents)) w status) (λ at. ⊥)) first answers);
  light_by = λ contents header square count w status command read first own fits answers.
      over_each (λ key. LightOf key count contents) (key_file_in (light_key_file contents)) w status (JudgesOwn square w status)
      (λ key answered.
      lit header (frames_of (messages_file contents)) square key count w status own
      (subst (λ (a : Result Roots ℕ). MatchResult a (λ h. Lights key count h (frames_of (messages_file contents)) w status) (λ at. ⊥)) first answered))
      answers;
  follow = λ contents header square feed number name read command gather fits headed own is has.
      followed (namespaces_in (wanted_file contents)) (answers_file contents) feed number name read header square fits is has headed own;
  net = λ contents header square w status command read first own answers.
      netted header (frames_of (messages_file contents)) (script_file contents) square w status own
      (subst (λ (a : Result Roots ℕ). MatchResult a (λ h. Nets h (frames_of (messages_file contents)) (script_file contents) w status) (λ at. ⊥)) first answers);
  prove = λ contents square start count w command read first answers.
      proved square start count w (subst (λ (a : Result SquareShares ℕ). MatchResult a (λ s. ProvesRange s start count w Done) (λ at. ⊥)) first answers);
}
