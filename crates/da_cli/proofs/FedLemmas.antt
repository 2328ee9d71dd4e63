-- What a session is fed with of a file has the file's proved samples, and its lies are counted.
use Rattle.std.proofs.Common.{◌≡◌, ◌∙◌, ℕ, suc, ◌+◌, cond, List, [], ◌∷◌, ◌++◌, Some, None, refl, sym, subst, arith, ⊎_elim}
use Rattle.std.specs.declared.option.Option.{Option}
use Rattle.std.specs.Option.{option_map_or}
use Rattle.std.specs.List.{sum_by, Contains}
use Rattle.std.proofs.lemmas.List.Sums.{sum_by-append}
use Rattle.std.proofs.lemmas.List.Elements.{Contains-append_right, Contains-append_cases}
use Rattle.data_header.specs.Headers.{Roots}
use Rattle.axis_roots.specs.declared.message.messages.Message as sent
use Rattle.axis_roots.specs.declared.message.messages.CheckRefusal.{CheckRefusal}
use Rattle.axis_roots.specs.Messages.{message_refusal}
use Rattle.axis_roots.specs.Openings.{IsProved}
use Rattle.repair_queue.specs.Closures.{Covers}
use Rattle.namespace_id.proofs.MemberLemmas.{contains_head, contains_cons, contains_tail, contains_none}
use Rattle.da_wire.specs.Reading.{Raw}
use Rattle.da_wire.specs.Frames.{raw_message}
use Rattle.da_judging.specs.declared.check.Finding.TheVariants.{Proved, NoMessage, Refused}
use Rattle.da_judging.specs.Check.{is_ok}
use Rattle.da_judging.specs.Repair.{messages_in, lies_in}
use Rattle.da_cli.specs.Feeding.{proved_by, lies_by, proved_among, lies_among}
use Rattle.da_cli.proofs.FeedingLemmas.{accepted_by}

-- ---- lies

-- what a sample adds, by what refuses it
lie_of : (why : Option CheckRefusal) (later : ℕ) → option_map_or (λ e. 1) why 0 + later ≡ cond (is_ok (option_map_or Refused why Proved)) later (suc later)
lie_of None later = omega arith
lie_of (Some e) later = omega arith

-- what a frame adds
lie_here : (header : Roots) (o : Option sent.Message) (later : ℕ)
    → lies_by header o + later ≡ cond (is_ok (option_map_or (λ m. option_map_or Refused (message_refusal header m) Proved) o NoMessage)) later (suc later)
lie_here header None later = omega arith
lie_here header (Some m) later = lie_of (message_refusal header m) later

-- the lies among frames
pub lies_same : (header : Roots) (frames : List Raw) → lies_among header frames ≡ lies_in header frames
unfolding lies_in
lies_same header [] = refl
lies_same header (frame ∷ later) =
    let count : Raw → ℕ = λ g. lies_by header (raw_message g) in
    let parts : sum_by count (frame ∷ later) ≡ 0 + lies_by header (raw_message frame) + sum_by count later = sum_by-append count (frame ∷ []) later in
    let all : lies_among header (frame ∷ later) ≡ lies_by header (raw_message frame) + lies_in header later = omega (arith, parts, lies_same header later) in
    all ∙ lie_here header (raw_message frame) (lies_in header later)

-- ---- proved samples

-- a proved sample is fed
fed_front : (header : Roots) → ((m : sent.Message) → IsProved header m → message_refusal header m ≡ None) → (o : Option sent.Message) (later more : List sent.Message) (m : sent.Message)
    → IsProved header m → Contains (option_map_or (λ n. n ∷ later) o later) m → (Contains later m → Contains more m) → Contains (proved_by header o ++ more) m
fed_front header accepted None later more m proved at on = on at
fed_front header accepted (Some l) later more m proved at on =
    ⊎_elim
    (λ (same : l ≡ m).
    let fed : proved_by header (Some l) ≡ l ∷ [] = (accepted_by header l (accepted l (subst (IsProved header) (sym same) proved))).0 in
    subst (λ (x : List sent.Message). Contains (x ++ more) m) (sym fed) (subst (Contains (l ∷ more)) same (contains_head l more)))
    (λ (behind : Contains later m). Contains-append_right (proved_by header (Some l)) more m (on behind))
    (contains_cons l m later at)

-- a sample that was fed by what refuses it
fed_is : (why : Option CheckRefusal) (l m : sent.Message) → Contains (option_map_or (λ e. []) why (l ∷ [])) m → l ≡ m
fed_is None l m at = ⊎_elim (λ (same : l ≡ m). same) (λ (behind : Contains [] m). absurd (contains_none m behind)) (contains_cons l m [] at)
fed_is (Some e) l m at = absurd (contains_none m at)

-- what is fed is a sample of the grammar
fed_back : (header : Roots) (o : Option sent.Message) (later more : List sent.Message) (m : sent.Message)
    → Contains (proved_by header o ++ more) m → (Contains more m → Contains later m) → Contains (option_map_or (λ n. n ∷ later) o later) m
fed_back header None later more m at on = on at
fed_back header (Some l) later more m at on =
    ⊎_elim
    (λ (front : Contains (proved_by header (Some l)) m). subst (Contains (l ∷ later)) (fed_is (message_refusal header l) l m front) (contains_head l later))
    (λ (behind : Contains more m). contains_tail l m later (on behind))
    (Contains-append_cases (proved_by header (Some l)) more m at)

-- the proved samples of the grammar are fed
pub proved_fed : (header : Roots) → ((m : sent.Message) → IsProved header m → message_refusal header m ≡ None) → (frames : List Raw)
    → Covers header (messages_in frames) (proved_among header frames)
unfolding messages_in
proved_fed header accepted [] m at proved = at
proved_fed header accepted (frame ∷ later) m at proved =
    fed_front header accepted (raw_message frame) (messages_in later) (proved_among header later) m proved at (λ behind. proved_fed header accepted later m behind proved)

-- and nothing else
pub fed_proved : (header : Roots) (frames : List Raw) → Covers header (proved_among header frames) (messages_in frames)
unfolding messages_in
fed_proved header [] m at proved = at
fed_proved header (frame ∷ later) m at proved =
    fed_back header (raw_message frame) (messages_in later) (proved_among header later) m at (λ behind. fed_proved header later m behind proved)
