-- How many bytes of a frame are taken, and what a room keeps of them.
use Rattle.std.proofs.Common.{◌≡◌, ◌∙◌, ℕ, ◌+◌, ◌-◌, ◌<◌, ◌≤◌, min, Bool, true, false, ltb, leb, ◌&&◌, List, ◌++◌, length, take, drop, refl, sym, ap, arith, length-append, append_assoc, le-leb, lt-ltb, ltb-false, ap₂, ⊎_elim, length-take-le, length-drop}
use Rattle.std.proofs.lemmas.Bool.{false≢true, lt-leb, cases_lt, cases_Bool}
use Rattle.std.proofs.Math.Seq.{take-add}
use Rattle.std.proofs.lemmas.Bool.{and_parts, leb-true, ltb-true}
use Rattle.frame_payloads.specs.Payloads.{max_payload}
use Rattle.da_wire.specs.Reading.{promised}
use Rattle.da_wire.specs.StreamParts.{is_long, IsUnfinished, KeepsFront, IsTakenPiece}
use Rattle.da_wire.proofs.RawLemmas.{promised-take}

-- ---- frames that are too long

-- a frame that is too long has its head, and states a length above the limit
pub long_parts : (front : List ℕ) (have : ℕ) → is_long front have ≡ true → (5 ≤ have) × (max_payload < promised front)
long_parts front have e =
    let both = and_parts (leb 5 have) (ltb max_payload (promised front)) e in
    (leb-true 5 have both.0, ltb-true max_payload (promised front) both.1)

-- a head that states a length above the limit is that of a frame that is too long
pub is_long_by : (front : List ℕ) (have : ℕ) → 5 ≤ have → max_payload < promised front → is_long front have ≡ true
is_long_by front have h k = ap₂ (λ (x y : Bool). x && y) (le-leb 5 have h) (lt-ltb max_payload (promised front) k)

-- the head of a frame that isn't too long states a length within the limit
pub not_long : (front : List ℕ) (have : ℕ) → is_long front have ≡ false → 5 ≤ have → promised front ≤ max_payload
not_long front have e h = ltb-false max_payload (promised front) (ap (λ (x : Bool). x && ltb max_payload (promised front)) (sym (le-leb 5 have h)) ∙ e)

-- a frame without its head isn't too long
pub short_not_long : (front : List ℕ) (have : ℕ) → have < 5 → is_long front have ≡ false
short_not_long front have h = ap (λ (x : Bool). x && ltb max_payload (promised front)) (lt-leb 5 have h)

-- a head stays what it is
pub promised_same : (have : ℕ) (old new : List ℕ) → 5 ≤ have → take have new ≡ take have old → promised new ≡ promised old
promised_same have old new h same = sym (promised-take have new h) ∙ ap promised same ∙ promised-take have old h

-- ---- how many

-- of a frame that is too long all bytes are taken
pub taken_all : (old new : List ℕ) (have size : ℕ) → is_long old have ≡ true → take have new ≡ take have old → IsTakenPiece old new have size size
taken_all old new have size long same =
    let parts = long_parts old have long in
    let same_size : promised new ≡ promised old = promised_same have old new parts.0 same in
    let still : is_long new (have + size) ≡ true = is_long_by new (have + size) (omega (arith, parts.0)) (omega (arith, same_size, parts.1)) in
    record {
      within = omega arith;
      some = λ h. h;
      head = λ h. same_size;
      later = λ e. (refl, still);
      fifth = λ e f. absurd (false≢true (sym e ∙ long));
      whole = λ e. absurd (false≢true (sym e ∙ still));
      more = λ e f. refl;
    }

-- the bytes of a head are taken up to its fifth
pub taken_head : (old new : List ℕ) (have size count : ℕ) → IsUnfinished old have → is_long old have ≡ false → take have new ≡ take have old → count ≡ min size (5 - have) → have + count < 5
    → IsTakenPiece old new have size count
taken_head old new have size count unfinished short same is few =
    let now_short : is_long new (have + count) ≡ false = short_not_long new (have + count) few in
    record {
      within = omega (arith, is);
      some = λ h. omega (arith, is, few);
      head = λ h. promised_same have old new h same;
      later = λ e. absurd (false≢true (sym short ∙ e));
      fifth = λ e f. absurd (false≢true (sym now_short ∙ f));
      whole = λ e. omega (arith, few);
      more = λ e f. omega (arith, is, few);
    }

-- they are taken up to its fifth alone where the head states a length above the limit
pub taken_long : (old new : List ℕ) (have size count : ℕ) → IsUnfinished old have → is_long old have ≡ false → take have new ≡ take have old → count ≡ min size (5 - have) → is_long new (have + count) ≡ true
    → IsTakenPiece old new have size count
taken_long old new have size count unfinished short same is long =
    let parts = long_parts new (have + count) long in
    let in_head : have < 5 =
    ⊎_elim
    (λ (h : have < 5). h)
    (λ (h : 5 ≤ have). absurd (omega (arith, parts.1, promised_same have old new h same, not_long old have short h)))
    (cases_lt have 5) in
    record {
      within = omega (arith, is);
      some = λ h. omega (arith, is, in_head);
      head = λ h. promised_same have old new h same;
      later = λ e. absurd (false≢true (sym short ∙ e));
      fifth = λ e f. omega (arith, is, in_head, parts.0);
      whole = λ e. absurd (false≢true (sym e ∙ long));
      more = λ e f. absurd (false≢true (sym e ∙ long));
    }

-- where the head is whole, the bytes after it are taken up to the end of the frame
pub taken_body : (old mid new : List ℕ) (have size head body : ℕ) → IsUnfinished old have → is_long old have ≡ false
    → take have mid ≡ take have old → head ≡ min size (5 - have) → 5 ≤ have + head → is_long mid (have + head) ≡ false
    → take (have + head) new ≡ take (have + head) mid → body ≡ min (size - head) (5 + promised mid - (have + head))
    → IsTakenPiece old new have size (head + body)
taken_body old mid new have size head body unfinished short first is_head five now_short second is_body =
    let within : promised mid ≤ max_payload = not_long mid (have + head) now_short five in
    let same : promised new ≡ promised mid = promised_same (have + head) mid new five second in
    let still : is_long new (have + (head + body)) ≡ false =
    ⊎_elim
    (λ (h : is_long new (have + (head + body)) ≡ true). absurd (omega (arith, within, same, (long_parts new (have + (head + body)) h).1)))
    (λ (h : is_long new (have + (head + body)) ≡ false). h)
    (cases_Bool (is_long new (have + (head + body)))) in
    let unended : 5 ≤ have → have < 5 + promised mid = λ h. omega (arith, unfinished short, promised_same have old mid h first) in
    let front : have + head ≤ 5 + promised mid =
    ⊎_elim
    (λ (h : have < 5). omega (arith, is_head, h))
    (λ (h : 5 ≤ have). omega (arith, is_head, h, unended h))
    (cases_lt have 5) in
    record {
      within = omega (arith, is_head, is_body);
      some = λ h.
          ⊎_elim
          (λ (k : have < 5). omega (arith, is_head, h, k))
          (λ (k : 5 ≤ have). omega (arith, is_head, is_body, h, k, unended k))
          (cases_lt have 5);
      head = λ h. same ∙ promised_same have old mid h first;
      later = λ e. absurd (false≢true (sym short ∙ e));
      fifth = λ e f. absurd (false≢true (sym still ∙ f));
      whole = λ e. omega (arith, is_body, same, front);
      more = λ e f. omega (arith, is_head, is_body, same, front);
    }

-- ---- what is kept

-- the bytes of a head, and then those after it
pub keeps_on : (size have head body : ℕ) (old mid new piece : List ℕ) → head ≤ length piece → body ≤ length (drop head piece)
    → KeepsFront size old mid have (take head piece) → KeepsFront size mid new (have + head) (take body (drop head piece))
    → KeepsFront size old new have (take (head + body) piece)
keeps_on size have head body old mid new piece few few_more first second part len kept =
    let more : List ℕ = take body (drop head piece) in
    let head_len : length (take head piece) ≡ head = length-take-le head piece few in
    let mid_len : length (part ++ take head piece) ≡ have + head = omega (arith, length-append part (take head piece), len, head_len) in
    let to_mid : take size (part ++ take head piece) ≡ take (have + head) mid =
    first part len kept ∙ ap (λ (n : ℕ). take (have + n) mid) head_len in
    let joined : (part ++ take head piece) ++ more ≡ part ++ take (head + body) piece =
    append_assoc part (take head piece) more ∙ ap (λ (l : List ℕ). part ++ l) (sym (take-add head body piece)) in
    let count : have + head + length more ≡ have + length (take (head + body) piece) =
    omega (arith, length-take-le body (drop head piece) few_more, length-take-le (head + body) piece (omega (arith, few, few_more, length-drop head piece))) in
    ap (take size) (sym joined) ∙ second (part ++ take head piece) mid_len to_mid ∙ ap (λ (n : ℕ). take n new) count
