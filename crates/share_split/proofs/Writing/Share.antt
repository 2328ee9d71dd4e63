-- A share that is written part by part, with zeros behind.
use Rattle.std.proofs.Common.{◌≡◌, ◌∙◌, ℕ, ◌+◌, ◌-◌, ◌≤◌, Bool, List, [], ◌∷◌, ◌++◌, length, take, drop, replicate, sym, ap, ap₂, refl, arith, length-append}
use Rattle.std.proofs.lemmas.List.{drop-replicate, take-replicate, append_assoc}
use Rattle.std.proofs.Math.Seq.{take-append-add}
use Rattle.namespace_id.proofs.StringLemmas.{put_next}
use Rattle.namespace_id.specs.declared.namespaces.Namespace.{Namespace}
use Rattle.namespace_id.specs.Shares.{share_of}
use Rattle.share_split.specs.Blobs.{later_content, info, filled, sequence_share}

-- what is written so far, and zeros behind it up to the size of a share
abbrev pub laid : List ℕ → List ℕ
laid before = before ++ replicate (512 - length before) 0

-- one part more
pub laid_more : (before part old new : List ℕ) (at : ℕ) → old ≡ laid before → at ≡ length before
    → new ≡ take at old ++ part ++ drop (at + length part) old → new ≡ laid (before ++ part)
laid_more before part old new at o a n =
    let left : 512 - length before - length part ≡ 512 - length (before ++ part) = omega (arith, length-append before part) in
    n ∙ ap₂ (λ (i : ℕ) (s : List ℕ). take i s ++ part ++ drop (i + length part) s) a o
    ∙ put_next before (replicate (512 - length before) 0) part
    ∙ ap (λ (x : List ℕ). before ++ part ++ x) (drop-replicate (length part) (512 - length before) 0)
    ∙ ap (λ (k : ℕ). before ++ part ++ replicate k 0) left

-- content that fits is filled by the zeros that are left
pub filled_is : (n : ℕ) (content : List ℕ) → length content ≤ n → filled n content ≡ content ++ replicate (n - length content) 0
filled_is n content h =
    let all : n ≡ length content + (n - length content) = omega (arith, h) in
    ap (λ (k : ℕ). take k (content ++ replicate n 0)) all
    ∙ take-append-add content (replicate n 0) (n - length content)
    ∙ ap (λ (x : List ℕ). content ++ x) (take-replicate (n - length content) n 0 (omega arith))

-- the content is the last part
pub laid_filled : (head content : List ℕ) (n : ℕ) → length head + n ≡ 512 → length content ≤ n → laid (head ++ content) ≡ head ++ filled n content
laid_filled head content n e h =
    let left : 512 - length (head ++ content) ≡ n - length content = omega (arith, length-append head content, e) in
    ap (λ (k : ℕ). head ++ content ++ replicate k 0) left
    ∙ append_assoc head content (replicate (n - length content) 0)
    ∙ sym (ap (λ (x : List ℕ). head ++ x) (filled_is n content h))

-- a namespace and an info byte
abbrev pub head : List ℕ → ℕ → List ℕ
head name start = name ++ start ∷ []

-- a namespace and an info byte are 30 bytes
pub length-head : (name : List ℕ) (start : ℕ) → length name ≡ 29 → length (head name start) ≡ 30
length-head name start n = length-append name (start ∷ []) ∙ ap (λ (k : ℕ). k + 1) n

-- a head with zeros behind it
pub head_laid : (name : List ℕ) (start : ℕ) → length name ≡ 29 → laid (head name start) ≡ head name start ++ replicate later_content 0
head_laid name start n = ap (λ (k : ℕ). head name start ++ replicate (512 - k) 0) (length-head name start n)

-- a namespace and an info byte that are written are a head, with zeros behind
pub begun_written : (name s t : List ℕ) (start info_byte : ℕ) → length name ≡ 29 → start ≡ info_byte
    → s ≡ take 0 (replicate 512 0) ++ name ++ drop (0 + length name) (replicate 512 0)
    → t ≡ take 29 s ++ start ∷ [] ++ drop (29 + 1) s
    → t ≡ head name info_byte ++ replicate later_content 0
begun_written name s t start info_byte n i es et =
    let one : s ≡ laid name = laid_more [] name (replicate 512 0) s 0 refl refl es in
    let two : t ≡ laid (head name start) = laid_more name (start ∷ []) s t 29 one (sym n) et in
    two ∙ head_laid name start n ∙ ap (λ (j : ℕ). head name j ++ replicate later_content 0) i

-- a share of a sequence is its parts, one behind another, and zeros
pub sequence_written : (name : Namespace) (version : ℕ) (start : Bool) (field next content t u v w : List ℕ) (place : ℕ) → length name.0 ≡ 29
    → length field + length next + length content ≤ later_content
    → place ≡ 30 + length field
    → t ≡ head name.0 (info version start) ++ replicate later_content 0
    → u ≡ take 30 t ++ field ++ drop (30 + length field) t
    → v ≡ take place u ++ next ++ drop (place + length next) u
    → w ≡ take (place + length next) v ++ content ++ drop (place + length next + length content) v
    → share_of w ≡ sequence_share name version start (field ++ next) content
unfolding sequence_share
sequence_written name version start field next content t u v w place n h p et eu ev ew =
    let first : List ℕ = head name.0 (info version start) in
    let fields : List ℕ = field ++ next in
    let rest : List ℕ = filled (later_content - length fields) content in
    let begins : length first ≡ 30 = length-head name.0 (info version start) n in
    let both : length fields ≡ length field + length next = length-append field next in
    let two : t ≡ laid first = et ∙ sym (head_laid name.0 (info version start) n) in
    let three : u ≡ laid (first ++ field) = laid_more first field t u 30 two (sym begins) eu in
    let behind : length (first ++ field) ≡ place = omega (arith, length-append first field, begins, p) in
    let four : v ≡ laid (first ++ fields) =
    laid_more (first ++ field) next u v place three (sym behind) ev ∙ ap laid (append_assoc first field next) in
    let last : length (first ++ fields) ≡ place + length next = omega (arith, length-append first fields, begins, both, p) in
    let whole : w ≡ laid (first ++ fields ++ content) = laid_more (first ++ fields) content v w (place + length next) four (sym last) ew in
    ap share_of
    (whole
    ∙ laid_filled (first ++ fields) content (later_content - length fields) (omega (arith, last, both, p, h)) (omega (arith, both, h))
    ∙ append_assoc first fields rest
    ∙ append_assoc name.0 (info version start ∷ []) (fields ++ rest))
