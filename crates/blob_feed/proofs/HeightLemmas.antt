-- The heights of a list with one more header or answer.
use Rattle.std.proofs.Common.{◌≡◌, ◌∙◌, ◌+◌, List, [], ◌∷◌, ◌++◌, length, length-append, refl, ap, ap₂, arith}
use Rattle.data_header.specs.Headers.{Roots}
use Rattle.blob_feed.specs.Feeds.{NamedAnswer, Item, headed, answered, Height, with_answer, answers_ahead, heights_of}

-- a list that ends in something isn't empty
pub not_empty : {X : Type 0} (front : List X) (last : X) → [] ≡ front ++ last ∷ [] → ⊥
not_empty {X} front last e =
    let long : 0 ≡ length front + 1 = ap (λ (l : List X). length l) e ∙ length-append front (last ∷ []) in
    absurd (omega (arith, long))

-- a header ends the answers in front of it
ahead_headed : (items : List Item) (header : Roots) → answers_ahead (items ++ headed header ∷ []) ≡ answers_ahead items
unfolding answers_ahead
ahead_headed [] header = refl
ahead_headed (headed other ∷ items) header = refl
ahead_headed (answered given ∷ items) header = ap (λ (l : List NamedAnswer). given ∷ l) (ahead_headed items header)

-- and begins a height
pub heights_headed : (items : List Item) (header : Roots)
    → heights_of (items ++ headed header ∷ []) ≡ heights_of items ++ record { header = header; answers = [] } ∷ []
unfolding answers_ahead heights_of
heights_headed [] header = refl
heights_headed (headed other ∷ items) header =
    ap₂ (λ (a : List NamedAnswer) (hs : List Height). record { header = other; answers = a } ∷ hs)
    (ahead_headed items header) (heights_headed items header)
heights_headed (answered given ∷ items) header = heights_headed items header

-- an answer behind no header
record Ahead (items : List Item) (given : NamedAnswer) : Type 0 where
  none : heights_of (items ++ answered given ∷ []) ≡ []
  more : answers_ahead (items ++ answered given ∷ []) ≡ answers_ahead items ++ given ∷ []

ahead_answered : (items : List Item) (given : NamedAnswer) → heights_of items ≡ [] → Ahead items given
unfolding answers_ahead heights_of
ahead_answered [] given e = record { none = refl; more = refl }
ahead_answered (headed other ∷ items) given e = cc
ahead_answered (answered first ∷ items) given e =
    let rest = ahead_answered items given e in
    record { none = rest.none; more = ap (λ (l : List NamedAnswer). first ∷ l) rest.more }

-- one behind a later header
ahead_kept : (items : List Item) (given : NamedAnswer) (front : List Height) (last : Height)
    → heights_of items ≡ front ++ last ∷ [] → answers_ahead (items ++ answered given ∷ []) ≡ answers_ahead items
unfolding answers_ahead heights_of
ahead_kept [] given front last e = absurd (not_empty front last e)
ahead_kept (headed other ∷ items) given front last e = refl
ahead_kept (answered first ∷ items) given front last e =
    ap (λ (l : List NamedAnswer). first ∷ l) (ahead_kept items given front last e)

-- an answer belongs to the last height
pub heights_answered : (items : List Item) (given : NamedAnswer) (front : List Height) (last : Height)
    → heights_of items ≡ front ++ last ∷ []
    → heights_of (items ++ answered given ∷ []) ≡ front ++ with_answer last given ∷ []
unfolding answers_ahead heights_of
heights_answered [] given front last e = absurd (not_empty front last e)
heights_answered (answered first ∷ items) given front last e = heights_answered items given front last e
heights_answered (headed other ∷ items) given [] last e =
    let here : record { header = other; answers = answers_ahead items } ≡ last = cc in
    let none : heights_of items ≡ [] = cc in
    let rest = ahead_answered items given none in
    ap₂ (λ (a : List NamedAnswer) (hs : List Height). record { header = other; answers = a } ∷ hs) rest.more rest.none
    ∙ ap (λ (h : Height). with_answer h given ∷ []) here
heights_answered (headed other ∷ items) given (first ∷ front) last e =
    let here : record { header = other; answers = answers_ahead items } ≡ first = cc in
    let rest : heights_of items ≡ front ++ last ∷ [] = cc in
    ap₂ (λ (a : List NamedAnswer) (hs : List Height). record { header = other; answers = a } ∷ hs)
    (ahead_kept items given front last rest) (heights_answered items given front last rest)
    ∙ ap (λ (h : Height). h ∷ front ++ with_answer last given ∷ []) here
