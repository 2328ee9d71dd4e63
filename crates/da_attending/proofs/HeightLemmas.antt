-- The heights of headers and answers, and of more of them.
use Rattle.std.proofs.Common.{◌≡◌, ◌∙◌, ℕ, ◌+◌, ◌-◌, List, [], ◌∷◌, ◌++◌, length, length-append, take, Some, None, slice_get, refl, sym, ap, ap₂, arith, append_assoc, append-nil, inl, inr}
use Rattle.std.specs.Prelude.{◌⊎◌}
use Rattle.std.proofs.Math.Seq.{take-append_seam}
use Rattle.data_header.specs.Headers.{Roots}
use Rattle.blob_feed.specs.Feeds.{NamedAnswer, Item, headed, answered, Height, with_answer, answers_ahead, heights_of}
use Rattle.blob_feed.proofs.ZipLemmas.{get_behind}
use Rattle.da_attending.specs.Attended.{height_under_way, height_number}
use Rattle.da_attending.specs.Attenders.{behind}

-- ---- lists

-- a list that ends in something isn't empty
pub ends_in : {X : Type 0} (front : List X) (last : X) → [] ≡ front ++ last ∷ [] → ⊥
ends_in {X} front last e =
    let long : 0 ≡ length front + 1 = ap (λ (l : List X). length l) e ∙ length-append front (last ∷ []) in
    absurd (omega (arith, long))

-- a list is empty, or ends in something
pub parted : {X : Type 0} (xs : List X) → (xs ≡ []) ⊎ ((front : List X) × (last : X) × (xs ≡ front ++ last ∷ []))
parted {X} [] = inl refl
parted {X} (x ∷ xs) = elim (parted xs) [
  | inl none ↦ inr ([], x, ap (λ (l : List X). x ∷ l) none)
  | inr more ↦ inr (x ∷ more.0, more.1, ap (λ (l : List X). x ∷ l) more.2)
]

-- ---- more headers and answers

-- a height with more answers
abbrev pub with_answers : Height → List NamedAnswer → Height
with_answers height more = record { header = height.header; answers = height.answers ++ more }

-- behind answers alone more answers are in front too
ahead_none : (items more : List Item) → heights_of items ≡ [] → answers_ahead (items ++ more) ≡ answers_ahead items ++ answers_ahead more
unfolding answers_ahead heights_of
ahead_none [] more e = refl
ahead_none (headed header ∷ items) more e = absurd cc
ahead_none (answered given ∷ items) more e = ap (λ (l : List NamedAnswer). given ∷ l) (ahead_none items more e)

-- and the heights are those of what comes behind them
pub heights_none : (items more : List Item) → heights_of items ≡ [] → heights_of (items ++ more) ≡ heights_of more
unfolding answers_ahead heights_of
heights_none [] more e = refl
heights_none (headed header ∷ items) more e = absurd cc
heights_none (answered given ∷ items) more e = heights_none items more e

-- behind a header no more answers are in front of it
ahead_kept : (items more : List Item) (front : List Height) (last : Height) → heights_of items ≡ front ++ last ∷ []
    → answers_ahead (items ++ more) ≡ answers_ahead items
unfolding answers_ahead heights_of
ahead_kept [] more front last e = absurd (ends_in front last e)
ahead_kept (headed header ∷ items) more front last e = refl
ahead_kept (answered given ∷ items) more front last e = ap (λ (l : List NamedAnswer). given ∷ l) (ahead_kept items more front last e)

-- what comes behind headers and answers belongs to the last height, up to the next header
pub heights_more : (items more : List Item) (front : List Height) (last : Height) → heights_of items ≡ front ++ last ∷ []
    → heights_of (items ++ more) ≡ front ++ with_answers last (answers_ahead more) ∷ heights_of more
unfolding answers_ahead heights_of
heights_more [] more front last e = absurd (ends_in front last e)
heights_more (answered given ∷ items) more front last e = heights_more items more front last e
heights_more (headed header ∷ items) more [] last e =
    let here : record { header = header; answers = answers_ahead items } ≡ last = cc in
    let none : heights_of items ≡ [] = cc in
    ap₂ (λ (a : List NamedAnswer) (hs : List Height). record { header = header; answers = a } ∷ hs) (ahead_none items more none) (heights_none items more none)
    ∙ ap (λ (h : Height). with_answers h (answers_ahead more) ∷ heights_of more) here
heights_more (headed header ∷ items) more (first ∷ front) last e =
    let here : record { header = header; answers = answers_ahead items } ≡ first = cc in
    let rest : heights_of items ≡ front ++ last ∷ [] = cc in
    ap₂ (λ (a : List NamedAnswer) (hs : List Height). record { header = header; answers = a } ∷ hs)
    (ahead_kept items more front last rest) (heights_more items more front last rest)
    ∙ ap (λ (h : Height). h ∷ front ++ with_answers last (answers_ahead more) ∷ heights_of more) here

-- one answer more is one of the last height
pub heights_answered : (items : List Item) (given : NamedAnswer) (front : List Height) (last : Height) → heights_of items ≡ front ++ last ∷ []
    → heights_of (items ++ answered given ∷ []) ≡ front ++ with_answer last given ∷ []
unfolding answers_ahead heights_of
heights_answered items given front last e = heights_more items (answered given ∷ []) front last e

-- one header more begins a height
pub heights_headed : (items : List Item) (header : Roots)
    → heights_of (items ++ headed header ∷ []) ≡ heights_of items ++ record { header = header; answers = [] } ∷ []
unfolding answers_ahead heights_of
heights_headed items header =
    let made : Height = record { header = header; answers = [] } in
    elim (parted (heights_of items)) [
      | inl none ↦ heights_none items (headed header ∷ []) none ∙ ap (λ (l : List Height). l ++ made ∷ []) (sym none)
      | inr more ↦
          heights_more items (headed header ∷ []) more.0 more.1 more.2
          ∙ ap (λ (l : List NamedAnswer). more.0 ++ record { header = more.1.header; answers = l } ∷ made ∷ []) (append-nil more.1.answers)
          ∙ sym (append_assoc more.0 (more.1 ∷ []) (made ∷ []))
          ∙ ap (λ (l : List Height). l ++ made ∷ []) (sym more.2)
    ]

-- ---- the height under way

-- of no heights none is under way
pub way_none : (items : List Item) → heights_of items ≡ [] → height_under_way items ≡ None
way_none items e = ap (λ (l : List Height). slice_get l (length l - 1)) e

-- and none is behind
pub behind_none : (items : List Item) → heights_of items ≡ [] → behind items ≡ heights_of items
behind_none items e = ap (λ (l : List Height). take (length l - 1) l) e ∙ sym e

-- of heights that end in one it is under way, and the others are behind
pub record AtLast (items : List Item) (front : List Height) (last : Height) : Type 0 where
  pub way : height_under_way items ≡ Some last
  pub number : height_number items ≡ length front
  pub before : behind items ≡ front

pub at_last : (items : List Item) (front : List Height) (last : Height) → heights_of items ≡ front ++ last ∷ [] → AtLast items front last
at_last items front last e =
    let long : length (heights_of items) ≡ length front + 1 = ap (λ (l : List Height). length l) e ∙ length-append front (last ∷ []) in
    let number : length (heights_of items) - 1 ≡ length front = omega (arith, long) in
    record {
      way = ap (λ (n : ℕ). slice_get (heights_of items) n) number ∙ ap (λ (l : List Height). slice_get l (length front)) e
          ∙ get_behind front last [];
      number = number;
      before = ap (λ (n : ℕ). take n (heights_of items)) number ∙ ap (λ (l : List Height). take (length front) l) e
          ∙ take-append_seam front (last ∷ []);
    }
