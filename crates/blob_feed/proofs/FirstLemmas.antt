-- What the first complete answer is read as, found answer by answer.
use Rattle.std.proofs.Common.{◌≡◌, ◌↔◌, ◌∙◌, List, [], ◌∷◌, ◌++◌, Bool, true, false, cond, ◌&&◌, true≢false, Option, Some, None, is_none, refl, sym, ap, ap₂, subst, inl, inr}
use Rattle.std.specs.List.{find}
use Rattle.std.specs.Option.{option_map, option_or}
use Rattle.std.proofs.lemmas.Bool.{and_parts}
use Rattle.std.proofs.lemmas.List.Folds.{find-append}
use Rattle.namespace_id.specs.declared.namespaces.Namespace.{Namespace}
use Rattle.namespace_id.specs.Names.{is_blob_namespace}
use Rattle.namespace_id.proofs.MemberLemmas.{contains_cons, contains_none}
use Rattle.share_split.specs.Walks.{blobs_joined}
use Rattle.data_header.specs.Headers.{Roots}
use Rattle.axis_roots.specs.declared.answers.NsEntry.{NsEntry}
use Rattle.square_serve.specs.declared.checking.NsRefusal.{NsRefusal}
use Rattle.square_serve.specs.Answers.{IsComplete, answer_refusal}
use Rattle.blob_feed.specs.Feeds.{NamedAnswer, Height, NoneComplete, IsFedAt, Read, shares_shown}
use Rattle.blob_feed.specs.Firsts.{completes, first_read}
use Rattle.blob_feed.proofs.NameLemmas.{same_name, same_refl}
use Rattle.blob_feed.proofs.FedLemmas.{given_for}

-- no refusal
no_refusal : (o : Option NsRefusal) → is_none o ≡ true → o ≡ None
no_refusal None e = refl
no_refusal (Some why) e = absurd (true≢false (sym e))

-- what is made of one or else of another
pub map_or : {A B : Type 0} (f : A → B) (one other : Option A)
    → option_map f (option_or one other) ≡ option_or (option_map f one) (option_map f other)
map_or f None other = refl
map_or f (Some x) other = refl

-- behind some answers one more is read where none of them is
pub first_more : (header : Roots) (name : Namespace) (answers : List NamedAnswer) (given : NamedAnswer)
    → first_read header name (answers ++ given ∷ []) ≡ option_or (first_read header name answers) (first_read header name (given ∷ []))
first_more header name answers given =
    ap (option_map (λ (g : NamedAnswer). blobs_joined (shares_shown g.answer))) (find-append (completes header name) answers (given ∷ []))
    ∙ map_or (λ (g : NamedAnswer). blobs_joined (shares_shown g.answer)) (find (completes header name) answers)
    (find (completes header name) (given ∷ []))

module _ (law : (header : Roots) (name : Namespace) (answer : List NsEntry)
    → (answer_refusal header name answer ≡ None) ↔ IsComplete header name answer) (header : Roots) (name : Namespace) where
  -- a complete answer passes
  passes : (answer : List NsEntry) → IsComplete header name answer → completes header name (given_for name answer) ≡ true
  passes answer complete =
      ap₂ (λ (b : Bool) (o : Option NsRefusal). b && is_none o) (same_refl name) ((law header name answer).1 complete)

  -- where the first doesn't, none is complete if none of the others is
  none_more : (given : NamedAnswer) (answers : List NamedAnswer) → completes header name given ≡ false
      → NoneComplete header name answers → NoneComplete header name (given ∷ answers)
  none_more given answers e none = λ answer at complete.
      elim (contains_cons given (given_for name answer) answers at) [
        | inl same ↦ true≢false (sym (passes answer complete)
            ∙ subst (λ (g : NamedAnswer). completes header name g ≡ false) same e)
        | inr later ↦ none answer later complete
      ]

  module _ (wants : Namespace → Type 0) (wanted : wants name) (blob : is_blob_namespace name.0 ≡ true) where
    -- a height of these answers
    abbrev under : List NamedAnswer → Height
    under answers = record { header = header; answers = answers }

    -- an answer that doesn't pass leaves what the others bring
    fed_later : (given : NamedAnswer) (answers : List NamedAnswer) (read : Option Read) → completes header name given ≡ false
        → IsFedAt wants (under answers) name read → IsFedAt wants (under (given ∷ answers)) name read
    fed_later given answers None e fed = λ w b. none_more given answers e (fed w b)
    fed_later given answers (Some read) e (w, b, (answer, first, is)) = (
      w,
      b,
      (
        answer,
        record {
          before = given ∷ first.before;
          after = first.after;
          parts = ap (λ (l : List NamedAnswer). given ∷ l) first.parts;
          complete = first.complete;
          none = none_more given first.before e first.none;
        },
        is,
      ),
    )

    -- one that passes is the first
    fed_here : (given : NamedAnswer) (answers : List NamedAnswer) → completes header name given ≡ true
        → IsFedAt wants (under (given ∷ answers)) name (Some (blobs_joined (shares_shown given.answer)))
    fed_here given answers e =
        let both = and_parts _ _ e in
        let same : given.name ≡ name = same_name given.name name both.0 in (
          wanted,
          blob,
          (
            given.answer,
            record {
              before = [];
              after = answers;
              parts = ap (λ (n : Namespace). given_for n given.answer ∷ answers) same;
              complete = subst (λ (n : Namespace). IsComplete header n given.answer) same
                  ((law header given.name given.answer).0 (no_refusal _ both.1));
              none = λ answer at complete. contains_none (given_for name answer) at;
            },
            refl,
          ),
        )

    -- with one answer in front, by whether it passes
    fed_by : (given : NamedAnswer) (answers : List NamedAnswer) (b : Bool) → completes header name given ≡ b
        → IsFedAt wants (under answers) name (first_read header name answers)
        → IsFedAt wants (under (given ∷ answers)) name (option_map (λ (g : NamedAnswer). blobs_joined (shares_shown g.answer))
        (cond b (Some given) (find (completes header name) answers)))
    fed_by given answers true e fed = fed_here given answers e
    fed_by given answers false e fed = fed_later given answers (first_read header name answers) e fed

    -- a height has of a wanted namespace of a blob what the first complete answer is read as
    pub first_fed : (answers : List NamedAnswer) → IsFedAt wants (under answers) name (first_read header name answers)
    first_fed [] = λ w b answer at. absurd (contains_none (given_for name answer) at)
    first_fed (given ∷ answers) = fed_by given answers (completes header name given) refl (first_fed answers)
