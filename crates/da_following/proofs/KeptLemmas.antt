-- What is kept of the height under way, with one answer more.
use Rattle.std.proofs.Common.{◌≡◌, ◌∙◌, List, [], ◌∷◌, ◌++◌, Bool, true, false, cond, ◌&&◌, Option, Some, None, is_some, is_none, refl, sym, ap, ap₂, subst, inl, inr}
use Rattle.std.specs.Prelude.{ℕ}
use Rattle.std.specs.Option.{option_map, option_or}
use Rattle.std.proofs.lemmas.Bool.{cases_Bool}
use Rattle.namespace_id.specs.declared.namespaces.Namespace.{Namespace}
use Rattle.share_split.specs.Walks.{blobs_joined}
use Rattle.data_header.specs.Headers.{Roots}
use Rattle.square_serve.specs.declared.checking.NsRefusal.{NsRefusal}
use Rattle.square_serve.specs.Answers.{answer_refusal}
use Rattle.blob_feed.specs.Feeds.{NamedAnswer, Read, shares_shown}
use Rattle.blob_feed.specs.Followers.{is_name}
use Rattle.blob_feed.specs.Firsts.{completes, first_read}
use Rattle.blob_feed.proofs.NameLemmas.{same_name, same_refl}
use Rattle.blob_feed.proofs.FirstLemmas.{first_more, map_or}
use Rattle.da_following.specs.Heights.{said, first_said}

-- one or else nothing is that one
pub or_none : {X : Type 0} (o : Option X) → o ≡ option_or o None
or_none None = refl
or_none (Some x) = refl

-- something stays, whatever else there is
pub or_some : {X : Type 0} (o other : Option X) → is_some o ≡ true → o ≡ option_or o other
or_some None other e = absurd cc
or_some (Some x) other e = refl

-- what is made of something is something
pub some_map : {A B : Type 0} (f : A → B) (o : Option A) → is_some (option_map f o) ≡ is_some o
some_map f None = refl
some_map f (Some x) = refl

-- and of nothing nothing
pub none_map : {A B : Type 0} (f : A → B) (o : Option A) → is_some o ≡ false → option_map f o ≡ None
none_map f None e = refl
none_map f (Some x) e = absurd cc

-- behind some answers one more says what none of them does
pub said_more : (header : Roots) (name : Namespace) (answers : List NamedAnswer) (given : NamedAnswer)
    → first_said header name (answers ++ given ∷ []) ≡ option_or (first_said header name answers) (first_said header name (given ∷ []))
said_more header name answers given =
    ap (option_map said) (first_more header name answers given)
    ∙ map_or said (first_read header name answers) (first_read header name (given ∷ []))

module _ (header : Roots) (given : NamedAnswer) where
  -- an answer says nothing of another namespace
  pub said_other : (other : Namespace) → is_name given.name other ≡ false → first_said header other (given ∷ []) ≡ None
  said_other other e =
      ap (λ (b : Bool). option_map said (option_map (λ (g : NamedAnswer). blobs_joined (shares_shown g.answer))
      (cond (b && is_none (answer_refusal header given.name given.answer)) (Some given) None))) e

  -- what it says of its own, by whether it is complete
  said_own : (b : Bool) → completes header given.name given ≡ b
      → first_said header given.name (given ∷ []) ≡ option_map said (option_map (λ (g : NamedAnswer). blobs_joined (shares_shown g.answer))
      (cond b (Some given) None))
  said_own b e =
      ap (λ (t : Bool). option_map said (option_map (λ (g : NamedAnswer). blobs_joined (shares_shown g.answer)) (cond t (Some given) None))) e

  -- one that is refused says nothing of it
  pub said_refused : (why : NsRefusal) → answer_refusal header given.name given.answer ≡ Some why
      → first_said header given.name (given ∷ []) ≡ None
  said_refused why some =
      said_own false (ap₂ (λ (b : Bool) (o : Option NsRefusal). b && is_none o) (same_refl given.name) some)

  -- one that is complete says what its shares are read as
  pub said_complete : (read : Read) → answer_refusal header given.name given.answer ≡ None
      → read ≡ blobs_joined (shares_shown given.answer) → first_said header given.name (given ∷ []) ≡ Some (said read)
  said_complete read none is =
      said_own true (ap₂ (λ (b : Bool) (o : Option NsRefusal). b && is_none o) (same_refl given.name) none)
      ∙ ap (λ (r : Read). Some (said r)) (sym is)

  module _ (kept : Namespace → Option (List ℕ)) where
    -- what is kept of each namespace with the answer
    abbrev pub AreWith : (Namespace → Option (List ℕ)) → Type 0
    AreWith new = (other : Namespace) → new other ≡ option_or (kept other) (first_said header other (given ∷ []))

    -- so it is where it is so of the answer's namespace, and of others nothing changes
    pub kept_with : (new : Namespace → Option (List ℕ)) → new given.name ≡ option_or (kept given.name) (first_said header given.name (given ∷ []))
        → ((other : Namespace) → is_name given.name other ≡ false → new other ≡ kept other) → AreWith new
    kept_with new own others = λ other. elim (cases_Bool (is_name given.name other)) [
      | inl e ↦ subst (λ (n : Namespace). new n ≡ option_or (kept n) (first_said header n (given ∷ []))) (same_name given.name other e) own
      | inr e ↦ others other e ∙ or_none (kept other) ∙ ap (option_or (kept other)) (sym (said_other other e))
    ]
