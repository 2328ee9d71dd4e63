-- Samples that are those of a whole row: the first of a list, and the shares along the row.
use Rattle.std.proofs.Common.{◌≡◌, ◌∙◌, ℕ, suc, ◌+◌, ◌<◌, Bool, true, false, cond, List, [], ◌∷◌, ◌++◌, length, Some, None, IsSome, IfSome, MatchOption, option_map, refl, sym, ap, subst, arith, append_assoc, append-nil}
use Rattle.std.specs.declared.option.Option.{Option}
use Rattle.std.specs.Borrow.{Bor}
use Rattle.std.specs.List.{filter_map}
use Rattle.std.proofs.lemmas.Option.{same_Some}
use Rattle.namespace_id.specs.declared.shares.Share.{Share}
use Rattle.axis_roots.specs.declared.message.messages.Message as sent
use Rattle.da_wire.specs.declared.frames.Frame.{Frame}
use Rattle.da_wire.specs.declared.frames.Frame.TheVariants.{Message}
use Rattle.da_wire.specs.Spelling.{message_kind}
use Rattle.da_wire.specs.Reading.{is_among}
use Rattle.da_wire.specs.Writing.{kind_of}
use Rattle.da_wire.specs.Single.{message_of}
use Rattle.da_exchanging.specs.LeftHalf.{file_samples, is_at, shares_along}

-- a frame of this kind is a sample
pub message_there : (frame : Frame) → is_among (message_kind ∷ []) (kind_of frame) ≡ true → IsSome (message_of frame)
message_there (Message m) e = refl
message_there frame e = absurd cc

-- which is the first of the samples
pub first_sample : (frame : Frame) (frames : List Frame) (m : sent.Message) → message_of frame ≡ Some m
    → filter_map message_of (frame ∷ frames) ≡ m ∷ filter_map message_of frames
first_sample (Message n) frames m is = ap (λ (x : sent.Message). x ∷ filter_map message_of frames) (same_Some n m is)
first_sample frame frames m is = absurd cc

-- shares in front of others
abbrev pub with_front : List Share → Option (List Share) → Option (List Share)
with_front shares others = option_map (λ (l : List Share). shares ++ l) others

pub front_none : (others : Option (List Share)) → others ≡ with_front [] others
front_none None = refl
front_none (Some l) = refl

front_more : (shares : List Share) (share : Share) (others : Option (List Share))
    → with_front shares (option_map (λ l. share ∷ l) others) ≡ with_front (shares ++ share ∷ []) others
front_more shares share None = refl
front_more shares share (Some l) = ap (λ (x : List Share). Some x) (sym (append_assoc shares (share ∷ []) l))

-- by whether a sample is that of the next column
along_by : (row col : ℕ) (m : sent.Message) (messages : List sent.Message) (b : Bool) → is_at row col m ≡ b
    → shares_along row col (m ∷ messages) ≡ cond b (option_map (λ l. m.share ∷ l) (shares_along row (suc col) messages)) None
unfolding shares_along
along_by row col m messages b is = ap (λ (t : Bool). cond t (option_map (λ l. m.share ∷ l) (shares_along row (suc col) messages)) None) is

along_none : (row col : ℕ) → shares_along row col [] ≡ Some []
unfolding shares_along
along_none row col = refl

module _ (row col : ℕ) (all : Option (List Share)) (shares : List Share) (left : List sent.Message)
    (so_far : all ≡ with_front shares (shares_along row col left)) where
  -- the next sample is another one
  pub along_other : (m : sent.Message) (messages : List sent.Message) → left ≡ m ∷ messages → is_at row col m ≡ false → all ≡ None
  along_other m messages next other =
      so_far ∙ ap (with_front shares) (ap (shares_along row col) next ∙ along_by row col m messages false other)

  -- it is that of the next column
  pub along_more : (m : sent.Message) (messages : List sent.Message) → left ≡ m ∷ messages → is_at row col m ≡ true → (new : List Share)
      → new ≡ shares ++ m.share ∷ [] → all ≡ with_front new (shares_along row (col + 1) messages)
  along_more m messages next here new pushed =
      let more : suc col ≡ col + 1 = omega arith in
      so_far ∙ ap (with_front shares) (ap (shares_along row col) next ∙ along_by row col m messages true here)
      ∙ front_more shares m.share (shares_along row (suc col) messages)
      ∙ ap (λ (n : ℕ). with_front (shares ++ m.share ∷ []) (shares_along row n messages)) more
      ∙ sym (ap (λ (l : List Share). with_front l (shares_along row (col + 1) messages)) pushed)

  -- none is left
  pub along_end : left ≡ [] → all ≡ Some shares
  along_end none =
      so_far ∙ ap (with_front shares) (ap (shares_along row col) none ∙ along_none row col) ∙ ap (λ (l : List Share). Some l) (append-nil shares)

-- ---- what stands at the front of samples

-- none does
pub none_left : (found : Option (sent.Message × Bor (List ℕ))) (bytes : List ℕ) → found ≡ None
    → MatchOption found (file_samples bytes ≡ []) (λ x. file_samples bytes ≡ x.0 ∷ file_samples x.1.now) → file_samples bytes ≡ []
none_left None bytes is h = h
none_left (Some x) bytes is h = absurd cc

-- one does
pub one_left : (found : Option (sent.Message × Bor (List ℕ))) (bytes : List ℕ) (m : sent.Message) (after : Bor (List ℕ)) → found ≡ Some (m, after)
    → MatchOption found (file_samples bytes ≡ []) (λ x. file_samples bytes ≡ x.0 ∷ file_samples x.1.now) → file_samples bytes ≡ m ∷ file_samples after.now
one_left None bytes m after is h = absurd cc
one_left (Some x) bytes m after is h =
    subst (λ (y : sent.Message × Bor (List ℕ)). file_samples bytes ≡ y.0 ∷ file_samples y.1.now) (same_Some x (m, after) is) h

-- and then fewer bytes are left
pub fewer_left : (found : Option (sent.Message × Bor (List ℕ))) (bytes : List ℕ) (m : sent.Message) (after : Bor (List ℕ)) → found ≡ Some (m, after)
    → IfSome found (λ x. length x.1.now < length bytes) → length after.now < length bytes
fewer_left None bytes m after is h = absurd cc
fewer_left (Some x) bytes m after is h =
    subst (λ (y : sent.Message × Bor (List ℕ)). length y.1.now < length bytes) (same_Some x (m, after) is) h
