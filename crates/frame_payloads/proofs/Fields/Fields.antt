-- Fields as values: what reads them, what spells them, which values they have, and that both agree. Several, one after another,
-- are such a value again.
use Rattle.std.proofs.Common.{◌≡◌, ◌∙◌, ℕ, ◌^◌, ◌<◌, Bool, true, false, ◌&&◌, eqb, cond, List, [], ◌∷◌, ◌++◌, length, Option, None, Some, inl, inr, refl, sym, ap, subst, arith, append_assoc, append-nil, eqb-true}
use Rattle.std.specs.Prelude.{◌⊎◌, ⊤}
use Rattle.std.proofs.lemmas.Bool.{and_parts}
use Rattle.std.proofs.lemmas.List.{length-append}
use Rattle.std.proofs.lemmas.Option.{cond_some}
use Rattle.namespace_id.specs.Bytes.{AreBytes}
use Rattle.frame_fields.specs.Fields.{◌>>=◌, byte_at}
use Rattle.frame_payloads.proofs.Fields.Readers.{bind_some, if_false, Takes, Takes-then, Takes-read, Takes-all}
use Rattle.frame_payloads.proofs.Fields.Strings.{byte_takes}
use Rattle.frame_payloads.proofs.Fields.Texts.{IsField}

-- a value that was read, and what its reader went on with
pub record Took {R A : Type 0} (text : A → List ℕ) (Is : A → Type 0) (next : A → List ℕ → Option R) (bytes : List ℕ) (answer : R) : Type 0 where
  pub value : A
  pub rest : List ℕ
  pub takes : Takes bytes (text value) rest
  pub is : Is value
  pub on : next value rest ≡ Some answer

-- a field, or several one after another, read in front of what is read next
pub record Fields (R A : Type 0) : Type 1 where
  pub read : List ℕ → (A → List ℕ → Option R) → Option R
  pub text : A → List ℕ
  pub Is : A → Type 0
  pub takes : (bytes : List ℕ) (next : A → List ℕ → Option R) (answer : R) → AreBytes bytes → read bytes next ≡ Some answer → Took text Is next bytes answer
  pub again : (x : A) (rest : List ℕ) (next : A → List ℕ → Option R) → Is x → length (text x) < 2 ^ 32 → read (text x ++ rest) next ≡ next x rest

-- ---- one field

-- what is read is what its value is written as
abbrev pub Reads : {A : Type 0} → (List ℕ → Option (A × List ℕ)) → (A → List ℕ) → (A → Type 0) → Type 0
Reads {A} read text Is = (bytes : List ℕ) (x : A) (rest : List ℕ) → AreBytes bytes → read bytes ≡ Some (x, rest) → Takes bytes (text x) rest × Is x

-- what is written is read
abbrev pub Writes : {A : Type 0} → (List ℕ → Option (A × List ℕ)) → (A → List ℕ) → (A → Type 0) → Type 0
Writes {A} read text Is = (x : A) (rest : List ℕ) → Is x → length (text x) < 2 ^ 32 → read (text x ++ rest) ≡ Some (x, rest)

-- what is read next, of a pair
abbrev pub on_pair : {R A : Type 0} → (A → List ℕ → Option R) → A × List ℕ → Option R
on_pair next x = next x.0 x.1

-- one field
abbrev pub one : {R A : Type 0} (read : List ℕ → Option (A × List ℕ)) (text : A → List ℕ) (Is : A → Type 0) → Reads read text Is → Writes read text Is → Fields R A
one {R} {A} read text Is reads writes = record {
  read = λ bytes next. read bytes >>= on_pair next;
  text = text;
  Is = Is;
  takes = λ bytes next answer fits e.
      let a = bind_some (read bytes) (on_pair next) answer e in
      let t = reads bytes a.0.0 a.0.1 fits a.1 in
      record { value = a.0.0; rest = a.0.1; takes = t.0; is = t.1; on = a.2 };
  again = λ x rest next is few. ap (λ (r : Option (A × List ℕ)). r >>= on_pair next) (writes x rest is few);
}

-- ---- two, one after the other

-- each of two texts is as short as both
pub parts_few : (a b : List ℕ) → length (a ++ b) < 2 ^ 32 → (length a < 2 ^ 32) × (length b < 2 ^ 32)
parts_few a b few = (omega (arith, few, length-append a b), omega (arith, few, length-append a b))

-- what is read behind the first
abbrev pub behind : {R A B : Type 0} → (A → Fields R B) → (A × B → List ℕ → Option R) → A → List ℕ → Option R
behind g next a rest = (g a).read rest (λ b. next (a, b))

-- a field, and one that goes by its value
abbrev pub then_field : {R A B : Type 0} → Fields R A → (A → Fields R B) → Fields R (A × B)
then_field f g = record {
  read = λ bytes next. f.read bytes (behind g next);
  text = λ x. f.text x.0 ++ (g x.0).text x.1;
  Is = λ x. f.Is x.0 × (g x.0).Is x.1;
  takes = λ bytes next answer fits e.
      let a = f.takes bytes (behind g next) answer fits e in
      let b = (g a.value).takes a.rest (λ b. next (a.value, b)) answer a.takes.rest_fits a.on in
      record { value = (a.value, b.value); rest = b.rest; takes = Takes-then bytes (f.text a.value) a.rest ((g a.value).text b.value) b.rest a.takes b.takes; is = (a.is, b.is); on = b.on };
  again = λ x rest next is few.
      let both = parts_few (f.text x.0) ((g x.0).text x.1) few in
      ap (λ (l : List ℕ). f.read l (behind g next)) (append_assoc (f.text x.0) ((g x.0).text x.1) rest)
      ∙ f.again x.0 ((g x.0).text x.1 ++ rest) (behind g next) is.0 both.0 ∙ (g x.0).again x.1 rest (λ b. next (x.0, b)) is.1 both.1;
}

-- two, one after the other
infixl 10 ◌▸◌
abbrev pub ◌▸◌ : {R A B : Type 0} → Fields R A → Fields R B → Fields R (A × B)
f ▸ g = then_field f (λ a. g)

-- ---- fields under a bound

-- what is read behind a test that refuses
abbrev pub unless : {R A : Type 0} → (A → Bool) → (A → List ℕ → Option R) → A → List ℕ → Option R
unless refused next x rest = cond (refused x) None (next x rest)

-- a value that isn't refused
abbrev pub IsWithin : {A : Type 0} → (A → Type 0) → (A → Bool) → A → Type 0
IsWithin Is refused x = Is x × (refused x ≡ false)

-- fields of which some values are refused
abbrev pub bounded : {R A : Type 0} → Fields R A → (A → Bool) → Fields R A
bounded f refused = record {
  read = λ bytes next. f.read bytes (unless refused next);
  text = f.text;
  Is = IsWithin f.Is refused;
  takes = λ bytes next answer fits e.
      let t = f.takes bytes (unless refused next) answer fits e in
      let g = if_false (refused t.value) (next t.value t.rest) answer t.on in
      record { value = t.value; rest = t.rest; takes = t.takes; is = (t.is, g.0); on = g.1 };
  again = λ x rest next is few. f.again x rest (unless refused next) is.0 few ∙ ap (λ (b : Bool). cond b None (next x rest)) is.1;
}

-- ---- a value that fields are

-- there and back between fields and a value
pub record AreMaps {R A X : Type 0} (f : Fields R A) (make : A → X) (parts : X → A) (Is : X → Type 0) : Type 0 where
  pub there : (a : A) → f.Is a → Is (make a) × (parts (make a) ≡ a)
  pub back : (x : X) → Is x → f.Is (parts x) × (make (parts x) ≡ x)

-- fields as the value that is made of them
abbrev pub as_field : {R A X : Type 0} (f : Fields R A) (make : A → X) (parts : X → A) (Is : X → Type 0) → AreMaps f make parts Is → Fields R X
as_field {R} {A} {X} f make parts Is maps = record {
  read = λ bytes next. f.read bytes (λ a. next (make a));
  text = λ x. f.text (parts x);
  Is = Is;
  takes = λ bytes next answer fits e.
      let t = f.takes bytes (λ a. next (make a)) answer fits e in
      let m = maps.there t.value t.is in
      record { value = make t.value; rest = t.rest; takes = subst (λ (a : A). Takes bytes (f.text a) t.rest) (sym m.1) t.takes; is = m.0; on = t.on };
  again = λ x rest next is few. let m = maps.back x is in f.again (parts x) rest (λ a. next (make a)) m.0 few ∙ ap (λ (y : X). next y rest) m.1;
}

-- ---- nothing, and one of two behind a tag

-- a field without a byte
abbrev pub nothing : {R : Type 0} → Fields R ⊤
nothing = record {
  read = λ bytes next. next tt bytes;
  text = λ x. [];
  Is = λ x. ⊤;
  takes = λ bytes next answer fits e. record { value = tt; rest = bytes; takes = record { parts = refl; rest_fits = fits }; is = tt; on = e };
  again = λ x rest next is few. refl;
}

-- what is read behind the tag
abbrev pub by_tag : {R A B : Type 0} → Fields R A → Fields R B → (A ⊎ B → List ℕ → Option R) → ℕ × List ℕ → Option R
by_tag f g next tag = cond (eqb tag.0 0) (f.read tag.1 (λ a. next (inl a))) (cond (eqb tag.0 1) (g.read tag.1 (λ b. next (inr b))) None)

-- 0 and the one, or 1 and the other
abbrev pub either_text : {R A B : Type 0} → Fields R A → Fields R B → A ⊎ B → List ℕ
either_text f g (inl a) = 0 ∷ f.text a
either_text f g (inr b) = 1 ∷ g.text b

-- the values of either
abbrev pub IsEither : {R A B : Type 0} → Fields R A → Fields R B → A ⊎ B → Type 0
IsEither f g (inl a) = f.Is a
IsEither f g (inr b) = g.Is b

-- what is taken behind a tag is taken with it
with_tag : (bytes : List ℕ) (tag n : ℕ) (tail text rest : List ℕ) → Takes bytes (tag ∷ []) tail → eqb tag n ≡ true → Takes tail text rest → Takes bytes (n ∷ text) rest
with_tag bytes tag n tail text rest t is u = Takes-then bytes (n ∷ []) tail text rest (subst (λ (m : ℕ). Takes bytes (m ∷ []) tail) (eqb-true tag n is) t) u

-- what was taken is what the tag says
tag_takes : {R A B : Type 0} (f : Fields R A) (g : Fields R B) (zero one : Bool) (bytes : List ℕ) (tag : ℕ) (tail : List ℕ) (next : A ⊎ B → List ℕ → Option R) (answer : R)
    → Takes bytes (tag ∷ []) tail → eqb tag 0 ≡ zero → eqb tag 1 ≡ one → cond zero (f.read tail (λ a. next (inl a))) (cond one (g.read tail (λ b. next (inr b))) None) ≡ Some answer
    → Took (either_text f g) (IsEither f g) next bytes answer
tag_takes f g true one bytes tag tail next answer t zero_is one_is e =
    let a = f.takes tail (λ a. next (inl a)) answer t.rest_fits e in
    record { value = inl a.value; rest = a.rest; takes = with_tag bytes tag 0 tail (f.text a.value) a.rest t zero_is a.takes; is = a.is; on = a.on }
tag_takes f g false true bytes tag tail next answer t zero_is one_is e =
    let b = g.takes tail (λ b. next (inr b)) answer t.rest_fits e in
    record { value = inr b.value; rest = b.rest; takes = with_tag bytes tag 1 tail (g.text b.value) b.rest t one_is b.takes; is = b.is; on = b.on }
tag_takes f g false false bytes tag tail next answer t zero_is one_is e = absurd cc

-- what either took
pub either_takes : {R A B : Type 0} (f : Fields R A) (g : Fields R B) (bytes : List ℕ) (next : A ⊎ B → List ℕ → Option R) (answer : R) → AreBytes bytes
    → (byte_at bytes >>= by_tag f g next) ≡ Some answer → Took (either_text f g) (IsEither f g) next bytes answer
either_takes f g bytes next answer fits e =
    let t = bind_some (byte_at bytes) (by_tag f g next) answer e in
    tag_takes f g (eqb t.0.0 0) (eqb t.0.0 1) bytes t.0.0 t.0.1 next answer (byte_takes bytes t.0.0 t.0.1 fits t.1).0 refl refl t.2

-- either that was written is read
pub either_again : {R A B : Type 0} (f : Fields R A) (g : Fields R B) (x : A ⊎ B) (rest : List ℕ) (next : A ⊎ B → List ℕ → Option R) → IsEither f g x → length (either_text f g x) < 2 ^ 32
    → (byte_at (either_text f g x ++ rest) >>= by_tag f g next) ≡ next x rest
either_again f g (inl a) rest next is few = f.again a rest (λ a. next (inl a)) is (omega (arith, few))
either_again f g (inr b) rest next is few = g.again b rest (λ b. next (inr b)) is (omega (arith, few))

-- one behind the tag 0, or another behind the tag 1
abbrev pub either : {R A B : Type 0} → Fields R A → Fields R B → Fields R (A ⊎ B)
either f g = record {
  read = λ bytes next. byte_at bytes >>= by_tag f g next;
  text = either_text f g;
  Is = IsEither f g;
  takes = either_takes f g;
  again = either_again f g;
}

-- ---- all that is read

-- a value, where any bytes may follow
abbrev pub in_front : {X : Type 0} → X → List ℕ → Option (X × List ℕ)
in_front x rest = Some (x, rest)

-- a value, where no byte follows
abbrev pub ended : {X : Type 0} → X → List ℕ → Option X
ended x rest = cond (eqb (length rest) 0) (Some x) None

-- what is read in front is what it is spelled as
pub front_takes : {X : Type 0} (f : Fields (X × List ℕ) X) (bytes : List ℕ) (x : X) (rest : List ℕ) → AreBytes bytes → f.read bytes in_front ≡ Some (x, rest) → Takes bytes (f.text x) rest × f.Is x
front_takes f bytes x rest fits e =
    let t = f.takes bytes in_front (x, rest) fits e in
    Takes-read f.text f.Is bytes t.value x t.rest rest t.on t.is t.takes

-- fields that are read in front are a field
pub field_of : {X : Type 0} (f : Fields (X × List ℕ) X) (read : List ℕ → Option (X × List ℕ)) (text : X → List ℕ) → ((bytes : List ℕ) → read bytes ≡ f.read bytes in_front) → ((x : X) → text x ≡ f.text x)
    → ((x : X) → 0 < length (text x)) → IsField read text f.Is
field_of f read text read_is text_is some = record {
  takes = λ bytes x rest fits e.
      let t = front_takes f bytes x rest fits (sym (read_is bytes) ∙ e) in
      (subst (λ (l : List ℕ). Takes bytes l rest) (sym (text_is x)) t.0, t.1);
  again = λ x rest is few.
      read_is (text x ++ rest) ∙ ap (λ (l : List ℕ). f.read (l ++ rest) in_front) (text_is x)
      ∙ f.again x rest in_front is (subst (λ (l : List ℕ). length l < 2 ^ 32) (text_is x) few);
  some = some;
}

-- values that are made of fields are a field
pub made_field : {A X : Type 0} {f : Fields (X × List ℕ) A} {make : A → X} {parts : X → A} {Is : X → Type 0} → AreMaps f make parts Is → (read : List ℕ → Option (X × List ℕ)) (text : X → List ℕ)
    → ((bytes : List ℕ) → read bytes ≡ f.read bytes (λ a. in_front (make a))) → ((x : X) → text x ≡ f.text (parts x)) → ((x : X) → 0 < length (text x)) → IsField read text Is
made_field {A} {X} {f} {make} {parts} {Is} maps read text read_is text_is some = field_of (as_field f make parts Is maps) read text read_is text_is some

-- what is read of all bytes is what they spell
pub ended_takes : {X : Type 0} (f : Fields X X) (bytes : List ℕ) (x : X) → AreBytes bytes → f.read bytes ended ≡ Some x → f.Is x × (bytes ≡ f.text x)
ended_takes {X} f bytes x fits e =
    let t = f.takes bytes ended x fits e in
    let g = cond_some (eqb (length t.rest) 0) t.value x t.on in
    subst (λ (y : X). f.Is y × (bytes ≡ f.text y)) g.1 (t.is, Takes-all bytes (f.text t.value) t.rest t.takes (eqb-true (length t.rest) 0 g.0))

-- what is spelled is read
pub ended_again : {X : Type 0} (f : Fields X X) (x : X) → f.Is x → length (f.text x) < 2 ^ 32 → f.read (f.text x) ended ≡ Some x
ended_again f x is few = ap (λ (l : List ℕ). f.read l ended) (sym (append-nil (f.text x))) ∙ f.again x [] ended is few

-- a value, where no byte follows and a test holds
abbrev pub ended_if : {X : Type 0} → (X → Bool) → X → List ℕ → Option X
ended_if test x rest = cond (eqb (length rest) 0 && test x) (Some x) None

-- what is read of all bytes is what they spell, and passes the test
pub ended_if_takes : {X : Type 0} (f : Fields X X) (test : X → Bool) (bytes : List ℕ) (x : X) → AreBytes bytes → f.read bytes (ended_if test) ≡ Some x → f.Is x × (bytes ≡ f.text x) × (test x ≡ true)
ended_if_takes {X} f test bytes x fits e =
    let t = f.takes bytes (ended_if test) x fits e in
    let g = cond_some (eqb (length t.rest) 0 && test t.value) t.value x t.on in
    let both = and_parts (eqb (length t.rest) 0) (test t.value) g.0 in
    subst (λ (y : X). f.Is y × (bytes ≡ f.text y) × (test y ≡ true)) g.1 (t.is, Takes-all bytes (f.text t.value) t.rest t.takes (eqb-true (length t.rest) 0 both.0), both.1)

-- what is spelled and passes the test is read
pub ended_if_again : {X : Type 0} (f : Fields X X) (test : X → Bool) (x : X) → f.Is x → test x ≡ true → length (f.text x) < 2 ^ 32 → f.read (f.text x) (ended_if test) ≡ Some x
ended_if_again f test x is passes few =
    ap (λ (l : List ℕ). f.read l (ended_if test)) (sym (append-nil (f.text x))) ∙ f.again x [] (ended_if test) is few ∙ ap (λ (b : Bool). cond b (Some x) None) passes
