-- Groups that are open at once, one in another.
use Rattle.std.proofs.Common.{◌≡◌, ◌≢◌, ◌∙◌, ℕ, zero, suc, ◌+◌, ◌-◌, ◌≤◌, ◌<◌, List, length, get_or, set, Option, Some, None, option_map, option_and_then, refl, sym, ap, arith, add-one}
use Rattle.std.proofs.lemmas.List.{get_or-set_same, get_or-set_other}
use Rattle.proto_fields.specs.declared.tags.Tag.{Tag}
use Rattle.proto_fields.specs.declared.tags.Wire.{Wire}
use Rattle.proto_fields.specs.declared.tags.Wire.TheVariants.{GroupStart, GroupEnd}
use Rattle.proto_fields.specs.Fields.{ValueParts, other_value, tag_at, behind_group, value_at}
use Rattle.proto_fields.proofs.GroupLemmas.{group_goes, group_stops, group_done, group_crossed, group_untagged, value_reader, value_at-group}

-- what follows a group of this number, in which so many may be open
abbrev pub behind_one : ℕ → ℕ → List ℕ → Option (List ℕ)
behind_one most n bytes = behind_group (value_at most) n (length bytes) bytes

-- what follows all open groups, where this follows the innermost; `outer` are the numbers of the others, the outermost first, in
-- which so many may be open
unfoldable pub behind_all : ℕ → List ℕ → ℕ → Option (List ℕ) → Option (List ℕ)
behind_all most outer zero behind = behind
behind_all most outer (suc deep) behind =
    behind_all most outer deep (option_and_then (λ rest. behind_one (most - deep) (get_or outer deep 0) rest) behind)

-- no other is open
all-zero : (most : ℕ) (outer : List ℕ) (behind : Option (List ℕ)) → behind_all most outer zero behind ≡ behind
unfolding behind_all
all-zero most outer behind = refl

-- one more is
all-suc : (most : ℕ) (outer : List ℕ) (deep : ℕ) (behind : Option (List ℕ)) → behind_all most outer (suc deep) behind
    ≡ behind_all most outer deep (option_and_then (λ rest. behind_one (most - deep) (get_or outer deep 0) rest) behind)
unfolding behind_all
all-suc most outer deep behind = refl

-- where nothing follows the innermost nothing follows all
all-none : (most : ℕ) (outer : List ℕ) (deep : ℕ) → behind_all most outer deep None ≡ None
all-none most outer zero = all-zero most outer None
all-none most outer (suc deep) = all-suc most outer deep None ∙ all-none most outer deep

-- numbers behind those of the open groups don't matter
all-set : (most : ℕ) (outer : List ℕ) (deep at n : ℕ) (behind : Option (List ℕ)) → deep ≤ at
    → behind_all most (set outer at n) deep behind ≡ behind_all most outer deep behind
all-set most outer zero at n behind le = all-zero most (set outer at n) behind ∙ sym (all-zero most outer behind)
all-set most outer (suc deep) at n behind le =
    let other : deep ≢ at = omega arith in
    all-suc most (set outer at n) deep behind
    ∙ ap (λ (number : ℕ). behind_all most (set outer at n) deep (option_and_then (λ rest. behind_one (most - deep) number rest) behind))
    (get_or-set_other outer at deep n 0 other)
    ∙ all-set most outer deep at n (option_and_then (λ rest. behind_one (most - deep) (get_or outer deep 0) rest) behind) (omega arith)
    ∙ sym (all-suc most outer deep behind)

-- ---- the walk

-- at first one is open
pub open_begins : (most : ℕ) (outer : List ℕ) (n : ℕ) (bytes : List ℕ) → behind_all most outer 0 (behind_one (most - 0) n bytes) ≡ behind_one most n bytes
open_begins most outer n bytes =
    let same : most - 0 ≡ most = omega arith in
    all-zero most outer (behind_one (most - 0) n bytes) ∙ ap (λ (k : ℕ). behind_one k n bytes) same

-- the last one ends
pub open_done : (most : ℕ) (outer : List ℕ) (n deep : ℕ) (bytes : List ℕ) (read : Tag × List ℕ)
    → tag_at bytes ≡ Some read → read.0.wire ≡ GroupEnd → read.0.number ≡ n → deep ≡ 0
    → behind_all most outer deep (behind_one (most - deep) n bytes) ≡ Some read.1
open_done most outer n zero bytes read e ends same none =
    all-zero most outer (behind_one (most - zero) n bytes) ∙ group_done (value_at (most - zero)) n bytes read e ends same
open_done most outer n (suc deep) bytes read e ends same none = absurd (omega arith)

-- one ends in another
pub open_closes : (most : ℕ) (outer : List ℕ) (n deep : ℕ) (bytes : List ℕ) (read : Tag × List ℕ)
    → tag_at bytes ≡ Some read → read.0.wire ≡ GroupEnd → read.0.number ≡ n → 0 < deep
    → behind_all most outer deep (behind_one (most - deep) n bytes)
    ≡ behind_all most outer (deep - 1) (behind_one (most - (deep - 1)) (get_or outer (deep - 1) 0) read.1)
open_closes most outer n zero bytes read e ends same some = absurd (omega arith)
open_closes most outer n (suc deep) bytes read e ends same some =
    let less : deep ≡ suc deep - 1 = omega arith in
    ap (behind_all most outer (suc deep)) (group_done (value_at (most - suc deep)) n bytes read e ends same)
    ∙ all-suc most outer deep (Some read.1)
    ∙ ap (λ (k : ℕ). behind_all most outer k (behind_one (most - k) (get_or outer k 0) read.1)) less

-- the end of another number isn't one
pub open_crossed : (most : ℕ) (outer : List ℕ) (n deep : ℕ) (bytes : List ℕ) (read : Tag × List ℕ)
    → tag_at bytes ≡ Some read → read.0.wire ≡ GroupEnd → read.0.number ≢ n
    → behind_all most outer deep (behind_one (most - deep) n bytes) ≡ None
open_crossed most outer n deep bytes read e ends other =
    ap (behind_all most outer deep) (group_crossed (value_at (most - deep)) n bytes read e ends other) ∙ all-none most outer deep

-- no tag is there
pub open_untagged : (most : ℕ) (outer : List ℕ) (n deep : ℕ) (bytes : List ℕ) → tag_at bytes ≡ None
    → behind_all most outer deep (behind_one (most - deep) n bytes) ≡ None
open_untagged most outer n deep bytes e =
    ap (behind_all most outer deep) (group_untagged (value_at (most - deep)) n bytes e) ∙ all-none most outer deep

-- no value is behind a tag
pub open_stops : (most : ℕ) (outer : List ℕ) (n deep : ℕ) (bytes : List ℕ) (read : Tag × List ℕ)
    → tag_at bytes ≡ Some read → (read.0.wire ≡ GroupEnd → ⊥) → value_at (most - deep) read.0 read.1 ≡ None
    → behind_all most outer deep (behind_one (most - deep) n bytes) ≡ None
open_stops most outer n deep bytes read e goes none =
    ap (behind_all most outer deep) (group_stops (value_at (most - deep)) n bytes read e goes none) ∙ all-none most outer deep

-- a value is
pub open_goes : (most : ℕ) (outer : List ℕ) (n deep : ℕ) (bytes : List ℕ) (read : Tag × List ℕ) (passed : ValueParts × List ℕ)
    → tag_at bytes ≡ Some read → (read.0.wire ≡ GroupEnd → ⊥) → value_at (most - deep) read.0 read.1 ≡ Some passed
    → behind_all most outer deep (behind_one (most - deep) n bytes) ≡ behind_all most outer deep (behind_one (most - deep) n passed.1)
open_goes most outer n deep bytes read passed e goes there =
    ap (behind_all most outer deep) (group_goes (value_at (most - deep)) (value_reader (most - deep)) n bytes read passed e goes there)

-- ---- one more that opens

-- the start of a group is no end
starts : (wire : Wire) → wire ≡ GroupStart → wire ≡ GroupEnd → ⊥
starts wire is ends = absurd cc

-- what follows a group in a group
opens_by : (most n : ℕ) (bytes : List ℕ) (read : Tag × List ℕ) → tag_at bytes ≡ Some read → read.0.wire ≡ GroupStart → 0 < most
    → (o : Option (List ℕ)) → behind_one (most - 1) read.0.number read.1 ≡ o
    → behind_one most n bytes ≡ option_and_then (λ rest. behind_one most n rest) o
opens_by most n bytes read e is some None h =
    group_stops (value_at most) n bytes read e (starts read.0.wire is)
    (value_at-group most read.0 read.1 is some ∙ ap (option_map (λ rest. (other_value, rest))) h)
opens_by most n bytes read e is some (Some rest) h =
    group_goes (value_at most) (value_reader most) n bytes read (other_value, rest) e (starts read.0.wire is)
    (value_at-group most read.0 read.1 is some ∙ ap (option_map (λ rest. (other_value, rest))) h)

pub open_more : (most : ℕ) (outer : List ℕ) (n deep : ℕ) (bytes : List ℕ) (read : Tag × List ℕ)
    → tag_at bytes ≡ Some read → read.0.wire ≡ GroupStart → deep < most → deep < length outer
    → behind_all most outer deep (behind_one (most - deep) n bytes)
    ≡ behind_all most (set outer deep n) (deep + 1) (behind_one (most - (deep + 1)) read.0.number read.1)
open_more most outer n deep bytes read e is few room =
    let less : most - deep - 1 ≡ most - suc deep = omega arith in
    let inside : Option (List ℕ) = behind_one (most - suc deep) read.0.number read.1 in
    ap (behind_all most outer deep)
    (opens_by (most - deep) n bytes read e is (omega arith) inside (ap (λ (k : ℕ). behind_one k read.0.number read.1) less))
    ∙ sym (all-set most outer deep deep n (option_and_then (λ rest. behind_one (most - deep) n rest) inside) (omega arith))
    ∙ ap (λ (number : ℕ). behind_all most (set outer deep n) deep (option_and_then (λ rest. behind_one (most - deep) number rest) inside))
    (sym (get_or-set_same outer deep n 0 room))
    ∙ sym (all-suc most (set outer deep n) deep inside)
    ∙ ap (λ (k : ℕ). behind_all most (set outer deep n) k (behind_one (most - k) read.0.number read.1)) (sym (add-one deep))
