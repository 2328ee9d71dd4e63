use Rattle.std.proofs.Common.{◌≡◌, ◌∙◌, List, ℕ, sym, ap}
use Rattle.std.specs.Bool.{Decides}
use Rattle.std.specs.Str.{bytes_eq}
use Rattle.std.proofs.lemmas.Bool.Decides.{Decides-eqb}
use Rattle.std.proofs.lemmas.Slice.Eq.{bytes_eq-Decides}
use Rattle.namespace_id.specs.declared.namespaces.Namespace.{Namespace}
use Rattle.share_split.specs.Walks.{units_in, reserved_units}
use Rattle.share_split.proofs.Reading.Causes.{version_first, name_first, start_first, fill_first, no_check}
use Rattle.share_split.proofs.Reading.Named.{blobs_refused, units_refused}
use Rattle.share_split.proofs.Reading.Misstated.{first_misstated}
use Rattle.share_split.proofs.laws.refusal_laws.Goals as goal

-- namespaces are compared by their bytes
one_name : (a b : Namespace) → Decides (bytes_eq a.0 b.0) (a ≡ b)
one_name a b = (
  λ t. ap (λ (l : List ℕ). record { 0 = l }) ((bytes_eq-Decides a.0 b.0).0 t),
  λ e. (bytes_eq-Decides a.0 b.0).1 (ap (λ (n : Namespace). n.0) e),
)

-- by the checks in their order
pub returns-clause-later_version : goal.returns-clause-later_version
returns-clause-later_version c form i s share = version_first i s.first _ _ _ _ (Decides-eqb _ _)

pub returns-clause-later_name : goal.returns-clause-later_name
returns-clause-later_name c form i s share = name_first i s.first _ _ _ _ (Decides-eqb _ _) (one_name _ s.name)

pub returns-clause-later_start : goal.returns-clause-later_start
returns-clause-later_start c form i s share = start_first i s.first _ _ _ _ (Decides-eqb _ _) (one_name _ s.name)

pub returns-clause-later_fill : goal.returns-clause-later_fill
returns-clause-later_fill c form i s share = fill_first i s.first _ _ _ _ (Decides-eqb _ _) (one_name _ s.name)

pub returns-clause-later_none : goal.returns-clause-later_none
returns-clause-later_none c form i s share = no_check i s.first _ _ _ _ (Decides-eqb _ _) (one_name _ s.name)

-- by the walk over the list
pub returns-clause-blobs : goal.returns-clause-blobs
returns-clause-blobs c = blobs_refused

pub returns-clause-sequence : goal.returns-clause-sequence
returns-clause-sequence c = units_refused

pub returns-clause-units : goal.returns-clause-units
returns-clause-units c shares why refused = ap (units_in shares) ((units_refused shares why).1 refused)

-- the text is read, and then the reserved bytes
pub returns-clause-varint : goal.returns-clause-varint
returns-clause-varint c shares s at read bad = ap (units_in shares) read ∙ ap (reserved_units shares) bad

pub returns-clause-reserved : goal.returns-clause-reserved
returns-clause-reserved c shares s units i read good e =
    first_misstated units shares i (sym (ap (units_in shares) read ∙ ap (reserved_units shares) good) ∙ e)
