-- The loop that gathers hashes.
use Rattle.std.proofs.Common.{◌≡◌, ◌∙◌, ℕ, ◌+◌, ◌-◌, ◌<◌, ◌≤◌, true, List, [], ◌∷◌, ◌++◌, length, Some, Result, Ok, Err, refl, ap, arith, length-append}
use Rattle.proto_fields.specs.Canonical.{begins_part}
use Rattle.celestia_pb.specs.Aunts.{aunt_at, with_aunt, aunts_at}
use Rattle.celestia_pb.proofs.AuntLemmas.{aunts_at-more}
use Rattle.celestia_pb.proofs.ValueLoops.{with_values, IsReading, reading_begins, reading_goes}

-- a hash before others is one of hashes before others
with_aunt-one : (hash : List ℕ) (r : Result (List (List ℕ) × List ℕ) ℕ) → with_aunt hash r ≡ with_values (hash ∷ []) r
with_aunt-one hash (Ok x) = refl
with_aunt-one hash (Err left) = refl

-- so many of these bytes were gathered, and the rest is left
pub record IsGathering (n most : ℕ) (bytes : List ℕ) (up : List (List ℕ)) (count : ℕ) (rest : List ℕ) : Type 0 where
  pub all : IsReading (aunts_at n) most bytes up count rest
  pub many : length up ≡ count
  pub few : count ≤ most
  pub shorter : length rest ≤ length bytes

-- at first all is left
pub gathering_begins : (n most : ℕ) (bytes : List ℕ) (up : List (List ℕ)) → up ≡ [] → IsGathering n most bytes up 0 bytes
gathering_begins n most bytes up none = record {
  all = reading_begins (aunts_at n) most bytes up none;
  many = ap length none;
  few = omega arith;
  shorter = omega arith;
}

-- one more is gathered
pub gathering_goes : (n most : ℕ) (bytes : List ℕ) (up : List (List ℕ)) (count : ℕ) (rest : List ℕ) → IsGathering n most bytes up count rest → count < most
    → begins_part n rest ≡ true → (hash after : List ℕ) → aunt_at n rest ≡ Some (hash, after) → length after ≤ length rest
    → (new : List (List ℕ)) → new ≡ up ++ hash ∷ [] → IsGathering n most bytes new (count + 1) after
gathering_goes n most bytes up count rest at more there hash after e less new is = record {
  all = reading_goes (aunts_at n) most bytes up count rest at.all more hash after
      (aunts_at-more n (most - (count + 1)) rest hash after there e ∙ with_aunt-one hash (aunts_at n (most - (count + 1)) after)) new is;
  many = omega (arith, ap length is, length-append up (hash ∷ []), at.many);
  few = omega arith;
  shorter = omega (arith, less, at.shorter);
}
