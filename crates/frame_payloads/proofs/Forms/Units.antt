-- Units that are read are those that were written, and units that were written are read.
use Rattle.std.proofs.Common.{ℕ, ◌^◌, ◌≤◌, List, length, Option, arith}
use Rattle.std.specs.Int.{w32}
use Rattle.std.specs.List.{flat_map, AllByRecursion}
use Rattle.namespace_id.specs.Bytes.{AreBytes}
use Rattle.frame_payloads.specs.kinds.Units.{most, unit_at, unit_bytes, counted_at, counted_bytes}
use Rattle.frame_payloads.proofs.Fields.Numbers.{wide32}
use Rattle.frame_payloads.proofs.Fields.Texts.{IsField, text_takes, text_again}
use Rattle.frame_payloads.proofs.Fields.Lengths.{count_few}
use Rattle.frame_payloads.proofs.Fields.Lists.{list_takes, list_again}
use Rattle.frame_payloads.proofs.Fields.Fields.{Fields}
use Rattle.frame_payloads.proofs.Fields.Bases.{field}

-- a unit is a field: a byte string behind its length in four bytes
pub unit_field : IsField unit_at unit_bytes AreBytes
unit_field = record {
  takes = λ bytes text rest fits e. let t = text_takes w32 (2 ^ 32) wide32 most bytes text rest fits e in (t.0, t.1);
  again = λ text rest fits few. text_again w32 (2 ^ 32) wide32 most text rest (omega arith) (omega arith);
  some = λ text. omega arith;
}

-- values behind their count in four bytes are a field
pub counted_field : {A : Type 0} (read : List ℕ → Option (A × List ℕ)) (text : A → List ℕ) (Is : A → Type 0) → IsField read text Is
    → IsField (counted_at read) (counted_bytes text) (λ xs. AllByRecursion Is xs)
counted_field read text Is field = record {
  takes = λ bytes xs rest fits e. let t = list_takes read text Is field w32 (2 ^ 32) wide32 most bytes xs rest fits e in (t.0, t.1);
  again = λ xs rest all few.
      let count : length xs ≤ length (flat_map text xs) = count_few text field.some xs in
      list_again read text Is field w32 (2 ^ 32) wide32 most xs rest all (omega arith) (omega arith) (omega arith);
  some = λ xs. omega arith;
}

-- units behind their count are one
abbrev pub units : {R : Type 0} → Fields R (List (List ℕ))
units = field (counted_at unit_at) (counted_bytes unit_bytes) (λ xs. AllByRecursion AreBytes xs) (counted_field unit_at unit_bytes AreBytes unit_field)
