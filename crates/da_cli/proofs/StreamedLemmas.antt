-- A file that was picked and then read on.
use Rattle.std.proofs.Common.{◌≡◌, ◌∙◌, ℕ, ◌+◌, ◌≤◌, List, ◌++◌, length, take, length-append, length-take-le, Some, Ok, sym, ap, arith}
use Rattle.std.specs.Io.KnownBytes.{Consumes}
use Rattle.std.proofs.KnownBytes.{Consumes-trans}
use Rattle.da_io.specs.declared.inputs.Inputs as inputs
use Rattle.da_io.specs.declared.inputs.LastCall.{LastCall}
use Rattle.da_io.specs.declared.inputs.LastCall.TheVariants as ended
use Rattle.da_io.specs.declared.inputs.PickFailed.{PickFailed}
use Rattle.da_io.specs.Faults.{max_count, count_on}
use Rattle.da_io.specs.Files.{Picks}

module _ {I : Type 0} (i : inputs.Ghosts I) where
  -- a name was picked
  pub record HasPicked (name : List ℕ) (before now : I) : Type 0 where
    pub rest : Picks {E = PickFailed} (i.files before) name (i.rest now) (Ok tt)
    pub given : i.given now ≡ 0
    pub faults : i.faults now ≡ i.faults before
    pub picks : i.picks now ≡ count_on (i.picks before) 1
    pub picked : i.picked now ≡ Some name
    pub files : i.files now ≡ i.files before

  -- bytes were read then, with so many failures, and the last read ended so
  pub record HasRead (mid now : I) (bytes : List ℕ) (faults : ℕ) (last : LastCall) : Type 0 where
    pub moved : Consumes (i.rest mid) (i.rest now) bytes
    pub counted : i.given now ≡ count_on (i.given mid) (length bytes)
    pub faults_are : i.faults now ≡ count_on (i.faults mid) faults
    pub ended_is : i.ended now ≡ last
    pub picks : i.picks now ≡ i.picks mid
    pub picked : i.picked now ≡ i.picked mid
    pub files : i.files now ≡ i.files mid

  -- a file that is passed over: it was picked, and so many of its bytes came
  pub record IsPassing (name : List ℕ) (before now : I) (taken : ℕ) : Type 0 where
    pub mid : I
    pub bytes : List ℕ
    pub picked : HasPicked name before mid
    pub few : i.faults mid ≤ max_count
    pub read : HasRead mid now bytes 0 ended.Fine
    pub count : taken ≡ length bytes

  -- a read then gave more
  pub read_on : (mid now new : I) (bytes piece : List ℕ) → HasRead mid now bytes 0 ended.Fine → HasRead now new piece 0 ended.Fine → i.faults mid ≤ max_count
      → HasRead mid new (bytes ++ piece) 0 ended.Fine
  read_on mid now new bytes piece first second few = record {
    moved = Consumes-trans (i.rest mid) (i.rest now) (i.rest new) bytes piece first.moved second.moved;
    counted = omega (arith, first.counted, second.counted, length-append bytes piece);
    faults_are = omega (arith, first.faults_are, second.faults_are, few);
    ended_is = second.ended_is;
    picks = second.picks ∙ first.picks;
    picked = second.picked ∙ first.picked;
    files = second.files ∙ first.files;
  }

  -- more came
  pub pass_on : (name : List ℕ) (before now new : I) (taken : ℕ) (piece : List ℕ) → IsPassing name before now taken → HasRead now new piece 0 ended.Fine → IsPassing name before new (taken + length piece)
  pass_on name before now new taken piece pass read = record {
    mid = pass.mid;
    bytes = pass.bytes ++ piece;
    picked = pass.picked;
    few = pass.few;
    read = read_on pass.mid now new pass.bytes piece pass.read read pass.few;
    count = omega (arith, pass.count, length-append pass.bytes piece);
  }

  -- what one read gave
  pub one_read : (now new : I) (buf : List ℕ) (count : ℕ) → count ≤ length buf → Consumes (i.rest now) (i.rest new) (take count buf) → i.given new ≡ count_on (i.given now) count
      → i.faults new ≡ i.faults now → i.faults now ≤ max_count → i.ended new ≡ ended.Fine → i.picks new ≡ i.picks now → i.picked new ≡ i.picked now → i.files new ≡ i.files now
      → HasRead now new (take count buf) 0 ended.Fine
  one_read now new buf count within moved counted same few fine picks picked files = record {
    moved = moved;
    counted = counted ∙ ap (count_on (i.given now)) (sym (length-take-le count buf within));
    faults_are = omega (arith, same, few);
    ended_is = fine;
    picks = picks;
    picked = picked;
    files = files;
  }
