-- Two readings of an answer are one.
use Rattle.std.proofs.Common.{◌≡◌, ◌∙◌, ◌↔◌, inl, inr, Option, Some, None, Result, Ok, Err, IfOk, OnOk, IsErrOf, refl, sym}
use Rattle.square_serve.specs.declared.checking.NsRefusal.{NsRefusal}
use Rattle.blob_feed.specs.declared.entries.Entry.{Entry}
use Rattle.blob_feed.specs.declared.reading.ReadError.{ReadError}
use Rattle.blob_feed.specs.declared.reading.ReadError.TheVariants.{Refused, NoMemory}
use Rattle.blob_feed.specs.Feeds.{Read, read_of}
use Rattle.one_answer.specs.Ones.{AreOne}

-- what is refused exactly for the first check that fails, and else read as one value
pub one_read : (refusal : Option NsRefusal) (value : Read) (r s : Result Entry ReadError)
    → IfOk r (λ entry. read_of entry ≡ value) → IfOk s (λ entry. read_of entry ≡ value)
    → OnOk r (refusal ≡ None) → OnOk s (refusal ≡ None)
    → ((why : NsRefusal) → IsErrOf r (Refused why) ↔ (refusal ≡ Some why))
    → ((why : NsRefusal) → IsErrOf s (Refused why) ↔ (refusal ≡ Some why))
    → AreOne read_of NoMemory r s
one_read refusal value (Ok a) (Ok b) r_is s_is r_none s_none R S = r_is ∙ sym s_is
one_read refusal value (Ok a) (Err NoMemory) r_is s_is r_none s_none R S = refl
one_read refusal value (Ok a) (Err (Refused why)) r_is s_is r_none s_none R S =
    let some : refusal ≡ Some why = (S why).0 refl in absurd cc
one_read refusal value (Err NoMemory) (Ok b) r_is s_is r_none s_none R S = refl
one_read refusal value (Err (Refused why)) (Ok b) r_is s_is r_none s_none R S =
    let some : refusal ≡ Some why = (R why).0 refl in absurd cc
one_read refusal value (Err NoMemory) (Err e) r_is s_is r_none s_none R S = inr (inl refl)
one_read refusal value (Err (Refused why)) (Err NoMemory) r_is s_is r_none s_none R S = inr (inr refl)
one_read refusal value (Err (Refused why)) (Err (Refused other)) r_is s_is r_none s_none R S =
    let some : refusal ≡ Some why = (R why).0 refl in let too : refusal ≡ Some other = (S other).0 refl in inl cc
