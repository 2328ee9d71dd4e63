-- Parts of trees: their digests, their halves, and what is shown of them.
pub mod ListLemmas
pub mod BegunLemmas
pub mod SingleLemmas
pub mod StepLemmas
pub mod ValueLemmas
pub mod CauseLemmas
pub mod ShadowLemmas
pub mod PublicLemmas
pub mod DigestLemmas
pub mod WholeLemmas
pub mod ShownLemmas
pub mod HashedLemmas
pub mod OrderLemmas
