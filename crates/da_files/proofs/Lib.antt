pub mod ContentsLemmas
pub mod FormLemmas
pub mod FrameLemmas
pub mod ValueLemmas
pub mod FileLemmas
pub mod RequestLemmas
pub mod SpelledLemmas
