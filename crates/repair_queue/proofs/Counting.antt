-- Numbers that pass a test, and counts of known cells, of samples and of decided rows and columns.
pub mod PassingLemmas
pub mod CountLemmas
pub mod CountedLemmas
pub mod CountLineLemmas
pub mod SampleLemmas
pub mod RaiseLemmas
