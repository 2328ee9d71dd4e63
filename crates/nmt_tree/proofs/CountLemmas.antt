-- What is known of the powers of two, said of numbers of leaves.
pub use Rattle.namespace_id.proofs.PowerLemmas.{power_halvings, halvings_half}
pub use Rattle.namespace_id.proofs.PowerLemmas.{power-pos as leaf_count-pos, power-le as leaf_count-le, power_of as leaf_count_power}
