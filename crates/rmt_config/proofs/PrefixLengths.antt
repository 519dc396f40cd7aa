-- The first number of a run that keeps a rule.
pub use Rattle.rmt_bits.proofs.FindLaws.{find-here, find-next}
