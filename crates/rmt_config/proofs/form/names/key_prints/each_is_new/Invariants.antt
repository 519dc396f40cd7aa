use Rattle.std.proofs.Common.{◌≡◌, ℕ, List, length, drop, true}
use Rattle.rmt_config.specs.KeyPrints.{kept_of_keys}
use Rattle.rmt_config.proofs.SpelledKeys.{Reached}
use Rattle.rmt_config.proofs.form.names.key_prints.each_is_new.Given as goal

abbrev pub invariant-loop-at : goal.invariant-loop-at
invariant-loop-at l = (ks : List ℕ) → l.keys ≡ kept_of_keys true l.size ks → length ks ≡ l.count → Reached l.size ks (drop l.at ks) l.seen
