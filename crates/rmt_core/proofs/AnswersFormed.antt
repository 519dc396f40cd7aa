-- What bytes are read as is a configuration that keeps the rules of form and every limit.
use Rattle.std.proofs.Common.{ℕ, Bool, true, false, List, [], ◌∷◌, Option, Some, None, Result, Ok, Err, sym, subst}
use Rattle.std.specs.Prelude.{codes, drop, nat_eq}
use Rattle.std.specs.List.{starts_with}
use Rattle.rmt_core.specs.Types.{Config}
use Rattle.rmt_config.specs.Form.{Formed}
use Rattle.rmt_config.specs.Limits.{IsWithinLimits}
use Rattle.rmt_items.specs.declared.fault.ReadFault.{ReadFault}
use Rattle.rmt_items.specs.declared.fault.ReadFault.TheVariants.{Short, Form}
use Rattle.rmt_image.specs.Reading.{Answers, ConfigAnswers, EndAnswers, MagicAnswers, VersionAnswers, image_at, version_told}

end_formed : (c d : Config) (rest : List ℕ) → EndAnswers (c, rest) (Ok d) → Formed d × IsWithinLimits d
end_formed c d [] told = subst (λ (x : Config). Formed x × IsWithinLimits x) (sym told.0) (told.1, told.2)
end_formed c d (byte ∷ rest) told = absurd cc

config_formed : (r : Result (Config × List ℕ) ReadFault) (d : Config) → ConfigAnswers r (Ok d) → Formed d × IsWithinLimits d
config_formed (Err Short) d told = absurd cc
config_formed (Err Form) d told = absurd cc
config_formed (Ok x) d told = end_formed x.0 d x.1 told

version_formed : (version : Option ℕ) (bytes : List ℕ) (d : Config) → VersionAnswers version bytes (Ok d) → Formed d × IsWithinLimits d
version_formed None bytes d told = absurd cc
version_formed (Some version) bytes d told = config_formed (image_at version bytes) d told

magic_formed : (begins_so : Bool) (bytes : List ℕ) (d : Config) → MagicAnswers begins_so bytes (Ok d) → Formed d × IsWithinLimits d
magic_formed true bytes d told = version_formed (version_told bytes) (drop 2 bytes) d told
magic_formed false bytes d told = absurd cc

pub answers_formed : (bytes : List ℕ) (c : Config) → Answers bytes (Ok c) → Formed c × IsWithinLimits c
answers_formed bytes c told = magic_formed (starts_with nat_eq bytes (codes "RMTI")) (drop 4 bytes) c told
