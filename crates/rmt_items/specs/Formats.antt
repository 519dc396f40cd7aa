-- What stands before the lists of blocks of a memory.
use Rattle.std.specs.Prelude.{ℕ, List, [], ◌∷◌, ◌++◌}
use Rattle.rmt_items.specs.Types.{Memory}
use Rattle.rmt_config.specs.declared.config.Memory.TheVariants.{Without, Exact, Ternary}
use Rattle.rmt_config.specs.Spelling.{two_bytes}

abbrev pub spelled_format : Memory → List ℕ
spelled_format Without = 0 ∷ []
spelled_format (Exact width per quanta first_way keys records counters) = 1 ∷ width ∷ two_bytes per ++ quanta ∷ first_way ∷ []
spelled_format (Ternary quanta keys records counters) = 2 ∷ quanta ∷ []
