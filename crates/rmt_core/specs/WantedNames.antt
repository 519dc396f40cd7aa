-- The names of the files that are made, without where they lie in memory.
use Rattle.std.specs.Prelude.{option_copied, option_map, string_bytes}
use Rattle.rmt_core.specs.declared.compiling.Wanted.{Wanted as Read}
use Rattle.rmt_core.specs.MapFiles.{Wanted}

abbrev pub names_of : Read → Wanted
names_of wanted = record { image = string_bytes wanted.image.now; map = option_map string_bytes (option_copied wanted.map) }
