-- How many bytes an image has.
use Rattle.std.specs.Prelude.{◌+◌, ◌*◌, ◌≤◌, length}
use Rattle.rmt_config.specs.CellForm.{entry_numbers}
use Rattle.rmt_config.specs.Form.{Formed}
use Rattle.rmt_config.specs.ImageSpelling.{spelled_image, spelled_names}
use Rattle.rmt_config.specs.Limits.{IsWithinLimits}
use Rattle.rmt_image.specs.Types.{Config}

-- An image has few bytes, but for the numbers of its entries and for its names.
abbrev pub ImageIsShort : Type 0
ImageIsShort = (c : Config) → Formed c → IsWithinLimits c → length (spelled_image c) ≤ 103700000 + 8 * length (entry_numbers c) + length (spelled_names c.names)
