-- The rows of a key in the ways of an exact part.
use Rattle.std.specs.Prelude.{ℕ, ◌+◌, ◌*◌, List}
use Rattle.rmt_bits.specs.Hash.{hash_row}
use Rattle.rmt_config.specs.declared.part_ways.PartWays.{PartWays}

-- the row under a seed of a key in a way, counted over the rows of all ways
abbrev pub row_among : PartWays → ℕ → List ℕ → ℕ → ℕ
row_among ways seed key way = way * ways.rows + hash_row seed (ways.first + way) key ways.rows
