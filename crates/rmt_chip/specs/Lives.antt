-- A packet's life up to some stage.
use Rattle.std.specs.Prelude.{ℕ, List, take}
use Rattle.rmt_chip.specs.Types.{Stage}
use Rattle.rmt_config.specs.Life.{Look, Life, Acts, life_of, acts_of}

-- the life through the first n stages
abbrev pub upto : Look → List Stage → List ℕ → ℕ → Life
upto look stages vector n = life_of look (take n stages) vector

-- what a stage, which is number k, does with a packet
unfoldable pub acts_at : Look → List Stage → List ℕ → ℕ → Stage → Acts
acts_at look stages vector k stage = acts_of look k stage ((upto look stages vector k).word stage.start) (upto look stages vector k).outcomes
