use Rattle.std.proofs.Common.{◌≡◌, ◌<◌, ◌^◌, map, take}
use Rattle.std.specs.Prelude.{All}
use Rattle.rmt_filling.specs.Types.{CellNumber}
use Rattle.rmt_filling.specs.Numbers.{number_at}
use Rattle.rmt_filling.proofs.numbers.numbers_of.Given as goal

-- the numbers so far
abbrev pub invariant-loop-stand : goal.invariant-loop-stand
invariant-loop-stand l = record {
  numbers : l.numbers ≡ map (number_at l.entries) (take l.stand-index l.stands);
  small : All (λ (x : CellNumber). x.number < 2 ^ 32) l.numbers;
}
