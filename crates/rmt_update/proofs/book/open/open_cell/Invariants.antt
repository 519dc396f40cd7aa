use Rattle.std.proofs.Common.{◌≡◌, drop}
use Rattle.rmt_update.specs.Open.{first_open}
use Rattle.rmt_update.specs.Taking.{cells_of_parts}
use Rattle.rmt_update.proofs.book.open.open_cell.Given as goal

-- no part so far has a free cell
abbrev pub invariant-loop-at : goal.invariant-loop-at
invariant-loop-at l =
    first_open l.odd l.at (drop l.at l.parts) (drop l.at l.given) (cells_of_parts l.seed l.key (drop l.at l.parts)) ≡ first_open l.odd 0 l.parts l.given (cells_of_parts l.seed l.key l.parts)
