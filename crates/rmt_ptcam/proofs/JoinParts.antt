-- The parts of a parser in which an entry is joined.
use Rattle.std.proofs.Common.{ℕ, ◌+◌, List, ◌++◌, map, take, drop}
use Rattle.std.specs.Prelude.{slice_set}
use Rattle.rmt_ptcam.specs.Types.{ParserConfig, ParserState, ParserEntry}
use Rattle.rmt_ptcam.specs.Joining.{Row, joined_row, lookups_at, rows_in, rows_of, together, widened}

pub record JoinParts : Type 0 where
  -- what the entry's state looks up, what the next one does, and what stands for both
  pub here : List ℕ
  pub behind : List ℕ
  pub to : List ℕ
  -- the rows before the entry and behind it, and those of the next state
  pub front : List Row
  pub back : List Row
  pub second : List Row
  -- a row over more lookups, and a row of the next state behind the entry
  pub widen : Row → Row
  pub join_row : Row → Row
  -- the joined parser
  pub states : List ParserState
  pub rows : List Row

-- of entry number at, e, and the state m
abbrev pub join_parts : ParserConfig → ℕ → ParserEntry → ℕ → JoinParts
join_parts parser at e m =
    let here = lookups_at parser.states e.state in
    let behind = lookups_at parser.states m in
    let to = together here e.advance behind in
    let front = take at (rows_of parser) in
    let back = drop (at + 1) (rows_of parser) in
    let second = rows_in m (rows_of parser) in
    let widen = widened here to e.state in
    let join_row = joined_row here behind e in
    record {
      here = here;
      behind = behind;
      to = to;
      front = front;
      back = back;
      second = second;
      widen = widen;
      join_row = join_row;
      states = slice_set parser.states e.state (record { lookups = to });
      rows = map widen front ++ (map join_row second ++ map widen back);
    }
