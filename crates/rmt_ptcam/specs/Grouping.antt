-- The rows of a parser by state, and joins that are made on them in place.
use Rattle.std.specs.Prelude.{◌≡◌, ◌<◌, ⊤, ℕ, ◌+◌, ◌*◌, List, [], ◌∷◌, ◌++◌, Bool, ◌&&◌, ◌==◌, true, nat_le, if◌then◌else◌, is_none, Option, Some, None, option_map, map, take, drop, length, slice_get, slice_set, All, IfSome}
use Rattle.std.specs.List.{flat_map, list_all}
use Rattle.rmt_ptcam.specs.Types.{ParserConfig, ParserState, ParserEntry, Next, TailOf}
use Rattle.rmt_ptcam.specs.Fitting.{IsEntry}
use Rattle.rmt_config.specs.declared.config.Next.TheVariants as next
use Rattle.rmt_ptcam.specs.declared.joining.rows.StateRows.{StateRows}
use Rattle.rmt_ptcam.specs.declared.joins.Join.{Join}
use Rattle.rmt_ptcam.specs.Joining.{KeepsForm, Row, are_few, compares_before, ends_open, is_light, joined_row, parser_of, rows_in, rows_of, together, widened_entry}

-- ---- rows by state

-- some rows by states, the first of which has number n
abbrev pub groups_from : List Row → ℕ → List ParserState → List StateRows
groups_from rows n [] = []
groups_from rows n (s ∷ ss) = record { lookups = s.lookups; rows = rows_in n rows } ∷ groups_from rows (n + 1) ss

abbrev pub by_state : ParserConfig → List StateRows
by_state parser = groups_from (rows_of parser) 0 parser.states

abbrev pub entries_of : List Row → List ParserEntry
entries_of rows = map (λ (x : Row). x.entry) rows

-- the rows, those of one state behind those of the one before
abbrev pub all_rows : List StateRows → List Row
all_rows groups = flat_map (λ (s : StateRows). s.rows) groups

abbrev pub state_in : StateRows → ParserState
state_in s = record { lookups = s.lookups }

-- the parser of rows by state
abbrev pub parser_in : List StateRows → ParserConfig
parser_in groups = parser_of (map state_in groups) (all_rows groups)

-- ---- a join

-- a row, whose state has the lookups here, can be joined to those of a state; so many rows stand in all
abbrev pub may_stand : ℕ → List ℕ → Row → StateRows → Bool
may_stand count here x t =
    is_none x.tail && (x.entry.need == x.entry.advance) && compares_before here x.entry && ends_open (entries_of t.rows) && are_few here x.entry.advance t.lookups
    && list_all (is_light x.entry) (entries_of t.rows) && nat_le (count + length t.rows) 16385

-- the rows that then stand in place of it, and what they look up
abbrev pub stand_in : List ℕ → Row → StateRows → StateRows
stand_in here x t = record { lookups = together here x.entry.advance t.lookups; rows = map (joined_row here t.lookups x.entry) t.rows }

-- the same, where they can, of the state that the row goes to, and of the row of a join
abbrev pub stand_in_with : List StateRows → StateRows → Row → Option StateRows → Option StateRows
stand_in_with groups s x None = None
stand_in_with groups s x (Some t) = if may_stand (length (all_rows groups)) s.lookups x t then Some (stand_in s.lookups x t) else None

abbrev pub stand_in_to : List StateRows → StateRows → Row → Next → Option StateRows
stand_in_to groups s x next.Accept = None
stand_in_to groups s x next.Reject = None
stand_in_to groups s x (next.State m) = stand_in_with groups s x (slice_get groups m)

abbrev pub stand_in_of : List StateRows → StateRows → Option Row → Option StateRows
stand_in_of groups s None = None
stand_in_of groups s (Some x) = stand_in_to groups s x x.entry.next

abbrev pub stand_in_at : List StateRows → ℕ → Option StateRows → Option StateRows
stand_in_at groups at None = None
stand_in_at groups at (Some s) = stand_in_of groups s (slice_get s.rows at)

abbrev pub stand_in_for : List StateRows → Join → Option StateRows
stand_in_for groups j = stand_in_at groups j.entry (slice_get groups j.state)

-- a row over more lookups
abbrev pub widened_row : List ℕ → List ℕ → Row → Row
widened_row from to x = record x { entry = widened_entry from to x.entry }

-- a state in which rows stand in place of one of its rows
abbrev pub put_in : StateRows → ℕ → StateRows → StateRows
put_in s at new = record {
  lookups = new.lookups;
  rows = map (widened_row s.lookups new.lookups) (take at s.rows) ++ (new.rows ++ map (widened_row s.lookups new.lookups) (drop (at + 1) s.rows));
}

abbrev pub put_at : List StateRows → Join → Option StateRows → StateRows → List StateRows
put_at groups j None new = groups
put_at groups j (Some s) new = slice_set groups j.state (put_in s j.entry new)

-- the rows behind a join; None where its row isn't there, or can't be joined
abbrev pub joined_in : List StateRows → Join → Option (List StateRows)
joined_in groups j = option_map (put_at groups j (slice_get groups j.state)) (stand_in_for groups j)

-- ---- rows that stand as those of a parser

-- the rows of each state are its own, the first of which has number n
abbrev pub AreOwn : ℕ → List StateRows → Type 0
AreOwn n [] = ⊤
AreOwn n (s ∷ ss) = All (λ (x : Row). x.entry.state ≡ n) s.rows × AreOwn (n + 1) ss

pub record Stand (groups : List StateRows) : Type 0 where
  pub own : AreOwn 0 groups
  pub keeps : KeepsForm (parser_in groups)

-- an entry can be joined to a row
pub record CanFollow (first : ParserEntry) (x : Row) : Type 0 where
  pub entry : IsEntry x.entry
  pub light : is_light first x.entry ≡ true
  pub tail : IfSome x.tail (λ (t : TailOf). t.from + 8 * first.advance < 65536)
