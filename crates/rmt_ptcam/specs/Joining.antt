-- Two steps of the parser in one: an entry is joined to the entries of the state that it goes to.
use Rattle.std.specs.Prelude.{◌≡◌, ◌<◌, ℕ, ◌+◌, ◌*◌, List, [], ◌∷◌, ◌++◌, Bool, true, false, ◌&&◌, ◌||◌, ◌==◌, nat_lt, nat_le, if◌then◌else◌, All, Option, Some, None, option_map, unwrap_or, is_none, map, take, drop, length, slice_get, slice_set}
use Rattle.std.specs.List.{filter, list_all, range_with_len}
use Rattle.rmt_bits.specs.Members.{is_among}
use Rattle.rmt_ptcam.specs.Types.{ParserConfig, ParserState, ParserEntry, Next, Extract, TailOf}
use Rattle.rmt_config.specs.declared.config.Next.TheVariants as next
use Rattle.rmt_config.specs.declared.config.Extract.TheVariants.{Bits, One}
use Rattle.rmt_config.specs.Parser.{parse, tail_of}
use Rattle.rmt_config.specs.Order.{rises_from}
use Rattle.rmt_config.specs.ParserForm.{state_is_formed, entry_is_formed}
use Rattle.rmt_config.specs.TailForm.{is_tail_of}
use Rattle.rmt_ptcam.specs.ByteTests.{joined_tests, mask_over, test_for, tests_of, value_over}
use Rattle.rmt_ptcam.specs.Fitting.{IsParser}
use Rattle.rmt_ptcam.specs.declared.joins.Join.{Join}
-- an entry with its tail, where it has one
pub use Rattle.rmt_ptcam.specs.declared.joining.rows.Row.{Row}

-- ---- a parser as rows

-- rows of entries, the first of which has number n
abbrev pub rows_from : ParserConfig → ℕ → List ParserEntry → List Row
rows_from parser n [] = []
rows_from parser n (e ∷ es) = record { entry = e; tail = tail_of parser n } ∷ rows_from parser (n + 1) es

abbrev pub rows_of : ParserConfig → List Row
rows_of parser = rows_from parser 0 parser.entries

-- the rows of a state
abbrev pub rows_in : ℕ → List Row → List Row
rows_in state rows = filter (λ (x : Row). x.entry.state == state) rows

-- the tail of entry n
abbrev pub numbered : ℕ → Option TailOf → List TailOf
numbered n None = []
numbered n (Some t) = record t { entry = n } ∷ []

-- the tails of rows, the first of which has number n
abbrev pub tails_in : ℕ → List Row → List TailOf
tails_in n [] = []
tails_in n (x ∷ xs) = numbered n x.tail ++ tails_in (n + 1) xs

-- the parser of states and rows
abbrev pub parser_of : List ParserState → List Row → ParserConfig
parser_of states rows = record { states = states; entries = map (λ (x : Row). x.entry) rows; tails = tails_in 0 rows }

-- ---- lookups

-- the offsets that a state looks up
abbrev pub lookups_at : List ParserState → ℕ → List ℕ
lookups_at states state = unwrap_or (option_map (λ (s : ParserState). s.lookups) (slice_get states state)) []

-- offsets below 128, each once, in order
abbrev pub in_order : List ℕ → List ℕ
in_order offsets = filter (is_among offsets) (range_with_len 0 128)

-- the lookups of a state, and those of another one that begins so many bytes behind it
unfoldable pub together : List ℕ → ℕ → List ℕ → List ℕ
together here bytes there = in_order (here ++ map (λ o. o + bytes) there)

-- ---- a joined entry

-- an extract so many bytes behind
abbrev pub moved : ℕ → Extract → Extract
moved bytes (Bits from lane) = Bits (from + 8 * bytes) lane
moved bytes (One lane) = One lane

-- an entry, whose state has the lookups here, joined to one of the next state, which has the lookups there
abbrev pub joined_entry : List ℕ → List ℕ → ParserEntry → ParserEntry → ParserEntry
joined_entry here there e f =
    let to = together here e.advance there in
    let tests = joined_tests e.advance (tests_of here e) (tests_of there f) in
    record {
      state = e.state;
      value = value_over to tests;
      mask = mask_over to tests;
      need = e.need + f.need;
      advance = e.advance + f.advance;
      next = f.next;
      extracts = e.extracts ++ map (moved e.advance) f.extracts;
    }

-- the joined entry has the second one's tail
abbrev pub joined_row : List ℕ → List ℕ → ParserEntry → Row → Row
joined_row here there e x = record {
  entry = joined_entry here there e x.entry;
  tail = option_map (λ (t : TailOf). record t { from = t.from + 8 * e.advance }) x.tail;
}

-- an entry compares the same where its state has more lookups
abbrev pub widened_entry : List ℕ → List ℕ → ParserEntry → ParserEntry
widened_entry from to e = record e { value = value_over to (tests_of from e); mask = mask_over to (tests_of from e) }

-- of all entries those of a state
abbrev pub widened : List ℕ → List ℕ → ℕ → Row → Row
widened from to state x = if x.entry.state == state then record x { entry = widened_entry from to x.entry } else x

-- ---- a joined parser

-- the parser in which entry number at, e, is replaced by the joined ones
abbrev pub joined : ParserConfig → ℕ → ParserEntry → ℕ → ParserConfig
joined parser at e state =
    let here = lookups_at parser.states e.state in
    let there = lookups_at parser.states state in
    let to = together here e.advance there in
    let rows = rows_of parser in
    parser_of (slice_set parser.states e.state (record { lookups = to }))
    (map (widened here to e.state) (take at rows) ++ (map (joined_row here there e) (rows_in state rows) ++ map (widened here to e.state) (drop (at + 1) rows)))

-- ---- where entries can be joined

-- the entry compares only bytes before those by which it moves the cursor
abbrev pub compares_before : List ℕ → ParserEntry → Bool
compares_before here e = list_all (λ o. nat_lt o e.advance || ((test_for (tests_of here e) o).mask == 0)) here

-- there is an entry, and the last one compares nothing: so no frame falls through
abbrev pub ends_open : List ParserEntry → Bool
ends_open [] = false
ends_open (e ∷ []) = e.mask == 0
ends_open (e ∷ f ∷ es) = ends_open (f ∷ es)

-- the lookups together are at most 4, each within 128 bytes
abbrev pub are_few : List ℕ → ℕ → List ℕ → Bool
are_few here bytes there = list_all (λ o. nat_lt (o + bytes) 128) there && nat_le (length (together here bytes there)) 4

-- the joined entry needs at most 128 bytes and has at most 64 extracts
abbrev pub is_light : ParserEntry → ParserEntry → Bool
is_light e f = nat_le (e.need + f.need) 128 && nat_le (length e.extracts + length f.extracts) 64

-- the entries of a state
abbrev pub entries_in : ℕ → List ParserEntry → List ParserEntry
entries_in state es = filter (λ (e : ParserEntry). e.state == state) es

-- entry number at, e, can be joined to the entries of this state; at most 16,384 entries then stand
abbrev pub can_join : ParserConfig → ℕ → ParserEntry → ℕ → Bool
can_join parser at e state =
    let here = lookups_at parser.states e.state in
    let there = lookups_at parser.states state in
    let fs = entries_in state parser.entries in
    is_none (tail_of parser at) && (e.need == e.advance) && compares_before here e && ends_open fs && are_few here e.advance there
    && list_all (is_light e) fs && nat_le (length parser.entries + length fs) 16385

-- entry number at, joined to the entries of the state that it goes to
abbrev pub join_to : ParserConfig → ℕ → ParserEntry → Next → Option ParserConfig
join_to parser at e next.Accept = None
join_to parser at e next.Reject = None
join_to parser at e (next.State state) = if can_join parser at e state then Some (joined parser at e state) else None

abbrev pub join_at : ParserConfig → ℕ → Option ParserEntry → Option ParserConfig
join_at parser at None = None
join_at parser at (Some e) = join_to parser at e e.next

-- the number of a state's entry among all, which stand by state
abbrev pub number_of_entry : List ParserEntry → ℕ → ℕ → ℕ
number_of_entry es state entry = length (filter (λ (e : ParserEntry). nat_lt e.state state) es) + entry

-- a state's entry joined to those of the state that it goes to; None where it can't be
abbrev pub join_of : ParserConfig → ℕ → ℕ → Option ParserConfig
join_of parser state entry =
    let at = number_of_entry parser.entries state entry in
    join_at parser at (slice_get parser.entries at)

-- the entry of a join: the one with its number among those of its state
abbrev pub entry_named : ParserConfig → Join → Option ParserEntry
entry_named parser j = slice_get (entries_in j.state parser.entries) j.entry

-- the parser behind one join; None where its entry isn't there, or can't be joined
abbrev pub join_named : ParserConfig → Join → Option ParserConfig
join_named parser j = if nat_lt j.entry (length (entries_in j.state parser.entries)) then join_of parser j.state j.entry else None

-- the entries of the state that is gone to
abbrev pub entries_to : ParserConfig → Next → List ParserEntry
entries_to parser next.Accept = []
entries_to parser next.Reject = []
entries_to parser (next.State state) = entries_in state parser.entries

-- ---- what a joined parser has to be

-- the rules of form of states, entries and tails, part by part
pub record KeepsForm (parser : ParserConfig) : Type 0 where
  pub some : 0 < length parser.states
  pub few_states : length parser.states < 65536
  pub few : length parser.entries < 65536
  pub states : All (λ s. state_is_formed s ≡ true) parser.states
  pub entries : All (λ e. entry_is_formed parser.states e ≡ true) parser.entries
  pub few_tails : length parser.tails < 65536
  pub rises : rises_from 0 (map (λ (t : TailOf). t.entry) parser.tails) ≡ true
  pub tails : All (λ (t : TailOf). is_tail_of t (slice_get parser.entries t.entry) ≡ true) parser.tails
  pub fits : IsParser parser

-- on every frame a parser ends as another one: too short, rejected, or accepted at the same byte, with the same words and tails
abbrev pub ParsesAlike : ParserConfig → ParserConfig → Type 0
ParsesAlike one other = (frame : List ℕ) → All (λ b. b < 256) frame → parse other frame ≡ parse one frame

-- another parser that ends alike, and keeps the rules of form
pub record IsGood (one other : ParserConfig) : Type 0 where
  pub alike : ParsesAlike one other
  pub keeps : KeepsForm other
