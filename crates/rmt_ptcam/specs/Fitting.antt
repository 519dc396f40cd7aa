-- Which parsers the chip can run: those that keep the rules of form of entries and tails.
use Rattle.std.specs.Prelude.{◌≡◌, ◌+◌, ◌*◌, ◌<◌, ◌≤◌, true, All, IfSome, Option, slice_get}
use Rattle.std.specs.List.Sorted.{IsNonDecreasingBy}
use Rattle.rmt_ptcam.specs.Types.{ParserConfig, ParserEntry, TailOf}
use Rattle.rmt_config.specs.ParserForm.{extract_is_formed}

-- an entry moves within the bytes that it needs, and its extracts find their bits there
pub record IsEntry (e : ParserEntry) : Type 0 where
  pub advance : e.advance ≤ e.need
  pub extracts : All (λ x. extract_is_formed e.need x ≡ true) e.extracts

-- the same of an entry with the tail that it takes, if any: one of 64 headers, whose length is told by 1 to 8 bits of the bytes that the entry needs
pub record IsEntryWith (e : ParserEntry) (tail : Option TailOf) : Type 0 where
  pub entry : IsEntry e
  pub header : IfSome tail (λ t. t.header < 64)
  pub few_bits : IfSome tail (λ t. t.len ≤ 8)
  pub within : IfSome tail (λ t. t.from + t.len ≤ 8 * e.need)

-- a tail of one of 64 headers, whose length is told by 1 to 8 bits of the bytes that its entry needs
pub record IsTailOf (parser : ParserConfig) (t : TailOf) : Type 0 where
  pub header : t.header < 64
  pub few_bits : t.len ≤ 8
  pub within : IfSome (slice_get parser.entries t.entry) (λ (e : ParserEntry). t.from + t.len ≤ 8 * e.need)

-- entries stand by state, and tails by entry
pub record IsParser (parser : ParserConfig) : Type 0 where
  pub by_state : IsNonDecreasingBy (λ (e : ParserEntry). e.state) parser.entries
  pub entries : All IsEntry parser.entries
  pub by_entry : IsNonDecreasingBy (λ (t : TailOf). t.entry) parser.tails
  pub tails : All (IsTailOf parser) parser.tails
