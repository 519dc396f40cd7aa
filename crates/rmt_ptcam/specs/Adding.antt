-- Rows that are added behind entries and tails.
use Rattle.std.specs.Prelude.{◌≡◌, ◌<◌, ◌+◌, ◌*◌, ℕ, ⊤, List, ◌++◌, map, length}
use Rattle.rmt_ptcam.specs.Types.{ParserEntry, Extract, TailOf}
use Rattle.rmt_config.specs.declared.config.Extract.TheVariants.{Bits, One}
use Rattle.rmt_ptcam.specs.Joining.{Row, tails_in}

-- entries and tails with these rows behind them
pub record Adds (rows : List Row) (es new_es : List ParserEntry) (ts new_ts : List TailOf) : Type 0 where
  pub entries : new_es ≡ es ++ map (λ (x : Row). x.entry) rows
  pub tails : new_ts ≡ ts ++ tails_in (length es) rows

-- bits that have a number so many bytes behind, of 16 bits
abbrev pub HasPlace : ℕ → Extract → Type 0
HasPlace bytes (Bits from lane) = from + 8 * bytes < 65536
HasPlace bytes (One lane) = ⊤
