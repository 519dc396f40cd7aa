-- The words of a line.
use Rattle.std.specs.Prelude.{ℕ, Bool, List, ◌&&◌, nat_le}
use Rattle.std.specs.List.{list_all}
pub use Rattle.rmt_bits.specs.Lines.{words}

-- bytes from the space to ~ alone
abbrev pub is_printable : List ℕ → Bool
is_printable line = list_all (λ b. nat_le 32 b && nat_le b 126) line
