-- A ternary key as words of TCAM blocks.
use Rattle.std.specs.Prelude.{◌≡◌, ◌<◌, ℕ, ◌+◌, ◌*◌, ◌^◌, List, [], ◌∷◌, length, sum, map, bit_and, IsTrue, All}
use Rattle.rmt_ast.specs.declared.program.Test.{Test}
use Rattle.rmt_ast.specs.State.{passes}
use Rattle.rmt_config.specs.Cells.{Blocks, unit_row}
use Rattle.rmt_pack.specs.declared.tcam.TcamWord.{TcamWord}
use Rattle.rmt_config.specs.BlockCounts.{divided_up}
use Rattle.rmt_pack.specs.declared.tcam.Bits.{Bits}

-- words of 40 bits as one number, the first lowest
abbrev pub joined_words : List ℕ → ℕ
joined_words [] = 0
joined_words (w ∷ ws) = w + 2 ^ 40 * joined_words ws

-- what is gathered so far is that number of that many bits
pub record Holds (b : Bits) (n bits : ℕ) : Type 0 where
  pub value : joined_words b.words + b.rest * 2 ^ (40 * length b.words) ≡ n
  pub count : 40 * length b.words + b.filled ≡ bits
  pub rest : b.rest < 2 ^ b.filled
  pub filled : b.filled < 40
  pub words : All (λ w. w < 2 ^ 40) b.words

-- words of 40 bits that hold a number of so many bits, the first lowest
pub record IsWords (words : List ℕ) (n bits : ℕ) : Type 0 where
  pub value : joined_words words ≡ n
  pub count : length words ≡ divided_up bits 40
  pub each : All (λ w. w < 2 ^ 40) words

-- blocks side by side that hold these words in a row hold this number there
abbrev pub FillsRow : List ℕ → ℕ → Type 0
FillsRow words n = (held : Blocks) (row : ℕ) (blocks : List ℕ) → map (λ block. held block row) blocks ≡ words → unit_row 40 held row blocks ≡ n

-- a row of TCAM words matches a key: they are equal on the row's mask
abbrev pub MatchesKey : List TcamWord → ℕ → Type 0
MatchesKey row key = bit_and key (joined_words (map (λ (w : TcamWord). w.mask) row)) ≡ joined_words (map (λ (w : TcamWord). w.value) row)

-- a test passes a value
abbrev pub Passes : Test → ℕ → Type 0
Passes test value = IsTrue (passes test value)
