-- Whole words that are still to be written.
use Rattle.std.specs.Prelude.{ℕ, List, [], ◌∷◌, Option, Some, None, ◌==◌, if◌then◌else◌, fold, slice_set, length, max}
use Rattle.std.specs.Option.{option_or}
use Rattle.rmt_chip.specs.Types.{Vliw}
use Rattle.rmt_chip.specs.declared.write.Write.{Write}

-- what the writes, one after another, make of a word, if one of them is on it
abbrev pub last_on : List Write → ℕ → Option ℕ
last_on [] w = None
last_on (x ∷ xs) w = option_or (last_on xs w) (if x.word == w then Some x.value else None)

-- a vector after the writes
abbrev pub applied : List Write → List ℕ → List ℕ
applied writes vector = fold (λ v (x : Write). slice_set v x.word x.value) vector writes

-- the most operations that an instruction has
abbrev pub most_ops : List Vliw → ℕ
most_ops [] = 0
most_ops (v ∷ vs) = max (length v.ops) (most_ops vs)
