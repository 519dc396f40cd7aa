-- Words that stand side by side.
use Rattle.std.specs.Prelude.{ℕ, ◌+◌, ◌*◌, ◌^◌, List, [], ◌∷◌}

-- words of that many bits each as one number, the first lowest
abbrev pub joined : ℕ → List ℕ → ℕ
joined size [] = 0
joined size (w ∷ ws) = w + 2 ^ size * joined size ws
