-- A queue that an item is offered to.
use Rattle.std.specs.Prelude.{ℕ, ◌==◌, ◌&&◌, List, [], ◌∷◌, ◌++◌, length, nat_lt, if◌then◌else◌}
use Rattle.std.specs.List.{list_any}

-- the queue of a port after an offer to ports: with a copy at its end where it is one of them and has room
abbrev pub with_copy : ℕ → List ℕ → ℕ → ℕ → List ℕ → List ℕ
with_copy depth ports number port queue = if list_any (λ p. p == port) ports && nat_lt (length queue) depth then queue ++ number ∷ [] else queue
