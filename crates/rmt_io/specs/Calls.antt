-- Numbered calls, some of which are to fail.
use Rattle.std.specs.Prelude.{ℕ, Bool, List, ◌+◌, ◌-◌, ◌^◌, ◌==◌, nat_le, min}
use Rattle.std.specs.List.{list_all, list_any}

-- a count that rises by one, and stays at its last value
abbrev pub raised : ℕ → ℕ
raised n = min (n + 1) (2 ^ 64 - 1)

-- the call behind the calls made is one of those that are to fail
abbrev pub fails_next : List ℕ → ℕ → Bool
fails_next fails calls = list_any (λ k. k == calls + 1) fails

-- no call behind the calls made is to fail
abbrev pub fails_no_more : List ℕ → ℕ → Bool
fails_no_more fails calls = list_all (λ k. nat_le k calls) fails
