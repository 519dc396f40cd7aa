-- Lists in order: rising numbers, and items beside those that stand before and behind them.
use Rattle.std.specs.Prelude.{ℕ, ◌+◌, List, [], ◌∷◌, Bool, true, not, ◌&&◌, ◌==◌, nat_le}
use Rattle.std.specs.List.{list_any}

-- each number is at least the first one given, and above the one before it
abbrev pub rises_from : ℕ → List ℕ → Bool
rises_from least [] = true
rises_from least (n ∷ ns) = nat_le least n && rises_from (n + 1) ns

-- each number is at least the one before it
abbrev pub never_falls_from : ℕ → List ℕ → Bool
never_falls_from least [] = true
never_falls_from least (n ∷ ns) = nat_le least n && never_falls_from n ns

-- no number stands twice, nor among those seen before
abbrev pub are_new : List ℕ → List ℕ → Bool
are_new seen [] = true
are_new seen (n ∷ ns) = not (list_any (λ m. m == n) seen) && are_new (n ∷ seen) ns

-- a rule holds for each item, with those before it, the nearest first, and those behind it
abbrev pub each_between : {A : Type 0} → (List A → A → List A → Bool) → List A → List A → Bool
each_between rule before [] = true
each_between rule before (x ∷ behind) = rule before x behind && each_between rule (x ∷ before) behind
