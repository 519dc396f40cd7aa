-- A command to improve has a budget within its bounds.
use Rattle.std.proofs.Common.{◌≡◌, ℕ, Bool, true, false, List, [], ◌∷◌, Option, Some, None, refl, arith}
use Rattle.std.specs.Prelude.{◌&&◌, codes, option_map, if◌then◌else◌}
use Rattle.std.specs.Str.{bytes_eq}
use Rattle.rmt_bits.specs.Digits.{number_of_digits}
use Rattle.rmt_core.specs.Commands.{Command, Compile, CompileMap, Improve, Sim, Probe, Plain, Report, Sample, Switch, Verify, budget_of, command_of, cycle_of, every_of, improve_of, is_budget, is_number, sample_number_of}
use Rattle.rmt_core.specs.Placers.{IsBudget}

abbrev OfCommand : Command → Type 0
OfCommand (Compile program entries image) = Unit {0}
OfCommand (CompileMap program entries image map) = Unit {0}
OfCommand (Improve program entries image budget) = IsBudget budget
OfCommand (Sim image packets) = Unit {0}
OfCommand (Probe image packets cycle) = Unit {0}
OfCommand (Plain program entries packets) = Unit {0}
OfCommand (Report image) = Unit {0}
OfCommand (Sample number) = Unit {0}
OfCommand (Switch image groups capture out every) = Unit {0}
OfCommand (Verify program entries image map) = Unit {0}

abbrev pub HasBudget : Option Command → Type 0
HasBudget None = Unit {0}
HasBudget (Some command) = OfCommand command

choose : (b : Bool) (x y : Option Command) → HasBudget x → HasBudget y → HasBudget (if b then x else y)
choose true x y a c = a
choose false x y a c = c

mapped : (f : ℕ → Command) (o : Option ℕ) → ((n : ℕ) → OfCommand (f n)) → HasBudget (option_map f o)
mapped f None of = tt
mapped f (Some n) of = of n

within : (n : ℕ) → is_budget n ≡ true → IsBudget n
within n e = grind arith

improved : (program entries image word : List ℕ) → HasBudget (improve_of program entries image (budget_of word))
improved program entries image word = by (is_number 4 word) (number_of_digits 10 word) (is_budget (number_of_digits 10 word)) refl
  where
    by : (a : Bool) (n : ℕ) (b : Bool) → is_budget n ≡ b → HasBudget (option_map (λ k. Improve program entries image k) (if a && b then Some n else None))
    by true n true e = within n e
    by true n false e = tt
    by false n b e = tt

pub has_budget : (words : List (List ℕ)) → HasBudget (command_of words)
has_budget [] = tt
has_budget (w ∷ []) = tt
has_budget (w ∷ a ∷ []) = choose (bytes_eq w (codes "report")) _ _ tt (choose (bytes_eq w (codes "sample")) _ _ (mapped Sample (sample_number_of a) (λ _. tt)) tt)
has_budget (w ∷ a ∷ b ∷ []) = choose (bytes_eq w (codes "sim")) _ _ tt tt
has_budget (w ∷ a ∷ b ∷ c ∷ []) =
    choose (bytes_eq w (codes "compile")) _ _ tt
    (choose (bytes_eq w (codes "plain")) _ _ tt (choose (bytes_eq w (codes "probe")) _ _ (mapped (λ n. Probe a b n) (cycle_of c) (λ _. tt)) tt))
has_budget (w ∷ a ∷ b ∷ c ∷ d ∷ []) =
    choose (bytes_eq w (codes "compile")) _ _ (choose (bytes_eq c d) None (Some (CompileMap a b c d)) tt tt)
    (choose (bytes_eq w (codes "improve")) _ _ (improved a b c d) (choose (bytes_eq w (codes "verify")) (Some (Verify a b c d)) None tt tt))
has_budget (w ∷ a ∷ b ∷ c ∷ d ∷ e ∷ []) = choose (bytes_eq w (codes "switch")) _ _ (mapped (λ n. Switch a b c d n) (every_of e) (λ _. tt)) tt
has_budget (w ∷ a ∷ b ∷ c ∷ d ∷ e ∷ f ∷ more) = tt
