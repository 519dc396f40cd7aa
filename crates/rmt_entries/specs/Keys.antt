-- What the words of a line say of a table's key: the tests, with the length of a prefix or the priority.
use Rattle.std.specs.Prelude.{ℕ, ◌+◌, ◌-◌, ◌^◌, List, [], ◌∷◌, ◌==◌, bit_and, if◌then◌else◌, Option, Some, None, option_map, codes}
use Rattle.std.specs.List.{list_any, before_first, after_first}
use Rattle.std.specs.Str.{bytes_eq}
use Rattle.rmt_ast.specs.declared.program.Test.{Test}
use Rattle.rmt_ast.specs.declared.program.Kind.{Kind}
use Rattle.rmt_ast.specs.declared.program.Kind.TheVariants.{Keyless, Exact, Prefix, Ternary}
use Rattle.rmt_entries.specs.declared.keys.Key.{Key}
use Rattle.rmt_entries.specs.Numbers.{decimal, below, number_of_width}

-- a test of all bits
abbrev pub whole : ℕ → ℕ → Test
whole width value = record { value = value; mask = 2 ^ width - 1 }

-- a test of the mask's bits; the others of the value are ignored
abbrev pub masked : ℕ → ℕ → Test
masked value mask = record { value = bit_and value mask; mask = mask }

-- the mask of the highest bits of a field, as many as the prefix is long
abbrev pub prefix_mask : ℕ → ℕ → ℕ
prefix_mask width len = 2 ^ width - 2 ^ (width - len)

abbrev pub exact_test : ℕ → List ℕ → Option Test
exact_test width word = option_map (whole width) (number_of_width width word)

-- both, or nothing
abbrev pub both : {X Y Z : Type 0} → (X → Y → Z) → Option X → Option Y → Option Z
both f None y = None
both f (Some x) None = None
both f (Some x) (Some y) = Some (f x y)

-- *, value&mask, or a value
abbrev pub pattern_test : ℕ → List ℕ → Option Test
pattern_test width word =
    if bytes_eq word (codes "*") then Some (masked 0 0)
    else (if list_any (λ b. b == 38) word then
    both masked (number_of_width width (before_first (λ b. b == 38) word)) (number_of_width width (after_first (λ b. b == 38) word))
    else exact_test width word)

-- a value behind which its prefix's length stands
abbrev pub prefix_of : ℕ → ℕ → ℕ → Key
prefix_of width value len = record { tests = masked value (prefix_mask width len) ∷ []; rank = len }

-- value/length
abbrev pub prefix_key : ℕ → List ℕ → Option Key
prefix_key width word =
    if list_any (λ b. b == 47) word then
    both (prefix_of width) (number_of_width width (before_first (λ b. b == 47) word)) (below (width + 1) (decimal (after_first (λ b. b == 47) word)))
    else None

-- an item before what was read, and the words behind that
abbrev pub onto : {X : Type 0} → X → List X × List (List ℕ) → List X × List (List ℕ)
onto x r = (x ∷ r.0, r.1)

-- what a word for each width says, and the words behind
abbrev pub read_each : {X : Type 0} → (ℕ → List ℕ → Option X) → List ℕ → List (List ℕ) → Option (List X × List (List ℕ))
read_each read [] words = Some ([], words)
read_each read (w ∷ ws) [] = None
read_each read (w ∷ ws) (x ∷ xs) = both onto (read w x) (read_each read ws xs)

-- tests with a rank, and the words behind
abbrev pub ranked : ℕ → List Test × List (List ℕ) → Key × List (List ℕ)
ranked rank r = (record { tests = r.0; rank = rank }, r.1)

-- the one word of a prefix, and the words behind
abbrev pub prefix_words : List ℕ → List (List ℕ) → Option (Key × List (List ℕ))
prefix_words (w ∷ []) (x ∷ xs) = option_map (λ key. (key, xs)) (prefix_key w x)
prefix_words ws xs = None

-- a priority, a pattern for each field, and the words behind
abbrev pub ternary_words : List ℕ → List (List ℕ) → Option (Key × List (List ℕ))
ternary_words ws [] = None
ternary_words ws (x ∷ xs) = both ranked (number_of_width 32 x) (read_each pattern_test ws xs)

-- the key that the words of a line begin with, for a table of a kind and the widths of its key's fields, and the words behind
abbrev pub key_of : Kind → List ℕ → List (List ℕ) → Option (Key × List (List ℕ))
key_of Keyless ws xs = None
key_of Exact ws xs = option_map (ranked 0) (read_each exact_test ws xs)
key_of Prefix ws xs = prefix_words ws xs
key_of Ternary ws xs = ternary_words ws xs
