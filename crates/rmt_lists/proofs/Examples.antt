-- Changes of runs, worked out.
use Rattle.std.proofs.Common.{◌≡◌, ℕ, ◌+◌, ◌/◌, ◌%◌, List, [], ◌∷◌, ◌++◌, Result, Ok, Err, map, refl}
use Rattle.std.specs.Prelude.{codes}
use Rattle.std.specs.List.{range_with_len}
use Rattle.rmt_ast.specs.declared.entry.Entry.{Entry}
use Rattle.rmt_ast.specs.declared.program.Program.{Program}
use Rattle.rmt_ast.specs.Changes.{Installed}
use Rattle.rmt_ast.specs.Naming.{names_of}
use Rattle.rmt_ast.proofs.Programs.{one_entry, prefix, prefixes, priorities, strict_and_weak, ternary}
use Rattle.rmt_lists.specs.Running.{Running, fresh, line_change}

abbrev run_of : Program → List (List Entry) → ℕ → Running
run_of p lists most = fresh (names_of p lists) lists most

abbrev b : Running
b = run_of strict_and_weak one_entry 1048576

-- a run behind a line, before the lines that follow
abbrev then_lines : ℕ → Result Running ℕ → (Running → Result Running (ℕ × ℕ)) → Result Running (ℕ × ℕ)
then_lines n (Ok r) rest = rest r
then_lines n (Err code) rest = Err (code, n)

-- a run behind lines, or the code and the number of the first bad one
abbrev behind : ℕ → Running → List (List ℕ) → Result Running (ℕ × ℕ)
behind n r [] = Ok r
behind n r (line ∷ lines) = then_lines n (line_change r line) (λ s. behind (n + 1) s lines)

-- the entries behind lines and the next number; of a bad line nothing
abbrev left : Result Running (ℕ × ℕ) → Installed
left (Ok r) = r.now
left (Err at) = record { lists = []; next = 0 }

abbrev code_of : Result Running (ℕ × ℕ) → ℕ × ℕ
code_of (Ok r) = (0, 0)
code_of (Err at) = at

-- a value that doesn't fit, a key that is held, and one that is not
change_codes : (line_change b (codes "+ b 256 go 1") ≡ Err 5) × (line_change b (codes "+ b 7 go 1") ≡ Err 6) × (line_change b (codes "- b 8") ≡ Err 8)
change_codes = (refl, refl, refl)

-- the form goes before the key
form_first : (line_change b (codes "+ b 7 go 512") ≡ Err 5) × (line_change b (codes "+ b") ≡ Err 5) × (line_change b (codes "- b 7 go 5") ≡ Err 5) × (line_change b (codes "- a 7") ≡ Err 5)
form_first = (refl, refl, refl, refl)

-- further spaces are taken
spaces : code_of (behind 1 b (codes "+   b  8 go 1 " ∷ codes "-  b 0x8" ∷ [])) ≡ (0, 0)
spaces = refl

-- the size is 16, and one entry is there
abbrev add_line : ℕ → List ℕ
add_line k = codes "+ b " ++ ((48 + k / 10) ∷ (48 + k % 10) ∷ codes " go 1")

over_size : code_of (behind 1 b (map add_line (range_with_len 8 16))) ≡ (7, 16)
over_size = refl

-- the key goes before the size
held_in_a_full_table : code_of (behind 1 b (map add_line (range_with_len 8 15) ++ codes "+ b 7 go 1" ∷ [])) ≡ (6, 16)
held_in_a_full_table = refl

-- one addition more than there may be; removals don't count
too_many : code_of (behind 1 (run_of strict_and_weak one_entry 2) (codes "+ b 1 go 1" ∷ codes "- b 7" ∷ codes "+ b 2 go 1" ∷ codes "+ b 3 go 1" ∷ [])) ≡ (9, 4)
too_many = refl

-- an entry that is added and removed has used its number
no_change : left (behind 1 b (codes "+ b 8 go 6" ∷ codes "- b 8" ∷ [])) ≡ record { lists = one_entry; next = 2 }
no_change = refl

-- a prefix of the same bits and another length is another
prefixes_differ : (line_change (run_of prefix prefixes 9) (codes "+ r 0x0a000000/8 go 1") ≡ Err 6) × (line_change (run_of prefix prefixes 9) (codes "- r 0x0a000000/9") ≡ Err 8)
    × (code_of (behind 1 (run_of prefix prefixes 9) (codes "+ r 0x0a000000/9 go 1" ∷ codes "- r 0x0a0000ff/8" ∷ [])) ≡ (0, 0))
prefixes_differ = (refl, refl, refl)

-- ternary entries may be alike, and of those the one of least number goes
alike : code_of (behind 1 (run_of ternary priorities 9) (codes "+ t 20 0x02&0x0f go 9" ∷ codes "- t 20 0xf2&0x0f" ∷ codes "- t 20 2&15" ∷ codes "- t 20 2&15" ∷ [])) ≡ (8, 4)
alike = refl
