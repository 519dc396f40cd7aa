-- What a program text and an entry text mean together, and the last lines that tell their faults.
use Rattle.std.specs.Prelude.{◌≡◌, ℕ, List, ◌++◌, codes, Result, Ok, Err}
use Rattle.std.specs.Fmt.{decimal}
use Rattle.rmt_core.specs.Types.{Program}
use Rattle.rmt_ast.specs.declared.entry.Entry.{Entry}
use Rattle.rmt_check.specs.Means.{Means, Outcome}
use Rattle.rmt_entries.specs.declared.fault.EntryFault.{EntryFault}
use Rattle.rmt_entries.specs.declared.fault.EntryFault.TheVariants.{NoMemory, At}
use Rattle.rmt_entries.specs.Entries.{entries_of}
use Rattle.rmt_drive.specs.declared.status.Status.TheVariants.{BadProgram, BadEntries}
use Rattle.rmt_drive.specs.Files.{Files}
use Rattle.rmt_drive.specs.Given.{Given, told}

-- `bad program CODE line L column C`
abbrev pub bad_program_line : ℕ → ℕ → ℕ → List ℕ
bad_program_line code line column = codes "bad program " ++ (decimal code ++ (codes " line " ++ (decimal line ++ (codes " column " ++ (decimal column ++ codes "\n")))))

-- `bad entries CODE line L`
abbrev pub bad_entries_line : ℕ → ℕ → List ℕ
bad_entries_line code line = codes "bad entries " ++ (decimal code ++ (codes " line " ++ (decimal line ++ codes "\n")))

-- with the entries that an entry text says for a program, a command goes on; it ends with the first bad line
abbrev pub OfEntries : Files → (Program → List (List Entry) → Given → Type 0) → Program → Given → Result (List (List Entry)) EntryFault → Type 0
OfEntries files next p g (Ok lists) = next p lists g
OfEntries files next p g (Err (At code line)) = g ≡ told files BadEntries (bad_entries_line code line)
OfEntries files next p g (Err NoMemory) = ⊥

-- with the program that a text means, it reads the entries; it ends with the one fault of the text
abbrev pub OfMeaning : Files → List ℕ → (Program → List (List Entry) → Given → Type 0) → Given → Outcome → Type 0
OfMeaning files entries next g (Ok p) = OfEntries files next p g (entries_of p entries)
OfMeaning files entries next g (Err fault) = g ≡ told files BadProgram (bad_program_line fault.0 fault.1.line fault.1.column)

-- a command that understands a program text and an entry text, and goes on with the program and its entries
abbrev pub Understands : Files → List ℕ → List ℕ → (Program → List (List Entry) → Given → Type 0) → Given → Type 0
Understands files program entries next g = (m : Outcome) × Means program m × OfMeaning files entries next g m
