use Rattle.std.proofs.Common.{◌≡◌, ◌-◌, ℕ, List, find}
use Rattle.std.specs.List.{range_with_len}
use Rattle.rmt_ast.specs.declared.program.Program.{Program}
use Rattle.rmt_phv.specs.Packing.{Piece, serves, words_for}
use Rattle.rmt_phv.specs.WordsSoFar.{Packs}
use Rattle.rmt_phv.proofs.words.Words.first_that_serves.Given as goal

-- the first word from here on that serves is the first of all
abbrev pub invariant-loop-word : goal.invariant-loop-word
invariant-loop-word l =
    (p : Program) (f : ℕ) (taken : List Piece) → Packs p f taken l.own l.writers l.self.words
    → find (serves p f taken l.len) (range_with_len l.word (224 - l.word)) ≡ find (serves p f taken l.len) (words_for l.len)
