use Rattle.rmt_syntax.proofs.Words.{◌≡◌, map, drop, List, ℕ, bytes_eq, entry, Name}
use Rattle.rmt_syntax.proofs.terminal.keyword_in.Given as goal

abbrev pub invariant-loop-keyword : goal.invariant-loop-keyword
invariant-loop-keyword l =
    entry (λ (k : List ℕ). bytes_eq k l.word) (map (λ k. (k.0.now, k.1)) (drop l.keyword-index l.table)) Name
    ≡ entry (λ (k : List ℕ). bytes_eq k l.word) (map (λ k. (k.0.now, k.1)) l.table) Name
