use Rattle.rmt_syntax.proofs.Words.{◌≡◌, drop, ℕ, ◌==◌, entry, Other}
use Rattle.rmt_syntax.proofs.terminal.sign_in.Given as goal

abbrev pub invariant-loop-sign : goal.invariant-loop-sign
invariant-loop-sign l = entry (λ (k : ℕ). k == l.byte) (drop l.sign-index l.table) Other ≡ entry (λ (k : ℕ). k == l.byte) l.table Other
