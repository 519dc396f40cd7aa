-- The line of what a run answered, by its counts.
use Rattle.std.specs.Prelude.{ℕ, ◌-◌, Bool, true, false, List, ◌++◌, codes, length, sum_by}
use Rattle.std.specs.Fmt.{decimal}
use Rattle.std.specs.List.{filter}
use Rattle.rmt_bits.specs.declared.answer.Verdict.{Verdict}
use Rattle.rmt_bits.specs.declared.answer.Verdict.TheVariants.{Short, Reject, Dropped, Sent}

-- the packet of a verdict is sent
abbrev pub is_sent : Verdict → Bool
is_sent Short = false
is_sent Reject = false
is_sent Dropped = false
is_sent (Sent port) = true

-- of answers, each told by its verdict and its bytes, those whose packets are sent
abbrev pub sent_of : List (Verdict × List ℕ) → List (Verdict × List ℕ)
sent_of answers = filter (λ (a : Verdict × List ℕ). is_sent a.0) answers

-- how many bytes they have in all
abbrev pub bytes_in : List (Verdict × List ℕ) → ℕ
bytes_in answers = sum_by (λ (a : Verdict × List ℕ). length a.1) answers

-- `sample N packets P out O drop D`
abbrev pub packets_part : ℕ → ℕ → ℕ → ℕ → List ℕ
packets_part n packets out drop = codes "sample " ++ (decimal n ++ (codes " packets " ++ (decimal packets ++ (codes " out " ++ (decimal out ++ (codes " drop " ++ decimal drop))))))

-- ` sent B stages S cycles C`
abbrev pub bytes_part : ℕ → ℕ → ℕ → List ℕ
bytes_part sent stages cycles = codes " sent " ++ (decimal sent ++ (codes " stages " ++ (decimal stages ++ (codes " cycles " ++ (decimal cycles ++ codes "\n")))))

-- both in one line
abbrev pub counts_line : ℕ → ℕ → ℕ → ℕ → ℕ → ℕ → ℕ → List ℕ
counts_line n packets out drop sent stages cycles = packets_part n packets out drop ++ bytes_part sent stages cycles

-- the line of these answers
abbrev pub answers_line : ℕ → List (Verdict × List ℕ) → ℕ → ℕ → List ℕ
answers_line n answers stages cycles =
    counts_line n (length answers) (length (sent_of answers)) (length answers - length (sent_of answers)) (bytes_in (sent_of answers)) stages cycles
