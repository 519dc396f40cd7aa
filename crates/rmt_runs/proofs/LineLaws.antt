-- The lines of a text that may be read, and their fronts.
use Rattle.std.proofs.Common.{◌≡◌, ◌⊎◌, ⊎_elim, inl, inr, ℕ, ◌+◌, ◌<◌, ◌≤◌, List, [], ◌++◌, length, take, drop, sym, ap, ◌∙◌, append-nil, take-append-drop}
use Rattle.std.proofs.lemmas.Bool.{cases_lt}
use Rattle.rmt_bits.specs.Lines.{numbered_lines}
use Rattle.rmt_packets.specs.Pieces.{ended_lines, feeds, open_line}
use Rattle.rmt_packets.proofs.Cuts.{lines_go_on}
use Rattle.rmt_runs.specs.declared.fault.RunFault.{RunFault}
use Rattle.rmt_runs.specs.declared.fault.RunFault.TheVariants.{NoMemory, Read, TooLong, Write}
use Rattle.rmt_runs.specs.TextLines.{ReadPast, ReadWhole, fronts_of, lines_within}
use Rattle.rmt_runs.proofs.ReaderLaws.{within_long, within_short}

-- those within the limit are a front of all
pub whole_more : (limit : ℕ) (text : List ℕ) → (rest : List (ℕ × List ℕ)) × (numbered_lines 1 text ≡ lines_within limit text ++ rest)
whole_more limit text = ⊎_elim long short (cases_lt limit (length text))
  where
    long : limit < length text → (rest : List (ℕ × List ℕ)) × (numbered_lines 1 text ≡ lines_within limit text ++ rest)
    long lt =
        let front = take limit text in
        let behind = numbered_lines (feeds front + 1) (open_line front ++ drop limit text) in
        (behind, ap (numbered_lines 1) (sym (take-append-drop limit text)) ∙ lines_go_on front (drop limit text) ∙ ap (λ (ls : List (ℕ × List ℕ)). ls ++ behind) (sym (within_long limit text lt)))

    short : length text ≤ limit → (rest : List (ℕ × List ℕ)) × (numbered_lines 1 text ≡ lines_within limit text ++ rest)
    short le = ([], sym (within_short limit text le) ∙ sym (append-nil (lines_within limit text)))

-- a reader that came to the end of a text, or to its limit
pub read_whole : (limit : ℕ) (text : List ℕ) (gave lines : List (ℕ × List ℕ)) → (length text ≤ limit) × (numbered_lines 1 text ≡ gave) → fronts_of gave ≡ lines → ReadWhole limit text lines
read_whole limit text gave lines all same = record { fronts = ap fronts_of (within_short limit text all.0 ∙ all.1) ∙ same; whole = all.0 }

pub read_past : (limit : ℕ) (text : List ℕ) (gave lines : List (ℕ × List ℕ)) → limit < length text → ended_lines (take limit text) ≡ gave → fronts_of gave ≡ lines → ReadPast limit text lines
read_past limit text gave lines long all same = record { fronts = ap fronts_of (within_long limit text long ∙ all) ∙ same; long = long }

-- ---- faults

-- a line is never cut off by a text that is too long
pub not_too_long : (fault : RunFault) → (fault ≡ NoMemory) ⊎ (fault ≡ Write) → fault ≡ TooLong → ⊥
not_too_long fault (inl h) e = cc
not_too_long fault (inr h) e = cc

-- and reading never by the sink
pub not_write : (fault : RunFault) → (fault ≡ Read) ⊎ (fault ≡ TooLong) → fault ≡ Write → ⊥
not_write fault (inl h) e = cc
not_write fault (inr h) e = cc
