-- The printed line of an answer.
use Rattle.std.specs.Prelude.{ℕ, List, [], ◌∷◌, ◌++◌, codes}
use Rattle.std.specs.Fmt.{decimal}
use Rattle.hex.specs.Hex.{encode_lower}
use Rattle.rmt_bits.specs.declared.answer.Answer.{Answer}
use Rattle.rmt_bits.specs.declared.answer.Verdict.{Verdict}
use Rattle.rmt_bits.specs.declared.answer.Verdict.TheVariants.{Short, Reject, Dropped, Sent}

-- bytes in hexadecimal digits of lower case, or a dash where there is none
abbrev pub hex_or_dash : List ℕ → List ℕ
hex_or_dash [] = codes "-"
hex_or_dash (b ∷ bs) = encode_lower (b ∷ bs)

-- what becomes of a packet, with the bytes that are sent
abbrev pub verdict_text : Verdict → List ℕ → List ℕ
verdict_text Short bytes = codes "drop short"
verdict_text Reject bytes = codes "drop reject"
verdict_text Dropped bytes = codes "drop action"
verdict_text (Sent port) bytes = decimal port ++ (codes " " ++ hex_or_dash bytes)

-- the line of the answer to the packet of a number, with its line feed
abbrev pub answer_line : ℕ → Answer → List ℕ
answer_line number answer = decimal number ++ (codes " " ++ (verdict_text answer.verdict answer.bytes ++ codes "\n"))
