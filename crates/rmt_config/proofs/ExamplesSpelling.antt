-- Images that are known byte by byte: one header of a byte, and one table that sends each packet to port 1.
use Rattle.std.specs.Prelude.{◌≡◌, ℕ, List, [], ◌∷◌, None, true, false, length, map, refl}
use Rattle.rmt_bits.specs.declared.lane.Lane.{Lane}
use Rattle.rmt_config.specs.Types.{Config}
use Rattle.rmt_config.specs.declared.config.Extract.TheVariants.{Bits}
use Rattle.rmt_config.specs.declared.config.Source.TheVariants.{Constant}
use Rattle.rmt_config.specs.Form.{items_are_formed}
use Rattle.rmt_config.specs.Limits.{limit_hit}
use Rattle.rmt_config.specs.Spelling.{spelled}
use Rattle.rmt_config.proofs.ExamplesParts.{copy, header_of, instruction, lane, plain_slot, plain_stage}

-- the configuration whose header has its valid bit and its byte in these lanes
abbrev pub sends_to_one : Lane → Lane → Config
sends_to_one valid piece = header_of valid 1 (Bits 0 piece ∷ []) (piece ∷ []) (plain_stage 0 (plain_slot 0 None ∷ []) (instruction (copy 65 0 9 (Constant 1) ∷ []) ∷ []) ∷ [])

-- its bytes, where the valid bit is at this place of this word, and the byte in that word
abbrev pub bytes_to_one : ℕ → ℕ → ℕ → List ℕ
bytes_to_one word low piece =
    82 ∷ 77 ∷ 84 ∷ 73 ∷ 0 ∷ 1 ∷ 0 ∷ 64 ∷ 0 ∷ 9 ∷ 65 ∷ 0 ∷ 9 ∷ 0 ∷ 0 ∷ 1 ∷
    1 ∷ word ∷ low ∷ 1 ∷ 1 ∷ 1 ∷ piece ∷ 0 ∷ 8 ∷
    0 ∷ 1 ∷ 0 ∷
    0 ∷ 1 ∷ 0 ∷ 0 ∷ 0 ∷ 0 ∷ 0 ∷ 0 ∷ 0 ∷ 0 ∷ 0 ∷ 1 ∷ 1 ∷ 0 ∷ 2 ∷ 1 ∷ word ∷ low ∷ 1 ∷ 0 ∷ 0 ∷ 0 ∷ piece ∷ 0 ∷ 8 ∷
    1 ∷
    0 ∷ 0 ∷ 1 ∷ 1 ∷ 0 ∷ 0 ∷ 0 ∷ 0 ∷ 1 ∷ 0 ∷ 0 ∷ 0 ∷ 0 ∷ 0 ∷ 0 ∷ 0 ∷ 0 ∷ 0 ∷
    1 ∷ 65 ∷ 0 ∷ 9 ∷ 0 ∷ 2 ∷ 0 ∷ 0 ∷ 0 ∷ 1 ∷ 2 ∷ 0 ∷ 0 ∷ 0 ∷ 0 ∷
    0 ∷ 0 ∷ 0 ∷ 0 ∷ 0 ∷ 0 ∷ 0 ∷ 0 ∷ []

-- the valid bit shares a word with the drop bit
abbrev pub shared_words : Config
shared_words = sends_to_one (lane 0 1 1) (lane 1 0 8)

pub shared_words-spelled : spelled shared_words ≡ bytes_to_one 0 1 1
shared_words-spelled = refl

-- each piece has a word of its own
abbrev pub own_words : Config
own_words = sends_to_one (lane 1 0 1) (lane 2 0 8)

pub own_words-spelled : spelled own_words ≡ bytes_to_one 1 0 2
own_words-spelled = refl

-- both have 95 bytes
pub lengths : map (λ c. length (spelled c)) (shared_words ∷ own_words ∷ []) ≡ 95 ∷ 95 ∷ []
lengths = refl

-- both keep the rules of form and the limits
pub shared_words-formed : items_are_formed shared_words ≡ true
shared_words-formed = refl

pub own_words-formed : items_are_formed own_words ≡ true
own_words-formed = refl

pub shared_words-fits : limit_hit shared_words ≡ None
shared_words-fits = refl

pub own_words-fits : limit_hit own_words ≡ None
own_words-fits = refl

-- the same with a port of entry of one bit less is not formed
pub narrow_port-unformed : items_are_formed (record own_words { in_port = lane 64 0 8 }) ≡ false
narrow_port-unformed = refl
