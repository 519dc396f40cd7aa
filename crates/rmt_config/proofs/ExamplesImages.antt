-- Images of versions 1, 2 and 3 that are known byte by byte, and tails that break one rule each.
use Rattle.std.specs.Prelude.{◌≡◌, List, [], ◌∷◌, ◌++◌, Some, None, true, false, codes, length, refl}
use Rattle.rmt_ast.specs.declared.program.Kind.TheVariants as named
use Rattle.rmt_config.specs.Types.{Config, ParserEntry, TailOf}
use Rattle.rmt_config.specs.declared.config.Next.TheVariants as next
use Rattle.rmt_config.specs.Spelling.{spelled, spelled_config}
use Rattle.rmt_config.specs.ImageSpelling.{spelled_image, spelled_names}
use Rattle.rmt_config.specs.Form.{items_are_formed}
use Rattle.rmt_config.specs.TailForm.{has_greatest_length, has_names_with_tails, tails_are_formed, tails_have_headers}
use Rattle.rmt_config.proofs.ExamplesSpelling.{shared_words}
use Rattle.rmt_config.proofs.ExamplesNames.{its_names, three_ranks}

-- ---- names

-- without names the image is of version 1
pub version_1 : spelled_image shared_words ≡ spelled shared_words
version_1 = refl

-- names of no table
abbrev without_tables : Config
without_tables = record shared_words { names = Some (record { tables = [] }) }

pub version_2 : spelled_image without_tables ≡ codes "RMTI" ++ 0 ∷ 2 ∷ spelled_config shared_words ++ 0 ∷ []
version_2 = refl

pub version_2-length : length (spelled_image without_tables) ≡ 96
version_2-length = refl

-- table b of node 1, exact, of size 16, on 8 bits, with the action go and its parameter of 9 bits
pub b-spelled : spelled_names (Some its_names) ≡
    1 ∷ 1 ∷ 0 ∷ 0 ∷ 0 ∷ 1 ∷ 0x62 ∷ 0 ∷ 0 ∷ 0 ∷ 0 ∷ 16 ∷ 0 ∷ 1 ∷ 8 ∷ 1 ∷ 0 ∷ 0 ∷ 0 ∷ 2 ∷ 0x67 ∷ 0x6f ∷ 1 ∷ 9 ∷ []
b-spelled = refl

-- a ternary table has its ranks behind its actions
pub ranks-spelled : spelled_names (Some (record { tables = record { node = 0; name = codes "r"; kind = named.Ternary; size = 3; keys = 8 ∷ []; actions = []; ranks = three_ranks } ∷ [] })) ≡
    1 ∷ 0 ∷ 0 ∷ 0 ∷ 0 ∷ 1 ∷ 0x72 ∷ 2 ∷ 0 ∷ 0 ∷ 0 ∷ 3 ∷ 0 ∷ 1 ∷ 8 ∷ 0 ∷
    0 ∷ 0 ∷ 0 ∷ 3 ∷ 0 ∷ 0 ∷ 0 ∷ 3 ∷ 0 ∷ 0 ∷ 0 ∷ 10 ∷ 0 ∷ 0 ∷ 0 ∷ 1 ∷ 0 ∷ 0 ∷ 0 ∷ 10 ∷ 0 ∷ 0 ∷ 0 ∷ 2 ∷ 0 ∷ 0 ∷ 0 ∷ 30 ∷ []
ranks-spelled = refl

-- ---- tails

-- four bits of the one byte tell a tail of 4 times their value without 4 bytes
abbrev one_tail : TailOf
one_tail = record { entry = 0; header = 0; from = 0; len = 4; unit = 4; base = 4 }

abbrev with_tails : List TailOf → Config
with_tails tails = record without_tables { parser = record shared_words.parser { tails = tails } }

pub version_3 : spelled_image (with_tails (one_tail ∷ [])) ≡ codes "RMTI" ++ 0 ∷ 3 ∷ spelled_config shared_words ++ 0 ∷ 0 ∷ 1 ∷ 0 ∷ 0 ∷ 0 ∷ 0 ∷ 0 ∷ 4 ∷ 4 ∷ 4 ∷ []
version_3 = refl

pub one_tail-formed : items_are_formed (with_tails (one_tail ∷ [])) ≡ true
one_tail-formed = refl

-- a configuration with a tail has names
pub without_names : has_names_with_tails (record (with_tails (one_tail ∷ [])) { names = None }) ≡ false
without_names = refl

pub tail_twice : tails_are_formed (with_tails (one_tail ∷ one_tail ∷ [])).parser ≡ false
tail_twice = refl

pub no_entry : tails_are_formed (with_tails (record one_tail { entry = 1 } ∷ [])).parser ≡ false
no_entry = refl

pub no_header : tails_have_headers (with_tails (record one_tail { header = 1 } ∷ [])) ≡ false
no_header = refl

pub no_bit : tails_are_formed (with_tails (record one_tail { len = 0; base = 0 } ∷ [])).parser ≡ false
no_bit = refl

-- five bits from bit 4 on, of a byte
pub past_need : tails_are_formed (with_tails (record one_tail { from = 4; len = 5 } ∷ [])).parser ≡ false
past_need = refl

pub no_unit : tails_are_formed (with_tails (record one_tail { unit = 0; base = 0 } ∷ [])).parser ≡ false
no_unit = refl

-- the greatest length is 15 * 4 - base: 0 and -1 bytes, and 64 and 65 by a unit of 5
pub greatest_0 : has_greatest_length (record one_tail { base = 60 }) ≡ true
greatest_0 = refl

pub greatest_negative : has_greatest_length (record one_tail { base = 61 }) ≡ false
greatest_negative = refl

pub greatest_64 : has_greatest_length (record one_tail { unit = 5; base = 11 }) ≡ true
greatest_64 = refl

pub greatest_65 : has_greatest_length (record one_tail { unit = 5; base = 10 }) ≡ false
greatest_65 = refl

-- an entry that moves the cursor by less than it needs
abbrev moves_less : ParserEntry
moves_less = record { state = 0; value = 0; mask = 0; need = 1; advance = 0; next = next.Accept; extracts = [] }

pub advance_less : tails_are_formed (record { states = shared_words.parser.states; entries = moves_less ∷ []; tails = one_tail ∷ [] }) ≡ false
advance_less = refl
