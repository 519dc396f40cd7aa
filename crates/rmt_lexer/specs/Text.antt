-- The tokens of a program's text.
use Rattle.std.specs.Prelude.{◌≡◌, ℕ, zero, suc, ◌+◌, ◌-◌, ◌^◌, List, [], ◌∷◌, Bool, ◌==◌, ◌&&◌, ◌||◌, nat_lt, if◌then◌else◌, not, length, drop, slice_index, Result, Ok, Err}
use Rattle.std.specs.List.{take_while, list_any}
use Rattle.rmt_bits.specs.Digits.{is_digit, is_hex, is_hex_number, number_of_digits}
use Rattle.rmt_ast.specs.NameForm.{is_letter, is_name_byte}
use Rattle.rmt_lexer.specs.declared.token.Token.{Token}
use Rattle.rmt_lexer.specs.declared.token.TokenKind.{TokenKind}
use Rattle.rmt_lexer.specs.declared.token.TokenKind.TheVariants.{Word, Number, Sign, Equal, End}
use Rattle.rmt_lexer.specs.declared.item.Item.{Item}
use Rattle.rmt_lexer.specs.declared.item.Item.TheVariants as item
use Rattle.rmt_lexer.specs.declared.position.Position.{Position}
use Rattle.rmt_lexer.specs.declared.fault.ProgramFault.{ProgramFault}
use Rattle.rmt_lexer.specs.declared.fault.ProgramFault.TheVariants.{NoMemory, At}

-- white space: space, tab, line feed, carriage return
abbrev pub is_space : ℕ → Bool
is_space b = (b == 32) || (b == 9) || (b == 10) || (b == 13)

-- { } ( ) : ; , . = + - * & | ^
abbrev pub is_sign : ℕ → Bool
is_sign b = list_any (λ sign. b == sign) (123 ∷ 125 ∷ 40 ∷ 41 ∷ 58 ∷ 59 ∷ 44 ∷ 46 ∷ 61 ∷ 43 ∷ 45 ∷ 42 ∷ 38 ∷ 124 ∷ 94 ∷ [])

-- the text begins with //
abbrev pub is_comment : List ℕ → Bool
is_comment text = (slice_index text 0 == 47) && (slice_index text 1 == 47)

-- the text begins with ==
abbrev pub is_equal : List ℕ → Bool
is_equal text = (slice_index text 0 == 61) && (slice_index text 1 == 61)

-- a number of that many bytes, or the fault 2 where it is too great
abbrev pub number_item : ℕ → ℕ → Item
number_item value len = if nat_lt value (2 ^ 128) then item.Token (Number value) len else item.Fault 2

-- behind 0x stands at least one digit
abbrev pub hex_item : List ℕ → Item
hex_item digits = if length digits == 0 then item.Fault 2 else number_item (number_of_digits 16 digits) (2 + length digits)

-- What begins a text that is not empty, and of how many bytes: a byte of white space, a comment up to its line feed,
-- the longest token that begins there, or a fault.
abbrev pub item_of : List ℕ → Item
item_of text =
    if is_space (slice_index text 0) then item.Gap 1
    else (if is_comment text then item.Gap (length (take_while (λ b. not (b == 10)) text))
    else (if is_letter (slice_index text 0) then item.Token (Word (take_while is_name_byte text)) (length (take_while is_name_byte text))
    else (if is_hex_number text then hex_item (take_while is_hex (drop 2 text))
    else (if is_digit (slice_index text 0) then number_item (number_of_digits 10 (take_while is_digit text)) (length (take_while is_digit text))
    else (if is_equal text then item.Token Equal 2
    else (if is_sign (slice_index text 0) then item.Token (Sign (slice_index text 0)) 1
    else item.Fault 1))))))

-- the place behind a byte: only a line feed ends a line
abbrev pub behind : Position → ℕ → Position
behind at b = if b == 10 then record { line = at.line + 1; column = 1 } else record { line = at.line; column = at.column + 1 }

abbrev pub first_place : Position
first_place = record { line = 1; column = 1 }

abbrev pub token_at : Position → TokenKind → Token
token_at at what = record { line = at.line; column = at.column; what = what }

abbrev pub with_front : Token → Result (List Token) ProgramFault → Result (List Token) ProgramFault
with_front t (Ok ts) = Ok (t ∷ ts)
with_front t (Err f) = Err f

-- an item's part of the reading; rest n is the reading of what stands n bytes further
abbrev pub read_item : Position → Item → (ℕ → Result (List Token) ProgramFault) → Result (List Token) ProgramFault
read_item at (item.Gap len) rest = rest len
read_item at (item.Token what len) rest = with_front (token_at at what) (rest len)
read_item at (item.Fault code) rest = Err (At code at.line at.column)

-- The tokens of a text that begins at a place, or its earliest fault. Of its first bytes `more` belong to what was read before.
abbrev pub reading : ℕ → Position → List ℕ → Result (List Token) ProgramFault
reading more at [] = Ok (token_at at End ∷ [])
reading (suc more) at (b ∷ bs) = reading more (behind at b) bs
reading zero at (b ∷ bs) = read_item at (item_of (b ∷ bs)) (λ len. reading (len - 1) (behind at b) bs)

-- the tokens of a whole text, or its earliest fault
abbrev pub tokens_of : List ℕ → Result (List Token) ProgramFault
tokens_of text = reading 0 first_place text

-- the answer is that one, but for want of memory
abbrev pub Gives : {X Y : Type 0} → (X → Y) → Result X ProgramFault → Result Y ProgramFault → Type 0
Gives view (Ok x) wanted = wanted ≡ Ok (view x)
Gives view (Err NoMemory) wanted = Unit {0}
Gives view (Err (At code line column)) wanted = wanted ≡ Err (At code line column)

-- the last token is the end, and no other is
abbrev pub EndsOnce : List Token → Type 0
EndsOnce [] = ⊥
EndsOnce (t ∷ []) = t.what ≡ End
EndsOnce (t ∷ u ∷ ts) = (t.what ≡ End → ⊥) × EndsOnce (u ∷ ts)
