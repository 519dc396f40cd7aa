-- The end is the last token, and no other is.
use Rattle.std.proofs.Common.{◌≡◌, ◌≤◌, refl, arith, ℕ, zero, suc, ◌-◌, ◌^◌, List, [], ◌∷◌, Bool, true, false, Result, Ok, Err}
use Rattle.std.specs.Prelude.{◌==◌, nat_lt, slice_index, length, drop, if◌then◌else◌}
use Rattle.std.specs.List.{take_while}
use Rattle.rmt_bits.specs.Digits.{is_digit, is_hex, is_hex_number}
use Rattle.rmt_ast.specs.NameForm.{is_letter}
use Rattle.rmt_lexer.specs.Text.{EndsOnce, item_of, hex_item, number_item, is_space, is_comment, is_equal, is_sign, read_item, reading, behind, token_at, with_front}
use Rattle.rmt_lexer.specs.declared.token.Token.{Token}
use Rattle.rmt_lexer.specs.declared.token.TokenKind.TheVariants.{End}
use Rattle.rmt_lexer.specs.declared.item.Item.{Item}
use Rattle.rmt_lexer.specs.declared.item.Item.TheVariants as item
use Rattle.rmt_lexer.specs.declared.position.Position.{Position}
use Rattle.rmt_lexer.specs.declared.fault.ProgramFault.{ProgramFault}
use Rattle.rmt_lexer.specs.declared.fault.ProgramFault.TheVariants.{NoMemory, At}

-- no token of the end
abbrev NotEnd : Item → Type 0
NotEnd (item.Gap len) = Unit {0}
NotEnd (item.Token what len) = what ≡ End → ⊥
NotEnd (item.Fault code) = Unit {0}

choice : (b : Bool) (x y : Item) → NotEnd x → NotEnd y → NotEnd (if b then x else y)
choice true x y f g = f
choice false x y f g = g

number_not : (value len : ℕ) → NotEnd (number_item value len)
number_not value len = choice (nat_lt value (2 ^ 128)) _ _ (λ e. cc) tt

hex_not : (digits : List ℕ) → NotEnd (hex_item digits)
hex_not digits = choice (length digits == 0) _ _ tt (number_not _ _)

item_not : (text : List ℕ) → NotEnd (item_of text)
item_not text =
    choice (is_space (slice_index text 0)) _ _ tt
    (choice (is_comment text) _ _ tt
    (choice (is_letter (slice_index text 0)) _ _ (λ e. cc)
    (choice (is_hex_number text) _ _ (hex_not (take_while is_hex (drop 2 text)))
    (choice (is_digit (slice_index text 0)) _ _ (number_not _ _)
    (choice (is_equal text) _ _ (λ e. cc)
    (choice (is_sign (slice_index text 0)) _ _ (λ e. cc) tt))))))

in_front : (t : Token) (us : List Token) → (t.what ≡ End → ⊥) → EndsOnce us → EndsOnce (t ∷ us)
in_front t [] h e = absurd e
in_front t (u ∷ us) h e = (h, e)

-- Of a text of n bytes: at most n + 1 tokens, of which the last is the end and no other; or a fault with its place.
abbrev pub Fine : ℕ → Result (List Token) ProgramFault → Type 0
Fine n (Ok ts) = EndsOnce ts × (length ts ≤ suc n)
Fine n (Err NoMemory) = ⊥
Fine n (Err (At code line column)) = Unit {0}

one_more : (n : ℕ) (r : Result (List Token) ProgramFault) → Fine n r → Fine (suc n) r
one_more n (Ok ts) f = (f.0, omega (arith, f.1))
one_more n (Err NoMemory) f = f
one_more n (Err (At code line column)) f = tt

with_token : (t : Token) (n : ℕ) (r : Result (List Token) ProgramFault) → (t.what ≡ End → ⊥) → Fine n r → Fine (suc n) (with_front t r)
with_token t n (Ok us) h f = (in_front t us h f.0, omega (arith, f.1))
with_token t n (Err NoMemory) h f = f
with_token t n (Err (At code line column)) h f = tt

with_item : (at : Position) (i : Item) (n : ℕ) (rest : ℕ → Result (List Token) ProgramFault) → NotEnd i → ((len : ℕ) → Fine n (rest len)) → Fine (suc n) (read_item at i rest)
with_item at (item.Gap len) n rest h f = one_more n (rest len) (f len)
with_item at (item.Token what len) n rest h f = with_token (token_at at what) n (rest len) h (f len)
with_item at (item.Fault code) n rest h f = tt

pub fine : (more : ℕ) (at : Position) (text : List ℕ) → Fine (length text) (reading more at text)
fine zero at [] = (refl, omega arith)
fine (suc more) at [] = (refl, omega arith)
fine (suc more) at (b ∷ bs) = one_more (length bs) _ (fine more (behind at b) bs)
fine zero at (b ∷ bs) = with_item at (item_of (b ∷ bs)) (length bs) (λ len. reading (len - 1) (behind at b) bs) (item_not (b ∷ bs)) (λ len. fine (len - 1) (behind at b) bs)
