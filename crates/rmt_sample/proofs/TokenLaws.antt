-- The tokens of the program of a sample: its text is read piece by piece, and the two sizes by their digits.
use Rattle.std.proofs.Common.{◌≡◌, ◌∙◌, refl, sym, ap, arith, ℕ, ◌+◌, ◌-◌, ◌^◌, ◌<◌, true, false, eqb, leb, List, [], ◌∷◌, ◌++◌, length, take, drop, Ok}
use Rattle.std.specs.Prelude.{◌==◌, ◌&&◌, ◌||◌, nat_lt, slice_index, if◌then◌else◌}
use Rattle.std.specs.Fmt.{decimal}
use Rattle.std.specs.List.{list_all, take_while}
use Rattle.std.proofs.lemmas.Bool.{and_left, and_parts, and_right, cond-false, cond-true, lt-leb, lt-ltb, ne_eqb, or_from}
use Rattle.rmt_ast.specs.NameForm.{is_letter, is_name_byte}
use Rattle.rmt_lexer.specs.declared.item.Item.TheVariants as item
use Rattle.rmt_lexer.specs.declared.position.Position.{Position}
use Rattle.rmt_lexer.specs.declared.token.TokenKind.TheVariants as kind
use Rattle.rmt_lexer.specs.Text.{behind, first_place, is_comment, is_space, item_of, number_item, read_item, reading, tokens_of, with_front}
use Rattle.rmt_sample.specs.Texts.{before_size, behind_sizes, between_sizes, program_text}
use Rattle.rmt_bits.specs.Digits.{is_digit, is_hex_number, number_of_digits}
use Rattle.rmt_bits.proofs.DigitLaws.{IsDigit-from, Says, Says-decimal}
use Rattle.rmt_bits.proofs.ListLaws.{take_while-until}
use Rattle.rmt_lexer.proofs.Reading.{fronts}
use Rattle.rmt_sample.proofs.ProgramForest.{number, tokens}

abbrev at : ℕ → ℕ → Position
at line column = record { line = line; column = column }

before_is : (n first second : ℕ) (more : List ℕ) → reading 0 first_place (before_size ++ more) ≡ fronts (take 96 (tokens n first second)) (reading 0 (at 5 51) more)
before_is n first second more = refl

between_is : (n first second : ℕ) (more : List ℕ) → reading 0 (at 5 first) (between_sizes ++ more) ≡ fronts (take 21 (drop 97 (tokens n first second))) (reading 0 (at 6 53) more)
between_is n first second more = refl

behind_is : (n first second : ℕ) → reading 0 (at 6 second) behind_sizes ≡ Ok (drop 119 (tokens n first second))
behind_is n first second = refl

-- ---- a size

-- a semicolon ends the digits
abbrev ended : List ℕ → List ℕ → List ℕ
ended ds more = ds ++ 59 ∷ more

no_x : (ds more : List ℕ) → list_all is_digit ds ≡ true → eqb (slice_index (ended ds more) 0) 120 ≡ false
no_x [] more all = refl
no_x (d ∷ ds) more all =
    let is = IsDigit-from d (and_parts (is_digit d) (list_all is_digit ds) all).0 in
    ne_eqb d 120 (λ e. omega (arith, is.high))

item_is : (n d : ℕ) (ds more : List ℕ) → n < 2 ^ 64 → list_all is_digit (d ∷ ds) ≡ true → number_of_digits 10 (d ∷ ds) ≡ n → item_of (ended (d ∷ ds) more) ≡ item.Token (kind.Number n) (length (d ∷ ds))
item_is n d ds more lt all value =
    let both = and_parts (is_digit d) (list_all is_digit ds) all in
    let is = IsDigit-from d both.0 in
    let text = ended (d ∷ ds) more in
    let named = take_while is_name_byte text in
    let digits = take_while is_digit text in
    let space : is_space d ≡ false =
    or_from (d == 32 || d == 9 || d == 10) (d == 13)
    (or_from (d == 32 || d == 9) (d == 10) (or_from (d == 32) (d == 9) (ne_eqb d 32 (λ e. omega (arith, is.low))) (ne_eqb d 9 (λ e. omega (arith, is.low)))) (ne_eqb d 10 (λ e. omega (arith, is.low))))
    (ne_eqb d 13 (λ e. omega (arith, is.low))) in
    let comment : is_comment text ≡ false = and_left (d == 47) _ (ne_eqb d 47 (λ e. omega (arith, is.low))) in
    let small = and_left (leb 97 d) (leb d 122) (lt-leb 97 d (omega (arith, is.high))) in
    let great = and_left (leb 65 d) (leb d 90) (lt-leb 65 d (omega (arith, is.high))) in
    let letter : is_letter d ≡ false =
    or_from (leb 97 d && leb d 122 || leb 65 d && leb d 90) (d == 95) (or_from (leb 97 d && leb d 122) (leb 65 d && leb d 90) small great) (ne_eqb d 95 (λ e. omega (arith, is.high))) in
    let hex : is_hex_number text ≡ false = and_right (d == 48) _ (no_x ds more both.1) in
    let whole : digits ≡ d ∷ ds = take_while-until is_digit (d ∷ ds) 59 more all refl in
    cond-false (is_space d) _ _ space ∙ cond-false (is_comment text) _ _ comment ∙ cond-false (is_letter d) _ _ letter ∙ cond-false (is_hex_number text) _ _ hex
    ∙ cond-true (is_digit d) (number_item (number_of_digits 10 digits) (length digits)) _ both.0 ∙ ap (λ l. number_item (number_of_digits 10 l) (length l)) whole
    ∙ ap (λ v. number_item v (length (d ∷ ds))) value ∙ cond-true (nat_lt n (2 ^ 128)) _ _ (lt-ltb n (2 ^ 128) (omega arith))

-- behind digits the line goes on
further : (ds more : List ℕ) (line column : ℕ) → list_all is_digit ds ≡ true → reading (length ds) (at line column) (ended ds more) ≡ reading 0 (at line (column + length ds)) (59 ∷ more)
further [] more line column all = ap (λ c. reading 0 (at line c) (59 ∷ more)) (omega arith)
further (d ∷ ds) more line column all =
    let both = and_parts (is_digit d) (list_all is_digit ds) all in
    let is = IsDigit-from d both.0 in
    let goes : behind (at line column) d ≡ at line (column + 1) = ap (λ b. if b then at (line + 1) 1 else at line (column + 1)) (ne_eqb d 10 (λ e. omega (arith, is.low))) in
    ap (λ p. reading (length ds) p (ended ds more)) goes ∙ further ds more line (column + 1) both.1 ∙ ap (λ c. reading 0 (at line c) (59 ∷ more)) (omega arith)

number_is : (n line column : ℕ) (ds more : List ℕ) → n < 2 ^ 64 → Says n ds → reading 0 (at line column) (ended ds more) ≡ with_front (number line column n) (reading 0 (at line (column + length ds)) (59 ∷ more))
number_is n line column ds more lt s =
    let d = s.first in
    let rest = s.rest in
    let all : list_all is_digit (d ∷ rest) ≡ true = ap (list_all is_digit) (sym s.is) ∙ s.digits in
    let value : number_of_digits 10 (d ∷ rest) ≡ n = ap (number_of_digits 10) (sym s.is) ∙ s.number in
    let one : length (d ∷ rest) - 1 ≡ length rest = omega arith in
    let both = and_parts (is_digit d) (list_all is_digit rest) all in
    let is = IsDigit-from d both.0 in
    let goes : behind (at line column) d ≡ at line (column + 1) = ap (λ b. if b then at (line + 1) 1 else at line (column + 1)) (ne_eqb d 10 (λ e. omega (arith, is.low))) in
    let then_on : reading (length rest) (at line (column + 1)) (ended rest more) ≡ reading 0 (at line (column + length ds)) (59 ∷ more) =
    further rest more line (column + 1) both.1 ∙ ap (λ c. reading 0 (at line c) (59 ∷ more)) (omega (arith, ap length s.is)) in
    ap (λ l. reading 0 (at line column) (ended l more)) s.is
    ∙ ap (λ i. read_item (at line column) i (λ len. reading (len - 1) (behind (at line column) d) (ended rest more))) (item_is n d rest more lt all value)
    ∙ ap (with_front (number line column n)) (ap (λ k. reading k (behind (at line column) d) (ended rest more)) one ∙ ap (λ p. reading (length rest) p (ended rest more)) goes ∙ then_on)

-- ---- the text

pub tokens_are : (n : ℕ) → n < 2 ^ 64 → tokens_of (program_text n) ≡ Ok (tokens n (51 + length (decimal n)) (53 + length (decimal n)))
tokens_are n lt =
    let first = 51 + length (decimal n) in
    let second = 53 + length (decimal n) in
    let s = Says-decimal n lt in
    let behind = fronts (take 21 (drop 97 (tokens n first second))) in
    before_is n first second (decimal n ++ (between_sizes ++ (decimal n ++ behind_sizes)))
    ∙ ap (fronts (take 96 (tokens n first second)))
    (number_is n 5 51 (decimal n) (drop 1 between_sizes ++ (decimal n ++ behind_sizes)) lt s
    ∙ ap (with_front (number 5 51 n)) (between_is n first second (decimal n ++ behind_sizes)
    ∙ ap behind (number_is n 6 53 (decimal n) (drop 1 behind_sizes) lt s ∙ ap (with_front (number 6 53 n)) (behind_is n first second))))
