-- An item takes at least one byte, and no more than there are.
use Rattle.std.proofs.Common.{◌≡◌, ℕ, ◌+◌, ◌<◌, ◌≤◌, ◌^◌, List, [], ◌∷◌, length, drop, refl, arith, Bool, true, false, cond, ap, subst, length-drop}
use Rattle.std.specs.Prelude.{◌==◌, ◌&&◌, not, nat_lt, slice_index, if◌then◌else◌}
use Rattle.std.specs.List.{take_while, prefix_len}
use Rattle.std.proofs.lemmas.Bool.{and_parts, eqb-true, or_left}
use Rattle.std.proofs.lemmas.List.Sums.{prefix_len-le-length}
use Rattle.std.proofs.lemmas.List.Folds.{length-prefix_len}
use Rattle.rmt_bits.specs.Digits.{is_digit, is_hex, is_hex_number}
use Rattle.rmt_ast.specs.NameForm.{is_letter, is_name_byte}
use Rattle.rmt_lexer.specs.Text.{item_of, number_item, hex_item, is_space, is_sign, is_comment, is_equal}
use Rattle.rmt_lexer.specs.declared.item.Item.{Item}
use Rattle.rmt_lexer.specs.declared.item.Item.TheVariants as item

pub record Within (len limit : ℕ) : Type 0 where
  pub some : 0 < len
  pub most : len ≤ limit

abbrev pub Fits : Item → ℕ → Type 0
Fits (item.Gap len) limit = Within len limit
Fits (item.Token what len) limit = Within len limit
Fits (item.Fault code) limit = Unit {0}

choice : (b : Bool) (x y : Item) (n : ℕ) → (b ≡ true → Fits x n) → (b ≡ false → Fits y n) → Fits (if b then x else y) n
choice true x y n f g = f refl
choice false x y n f g = g refl

run_most : (p : ℕ → Bool) (text : List ℕ) → length (take_while p text) ≤ length text
run_most p text = omega (arith, length-prefix_len p text, prefix_len-le-length p text)

run_some : (p : ℕ → Bool) (b : ℕ) (bs : List ℕ) → p b ≡ true → 0 < length (take_while p (b ∷ bs))
run_some p b bs h = let n : prefix_len p (b ∷ bs) ≡ 1 + prefix_len p bs = ap (λ v. cond v (1 + prefix_len p bs) 0) h in
    omega (arith, n, length-prefix_len p (b ∷ bs))

run : (p : ℕ → Bool) (b : ℕ) (bs : List ℕ) → p b ≡ true → Within (length (take_while p (b ∷ bs))) (length (b ∷ bs))
run p b bs h = record { some = run_some p b bs h; most = run_most p (b ∷ bs) }

-- a second byte other than 0 is there
second : (a : Bool) (b c : ℕ) (bs : List ℕ) → 0 < c → (a && (slice_index (b ∷ bs) 1 == c)) ≡ true → 2 ≤ length (b ∷ bs)
second a b c [] pos h = let e : 0 ≡ c = eqb-true 0 c (and_parts a (0 == c) h).1 in absurd (omega arith)
second a b c (d ∷ bs) pos h = omega arith

number_fits : (value len n : ℕ) → Within len n → Fits (number_item value len) n
number_fits value len n h = choice (nat_lt value (2 ^ 128)) _ _ n (λ _. h) (λ _. tt)

hex_fits : (digits : List ℕ) (n : ℕ) → 2 + length digits ≤ n → Fits (hex_item digits) n
hex_fits digits n h = choice (length digits == 0) _ _ n (λ _. tt) (λ _. number_fits _ (2 + length digits) n (record { some = omega arith; most = h }))

comment_first : (b : ℕ) (x : Bool) → ((b == 47) && x) ≡ true → not (b == 10) ≡ true
comment_first b x h = let e : b ≡ 47 = eqb-true b 47 (and_parts (b == 47) x h).0 in rw e refl

hex_within : (b : ℕ) (bs : List ℕ) → is_hex_number (b ∷ bs) ≡ true → 2 + length (take_while is_hex (drop 2 (b ∷ bs))) ≤ length (b ∷ bs)
hex_within b bs h = omega (arith, second (b == 48) b 120 bs (omega arith) h, run_most is_hex (drop 2 (b ∷ bs)), length-drop 2 (b ∷ bs))

pub all_fit : (text : List ℕ) → 0 < length text → Fits (item_of text) (length text)
all_fit [] some = absurd (omega arith)
all_fit (b ∷ bs) some =
    let n : ℕ = length (b ∷ bs) in
    let one : Within 1 n = record { some = omega arith; most = omega arith } in
    choice (is_space b) _ _ n (λ _. one) (λ _.
    choice (is_comment (b ∷ bs)) _ _ n (λ h. run (λ c. not (c == 10)) b bs (comment_first b _ h)) (λ _.
    choice (is_letter b) _ _ n (λ h. run is_name_byte b bs (or_left _ _ h)) (λ _.
    choice (is_hex_number (b ∷ bs)) _ _ n (λ h. hex_fits _ n (hex_within b bs h)) (λ _.
    choice (is_digit b) _ _ n (λ h. number_fits _ _ n (run is_digit b bs h)) (λ _.
    choice (is_equal (b ∷ bs)) _ _ n (λ h. record { some = omega arith; most = second (b == 61) b 61 bs (omega arith) h }) (λ _.
    choice (is_sign b) _ _ n (λ _. one) (λ _. tt)))))))

pub gap_fits : (text : List ℕ) (n : ℕ) → 0 < length text → item_of text ≡ item.Gap n → Within n (length text)
gap_fits text n some is = subst (λ (i : Item). Fits i (length text)) is (all_fit text some)

pub token_fits : (text : List ℕ) (what : _) (n : ℕ) → 0 < length text → item_of text ≡ item.Token what n → Within n (length text)
token_fits text what n some is = subst (λ (i : Item). Fits i (length text)) is (all_fit text some)
