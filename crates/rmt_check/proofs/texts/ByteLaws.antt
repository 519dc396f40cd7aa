-- The bytes of the words of a text: together they are no more than those of the text, and the names that its tables tell are
-- words at places of their own.
use Rattle.std.proofs.Common.{◌≡◌, ◌≤◌, ◌+◌, ◌-◌, ◌^◌, ℕ, zero, suc, List, [], ◌∷◌, ◌++◌, Bool, true, false, if◌then◌else◌, Option, None, Some, option_map, unwrap_or, Result, Ok, Err, length, map, sum, refl, ap, subst, arith}
use Rattle.std.specs.Prelude.{◌==◌, nat_lt, slice_index, drop, IfOk}
use Rattle.std.specs.List.{take_while, flat_map, cons_option}
use Rattle.std.specs.Option.{option_or}
use Rattle.std.proofs.lemmas.List.Sums.{prefix_len-le-length, sum_by-cons}
use Rattle.std.proofs.lemmas.List.Folds.{length-prefix_len}
use Rattle.rmt_ast.specs.NameForm.{is_letter, is_name_byte}
use Rattle.rmt_check.specs.Parts.{Position, ProgramFault, Token, Terminal, Rule, Ident, KeyText, TableText}
use Rattle.rmt_lexer.specs.declared.item.Item.{Item}
use Rattle.rmt_lexer.specs.declared.item.Item.TheVariants as item
use Rattle.rmt_bits.specs.Digits.{is_digit, is_hex, is_hex_number, number_of_digits}
use Rattle.rmt_lexer.specs.Text.{is_space, is_sign, is_comment, is_equal, number_item, hex_item, item_of, behind, first_place, token_at, with_front, read_item, reading, tokens_of}
use Rattle.rmt_syntax.specs.declared.tree.Tree.{Tree}
use Rattle.rmt_syntax.specs.declared.tree.Tree.TheViews.{out-Tree}
use Rattle.rmt_syntax.specs.declared.tree.Tree.TheOpen.{Tree-F}
use Rattle.rmt_syntax.specs.declared.tree.Tree.TheOpen as tree
use Rattle.rmt_syntax.specs.declared.tree.Rule.TheVariants as rule
use Rattle.rmt_syntax.specs.Grammar.{terminal_of}
use Rattle.rmt_syntax.specs.Trees.{Mark, shuts, marks, tokens_in}
use Rattle.rmt_check.specs.Names.{listed}
use Rattle.rmt_check.specs.Reading.{word_of, parts, parts_of, parts_if, same_rule, each, first, in_token, name_if, name_at, no_name, key_text, key_at, table_text, table_at, source_of}
use Rattle.rmt_check.proofs.texts.TokenLaws.{tokens-first, marks-leaf, marks-node}

-- The words of a text.

-- the bytes of the words among some tokens
abbrev pub bytes_in : List Token → ℕ
bytes_in [] = 0
bytes_in (t ∷ ts) = length (word_of t.what) + bytes_in ts

-- an item whose word is no longer than the item, and than the n bytes of the text
abbrev IsWithin : ℕ → Item → Type 0
IsWithin n (item.Gap len) = Unit {0}
IsWithin n (item.Token what len) = (length (word_of what) ≤ len) × (length (word_of what) ≤ n)
IsWithin n (item.Fault code) = Unit {0}

either : {X : Type 0} (P : X → Type 0) (b : Bool) (x y : X) → P x → P y → P (if b then x else y)
either P true x y p q = p
either P false x y p q = q

no_word : (n len : ℕ) → (length {A = ℕ} [] ≤ len) × (length {A = ℕ} [] ≤ n)
no_word n len = (omega arith, omega arith)

number_within : (n value len : ℕ) → IsWithin n (number_item value len)
number_within n value len = either (IsWithin n) (nat_lt value (2 ^ 128)) _ _ (no_word n len) tt

hex_within : (n : ℕ) (digits : List ℕ) → IsWithin n (hex_item digits)
hex_within n digits = either (IsWithin n) (length digits == 0) _ _ tt (number_within n (number_of_digits 16 digits) (2 + length digits))

word_within : (text : List ℕ) → length (take_while is_name_byte text) ≤ length text
word_within text = omega (arith, length-prefix_len is_name_byte text, prefix_len-le-length is_name_byte text)

item_within : (text : List ℕ) → IsWithin (length text) (item_of text)
item_within text =
    let n : ℕ = length text in
    either (IsWithin n) (is_space (slice_index text 0)) _ _ tt
    (either (IsWithin n) (is_comment text) _ _ tt
    (either (IsWithin n) (is_letter (slice_index text 0)) _ _ (omega arith, word_within text)
    (either (IsWithin n) (is_hex_number text) _ _ (hex_within n (take_while is_hex (drop 2 text)))
    (either (IsWithin n) (is_digit (slice_index text 0)) _ _ (number_within n (number_of_digits 10 (take_while is_digit text)) (length (take_while is_digit text)))
    (either (IsWithin n) (is_equal text) _ _ (no_word n 2)
    (either (IsWithin n) (is_sign (slice_index text 0)) _ _ (no_word n 1) tt))))))

-- tokens whose words have at most n bytes
abbrev AreShort : ℕ → List Token → Type 0
AreShort n ts = bytes_in ts ≤ n

shorter : (n m : ℕ) (r : Result (List Token) ProgramFault) → n ≤ m → IfOk r (AreShort n) → IfOk r (AreShort m)
shorter n m (Ok ts) le h = omega arith
shorter n m (Err f) le h = tt

short_front : (t : Token) (n m : ℕ) (r : Result (List Token) ProgramFault) → length (word_of t.what) + n ≤ m → IfOk r (AreShort n) → IfOk (with_front t r) (AreShort m)
short_front t n m (Ok ts) le h = omega arith
short_front t n m (Err f) le h = tt

short_item : (at : Position) (i : Item) (n : ℕ) (rest : ℕ → Result (List Token) ProgramFault) → IsWithin (suc n) i → ((len : ℕ) → IfOk (rest len) (AreShort (n - (len - 1))))
    → IfOk (read_item at i rest) (AreShort (suc n))
short_item at (item.Gap len) n rest h more = shorter (n - (len - 1)) (suc n) (rest len) (omega arith) (more len)
short_item at (item.Token what len) n rest h more = short_front (token_at at what) (n - (len - 1)) (suc n) (rest len) (omega (arith, h.0, h.1)) (more len)
short_item at (item.Fault code) n rest h more = tt

short_reading : (more : ℕ) (at : Position) (text : List ℕ) → IfOk (reading more at text) (AreShort (length text - more))
short_reading more at [] = omega arith
short_reading (suc more) at (b ∷ bs) = shorter (length bs - more) (length (b ∷ bs) - suc more) (reading more (behind at b) bs) (omega arith) (short_reading more (behind at b) bs)
short_reading zero at (b ∷ bs) =
    let rest : ℕ → Result (List Token) ProgramFault = λ len. reading (len - 1) (behind at b) bs in
    shorter (suc (length bs)) (length (b ∷ bs) - 0) (read_item at (item_of (b ∷ bs)) rest) (omega arith)
    (short_item at (item_of (b ∷ bs)) (length bs) rest (item_within (b ∷ bs)) (λ len. short_reading (len - 1) (behind at b) bs))

pub tokens_short : (text : List ℕ) (ts : List Token) → tokens_of text ≡ Ok ts → bytes_in ts ≤ length text
tokens_short text ts e = let short = subst (λ (r : Result (List Token) ProgramFault). IfOk r (AreShort (length text - 0))) e (short_reading 0 first_place text) in omega (arith, short)

-- The words of a tree.

abbrev pub tree_bytes : Tree → ℕ
tree_bytes t = bytes_in (tokens_in (marks t))

abbrev pub trees_bytes : List Tree → ℕ
trees_bytes [] = 0
trees_bytes (t ∷ ts) = tree_bytes t + trees_bytes ts

bytes-append : (ts us : List Token) → bytes_in (ts ++ us) ≡ bytes_in ts + bytes_in us
bytes-append [] us = omega arith
bytes-append (t ∷ ts) us = omega (arith, bytes-append ts us)

bytes-trees : (us : List Tree) (last : List Mark) → bytes_in (tokens_in (flat_map marks us ++ last)) ≡ trees_bytes us + bytes_in (tokens_in last)
bytes-trees [] last = omega arith
bytes-trees (u ∷ us) last =
    omega (arith, ap bytes_in (tokens-first u us last), bytes-append (tokens_in (marks u)) (tokens_in (flat_map marks us ++ last)), bytes-trees us last)

-- a tree has the words of its parts
parts_bytes : (u : Tree) (x : Tree-F Tree) → out-Tree u ≡ x → trees_bytes (parts_of x) ≤ tree_bytes u
parts_bytes u (tree.One t) e = omega arith
parts_bytes u (tree.Many r v) e = omega (arith, ap (λ ms. bytes_in (tokens_in ms)) (marks-node u r v e), bytes-trees v (shuts r ∷ []))

-- and a leaf that of its token
leaf_bytes : (u : Tree) (t : Token) → out-Tree u ≡ tree.One t → length (word_of t.what) ≤ tree_bytes u
leaf_bytes u t e = omega (arith, ap (λ ms. bytes_in (tokens_in ms)) (marks-leaf u t e))

-- What is seen in each of some trees has no more bytes than they.

-- the size of what is seen, if anything
abbrev size_of : {A : Type 0} → (A → ℕ) → Option A → ℕ
size_of size None = 0
size_of size (Some x) = size x

pub sum-cons : (n : ℕ) (ns : List ℕ) → sum (n ∷ ns) ≡ n + sum ns
sum-cons = sum_by-cons (λ n. n)

one_more : {A : Type 0} (size : A → ℕ) (o : Option A) (xs : List A) → sum (map size (cons_option o xs)) ≡ size_of size o + sum (map size xs)
one_more size None xs = omega arith
one_more size (Some x) xs = sum-cons (size x) (map size xs)

one_or : {A : Type 0} (size : A → ℕ) (o p : Option A) → size_of size (option_or o p) ≤ size_of size o + size_of size p
one_or size None p = omega arith
one_or size (Some x) p = omega arith

each_short : {A : Type 0} (size : A → ℕ) (see : List Tree → Option A) → ((u : Tree) (us : List Tree) → size_of size (see (u ∷ us)) ≤ tree_bytes u)
    → (ts : List Tree) → sum (map size (each see ts)) ≤ trees_bytes ts
each_short size see most [] = omega arith
each_short size see most (u ∷ us) = omega (arith, one_more size (see (u ∷ us)) (each see us), most u us, each_short size see most us)

-- so have the first of two kinds together, of which no tree is both
firsts_short : {A B : Type 0} (f : A → ℕ) (g : B → ℕ) (see : List Tree → Option A) (also : List Tree → Option B)
    → ((u : Tree) (us : List Tree) → size_of f (see (u ∷ us)) + size_of g (also (u ∷ us)) ≤ tree_bytes u)
    → (ts : List Tree) → size_of f (first see ts) + size_of g (first also ts) ≤ trees_bytes ts
firsts_short f g see also most [] = omega arith
firsts_short f g see also most (u ∷ us) =
    omega (arith, one_or f (see (u ∷ us)) (first see us), one_or g (also (u ∷ us)) (first also us), most u us, firsts_short f g see also most us)

-- what is made of the parts of a rule's text
made_short : {A : Type 0} (size : A → ℕ) (r : Rule) (make : List Tree → A) → ((ts : List Tree) → size (make ts) ≤ trees_bytes ts)
    → (x : Tree-F Tree) → size_of size (option_map make (parts_if r x)) ≤ trees_bytes (parts_of x)
made_short size r make law (tree.One t) = omega arith
made_short size r make law (tree.Many s v) = by (same_rule r s)
  where
    by : (b : Bool) → size_of size (option_map make (if b then Some v else None)) ≤ trees_bytes v
    by true = law v
    by false = omega arith

-- The names that tables tell.

abbrev pub ident_bytes : Ident → ℕ
ident_bytes i = length i.name

-- the bytes of a table's name and of those in its list
abbrev pub table_bytes : TableText → ℕ
table_bytes t = ident_bytes t.ident + sum (map ident_bytes (listed t))

abbrev key_bytes : KeyText → ℕ
key_bytes k = sum (map ident_bytes k.actions)

name_short : (c : Terminal) (t : Token) → size_of ident_bytes (name_if c t) ≤ length (word_of t.what)
name_short c t = grind arith

-- a name that is seen in a tree
abbrev name_in : Tree-F Tree → Option Ident
name_in = in_token (λ t. name_if (terminal_of t.what) t)

leaf_short : (u : Tree) (x : Tree-F Tree) → out-Tree u ≡ x → size_of ident_bytes (name_in x) ≤ tree_bytes u
leaf_short u (tree.One t) e = omega (arith, name_short (terminal_of t.what) t, leaf_bytes u t e)
leaf_short u (tree.Many r v) e = omega arith

key_short : (ts : List Tree) → key_bytes (key_text ts) ≤ trees_bytes ts
key_short = each_short ident_bytes name_at (λ u us. leaf_short u (out-Tree u) refl)

-- a tree is a name or a key, not both
name_or_key : (u : Tree) (x : Tree-F Tree) → out-Tree u ≡ x → size_of ident_bytes (name_in x) + size_of key_bytes (option_map key_text (parts_if rule.Key x)) ≤ tree_bytes u
name_or_key u (tree.One t) e = omega (arith, leaf_short u (tree.One t) e)
name_or_key u (tree.Many r v) e = omega (arith, made_short key_bytes rule.Key key_text key_short (tree.Many r v), parts_bytes u (tree.Many r v) e)

named_bytes : (o : Option Ident) → ident_bytes (unwrap_or o no_name) ≡ size_of ident_bytes o
named_bytes None = refl
named_bytes (Some i) = refl

listed_bytes : (o : Option KeyText) → sum (map ident_bytes (unwrap_or (option_map (λ (k : KeyText). k.actions) o) [])) ≡ size_of key_bytes o
listed_bytes None = refl
listed_bytes (Some k) = refl

table_short : (ts : List Tree) → table_bytes (table_text ts) ≤ trees_bytes ts
table_short ts =
    omega (
      arith,
      named_bytes (first name_at ts),
      listed_bytes (first key_at ts),
      firsts_short ident_bytes key_bytes name_at key_at (λ u us. name_or_key u (out-Tree u) refl) ts,
    )

one_table : (u : Tree) (us : List Tree) → size_of table_bytes (table_at (u ∷ us)) ≤ tree_bytes u
one_table u us = omega (arith, made_short table_bytes rule.Table table_text table_short (out-Tree u), parts_bytes u (out-Tree u) refl)

-- the names that the tables of a text tell are no longer than the text
pub tables_short : (text : List ℕ) (tokens : List Token) (t : Tree) → tokens_of text ≡ Ok tokens → tokens_in (marks t) ≡ tokens
    → sum (map table_bytes (source_of t).tables) ≤ length text
tables_short text tokens t read yield =
    omega (arith, each_short table_bytes table_at one_table (parts t), parts_bytes t (out-Tree t) refl, ap bytes_in yield, tokens_short text tokens read)
