-- The words of a text have the form of names, so none has a dot; and its names are words, of which none is reserved.
use Rattle.std.proofs.Common.{◌≡◌, ◌≢◌, ℕ, ◌^◌, List, [], ◌∷◌, Bool, true, false, cond, if◌then◌else◌, length, drop, Ok, All, refl, sym, ap, subst, ◌∙◌, Some, unwrap_or, codes, arith}
use Rattle.std.specs.Prelude.{◌==◌, ◌||◌, IsSome, IsTrue, not, nat_lt}
use Rattle.std.specs.List.{list_all, take_while}
use Rattle.std.specs.Option.{IfSome}
use Rattle.std.specs.Str.{bytes_eq}
use Rattle.std.proofs.lemmas.Bool.{and_from, and_parts, false_from_ne_true, false≢true}
use Rattle.std.proofs.lemmas.List.Elements.{All-nil, All-cons, All-head, All-weaker}
use Rattle.std.proofs.lemmas.List.Folds.{list_any_none}
use Rattle.std.proofs.lemmas.List.Sums.{AllPass-from_list_all, take_while-cons}
use Rattle.std.proofs.lemmas.Option.{none-some}
use Rattle.std.proofs.lemmas.Slice.Eq.{bytes_eq-Decides}
use Rattle.rmt_bits.proofs.AllLaws.{All-from_test}
use Rattle.rmt_bits.proofs.OptionLaws.{IsSome-value}
use Rattle.rmt_bits.specs.Digits.{is_digit, is_hex, is_hex_number, number_of_digits}
use Rattle.rmt_ast.specs.NameForm.{has_name_form, is_name, reserved_words, is_letter, is_name_byte}
use Rattle.rmt_ast.specs.NameList.{is_known}
use Rattle.rmt_check.specs.Parts.{Token, TokenKind, Terminal, Ident}
use Rattle.rmt_lexer.specs.declared.item.Item.{Item}
use Rattle.rmt_lexer.specs.Text.{is_space, is_sign, is_comment, is_equal, number_item, hex_item, item_of, tokens_of}
use Rattle.rmt_lexer.specs.declared.token.TokenKind.TheVariants as token
use Rattle.rmt_syntax.specs.declared.terminal.Terminal.TheVariants as terminal
use Rattle.rmt_syntax.specs.declared.tree.Tree.{Tree}
use Rattle.rmt_syntax.specs.declared.tree.Tree.TheViews.{out-Tree}
use Rattle.rmt_syntax.specs.declared.tree.Tree.TheOpen.{Tree-F}
use Rattle.rmt_syntax.specs.declared.tree.Tree.TheOpen as tree
use Rattle.rmt_syntax.specs.Grammar.{signs, terminal_of, word_terminal}
use Rattle.rmt_syntax.specs.Lookahead.{same}
use Rattle.rmt_syntax.specs.Trees.{marks, tokens_in}
use Rattle.rmt_check.specs.Reading.{word_of, first, ident_of, in_token, name_if, name_at, names, name_among, no_name}
use Rattle.rmt_check.specs.Naming.{HasNoDot, IsPlainWord, WordsArePlain}
use Rattle.rmt_check.proofs.texts.FoundLaws.{given}
use Rattle.rmt_check.proofs.texts.PhraseLaws.{each_seen, first_seen, or_default}
use Rattle.rmt_check.proofs.texts.TokenLaws.{Makes, OfKind, tokens_hold, Through, token_holds}

-- The words of a text that is read as tokens have the form of names.

-- no word, or one of that form
abbrev pub HasForm : TokenKind → Type 0
HasForm (token.Word w) = IsTrue (has_name_form w)
HasForm _ = Unit {0}

all_taken : (p : ℕ → Bool) (bs : List ℕ) → list_all p (take_while p bs) ≡ true
all_taken p [] = refl
all_taken p (b ∷ bs) = rw (take_while-cons p b bs) (by (p b) refl (all_taken p bs))
  where
    by : (t : Bool) → p b ≡ t → list_all p (take_while p bs) ≡ true → list_all p (cond t (b ∷ take_while p bs) []) ≡ true
    by true e rest = and_from (p b) (list_all p (take_while p bs)) e rest
    by false e rest = refl

word_formed : (b : ℕ) (bs : List ℕ) → is_letter b ≡ true → IsTrue (has_name_form (take_while is_name_byte (b ∷ bs)))
word_formed b bs h =
    let begins : take_while is_name_byte (b ∷ bs) ≡ b ∷ take_while is_name_byte bs =
    take_while-cons is_name_byte b bs ∙ ap (λ t. cond (t || is_digit b) (b ∷ take_while is_name_byte bs) []) h in
    subst (λ w. IsTrue (has_name_form w)) (sym begins) (and_from (is_letter b) (list_all is_name_byte (take_while is_name_byte bs)) h (all_taken is_name_byte bs))

choice : (b : Bool) (x y : Item) → (b ≡ true → Makes HasForm x) → Makes HasForm y → Makes HasForm (if b then x else y)
choice true x y f g = f refl
choice false x y f g = g

number_formed : (value len : ℕ) → Makes HasForm (number_item value len)
number_formed value len = choice (nat_lt value (2 ^ 128)) _ _ (λ _. tt) tt

hex_formed : (digits : List ℕ) → Makes HasForm (hex_item digits)
hex_formed digits = choice (length digits == 0) _ _ (λ _. tt) (number_formed _ _)

item_formed : (b : ℕ) (bs : List ℕ) → Makes HasForm (item_of (b ∷ bs))
item_formed b bs =
    let text : List ℕ = b ∷ bs in
    choice (is_space b) _ _ (λ _. tt)
    (choice (is_comment text) _ _ (λ _. tt)
    (choice (is_letter b) _ _ (λ h. word_formed b bs h)
    (choice (is_hex_number text) _ _ (λ _. hex_formed (take_while is_hex (drop 2 text)))
    (choice (is_digit b) _ _ (λ _. number_formed (number_of_digits 10 (take_while is_digit text)) (length (take_while is_digit text)))
    (choice (is_equal text) _ _ (λ _. tt)
    (choice (is_sign b) _ _ (λ _. tt) tt))))))

pub tokens_formed : (text : List ℕ) (ts : List Token) → tokens_of text ≡ Ok ts → All (OfKind HasForm) ts
tokens_formed = tokens_hold HasForm tt item_formed

-- So no word has a dot.

byte_plain : (b : ℕ) → is_name_byte b ≡ true → b ≢ 46
byte_plain b h e = false≢true (subst (λ x. is_name_byte x ≡ true) e h)

no_word : HasNoDot []
no_word = All-nil (λ b. b ≢ 46)

form_plain : (w : List ℕ) → IsTrue (has_name_form w) → HasNoDot w
form_plain [] h = absurd (false≢true h)
form_plain (b ∷ bs) h =
    let both = and_parts (is_letter b) (list_all is_name_byte bs) h in
    All-cons (λ x. x ≢ 46) b bs (byte_plain b (ap (λ t. t || is_digit b) both.0)) (All-from_test (λ x. x ≢ 46) is_name_byte byte_plain bs both.1)

kind_plain : (k : TokenKind) → HasForm k → HasNoDot (word_of k)
kind_plain (token.Word w) h = form_plain w h
kind_plain (token.Number n) h = no_word
kind_plain (token.Sign b) h = no_word
kind_plain token.Equal h = no_word
kind_plain token.End h = no_word

pub tokens_plain : (text : List ℕ) (ts : List Token) → tokens_of text ≡ Ok ts → All IsPlainWord ts
tokens_plain text ts e = All-weaker (OfKind HasForm) IsPlainWord (λ t h. kind_plain t.what h) ts (tokens_formed text ts e)

-- What holds of each name among the tokens holds of the names that are read.

-- it holds of the word of a token that is a name
abbrev pub OfName : (List ℕ → Type 0) → Token → Type 0
OfName Q t = terminal_of t.what ≡ terminal.Name → Q (word_of t.what)

name_only : (c : Terminal) (t : Token) (i : Ident) → name_if c t ≡ Some i → (c ≡ terminal.Name) × (ident_of t ≡ i)
name_only c t i e = grind arith

module _ (Q : List ℕ → Type 0) where
  -- it holds of the names of a tree
  abbrev pub NamesHold : Tree → Type 0
  NamesHold = Through (OfName Q)

  abbrev Holds : Ident → Type 0
  Holds i = Q i.name

  pub name_at_holds : (ts : List Tree) (i : Ident) → All NamesHold ts → name_at ts ≡ Some i → Q i.name
  name_at_holds [] i h e = absurd (none-some i e)
  name_at_holds (u ∷ us) i h e = by (out-Tree u) refl e
    where
      by : (x : Tree-F Tree) → out-Tree u ≡ x → in_token (λ t. name_if (terminal_of t.what) t) x ≡ Some i → Q i.name
      by (tree.One t) is k =
          let name = name_only (terminal_of t.what) t i k in
          subst Holds name.1 (token_holds (OfName Q) u t is (All-head NamesHold u us h) name.0)
      by (tree.Many r parts) is k = absurd (none-some i k)

  pub names_hold : (ts : List Tree) → All NamesHold ts → All Holds (names ts)
  names_hold = each_seen NamesHold Holds name_at name_at_holds

  pub first_name_holds : (ts : List Tree) → All NamesHold ts → IfSome (first name_at ts) Holds
  first_name_holds = first_seen NamesHold Holds name_at name_at_holds

  -- of the first, where there is one
  pub name_holds : (ts : List Tree) → IsSome (first name_at ts) → All NamesHold ts → Q (name_among ts).name
  name_holds ts found h =
      let name = IsSome-value (first name_at ts) found in
      subst (λ o. Q (unwrap_or o no_name).name) (sym name.1) (subst (λ o. IfSome o Holds) name.1 (first_name_holds ts h))

-- No name is a reserved word.

-- a name as a text can have it
pub record IsName (name : List ℕ) : Type 0 where
  pub no_dot : HasNoDot name
  pub not_meta : name ≢ codes "meta"
  pub not_valid : name ≢ codes "valid"

not_reserved : (k : TokenKind) (w : List ℕ) (c : Terminal) → terminal_of k ≡ terminal.Name → word_terminal w ≡ c → (c ≡ terminal.Name → ⊥) → (w ≡ [] → ⊥) → word_of k ≡ w → ⊥
not_reserved (token.Word v) w c is reserved differs some e = differs (sym reserved ∙ ap word_terminal (sym e) ∙ is)
not_reserved _ w c is reserved differs some e = some (sym e)

plain_name : (t : Token) → IsPlainWord t → OfName IsName t
plain_name t plain is = record {
  no_dot = plain;
  not_meta = not_reserved t.what (codes "meta") terminal.Meta is refl (λ x. cc (x)) (λ x. cc (x));
  not_valid = not_reserved t.what (codes "valid") terminal.Valid is refl (λ x. cc (x)) (λ x. cc (x));
}

all_plain : (ts : List Tree) → All WordsArePlain ts → All (NamesHold IsName) ts
all_plain = All-weaker WordsArePlain (NamesHold IsName) (λ u. All-weaker IsPlainWord (OfName IsName) plain_name (tokens_in (marks u)))

pub name_at_law : (ts : List Tree) (i : Ident) → All WordsArePlain ts → name_at ts ≡ Some i → IsName i.name
name_at_law ts i plain = name_at_holds IsName ts i (all_plain ts plain)

no_name_law : IsName []
no_name_law = record { no_dot = no_word; not_meta = λ e. cc (e); not_valid = λ e. cc (e) }

pub names_plain : (ts : List Tree) → All WordsArePlain ts → All (λ (i : Ident). IsName i.name) (names ts)
names_plain ts plain = names_hold IsName ts (all_plain ts plain)

pub name_plain : (ts : List Tree) → All WordsArePlain ts → IsName (name_among ts).name
name_plain ts plain = or_default (λ (i : Ident). IsName i.name) (first name_at ts) no_name (first_name_holds IsName ts (all_plain ts plain)) no_name_law

-- Each name is one as an image may have it.

-- the grammar has a reserved word as another terminal
abbrev has_terminal : List ℕ → Bool
has_terminal word = not (same terminal.Name (word_terminal word))

none_reserved : (w : List ℕ) → word_terminal w ≡ terminal.Name → is_known reserved_words w ≡ false
none_reserved w is = list_any_none (bytes_eq w) reserved_words (All-weaker (λ v. has_terminal v ≡ true) (λ v. bytes_eq w v ≡ false) differs reserved_words (AllPass-from_list_all has_terminal reserved_words refl))
  where
    differs : (v : List ℕ) → has_terminal v ≡ true → bytes_eq w v ≡ false
    differs v h = false_from_ne_true (bytes_eq w v) (λ e.
        let name : word_terminal v ≡ terminal.Name = ap word_terminal (sym ((bytes_eq-Decides w v).0 e)) ∙ is in
        false≢true (subst (λ c. not (same terminal.Name c) ≡ true) name h))

kind_named : (k : TokenKind) → HasForm k → terminal_of k ≡ terminal.Name → IsTrue (is_name (word_of k))
kind_named (token.Word w) h is = and_from (has_name_form w) (not (is_known reserved_words w)) h (ap not (none_reserved w is))
kind_named (token.Sign b) h is = absurd (false≢true (given (λ x. x == b) signs terminal.Other terminal.Name is))
kind_named _ h is = cc

-- a name of an image
abbrev pub IsImageName : List ℕ → Type 0
IsImageName word = IsTrue (is_name word)

pub tokens_named : (text : List ℕ) (ts : List Token) → tokens_of text ≡ Ok ts → All (OfName IsImageName) ts
tokens_named text ts e = All-weaker (OfKind HasForm) (OfName IsImageName) (λ t h. kind_named t.what h) ts (tokens_formed text ts e)
