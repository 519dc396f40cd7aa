-- What holds of each item of a text holds of its tokens, and what holds of the tokens of a tree holds of those of its parts.
use Rattle.std.proofs.Common.{◌≡◌, ◌∙◌, ℕ, zero, suc, ◌-◌, List, [], ◌∷◌, ◌++◌, All, Ok, Err, Result, sym, ap, subst, append_assoc}
use Rattle.std.specs.List.{flat_map}
use Rattle.std.proofs.lemmas.List.Elements.{All-nil, All-cons, All-head}
use Rattle.rmt_bits.proofs.AllLaws.{All-left, All-right}
use Rattle.rmt_check.specs.Parts.{Position, ProgramFault, Token, TokenKind, Rule}
use Rattle.rmt_lexer.specs.declared.token.TokenKind.TheVariants.{End}
use Rattle.rmt_lexer.specs.declared.item.Item.{Item}
use Rattle.rmt_lexer.specs.declared.item.Item.TheVariants as item
use Rattle.rmt_lexer.specs.Text.{item_of, behind, first_place, token_at, with_front, read_item, reading, tokens_of}
use Rattle.rmt_syntax.specs.declared.tree.Tree.{Tree, roll-Tree, roll-out-Tree}
use Rattle.rmt_syntax.specs.declared.tree.Tree.TheViews.{out-Tree}
use Rattle.rmt_syntax.specs.declared.tree.Tree.TheOpen.{Tree-F}
use Rattle.rmt_syntax.specs.declared.tree.Tree.TheOpen as tree
use Rattle.rmt_syntax.specs.declared.tree.Tree.TheVariants.{rolls-One, rolls-Many}
use Rattle.rmt_syntax.specs.Trees.{Mark, leaf, opens, shuts, marks, tokens_in}
use Rattle.rmt_syntax.proofs.MarkLaws.{marks_one, marks_many}
use Rattle.rmt_syntax.proofs.Machine.{tokens_append}
use Rattle.rmt_check.specs.Reading.{parts_of}

-- What the items of a text are, its tokens are.

module _ (P : TokenKind → Type 0) where
  -- an item that is no token of another kind
  abbrev pub Makes : Item → Type 0
  Makes (item.Gap len) = Unit {0}
  Makes (item.Token what len) = P what
  Makes (item.Fault code) = Unit {0}

  abbrev pub OfKind : Token → Type 0
  OfKind t = P t.what

  -- what is read is such tokens
  abbrev AllRead : Result (List Token) ProgramFault → Type 0
  AllRead (Ok ts) = All OfKind ts
  AllRead (Err f) = Unit {0}

  front_holds : (t : Token) (r : Result (List Token) ProgramFault) → P t.what → AllRead r → AllRead (with_front t r)
  front_holds t (Ok ts) h rest = All-cons OfKind t ts h rest
  front_holds t (Err f) h rest = tt

  item_holds : (at : Position) (i : Item) (rest : ℕ → Result (List Token) ProgramFault) → Makes i → ((n : ℕ) → AllRead (rest n)) → AllRead (read_item at i rest)
  item_holds at (item.Gap len) rest h more = more len
  item_holds at (item.Token what len) rest h more = front_holds (token_at at what) (rest len) h (more len)
  item_holds at (item.Fault code) rest h more = tt

  module _ (last : P End) (items : (b : ℕ) (bs : List ℕ) → Makes (item_of (b ∷ bs))) where
    reading_holds : (more : ℕ) (at : Position) (text : List ℕ) → AllRead (reading more at text)
    reading_holds more at [] = All-cons OfKind (token_at at End) [] last (All-nil OfKind)
    reading_holds (suc more) at (b ∷ bs) = reading_holds more (behind at b) bs
    reading_holds zero at (b ∷ bs) =
        item_holds at (item_of (b ∷ bs)) (λ len. reading (len - 1) (behind at b) bs) (items b bs) (λ len. reading_holds (len - 1) (behind at b) bs)

    pub tokens_hold : (text : List ℕ) (ts : List Token) → tokens_of text ≡ Ok ts → All OfKind ts
    tokens_hold text ts e = subst AllRead e (reading_holds 0 first_place text)

-- What the tokens of a tree are, those of its parts are.

-- the tokens of a tree, and those behind it
pub tokens-first : (u : Tree) (us : List Tree) (last : List Mark) → tokens_in (flat_map marks (u ∷ us) ++ last) ≡ tokens_in (marks u) ++ tokens_in (flat_map marks us ++ last)
tokens-first u us last = ap tokens_in (append_assoc (marks u) (flat_map marks us) last) ∙ tokens_append (marks u) (flat_map marks us ++ last)

-- the marks of a token, and of a node with its parts
pub marks-leaf : (u : Tree) (t : Token) → out-Tree u ≡ tree.One t → marks u ≡ leaf t ∷ []
marks-leaf u t e = ap marks (sym (roll-out-Tree u) ∙ ap roll-Tree e ∙ rolls-One t) ∙ marks_one t

pub marks-node : (u : Tree) (r : Rule) (parts : List Tree) → out-Tree u ≡ tree.Many r parts → marks u ≡ opens r ∷ (flat_map marks parts ++ shuts r ∷ [])
marks-node u r parts e = ap marks (sym (roll-out-Tree u) ∙ ap roll-Tree e ∙ rolls-Many r parts) ∙ marks_many r parts

module _ (P : Token → Type 0) where
  -- it holds of each token of a tree
  abbrev pub Through : Tree → Type 0
  Through t = All P (tokens_in (marks t))

  each_holds : (us : List Tree) (last : List Mark) → All P (tokens_in (flat_map marks us ++ last)) → All Through us
  each_holds [] last h = All-nil Through
  each_holds (u ∷ us) last h =
      let both = subst (All P) (tokens-first u us last) h in
      All-cons Through u us (All-left P (tokens_in (marks u)) (tokens_in (flat_map marks us ++ last)) both)
      (each_holds us last (All-right P (tokens_in (marks u)) (tokens_in (flat_map marks us ++ last)) both))

  pub parts_hold : (u : Tree) (x : Tree-F Tree) → out-Tree u ≡ x → Through u → All Through (parts_of x)
  parts_hold u (tree.One t) e h = All-nil Through
  parts_hold u (tree.Many r parts) e h = each_holds parts (shuts r ∷ []) (subst (λ ms. All P (tokens_in ms)) (marks-node u r parts e) h)

  pub token_holds : (u : Tree) (t : Token) → out-Tree u ≡ tree.One t → Through u → P t
  token_holds u t e h = All-head P t [] (subst (λ ms. All P (tokens_in ms)) (marks-leaf u t e) h)
