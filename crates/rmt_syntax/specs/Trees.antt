-- Parse trees, read from left to right, which of them the grammar has, and what a fault is: what a public clause speaks of,
-- and a reader has to believe.
use Rattle.std.specs.Prelude.{◌≡◌, ℕ, suc, ◌+◌, ◌-◌, ◌≤◌, List, [], ◌∷◌, ◌++◌, map, fold, take, Some, slice_get, Result, Ok, Err, ◌⊎◌}
use Rattle.std.specs.List.{flat_map}
use Rattle.rmt_lexer.specs.declared.token.Token.{Token}
use Rattle.rmt_lexer.specs.declared.fault.ProgramFault.{ProgramFault}
use Rattle.rmt_lexer.specs.declared.fault.ProgramFault.TheVariants.{NoMemory, At}
use Rattle.rmt_syntax.specs.declared.tree.Tree.{Tree, Many}
use Rattle.rmt_syntax.specs.declared.tree.Tree.TheViews.{made-One}
use Rattle.rmt_syntax.specs.declared.tree.Tree.TheOpen.{Tree-F}
use Rattle.rmt_syntax.specs.declared.tree.Tree.TheOpen as tree
use Rattle.rmt_syntax.specs.declared.tree.Tree.TheFolds.{fold-Tree}
use Rattle.rmt_syntax.specs.Grammar.{Terminal, Rule, Part, One, Node, Phrase, Whole, Done, terminal_of, choices}
use Rattle.rmt_syntax.specs.Grammar.rule

-- a token, or where the text of a rule begins or ends
pub data Mark : Type 0 where
  leaf : Token → Mark
  opens : Rule → Mark
  shuts : Rule → Mark

abbrev pub marks_step : Tree-F (List Mark) → List Mark
marks_step (tree.One t) = leaf t ∷ []
marks_step (tree.Many r parts) = opens r ∷ (flat_map (λ m. m) parts ++ shuts r ∷ [])

-- a tree from left to right: its tokens, and around the parts of each rule where its text begins and ends
abbrev pub marks : Tree → List Mark
marks = fold-Tree (List Mark) marks_step

-- the tokens among the marks
abbrev pub tokens_in : List Mark → List Token
tokens_in [] = []
tokens_in (leaf t ∷ ms) = t ∷ tokens_in ms
tokens_in (opens r ∷ ms) = tokens_in ms
tokens_in (shuts r ∷ ms) = tokens_in ms

-- what may have to come: a part, what is left of the text of a rule, or the end of that text
pub data Goal : Type 0 where
  part : Part → Goal
  phrase : Phrase → Goal
  shut : Rule → Goal

-- the marks are these, one after another, by the grammar
pub data Reads : List Goal → List Mark → Type 0 where
  nothing : Reads [] []
  token : {c : _} {t : Token} {gs : List Goal} {ms : List Mark} → terminal_of t.what ≡ c → Reads gs ms → Reads (part (One c) ∷ gs) (leaf t ∷ ms)
  node : {r : Rule} {gs : List Goal} {ms : List Mark} → Reads (phrase (Whole r) ∷ shut r ∷ gs) ms → Reads (part (Node r) ∷ gs) (opens r ∷ ms)
  end : {r : Rule} {gs : List Goal} {ms : List Mark} → Reads gs ms → Reads (shut r ∷ gs) (shuts r ∷ ms)
  done : {gs : List Goal} {ms : List Mark} → Reads gs ms → Reads (phrase Done ∷ gs) ms
  choose : {x : Phrase} {gs : List Goal} {ms : List Mark} (i : ℕ) (parts : List Part) (next : Phrase) → slice_get (choices x) i ≡ Some (parts, next)
      → Reads (map part parts ++ phrase next ∷ gs) ms → Reads (phrase x ∷ gs) ms

-- the marks of a whole text of the grammar
abbrev pub IsText : List Mark → Type 0
IsText ms = Reads (part (Node rule.Program) ∷ []) ms

-- how many blocks are open behind a mark, where so many were before
abbrev pub depth_after : ℕ → Mark → ℕ
depth_after n (opens rule.Block) = n + 1
depth_after n (shuts rule.Block) = n - 1
depth_after n _ = n

-- how many blocks are open behind the marks
abbrev pub depth_of : List Mark → ℕ
depth_of ms = fold depth_after 0 ms

-- nowhere are more than 32 blocks open, where so many were before
abbrev pub IsNestedFrom : ℕ → List Mark → Type 0
IsNestedFrom n [] = n ≤ 32
IsNestedFrom n (m ∷ ms) = (n ≤ 32) × IsNestedFrom (depth_after n m) ms

-- nowhere are more than 32 blocks open
abbrev pub IsNested : List Mark → Type 0
IsNested ms = IsNestedFrom 0 ms

-- the tree is one of the grammar, its tokens are these, and its blocks are nested in one another at most 32 deep
pub record IsTreeOf (tokens : List Token) (t : Tree) : Type 0 where
  pub grammar : IsText (marks t)
  pub yield : tokens_in (marks t) ≡ tokens
  pub nested : IsNested (marks t)

-- a text of the grammar begins with the marks
abbrev pub IsFront : List Mark → Type 0
IsFront front = (rest : List Mark) × IsText (front ++ rest)

-- The tokens before the k-th begin a text of the grammar in which no 33rd block is open yet; with the k-th token they begin none.
pub record Unexpected (tokens : List Token) (k : ℕ) : Type 0 where
  pub before : (front : List Mark) × IsFront front × (tokens_in front ≡ take k tokens) × IsNested front
  pub none : (front : List Mark) → IsFront front → tokens_in front ≡ take (suc k) tokens → ⊥

-- The k-th token is the first of a block inside 32 others, in a text of the grammar that begins with the tokens up to it.
pub record TooDeep (tokens : List Token) (k : ℕ) : Type 0 where
  pub outside : List Mark
  pub brace : Token
  pub front : IsFront (outside ++ opens rule.Block ∷ leaf brace ∷ [])
  pub before : tokens_in outside ≡ take k tokens
  pub here : slice_get tokens k ≡ Some brace
  pub nested : IsNested outside
  pub depth : depth_of outside ≡ 32

-- the fault is at the k-th token: 3 where it can't stand there, 4 where it begins a 33rd block
abbrev pub IsFaultAt : List Token → ℕ → ℕ → Type 0
IsFaultAt tokens code k = ((code ≡ 3) × Unexpected tokens k) ⊎ ((code ≡ 4) × TooDeep tokens k)

-- the token at a place in the text has that fault
abbrev pub IsFault : List Token → ℕ → ℕ → ℕ → Type 0
IsFault tokens code line column = (k : ℕ) × (t : Token) × (slice_get tokens k ≡ Some t) × (t.line ≡ line) × (t.column ≡ column) × IsFaultAt tokens code k

-- the tokens have a tree, or a fault
abbrev pub HasTree : List Token → Type 0
HasTree tokens = (t : Tree) × IsTreeOf tokens t

abbrev pub HasFault : List Token → Type 0
HasFault tokens = (code : ℕ) × (line : ℕ) × (column : ℕ) × IsFault tokens code line column

-- the answer: the tree, or the fault, or want of memory
abbrev pub Answers : List Token → Result Tree ProgramFault → Type 0
Answers tokens (Ok t) = IsTreeOf tokens t
Answers tokens (Err NoMemory) = Unit {0}
Answers tokens (Err (At code line column)) = IsFault tokens code line column

-- the answer is that tree, or want of memory
abbrev pub Gives : Result Tree ProgramFault → Tree → Type 0
Gives (Ok t) wanted = t ≡ wanted
Gives (Err NoMemory) wanted = Unit {0}
Gives (Err (At code line column)) wanted = ⊥

-- the tree is of a rule
abbrev pub IsOf : Rule → Tree → Type 0
IsOf r t = Reads (part (Node r) ∷ []) (marks t)

-- the trees are these parts, one after another
abbrev pub AreParts : List Part → List Tree → Type 0
AreParts [] [] = Unit {0}
AreParts [] (t ∷ ts) = ⊥
AreParts (p ∷ ps) [] = ⊥
AreParts (p ∷ ps) (t ∷ ts) = Reads (part p ∷ []) (marks t) × AreParts ps ts

-- the parts of a phrase: those of one of its forms, and then those of the phrase that goes on
pub data Follows : Phrase → List Part → Type 0 where
  stop : Follows Done []
  onward : {x : Phrase} {qs : List Part} (i : ℕ) (parts : List Part) (next : Phrase) → slice_get (choices x) i ≡ Some (parts, next) → Follows next qs → Follows x (parts ++ qs)

-- the trees are the parts of a phrase, one after another
abbrev pub ArePartsOf : Phrase → List Tree → Type 0
ArePartsOf x ts = (ps : List Part) × Follows x ps × AreParts ps ts

-- the tree is a node of the rule, and its parts are those of the rule's text, each a token or a tree of its rule
abbrev pub IsNodeOf : Rule → Tree → Type 0
IsNodeOf r t = (parts : List Tree) × (t ≡ Many r parts) × ArePartsOf (Whole r) parts

-- the tree is a token of that kind
abbrev pub IsTokenOf : Terminal → Tree → Type 0
IsTokenOf c t = (u : Token) × (t ≡ made-One u) × (terminal_of u.what ≡ c)
