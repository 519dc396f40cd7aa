-- The grammar of program text: what a public clause speaks of, and a reader has to believe. Its words are passed on.
use Rattle.std.specs.Prelude.{ℕ, List, [], ◌∷◌, Bool, ◌==◌, codes, map, if◌then◌else◌}
use Rattle.std.specs.Str.{bytes_eq}
use Rattle.rmt_lexer.specs.declared.token.TokenKind.{TokenKind}
use Rattle.rmt_lexer.specs.declared.token.TokenKind.TheVariants as token
pub use Rattle.rmt_syntax.specs.declared.terminal.Terminal.{Terminal}
pub use Rattle.rmt_syntax.specs.declared.terminal.Terminal.TheVariants as terminal
pub use Rattle.rmt_syntax.specs.declared.tree.Rule.{Rule}
pub use Rattle.rmt_syntax.specs.declared.tree.Rule.TheVariants as rule
pub use Rattle.rmt_syntax.specs.declared.grammar.Part.{Part}
pub use Rattle.rmt_syntax.specs.declared.grammar.Part.TheVariants.{One, Node}
pub use Rattle.rmt_syntax.specs.declared.grammar.Phrase.{Phrase}
pub use Rattle.rmt_syntax.specs.declared.grammar.Phrase.TheVariants.{Whole, Done}
use Rattle.rmt_syntax.specs.declared.grammar.Phrase.TheVariants as phrase

-- the reserved words
abbrev pub keywords : List (List ℕ × Terminal)
keywords =
    (codes "header", terminal.Header) ∷
    (codes "next", terminal.Next) ∷
    (codes "accept", terminal.Accept) ∷
    (codes "reject", terminal.Reject) ∷
    (codes "meta", terminal.Meta) ∷
    (codes "action", terminal.Action) ∷
    (codes "table", terminal.Table) ∷
    (codes "exact", terminal.Exact) ∷
    (codes "prefix", terminal.Prefix) ∷
    (codes "ternary", terminal.Ternary) ∷
    (codes "actions", terminal.Actions) ∷
    (codes "default", terminal.Default) ∷
    (codes "size", terminal.Size) ∷
    (codes "counted", terminal.Counted) ∷
    (codes "control", terminal.Control) ∷
    (codes "apply", terminal.Apply) ∷
    (codes "if", terminal.If) ∷
    (codes "else", terminal.Else) ∷
    (codes "hit", terminal.Hit) ∷
    (codes "miss", terminal.Miss) ∷
    (codes "in_port", terminal.InPort) ∷
    (codes "out_port", terminal.OutPort) ∷
    (codes "drop", terminal.Drop) ∷
    (codes "valid", terminal.Valid) ∷
    (codes "tail", terminal.Tail) ∷ []

-- the signs of one byte
abbrev pub signs : List (ℕ × Terminal)
signs =
    (123, terminal.OpenBrace) ∷  -- {
    (125, terminal.CloseBrace) ∷  -- }
    (40, terminal.OpenParen) ∷  -- (
    (41, terminal.CloseParen) ∷  -- )
    (58, terminal.Colon) ∷  -- :
    (59, terminal.Semicolon) ∷  -- ;
    (44, terminal.Comma) ∷  -- ,
    (46, terminal.Dot) ∷  -- .
    (61, terminal.Assign) ∷  -- =
    (43, terminal.Plus) ∷  -- +
    (45, terminal.Minus) ∷  -- -
    (42, terminal.Star) ∷  -- *
    (38, terminal.Ampersand) ∷  -- &
    (124, terminal.Bar) ∷  -- |
    (94, terminal.Caret) ∷ []  -- ^

-- the entry of a table
abbrev pub entry : {K : Type 0} → (K → Bool) → List (K × Terminal) → Terminal → Terminal
entry is [] default = default
entry is (e ∷ es) default = if is e.0 then e.1 else entry is es default

-- a word that is not reserved is a name
abbrev pub word_terminal : List ℕ → Terminal
word_terminal word = entry (λ k. bytes_eq k word) keywords terminal.Name

abbrev pub sign_terminal : ℕ → Terminal
sign_terminal byte = entry (λ k. k == byte) signs terminal.Other

-- what a token is to the grammar
abbrev pub terminal_of : TokenKind → Terminal
terminal_of (token.Word word) = word_terminal word
terminal_of (token.Number n) = terminal.Number
terminal_of (token.Sign byte) = sign_terminal byte
terminal_of token.Equal = terminal.Equal
terminal_of token.End = terminal.End

-- one of the forms of a phrase: its parts up to where there is a choice again, and the phrase that goes on from there
abbrev pub Form : Type 0
Form = List Part × Phrase

-- forms of one part each, with which the text ends
abbrev pub one_of : List Part → List Form
one_of parts = map (λ (p : Part). (p ∷ [], phrase.Done)) parts

-- The grammar. The text of a rule is one of the forms of its phrase `Whole`; a phrase that goes on is one of its forms again.
-- What each phrase is of, is said at its variant.
abbrev pub choices : Phrase → List Form
-- program = { header | meta | action | table } [ control ] END
choices (Whole rule.Program) =
    (Node rule.Header ∷ [], Whole rule.Program) ∷
    (Node rule.Meta ∷ [], Whole rule.Program) ∷
    (Node rule.Action ∷ [], Whole rule.Program) ∷
    (Node rule.Table ∷ [], Whole rule.Program) ∷
    (Node rule.Control ∷ One terminal.End ∷ [], phrase.Done) ∷
    (One terminal.End ∷ [], phrase.Done) ∷ []
-- header = "header" NAME "{" { NAME ":" NUMBER ";" } [ "tail" NAME "*" NUMBER "-" NUMBER ";" ] "}" "next" next
choices (Whole rule.Header) = (One terminal.Header ∷ One terminal.Name ∷ One terminal.OpenBrace ∷ [], phrase.HeaderFields) ∷ []
choices phrase.HeaderFields =
    (One terminal.Name ∷ One terminal.Colon ∷ One terminal.Number ∷ One terminal.Semicolon ∷ [], phrase.HeaderFields) ∷
    (One terminal.Tail ∷ One terminal.Name ∷ One terminal.Star ∷ One terminal.Number ∷ One terminal.Minus ∷ One terminal.Number ∷ One terminal.Semicolon ∷ One terminal.CloseBrace ∷ One terminal.Next ∷ Node rule.Next ∷ [], phrase.Done) ∷
    (One terminal.CloseBrace ∷ One terminal.Next ∷ Node rule.Next ∷ [], phrase.Done) ∷ []
-- next = target ";" | "(" NAME { "," NAME } ")" "{" { case } "else" ":" target ";" "}"
choices (Whole rule.Next) =
    (Node rule.Target ∷ One terminal.Semicolon ∷ [], phrase.Done) ∷
    (One terminal.OpenParen ∷ One terminal.Name ∷ [], phrase.SelectNames) ∷ []
choices phrase.SelectNames =
    (One terminal.Comma ∷ One terminal.Name ∷ [], phrase.SelectNames) ∷
    (One terminal.CloseParen ∷ One terminal.OpenBrace ∷ [], phrase.Cases) ∷ []
choices phrase.Cases =
    (Node rule.Case ∷ [], phrase.Cases) ∷
    (One terminal.Else ∷ One terminal.Colon ∷ Node rule.Target ∷ One terminal.Semicolon ∷ One terminal.CloseBrace ∷ [], phrase.Done) ∷ []
-- case = value { "," value } ":" target ";"
choices (Whole rule.Case) = (Node rule.Value ∷ [], phrase.MoreValues) ∷ []
choices phrase.MoreValues =
    (One terminal.Comma ∷ Node rule.Value ∷ [], phrase.MoreValues) ∷
    (One terminal.Colon ∷ Node rule.Target ∷ One terminal.Semicolon ∷ [], phrase.Done) ∷ []
-- value = NUMBER [ "&" NUMBER ]
choices (Whole rule.Value) = (One terminal.Number ∷ [], phrase.Mask) ∷ []
choices phrase.Mask =
    (One terminal.Ampersand ∷ One terminal.Number ∷ [], phrase.Done) ∷
    ([], phrase.Done) ∷ []
-- target = NAME | "accept" | "reject"
choices (Whole rule.Target) = one_of (One terminal.Name ∷ One terminal.Accept ∷ One terminal.Reject ∷ [])
-- meta = "meta" "{" { NAME ":" NUMBER ";" } "}"
choices (Whole rule.Meta) = (One terminal.Meta ∷ One terminal.OpenBrace ∷ [], phrase.MetaFields) ∷ []
choices phrase.MetaFields =
    (One terminal.Name ∷ One terminal.Colon ∷ One terminal.Number ∷ One terminal.Semicolon ∷ [], phrase.MetaFields) ∷
    (One terminal.CloseBrace ∷ [], phrase.Done) ∷ []
-- action = "action" NAME "(" [ param { "," param } ] ")" "{" { field "=" expr ";" } "}"
choices (Whole rule.Action) = (One terminal.Action ∷ One terminal.Name ∷ One terminal.OpenParen ∷ [], phrase.Params) ∷ []
choices phrase.Params =
    (Node rule.Param ∷ [], phrase.MoreParams) ∷
    (One terminal.CloseParen ∷ One terminal.OpenBrace ∷ [], phrase.Assignments) ∷ []
choices phrase.MoreParams =
    (One terminal.Comma ∷ Node rule.Param ∷ [], phrase.MoreParams) ∷
    (One terminal.CloseParen ∷ One terminal.OpenBrace ∷ [], phrase.Assignments) ∷ []
choices phrase.Assignments =
    (Node rule.Field ∷ One terminal.Assign ∷ Node rule.Expr ∷ One terminal.Semicolon ∷ [], phrase.Assignments) ∷
    (One terminal.CloseBrace ∷ [], phrase.Done) ∷ []
-- param = NAME ":" NUMBER
choices (Whole rule.Param) = (One terminal.Name ∷ One terminal.Colon ∷ One terminal.Number ∷ [], phrase.Done) ∷ []
-- field = NAME "." NAME | NAME "." "valid" | "meta" "." NAME | "in_port" | "out_port" | "drop"
choices (Whole rule.Field) =
    (One terminal.Name ∷ One terminal.Dot ∷ [], phrase.FieldEnd) ∷
    (One terminal.Meta ∷ One terminal.Dot ∷ One terminal.Name ∷ [], phrase.Done) ∷
    (One terminal.InPort ∷ [], phrase.Done) ∷
    (One terminal.OutPort ∷ [], phrase.Done) ∷
    (One terminal.Drop ∷ [], phrase.Done) ∷ []
choices phrase.FieldEnd = one_of (One terminal.Name ∷ One terminal.Valid ∷ [])
-- expr = leaf [ ( "+" | "-" | "&" | "|" | "^" ) leaf ]
choices (Whole rule.Expr) = (Node rule.Leaf ∷ [], phrase.Operation) ∷ []
choices phrase.Operation =
    (One terminal.Plus ∷ Node rule.Leaf ∷ [], phrase.Done) ∷
    (One terminal.Minus ∷ Node rule.Leaf ∷ [], phrase.Done) ∷
    (One terminal.Ampersand ∷ Node rule.Leaf ∷ [], phrase.Done) ∷
    (One terminal.Bar ∷ Node rule.Leaf ∷ [], phrase.Done) ∷
    (One terminal.Caret ∷ Node rule.Leaf ∷ [], phrase.Done) ∷
    ([], phrase.Done) ∷ []
-- leaf = field | NAME | NUMBER
choices (Whole rule.Leaf) = one_of (Node rule.Field ∷ One terminal.Name ∷ One terminal.Number ∷ [])
-- table = "table" NAME "{" [ key ] "default" NAME "(" [ NUMBER { "," NUMBER } ] ")" ";" "}"
choices (Whole rule.Table) = (One terminal.Table ∷ One terminal.Name ∷ One terminal.OpenBrace ∷ [], phrase.TableKey) ∷ []
choices phrase.TableKey =
    (Node rule.Key ∷ One terminal.Default ∷ One terminal.Name ∷ One terminal.OpenParen ∷ [], phrase.Arguments) ∷
    (One terminal.Default ∷ One terminal.Name ∷ One terminal.OpenParen ∷ [], phrase.Arguments) ∷ []
choices phrase.Arguments =
    (One terminal.Number ∷ [], phrase.MoreArguments) ∷
    (One terminal.CloseParen ∷ One terminal.Semicolon ∷ One terminal.CloseBrace ∷ [], phrase.Done) ∷ []
choices phrase.MoreArguments =
    (One terminal.Comma ∷ One terminal.Number ∷ [], phrase.MoreArguments) ∷
    (One terminal.CloseParen ∷ One terminal.Semicolon ∷ One terminal.CloseBrace ∷ [], phrase.Done) ∷ []
-- key = ( "exact" | "prefix" | "ternary" ) field { "," field } ";" "actions" NAME { "," NAME } ";" "size" NUMBER ";" [ "counted" ";" ]
choices (Whole rule.Key) =
    (One terminal.Exact ∷ Node rule.Field ∷ [], phrase.KeyFields) ∷
    (One terminal.Prefix ∷ Node rule.Field ∷ [], phrase.KeyFields) ∷
    (One terminal.Ternary ∷ Node rule.Field ∷ [], phrase.KeyFields) ∷ []
choices phrase.KeyFields =
    (One terminal.Comma ∷ Node rule.Field ∷ [], phrase.KeyFields) ∷
    (One terminal.Semicolon ∷ One terminal.Actions ∷ One terminal.Name ∷ [], phrase.KeyActions) ∷ []
choices phrase.KeyActions =
    (One terminal.Comma ∷ One terminal.Name ∷ [], phrase.KeyActions) ∷
    (One terminal.Semicolon ∷ One terminal.Size ∷ One terminal.Number ∷ One terminal.Semicolon ∷ [], phrase.Counted) ∷ []
choices phrase.Counted =
    (One terminal.Counted ∷ One terminal.Semicolon ∷ [], phrase.Done) ∷
    ([], phrase.Done) ∷ []
-- control = "control" block
choices (Whole rule.Control) = (One terminal.Control ∷ Node rule.Block ∷ [], phrase.Done) ∷ []
-- block = "{" { stmt } "}"
choices (Whole rule.Block) = (One terminal.OpenBrace ∷ [], phrase.Statements) ∷ []
choices phrase.Statements =
    (Node rule.Stmt ∷ [], phrase.Statements) ∷
    (One terminal.CloseBrace ∷ [], phrase.Done) ∷ []
-- stmt = "apply" NAME ( ";" | "{" { arm } "}" ) | "if" "(" field [ "&" NUMBER ] "==" NUMBER ")" block [ "else" block ]
choices (Whole rule.Stmt) =
    (One terminal.Apply ∷ One terminal.Name ∷ [], phrase.Applied) ∷
    (One terminal.If ∷ One terminal.OpenParen ∷ Node rule.Field ∷ [], phrase.Condition) ∷ []
choices phrase.Applied =
    (One terminal.Semicolon ∷ [], phrase.Done) ∷
    (One terminal.OpenBrace ∷ [], phrase.Arms) ∷ []
choices phrase.Arms =
    (Node rule.Arm ∷ [], phrase.Arms) ∷
    (One terminal.CloseBrace ∷ [], phrase.Done) ∷ []
choices phrase.Condition =
    (One terminal.Ampersand ∷ One terminal.Number ∷ One terminal.Equal ∷ One terminal.Number ∷ One terminal.CloseParen ∷ Node rule.Block ∷ [], phrase.Otherwise) ∷
    (One terminal.Equal ∷ One terminal.Number ∷ One terminal.CloseParen ∷ Node rule.Block ∷ [], phrase.Otherwise) ∷ []
choices phrase.Otherwise =
    (One terminal.Else ∷ Node rule.Block ∷ [], phrase.Done) ∷
    ([], phrase.Done) ∷ []
-- arm = ( "hit" | "miss" | NAME ) block
choices (Whole rule.Arm) =
    (One terminal.Hit ∷ Node rule.Block ∷ [], phrase.Done) ∷
    (One terminal.Miss ∷ Node rule.Block ∷ [], phrase.Done) ∷
    (One terminal.Name ∷ Node rule.Block ∷ [], phrase.Done) ∷ []
choices phrase.Done = []
