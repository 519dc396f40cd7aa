-- The parts of a program's text, read from its tree.
-- The public contracts rest on it: a reader has to believe it.
use Rattle.std.specs.Prelude.{ℕ, List, [], ◌∷◌, ◌++◌, Bool, true, false, if◌then◌else◌, Option, Some, None, length, fold, map, filter_map, option_map, is_some, unwrap_or, drop}
use Rattle.std.specs.List.{cons_option, enumerate_from}
use Rattle.std.specs.Option.{option_or, option_and_then}
use Rattle.rmt_check.specs.Parts.{Kind, Op, Position, Token, TokenKind, Terminal, Rule, Tree, Ident, Number, Declared, OwnerText, FieldText, ValueText, TargetText, CaseText, TailText, HeaderText, MetaText, LeafText, Sign, ExprText, AssignText, ActionText, KeyText, TableText, ArmText, Under, WhatText, NodeText, Source}
use Rattle.rmt_lexer.specs.declared.token.TokenKind.TheVariants as token
use Rattle.rmt_syntax.specs.declared.terminal.Terminal.TheVariants as terminal
use Rattle.rmt_syntax.specs.declared.tree.Tree.TheViews.{out-Tree}
use Rattle.rmt_syntax.specs.declared.tree.Tree.TheOpen.{Tree-F}
use Rattle.rmt_syntax.specs.declared.tree.Tree.TheOpen as tree
use Rattle.rmt_syntax.specs.declared.tree.Tree.TheFolds.{fold-Tree}
use denote.Enum.Bare.{sameb}
use Rattle.rmt_syntax.specs.contracts.tree.Rule.{the_type}
use Rattle.rmt_syntax.specs.declared.tree.Rule.TheVariants as rule
use Rattle.rmt_syntax.specs.Grammar.{terminal_of}
use Rattle.rmt_syntax.specs.Lookahead.{same}
use Rattle.rmt_ast.specs.declared.program.Kind.TheVariants.{Keyless, Exact, Prefix, Ternary}
use Rattle.rmt_ast.specs.declared.program.Op.TheVariants.{Add, Sub, And, Or, Xor}
use Rattle.rmt_check.specs.declared.source.OwnerText.TheVariants as owner
use Rattle.rmt_check.specs.declared.source.TargetText.TheVariants as target
use Rattle.rmt_check.specs.declared.source.LeafText.TheVariants as leaf
use Rattle.rmt_check.specs.declared.source.ArmText.TheVariants as arm
use Rattle.rmt_check.specs.declared.source.WhatText.TheVariants.{Apply, If}

-- the parts of a tree
abbrev pub parts_of : Tree-F Tree → List Tree
parts_of (tree.One t) = []
parts_of (tree.Many r parts) = parts

abbrev pub parts : Tree → List Tree
parts t = parts_of (out-Tree t)

-- whether two rules are the same
abbrev pub same_rule : Rule → Rule → Bool
same_rule a b = sameb the_type a b

-- the parts of the text of a rule; none of other trees
abbrev pub parts_if : Rule → Tree-F Tree → Option (List Tree)
parts_if r (tree.One t) = None
parts_if r (tree.Many s parts) = if same_rule r s then Some parts else None

-- Of some trees, the parts of the first: it is the text of a rule.
abbrev pub parts_at : Rule → List Tree → Option (List Tree)
parts_at r [] = None
parts_at r (t ∷ ts) = parts_if r (out-Tree t)

-- what these parts say, if anything
abbrev pub at_rule : {A : Type 0} → Rule → (List Tree → Option A) → List Tree → Option A
at_rule r see ts = option_and_then see (parts_at r ts)

-- what is made of these parts
abbrev pub of_rule : {A : Type 0} → Rule → (List Tree → A) → List Tree → Option A
of_rule r make ts = option_map make (parts_at r ts)

-- what is seen at each place among some trees: in the tree there, and in those behind it
abbrev pub each : {A : Type 0} → (List Tree → Option A) → List Tree → List A
each see [] = []
each see (t ∷ ts) = cons_option (see (t ∷ ts)) (each see ts)

-- the first of what is seen so
abbrev pub first : {A : Type 0} → (List Tree → Option A) → List Tree → Option A
first see [] = None
first see (t ∷ ts) = option_or (see (t ∷ ts)) (first see ts)

-- what is seen in a token; nothing in other parts
abbrev pub in_token : {A : Type 0} → (Token → Option A) → Tree-F Tree → Option A
in_token see (tree.One t) = see t
in_token see (tree.Many r parts) = None

-- of some trees, in the first
abbrev pub at_token : {A : Type 0} → (Token → Option A) → List Tree → Option A
at_token see [] = None
at_token see (t ∷ ts) = in_token see (out-Tree t)

abbrev pub place_of : Token → Position
place_of t = record { line = t.line; column = t.column }

-- the place of a token, where it is of a kind
abbrev pub place_if : Terminal → Token → Option Position
place_if c t = if same c (terminal_of t.what) then Some (place_of t) else None

abbrev pub place_at : Terminal → List Tree → Option Position
place_at c = at_token (place_if c)

-- nowhere, in place of what a text of the grammar always has (specs/Found.antt)
abbrev pub nowhere : Position
nowhere = record { line = 0; column = 0 }

-- the bytes of a word
abbrev pub word_of : TokenKind → List ℕ
word_of (token.Word w) = w
word_of (token.Number n) = []
word_of (token.Sign byte) = []
word_of token.Equal = []
word_of token.End = []

-- a token as it is written
abbrev pub ident_of : Token → Ident
ident_of t = record { place = place_of t; name = word_of t.what }

-- a name, which is no reserved word
abbrev pub name_if : Terminal → Token → Option Ident
name_if terminal.Name t = Some (ident_of t)
name_if _ t = None

abbrev pub name_at : List Tree → Option Ident
name_at = at_token (λ t. name_if (terminal_of t.what) t)

abbrev pub number_in : TokenKind → Position → Option Number
number_in (token.Number n) place = Some (record { place = place; value = n })
number_in _ place = None

abbrev pub number_at : List Tree → Option Number
number_at = at_token (λ t. number_in t.what (place_of t))

-- the names and the numbers among some parts
abbrev pub names : List Tree → List Ident
names ts = each name_at ts

abbrev pub numbers : List Tree → List Number
numbers ts = each number_at ts

abbrev pub no_name : Ident
no_name = record { place = nowhere; name = [] }

abbrev pub no_number : Number
no_number = record { place = nowhere; value = 0 }

abbrev pub name_among : List Tree → Ident
name_among ts = unwrap_or (first name_at ts) no_name

abbrev pub number_among : List Tree → Number
number_among ts = unwrap_or (first number_at ts) no_number

-- the place of the first token among some parts
abbrev pub token_place : List Tree → Option Position
token_place = at_token (λ t. Some (place_of t))

abbrev pub place_among : List Tree → Position
place_among ts = unwrap_or (first token_place ts) nowhere

-- what stands behind a token of a kind
abbrev pub behind : {A : Type 0} → Option Position → Option A → Option A
behind None x = None
behind (Some p) x = x

abbrev pub seen_behind : {A : Type 0} → Terminal → (List Tree → Option A) → List Tree → Option A
seen_behind c see ts = behind (place_at c ts) (see (drop 1 ts))

abbrev pub name_behind : Terminal → List Tree → Option Ident
name_behind c = seen_behind c name_at

abbrev pub number_behind : Terminal → List Tree → Option Number
number_behind c = seen_behind c number_at

-- a name and a number with a token between them
abbrev pub joined : Option Ident → Option Position → Option Number → Option Declared
joined (Some i) (Some p) (Some n) = Some (record { ident = i; width = n })
joined _ _ _ = None

-- NAME ":" NUMBER
abbrev pub declared_at : List Tree → Option Declared
declared_at ts = joined (name_at ts) (place_at terminal.Colon (drop 1 ts)) (number_at (drop 2 ts))

-- param = NAME ":" NUMBER
abbrev pub param_text : List Tree → Declared
param_text ts = record { ident = name_among ts; width = number_among ts }

abbrev pub param_at : List Tree → Option Declared
param_at = of_rule rule.Param param_text

-- the words that a field is written with, in their order: names and reserved words
abbrev pub word_in : TokenKind → Token → Option Ident
word_in (token.Word w) t = Some (ident_of t)
word_in _ t = None

abbrev pub word_at : List Tree → Option Ident
word_at = at_token (λ t. word_in t.what t)

abbrev pub words : List Tree → List Ident
words = each word_at

-- whose a field of two words is: of the header that the first names, else of the metadata
abbrev pub owner_text : Option Ident → OwnerText
owner_text None = owner.Metadata
owner_text (Some header) = owner.Header header

-- a field of one word, or of two with a dot between them
abbrev pub field_text : Option Ident → List Ident → FieldText
field_text header [] = record { place = nowhere; owner = owner.Intrinsic; ident = no_name }
field_text header (a ∷ []) = record { place = a.place; owner = owner.Intrinsic; ident = a }
field_text header (a ∷ b ∷ rest) = record { place = a.place; owner = owner_text header; ident = b }

-- field = NAME "." NAME | NAME "." "valid" | "meta" "." NAME | "in_port" | "out_port" | "drop"
abbrev pub field_at : List Tree → Option FieldText
field_at = of_rule rule.Field (λ ts. field_text (name_at ts) (words ts))

-- target = NAME | "accept" | "reject"
abbrev pub target_if : Terminal → Token → Option TargetText
target_if terminal.Name t = Some (target.Header (ident_of t))
target_if terminal.Accept t = Some target.Accept
target_if terminal.Reject t = Some target.Reject
target_if _ t = None

abbrev pub target_word : List Tree → Option TargetText
target_word = at_token (λ t. target_if (terminal_of t.what) t)

abbrev pub target_text : List Tree → Option TargetText
target_text = first target_word

abbrev pub target_at : List Tree → Option TargetText
target_at = at_rule rule.Target target_text

abbrev pub target_among : List Tree → TargetText
target_among ts = unwrap_or (first target_at ts) (target.Header no_name)

-- value = NUMBER [ "&" NUMBER ]
abbrev pub value_text : List Tree → ValueText
value_text ts = record { value = number_among ts; mask = first (number_behind terminal.Ampersand) ts }

abbrev pub value_at : List Tree → Option ValueText
value_at = of_rule rule.Value value_text

-- case = value { "," value } ":" target ";"
abbrev pub case_text : List Tree → CaseText
case_text ts = record { values = each value_at ts; target = target_among ts }

abbrev pub case_at : List Tree → Option CaseText
case_at = of_rule rule.Case case_text

-- next = target ";" | "(" NAME { "," NAME } ")" "{" { case } "else" ":" target ";" "}"
abbrev pub next_at : List Tree → Option (List Tree)
next_at = parts_at rule.Next

abbrev pub next_among : List Tree → List Tree
next_among ts = unwrap_or (first next_at ts) []

-- a tail of what stands at its word, its name and its numbers
abbrev pub tail_text : Option Position → Option Ident → Option Number → Option Number → Option TailText
tail_text (Some p) (Some i) (Some m) (Some n) = Some (record { place = p; field = i; unit = m; base = n })
tail_text _ _ _ _ = None

-- "tail" NAME "*" NUMBER "-" NUMBER
abbrev pub tail_at : List Tree → Option TailText
tail_at ts = tail_text (place_at terminal.Tail ts) (name_at (drop 1 ts)) (number_at (drop 3 ts)) (number_at (drop 5 ts))

-- header = "header" NAME "{" { NAME ":" NUMBER ";" } [ "tail" NAME "*" NUMBER "-" NUMBER ";" ] "}" "next" next
abbrev pub header_text : List Tree → HeaderText
header_text ts = record {
  ident = name_among ts;
  fields = each declared_at ts;
  tail = first tail_at ts;
  select = names (next_among ts);
  cases = each case_at (next_among ts);
  other = target_among (next_among ts);
}

abbrev pub header_at : List Tree → Option HeaderText
header_at = of_rule rule.Header header_text

-- meta = "meta" "{" { NAME ":" NUMBER ";" } "}"
abbrev pub meta_text : List Tree → MetaText
meta_text ts = record { place = place_among ts; fields = each declared_at ts }

abbrev pub meta_at : List Tree → Option MetaText
meta_at = of_rule rule.Meta meta_text

-- leaf = field | NAME | NUMBER
abbrev pub leaf_part : List Tree → Option LeafText
leaf_part ts = option_or (option_map leaf.Field (field_at ts)) (option_or (option_map leaf.Param (name_at ts)) (option_map leaf.Number (number_at ts)))

abbrev pub leaf_text : List Tree → Option LeafText
leaf_text = first leaf_part

abbrev pub leaf_at : List Tree → Option LeafText
leaf_at = at_rule rule.Leaf leaf_text

-- an operator
abbrev pub op_of : Terminal → Option Op
op_of terminal.Plus = Some Add
op_of terminal.Minus = Some Sub
op_of terminal.Ampersand = Some And
op_of terminal.Bar = Some Or
op_of terminal.Caret = Some Xor
op_of _ = None

abbrev pub sign_of : Token → Option Sign
sign_of t = option_map (λ (op : Op). let s : Sign = record { place = place_of t; op = op } in s) (op_of (terminal_of t.what))

-- an operator and the operand behind it
abbrev pub operation : Option Sign → Option LeafText → Option (Sign × LeafText)
operation (Some sign) (Some l) = Some (sign, l)
operation _ _ = None

abbrev pub operation_at : List Tree → Option (Sign × LeafText)
operation_at ts = operation (at_token sign_of ts) (leaf_at (drop 1 ts))

-- expr = leaf [ ( "+" | "-" | "&" | "|" | "^" ) leaf ]
abbrev pub expr_text : List Tree → ExprText
expr_text ts = record { left = unwrap_or (first leaf_at ts) (leaf.Number no_number); right = first operation_at ts }

abbrev pub expr_at : List Tree → Option ExprText
expr_at = of_rule rule.Expr expr_text

-- a field and what is assigned to it
abbrev pub assigned : Option FieldText → Option Position → Option ExprText → Option AssignText
assigned (Some f) (Some p) (Some e) = Some (record { dest = f; expr = e })
assigned _ _ _ = None

-- field "=" expr
abbrev pub assign_at : List Tree → Option AssignText
assign_at ts = assigned (field_at ts) (place_at terminal.Assign (drop 1 ts)) (expr_at (drop 2 ts))

-- action = "action" NAME "(" [ param { "," param } ] ")" "{" { field "=" expr ";" } "}"
abbrev pub action_text : List Tree → ActionText
action_text ts = record {
  ident = name_among ts;
  params = each param_at ts;
  assigns = each assign_at ts;
}

abbrev pub action_at : List Tree → Option ActionText
action_at = of_rule rule.Action action_text

-- how a key is compared
abbrev pub kind_of : Terminal → Option Kind
kind_of terminal.Exact = Some Exact
kind_of terminal.Prefix = Some Prefix
kind_of terminal.Ternary = Some Ternary
kind_of _ = None

abbrev pub kind_at : List Tree → Option Kind
kind_at = at_token (λ t. kind_of (terminal_of t.what))

-- key = ( "exact" | "prefix" | "ternary" ) field { "," field } ";" "actions" NAME { "," NAME } ";" "size" NUMBER ";" [ "counted" ";" ]
abbrev pub key_text : List Tree → KeyText
key_text ts = record {
  kind = unwrap_or (first kind_at ts) Keyless;
  fields = each field_at ts;
  actions = names ts;
  size = number_among ts;
  counted = is_some (first (place_at terminal.Counted) ts);
}

abbrev pub key_at : List Tree → Option KeyText
key_at = of_rule rule.Key key_text

-- table = "table" NAME "{" [ key ] "default" NAME "(" [ NUMBER { "," NUMBER } ] ")" ";" "}"
abbrev pub table_text : List Tree → TableText
table_text ts = record {
  ident = name_among ts;
  key = first key_at ts;
  default = unwrap_or (first (name_behind terminal.Default) ts) no_name;
  args = numbers ts;
}

abbrev pub table_at : List Tree → Option TableText
table_at = of_rule rule.Table table_text

-- arm = ( "hit" | "miss" | NAME ) block
abbrev pub arm_if : Terminal → Token → Option ArmText
arm_if terminal.Hit t = Some arm.Hit
arm_if terminal.Miss t = Some arm.Miss
arm_if terminal.Name t = Some (arm.Action (ident_of t))
arm_if _ t = None

abbrev pub arm_word : List Tree → Option ArmText
arm_word = at_token (λ t. arm_if (terminal_of t.what) t)

abbrev pub arm_of : List Tree → Option ArmText
arm_of = first arm_word

abbrev pub arm_at : List Tree → Option ArmText
arm_at = at_rule rule.Arm arm_of

-- stmt = "apply" NAME ( ";" | "{" { arm } "}" ) | "if" "(" field [ "&" NUMBER ] "==" NUMBER ")" block [ "else" block ]
abbrev pub what_text : Option FieldText → List Tree → WhatText
what_text None ts = Apply (name_among ts) (each arm_at ts)
what_text (Some field) ts = If field (first (number_behind terminal.Ampersand) ts) (unwrap_or (first (number_behind terminal.Equal) ts) no_number)

abbrev pub node_text : Option Under → List Tree → NodeText
node_text under ts = record { place = place_among ts; under = under; what = what_text (first field_at ts) ts }

-- What a tree adds to the nodes before it, where it stands in an arm or in none.
abbrev pub Adds : Type 0
Adds = Option Under → List NodeText → List NodeText

-- a tree, and what it adds
abbrev pub Read : Type 0
Read = Tree × Adds

abbrev pub all_added : List Adds → Adds
all_added adds under before = fold (λ nodes (add : Adds). add under nodes) before adds

-- the arms of an `apply`, and the blocks of an `if`
abbrev pub is_arm : Tree-F Tree → Bool
is_arm (tree.Many rule.Arm parts) = true
is_arm (tree.Many rule.Block parts) = true
is_arm _ = false

abbrev pub arm_adds : Read → Option Adds
arm_adds r = if is_arm (out-Tree r.0) then Some r.1 else None

-- the nodes up to the end of an arm, which has a number
abbrev pub with_arm : (parent : ℕ) → List NodeText → ℕ × Adds → List NodeText
with_arm parent before a = let u : Under = record { parent = parent; arm = a.0 } in a.1 (Some u) before

-- a statement adds itself, and behind it the nodes of its arms
abbrev pub statement_added : List Read → Adds
statement_added reads under before =
    fold (with_arm (length before)) (before ++ node_text under (map (λ (r : Read). r.0) reads) ∷ []) (enumerate_from 0 (filter_map arm_adds reads))

abbrev pub is_statement : Rule → Bool
is_statement rule.Stmt = true
is_statement _ = false

-- Each statement adds nodes, and the text of another rule those of its parts.
abbrev pub text_added : Rule → List Read → Adds
text_added r reads = if is_statement r then statement_added reads else all_added (map (λ (r : Read). r.1) reads)

-- trees beside what they add, each of which is told of its tree
abbrev pub reads : List (Tree → Adds) → List Tree → List Read
reads [] ts = []
reads (f ∷ fs) [] = []
reads (f ∷ fs) (t ∷ ts) = (t, f t) ∷ reads fs ts

abbrev pub layer_added : Tree-F (Tree → Adds) → Tree → Adds
layer_added (tree.One token) t = λ under before. before
layer_added (tree.Many r inner) t = text_added r (reads inner (parts t))

abbrev pub added : Tree → Adds
added t = fold-Tree (Tree → Adds) layer_added t t

-- control = "control" block
abbrev pub control_text : List Tree → List NodeText
control_text ts = all_added (map added ts) None []

abbrev pub control_at : List Tree → Option (List NodeText)
control_at = of_rule rule.Control control_text

abbrev pub control_among : List Tree → Option (List NodeText)
control_among = first control_at

-- program = { header | meta | action | table } [ control ] END
abbrev pub source_of : Tree → Source
source_of t = record {
  headers = each header_at (parts t);
  metas = each meta_at (parts t);
  actions = each action_at (parts t);
  tables = each table_at (parts t);
  control = control_among (parts t);
  end = unwrap_or (first (place_at terminal.End) (parts t)) nowhere;
}
