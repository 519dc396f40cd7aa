-- What the parts of every text of the grammar have.
-- A public law rests on it: a reader has to believe it.
use Rattle.std.specs.Prelude.{◌≢◌, ◌<◌, ◌≤◌, ℕ, List, Option, Some, None, ⊤, All, codes, length}
use Rattle.std.specs.Option.{IfSome}
use Rattle.rmt_check.specs.Parts.{Token, Tree, Ident, Declared, CaseText, TailText, HeaderText, KeyText, TableText, Under, NodeText, Source}
use Rattle.rmt_syntax.specs.Trees.{marks, tokens_in}
use Rattle.rmt_ast.specs.declared.program.Kind.TheVariants.{Keyless}
use Rattle.rmt_ast.specs.WellFormed.{AllNumbered}
use Rattle.rmt_check.specs.Names.{nodes_of}
use Rattle.rmt_check.specs.Reading.{word_of}

-- a name without a dot, which is byte 46
abbrev pub HasNoDot : List ℕ → Type 0
HasNoDot name = All (λ byte. byte ≢ 46) name

-- a header as the grammar has it
pub record IsHeaderText (h : HeaderText) : Type 0 where
  -- its name is a word, and not the reserved `meta`
  pub no_dot : HasNoDot h.ident.name
  pub not_meta : h.ident.name ≢ codes "meta"
  -- no field, no name of its select and none of its tail is the reserved `valid`
  pub fields : All (λ (d : Declared). d.ident.name ≢ codes "valid") h.fields
  pub select : All (λ (i : Ident). i.name ≢ codes "valid") h.select
  pub tail : IfSome h.tail (λ (t : TailText). t.field.name ≢ codes "valid")
  -- each case has a value
  pub cases : All (λ (c : CaseText). 1 ≤ length c.values) h.cases

-- a key as the grammar has it: it says how it is compared, and has a field and an action
pub record IsKeyText (k : KeyText) : Type 0 where
  pub kind : k.kind ≢ Keyless
  pub fields : 1 ≤ length k.fields
  pub actions : 1 ≤ length k.actions

-- the key of a table, if it has one
abbrev pub HasKeyText : Option KeyText → Type 0
HasKeyText key = IfSome key IsKeyText

-- the arm that a node stands in, if any, is one of the first n nodes
abbrev pub IsUnder : ℕ → Option Under → Type 0
IsUnder n None = ⊤
IsUnder n (Some u) = u.parent < n

-- a source with headers, tables and nodes as the grammar has them
pub record IsOfText (s : Source) : Type 0 where
  pub headers : All IsHeaderText s.headers
  pub tables : All (λ (t : TableText). HasKeyText t.key) s.tables
  pub nodes : AllNumbered (λ n (x : NodeText). IsUnder n x.under) (nodes_of s)

-- a token that is no word with a dot
abbrev pub IsPlainWord : Token → Type 0
IsPlainWord t = HasNoDot (word_of t.what)

-- no word of a text has a dot
abbrev pub WordsArePlain : Tree → Type 0
WordsArePlain t = All IsPlainWord (tokens_in (marks t))
