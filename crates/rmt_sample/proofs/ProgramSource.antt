-- The program of a sample as it is read from its trees.
use Rattle.std.proofs.Common.{ℕ, Bool, List, [], ◌∷◌, codes, true, false, None, Some}
use Rattle.rmt_ast.specs.declared.program.Kind.TheVariants.{Exact}
use Rattle.rmt_lexer.specs.declared.position.Position.{Position}
use Rattle.rmt_check.specs.declared.source.ActionText.{ActionText}
use Rattle.rmt_check.specs.declared.source.AssignText.{AssignText}
use Rattle.rmt_check.specs.declared.source.CaseText.{CaseText}
use Rattle.rmt_check.specs.declared.source.Declared.{Declared}
use Rattle.rmt_check.specs.declared.source.ExprText.{ExprText}
use Rattle.rmt_check.specs.declared.source.FieldText.{FieldText}
use Rattle.rmt_check.specs.declared.source.HeaderText.{HeaderText}
use Rattle.rmt_check.specs.declared.source.Ident.{Ident}
use Rattle.rmt_check.specs.declared.source.KeyText.{KeyText}
use Rattle.rmt_check.specs.declared.source.LeafText.{LeafText}
use Rattle.rmt_check.specs.declared.source.LeafText.TheVariants as leaf
use Rattle.rmt_check.specs.declared.source.NodeText.{NodeText}
use Rattle.rmt_check.specs.declared.source.Number.{Number}
use Rattle.rmt_check.specs.declared.source.OwnerText.TheVariants.{Header, Intrinsic}
use Rattle.rmt_check.specs.declared.source.Source.{Source}
use Rattle.rmt_check.specs.declared.source.TableText.{TableText}
use Rattle.rmt_check.specs.declared.source.TargetText.TheVariants as target
use Rattle.rmt_check.specs.declared.source.Under.{Under}
use Rattle.rmt_check.specs.declared.source.ValueText.{ValueText}
use Rattle.rmt_check.specs.declared.source.WhatText.TheVariants.{Apply, If}
use Rattle.rmt_sample.proofs.ProgramForest.{step}

abbrev pub at : ℕ → ℕ → Position
at line column = record { line = line; column = column }

abbrev ident : ℕ → ℕ → List ℕ → Ident
ident line column name = record { place = at line column; name = name }

abbrev number : ℕ → ℕ → ℕ → Number
number line column n = record { place = at line column; value = n }

-- a name at a column, and its width at another
abbrev declared : ℕ → ℕ → List ℕ → ℕ → ℕ → Declared
declared line column name behind width = record { ident = ident line column name; width = number line behind width }

-- a field of a header
abbrev field : ℕ → ℕ → List ℕ → ℕ → List ℕ → FieldText
field line column header behind name = record { place = at line column; owner = Header (ident line column header); ident = ident line behind name }

-- a field that every program has
abbrev common : ℕ → ℕ → List ℕ → FieldText
common line column name = record { place = at line column; owner = Intrinsic; ident = ident line column name }

-- a field that becomes a leaf
abbrev assigned : FieldText → LeafText → AssignText
assigned dest left =
    let e : ExprText = record { left = left; right = None } in
    record { dest = dest; expr = e }

abbrev pub header_eth : HeaderText
header_eth =
    let kind : ValueText = record { value = number 1 61 2048; mask = None } in
    let internet : CaseText = record { values = kind ∷ []; target = target.Header (ident 1 70 (codes "ipv4")) } in
    record {
      ident = ident 1 8 (codes "eth");
      fields = declared 1 14 (codes "dst") 20 48 ∷ declared 1 24 (codes "src") 30 48 ∷ declared 1 34 (codes "kind") 41 16 ∷ [];
      tail = None;
      select = ident 1 53 (codes "kind") ∷ [];
      cases = internet ∷ [];
      other = target.Accept;
    }

abbrev pub header_ipv4 : HeaderText
header_ipv4 = record {
  ident = ident 2 8 (codes "ipv4");
  fields = declared 2 15 (codes "head") 22 64 ∷ declared 2 26 (codes "ttl") 32 8 ∷ declared 2 35 (codes "proto") 43 8 ∷ declared 2 46 (codes "sum") 52 16
      ∷ declared 2 56 (codes "src") 62 32 ∷ declared 2 66 (codes "dst") 72 32 ∷ [];
  tail = None;
  select = [];
  cases = [];
  other = target.Accept;
}

abbrev pub action_forward : ActionText
action_forward = record {
  ident = ident 3 8 (codes "forward");
  params = declared 3 16 (codes "port") 23 9 ∷ [];
  assigns = assigned (common 3 28 (codes "out_port")) (leaf.Param (ident 3 39 (codes "port"))) ∷ [];
}

abbrev pub action_discard : ActionText
action_discard = record {
  ident = ident 4 8 (codes "discard");
  params = [];
  assigns = assigned (common 4 20 (codes "drop")) (leaf.Number (number 4 27 1)) ∷ [];
}

-- a table of one exact field, whose line goes on behind its size at the column of its default action
abbrev table : (line : ℕ) → List ℕ → FieldText → (actions size n : ℕ) → Bool → (default : ℕ) → TableText
table line name field actions size n counted default =
    let key : KeyText = record { kind = Exact; fields = field ∷ []; actions = ident line actions (codes "forward") ∷ []; size = number line size n; counted = counted } in
    record { ident = ident line 7 name; key = Some key; default = ident line default (codes "discard"); args = [] }

-- behind its size the line of a table goes on at this column
abbrev pub table_macs : (n column : ℕ) → TableText
table_macs n column = table 5 (codes "macs") (field 5 20 (codes "eth") 24 (codes "dst")) 37 51 n true (step 19 column)

abbrev pub table_hosts : (n column : ℕ) → TableText
table_hosts n column = table 6 (codes "hosts") (field 6 21 (codes "ipv4") 26 (codes "dst")) 39 53 n false (step 10 column)

-- a table in an arm of the `if`
abbrev applied : ℕ → ℕ → ℕ → List ℕ → NodeText
applied arm column behind name =
    let u : Under = record { parent = 0; arm = arm } in
    record { place = at 7 column; under = Some u; what = Apply (ident 7 behind name) [] }

abbrev pub nodes : List NodeText
nodes =
    let valid : NodeText = record { place = at 7 11; under = None; what = If (field 7 15 (codes "ipv4") 20 (codes "valid")) None (number 7 29 1) } in
    valid ∷ applied 0 34 40 (codes "hosts") ∷ applied 1 56 62 (codes "macs") ∷ []

abbrev pub source : (n first second : ℕ) → Source
source n first second = record {
  headers = header_eth ∷ header_ipv4 ∷ [];
  metas = [];
  actions = action_forward ∷ action_discard ∷ [];
  tables = table_macs n first ∷ table_hosts n second ∷ [];
  control = Some nodes;
  end = at 8 1;
}
