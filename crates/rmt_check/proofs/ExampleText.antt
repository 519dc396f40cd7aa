-- A small text, as it is read: each part stands at a column of one line.
use Rattle.std.proofs.Common.{ℕ, ◌+◌, List, [], ◌∷◌, codes, false, None, Some, Option}
use Rattle.rmt_ast.specs.declared.program.Kind.TheVariants.{Exact}
use Rattle.rmt_ast.specs.declared.program.Op.TheVariants.{Add}
use Rattle.rmt_check.specs.Parts.{Position, Ident, Number, Declared, OwnerText, FieldText, ValueText, CaseText, TailText, HeaderText, MetaText, LeafText, Sign, ExprText, AssignText, ActionText, KeyText, TableText, Under, NodeText, Source}
use Rattle.rmt_check.specs.declared.source.OwnerText.TheVariants as owner
use Rattle.rmt_check.specs.declared.source.TargetText.TheVariants as target
use Rattle.rmt_check.specs.declared.source.LeafText.TheVariants as leaf
use Rattle.rmt_check.specs.declared.source.ArmText.TheVariants as arm
use Rattle.rmt_check.specs.declared.source.WhatText.TheVariants.{Apply, If}

abbrev pub at : ℕ → Position
at column = record { line = 1; column = column }

abbrev pub ident : ℕ → List ℕ → Ident
ident column name = record { place = at column; name = name }

abbrev pub number : ℕ → ℕ → Number
number column n = record { place = at column; value = n }

-- a field or parameter at a column, with its width at the next
abbrev pub declared : ℕ → List ℕ → ℕ → Declared
declared column name width = record { ident = ident column name; width = number (column + 1) width }

-- a field that is named at a column, its own name at the next
abbrev pub field : ℕ → OwnerText → List ℕ → FieldText
field column owner name = record { place = at column; owner = owner; ident = ident (column + 1) name }

abbrev pub of_header : ℕ → List ℕ → List ℕ → FieldText
of_header column header name = field column (owner.Header (ident column header)) name

abbrev pub of_meta : ℕ → List ℕ → FieldText
of_meta column name = field column owner.Metadata name

-- a field that every program has: of one token
abbrev pub of_all : ℕ → List ℕ → FieldText
of_all column name = record { place = at column; owner = owner.Intrinsic; ident = ident column name }

abbrev pub value : ℕ → ℕ → ValueText
value column n = record { value = number column n; mask = None }

-- header h { a : 8; b : 8; } next (a) { 7 : g; else : accept; }
abbrev pub header_h : HeaderText
header_h =
    let to_g : CaseText = record { values = value 7 7 ∷ []; target = target.Header (ident 8 (codes "g")) } in
    record {
      ident = ident 1 (codes "h");
      fields = declared 2 (codes "a") 8 ∷ declared 4 (codes "b") 8 ∷ [];
      tail = None;
      select = ident 6 (codes "a") ∷ [];
      cases = to_g ∷ [];
      other = target.Accept;
    }

-- a header that selects by nothing
abbrev pub plain_header : ℕ → List ℕ → List Declared → Option TailText → HeaderText
plain_header column name fields tail = record { ident = ident column name; fields = fields; tail = tail; select = []; cases = []; other = target.Accept }

-- header g { a : 16; } next accept;
abbrev pub header_g : HeaderText
header_g = plain_header 10 (codes "g") (declared 11 (codes "a") 16 ∷ []) None

abbrev pub tail : ℕ → ℕ → List ℕ → ℕ → ℕ → ℕ → ℕ → TailText
tail column name_column name unit_column unit base_column base =
    record { place = at column; field = ident name_column name; unit = number unit_column unit; base = number base_column base }

-- header o { n : WIDTH; z : 4; tail NAME * UNIT - BASE; } next accept;
abbrev pub header_o : (width : ℕ) (name : List ℕ) (unit base : ℕ) → HeaderText
header_o width name unit base =
    plain_header 80 (codes "o") (declared 81 (codes "n") width ∷ declared 83 (codes "z") 4 ∷ []) (Some (tail 84 85 name 86 unit 87 base))

-- meta { m : 16; }
abbrev pub meta : MetaText
meta = record { place = at 20; fields = declared 21 (codes "m") 16 ∷ [] }

abbrev pub one : LeafText → ExprText
one l = record { left = l; right = None }

abbrev pub plus : LeafText → ℕ → LeafText → ExprText
plus l column r = let s : Sign = record { place = at column; op = Add } in record { left = l; right = Some (s, r) }

abbrev pub assign : FieldText → ExprText → AssignText
assign f e = record { dest = f; expr = e }

-- action set(x : 8) { .. }
abbrev pub action_set : AssignText → ActionText
action_set a = record { ident = ident 30 (codes "set"); params = declared 31 (codes "x") 8 ∷ []; assigns = a ∷ [] }

-- h.b = x;
abbrev pub set_b : AssignText
set_b = assign (of_header 33 (codes "h") (codes "b")) (one (leaf.Param (ident 35 (codes "x"))))

-- action hop() { .. }
abbrev pub action_hop : AssignText → ActionText
action_hop a = record { ident = ident 40 (codes "hop"); params = []; assigns = a ∷ [] }

-- meta.m = g.a + 1;
abbrev pub add_one : AssignText
add_one = assign (of_meta 41 (codes "m")) (plus (leaf.Field (of_header 43 (codes "g") (codes "a"))) 45 (leaf.Number (number 46 1)))

-- exact h.a; actions set, hop; size 4;
abbrev pub key : KeyText
key = record {
  kind = Exact;
  fields = of_header 51 (codes "h") (codes "a") ∷ [];
  actions = ident 53 (codes "set") ∷ ident 54 (codes "hop") ∷ [];
  size = number 57 4;
  counted = false;
}

-- table t { .. default set(9); }
abbrev pub table_t : KeyText → TableText
table_t k = record { ident = ident 50 (codes "t"); key = Some k; default = ident 55 (codes "set"); args = number 56 9 ∷ [] }

-- apply t { set { .. } }
abbrev pub apply_t : ℕ → NodeText
apply_t column = record { place = at column; under = None; what = Apply (ident (column + 1) (codes "t")) (arm.Action (ident 62 (codes "set")) ∷ []) }

-- if (h.a & 15 == 5) { }, in the arm of the first node
abbrev pub if_a : NodeText
if_a =
    let in_first : Under = record { parent = 0; arm = 0 } in
    record { place = at 63; under = Some in_first; what = If (of_header 64 (codes "h") (codes "a")) (Some (number 66 15)) (number 67 5) }

abbrev pub text : Source
text = record {
  headers = header_h ∷ header_g ∷ [];
  metas = meta ∷ [];
  actions = action_set set_b ∷ action_hop add_one ∷ [];
  tables = table_t key ∷ [];
  control = Some (apply_t 60 ∷ if_a ∷ []);
  end = at 70;
}
