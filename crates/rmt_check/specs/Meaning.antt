-- The program that a text means, and the answer to a text.
-- The public contracts rest on it: a reader has to believe it.
use Rattle.std.specs.Prelude.{◌≡◌, ⊤, ℕ, zero, suc, ◌+◌, ◌-◌, ◌/◌, ◌^◌, List, [], ◌∷◌, false, Option, Some, None, length, take, fold, map, zip, option_map, unwrap_or, slice_get, bit_and, bit_or, Result, Ok, Err}
use Rattle.std.specs.List.{range_with_len}
use Rattle.std.specs.Option.{option_map_or}
use Rattle.rmt_check.specs.Parts.{Program, Field, Header, Tail, Case, Test, Target, Action, Assign, Expr, Leaf, Table, Node, Guard, What, Position, ProgramFault, Ident, Number, Declared, FieldText, ValueText, TargetText, CaseText, TailText, HeaderText, LeafText, Sign, AssignText, ActionText, KeyText, TableText, ArmText, Under, WhatText, NodeText, Source}
use Rattle.rmt_ast.specs.declared.program.Target.TheVariants as to
use Rattle.rmt_ast.specs.declared.program.Expr.TheVariants.{One, Two}
use Rattle.rmt_ast.specs.declared.program.Leaf.TheVariants as leaf
use Rattle.rmt_ast.specs.declared.program.Kind.TheVariants.{Keyless}
use Rattle.rmt_ast.specs.declared.program.What.TheVariants.{Apply, Gate}
use Rattle.rmt_lexer.specs.declared.fault.ProgramFault.TheVariants.{NoMemory, At}
use Rattle.rmt_check.specs.declared.source.TargetText.TheVariants as target
use Rattle.rmt_check.specs.declared.source.LeafText.TheVariants as text
use Rattle.rmt_check.specs.declared.source.ArmText.TheVariants as arm
use Rattle.rmt_check.specs.declared.source.WhatText.TheVariants.{Apply as ApplyText, If}
use Rattle.rmt_ast.specs.NameList.{number_of}
use Rattle.rmt_check.specs.Names.{Known, header_names, action_names, table_names, param_names, fields_of, printed_name, Named, field_place, named, width_of, nodes_of, ident_names, listed_by, selected}
use Rattle.rmt_check.specs.Rules.{bits_of, fault_of}

-- the number of a name, which is known
abbrev pub index_of : List (List ℕ) → List ℕ → ℕ
index_of names name = unwrap_or (number_of names name) 0

-- the number of a field, which is known
abbrev pub field_number : Source → Named → ℕ
field_number s x = unwrap_or (field_place s x) 0

abbrev pub field_of : Known → Field
field_of f = record { name = printed_name f; width = f.width }

-- the number whose lowest bits, so many, are all ones
abbrev pub ones : ℕ → ℕ
ones width = 2 ^ width - 1

-- a test of a field of that width, without bits outside its mask
abbrev pub test_of : ℕ → ValueText → Test
test_of width v =
    let mask = unwrap_or (option_map (λ (n : Number). n.value) v.mask) (ones width) in
    record { value = bit_and v.value.value mask; mask = mask }

abbrev pub target_of : Source → TargetText → Target
target_of s (target.Header h) = to.Node (index_of (header_names s) h.name)
target_of s target.Accept = to.Accept
target_of s target.Reject = to.Reject

abbrev pub case_of : Source → HeaderText → CaseText → Case
case_of s h c = record {
  tests = map (λ (x : Ident × ValueText). test_of (width_of s (selected s h x.0)) x.1) (zip h.select c.values);
  target = target_of s c.target;
}

abbrev pub tail_of : Source → HeaderText → TailText → Tail
tail_of s h t = record { field = field_number s (selected s h t.field); unit = t.unit.value; base = t.base.value }

-- a header whose valid has the number n, and its fields the numbers after it
abbrev pub header_from : Source → ℕ → HeaderText → Header
header_from s n h = record {
  name = h.ident.name;
  valid = n;
  fields = range_with_len (n + 1) (length h.fields);
  bytes = bits_of h / 8;
  tail = option_map (tail_of s h) h.tail;
  select = map (λ (i : Ident). field_number s (selected s h i)) h.select;
  cases = map (case_of s h) h.cases;
  other = target_of s h.other;
}

abbrev pub headers_from : Source → ℕ → List HeaderText → List Header
headers_from s n [] = []
headers_from s n (h ∷ hs) = header_from s n h ∷ headers_from s (n + 1 + length h.fields) hs

abbrev pub leaf_of : Source → ActionText → LeafText → Leaf
leaf_of s a (text.Field f) = leaf.Field (field_number s (named s f))
leaf_of s a (text.Param p) = leaf.Param (index_of (param_names a) p.name)
leaf_of s a (text.Number n) = leaf.Number n.value

abbrev pub expr_of : Source → ActionText → LeafText → Option (Sign × LeafText) → Expr
expr_of s a left None = One (leaf_of s a left)
expr_of s a left (Some r) = Two r.0.op (leaf_of s a left) (leaf_of s a r.1)

abbrev pub assign_of : Source → ActionText → AssignText → Assign
assign_of s a x = record { dest = field_number s (named s x.dest); expr = expr_of s a x.expr.left x.expr.right }

abbrev pub action_of : Source → ActionText → Action
action_of s a = record {
  name = a.ident.name;
  params = map (λ (d : Declared). d.width.value) a.params;
  assigns = map (assign_of s a) a.assigns;
}

abbrev pub action_number : Source → Ident → ℕ
action_number s i = index_of (action_names s) i.name

-- a table with its key, if it has one
abbrev pub table_with : Source → TableText → Option KeyText → Table
table_with s t None = record {
  name = t.ident.name;
  kind = Keyless;
  key = [];
  actions = [];
  default = action_number s t.default;
  args = map (λ (n : Number). n.value) t.args;
  size = 0;
  counted = false;
}
table_with s t (Some k) = record {
  name = t.ident.name;
  kind = k.kind;
  key = map (λ (f : FieldText). field_number s (named s f)) k.fields;
  actions = map (action_number s) k.actions;
  default = action_number s t.default;
  args = map (λ (n : Number). n.value) t.args;
  size = k.size.value;
  counted = k.counted;
}

abbrev pub table_of : Source → TableText → Table
table_of s t = table_with s t t.key

-- The outcomes of an arm as bits: those of a hit are 2 to 15, that of a miss is 1, and that of the i-th action of the list is 2 + i.
abbrev pub outcomes_of : List (List ℕ) → ArmText → ℕ
outcomes_of actions arm.Hit = 65532
outcomes_of actions arm.Miss = 2
outcomes_of actions (arm.Action a) = 2 ^ (2 + index_of actions a.name)

-- the outcomes of some arms together
abbrev pub all_outcomes : List (List ℕ) → List ArmText → ℕ
all_outcomes actions arms = fold (λ bits a. bit_or bits (outcomes_of actions a)) 0 arms

-- the outcomes of an arm without those of earlier arms
abbrev pub arm_mask : List (List ℕ) → List ArmText → ℕ → ℕ
arm_mask actions arms i =
    bit_and (option_map_or (outcomes_of actions) (slice_get arms i) 0) (65535 - all_outcomes actions (take i arms))

-- the outcomes for which the i-th arm of a node runs; of an `if` the first runs where it holds, its `else` where not
abbrev pub mask_in : Source → WhatText → ℕ → ℕ
mask_in s (ApplyText table arms) i = arm_mask (ident_names (listed_by s table.name)) arms i
mask_in s (If field mask value) zero = 4
mask_in s (If field mask value) (suc i) = 2

abbrev pub guard_of : Source → Under → Guard
guard_of s u = record { parent = u.parent; mask = option_map_or (λ (n : NodeText). mask_in s n.what u.arm) (slice_get (nodes_of s) u.parent) 0 }

abbrev pub what_of : Source → WhatText → What
what_of s (ApplyText table arms) = Apply (index_of (table_names s) table.name)
what_of s (If field mask value) =
    let v : ValueText = record { value = value; mask = mask } in Gate (field_number s (named s field)) (test_of (width_of s (named s field)) v)

abbrev pub node_of : Source → NodeText → Node
node_of s n = record { guard = option_map (guard_of s) n.under; what = what_of s n.what }

-- The program that a text means: fields, headers, actions and tables numbered as they stand in it, nodes in the order of the text.
abbrev pub program_of : Source → Program
program_of s = record {
  fields = map field_of (fields_of s);
  headers = headers_from s 3 s.headers;
  actions = map (action_of s) s.actions;
  tables = map (table_of s) s.tables;
  nodes = map (node_of s) (nodes_of s);
}

-- a fault of a rule, at a place
abbrev pub fault_at : ℕ × Position → ProgramFault
fault_at f = At f.0 f.1.line f.1.column

-- Ok with the program of the text exactly where no rule is broken; else the fault, or want of memory.
abbrev pub Answers : Source → Result Program ProgramFault → Type 0
Answers s (Ok p) = (fault_of s ≡ None) × (p ≡ program_of s)
Answers s (Err NoMemory) = ⊤
Answers s (Err (At code line column)) = option_map fault_at (fault_of s) ≡ Some (At code line column)
