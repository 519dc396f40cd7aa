-- The program that the small text means.
use Rattle.std.proofs.Common.{◌≡◌, [], ◌∷◌, ℕ, List, codes, false, None, Some, map, refl}
use Rattle.std.proofs.lemmas.List.Sums.{AllPass-from_list_all}
use Rattle.rmt_check.specs.Parts.{Field, Header, Tail, Case, Test, Action, Assign, Table, Node, Guard}
use Rattle.rmt_ast.specs.declared.program.Target.TheVariants as to
use Rattle.rmt_ast.specs.declared.program.Expr.TheVariants.{One, Two}
use Rattle.rmt_ast.specs.declared.program.Leaf.TheVariants as leaf
use Rattle.rmt_ast.specs.declared.program.Op.TheVariants.{Add}
use Rattle.rmt_ast.specs.declared.program.Kind.TheVariants.{Exact}
use Rattle.rmt_ast.specs.declared.program.What.TheVariants.{Apply, Gate}
use Rattle.rmt_ast.specs.NameForm.{is_name}
use Rattle.rmt_check.specs.NamedTexts.{HasNameForms, name_bytes}
use Rattle.rmt_check.specs.Rules.{fault_of}
use Rattle.rmt_check.specs.Meaning.{program_of}
use Rattle.rmt_check.proofs.ExampleText.{header_g, header_o, text}

abbrev field : List ℕ → ℕ → Field
field name width = record { name = name; width = width }

abbrev test : ℕ → ℕ → Test
test value mask = record { value = value; mask = mask }

-- the fields 0 to 8, in the order of the text
fields_of_text : (program_of text).fields
    ≡ field (codes "in_port") 9 ∷ field (codes "out_port") 9 ∷ field (codes "drop") 1 ∷ field (codes "h.valid") 1 ∷ field (codes "h.a") 8 ∷ field (codes "h.b") 8
    ∷ field (codes "g.valid") 1 ∷ field (codes "g.a") 16 ∷ field (codes "meta.m") 16 ∷ []
fields_of_text = refl

headers_of_text : (program_of text).headers
    ≡ (let to_g : Case = record { tests = test 7 255 ∷ []; target = to.Node 1 } in
    let h : Header = record { name = codes "h"; valid = 3; fields = 4 ∷ 5 ∷ []; bytes = 2; tail = None; select = 4 ∷ []; cases = to_g ∷ []; other = to.Accept } in
    let g : Header = record { name = codes "g"; valid = 6; fields = 7 ∷ []; bytes = 2; tail = None; select = []; cases = []; other = to.Accept } in
    h ∷ g ∷ [])
headers_of_text = refl

actions_of_text : (program_of text).actions
    ≡ (let b : Assign = record { dest = 5; expr = One (leaf.Param 0) } in
    let m : Assign = record { dest = 8; expr = Two Add (leaf.Field 7) (leaf.Number 1) } in
    let set : Action = record { name = codes "set"; params = 8 ∷ []; assigns = b ∷ [] } in
    let hop : Action = record { name = codes "hop"; params = []; assigns = m ∷ [] } in
    set ∷ hop ∷ [])
actions_of_text = refl

abbrev table : Table
table = record {
  name = codes "t";
  kind = Exact;
  key = 4 ∷ [];
  actions = 0 ∷ 1 ∷ [];
  default = 0;
  args = 9 ∷ [];
  size = 4;
  counted = false;
}

-- the first action of the list is outcome 2
nodes_of_text : (program_of text).nodes
    ≡ (let first : Node = record { guard = None; what = Apply 0 } in
    let in_arm : Guard = record { parent = 0; mask = 4 } in
    let second : Node = record { guard = Some in_arm; what = Gate 4 (test 5 15) } in
    first ∷ second ∷ [])
nodes_of_text = refl

breaks_no_rule : fault_of text ≡ None
breaks_no_rule = refl

-- a tail of the header's own field
tail_of_text : map (λ (h : Header). h.tail) (program_of (record text { headers = header_g ∷ header_o 4 (codes "n") 4 4 ∷ [] })).headers
    ≡ None ∷ (let t : Tail = record { field = 6; unit = 4; base = 4 } in Some t) ∷ []
tail_of_text = refl

tables_of_text : (program_of text).tables ≡ table ∷ []
tables_of_text = refl

-- `t`, `set` and `hop`: names as an image may have them, of 7 bytes
names_of_text : HasNameForms (program_of text)
names_of_text = record {
  tables = AllPass-from_list_all (λ (t : Table). is_name t.name) (program_of text).tables refl;
  actions = AllPass-from_list_all (λ (a : Action). is_name a.name) (program_of text).actions refl;
}

bytes_of_names : map (name_bytes (program_of text)) (program_of text).tables ≡ 7 ∷ []
bytes_of_names = refl
