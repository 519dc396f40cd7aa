-- The program that the program text of `sample` means for a number, and the entries that the entry text says for it.
use Rattle.std.specs.Prelude.{ℕ, ◌+◌, ◌%◌, List, [], ◌∷◌, true, false, None, Some, codes, map}
use Rattle.std.specs.List.{range_with_len}
use Rattle.rmt_ast.specs.declared.entry.Entry.{Entry}
use Rattle.rmt_ast.specs.declared.program.Program.{Program}
use Rattle.rmt_ast.specs.declared.program.Field.{Field}
use Rattle.rmt_ast.specs.declared.program.Header.{Header}
use Rattle.rmt_ast.specs.declared.program.Case.{Case}
use Rattle.rmt_ast.specs.declared.program.Test.{Test}
use Rattle.rmt_ast.specs.declared.program.Action.{Action}
use Rattle.rmt_ast.specs.declared.program.Assign.{Assign}
use Rattle.rmt_ast.specs.declared.program.Leaf.{Leaf}
use Rattle.rmt_ast.specs.declared.program.Table.{Table}
use Rattle.rmt_ast.specs.declared.program.Node.{Node}
use Rattle.rmt_ast.specs.declared.program.Guard.{Guard}
use Rattle.rmt_ast.specs.declared.program.Expr.TheVariants.{One}
use Rattle.rmt_ast.specs.declared.program.Kind.TheVariants.{Exact}
use Rattle.rmt_ast.specs.declared.program.Leaf.TheVariants as leaf
use Rattle.rmt_ast.specs.declared.program.Target.TheVariants as to
use Rattle.rmt_ast.specs.declared.program.What.TheVariants.{Apply, Gate}
use Rattle.rmt_entries.specs.Keys.{whole}
use Rattle.rmt_sample.specs.Texts.{host, station}

-- ---- the program

abbrev field : List ℕ → ℕ → Field
field name width = record { name = name; width = width }

abbrev test : ℕ → ℕ → Test
test value mask = record { value = value; mask = mask }

-- the fields, from 0 on
abbrev fields : List Field
fields =
    field (codes "in_port") 9 ∷ field (codes "out_port") 9 ∷ field (codes "drop") 1
    ∷ field (codes "eth.valid") 1 ∷ field (codes "eth.dst") 48 ∷ field (codes "eth.src") 48 ∷ field (codes "eth.kind") 16
    ∷ field (codes "ipv4.valid") 1 ∷ field (codes "ipv4.head") 64 ∷ field (codes "ipv4.ttl") 8 ∷ field (codes "ipv4.proto") 8
    ∷ field (codes "ipv4.sum") 16 ∷ field (codes "ipv4.src") 32 ∷ field (codes "ipv4.dst") 32 ∷ []

abbrev headers : List Header
headers =
    let to_ipv4 : Case = record { tests = test 2048 65535 ∷ []; target = to.Node 1 } in
    let eth : Header = record {
      name = codes "eth";
      valid = 3;
      fields = 4 ∷ 5 ∷ 6 ∷ [];
      bytes = 14;
      tail = None;
      select = 6 ∷ [];
      cases = to_ipv4 ∷ [];
      other = to.Accept;
    } in
    let ipv4 : Header = record {
      name = codes "ipv4";
      valid = 7;
      fields = 8 ∷ 9 ∷ 10 ∷ 11 ∷ 12 ∷ 13 ∷ [];
      bytes = 20;
      tail = None;
      select = [];
      cases = [];
      other = to.Accept;
    } in
    eth ∷ ipv4 ∷ []

-- an action that sets one field
abbrev sets : List ℕ → List ℕ → ℕ → Leaf → Action
sets name params dest value =
    let a : Assign = record { dest = dest; expr = One value } in
    record { name = name; params = params; assigns = a ∷ [] }

abbrev actions : List Action
actions = sets (codes "forward") (9 ∷ []) 1 (leaf.Param 0) ∷ sets (codes "discard") [] 2 (leaf.Number 1) ∷ []

-- two tables, each with room for n entries
abbrev tables : ℕ → List Table
tables n =
    let macs : Table = record { name = codes "macs"; kind = Exact; key = 4 ∷ []; actions = 0 ∷ []; default = 1; args = []; size = n; counted = true } in
    let hosts : Table = record { name = codes "hosts"; kind = Exact; key = 13 ∷ []; actions = 0 ∷ []; default = 1; args = []; size = n; counted = false } in
    macs ∷ hosts ∷ []

-- the `if`, and a table for each of its outcomes
abbrev nodes : List Node
nodes =
    let holds : Guard = record { parent = 0; mask = 4 } in
    let fails : Guard = record { parent = 0; mask = 2 } in
    let is_valid : Node = record { guard = None; what = Gate 7 (test 1 1) } in
    let to_host : Node = record { guard = Some holds; what = Apply 1 } in
    let to_station : Node = record { guard = Some fails; what = Apply 0 } in
    is_valid ∷ to_host ∷ to_station ∷ []

abbrev pub sample_program : ℕ → Program
sample_program n = record { fields = fields; headers = headers; actions = actions; tables = tables n; nodes = nodes }

-- ---- the entries

-- an entry of a node that sends the packets to an address by a port
abbrev pub entry : (node width number address port : ℕ) → Entry
entry node width number address port = record { table = node; number = number; tests = whole width address ∷ []; rank = 0; action = 0; args = port ∷ [] }

abbrev pub station_entry : ℕ → Entry
station_entry i = entry 2 48 i (station i) (i % 512)

-- behind those of n stations
abbrev pub host_entry : ℕ → ℕ → Entry
host_entry n i = entry 1 32 (n + i) (host i) (i % 512)

-- the first so many
abbrev pub stations : ℕ → List Entry
stations m = map station_entry (range_with_len 0 m)

abbrev pub hosts : ℕ → ℕ → List Entry
hosts n m = map (host_entry n) (range_with_len 0 m)

-- by nodes: the `if` has none
abbrev pub sample_entries : ℕ → List (List Entry)
sample_entries n = [] ∷ hosts n n ∷ stations n ∷ []
