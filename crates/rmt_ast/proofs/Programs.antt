-- Programs and entries that the examples run, written out.
use Rattle.std.specs.Prelude.{ℕ, List, [], ◌∷◌, ◌++◌, codes, None, Some, true, false}
use Rattle.rmt_bits.specs.Packet.{Packet}
use Rattle.rmt_ast.specs.Types.{Program, Field, Header, Action, Assign, Table, Node}
use Rattle.rmt_ast.specs.declared.program.Target.TheVariants as target
use Rattle.rmt_ast.specs.declared.program.Expr.TheVariants.{One, Two}
use Rattle.rmt_ast.specs.declared.program.Leaf.TheVariants as leaf
use Rattle.rmt_ast.specs.declared.program.Op.TheVariants.{Add, Sub, And, Or, Xor}
use Rattle.rmt_ast.specs.declared.program.Kind.TheVariants.{Keyless, Exact, Prefix, Ternary}
use Rattle.rmt_ast.specs.declared.program.What.TheVariants.{Apply, Gate}
use Rattle.rmt_ast.specs.declared.entry.Entry.{Entry}

abbrev pub field : List ℕ → ℕ → Field
field name width = record { name = name; width = width }

-- the fields that every program has, numbers 0 to 2, and those of one header h, from number 3 on
abbrev pub with_fields : List Field → List Field
with_fields fields = field (codes "in_port") 9 ∷ field (codes "out_port") 9 ∷ field (codes "drop") 1 ∷ field (codes "h.valid") 1 ∷ fields

-- the header h, which has no case
abbrev pub header : List ℕ → ℕ → Header
header fields bytes = record { name = codes "h"; valid = 3; fields = fields; bytes = bytes; tail = None; select = []; cases = []; other = target.Accept }

abbrev pub action : List ℕ → List ℕ → List Assign → Action
action name params assigns = record { name = name; params = params; assigns = assigns }

abbrev pub keyless : List ℕ → ℕ → Table
keyless name default = record { name = name; kind = Keyless; key = []; actions = []; default = default; args = []; size = 0; counted = false }

abbrev pub apply_table : ℕ → Node
apply_table t = record { guard = None; what = Apply t }

-- a table that is applied only where the parent's outcome is in the mask
abbrev pub apply_in_arm : ℕ → ℕ → ℕ → Node
apply_in_arm parent mask t = record { guard = Some (record { parent = parent; mask = mask }); what = Apply t }

-- a program of the one header h, with these fields from number 4 on
abbrev pub one_header : List Field → Header → List Action → List Table → List Node → Program
one_header fields h actions tables nodes = record { fields = with_fields fields; headers = h ∷ []; actions = actions; tables = tables; nodes = nodes }

-- the same with one table, which one node applies
abbrev pub one_table : List Field → Header → List Action → Table → Program
one_table fields h actions t = one_header fields h actions (t ∷ []) (apply_table 0 ∷ [])

-- the same with a table without a key, whose default is this action
abbrev pub one_default : List Field → Header → Action → Program
one_default fields h a = one_table fields h (a ∷ []) (keyless (codes "t") 0)

-- header h { f : 8; } and metadata x : 8, and three tables, which are applied one after another
abbrev pub three_tables : List Action → Table → Table → Table → Program
three_tables actions a b c =
    one_header (field (codes "h.f") 8 ∷ field (codes "meta.x") 8 ∷ []) (header (4 ∷ []) 1) actions (a ∷ b ∷ c ∷ []) (apply_table 0 ∷ apply_table 1 ∷ apply_table 2 ∷ [])

-- the headers of a program, and one table without a key, whose default is this action
abbrev pub with_default : Program → Action → Program
with_default p a = record p { actions = a ∷ []; tables = keyless (codes "t") 0 ∷ []; nodes = apply_table 0 ∷ [] }

abbrev pub packet : ℕ → List ℕ → Packet
packet port frame = record { port = port; frame = frame }

-- header h { a : 8; b : 8; } and one table whose default does h.a = h.b; h.b = h.a;
abbrev pub assignments_in_order : Program
assignments_in_order =
    one_default (field (codes "h.a") 8 ∷ field (codes "h.b") 8 ∷ []) (header (4 ∷ 5 ∷ []) 2)
    (action (codes "copy") [] (record { dest = 4; expr = One (leaf.Field 5) } ∷ record { dest = 5; expr = One (leaf.Field 4) } ∷ []))

-- header h { a : 8; b : 8; c : 8; } and one table whose default does h.a = h.a + h.b; h.b = h.a + h.c;
abbrev pub too_deep : Program
too_deep =
    one_default (field (codes "h.a") 8 ∷ field (codes "h.b") 8 ∷ field (codes "h.c") 8 ∷ []) (header (4 ∷ 5 ∷ 6 ∷ []) 3)
    (action (codes "deep") []
    (record { dest = 4; expr = Two Add (leaf.Field 4) (leaf.Field 5) }
    ∷ record { dest = 5; expr = Two Add (leaf.Field 4) (leaf.Field 6) } ∷ []))

-- header h { a : 8; b : 8; add : 8; sub : 8; and : 8; or : 8; xor : 8; } and one table whose default sets each further
-- field by the operator of its name from h.a and h.b, and and from h.a and 15
abbrev pub operators : Program
operators =
    one_default
    (field (codes "h.a") 8 ∷ field (codes "h.b") 8 ∷ field (codes "h.add") 8 ∷ field (codes "h.sub") 8
    ∷ field (codes "h.and") 8 ∷ field (codes "h.or") 8 ∷ field (codes "h.xor") 8 ∷ [])
    (header (4 ∷ 5 ∷ 6 ∷ 7 ∷ 8 ∷ 9 ∷ 10 ∷ []) 7)
    (action (codes "all") []
    (record { dest = 6; expr = Two Add (leaf.Field 4) (leaf.Field 5) }
    ∷ record { dest = 7; expr = Two Sub (leaf.Field 4) (leaf.Field 5) }
    ∷ record { dest = 8; expr = Two And (leaf.Field 4) (leaf.Number 15) }
    ∷ record { dest = 9; expr = Two Or (leaf.Field 4) (leaf.Field 5) }
    ∷ record { dest = 10; expr = Two Xor (leaf.Field 4) (leaf.Field 5) } ∷ []))

-- header h { f : 8; } and metadata x : 8; table a does meta.x = h.f, b is exact on meta.x, and c does meta.x = 0
abbrev pub strict_and_weak : Program
strict_and_weak =
    three_tables
    (action (codes "sx") [] (record { dest = 5; expr = One (leaf.Field 4) } ∷ [])
    ∷ action (codes "cx") [] (record { dest = 5; expr = One (leaf.Number 0) } ∷ [])
    ∷ action (codes "go") (9 ∷ []) (record { dest = 1; expr = One (leaf.Param 0) } ∷ [])
    ∷ action (codes "no") [] [] ∷ [])
    (keyless (codes "a") 0)
    (record { name = codes "b"; kind = Exact; key = 5 ∷ []; actions = 2 ∷ []; default = 3; args = []; size = 16; counted = false })
    (keyless (codes "c") 1)

-- its entry `b 7 go 5`
abbrev pub one_entry : List (List Entry)
one_entry = [] ∷ (record { table = 1; number = 0; tests = record { value = 7; mask = 255 } ∷ []; rank = 0; action = 0; args = 5 ∷ [] } ∷ []) ∷ [] ∷ []

-- header h { d : 32; } and a counted table of prefixes of it, which gives the port, by default 0
abbrev pub prefix : Program
prefix =
    one_table (field (codes "h.d") 32 ∷ []) (header (4 ∷ []) 4) (action (codes "go") (9 ∷ []) (record { dest = 1; expr = One (leaf.Param 0) } ∷ []) ∷ [])
    (record { name = codes "r"; kind = Prefix; key = 4 ∷ []; actions = 0 ∷ []; default = 0; args = 0 ∷ []; size = 1024; counted = true })

-- an entry of the table that node 0 applies, with one test and the first action
abbrev pub entry : ℕ → ℕ → ℕ → ℕ → List ℕ → Entry
entry number rank value mask args = record { table = 0; number = number; tests = record { value = value; mask = mask } ∷ []; rank = rank; action = 0; args = args }

-- the prefixes of length 0, 8, 24 and 32 of 10.0.1.5
abbrev pub prefixes : List (List Entry)
prefixes =
    (entry 0 0 0 0 (1 ∷ [])
    ∷ entry 1 8 0x0a000000 0xff000000 (2 ∷ [])
    ∷ entry 2 24 0x0a000100 0xffffff00 (3 ∷ [])
    ∷ entry 3 32 0x0a000105 0xffffffff (4 ∷ []) ∷ [])
    ∷ []

-- header h { d : 8; } and a ternary table on it, which gives the port, by default 0
abbrev pub ternary : Program
ternary =
    one_table (field (codes "h.d") 8 ∷ []) (header (4 ∷ []) 1) (action (codes "go") (9 ∷ []) (record { dest = 1; expr = One (leaf.Param 0) } ∷ []) ∷ [])
    (record { name = codes "t"; kind = Ternary; key = 4 ∷ []; actions = 0 ∷ []; default = 0; args = 0 ∷ []; size = 8; counted = false })

-- priority 30 on 0x1_ gives 1, priority 20 on 0x_2 gives 2, and priority 20 on 0x32 gives 3
abbrev pub priorities : List (List Entry)
priorities = (entry 0 30 0x10 0xf0 (1 ∷ []) ∷ entry 1 20 0x02 0x0f (2 ∷ []) ∷ entry 2 20 0x32 0xff (3 ∷ []) ∷ []) ∷ []

-- header h { k : 8; } next (k) { 1 : g; 2 & 3 : accept; 255 : reject; else : accept; } and header g { x : 16; }; no table
abbrev pub two_headers : Program
two_headers = record {
  fields = with_fields (field (codes "h.k") 8 ∷ field (codes "g.valid") 1 ∷ field (codes "g.x") 16 ∷ []);
  headers =
      record {
        name = codes "h";
        valid = 3;
        fields = 4 ∷ [];
        bytes = 1;
        tail = None;
        select = 4 ∷ [];
        cases =
            record { tests = record { value = 1; mask = 255 } ∷ []; target = target.Node 1 }
            ∷ record { tests = record { value = 2; mask = 3 } ∷ []; target = target.Accept }
            ∷ record { tests = record { value = 255; mask = 255 } ∷ []; target = target.Reject } ∷ [];
        other = target.Accept;
      }
      ∷ record { name = codes "g"; valid = 5; fields = 6 ∷ []; bytes = 2; tail = None; select = []; cases = []; other = target.Accept } ∷ [];
  actions = [];
  tables = [];
  nodes = [];
}

-- the same headers, and one table whose default does h.valid = 0; g.valid = 1;
abbrev pub other_headers : Program
other_headers = with_default two_headers (action (codes "swap") [] (record { dest = 3; expr = One (leaf.Number 0) } ∷ record { dest = 5; expr = One (leaf.Number 1) } ∷ []))

-- header h { f : 8; }, if (h.f & 0xf0 == 0x10) { apply a; } else { apply b; }, where a sends to 1 and b to 2
abbrev pub gate : Program
gate =
    one_header (field (codes "h.f") 8 ∷ []) (header (4 ∷ []) 1)
    (action (codes "one") [] (record { dest = 1; expr = One (leaf.Number 1) } ∷ [])
    ∷ action (codes "two") [] (record { dest = 1; expr = One (leaf.Number 2) } ∷ []) ∷ [])
    (keyless (codes "a") 0 ∷ keyless (codes "b") 1 ∷ [])
    (record { guard = None; what = Gate 4 (record { value = 0x10; mask = 0xf0 }) } ∷ apply_in_arm 0 4 0 ∷ apply_in_arm 0 2 1 ∷ [])

-- header h { f : 8; }, table t is exact on it, counted, with the actions stop, which drops, and on; its default is on;
-- apply t { stop { apply a; } hit { apply b; } miss { apply c; } }, where a, b and c send to 1, 2 and 3
abbrev pub arms : Program
arms =
    one_header (field (codes "h.f") 8 ∷ []) (header (4 ∷ []) 1)
    (action (codes "stop") [] (record { dest = 2; expr = One (leaf.Number 1) } ∷ [])
    ∷ action (codes "on") [] []
    ∷ action (codes "one") [] (record { dest = 1; expr = One (leaf.Number 1) } ∷ [])
    ∷ action (codes "two") [] (record { dest = 1; expr = One (leaf.Number 2) } ∷ [])
    ∷ action (codes "three") [] (record { dest = 1; expr = One (leaf.Number 3) } ∷ []) ∷ [])
    (record { name = codes "t"; kind = Exact; key = 4 ∷ []; actions = 0 ∷ 1 ∷ []; default = 1; args = []; size = 4; counted = true }
    ∷ keyless (codes "a") 2 ∷ keyless (codes "b") 3 ∷ keyless (codes "c") 4 ∷ [])
    (apply_table 0 ∷ apply_in_arm 0 4 1 ∷ apply_in_arm 0 65528 2 ∷ apply_in_arm 0 2 3 ∷ [])

-- its entries `t 7 stop` and `t 8 on`
abbrev pub stop_and_on : List (List Entry)
stop_and_on =
    (entry 0 0 7 255 [] ∷ record { table = 0; number = 1; tests = record { value = 8; mask = 255 } ∷ []; rank = 0; action = 1; args = [] } ∷ [])
    ∷ [] ∷ [] ∷ [] ∷ []

-- header h { a : 8; b : 8; } and a table exact on both, whose action sends a packet back where it came from; the default does nothing
abbrev pub two_keys : Program
two_keys =
    one_table (field (codes "h.a") 8 ∷ field (codes "h.b") 8 ∷ []) (header (4 ∷ 5 ∷ []) 2)
    (action (codes "back") [] (record { dest = 1; expr = One (leaf.Field 0) } ∷ []) ∷ action (codes "no") [] [] ∷ [])
    (record { name = codes "t"; kind = Exact; key = 4 ∷ 5 ∷ []; actions = 0 ∷ []; default = 1; args = []; size = 4; counted = false })

-- its entry `t 1 2 back`
abbrev pub both_keys : List (List Entry)
both_keys = (record { table = 0; number = 0; tests = record { value = 1; mask = 255 } ∷ record { value = 2; mask = 255 } ∷ []; rank = 0; action = 0; args = [] } ∷ []) ∷ []

-- the same with a second table, which is exact on h.a
abbrev pub two_hits : Program
two_hits = record two_keys {
  tables =
      two_keys.tables
      ++ record { name = codes "u"; kind = Exact; key = 4 ∷ []; actions = 1 ∷ []; default = 1; args = []; size = 4; counted = false } ∷ [];
  nodes = apply_table 0 ∷ apply_table 1 ∷ [];
}

-- header h { n : 4; z : 4; tail n * 4 - 4; } next accept and one table whose default sends to port 1
abbrev pub with_tail : Program
with_tail =
    one_default (field (codes "h.n") 4 ∷ field (codes "h.z") 4 ∷ []) (record (header (4 ∷ 5 ∷ []) 1) { tail = Some (record { field = 4; unit = 4; base = 4 }) })
    (action (codes "send") [] (record { dest = 1; expr = One (leaf.Number 1) } ∷ []))

-- header h { n : 8; tail n * 1 - 0; } next g, header g { x : 8; } next accept, and no table
abbrev pub tail_between : Program
tail_between = record {
  fields = with_fields (field (codes "h.n") 8 ∷ field (codes "g.valid") 1 ∷ field (codes "g.x") 8 ∷ []);
  headers =
      record (header (4 ∷ []) 1) { tail = Some (record { field = 4; unit = 1; base = 0 }); other = target.Node 1 }
      ∷ record { name = codes "g"; valid = 5; fields = 6 ∷ []; bytes = 1; tail = None; select = []; cases = []; other = target.Accept } ∷ [];
  actions = [];
  tables = [];
  nodes = [];
}

-- the same headers, and one table whose default does h.n = 9;
abbrev pub tail_stays : Program
tail_stays = with_default tail_between (action (codes "grow") [] (record { dest = 4; expr = One (leaf.Number 9) } ∷ []))

-- the same headers, and one table whose default does h.valid = 0;
abbrev pub tail_goes : Program
tail_goes = with_default tail_between (action (codes "strip") [] (record { dest = 3; expr = One (leaf.Number 0) } ∷ []))
