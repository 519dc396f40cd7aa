-- Which programs are well formed: those that break no rule of the language.
use Rattle.std.specs.Prelude.{◌≡◌, ◌≢◌, ◌<◌, ◌≤◌, ℕ, ◌+◌, ◌-◌, ◌*◌, ◌%◌, ◌^◌, List, [], ◌∷◌, Bool, false, ◌==◌, bit_and, Option, Some, None, ⊤, IfSome, IsSomeAnd, All, AllPairs, Contains, slice_get, length, map, sum, count_by, drop, ◌++◌, IsTrue, nat_eq, option_map, unwrap_or, codes}
use Rattle.std.specs.List.{AllZip, flat_map, range_with_len, starts_with}
use Rattle.rmt_ast.specs.Types.{Program, Field, Header, Tail, Case, Test, Target, Action, Assign, Expr, Leaf, Op, Table, Kind, Node, Guard, What}
use Rattle.rmt_ast.specs.declared.program.Target.TheVariants as target
use Rattle.rmt_ast.specs.declared.program.Expr.TheVariants.{One, Two}
use Rattle.rmt_ast.specs.declared.program.Leaf.TheVariants as leaf
use Rattle.rmt_ast.specs.declared.program.Op.TheVariants.{Add, Sub, And, Or, Xor}
use Rattle.rmt_ast.specs.declared.program.Kind.TheVariants.{Keyless, Exact, Prefix, Ternary}
use Rattle.rmt_ast.specs.declared.program.What.TheVariants.{Apply, Gate}
use Rattle.rmt_ast.specs.State.{width_of}

-- P holds of each item and its number
abbrev pub AllNumbered : {X : Type 0} → (ℕ → X → Type 0) → List X → Type 0
AllNumbered {X} P xs = (n : ℕ) (x : X) → slice_get xs n ≡ Some x → P n x

-- no item stands twice
abbrev pub AreDistinct : {X : Type 0} → List X → Type 0
AreDistinct xs = AllPairs (λ x y. x ≢ y) xs

-- a number of that many bits
abbrev pub Fits : ℕ → ℕ → Type 0
Fits width n = n < 2 ^ width

-- the width of a field or a parameter
abbrev pub IsWidth : ℕ → Type 0
IsWidth width = (1 ≤ width) × (width ≤ 128)

-- the bits of several fields
abbrev pub bits_of : Program → List ℕ → ℕ
bits_of p fields = sum (map (width_of p) fields)

-- a test of a field of that width
pub record IsTest (width : ℕ) (test : Test) : Type 0 where
  pub value_fits : Fits width test.value
  pub mask_fits : Fits width test.mask
  pub value_is_masked : bit_and test.value test.mask ≡ test.value

-- one test for each of the fields
abbrev pub AreTests : Program → List ℕ → List Test → Type 0
AreTests p fields tests = AllZip (λ f test. IsTest (width_of p f) test) fields tests

-- the numbers of the headers' fields, each header's valid first
abbrev pub header_fields : Program → List ℕ
header_fields p = flat_map (λ (h : Header). h.valid ∷ h.fields) p.headers

-- the fields are in_port, out_port, drop, then those of the headers in order, then at most 256 of metadata
pub record HasFields (p : Program) : Type 0 where
  pub in_port : width_of p 0 ≡ 9
  pub out_port : width_of p 1 ≡ 9
  pub drop : width_of p 2 ≡ 1
  pub in_order : header_fields p ≡ range_with_len 3 (length (header_fields p))
  pub all_there : 3 + length (header_fields p) ≤ length p.fields
  pub few_metadata : length p.fields ≤ 3 + length (header_fields p) + 256
  pub widths : All (λ (f : Field). IsWidth f.width) p.fields

-- a target of header n: a later header, or an end
abbrev pub IsTarget : Program → ℕ → Target → Type 0
IsTarget p n target.Accept = ⊤
IsTarget p n target.Reject = ⊤
IsTarget p n (target.Node m) = (n < m) × (m < length p.headers)

-- a case of header n, with a test for each selected field
pub record IsCase (p : Program) (n : ℕ) (select : List ℕ) (c : Case) : Type 0 where
  pub tests : AreTests p select c.tests
  pub target : IsTarget p n c.target

-- the tail of a header with these fields: a field tells its length, which is at least 0 and at most 64 at its greatest value
pub record IsTail (p : Program) (fields : List ℕ) (t : Tail) : Type 0 where
  pub own : Contains fields t.field
  pub narrow : width_of p t.field ≤ 8
  pub has_unit : 1 ≤ t.unit
  pub unit : t.unit ≤ 255
  pub base : t.base ≤ 255
  pub reaches : t.base ≤ (2 ^ width_of p t.field - 1) * t.unit
  pub is_not_long : (2 ^ width_of p t.field - 1) * t.unit ≤ t.base + 64

-- header n: of 1 to 64 whole bytes, with cases only where it selects by some of its own fields
pub record IsHeader (p : Program) (n : ℕ) (h : Header) : Type 0 where
  pub valid : width_of p h.valid ≡ 1
  pub whole_bytes : bits_of p h.fields ≡ 8 * h.bytes
  pub is_not_empty : 1 ≤ h.bytes
  pub is_not_long : h.bytes ≤ 64
  pub tail : IfSome h.tail (IsTail p h.fields)
  pub selects_own : All (Contains h.fields) h.select
  pub selects_once : AreDistinct h.select
  pub plain : h.select ≡ [] → h.cases ≡ []
  pub cases : All (IsCase p n h.select) h.cases
  pub other : IsTarget p n h.other

-- an operand of that width
abbrev pub IsLeaf : Program → List ℕ → ℕ → Leaf → Type 0
IsLeaf p params width (leaf.Field f) = (f < length p.fields) × (width_of p f ≡ width)
IsLeaf p params width (leaf.Param i) = slice_get params i ≡ Some width
IsLeaf p params width (leaf.Number n) = Fits width n

-- sums and differences have at most 32 bits
abbrev pub IsOp : ℕ → Op → Type 0
IsOp width Add = width ≤ 32
IsOp width Sub = width ≤ 32
IsOp width And = ⊤
IsOp width Or = ⊤
IsOp width Xor = ⊤

-- an expression of that width
abbrev pub IsExpr : Program → List ℕ → ℕ → Expr → Type 0
IsExpr p params width (One x) = IsLeaf p params width x
IsExpr p params width (Two op x y) = IsOp width op × IsLeaf p params width x × IsLeaf p params width y

-- an assignment, to any field but in_port, of an expression of its width
pub record IsAssign (p : Program) (params : List ℕ) (a : Assign) : Type 0 where
  pub is_field : a.dest < length p.fields
  pub is_not_in_port : a.dest ≢ 0
  pub expr : IsExpr p params (width_of p a.dest) a.expr

-- an action of at most 16 parameters and 64 assignments
pub record IsAction (p : Program) (a : Action) : Type 0 where
  pub params : All IsWidth a.params
  pub few_params : length a.params ≤ 16
  pub assigns : All (IsAssign p a.params) a.assigns
  pub few_assigns : length a.assigns ≤ 64

-- there is an action of that number, and the arguments are as many as its parameters and fit them
abbrev pub Takes : Program → ℕ → List ℕ → Type 0
Takes p action args = IsSomeAnd (slice_get p.actions action) (λ (a : Action). AllZip Fits a.params args)

-- a table without a key has no list of actions, no size, and is not counted
pub record IsKeyless (t : Table) : Type 0 where
  pub key : t.key ≡ []
  pub actions : t.actions ≡ []
  pub size : t.size ≡ 0
  pub counted : t.counted ≡ false

-- a table with a key of at most 640 bits, and a size of at most 1,048,576
pub record IsKeyed (p : Program) (t : Table) : Type 0 where
  pub has_key : 1 ≤ length t.key
  pub key_fields : All (λ f. f < length p.fields) t.key
  pub key_once : AreDistinct t.key
  pub key_bits : bits_of p t.key ≤ 640
  pub has_actions : 1 ≤ length t.actions
  pub has_size : 1 ≤ t.size
  pub size : t.size ≤ 1048576

-- the key of a table; a prefix is of one field
abbrev pub HasKey : Program → Kind → Table → Type 0
HasKey p Keyless t = IsKeyless t
HasKey p Exact t = IsKeyed p t
HasKey p Prefix t = IsKeyed p t × (length t.key ≡ 1)
HasKey p Ternary t = IsKeyed p t

-- a table with at most 14 actions, none of them twice, and a default with its arguments
pub record IsTable (p : Program) (t : Table) : Type 0 where
  pub key : HasKey p t.kind t
  pub actions : All (λ a. a < length p.actions) t.actions
  pub actions_once : AreDistinct t.actions
  pub few_actions : length t.actions ≤ 14
  pub default : Takes p t.default t.args

-- the guard of node n: an earlier node, and outcomes of a node that runs
abbrev pub IsGuard : ℕ → Option Guard → Type 0
IsGuard n None = ⊤
IsGuard n (Some g) = (g.parent < n) × (g.mask % 2 ≡ 0)

-- a node applies a table of the program, or tests a field
abbrev pub IsWhat : Program → What → Type 0
IsWhat p (Apply t) = t < length p.tables
IsWhat p (Gate f test) = (f < length p.fields) × IsTest (width_of p f) test

-- node n
pub record IsNode (p : Program) (n : ℕ) (node : Node) : Type 0 where
  pub guard : IsGuard n node.guard
  pub what : IsWhat p node.what

-- a node applies a table
abbrev pub applies : ℕ → What → Bool
applies t (Apply u) = t == u
applies t (Gate f test) = false

-- each table is applied by exactly one node
abbrev pub AreAppliedOnce : Program → Type 0
AreAppliedOnce p = (t : ℕ) → t < length p.tables → count_by (λ (node : Node). applies t node.what) p.nodes ≡ 1

-- how many headers, actions and nodes there may be
pub record HasCounts (p : Program) : Type 0 where
  pub a_header : 1 ≤ length p.headers
  pub headers : length p.headers ≤ 64
  pub actions : length p.actions ≤ 256
  pub nodes : length p.nodes ≤ 128

-- the name of a field
abbrev pub name_of : Program → ℕ → List ℕ
name_of p f = unwrap_or (option_map (λ (x : Field). x.name) (slice_get p.fields f)) []

-- a name that begins with these bytes
abbrev pub BeginsWith : List ℕ → List ℕ → Type 0
BeginsWith front name = IsTrue (starts_with nat_eq name front)

-- the fields of a header are named as in eth.valid and eth.dst
pub record HasHeaderNames (p : Program) (h : Header) : Type 0 where
  pub valid : name_of p h.valid ≡ h.name ++ codes ".valid"
  pub fields : All (λ f. BeginsWith (h.name ++ codes ".") (name_of p f)) h.fields

-- fields have the names by which they are printed; headers, actions and tables have a name space each
pub record HasNames (p : Program) : Type 0 where
  pub of_in_port : name_of p 0 ≡ codes "in_port"
  pub of_out_port : name_of p 1 ≡ codes "out_port"
  pub of_drop : name_of p 2 ≡ codes "drop"
  pub of_headers : All (HasHeaderNames p) p.headers
  pub of_metadata : All (λ (f : Field). BeginsWith (codes "meta.") f.name) (drop (3 + length (header_fields p)) p.fields)
  pub fields_once : AreDistinct (map (λ (f : Field). f.name) p.fields)
  pub headers_once : AreDistinct (map (λ (h : Header). h.name) p.headers)
  pub actions_once : AreDistinct (map (λ (a : Action). a.name) p.actions)
  pub tables_once : AreDistinct (map (λ (t : Table). t.name) p.tables)

-- a well-formed program
pub record IsProgram (p : Program) : Type 0 where
  pub fields : HasFields p
  pub headers : AllNumbered (IsHeader p) p.headers
  pub actions : All (IsAction p) p.actions
  pub tables : All (IsTable p) p.tables
  pub nodes : AllNumbered (IsNode p) p.nodes
  pub applied : AreAppliedOnce p
  pub counts : HasCounts p
  pub names : HasNames p
