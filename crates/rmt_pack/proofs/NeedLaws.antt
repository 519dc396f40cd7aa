-- What the tables of a well-formed program need.
use Rattle.std.proofs.Common.{◌≡◌, ℕ, ◌*◌, ◌^◌, ◌<◌, ◌≤◌, List, [], ◌∷◌, Option, Some, None, map, length, refl, ap, sym, subst, arith, unwrap_or}
use Rattle.std.specs.Prelude.{All, IfSome, sum, slice_get, option_map}
use Rattle.std.proofs.lemmas.List.Elements.{All-nil, All-cons, All-head, All-map, All-weaker}
use Rattle.std.proofs.lemmas.List.Sums.{sum_by-cons, sum_by-le}
use Rattle.rmt_bits.proofs.AllLaws.{All-slice_get}
use Rattle.rmt_bits.proofs.ListLaws.{slice_get-item}
use Rattle.rmt_bits.proofs.MostLaws.{greatest-le}
use Rattle.rmt_ast.specs.declared.program.Program.{Program}
use Rattle.rmt_ast.specs.declared.program.Field.{Field}
use Rattle.rmt_ast.specs.declared.program.Action.{Action}
use Rattle.rmt_ast.specs.declared.program.Table.{Table}
use Rattle.rmt_ast.specs.declared.program.Kind.{Kind}
use Rattle.rmt_ast.specs.declared.program.Kind.TheVariants.{Keyless, Exact, Prefix, Ternary}
use Rattle.rmt_ast.specs.declared.program.What.TheVariants.{Apply, Gate}
use Rattle.rmt_ast.specs.State.{width_of}
use Rattle.rmt_ast.specs.WellFormed.{IsProgram, IsTable, IsKeyed, HasKey, IsAction, IsWidth, bits_of}
use Rattle.rmt_ast.specs.declared.program.What.{What}
use Rattle.rmt_pack.specs.declared.format.Need.{Need}
use Rattle.rmt_pack.specs.Formats.{IsFormat, IsNeed, HasNeed, memory_format, no_memory, IsExactFormat}
use Rattle.rmt_pack.specs.Placements.{IsNodeFormat, key_bits, data_bits, param_bits, table_need, what_format}
use Rattle.rmt_pack.proofs.FormatLaws.{exact_format-taken}
use Rattle.rmt_pack.specs.declared.format.Format.{Format}

-- the parameters of an action have at most 2,048 bits
params-few : (params : List ℕ) → All IsWidth params → length params ≤ 16 → sum params ≤ 2048
params-few params widths few =
    let each : All (λ w. w ≤ 128) params = All-weaker IsWidth (λ w. w ≤ 128) (λ w is. is.1) params widths in
    let bits : sum params ≤ length params * 128 = sum_by-le (λ w. w) 128 params each in
    omega arith

option_params : (p : Program) → IsProgram p → (a : ℕ) (o : Option Action) → slice_get p.actions a ≡ o → unwrap_or (option_map (λ (x : Action). sum x.params) o) 0 ≤ 2048
option_params p is a None at = omega arith
option_params p is a (Some x) at =
    let action = All-slice_get (IsAction p) p.actions a x is.actions at in params-few x.params action.params action.few_params

pub param_bits-few : (p : Program) → IsProgram p → (a : ℕ) → param_bits p a ≤ 2048
param_bits-few p is a = option_params p is a (slice_get p.actions a) refl

every : (P : ℕ → Type 0) → ((x : ℕ) → P x) → (xs : List ℕ) → All P xs
every P each [] = All-nil P
every P each (x ∷ xs) = All-cons P x xs (each x) (every P each xs)

pub data_bits-few : (p : Program) → IsProgram p → (t : Table) → data_bits p t ≤ 2048
data_bits-few p is t =
    greatest-le (λ x. x) 0 2048 (map (param_bits p) t.actions) (omega arith)
    (All-map (λ x. x ≤ 2048) (param_bits p) t.actions (every (λ a. param_bits p a ≤ 2048) (param_bits-few p is) t.actions))

-- a field has at least one bit
width-some : (p : Program) → IsProgram p → (f : ℕ) → f < length p.fields → 1 ≤ width_of p f
width-some p is f there =
    let item = slice_get-item p.fields f there in
    let field = All-slice_get (λ (x : Field). IsWidth x.width) p.fields f item.0 is.fields.widths item.1 in
    let width : width_of p f ≡ item.0.width = ap (λ (o : Option Field). unwrap_or (option_map (λ (x : Field). x.width) o) 0) item.1 in
    omega (arith, field.0)

key-some : (p : Program) → IsProgram p → (fs : List ℕ) → 1 ≤ length fs → All (λ f. f < length p.fields) fs → 1 ≤ bits_of p fs
key-some p is [] some fields = absurd (omega arith)
key-some p is (f ∷ fs) some fields =
    let first : 1 ≤ width_of p f = width-some p is f (All-head (λ g. g < length p.fields) f fs fields) in
    omega (arith, sum_by-cons (λ x. x) (width_of p f) (map (width_of p) fs))

keyed_need : (p : Program) → IsProgram p → (t : Table) → IsKeyed p t → IsNeed (table_need p t)
keyed_need p is t key = record {
  has_key = key-some p is t.key key.has_key key.key_fields;
  key = key.key_bits;
  held = data_bits-few p is t;
  has_size = key.has_size;
  size = key.size;
}

has_need_of_kind : (p : Program) → IsProgram p → (t : Table) (kind : Kind) → HasKey p kind t → HasNeed kind (table_need p t)
has_need_of_kind p is t Keyless key = tt
has_need_of_kind p is t Exact key = keyed_need p is t key
has_need_of_kind p is t Prefix key = keyed_need p is t key.0
has_need_of_kind p is t Ternary key = keyed_need p is t key

-- what each table of a well-formed program needs has a format
pub has_need : (p : Program) → IsProgram p → (n : ℕ) (t : Table) → slice_get p.tables n ≡ Some t → HasNeed t.kind (table_need p t)
has_need p is n t at = has_need_of_kind p is t t.kind (All-slice_get (IsTable p) p.tables n t is.tables at).key

-- the bits of a key are no more than a number holds
key-small_of_kind : (p : Program) (t : Table) (kind : Kind) → HasKey p kind t → key_bits p t ≤ 640
key-small_of_kind p t Keyless key = subst (λ (fs : List ℕ). bits_of p fs ≤ 640) (sym key.key) (omega arith)
key-small_of_kind p t Exact key = key.key_bits
key-small_of_kind p t Prefix key = key.0.key_bits
key-small_of_kind p t Ternary key = key.key_bits

pub key-small : (p : Program) (t : Table) → IsTable p t → key_bits p t < 2 ^ 32
key-small p t is = omega (arith, key-small_of_kind p t t.kind is.key)

pub params-small : (p : Program) → IsProgram p → (t : Table) → All (λ a. param_bits p a < 2 ^ 32) t.actions
params-small p is t = every (λ a. param_bits p a < 2 ^ 32) (λ a. omega (arith, param_bits-few p is a)) t.actions

pub table_has_need : (p : Program) → IsProgram p → (t : Table) → IsTable p t → HasNeed t.kind (table_need p t)
table_has_need p is t table = has_need_of_kind p is t t.kind table.key

-- ---- the format of a node

pub memory_format-is : (kind : Kind) (n : Need) → HasNeed kind n → IsFormat kind n (memory_format kind n)
memory_format-is Keyless n need = refl
memory_format-is Exact n need = (exact_format-taken n need).format
memory_format-is Prefix n need = refl
memory_format-is Ternary n need = refl

-- the format that the rule gives a table is one of its formats
table_format : (p : Program) → IsProgram p → (t : ℕ)
    → IsNodeFormat p (Apply t) (unwrap_or (option_map (λ (x : Table). memory_format x.kind (table_need p x)) (slice_get p.tables t)) no_memory)
table_format p is t = at (slice_get p.tables t) refl
  where
    at : (o : Option Table) → slice_get p.tables t ≡ o
        → IfSome o (λ (x : Table). IsFormat x.kind (table_need p x) (unwrap_or (option_map (λ (y : Table). memory_format y.kind (table_need p y)) o) no_memory))
    at None found = tt
    at (Some x) found = memory_format-is x.kind (table_need p x) (has_need p is t x found)

-- a quantum of an exact format has a block at least
pub exact_blocks : (n : Need) (f : Format) → IsExactFormat n f → 1 ≤ f.sram
exact_blocks n f is = omega (arith, ap (λ (g : Format). g.sram) is.layout, is.has_width)

-- and that of a node is one of its own
pub own_format : (p : Program) → IsProgram p → (what : What) → IsNodeFormat p what (what_format p what)
own_format p is (Gate field test) = refl
own_format p is (Apply t) = table_format p is t
