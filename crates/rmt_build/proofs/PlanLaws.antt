-- What a plan gives to the parts of a table.
use Rattle.std.proofs.Common.{◌≡◌, ◌≢◌, ℕ, Bool, ◌+◌, ◌-◌, ◌*◌, ◌≤◌, ◌<◌, List, Some, length, map, get_or, refl, sym, ap, subst, ◌∙◌, arith}
use Rattle.std.specs.Prelude.{Option, nat_lt, option_map, slice_get, sum_by, unwrap_or}
use Rattle.std.specs.List.{range_with_len}
use Rattle.std.proofs.lemmas.List.{get_or_default, length-map}
use Rattle.std.proofs.lemmas.Option.{get_or_from_slice_get, slice_get-map, slice_get_within}
use Rattle.std.proofs.lemmas.List.FromFn.{length-range_with_len}
use Rattle.std.proofs.lemmas.List.Sums.{count_by-le-length, sum_by-append}
use Rattle.rmt_bits.proofs.AllLaws.{All-slice_get}
use Rattle.rmt_bits.proofs.ListLaws.{range-append}
use Rattle.rmt_build.specs.Types.{Program, Test, Table, Kind, Node}
use Rattle.rmt_ast.specs.declared.program.Kind.TheVariants.{Keyless, Exact, Prefix, Ternary}
use Rattle.rmt_pack.specs.declared.format.Need.{Need}
use Rattle.rmt_ast.specs.WellFormed.{IsProgram, IsTable}
use Rattle.rmt_pack.specs.declared.format.Format.{Format}
use Rattle.rmt_pack.specs.declared.placement.Part.{Part}
use Rattle.rmt_pack.specs.Formats.{HasNeed, IsFormat, memory_format, no_memory}
use Rattle.rmt_pack.specs.Placements.{quanta_in, table_need, what_format}
use Rattle.rmt_pack.proofs.NeedLaws.{table_has_need, memory_format-is}
use Rattle.rmt_refine.specs.Units.{table_at}
use Rattle.rmt_ast.specs.declared.program.What.TheVariants.{Gate}
use Rattle.rmt_filling.specs.declared.memory.PartNeed.{PartNeed}
use Rattle.rmt_filling.specs.Memories.{HasRoom, blocks_for, sram_for, taken_behind, tcam_for}
use Rattle.rmt_build.specs.Plans.{AreParts, need_in, parts_before, taken_upto}
use Rattle.rmt_filling.specs.Formats.{format_at, formats_of}
use Rattle.rmt_build.proofs.MemoryLaws.{IsNeedOf, few_quanta, quantum_of, sram_is, tcam_is}
use Rattle.rmt_build.proofs.PartLaws.{sum_more}
use Rattle.rmt_build.proofs.UnitLaws.{node_applies}

-- the sum up to a number is no more than that up to a greater one
pub sum_within : (f : ℕ → ℕ) (m n : ℕ) → m ≤ n → sum_by f (range_with_len 0 m) ≤ sum_by f (range_with_len 0 n)
sum_within f m n le =
    let there : m + (n - m) ≡ n = omega (arith, le) in
    let split = ap (sum_by f) (ap (range_with_len 0) (sym there) ∙ range-append 0 m (n - m)) ∙ sum_by-append f (range_with_len 0 m) (range_with_len (0 + m) (n - m)) in
    omega (arith, split)

nothing_taken : (p : Program) (parts : List Part) (k n : ℕ) → quanta_in parts n k * (format_at p n).sram ≡ 0 → quanta_in parts n k * (format_at p n).tcam ≡ 0
    → taken_upto p parts k n ≡ taken_upto p parts k (n + 1)
nothing_taken p parts k n sram tcam =
    let f : ℕ → ℕ = λ m. quanta_in parts m k * (format_at p m).sram in
    let g : ℕ → ℕ = λ m. quanta_in parts m k * (format_at p m).tcam in
    let one : (taken_upto p parts k n).sram ≡ (taken_upto p parts k (n + 1)).sram = omega (arith, sum_more f n, sram) in
    let two : (taken_upto p parts k n).tcam ≡ (taken_upto p parts k (n + 1)).tcam = omega (arith, sum_more g n, tcam) in
    ap (λ s. record { sram = s; tcam = (taken_upto p parts k n).tcam }) one ∙ ap (λ s. record { sram = (taken_upto p parts k (n + 1)).sram; tcam = s }) two

-- there are no more parts than stages
pub parts-le : (parts : List Part) (n k : ℕ) → parts_before parts n k ≤ k
parts-le parts n k = omega (arith, count_by-le-length (λ j. nat_lt 0 (quanta_in parts n j)) (range_with_len 0 k), length-range_with_len 0 k)

key_few : (kind : Kind) (t : Need) → HasNeed kind t → kind ≢ Keyless → t.key ≤ 640
key_few Keyless t need keyed = absurd (keyed refl)
key_few Exact t need keyed = need.key
key_few Prefix t need keyed = need.key
key_few Ternary t need keyed = need.key

pub need_same : (f g : Format) (q r b d k l h i : ℕ) (counted : Bool) → f ≡ g → q ≡ r → b ≡ d → k ≡ l → h ≡ i
    → ◌≡◌ {A = PartNeed} (record { format = f; quanta = q; before = b; key = k; held = h; counted = counted }) (record { format = g; quanta = r; before = d; key = l; held = i; counted = counted })
need_same f g q r b d k l h i counted ef eq eb ek eh = cc

-- a gate takes no block
pub gate_taken : (p : Program) (parts : List Part) (k n : ℕ) (node : Node) (field : ℕ) (test : Test) → slice_get p.nodes n ≡ Some node → node.what ≡ Gate field test
    → taken_upto p parts k n ≡ taken_upto p parts k (n + 1)
gate_taken p parts k n node field test at does =
    let g : Node → Format = λ x. what_format p x.what in
    let format : format_at p n ≡ no_memory =
    get_or_from_slice_get (map g p.nodes) n (g node) no_memory (slice_get-map g p.nodes n ∙ ap (option_map g) at) ∙ ap (what_format p) does in
    nothing_taken p parts k n (let sram = ap (λ (f : Format). quanta_in parts n k * f.sram) format in omega (arith, sram)) (let tcam = ap (λ (f : Format). quanta_in parts n k * f.tcam) format in omega (arith, tcam))

-- nor does a node that doesn't stand there
pub absent_taken : (p : Program) (parts : List Part) (k n : ℕ) → quanta_in parts n k ≡ 0 → taken_upto p parts k n ≡ taken_upto p parts k (n + 1)
absent_taken p parts k n none =
    nothing_taken p parts k n
    (let sram = ap (λ q. q * (format_at p n).sram) none in omega (arith, sram))
    (let tcam = ap (λ q. q * (format_at p n).tcam) none in omega (arith, tcam))

module _ (p : Program) (good : IsProgram p) (n : ℕ) (t : Table) (at : table_at p n ≡ Some t) where
  pub node_there : n < length p.nodes
  node_there = let a = node_applies p n t at in slice_get_within p.nodes n a.node a.at

  pub is_table : IsTable p t
  is_table = let a = node_applies p n t at in All-slice_get (IsTable p) p.tables a.number t good.tables a.table

  pub has_need : HasNeed t.kind (table_need p t)
  has_need = table_has_need p good t is_table

  -- the node has the rule's format
  pub format_is : format_at p n ≡ memory_format t.kind (table_need p t)
  format_is =
      let a = node_applies p n t at in
      let g : Node → Format = λ node. what_format p node.what in
      get_or_from_slice_get (map g p.nodes) n (g a.node) no_memory (slice_get-map g p.nodes n ∙ ap (option_map g) a.at)
      ∙ (ap (what_format p) a.does ∙ ap (λ (o : Option Table). unwrap_or (option_map (λ (x : Table). memory_format x.kind (table_need p x)) o) no_memory) a.table)

  pub is_format : IsFormat t.kind (table_need p t) (format_at p n)
  is_format = subst (IsFormat t.kind (table_need p t)) (sym format_is) (memory_format-is t.kind (table_need p t) has_need)

  -- few cells a row
  pub few_per : t.kind ≢ Keyless → (format_at p n).per < 100
  few_per keyed = (quantum_of t.kind (table_need p t) (format_at p n) has_need is_format keyed).per

  module _ (parts : List Part) (k : ℕ) where
    is_need : IsNeedOf (need_in p parts t n k) (table_need p t)
    is_need = record { key = refl; held = refl; counted = refl }

    pub part_sram : sram_for t.kind (blocks_for t.kind (need_in p parts t n k)) ≡ quanta_in parts n k * (format_at p n).sram
    part_sram = sram_is t.kind (need_in p parts t n k) (table_need p t) is_need is_format

    pub part_tcam : tcam_for t.kind (blocks_for t.kind (need_in p parts t n k)) ≡ quanta_in parts n k * (format_at p n).tcam
    part_tcam = tcam_is t.kind (need_in p parts t n k) (table_need p t) is_need is_format

    -- behind the part its blocks are taken, too
    pub taken_next : taken_behind t.kind (need_in p parts t n k) (taken_upto p parts k n) ≡ taken_upto p parts k (n + 1)
    taken_next =
        let sram = λ (m : ℕ). quanta_in parts m k * (format_at p m).sram in
        let tcam = λ (m : ℕ). quanta_in parts m k * (format_at p m).tcam in
        let one : (taken_upto p parts k n).sram + sram_for t.kind (blocks_for t.kind (need_in p parts t n k)) ≡ (taken_upto p parts k (n + 1)).sram = omega (arith, part_sram, sum_more sram n) in
        let two : (taken_upto p parts k n).tcam + tcam_for t.kind (blocks_for t.kind (need_in p parts t n k)) ≡ (taken_upto p parts k (n + 1)).tcam = omega (arith, part_tcam, sum_more tcam n) in
        ap (λ s. record { sram = s; tcam = (taken_upto p parts k n).tcam + tcam_for t.kind (blocks_for t.kind (need_in p parts t n k)) }) one
        ∙ ap (λ s. record { sram = (taken_upto p parts k (n + 1)).sram; tcam = s }) two

    -- a table without a key takes none
    pub none_taken : t.kind ≡ Keyless → taken_upto p parts k n ≡ taken_upto p parts k (n + 1)
    none_taken keyless =
        let sram : sram_for t.kind (blocks_for t.kind (need_in p parts t n k)) ≡ 0 = ap (λ kind. sram_for kind (blocks_for kind (need_in p parts t n k))) keyless in
        let tcam : tcam_for t.kind (blocks_for t.kind (need_in p parts t n k)) ≡ 0 = ap (λ kind. tcam_for kind (blocks_for kind (need_in p parts t n k))) keyless in
        let one : (taken_upto p parts k n).sram ≡ (taken_upto p parts k n).sram + sram_for t.kind (blocks_for t.kind (need_in p parts t n k)) = omega (arith, sram) in
        let two : (taken_upto p parts k n).tcam ≡ (taken_upto p parts k n).tcam + tcam_for t.kind (blocks_for t.kind (need_in p parts t n k)) = omega (arith, tcam) in
        ap (λ s. record { sram = s; tcam = (taken_upto p parts k n).tcam }) one
        ∙ (ap (λ s. record { sram = (taken_upto p parts k n).sram + sram_for t.kind (blocks_for t.kind (need_in p parts t n k)); tcam = s }) two ∙ taken_next)

    -- and all of them are blocks of the stage
    pub sram_fits : AreParts p parts → (taken_upto p parts k n).sram + sram_for t.kind (blocks_for t.kind (need_in p parts t n k)) ≤ 106
    sram_fits is =
        let f = λ (m : ℕ). quanta_in parts m k * (format_at p m).sram in
        omega (arith, part_sram, sum_more f n, sum_within f (n + 1) (length p.nodes) (omega (arith, node_there)), is.sram k)

    pub tcam_fits : AreParts p parts → (taken_upto p parts k n).tcam + tcam_for t.kind (blocks_for t.kind (need_in p parts t n k)) ≤ 16
    tcam_fits is =
        let f = λ (m : ℕ). quanta_in parts m k * (format_at p m).tcam in
        omega (arith, part_tcam, sum_more f n, sum_within f (n + 1) (length p.nodes) (omega (arith, node_there)), is.tcam k)

    -- a table with a key has few quanta in a stage
    pub few_in : AreParts p parts → t.kind ≢ Keyless → quanta_in parts n k ≤ 106
    few_in is keyed =
        let f = λ (m : ℕ). quanta_in parts m k * (format_at p m).sram in
        let all = is.sram k in
        let one : quanta_in parts n k * (format_at p n).sram ≤ 106 = omega (arith, sum_more f n, sum_within f (n + 1) (length p.nodes) (omega (arith, node_there)), all) in
        few_quanta (quanta_in parts n k) (format_at p n).sram 106 (quantum_of t.kind (table_need p t) (format_at p n) has_need is_format keyed).some one

    -- so the part has room
    pub has_room : AreParts p parts → t.kind ≢ Keyless → k < 32 → HasRoom t.kind (need_in p parts t n k) (taken_upto p parts k n)
    has_room is keyed lt = record {
      quanta = few_in is keyed;
      before = let few = parts-le parts n k in omega (arith, few, lt);
      key = key_few t.kind (table_need p t) has_need keyed;
      per = let few = few_per keyed in omega (arith, few);
      sram = sram_fits is;
      tcam = tcam_fits is;
    }

  -- the node of the table
  pub formats_long : (formats : List Format) → formats ≡ formats_of p → n < length formats
  formats_long formats is =
      omega (arith, ap length is, length-map p.nodes (λ (node : Node). what_format p node.what), node_there)

  pub format_seen : (formats : List Format) (d : Format) → formats ≡ formats_of p → get_or formats n d ≡ format_at p n
  format_seen formats d is = ap (λ (fs : List Format). get_or fs n d) is ∙ get_or_default (formats_of p) n d no_memory (formats_long (formats_of p) refl)
