-- The blocks of a stage's units are numbered from 0 upward, in the order of the units.
use Rattle.std.proofs.Common.{◌≡◌, ℕ, zero, suc, ◌+◌, ◌*◌, ◌<◌, ◌≤◌, Bool, true, false, ◌==◌, cond, nat_lt, List, [], ◌∷◌, ◌++◌, Some, length, map, get_or, refl, sym, ap, ◌∙◌, subst, inl, inr, arith}
use Rattle.std.specs.Prelude.{All, count_by, filter, fold, max, option_map, slice_get, sum_by}
use Rattle.std.specs.List.{AllZip, flat_map, range_with_len}
use Rattle.std.proofs.Math.Nat.{max-le}
use Rattle.std.proofs.lemmas.Bool.{ltb-false}
use Rattle.std.proofs.lemmas.List.Elements.{All-head, All-tail}
use Rattle.std.proofs.lemmas.List.FromFn.{length-range_with_len}
use Rattle.std.proofs.lemmas.List.Sums.{sum_by-cons}
use Rattle.std.proofs.lemmas.Option.{get_or_from_slice_get, slice_get-map}
use Rattle.std.proofs.lemmas.Bool.Decides.{nat_tests}
use Rattle.rmt_bits.specs.declared.lane.Lane.{Lane}
use Rattle.rmt_build.specs.Types.{Program, Test, Table, Kind, Node, Stage, Unit, SlotUnit}
use Rattle.rmt_ast.specs.WellFormed.{IsProgram}
use Rattle.rmt_config.specs.declared.config.Unit.TheVariants.{Slot}
use Rattle.rmt_config.specs.Resources.{greatest_by, memory_sram, most_listed, most_listed_in, times_in, unit_sram}
use Rattle.rmt_config.specs.StageForm.{memory_tcam_blocks, tcam_blocks}
use Rattle.rmt_pack.specs.declared.placement.Part.{Part}
use Rattle.rmt_pack.specs.declared.format.Format.{Format}
use Rattle.rmt_pack.specs.Formats.{no_memory}
use Rattle.rmt_pack.specs.Placements.{quanta_in, what_format}
use Rattle.rmt_filling.specs.declared.memory.PartNeed.{PartNeed}
use Rattle.rmt_filling.specs.declared.memory.Taken.{Taken}
use Rattle.rmt_filling.specs.Memories.{blocks_for, memory_for, sram_for, tcam_for}
use Rattle.rmt_build.specs.Plans.{AreParts, need_in, taken_upto}
use Rattle.rmt_filling.specs.Formats.{format_at}
use Rattle.rmt_build.specs.Promises.{HasBlocksInOrder}
use Rattle.rmt_refine.specs.Units.{UnitCarried, nodes_in, table_at}
use Rattle.rmt_build.proofs.FormStage.{kinds}
use Rattle.rmt_build.proofs.PartLaws.{sum_more}
use Rattle.rmt_build.proofs.PlanLaws.{part_sram, part_tcam}
use Rattle.rmt_bits.proofs.ListLaws.{range-append}
use Rattle.rmt_ast.specs.declared.program.Kind.TheVariants as kind
use Rattle.rmt_ast.specs.declared.program.What.TheVariants as what

-- ---- ranges

three_ranges : (start a b c : ℕ) → range_with_len start a ++ range_with_len (start + a) b ++ range_with_len (start + a + b) c ≡ range_with_len start (a + b + c)
three_ranges start a b c =
    let e : start + a + b ≡ start + (a + b) = omega arith in
    ap (λ xs. xs ++ range_with_len (start + a + b) c) (sym (range-append start a b)) ∙ ap (λ s. range_with_len start (a + b) ++ range_with_len s c) e
    ∙ sym (range-append start (a + b) c)

-- ---- the blocks of a memory

memory_sram_is : (kd : Kind) (n : PartNeed) (taken : Taken) → memory_sram (memory_for kd n taken) ≡ range_with_len taken.sram (sram_for kd (blocks_for kd n))
memory_sram_is kind.Keyless n taken = refl
memory_sram_is kind.Exact n taken = let s = blocks_for kind.Exact n in three_ranges taken.sram s.keys s.records s.counters
memory_sram_is kind.Prefix n taken = let s = blocks_for kind.Prefix n in sym (range-append taken.sram s.records s.counters)
memory_sram_is kind.Ternary n taken = let s = blocks_for kind.Ternary n in sym (range-append taken.sram s.records s.counters)

memory_tcam_is : (kd : Kind) (n : PartNeed) (taken : Taken) → memory_tcam_blocks (memory_for kd n taken) ≡ range_with_len taken.tcam (tcam_for kd (blocks_for kd n))
memory_tcam_is kind.Keyless n taken = refl
memory_tcam_is kind.Exact n taken = refl
memory_tcam_is kind.Prefix n taken = refl
memory_tcam_is kind.Ternary n taken = refl

-- ---- blocks that units list one behind another

module _ (blocks : Unit → List ℕ) (f : ℕ → ℕ) (stands : ℕ → Bool) (none : (m : ℕ) → stands m ≡ false → f m ≡ 0) where
  -- how many the nodes before one take
  abbrev before : ℕ → ℕ
  before m = sum_by f (range_with_len 0 m)

  -- the unit of a node lists the next ones
  abbrev pub ListsNext : ℕ → Unit → Type 0
  ListsNext n u = blocks u ≡ range_with_len (before n) (f n)

  record Lists (m last : ℕ) (us : List Unit) : Type 0 where
    count : ℕ
    are : flat_map blocks us ≡ range_with_len (before m) count
    all : before m + count ≡ before last

  step : (m last : ℕ) (ns : List ℕ) (b : Bool) (us : List Unit) → stands m ≡ b → AllZip ListsNext (cond b (m ∷ ns) ns) us
      → ((vs : List Unit) → AllZip ListsNext ns vs → Lists (m + 1) last vs) → Lists m last us
  step m last ns false us e zip rest =
      let r = rest us zip in
      let all = r.all in
      let same : before (m + 1) ≡ before m = omega (arith, sum_more f m, none m e) in
      record { count = r.count; are = r.are ∙ ap (λ s. range_with_len s r.count) same; all = omega (arith, all, same) }
  step m last ns true [] e zip rest = absurd zip
  step m last ns true (u ∷ us) e zip rest =
      let r = rest us zip.1 in
      let more = sum_more f m in
      record {
        count = f m + r.count;
        are = ap (λ xs. xs ++ flat_map blocks us) zip.0 ∙ ap (λ xs. range_with_len (before m) (f m) ++ xs) (r.are ∙ ap (λ s. range_with_len s r.count) more)
            ∙ sym (range-append (before m) (f m) r.count);
        all = omega (arith, r.all, more);
      }

  lists_from : (count m last : ℕ) (us : List Unit) → m + count ≡ last → AllZip ListsNext (filter stands (range_with_len m count)) us → Lists m last us
  lists_from zero m last [] e zip =
      let same : m ≡ last = omega (arith, e) in
      let all : before m + 0 ≡ before m = omega arith in
      record { count = 0; are = refl; all = all ∙ ap before same }
  lists_from zero m last (u ∷ us) e zip = absurd zip
  lists_from (suc count) m last us e zip =
      step m last (filter stands (range_with_len (m + 1) count)) (stands m) us refl zip
      (λ vs rest. lists_from count (m + 1) last vs (omega (arith, e)) rest)

  -- all units list the blocks from 0 on
  pub all_listed : (last : ℕ) (us : List Unit) → AllZip ListsNext (filter stands (range_with_len 0 last)) us → flat_map blocks us ≡ range_with_len 0 (before last)
  all_listed last us zip =
      let sum : 0 + last ≡ last = omega arith in
      let r = lists_from last 0 last us sum zip in
      let count : r.count ≡ before last = omega (arith, r.all) in
      r.are ∙ ap (range_with_len 0) count

-- ---- none is listed twice

not_before : (m a n : ℕ) → m < a → count_by (λ y. y == m) (range_with_len a n) ≡ 0
not_before m a zero lt = refl
not_before m a (suc n) lt =
    let first = sum_by-cons (λ y. cond (y == m) 1 0) a (range_with_len (a + 1) n) in
    grind (arith, nat_tests, first, not_before m (a + 1) n (omega (arith, lt)), lt)

at_most_once : (m a n : ℕ) → count_by (λ y. y == m) (range_with_len a n) ≤ 1
at_most_once m a zero = omega arith
at_most_once m a (suc n) =
    let rest = at_most_once m (a + 1) n in
    grind (arith, nat_tests, sum_by-cons (λ y. cond (y == m) 1 0) a (range_with_len (a + 1) n), not_before m (a + 1) n, rest)

greatest_from : {X : Type 0} (measure : X → ℕ) (most a : ℕ) (xs : List X) → a ≤ most → All (λ x. measure x ≤ most) xs → fold (λ m x. max m (measure x)) a xs ≤ most
greatest_from measure most a [] le all = le
greatest_from measure most a (x ∷ xs) le all =
    greatest_from measure most (max a (measure x)) xs (max-le le (All-head (λ y. measure y ≤ most) x xs all)) (All-tail (λ y. measure y ≤ most) x xs all)

pub greatest_le : {X : Type 0} (measure : X → ℕ) (most : ℕ) (xs : List X) → All (λ x. measure x ≤ most) xs → greatest_by measure xs ≤ most
greatest_le measure most xs all = greatest_from measure most 0 xs (omega arith) all

listed_once : (blocks : List ℕ) (n : ℕ) → blocks ≡ range_with_len 0 n → most_listed blocks ≤ 1
listed_once blocks n e =
    subst (λ xs. most_listed xs ≤ 1) (sym e) (greatest_le (times_in (range_with_len 0 n)) 1 (range_with_len 0 n) (λ k d lt. at_most_once (get_or (range_with_len 0 n) k d) 0 n))

-- ---- the units of a stage of a plan

module _ (p : Program) (program : IsProgram p) (places : List (List Lane)) (parts : List Part) (k : ℕ) where
  abbrev sram_of : ℕ → ℕ
  sram_of m = quanta_in parts m k * (format_at p m).sram

  abbrev tcam_of : ℕ → ℕ
  tcam_of m = quanta_in parts m k * (format_at p m).tcam

  abbrev stands : ℕ → Bool
  stands n = nat_lt 0 (quanta_in parts n k)

  no_blocks : (blocks : Format → ℕ) (m : ℕ) → stands m ≡ false → quanta_in parts m k * blocks (format_at p m) ≡ 0
  no_blocks blocks m e =
      let none : quanta_in parts m k ≡ 0 = omega (arith, ltb-false 0 (quanta_in parts m k) e) in
      ap (λ q. q * blocks (format_at p m)) none ∙ (let zero_is : 0 * blocks (format_at p m) ≡ 0 = omega arith in zero_is)

  -- the memory of a slot is that of its table's part, in the next blocks
  abbrev pub HasMemory : ℕ → Unit → Type 0
  HasMemory n u = (s : SlotUnit) (t : Table) → u ≡ Slot s → table_at p n ≡ Some t → s.memory ≡ memory_for t.kind (need_in p parts t n k) (taken_upto p parts k n)

  gate_format : (n : ℕ) (node : Node) (field : ℕ) (test : Test) → slice_get p.nodes n ≡ Some node → node.what ≡ what.Gate field test → format_at p n ≡ no_memory
  gate_format n node field test at is =
      let g : Node → Format = λ (x : Node). what_format p x.what in
      get_or_from_slice_get (map g p.nodes) n (g node) no_memory (slice_get-map g p.nodes n ∙ ap (option_map g) at) ∙ ap (what_format p) is

  -- so it has no blocks
  gate_blocks : (blocks : Format → ℕ) → blocks no_memory ≡ 0 → (n : ℕ) (node : Node) (field : ℕ) (test : Test) → slice_get p.nodes n ≡ Some node → node.what ≡ what.Gate field test
      → 0 ≡ quanta_in parts n k * blocks (format_at p n)
  gate_blocks blocks none n node field test at is =
      (let e : 0 ≡ quanta_in parts n k * 0 = omega arith in e) ∙ sym (ap (λ b. quanta_in parts n k * b) (ap blocks (gate_format n node field test at is) ∙ none))

  lists_sram : (n : ℕ) (u : Unit) → UnitCarried p places parts k n u → HasMemory n u → ListsNext unit_sram sram_of stands (no_blocks (λ (f : Format). f.sram)) n u
  lists_sram n u carried has = elim (kinds p places parts k n u carried) [
    | inl s ↦ ap unit_sram s.is ∙ ap memory_sram (has s.slot s.table s.is s.at) ∙ memory_sram_is s.table.kind (need_in p parts s.table n k) (taken_upto p parts k n)
        ∙ ap (range_with_len (taken_upto p parts k n).sram) (part_sram p program n s.table s.at parts k)
    | inr g ↦ ap unit_sram g.is ∙ ap (range_with_len (taken_upto p parts k n).sram) (gate_blocks (λ (f : Format). f.sram) refl n g.node g.field g.test g.node_is g.what_is)
  ]

  lists_tcam : (n : ℕ) (u : Unit) → UnitCarried p places parts k n u → HasMemory n u → ListsNext tcam_blocks tcam_of stands (no_blocks (λ (f : Format). f.tcam)) n u
  lists_tcam n u carried has = elim (kinds p places parts k n u carried) [
    | inl s ↦ ap tcam_blocks s.is ∙ ap memory_tcam_blocks (has s.slot s.table s.is s.at) ∙ memory_tcam_is s.table.kind (need_in p parts s.table n k) (taken_upto p parts k n)
        ∙ ap (range_with_len (taken_upto p parts k n).tcam) (part_tcam p program n s.table s.at parts k)
    | inr g ↦ ap tcam_blocks g.is ∙ ap (range_with_len (taken_upto p parts k n).tcam) (gate_blocks (λ (f : Format). f.tcam) refl n g.node g.field g.test g.node_is g.what_is)
  ]

  zip_both : {P Q S : ℕ → Unit → Type 0} → ((n : ℕ) (u : Unit) → P n u → Q n u → S n u) → (ns : List ℕ) (us : List Unit) → AllZip P ns us → AllZip Q ns us → AllZip S ns us
  zip_both h [] [] a b = tt
  zip_both h [] (u ∷ us) a b = absurd a
  zip_both h (n ∷ ns) [] a b = absurd a
  zip_both h (n ∷ ns) (u ∷ us) a b = (h n u a.0 b.0, zip_both h ns us a.1 b.1)

  -- so are those of the whole stage
  pub record AreBlocks (units : List Unit) : Type 0 where
    pub sram : flat_map unit_sram units ≡ range_with_len 0 (taken_upto p parts k (length p.nodes)).sram
    pub tcam : flat_map tcam_blocks units ≡ range_with_len 0 (taken_upto p parts k (length p.nodes)).tcam

  pub are_blocks : (units : List Unit) → AllZip (UnitCarried p places parts k) (nodes_in p parts k) units → AllZip HasMemory (nodes_in p parts k) units → AreBlocks units
  are_blocks units zip memories = record {
    sram = all_listed unit_sram sram_of stands (no_blocks (λ (f : Format). f.sram)) (length p.nodes) units (zip_both lists_sram (nodes_in p parts k) units zip memories);
    tcam = all_listed tcam_blocks tcam_of stands (no_blocks (λ (f : Format). f.tcam)) (length p.nodes) units (zip_both lists_tcam (nodes_in p parts k) units zip memories);
  }

  module _ (stage : Stage) (are : AreBlocks stage.units) where
    pub blocks_in_order : HasBlocksInOrder stage
    blocks_in_order = record {
      sram = are.sram ∙ ap (range_with_len 0) (sym (ap length are.sram ∙ length-range_with_len 0 (taken_upto p parts k (length p.nodes)).sram));
      tcam = are.tcam ∙ ap (range_with_len 0) (sym (ap length are.tcam ∙ length-range_with_len 0 (taken_upto p parts k (length p.nodes)).tcam));
    }

    pub few_sram : AreParts p parts → length (flat_map unit_sram stage.units) ≤ 106
    few_sram is =
        omega (arith, ap length are.sram ∙ length-range_with_len 0 (taken_upto p parts k (length p.nodes)).sram, is.sram k)

    pub few_tcam : AreParts p parts → length (flat_map tcam_blocks stage.units) ≤ 16
    few_tcam is =
        omega (arith, ap length are.tcam ∙ length-range_with_len 0 (taken_upto p parts k (length p.nodes)).tcam, is.tcam k)

    pub none_twice : most_listed_in stage.units ≤ 1
    none_twice = max-le
        (listed_once (flat_map unit_sram stage.units) (taken_upto p parts k (length p.nodes)).sram are.sram)
        (listed_once (flat_map tcam_blocks stage.units) (taken_upto p parts k (length p.nodes)).tcam are.tcam)
