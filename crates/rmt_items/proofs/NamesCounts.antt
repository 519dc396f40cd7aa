-- Names of a configuration that keeps the rules of form: their counts and numbers fit their places in an image.
use Rattle.std.proofs.Common.{◌≡◌, ℕ, ◌+◌, ◌^◌, ◌<◌, ◌≤◌, Bool, true, false, ◌&&◌, cond, ltb, leb, eqb, List, [], ◌∷◌, length, map, Option, Some, None, refl, sym, ap, subst, arith}
use Rattle.std.specs.Prelude.{All, sum}
use Rattle.std.specs.List.{enumerate_from, flat_map, list_all}
use Rattle.std.proofs.lemmas.Bool.{ltb-true, lt-ltb, leb-true, eqb-true, and_parts, and_from}
use Rattle.std.proofs.lemmas.List.{length-append, length-map, nil_from_length}
use Rattle.std.proofs.lemmas.List.Sums.{sum_by-cons}
use Rattle.std.proofs.lemmas.List.Elements.{All-nil, All-cons, All-head, All-tail, All-map, All-append, All-weaker}
use Rattle.std.proofs.lemmas.Slice.Eq.{bytes_eq-Decides}
use Rattle.rmt_bits.proofs.AllLaws.{All-flat_map, All-from_test, All-unmap}
use Rattle.rmt_bits.proofs.TestLaws.{split2, split3, split6, split8}
use Rattle.rmt_ast.specs.Naming.{has_key}
use Rattle.rmt_ast.specs.NameRules.{has_names, action_names_differ, has_fields, are_widths, has_params, has_size, may_have_ranks, table_is_formed, names_are_formed}
use Rattle.rmt_ast.specs.declared.program.Kind.{Kind}
use Rattle.rmt_ast.specs.declared.program.Kind.TheVariants as kind
use Rattle.rmt_ast.specs.declared.names.Names.{Names}
use Rattle.rmt_ast.specs.declared.names.TableName.{TableName}
use Rattle.rmt_ast.specs.declared.names.ActionName.{ActionName}
use Rattle.rmt_ast.specs.declared.names.RankOf.{RankOf}
use Rattle.rmt_items.specs.Types.{Config, Stage, Unit as ChipUnit, SlotUnit, CellNumber}
use Rattle.rmt_config.specs.declared.config.Unit.TheVariants.{Gate, Slot}
use Rattle.rmt_config.specs.declared.config.Memory.TheVariants.{Exact, Ternary}
use Rattle.rmt_config.specs.LaneForm.{lane_is_formed, bits_of_lanes}
use Rattle.rmt_config.specs.UnitForm.{guard_is_formed, number_is_formed, slot_head_is_formed, memory_is_formed, slot_is_formed, unit_is_formed}
use Rattle.rmt_config.specs.StageForm.{stage_is_formed}
use Rattle.rmt_config.specs.Form.{items_are_formed, names_are_fit, Formed}
use Rattle.rmt_config.specs.Rooms.{PartAt, parts_among, parts_of}
use Rattle.rmt_config.specs.NamesForm.{entry_in, entries_by_cell, has_parts, has_ranks, is_made_so, is_filled_so, names_are_short, names_have_counts, numbers_leave_room, tables_are_those, names_fit}
use Rattle.rmt_config.proofs.CountsLemmas.{stages_of_items}
use Rattle.rmt_items.specs.CountsFit.{CountsFitAction, CountsFitTable, CountsFitTables, CountsFitNames}
use Rattle.rmt_items.proofs.Codec.{AllAlong}
use Rattle.rmt_items.proofs.NameItems.{rank_fits, RanksKeep, TableKeeps, NamesKeep}
use Rattle.rmt_config.proofs.SlotLaws.{slot_is_short}
use Rattle.rmt_config.proofs.SpelledParts.{units-of}

-- ---- the parts of a table

-- a part of the table of a node: its slot keeps the rules, and is of that node
record IsPart (node : ℕ) (p : PartAt) : Type 0 where
  pub formed : slot_is_formed p.slot ≡ true
  pub own : p.slot.node ≡ node

parts_are : (node k place first : ℕ) (us : List ChipUnit) → list_all unit_is_formed us ≡ true → All (IsPart node) (parts_among node k place first us)
parts_are node k place first [] e = All-nil (IsPart node)
parts_are node k place first ((Gate g) ∷ us) e = parts_are node k (place + 1) first us (and_parts (unit_is_formed (Gate g)) (list_all unit_is_formed us) e).1
parts_are node k place first ((Slot s) ∷ us) e =
    let p = and_parts (slot_is_formed s) (list_all unit_is_formed us) e in
    let part : PartAt = record { stage = k; place = place; first = first; slot = s } in
    All-append (IsPart node) (cond (eqb s.node node) (part ∷ []) []) (parts_among node k (place + 1) (first + s.actions + 1) us)
    (own part p.0 (eqb s.node node) refl) (parts_are node k (place + 1) (first + s.actions + 1) us p.1)
  where
    own : (part : PartAt) → slot_is_formed part.slot ≡ true → (b : Bool) → eqb part.slot.node node ≡ b → All (IsPart node) (cond b (part ∷ []) [])
    own part formed true is = All-cons (IsPart node) part [] (record { formed = formed; own = eqb-true part.slot.node node is }) (All-nil (IsPart node))
    own part formed false is = All-nil (IsPart node)

abbrev parts_in : ℕ → ℕ × Stage → List PartAt
parts_in node x = parts_among node x.0 0 0 x.1.units

stages_parts : (node k : ℕ) (ss : List Stage) → list_all stage_is_formed ss ≡ true → All (λ (x : ℕ × Stage). All (IsPart node) (parts_in node x)) (enumerate_from k ss)
stages_parts node k [] e = All-nil (λ (x : ℕ × Stage). All (IsPart node) (parts_in node x))
stages_parts node k (s ∷ ss) e =
    let p = and_parts (stage_is_formed s) (list_all stage_is_formed ss) e in
    All-cons (λ (x : ℕ × Stage). All (IsPart node) (parts_in node x)) (k, s) (enumerate_from (k + 1) ss)
    (parts_are node k 0 0 s.units (units-of s p.0)) (stages_parts node (k + 1) ss p.1)

all_parts : (c : Config) → items_are_formed c ≡ true → (node : ℕ) → All (IsPart node) (parts_of c node)
all_parts c items node = All-flat_map (IsPart node) (parts_in node) (enumerate_from 0 c.stages) (stages_parts node 0 c.stages (stages_of_items c items))

-- the first part of a table that has one, and what is told of each
record First (node : ℕ) (ps : List PartAt) : Type 0 where
  pub part : PartAt
  pub is : IsPart node part
  pub told : (rule : PartAt → Bool) → list_all rule ps ≡ true → rule part ≡ true

first_of : (node : ℕ) (ps : List PartAt) → leb 1 (length ps) ≡ true → All (IsPart node) ps → First node ps
first_of node [] some all = absurd cc
first_of node (p ∷ ps) some all =
    record { part = p; is = All-head (IsPart node) p ps all; told = λ rule e. (and_parts (rule p) (list_all rule ps) e).0 }

-- ---- what a slot has

slot_numbers : (s : SlotUnit) → slot_is_formed s ≡ true → (s.node < 256) × (s.actions ≤ 14) × (list_all number_is_formed s.numbers ≡ true)
slot_numbers s e =
    let h : (ltb s.node 256 ≡ true) × (guard_is_formed s.guard ≡ true) × (leb s.actions 14 ≡ true) × (ltb s.held 65536 ≡ true) × (ltb (length s.keys) 65536 ≡ true)
    × (list_all lane_is_formed s.keys ≡ true) × (ltb (length s.numbers) (2 ^ 32) ≡ true) × (list_all number_is_formed s.numbers ≡ true) =
    split8 (and_parts (slot_head_is_formed s) (memory_is_formed s s.memory) e).0 in
    (ltb-true s.node 256 h.0, leb-true s.actions 14 h.2, h.7)

-- ---- what a table has

-- widths of at least one bit are at most as many as their bits
few_widths : (ws : List ℕ) → are_widths ws ≡ true → length ws ≤ sum ws
few_widths [] e = omega arith
few_widths (w ∷ ws) e =
    let p = and_parts (leb 1 w && leb w 128) (are_widths ws) e in
    omega (arith, leb-true 1 w (split2 p.0).0, few_widths ws p.1, sum_by-cons (λ (x : ℕ). x) w ws)

abbrev number_of : CellNumber → ℕ
number_of n = n.number

abbrev numbers_of : PartAt → List ℕ
numbers_of part = map number_of part.slot.numbers

-- a table has as many numbers as entries
same_count : (c : Config) (t : TableName) (ps : List PartAt) → length (flat_map numbers_of ps) ≡ length (flat_map (λ (part : PartAt). map (entry_in c t part) part.slot.numbers) ps)
same_count c t [] = refl
same_count c t (p ∷ ps) =
    let numbers = length-append (numbers_of p) (flat_map numbers_of ps) in
    let entries = length-append (map (entry_in c t p) p.slot.numbers) (flat_map (λ (part : PartAt). map (entry_in c t part) part.slot.numbers) ps) in
    let own_numbers = length-map p.slot.numbers number_of in
    let own_entries = length-map p.slot.numbers (entry_in c t p) in
    omega (arith, numbers, entries, own_numbers, own_entries, same_count c t ps)

-- numbers and ranks of ranks fit their places
ranks_fit : (rs : List RankOf) → All (λ (r : RankOf). r.number < 2 ^ 32) rs → list_all (λ (r : RankOf). ltb r.rank (2 ^ 32)) rs ≡ true → list_all rank_fits rs ≡ true
ranks_fit [] numbers ranks = refl
ranks_fit (r ∷ rs) numbers ranks =
    let number : ltb r.number (2 ^ 32) ≡ true = lt-ltb r.number (2 ^ 32) (All-head (λ (x : RankOf). x.number < 2 ^ 32) r rs numbers) in
    let p = and_parts (ltb r.rank (2 ^ 32)) (list_all (λ (x : RankOf). ltb x.rank (2 ^ 32)) rs) ranks in
    and_from _ _ (and_from _ _ number p.0) (ranks_fit rs (All-tail (λ (x : RankOf). x.number < 2 ^ 32) r rs numbers) p.1)

actions_fit : (us : List ActionName) → list_all (λ (a : ActionName). ltb (length a.name) (2 ^ 32)) us ≡ true → list_all has_params us ≡ true → All CountsFitAction us
actions_fit [] short params = All-nil CountsFitAction
actions_fit (a ∷ us) short params =
    let s = and_parts (ltb (length a.name) (2 ^ 32)) (list_all (λ (x : ActionName). ltb (length x.name) (2 ^ 32)) us) short in
    let p = and_parts (has_params a) (list_all has_params us) params in
    All-cons CountsFitAction a us
    (record { name = ltb-true (length a.name) (2 ^ 32) s.0; params = omega (arith, leb-true (length a.params) 16 (split2 p.0).1) })
    (actions_fit us s.1 p.1)

-- what is told of the lengths of names, and of ranks
short_told : (t : TableName) → names_are_short t ≡ true
    → (ltb (length t.name) (2 ^ 32) ≡ true) × (list_all (λ (a : ActionName). ltb (length a.name) (2 ^ 32)) t.actions ≡ true) × (list_all (λ (r : RankOf). ltb r.rank (2 ^ 32)) t.ranks ≡ true)
short_told t e = split3 e

-- what a table keeps by the rules on names
record IsTold (c : Config) (t : TableName) : Type 0 where
  pub formed : table_is_formed t ≡ true
  pub short : names_are_short t ≡ true
  pub parts : has_parts c t ≡ true
  pub made : is_made_so c t ≡ true
  pub filled : is_filled_so c t ≡ true

module _ (c : Config) (items : items_are_formed c ≡ true) (t : TableName) (told : IsTold c t) where
  first : First t.node (parts_of c t.node)
  first = first_of t.node (parts_of c t.node) (split2 told.parts).0 (all_parts c items t.node)

  -- key, names, action names, widths, fields, parameters, size and ranks, as names alone tell them
  alone_told : (has_key t.kind ≡ true) × (has_names t ≡ true) × (action_names_differ t ≡ true) × (are_widths t.keys ≡ true) × (has_fields t.kind t.keys ≡ true) × (list_all has_params t.actions ≡ true) × (has_size t ≡ true) × (may_have_ranks t.kind t.ranks ≡ true)
  alone_told = split8 told.formed

  node_small : t.node < 2 ^ 8
  node_small = let s = slot_numbers first.part.slot first.is.formed in omega (arith, s.0, first.is.own)

  few_keys : length t.keys < 2 ^ 16
  few_keys =
      let bits = eqb-true (sum t.keys) (bits_of_lanes first.part.slot.keys) (first.told (λ (part : PartAt). eqb (sum t.keys) (bits_of_lanes part.slot.keys)) (and_parts _ _ (and_parts _ _ told.made).0).0) in
      omega (arith, few_widths t.keys alone_told.3, bits, slot_is_short first.part.slot first.is.formed)

  few_actions : length t.actions < 2 ^ 8
  few_actions =
      let here = first.told (λ (part : PartAt). eqb (length t.actions) part.slot.actions && list_all (λ (a : ActionName). leb (sum a.params) part.slot.held) t.actions) (and_parts _ _ (and_parts _ _ told.made).0).1 in
      let count = eqb-true (length t.actions) first.part.slot.actions (split2 here).0 in
      omega (arith, count, (slot_numbers first.part.slot first.is.formed).1)

  size_small : t.size ≤ 1048576
  size_small = leb-true t.size 1048576 (split2 alone_told.6).1

  few_entries : length (flat_map numbers_of (parts_of c t.node)) ≤ 1048576
  few_entries =
      let entries = (and_parts _ _ told.filled).1 in
      let few = leb-true (length (entries_by_cell c t)) t.size (and_parts _ _ (and_parts _ _ (and_parts _ _ entries).0).0).0 in
      omega (arith, same_count c t (parts_of c t.node), few, size_small)

  -- the ranks of a ternary table are as many as its entries, and of their numbers
  ranks_are : has_ranks c kind.Ternary t ≡ true → map (λ (r : RankOf). r.number) t.ranks ≡ flat_map numbers_of (parts_of c t.node)
  ranks_are e = (bytes_eq-Decides _ _).0 e

  few_ranks : (k : Kind) → may_have_ranks k t.ranks ≡ true → has_ranks c k t ≡ true → length t.ranks < 2 ^ 32
  few_ranks kind.Keyless may has = omega (arith, eqb-true (length t.ranks) 0 may)
  few_ranks kind.Exact may has = omega (arith, eqb-true (length t.ranks) 0 may)
  few_ranks kind.Prefix may has = omega (arith, eqb-true (length t.ranks) 0 may)
  few_ranks kind.Ternary may has =
      let same = ap (λ (ns : List ℕ). length ns) (ranks_are has) in
      omega (arith, same, length-map t.ranks (λ (r : RankOf). r.number), few_entries)

  part_numbers : (p : PartAt) → IsPart t.node p → All (λ n. n < 2 ^ 32) (numbers_of p)
  part_numbers p is =
      All-map (λ n. n < 2 ^ 32) number_of p.slot.numbers
      (All-from_test (λ (x : CellNumber). x.number < 2 ^ 32) number_is_formed (λ x e. ltb-true x.number (2 ^ 32) (split2 e).1) p.slot.numbers (slot_numbers p.slot is.formed).2)

  numbers_small : All (λ n. n < 2 ^ 32) (flat_map numbers_of (parts_of c t.node))
  numbers_small =
      All-flat_map (λ n. n < 2 ^ 32) numbers_of (parts_of c t.node)
      (All-weaker (IsPart t.node) (λ (p : PartAt). All (λ n. n < 2 ^ 32) (numbers_of p)) part_numbers (parts_of c t.node) (all_parts c items t.node))

  ranks_keep : (k : Kind) → has_key k ≡ true → may_have_ranks k t.ranks ≡ true → has_ranks c k t ≡ true → RanksKeep k t.ranks
  ranks_keep kind.Keyless keyed may has = absurd cc
  ranks_keep kind.Exact keyed may has = nil_from_length t.ranks (eqb-true (length t.ranks) 0 may)
  ranks_keep kind.Prefix keyed may has = nil_from_length t.ranks (eqb-true (length t.ranks) 0 may)
  ranks_keep kind.Ternary keyed may has =
      let numbers = subst (All (λ n. n < 2 ^ 32)) (sym (ranks_are has)) numbers_small in
      (few_ranks kind.Ternary may has, ranks_fit t.ranks (All-unmap (λ n. n < 2 ^ 32) (λ (r : RankOf). r.number) t.ranks numbers) (short_told t told.short).2)

  has_own_ranks : has_ranks c t.kind t ≡ true
  has_own_ranks = (and_parts _ _ (and_parts _ _ told.filled).0).1

  counts_fit : CountsFitTable t
  counts_fit = record {
    node = node_small;
    name = ltb-true (length t.name) (2 ^ 32) (short_told t told.short).0;
    keys = few_keys;
    actions = few_actions;
    each_action = actions_fit t.actions (short_told t told.short).1 alone_told.5;
    ranks = few_ranks t.kind alone_told.7 has_own_ranks;
  }

  keeps : TableKeeps t
  keeps = record {
    name = ltb-true (length t.name) (2 ^ 32) (short_told t told.short).0;
    keyed = alone_told.0;
    size = omega (arith, size_small);
    keys = few_keys;
    actions = (short_told t told.short).1;
    ranks = ranks_keep t.kind alone_told.0 alone_told.7 has_own_ranks;
  }

-- ---- names

record AreTold (c : Config) (ts : List TableName) : Type 0 where
  pub formed : list_all table_is_formed ts ≡ true
  pub short : list_all names_are_short ts ≡ true
  pub parts : list_all (has_parts c) ts ≡ true
  pub made : list_all (is_made_so c) ts ≡ true
  pub filled : list_all (is_filled_so c) ts ≡ true

behind_first : (c : Config) (t : TableName) (ts : List TableName) → AreTold c (t ∷ ts) → IsTold c t × AreTold c ts
behind_first c t ts told =
    let formed = and_parts (table_is_formed t) (list_all table_is_formed ts) told.formed in
    let short = and_parts (names_are_short t) (list_all names_are_short ts) told.short in
    let parts = and_parts (has_parts c t) (list_all (has_parts c) ts) told.parts in
    let made = and_parts (is_made_so c t) (list_all (is_made_so c) ts) told.made in
    let filled = and_parts (is_filled_so c t) (list_all (is_filled_so c) ts) told.filled in (
      record { formed = formed.0; short = short.0; parts = parts.0; made = made.0; filled = filled.0 },
      record { formed = formed.1; short = short.1; parts = parts.1; made = made.1; filled = filled.1 },
    )

tables_fit : (c : Config) → items_are_formed c ≡ true → (ts : List TableName) → AreTold c ts → All CountsFitTable ts
tables_fit c items [] told = All-nil CountsFitTable
tables_fit c items (t ∷ ts) told =
    let p = behind_first c t ts told in All-cons CountsFitTable t ts (counts_fit c items t p.0) (tables_fit c items ts p.1)

tables_keep : (c : Config) → items_are_formed c ≡ true → (ts : List TableName) → AreTold c ts → AllAlong (λ _ t. TableKeeps t) (λ _. 0) 0 ts
tables_keep c items [] told = tt
tables_keep c items (t ∷ ts) told = let p = behind_first c t ts told in (keeps c items t p.0, tables_keep c items ts p.1)

names_told : (c : Config) (names : Names) → names_fit c names ≡ true → (length names.tables < 2 ^ 8) × AreTold c names.tables
names_told c names fit =
    let p : (names_are_formed names ≡ true) × (names_have_counts names ≡ true) × (numbers_leave_room c ≡ true) × (tables_are_those c names ≡ true) × (list_all (is_made_so c) names.tables ≡ true) × (list_all (is_filled_so c) names.tables ≡ true) =
    split6 fit in
    let counts = split2 p.1 in
    (ltb-true (length names.tables) 256 counts.0, record { formed = (and_parts _ _ p.0).1; short = counts.1; parts = (and_parts _ _ p.3).0; made = p.4; filled = p.5 })

-- names of a configuration that keeps the rules can be written, and are read from their spelling
names_count : (c : Config) → items_are_formed c ≡ true → (names : Names) → names_fit c names ≡ true → CountsFitTables names
names_count c items names fit = let p = names_told c names fit in record { tables = p.0; each_table = tables_fit c items names.tables p.1 }

pub names_keep : (c : Config) → items_are_formed c ≡ true → (names : Names) → names_fit c names ≡ true → NamesKeep names
names_keep c items names fit = tables_keep c items names.tables (names_told c names fit).1

counts_of : (c : Config) → items_are_formed c ≡ true → (names : Option Names) → names_are_fit c names ≡ true → CountsFitNames names
counts_of c items None fit = tt
counts_of c items (Some names) fit = names_count c items names fit

pub names_counts_fit : (c : Config) → Formed c → CountsFitNames c.names
names_counts_fit c formed = counts_of c formed.items c.names formed.whole.names
