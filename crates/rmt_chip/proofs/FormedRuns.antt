-- The chip can run each configuration that keeps the rules of form of its items and the limits.
use Rattle.std.proofs.Common.{◌≡◌, ℕ, zero, suc, ◌+◌, ◌-◌, ◌*◌, ◌^◌, ◌<◌, ◌≤◌, Bool, true, ◌&&◌, ltb, leb, eqb, List, [], ◌∷◌, length, get_or, map, Some, None, lit<, refl, inl, inr, arith}
use Rattle.std.specs.Prelude.{IsTrue, IfSome, Option, count_by, slice_get, slice_index}
use Rattle.std.specs.List.{list_all, AllByRecursion}
use Rattle.std.specs.List.Sorted.{IsNonDecreasingBy}
use Rattle.std.proofs.lemmas.Bool.{ltb-true, leb-true, le-leb, eqb-true, cases_lt, and_parts, and_from}
use Rattle.std.proofs.lemmas.List.{length-map, get_or-map}
use Rattle.std.proofs.lemmas.List.Elements.{All-from_recursion, All-weaker}
use Rattle.std.proofs.lemmas.List.Sums.{AllPass-from_list_all}
use Rattle.std.proofs.lemmas.Option.{slice_get-get_or}
use Rattle.rmt_bits.specs.declared.lane.Lane.{Lane}
use Rattle.rmt_chip.specs.Types.{Config, OutHeader, ParserConfig, ParserState, ParserEntry, TailOf, Stage, Unit as ChipUnit, SlotUnit, Vliw, Operation, Source}
use Rattle.rmt_config.specs.declared.config.Unit.TheVariants.{Gate, Slot}
use Rattle.rmt_config.specs.declared.config.Source.TheVariants.{Word, Held, Constant}
use Rattle.rmt_config.specs.declared.form.code.InstructionRole.{InstructionRole}
use Rattle.rmt_config.specs.Order.{rises_from, never_falls_from}
use Rattle.rmt_config.specs.LaneForm.{is_lane_of, lane_is_formed, bits_of_lanes, header_is_formed, headers_are_formed, ports_are_formed}
use Rattle.rmt_config.specs.ParserForm.{next_is_formed, extract_is_formed, lookups_of, match_is_formed, entry_is_formed, states_are_formed, entries_are_formed, parser_is_formed}
use Rattle.rmt_config.specs.UnitForm.{guard_is_formed, number_is_formed, slot_head_is_formed, memory_is_formed, unit_is_formed}
use Rattle.rmt_config.specs.CodeForm.{places_of, source_is_formed, kind_is_formed, lane_of_operation, operation_is_formed, vliw_is_formed, code_is_formed}
use Rattle.rmt_config.specs.StageForm.{srow_fits, trow_fits, stage_is_formed, starts_are_formed, stages_are_formed}
use Rattle.rmt_config.specs.TailForm.{has_length_field, has_greatest_length, is_tail_of, tails_are_formed, tails_have_headers}
use Rattle.rmt_config.specs.Form.{items_are_formed}
use Rattle.rmt_config.specs.Resources.{is_slot, is_gate, unit_data}
use Rattle.rmt_config.specs.Limits.{last_start_hit, IsWithinLimits}
use Rattle.rmt_config.proofs.LimitLaws.{within, KeepsLimits, limits_kept}
use Rattle.rmt_ptcam.specs.Fitting.{IsEntry, IsTailOf, IsParser}
use Rattle.rmt_chip.specs.Runnable.{LaneFits, source_fits, OperationFits, InstructionFits, StageFits, start_of, StagesFit, HeaderFits, IsRunnable}
use Rattle.rmt_chip.proofs.ReadingLaws.{lane_fits, stage_reads}

-- ---- lanes

lane_of_fits : (len : ℕ) (lane : Lane) → is_lane_of len lane ≡ true → LaneFits lane
lane_of_fits len lane e = lane_fits lane (and_parts (lane_is_formed lane) (eqb lane.len len) e).0

lane_of_len : (len : ℕ) (lane : Lane) → is_lane_of len lane ≡ true → lane.len ≡ len
lane_of_len len lane e = eqb-true lane.len len (and_parts (lane_is_formed lane) (eqb lane.len len) e).1

-- ---- headers

header_fits : (h : OutHeader) → header_is_formed h ≡ true → HeaderFits h
header_fits h e =
    let valid = is_lane_of 1 h.valid in
    let least = leb 1 h.bytes in
    let most = leb h.bytes 64 in
    let few = ltb (length h.pieces) 256 in
    let lanes = list_all lane_is_formed h.pieces in
    let p = and_parts (valid && least && most && few && lanes) (eqb (bits_of_lanes h.pieces) (8 * h.bytes)) e in
    let q = and_parts (valid && least && most && few) lanes p.0 in
    let r = and_parts (valid && least && most) few q.0 in
    let t = and_parts (valid && least) most r.0 in
    record {
      valid = lane_of_fits 1 h.valid (and_parts valid least t.0).0;
      few_bytes = leb-true h.bytes 64 t.1;
      pieces = All-weaker _ LaneFits lane_fits h.pieces (AllPass-from_list_all lane_is_formed h.pieces q.1);
      whole = eqb-true (bits_of_lanes h.pieces) (8 * h.bytes) p.1;
    }

-- ---- the parser

falls_least : {X : Type 0} (f : X → ℕ) (least : ℕ) (xs : List X) → never_falls_from least (map f xs) ≡ true → (i : ℕ) (d : X) → i < length xs → least ≤ f (get_or xs i d)
falls_least f least [] e i d lt = absurd (omega (arith, lt))
falls_least f least (x ∷ xs) e zero d lt = leb-true least (f x) (and_parts (leb least (f x)) (never_falls_from (f x) (map f xs)) e).0
falls_least f least (x ∷ xs) e (suc i) d lt =
    let p = and_parts (leb least (f x)) (never_falls_from (f x) (map f xs)) e in
    let first : least ≤ f x = leb-true least (f x) p.0 in
    let rest : f x ≤ f (get_or xs i d) = falls_least f (f x) xs p.1 i d (omega (arith, lt)) in
    omega arith

never_falls : {X : Type 0} (f : X → ℕ) (least : ℕ) (xs : List X) → never_falls_from least (map f xs) ≡ true → IsNonDecreasingBy f xs
never_falls f least [] e i j d le lt = absurd (omega (arith, lt))
never_falls f least (x ∷ xs) e zero zero d le lt = omega arith
never_falls f least (x ∷ xs) e zero (suc j) d le lt = falls_least f (f x) xs (and_parts (leb least (f x)) (never_falls_from (f x) (map f xs)) e).1 j d (omega (arith, lt))
never_falls f least (x ∷ xs) e (suc i) zero d le lt = absurd (omega (arith, le))
never_falls f least (x ∷ xs) e (suc i) (suc j) d le lt = never_falls f (f x) xs (and_parts (leb least (f x)) (never_falls_from (f x) (map f xs)) e).1 i j d (omega (arith, le)) (omega (arith, lt))

-- numbers that never fall from one number on never fall from a smaller one on
over_lower : {X : Type 0} (f : X → ℕ) (least more : ℕ) (xs : List X) → least ≤ more → never_falls_from more (map f xs) ≡ true → never_falls_from least (map f xs) ≡ true
over_lower f least more [] le e = refl
over_lower f least more (x ∷ xs) le e =
    let p = and_parts (leb more (f x)) (never_falls_from (f x) (map f xs)) e in
    and_from (leb least (f x)) (never_falls_from (f x) (map f xs)) (le-leb least (f x) (let over : more ≤ f x = leb-true more (f x) p.0 in omega (arith, le, over))) p.1

-- what rises never falls
rises_over : {X : Type 0} (f : X → ℕ) (least : ℕ) (xs : List X) → rises_from least (map f xs) ≡ true → never_falls_from least (map f xs) ≡ true
rises_over f least [] e = refl
rises_over f least (x ∷ xs) e =
    let p = and_parts (leb least (f x)) (rises_from (f x + 1) (map f xs)) e in
    and_from (leb least (f x)) (never_falls_from (f x) (map f xs)) p.0 (over_lower f (f x) (f x + 1) xs (omega arith) (rises_over f (f x + 1) xs p.1))

rises_never_fall : {X : Type 0} (f : X → ℕ) (least : ℕ) (xs : List X) → rises_from least (map f xs) ≡ true → IsNonDecreasingBy f xs
rises_never_fall f least xs e = never_falls f least xs (rises_over f least xs e)

entry_fits : (states : List ParserState) (e : ParserEntry) → entry_is_formed states e ≡ true → IsEntry e
entry_fits states e formed =
    let front = ltb e.state (length states) && ltb e.state 256 && match_is_formed (lookups_of states e.state) e && ltb e.need 256 in
    let step = leb e.advance e.need in
    let next = next_is_formed (length states) e.state e.next in
    let few = ltb (length e.extracts) 256 in
    let p = and_parts (front && step && next && few) (list_all (extract_is_formed e.need) e.extracts) formed in
    let q = and_parts (front && step && next) few p.0 in
    let r = and_parts (front && step) next q.0 in
    record {
      advance = leb-true e.advance e.need (and_parts front step r.0).1;
      extracts = AllPass-from_list_all (extract_is_formed e.need) e.extracts p.1;
    }

-- a tail of an entry of this parser
abbrev is_formed_tail : ParserConfig → TailOf → Bool
is_formed_tail p t = is_tail_of t (slice_get p.entries t.entry)

-- the parts of the rules on a tail of an entry
tail_parts : (t : TailOf) (e : ParserEntry) → is_tail_of t (Some e) ≡ true → (t.header < 64) × (t.len ≤ 8) × (t.from + t.len ≤ 8 * e.need)
tail_parts t e formed =
    let of_64 = ltb t.header 64 in
    let field = has_length_field e t in
    let p = and_parts (of_64 && field && leb 1 t.unit && ltb t.unit 256 && ltb t.base 256 && has_greatest_length t) (eqb e.advance e.need) formed in
    let q = and_parts (of_64 && field && leb 1 t.unit && ltb t.unit 256 && ltb t.base 256) (has_greatest_length t) p.0 in
    let r = and_parts (of_64 && field && leb 1 t.unit && ltb t.unit 256) (ltb t.base 256) q.0 in
    let s = and_parts (of_64 && field && leb 1 t.unit) (ltb t.unit 256) r.0 in
    let u = and_parts (of_64 && field) (leb 1 t.unit) s.0 in
    let v = and_parts of_64 field u.0 in
    let w = and_parts (leb 1 t.len && leb t.len 8) (leb (t.from + t.len) (8 * e.need)) v.1 in
    (ltb-true t.header 64 v.0, leb-true t.len 8 (and_parts (leb 1 t.len) (leb t.len 8) w.0).1, leb-true (t.from + t.len) (8 * e.need) w.1)

tail_there : (t : TailOf) (e : Option ParserEntry) → is_tail_of t e ≡ true → (t.header < 64) × (t.len ≤ 8) × IfSome e (λ (x : ParserEntry). t.from + t.len ≤ 8 * x.need)
tail_there t None formed = absurd cc
tail_there t (Some e) formed = tail_parts t e formed

tail_fits : (p : ParserConfig) (t : TailOf) → is_formed_tail p t ≡ true → IsTailOf p t
tail_fits p t formed =
    let parts = tail_there t (slice_get p.entries t.entry) formed in
    record { header = parts.0; few_bits = parts.1; within = parts.2 }

parser_fits : (p : ParserConfig) → parser_is_formed p ≡ true → IsParser p
parser_fits p e =
    let states = states_are_formed p.states in
    let entries = entries_are_formed p in
    let tails = and_parts (states && entries) (tails_are_formed p) e in
    let few = ltb (length p.entries) 65536 in
    let each = list_all (entry_is_formed p.states) p.entries in
    let q = and_parts (few && each) (never_falls_from 0 (map (λ (e : ParserEntry). e.state) p.entries)) (and_parts states entries tails.0).1 in
    let all = AllPass-from_list_all (entry_is_formed p.states) p.entries (and_parts few each q.0).1 in
    let told = is_formed_tail p in
    let numbers : List ℕ = map (λ (t : TailOf). t.entry) p.tails in
    let rise = and_parts (rises_from 0 numbers && ltb (length p.tails) 65536) (list_all told p.tails) tails.1 in
    record {
      by_state = never_falls (λ (e : ParserEntry). e.state) 0 p.entries q.1;
      entries = All-weaker _ IsEntry (entry_fits p.states) p.entries all;
      by_entry = rises_never_fall (λ (t : TailOf). t.entry) 0 p.tails (and_parts (rises_from 0 numbers) (ltb (length p.tails) 65536) rise.0).0;
      tails = All-weaker _ (IsTailOf p) (tail_fits p) p.tails (AllPass-from_list_all told p.tails rise.1);
    }

-- ---- units

slot_is_short : (s : SlotUnit) → slot_head_is_formed s ≡ true → s.held < 65536
slot_is_short s e =
    let front = ltb s.node 256 && guard_is_formed s.guard && leb s.actions 14 in
    let held = ltb s.held 65536 in
    let keys = ltb (length s.keys) 65536 in
    let lanes = list_all lane_is_formed s.keys in
    let few = ltb (length s.numbers) (2 ^ 32) in
    let p = and_parts (front && held && keys && lanes && few) (list_all number_is_formed s.numbers) e in
    let q = and_parts (front && held && keys && lanes) few p.0 in
    let r = and_parts (front && held && keys) lanes q.0 in
    let t = and_parts (front && held) keys r.0 in
    ltb-true s.held 65536 (and_parts front held t.0).1

unit_is_short : (u : ChipUnit) → unit_is_formed u ≡ true → unit_data u < 65536
unit_is_short (Gate g) e = lit< tt
unit_is_short (Slot s) e = slot_is_short s (and_parts (slot_head_is_formed s) (memory_is_formed s s.memory) e).0

-- ---- instructions

rises_least : (least : ℕ) (ns : List ℕ) → rises_from least ns ≡ true → (i : ℕ) → i < length ns → least ≤ slice_index ns i
rises_least least [] e i lt = absurd (omega (arith, lt))
rises_least least (n ∷ ns) e zero lt = leb-true least n (and_parts (leb least n) (rises_from (n + 1) ns) e).0
rises_least least (n ∷ ns) e (suc i) lt =
    let p = and_parts (leb least n) (rises_from (n + 1) ns) e in
    let first : least ≤ n = leb-true least n p.0 in
    let rest : n + 1 ≤ slice_index ns i = rises_least (n + 1) ns p.1 i (omega (arith, lt)) in
    omega arith

rises_at : (least : ℕ) (ns : List ℕ) → rises_from least ns ≡ true → (i j : ℕ) → i < j → j < length ns → slice_index ns i < slice_index ns j
rises_at least [] e i j less lt = absurd (omega (arith, lt))
rises_at least (n ∷ ns) e i zero less lt = absurd (omega (arith, less))
rises_at least (n ∷ ns) e zero (suc j) less lt =
    let p = and_parts (leb least n) (rises_from (n + 1) ns) e in
    let rest : n + 1 ≤ slice_index ns j = rises_least (n + 1) ns p.1 j (omega (arith, lt)) in
    omega arith
rises_at least (n ∷ ns) e (suc i) (suc j) less lt =
    let p = and_parts (leb least n) (rises_from (n + 1) ns) e in
    rises_at (n + 1) ns p.1 i j (omega (arith, less)) (omega (arith, lt))

source_is_fit : (place : InstructionRole) (len : ℕ) (s : Source) → source_is_formed place len s ≡ true → source_fits len s ≡ true
source_is_fit place len (Word word low) e = e
source_is_fit place len (Held low) e = refl
source_is_fit place len (Constant value) e = e

operation_fits : (place : InstructionRole) (op : Operation) → operation_is_formed place op ≡ true → OperationFits op
operation_fits place op e =
    let lane = lane_is_formed (lane_of_operation op) in
    let left = source_is_formed place op.len op.left in
    let right = source_is_formed place op.len op.right in
    let p = and_parts (lane && left && right) (kind_is_formed op.kind op.right) e in
    let q = and_parts (lane && left) right p.0 in
    let r = and_parts lane left q.0 in
    let f = lane_fits (lane_of_operation op) r.0 in
    record {
      exists = f.exists;
      within = f.within;
      left_fits = source_is_fit place op.len op.left r.1;
      right_fits = source_is_fit place op.len op.right q.1;
    }

vliw_fits : (place : InstructionRole) (v : Vliw) → vliw_is_formed place v ≡ true → InstructionFits v
vliw_fits place v e =
    let few = ltb (length v.ops) 256 in
    let each = list_all (operation_is_formed place) v.ops in
    let words : List ℕ = map (λ (op : Operation). op.word) v.ops in
    let p = and_parts (few && each) (rises_from 0 words) e in
    record {
      each = All-weaker _ OperationFits (operation_fits place) v.ops (AllPass-from_list_all (operation_is_formed place) v.ops (and_parts few each p.0).1);
      rises = λ i j less lt. rises_at 0 words p.1 i j less (rw (length-map v.ops (λ (op : Operation). op.word)) lt);
    }

code_fits : (places : List InstructionRole) (code : List Vliw) → code_is_formed places code ≡ true → AllByRecursion InstructionFits code
code_fits [] [] e = tt
code_fits [] (v ∷ code) e = absurd cc
code_fits (place ∷ places) [] e = absurd cc
code_fits (place ∷ places) (v ∷ code) e =
    let p = and_parts (vliw_is_formed place v) (code_is_formed places code) e in
    (vliw_fits place v p.0, code_fits places code p.1)

-- ---- stages

-- the rules of a stage without those on its rows
stage_parts : (s : Stage) → stage_is_formed s ≡ true → (list_all unit_is_formed s.units ≡ true) × (code_is_formed (places_of s.units) s.code ≡ true)
stage_parts s e =
    let front = ltb s.start 65536 && ltb (length s.units) 256 in
    let each = list_all unit_is_formed s.units in
    let code = code_is_formed (places_of s.units) s.code in
    let few_srows = ltb (length s.srows) (2 ^ 32) in
    let srows = list_all srow_fits s.srows in
    let few_trows = ltb (length s.trows) (2 ^ 32) in
    let p = and_parts (front && each && code && few_srows && srows && few_trows) (list_all trow_fits s.trows) e in
    let q = and_parts (front && each && code && few_srows && srows) few_trows p.0 in
    let r = and_parts (front && each && code && few_srows) srows q.0 in
    let t = and_parts (front && each && code) few_srows r.0 in
    let u = and_parts (front && each) code t.0 in
    ((and_parts front each u.0).1, u.1)

stage_fits : (s : Stage) → stage_is_formed s ≡ true → count_by is_slot s.units ≤ 16 → count_by is_gate s.units ≤ 16 → StageFits s
stage_fits s e slots gates =
    let parts = stage_parts s e in
    record {
      reads = stage_reads s parts.0 slots gates;
      short = All-weaker _ (λ u. unit_data u < 65536) unit_is_short s.units (AllPass-from_list_all unit_is_formed s.units parts.0);
      code = All-from_recursion InstructionFits s.code (code_fits (places_of s.units) s.code parts.1);
    }

each_stage_fits : (ss : List Stage) → list_all stage_is_formed ss ≡ true → AllByRecursion (λ (s : Stage). count_by is_slot s.units ≤ 16) ss → AllByRecursion (λ (s : Stage). count_by is_gate s.units ≤ 16) ss → AllByRecursion StageFits ss
each_stage_fits [] each slots gates = tt
each_stage_fits (s ∷ ss) each slots gates =
    let q = and_parts (stage_is_formed s) (list_all stage_is_formed ss) each in
    (stage_fits s q.0 slots.0 gates.0, each_stage_fits ss q.1 slots.1 gates.1)

starts_rise : (ns : List ℕ) → starts_are_formed ns ≡ true → rises_from 0 ns ≡ true
starts_rise [] e = refl
starts_rise (n ∷ ns) e =
    let p = and_parts (eqb n 0) (rises_from 1 ns) e in
    let first : n ≡ 0 = eqb-true n 0 p.0 in
    rw first p.1

stages_rise : (ss : List Stage) → starts_are_formed (map (λ (s : Stage). s.start) ss) ≡ true → (j k : ℕ) → j < k → k < length ss → start_of ss j < start_of ss k
stages_rise ss e j k less lt =
    let starts : List ℕ = map (λ (s : Stage). s.start) ss in
    rises_at 0 starts (starts_rise starts e) j k less (rw (length-map ss (λ (s : Stage). s.start)) lt)

last_start : (ss : List Stage) (d : Stage) → 0 < length ss → last_start_hit ss ≡ None → start_of ss (length ss - 1) ≤ 372
last_start ss d some e =
    let below : length ss - 1 < length ss = omega arith in
    let found : slice_get ss (length ss - 1) ≡ Some (get_or ss (length ss - 1) d) = slice_get-get_or ss (length ss - 1) d below in
    let h = rw found at e in
    let fits : (get_or ss (length ss - 1) d).start ≤ 372 = within 372 16 (length ss - 1) (get_or ss (length ss - 1) d).start h in
    rw (get_or-map (λ (s : Stage). s.start) ss (length ss - 1) d 0 below) fits

upto_last : (ss : List Stage) → ((j k : ℕ) → j < k → k < length ss → start_of ss j < start_of ss k) → start_of ss (length ss - 1) ≤ 372
    → (k : ℕ) → k < length ss → start_of ss k ≤ 372
upto_last ss rise last k lt =
    elim (cases_lt k (length ss - 1)) [
      | inl less ↦ let before : start_of ss k < start_of ss (length ss - 1) = rise k (length ss - 1) less (omega arith) in omega arith
      | inr more ↦ let same : k ≡ length ss - 1 = omega arith in rw same last
    ]

starts_end : (ss : List Stage) → ((j k : ℕ) → j < k → k < length ss → start_of ss j < start_of ss k) → last_start_hit ss ≡ None
    → (k : ℕ) → k < length ss → start_of ss k ≤ 372
starts_end [] rise e k lt = absurd (omega (arith, lt))
starts_end (s ∷ ss) rise e k lt = upto_last (s ∷ ss) rise (last_start (s ∷ ss) s (omega arith) e) k lt

stages_fit : (c : Config) → stages_are_formed c.stages ≡ true → KeepsLimits c → StagesFit c.stages
stages_fit c e limits =
    let few = ltb (length c.stages) 256 in
    let each = list_all stage_is_formed c.stages in
    let p = and_parts (few && each) (starts_are_formed (map (λ (s : Stage). s.start) c.stages)) e in
    let q = and_parts few each p.0 in
    record {
      few = limits.stages;
      rise = stages_rise c.stages p.1;
      last = starts_end c.stages (stages_rise c.stages p.1) limits.last_start;
      each = All-from_recursion StageFits c.stages (each_stage_fits c.stages q.1 limits.slots limits.gates);
    }

-- ---- all of it

pub runnable : (c : Config) → IsTrue (items_are_formed c) → IsWithinLimits c → IsRunnable c
runnable c formed limits =
    let in_port = is_lane_of 9 c.in_port in
    let out_port = is_lane_of 9 c.out_port in
    let drop = is_lane_of 1 c.drop in
    let ports = ports_are_formed c in
    let headers = headers_are_formed c.headers in
    let parser = parser_is_formed c.parser in
    let a = and_parts (ports && headers && parser && tails_have_headers c) (stages_are_formed c.stages) formed in
    let tailed = and_parts (ports && headers && parser) (tails_have_headers c) a.0 in
    let b = and_parts (ports && headers) parser tailed.0 in
    let d = and_parts ports headers b.0 in
    let drops = and_parts (ltb c.seed 256 && in_port && out_port) drop d.0 in
    let outs = and_parts (ltb c.seed 256 && in_port) out_port drops.0 in
    let ins = and_parts (ltb c.seed 256) in_port outs.0 in
    let few_headers = and_parts (leb (length c.headers) 64) (list_all header_is_formed c.headers) d.1 in
    record {
      in_port = lane_of_fits 9 c.in_port ins.1;
      port_bits = lane_of_len 9 c.in_port ins.1;
      out_port = lane_of_fits 9 c.out_port outs.1;
      out_bits = lane_of_len 9 c.out_port outs.1;
      drop = lane_of_fits 1 c.drop drops.1;
      few_headers = leb-true (length c.headers) 64 few_headers.0;
      headers = All-weaker _ HeaderFits header_fits c.headers (AllPass-from_list_all header_is_formed c.headers few_headers.1);
      parser = parser_fits c.parser b.1;
      stages = stages_fit c a.1 (limits_kept c limits);
    }
