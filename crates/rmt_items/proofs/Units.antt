-- The units of a stage in an image: each is read as it is spelled.
use Rattle.std.proofs.Common.{◌≡◌, ℕ, zero, suc, ◌^◌, ◌<◌, ◌≤◌, true, false, not, ◌&&◌, ltb, leb, eqb, List, [], ◌∷◌, ◌++◌, length, replicate, Option, Some, None, refl, sym, ap, ◌∙◌, append_assoc, arith, inl, inr, ◌⊎◌}
use Rattle.std.specs.List.{flat_map, list_all}
use Rattle.std.specs.Prelude.{bit_and}
use Rattle.std.proofs.lemmas.Bool.{ltb-true, eqb-true, leb-true, and_parts, and_from}
use Rattle.std.proofs.lemmas.Nat.{and_le_r}
use Rattle.std.proofs.Math.Pow.{pow_mono}
use Rattle.rmt_items.specs.Types.{Unit as ChipUnit, GateUnit, GateTest, UnitGuard, SlotUnit, CellNumber, Memory}
use Rattle.rmt_config.specs.declared.config.Unit.TheVariants.{Gate, Slot}
use Rattle.rmt_config.specs.declared.config.Memory.TheVariants.{Without, Exact, Ternary}
use Rattle.rmt_config.specs.LaneForm.{lane_is_formed, bits_of_lanes}
use Rattle.rmt_config.specs.BlockCounts.{ternary_block_counts}
use Rattle.rmt_config.specs.declared.form.block_counts.BlockCounts.{BlockCounts}
use Rattle.rmt_config.specs.UnitForm.{guard_is_formed, test_is_formed, gate_is_formed, number_is_formed, slot_head_is_formed, takes_memory, are_sram_blocks, has_block_counts, may_have_memory, memory_is_formed, slot_is_formed, unit_is_formed}
use Rattle.rmt_config.specs.CodeForm.{unit_places, places_of}
use Rattle.rmt_config.specs.declared.form.code.InstructionRole.{InstructionRole}
use Rattle.rmt_config.specs.Spelling.{two_bytes, spelled_list16, spelled_list32, spelled_flag, spelled_lane, spelled_guard, spelled_test, spelled_gate, spelled_memory, spelled_number, spelled_slot_head, spelled_slot, spelled_unit}
use Rattle.rmt_items.specs.declared.reading.memory.Blocks.{Blocks}
use Rattle.rmt_items.specs.declared.reading.memory.ExactFormat.{ExactFormat}
use Rattle.rmt_items.specs.Readers.{list_at, at_most, at_least, below}
use Rattle.rmt_items.specs.Reading.{no_guard, guard_of_parts, mask_is_even, guard_at, test_of_parts, test_fits, test_at, gate_of_parts, gate_at, SlotHead, marks_of_parts, marks_at, slot_of_head, slot_keys_at, slot_head_at, block_at, blocks_of_parts, blocks_at, quanta_fit, cells_fit, format_of_parts, exact_format_at, format_at, format_block_counts, exact_at, ternary_at, without, exact_of_parts, ternary_of_parts, memory_at, may_have_numbers, number_of_parts, cell_number_at, numbers_at, slot_of_parts, slot_at, unit_at}
use Rattle.rmt_bits.proofs.TestLaws.{split2, split3, split5, split8, split11}
use Rattle.rmt_items.proofs.Codec.{Codec, codec_for, codec_kept, codec_where, codec_behind, codec_made, codec_give, choices_none, choices_when, codec_chosen, codec_listed, byte_codec, two_codec, four_codec, fours_codec, codec_as, codec_list, alone}
use Rattle.rmt_items.proofs.Items.{codec_byte, flag_codec, lane_tests, lane_codec}

-- ---- guards

abbrev GuardFrom : ℕ → Option UnitGuard → Type 0
GuardFrom k None = k ≡ 0
GuardFrom k (Some g) = (g.mask < 2 ^ 16) × (mask_is_even g.mask ≡ true)

guard_0 : (x : Option UnitGuard) → GuardFrom 0 x → ((a : Unit {0}) × (no_guard a ≡ x) × (a ≡ tt)) ⊎ GuardFrom 1 x
guard_0 None p = inl (tt, refl, refl)
guard_0 (Some g) p = inr p

guard_1 : (x : Option UnitGuard) → GuardFrom 1 x → ((a : ℕ × ℕ) × (guard_of_parts a ≡ x) × (Unit {0} × ((a.1 < 2 ^ 16) × (mask_is_even a.1 ≡ true)))) ⊎ ⊥
guard_1 None p = absurd (omega (arith, p))
guard_1 (Some g) p = inl ((g.parent, g.mask), refl, (tt, p))

guard_from : (x : Option UnitGuard) → guard_is_formed x ≡ true → GuardFrom 0 x
guard_from None p = refl
guard_from (Some g) p = let q = split3 p in (ltb-true g.mask 65536 q.1, q.2)

pub guard_codec : Codec guard_at spelled_guard (λ x. guard_is_formed x ≡ true) (λ _. Unit {0})
unfolding guard_at
guard_codec =
    codec_for
    (codec_chosen
    (choices_when 0 no_guard (codec_give tt (λ _. []) refl)
    (choices_when 1 guard_of_parts (codec_behind byte_codec (λ _. codec_kept mask_is_even two_codec)) (choices_none spelled_guard 2) (λ a. refl) (GuardFrom 1) guard_1)
    (λ a. refl) (GuardFrom 0) guard_0))
    (λ x. guard_is_formed x ≡ true) guard_from

-- ---- gates

-- a mask of at most 32 bits fits its place, and so does a value within it
test_back : (t : GateTest) → test_is_formed t ≡ true → ((lane_is_formed t.lane ≡ true) × ((t.value < 2 ^ 32) × (t.mask < 2 ^ 32))) × (test_fits t ≡ true)
test_back t formed =
    let p : (lane_is_formed t.lane ≡ true) × (ltb t.mask (2 ^ t.lane.len) ≡ true) × (eqb (bit_and t.value t.mask) t.value ≡ true) = split3 formed in
    let l = lane_tests t.lane p.0 in
    let top : 2 ^ t.lane.len ≤ 2 ^ 32 = pow_mono (leb-true t.lane.len 32 l.2) in
    let mask : t.mask < 2 ^ 32 = omega (arith, top, ltb-true t.mask (2 ^ t.lane.len) p.1) in
    let value : t.value < 2 ^ 32 = omega (arith, mask, eqb-true (bit_and t.value t.mask) t.value p.2, and_le_r t.value t.mask) in
    ((p.0, (value, mask)), and_from _ _ p.1 p.2)

test_codec : Codec test_at spelled_test (λ t. test_is_formed t ≡ true) (λ _. Unit {0})
unfolding test_at
test_codec =
    codec_for (codec_kept test_fits
    (codec_made test_of_parts (codec_behind lane_codec (λ _. fours_codec)) spelled_test
    (λ t. (lane_is_formed t.lane ≡ true) × ((t.value < 2 ^ 32) × (t.mask < 2 ^ 32))) (λ a r. refl) (λ t q. ((t.lane, (t.value, t.mask)), refl, refl, q))))
    (λ t. test_is_formed t ≡ true) test_back

gate_text : (a : ℕ × (Option UnitGuard × List GateTest)) → (a.0 ∷ []) ++ (spelled_guard a.1.0 ++ ((length a.1.1 ∷ []) ++ flat_map spelled_test a.1.1)) ≡ spelled_gate (gate_of_parts a)
gate_text a = refl

pub gate_codec : Codec gate_at spelled_gate (λ g. gate_is_formed g ≡ true) (λ _. Unit {0})
unfolding gate_at
gate_codec =
    codec_made gate_of_parts
    (codec_behind byte_codec (λ _. codec_behind guard_codec (λ _. codec_listed (codec_byte (at_least 1)) (codec_list test_is_formed test_codec))))
    spelled_gate (λ g. gate_is_formed g ≡ true) (λ a r. gate_text a)
    (λ g formed. let p = split5 formed in let a : ℕ × (Option UnitGuard × List GateTest) = (g.node, (g.guard, g.tests)) in (a, refl, gate_text a, (tt, (p.1, (p.2, p.4)))))

-- ---- slots before their memory

marks_codec : Codec marks_at (λ x. spelled_flag x.counted ∷ x.actions ∷ spelled_flag x.last ∷ []) (λ x. at_most 14 x.actions ≡ true) (λ _. Unit {0})
unfolding marks_at
marks_codec =
    codec_made marks_of_parts (codec_behind flag_codec (λ _. codec_behind (codec_byte (at_most 14)) (λ _. flag_codec)))
    (λ x. spelled_flag x.counted ∷ x.actions ∷ spelled_flag x.last ∷ []) (λ x. at_most 14 x.actions ≡ true) (λ a r. refl)
    (λ x q. ((x.counted, (x.actions, x.last)), refl, refl, (tt, (q, tt))))

abbrev head_text : SlotUnit → List ℕ
head_text s = spelled_slot_head s ++ spelled_list16 spelled_lane s.keys

-- what is asked of a slot before its memory
abbrev HeadKeeps : SlotUnit → Type 0
HeadKeeps s = (guard_is_formed s.guard ≡ true) × (at_most 14 s.actions ≡ true) × (s.held < 2 ^ 16) × (length s.keys < 2 ^ 16) × (list_all lane_is_formed s.keys ≡ true)

abbrev head_parts : SlotUnit → SlotHead
head_parts s = ((s.node, s.guard), (record { counted = s.counted; actions = s.actions; last = s.last }, (s.held, s.keys)))

head_same : (x : SlotHead)
    → ((x.0.0 ∷ []) ++ spelled_guard x.0.1) ++ ((spelled_flag x.1.0.counted ∷ x.1.0.actions ∷ spelled_flag x.1.0.last ∷ []) ++ (two_bytes x.1.1.0 ++ (two_bytes (length x.1.1.1) ++ flat_map spelled_lane x.1.1.1)))
    ≡ head_text (slot_of_head x)
head_same x =
    let marks : List ℕ = spelled_flag x.1.0.counted ∷ x.1.0.actions ∷ spelled_flag x.1.0.last ∷ two_bytes x.1.1.0 in
    let keys : List ℕ = spelled_list16 spelled_lane x.1.1.1 in
    sym (append_assoc (x.0.0 ∷ spelled_guard x.0.1) marks keys)

slot_head_codec : Codec slot_head_at head_text (λ s. HeadKeeps s × (slot_of_head (head_parts s) ≡ s)) (λ _. Unit {0})
unfolding slot_head_at slot_keys_at
slot_head_codec =
    codec_made slot_of_head
    (codec_behind (codec_behind byte_codec (λ _. guard_codec)) (λ _. codec_behind marks_codec (λ _. codec_behind two_codec (λ _. codec_listed two_codec (codec_list lane_is_formed lane_codec)))))
    head_text (λ s. HeadKeeps s × (slot_of_head (head_parts s) ≡ s)) (λ a r. head_same a)
    (λ s q.
    let k = q.0 in
    (head_parts s, q.1, head_same (head_parts s) ∙ ap head_text q.1, ((tt, k.0), (k.1, (k.2, (k.3, k.4))))))

-- ---- memory

block_list_codec : (most n : ℕ) → Codec (list_at (block_at most) n) (λ bs. bs) (λ bs. (length bs ≡ n) × (list_all (λ b. ltb b most) bs ≡ true)) (λ _. Unit {0})
unfolding block_at
block_list_codec most n =
    codec_as (codec_list (λ b. ltb b most) (codec_byte (below most)) n) (λ bs. bs) (λ bs. (length bs ≡ n) × (list_all (λ b. ltb b most) bs ≡ true)) (λ _. Unit {0}) alone (λ bs q. q) (λ _ _. tt)

-- lists of blocks of these counts
abbrev BlocksKeep : ℕ → BlockCounts → Blocks → Type 0
BlocksKeep most counts x =
    ((length x.keys ≡ counts.keys) × (list_all (λ b. ltb b most) x.keys ≡ true))
    × (((length x.records ≡ counts.records) × (list_all (λ b. ltb b 106) x.records ≡ true))
    × ((length x.counters ≡ counts.counters) × (list_all (λ b. ltb b 106) x.counters ≡ true)))

abbrev blocks_text : Blocks → List ℕ
blocks_text x = x.keys ++ x.records ++ x.counters

blocks_codec : (most : ℕ) (counts : BlockCounts) → Codec (blocks_at most counts) blocks_text (BlocksKeep most counts) (λ _. Unit {0})
unfolding blocks_at
blocks_codec most counts =
    codec_made blocks_of_parts
    (codec_behind (block_list_codec most counts.keys) (λ _. codec_behind (block_list_codec 106 counts.records) (λ _. block_list_codec 106 counts.counters)))
    blocks_text (BlocksKeep most counts) (λ a r. sym (append_assoc a.0 a.1.0 a.1.1))
    (λ x q. ((x.keys, (x.records, x.counters)), refl, sym (append_assoc x.keys x.records x.counters), q))

abbrev blocks_are : List ℕ → List ℕ → List ℕ → Blocks
blocks_are keys records counters = record { keys = keys; records = records; counters = counters }

blocks_keep : (most : ℕ) (counts : BlockCounts) (keys records counters : List ℕ) → has_block_counts counts keys records counters ≡ true
    → list_all (λ b. ltb b most) keys ≡ true → are_sram_blocks records ≡ true → are_sram_blocks counters ≡ true → BlocksKeep most counts (blocks_are keys records counters)
blocks_keep most counts keys records counters lengths k r c =
    let p = split3 lengths in
    ((eqb-true (length keys) counts.keys p.0, k), ((eqb-true (length records) counts.records p.1, r), (eqb-true (length counters) counts.counters p.2, c)))

abbrev FormatKeeps : SlotUnit → ExactFormat → Type 0
FormatKeeps s f =
    (at_least 1 f.width ≡ true)
    × (((f.per < 2 ^ 16) × (cells_fit (bits_of_lanes s.keys) f.width f.per ≡ true)) × ((quanta_fit f.quanta ≡ true) × Unit {0}))

abbrev format_text : ExactFormat → List ℕ
format_text f = f.width ∷ (two_bytes f.per ++ (f.quanta ∷ f.first_way ∷ []))

format_codec : (s : SlotUnit) → Codec (format_at s) format_text (FormatKeeps s) (λ _. Unit {0})
unfolding format_at exact_format_at
format_codec s =
    codec_made format_of_parts
    (codec_behind (codec_byte (at_least 1)) (λ width. codec_behind (codec_kept (cells_fit (bits_of_lanes s.keys) width) two_codec) (λ _. codec_behind (codec_byte quanta_fit) (λ _. byte_codec))))
    format_text (FormatKeeps s) (λ a r. refl) (λ f q. ((f.width, (f.per, (f.quanta, f.first_way))), refl, refl, q))

abbrev format_is : ℕ → ℕ → ℕ → ℕ → ExactFormat
format_is width per quanta first_way = record { width = width; per = per; quanta = quanta; first_way = first_way }

abbrev ExactKeeps : SlotUnit → ExactFormat × Blocks → Type 0
ExactKeeps s x = (takes_memory s ≡ true) × (FormatKeeps s x.0 × BlocksKeep 106 (format_block_counts s x.0) x.1)

exact_codec : (s : SlotUnit) → Codec (exact_at s) (λ x. format_text x.0 ++ blocks_text x.1) (ExactKeeps s) (λ _. Unit {0})
unfolding exact_at
exact_codec s =
    codec_for (codec_where (takes_memory s) (codec_behind (format_codec s) (λ f. blocks_codec 106 (format_block_counts s f)))) (ExactKeeps s) (λ x q. q)

abbrev ternary_form : SlotUnit → ℕ → BlockCounts
ternary_form s quanta = ternary_block_counts (bits_of_lanes s.keys) quanta s.held s.counted

abbrev TernaryKeeps : SlotUnit → ℕ × Blocks → Type 0
TernaryKeeps s x = (takes_memory s ≡ true) × ((quanta_fit x.0 ≡ true) × BlocksKeep 16 (ternary_form s x.0) x.1)

ternary_codec : (s : SlotUnit) → Codec (ternary_at s) (λ x. (x.0 ∷ []) ++ blocks_text x.1) (TernaryKeeps s) (λ _. Unit {0})
unfolding ternary_at
ternary_codec s =
    codec_for (codec_where (takes_memory s) (codec_behind (codec_byte quanta_fit) (λ quanta. blocks_codec 16 (ternary_form s quanta)))) (TernaryKeeps s) (λ x q. q)

-- a memory that a choice byte from k on can tell
abbrev MemoryFrom : SlotUnit → ℕ → Memory → Type 0
MemoryFrom s k Without = (k ≡ 0) × (memory_is_formed s Without ≡ true)
MemoryFrom s k (Exact width per quanta first_way keys records counters) = (k ≤ 1) × ExactKeeps s (format_is width per quanta first_way, blocks_are keys records counters)
MemoryFrom s k (Ternary quanta keys records counters) = TernaryKeeps s (quanta, blocks_are keys records counters)

memory_0 : (s : SlotUnit) (m : Memory) → MemoryFrom s 0 m → ((a : Unit {0}) × (without a ≡ m) × ((memory_is_formed s Without ≡ true) × (a ≡ tt))) ⊎ MemoryFrom s 1 m
memory_0 s Without p = inl (tt, refl, (p.1, refl))
memory_0 s (Exact width per quanta first_way keys records counters) p = inr (omega arith, p.1)
memory_0 s (Ternary quanta keys records counters) p = inr p

memory_1 : (s : SlotUnit) (m : Memory) → MemoryFrom s 1 m → ((a : ExactFormat × Blocks) × (exact_of_parts a ≡ m) × ExactKeeps s a) ⊎ MemoryFrom s 2 m
memory_1 s Without p = absurd (omega (arith, p.0))
memory_1 s (Exact width per quanta first_way keys records counters) p = inl ((format_is width per quanta first_way, blocks_are keys records counters), refl, p.1)
memory_1 s (Ternary quanta keys records counters) p = inr p

memory_2 : (s : SlotUnit) (m : Memory) → MemoryFrom s 2 m → ((a : ℕ × Blocks) × (ternary_of_parts a ≡ m) × TernaryKeeps s a) ⊎ ⊥
memory_2 s Without p = absurd (omega (arith, p.0))
memory_2 s (Exact width per quanta first_way keys records counters) p = absurd (omega (arith, p.0))
memory_2 s (Ternary quanta keys records counters) p = inl ((quanta, blocks_are keys records counters), refl, p)

memory_codec : (s : SlotUnit) → Codec (memory_at s) spelled_memory (MemoryFrom s 0) (λ _. Unit {0})
unfolding memory_at
memory_codec s =
    codec_chosen
    (choices_when 0 without (codec_where (memory_is_formed s Without) (codec_give tt (λ _. []) refl))
    (choices_when 1 exact_of_parts (exact_codec s)
    (choices_when 2 ternary_of_parts (ternary_codec s) (choices_none spelled_memory 3) (λ a. refl) (MemoryFrom s 2) (memory_2 s))
    (λ a. refl) (MemoryFrom s 1) (memory_1 s))
    (λ a. refl) (MemoryFrom s 0) (memory_0 s))

-- what a slot's memory needs, and the number of quanta
may_have : (s : SlotUnit) (quanta : ℕ) → may_have_memory s quanta ≡ true → (takes_memory s ≡ true) × (quanta_fit quanta ≡ true)
may_have s quanta e =
    let p : (leb 1 (length s.keys) ≡ true) × (leb (bits_of_lanes s.keys) 640 ≡ true) × (leb 1 s.actions ≡ true) × (leb 1 quanta ≡ true) × (leb quanta 106 ≡ true) = split5 e in
    (and_from _ _ (and_from _ _ p.0 p.1) p.2, and_from _ _ p.3 p.4)

memory_from : (s : SlotUnit) (m : Memory) → memory_is_formed s m ≡ true → MemoryFrom s 0 m
memory_from s Without e = (refl, e)
memory_from s (Exact width per quanta first_way keys records counters) e =
    let p = split11 e in
    let q = may_have s quanta p.0 in
    let format = format_is width per quanta first_way in
    (omega arith, (q.0, ((p.1, ((ltb-true per 65536 p.4, and_from _ _ p.3 p.6), (q.1, tt))), blocks_keep 106 (format_block_counts s format) keys records counters p.7 p.8 p.9 p.10)))
memory_from s (Ternary quanta keys records counters) e =
    let p = split5 e in
    let q = may_have s quanta p.0 in
    (q.0, (q.1, blocks_keep 16 (ternary_form s quanta) keys records counters p.1 p.2 p.3 p.4))

-- ---- slots

cell_number_codec : Codec cell_number_at spelled_number (λ n. number_is_formed n ≡ true) (λ _. Unit {0})
unfolding cell_number_at
cell_number_codec =
    codec_made number_of_parts fours_codec spelled_number (λ n. number_is_formed n ≡ true) (λ a r. refl)
    (λ n q. let p = split2 q in ((n.cell, n.number), refl, refl, (ltb-true n.cell (2 ^ 32) p.0, ltb-true n.number (2 ^ 32) p.1)))

abbrev NumbersKeep : Memory → List CellNumber → Type 0
NumbersKeep m ns = ((length ns < 2 ^ 32) × (may_have_numbers m (length ns) ≡ true)) × (list_all number_is_formed ns ≡ true)

numbers_codec : (m : Memory) → Codec (numbers_at m) (spelled_list32 spelled_number) (NumbersKeep m) (λ _. Unit {0})
unfolding numbers_at
numbers_codec m = codec_for (codec_listed (codec_kept (may_have_numbers m) four_codec) (codec_list number_is_formed cell_number_codec)) (NumbersKeep m) (λ ns q. q)

-- a slot before its memory
abbrev head_of : SlotUnit → SlotUnit
head_of s = slot_of_head (head_parts s)

few_numbers : (s : SlotUnit) (m : Memory) → memory_is_formed s m ≡ true → may_have_numbers m (length s.numbers) ≡ true
few_numbers s Without e = (and_parts (not s.counted && eqb s.actions 0 && s.last && eqb s.held 0 && eqb (length s.keys) 0) (eqb (length s.numbers) 0) e).1
few_numbers s (Exact width per quanta first_way keys records counters) e = refl
few_numbers s (Ternary quanta keys records counters) e = refl

-- a slot's memory before its numbers are read
head_memory : (s : SlotUnit) (m : Memory) → memory_is_formed s m ≡ true → memory_is_formed (head_of s) m ≡ true
head_memory s Without e = and_from _ _ (and_parts (not s.counted && eqb s.actions 0 && s.last && eqb s.held 0 && eqb (length s.keys) 0) (eqb (length s.numbers) 0) e).0 refl
head_memory s (Exact width per quanta first_way keys records counters) e = e
head_memory s (Ternary quanta keys records counters) e = e

slot_text : (a : SlotUnit × (Memory × List CellNumber)) → head_text a.0 ++ (spelled_memory a.1.0 ++ spelled_list32 spelled_number a.1.1) ≡ spelled_slot (slot_of_parts a)
slot_text a = sym (append_assoc (head_text a.0) (spelled_memory a.1.0) (spelled_list32 spelled_number a.1.1))

slot_back : (s : SlotUnit) → slot_is_formed s ≡ true → (HeadKeeps (head_of s) × (slot_of_head (head_parts (head_of s)) ≡ head_of s)) × (MemoryFrom (head_of s) 0 s.memory × NumbersKeep s.memory s.numbers)
slot_back s formed =
    let p = split2 formed in
    let h = split8 p.0 in (
      ((h.1, h.2, ltb-true s.held 65536 h.3, ltb-true (length s.keys) 65536 h.4, h.5), refl),
      (memory_from (head_of s) s.memory (head_memory s s.memory p.1), ((ltb-true (length s.numbers) (2 ^ 32) h.6, few_numbers s s.memory p.1), h.7)),
    )

pub slot_codec : Codec slot_at spelled_slot (λ s. slot_is_formed s ≡ true) (λ _. Unit {0})
unfolding slot_at
slot_codec =
    codec_made slot_of_parts (codec_behind slot_head_codec (λ s. codec_behind (memory_codec s) numbers_codec)) spelled_slot (λ s. slot_is_formed s ≡ true)
    (λ a r. slot_text a)
    (λ s formed. let a : SlotUnit × (Memory × List CellNumber) = (head_of s, (s.memory, s.numbers)) in (a, refl, slot_text a, slot_back s formed))

-- ---- units

abbrev UnitFrom : ℕ → ChipUnit → Type 0
UnitFrom k (Gate g) = (k ≡ 0) × (gate_is_formed g ≡ true)
UnitFrom k (Slot s) = slot_is_formed s ≡ true

unit_0 : (u : ChipUnit) → UnitFrom 0 u → ((a : GateUnit) × (Gate a ≡ u) × (gate_is_formed a ≡ true)) ⊎ UnitFrom 1 u
unit_0 (Gate g) p = inl (g, refl, p.1)
unit_0 (Slot s) p = inr p

unit_1 : (u : ChipUnit) → UnitFrom 1 u → ((a : SlotUnit) × (Slot a ≡ u) × (slot_is_formed a ≡ true)) ⊎ ⊥
unit_1 (Gate g) p = absurd (omega (arith, p.0))
unit_1 (Slot s) p = inl (s, refl, p)

unit_from : (u : ChipUnit) → unit_is_formed u ≡ true → UnitFrom 0 u
unit_from (Gate g) p = (refl, p)
unit_from (Slot s) p = p

pub unit_codec : Codec unit_at spelled_unit (λ u. unit_is_formed u ≡ true) (λ _. Unit {0})
unfolding unit_at
unit_codec =
    codec_for
    (codec_chosen
    (choices_when 0 Gate gate_codec
    (choices_when 1 Slot slot_codec (choices_none spelled_unit 2) (λ a. refl) (UnitFrom 1) unit_1)
    (λ a. refl) (UnitFrom 0) unit_0))
    (λ u. unit_is_formed u ≡ true) unit_from

-- ---- what a unit that keeps the rules has

slot_held : (s : SlotUnit) → slot_is_formed s ≡ true → s.held < 2 ^ 16
slot_held s e =
    let h : (ltb s.node 256 ≡ true) × (guard_is_formed s.guard ≡ true) × (leb s.actions 14 ≡ true) × (ltb s.held 65536 ≡ true) × (ltb (length s.keys) 65536 ≡ true)
    × (list_all lane_is_formed s.keys ≡ true) × (ltb (length s.numbers) (2 ^ 32) ≡ true) × (list_all number_is_formed s.numbers ≡ true) =
    split8 (and_parts (slot_head_is_formed s) (memory_is_formed s s.memory) e).0 in
    ltb-true s.held 65536 h.3

-- places whose data has fewer than 65,536 bits
abbrev pub AreSmall : List InstructionRole → Type 0
AreSmall [] = Unit {0}
AreSmall (p ∷ ps) = (p.held < 2 ^ 16) × AreSmall ps

small_own : (held n : ℕ) (more : List InstructionRole) → held < 2 ^ 16 → AreSmall more → AreSmall (replicate n (record { held = held; is_default = false }) ++ more)
small_own held zero more lt rest = rest
small_own held (suc n) more lt rest = (lt, small_own held n more lt rest)

small_append : (ps qs : List InstructionRole) → AreSmall ps → AreSmall qs → AreSmall (ps ++ qs)
small_append [] qs p q = q
small_append (x ∷ ps) qs p q = (p.0, small_append ps qs p.1 q)

small_unit : (u : ChipUnit) → unit_is_formed u ≡ true → AreSmall (unit_places u)
small_unit (Gate g) e = tt
small_unit (Slot s) e =
    let lt = slot_held s e in
    small_own s.held s.actions (record { held = s.held; is_default = true } ∷ []) lt (lt, tt)

pub small_places : (us : List ChipUnit) → list_all unit_is_formed us ≡ true → AreSmall (places_of us)
small_places [] e = tt
small_places (u ∷ us) e =
    let p = and_parts (unit_is_formed u) (list_all unit_is_formed us) e in
    small_append (unit_places u) (places_of us) (small_unit u p.0) (small_places us p.1)
