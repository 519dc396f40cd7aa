-- The code and the rows of a stage, and stages: each is read as it is spelled.
use Rattle.std.proofs.Common.{◌≡◌, ℕ, zero, suc, ◌+◌, ◌^◌, ◌<◌, ◌≤◌, true, not, ◌&&◌, ltb, leb, eqb, List, [], ◌∷◌, ◌++◌, length, map, refl, sym, ap, ◌∙◌, append_assoc, arith, inl, inr, ◌⊎◌}
use Rattle.std.specs.List.{flat_map, list_all, AllZip}
use Rattle.std.proofs.lemmas.Bool.{ltb-true, eqb-true, leb-true, le-leb, ne_eqb, and_parts, and_from, cond-false}
use Rattle.std.proofs.Math.Pow.{pow_mono}
use Rattle.rmt_bits.specs.Bits.{bytes_of}
use Rattle.rmt_bits.specs.Words.{word_size}
use Rattle.rmt_bits.specs.declared.lane.Lane.{Lane}
use Rattle.rmt_items.specs.Types.{Stage, SramRow, TcamRow, Vliw, Operation, OpKind, Source}
use Rattle.rmt_config.specs.declared.config.OpKind.TheVariants as kind
use Rattle.rmt_config.specs.declared.config.Source.TheVariants.{Word, Held, Constant}
use Rattle.rmt_config.specs.Order.{rises_from}
use Rattle.rmt_config.specs.LaneForm.{lane_is_formed}
use Rattle.rmt_config.specs.UnitForm.{unit_is_formed}
use Rattle.rmt_config.specs.StageForm.{srow_fits, trow_fits, stage_is_formed, starts_are_formed, stages_are_formed}
use Rattle.rmt_config.specs.CodeForm.{places_of, source_is_formed, kind_is_formed, lane_of_operation, operation_is_formed, vliw_is_formed, code_is_formed}
use Rattle.rmt_config.specs.declared.form.code.InstructionRole.{InstructionRole}
use Rattle.rmt_config.specs.Spelling.{two_bytes, spelled_list8, spelled_list32, spelled_unit, spelled_kind, spelled_source, spelled_operation, spelled_vliw, spelled_srow, spelled_trow, spelled_stage}
use Rattle.rmt_items.specs.Readers.{listed, items_at, each, byte_at, number_at, at_most, below}
use Rattle.rmt_items.specs.Reading.{word_of_parts, fits_word, fits_held, source_at, kind_of, kind_at, operation_of_parts, kind_fits, operation_at, next_word, vliw_of_parts, vliw_at, block_at, srow_of_parts, srow_at, trow_of_parts, trow_at, start_fits, StageHead, stage_head_at, StageTail, stage_tail_at, stage_of_parts, stage_at, next_start}
use Rattle.rmt_bits.proofs.TestLaws.{split3, split4, split8}
use Rattle.rmt_items.proofs.Codec.{Codec, codec_for, codec_kept, codec_where, codec_behind, codec_made, choices_none, choices_when, codec_chosen, AllAlong, codec_items, codec_listed, codec_each, byte_codec, two_codec, four_codec, codec_number, codec_list, rising_along}
use Rattle.rmt_items.proofs.Units.{unit_codec, AreSmall, small_places}
use Rattle.rmt_items.proofs.Items.{codec_byte, word_codec, lane_from_codec, lane_tests}

-- ---- sources

-- what a source of at most 32 bits keeps, that a choice byte from k on can tell, at a place whose data has fewer than 65,536 bits
abbrev SourceTest : InstructionRole → ℕ → ℕ → Source → Type 0
SourceTest place len k (Word word low) = (k ≡ 0) × ((ltb word 224 && leb (low + len) (word_size word)) ≡ true)
SourceTest place len k (Held low) = (k ≤ 1) × ((not place.is_default && leb (low + len) place.held) ≡ true)
SourceTest place len k (Constant value) = ltb value (2 ^ len) ≡ true

abbrev SourceFrom : InstructionRole → ℕ → ℕ → Source → Type 0
SourceFrom place len k x = (place.held < 2 ^ 16) × (len ≤ 32) × SourceTest place len k x

source_0 : (place : InstructionRole) (len : ℕ) (x : Source) → SourceFrom place len 0 x
    → ((a : ℕ × ℕ) × (word_of_parts a ≡ x) × (((ltb a.0 224 && leb 0 a.0) ≡ true) × (Unit {0} × (fits_word len a.0 a.1 ≡ true)))) ⊎ SourceFrom place len 1 x
source_0 place len (Word word low) p =
    let q = and_parts (ltb word 224) (leb (low + len) (word_size word)) p.2.1 in
    inl ((word, low), refl, (and_from (ltb word 224) (leb 0 word) q.0 (le-leb 0 word (omega arith)), (tt, q.1)))
source_0 place len (Held low) p = inr (p.0, p.1, (omega arith, p.2.1))
source_0 place len (Constant value) p = inr p

source_1 : (place : InstructionRole) (len : ℕ) (x : Source) → SourceFrom place len 1 x
    → ((a : ℕ) × (Held a ≡ x) × ((not place.is_default ≡ true) × ((a < 2 ^ 16) × (fits_held place len a ≡ true)))) ⊎ SourceFrom place len 2 x
source_1 place len (Word word low) p = absurd (omega (arith, p.2.0))
source_1 place len (Held low) p =
    let q = and_parts (not place.is_default) (leb (low + len) place.held) p.2.1 in
    let within : low < 2 ^ 16 = omega (arith, p.0, leb-true (low + len) place.held q.1) in
    inl (low, refl, (q.0, (within, q.1)))
source_1 place len (Constant value) p = inr p

source_2 : (place : InstructionRole) (len : ℕ) (x : Source) → SourceFrom place len 2 x → ((a : ℕ) × (Constant a ≡ x) × ((a < 2 ^ 32) × (below (2 ^ len) a ≡ true))) ⊎ ⊥
source_2 place len (Word word low) p = absurd (omega (arith, p.2.0))
source_2 place len (Held low) p = absurd (omega (arith, p.2.0))
source_2 place len (Constant value) p =
    let top : 2 ^ len ≤ 2 ^ 32 = pow_mono p.1 in
    let within : value < 2 ^ 32 = omega (arith, top, ltb-true value (2 ^ len) p.2) in
    inl (value, refl, (within, p.2))

source_codec : (place : InstructionRole) (len : ℕ) → Codec (source_at place len) spelled_source (SourceFrom place len 0) (λ _. Unit {0})
unfolding source_at
source_codec place len =
    codec_chosen
    (choices_when 0 word_of_parts (codec_behind (word_codec 0) (λ word. codec_kept (fits_word len word) byte_codec))
    (choices_when 1 Held (codec_where (not place.is_default) (codec_kept (fits_held place len) two_codec))
    (choices_when 2 Constant (codec_kept (below (2 ^ len)) four_codec) (choices_none spelled_source 3) (λ a. refl) (SourceFrom place len 2) (source_2 place len))
    (λ a. refl) (SourceFrom place len 1) (source_1 place len))
    (λ a. refl) (SourceFrom place len 0) (source_0 place len))

source_from : (place : InstructionRole) (len : ℕ) (x : Source) → source_is_formed place len x ≡ true → SourceTest place len 0 x
source_from place len (Word word low) p = (refl, p)
source_from place len (Held low) p = (omega arith, p)
source_from place len (Constant value) p = p

-- ---- kinds

kind_same : (a : ℕ) → at_most 5 a ≡ true → a ∷ [] ≡ spelled_kind (kind_of a) ∷ []
kind_same zero p = refl
kind_same (suc zero) p = refl
kind_same (suc (suc zero)) p = refl
kind_same (suc (suc (suc zero))) p = refl
kind_same (suc (suc (suc (suc zero)))) p = refl
kind_same (suc (suc (suc (suc (suc zero))))) p = refl
kind_same (suc (suc (suc (suc (suc (suc a)))))) p = absurd (omega (arith, leb-true (suc (suc (suc (suc (suc (suc a)))))) 5 p))

kind_back : (k : OpKind) → (a : ℕ) × (kind_of a ≡ k) × (a ∷ [] ≡ spelled_kind k ∷ []) × (at_most 5 a ≡ true)
kind_back kind.Copy = (0, refl, refl, refl)
kind_back kind.Add = (1, refl, refl, refl)
kind_back kind.Sub = (2, refl, refl, refl)
kind_back kind.And = (3, refl, refl, refl)
kind_back kind.Or = (4, refl, refl, refl)
kind_back kind.Xor = (5, refl, refl, refl)

kind_codec : Codec kind_at (λ k. spelled_kind k ∷ []) (λ _. Unit {0}) (λ _. Unit {0})
unfolding kind_at
kind_codec = codec_made kind_of (codec_byte (at_most 5)) (λ k. spelled_kind k ∷ []) (λ _. Unit {0}) (λ a r. kind_same a r) (λ k q. kind_back k)

-- ---- instructions

abbrev OperationParts : Type 0
OperationParts = Lane × (OpKind × (Source × Source))

abbrev PartsKeep : InstructionRole → ℕ → OperationParts → Type 0
PartsKeep place least a =
    ((lane_is_formed a.0 ≡ true) × (leb least a.0.word ≡ true)) × (Unit {0} × (SourceFrom place a.0.len 0 a.1.1.0 × SourceFrom place a.0.len 0 a.1.1.1))

abbrev operation_parts : Operation → OperationParts
operation_parts op = (lane_of_operation op, (op.kind, (op.left, op.right)))

-- an operation on a word that is at least that one
abbrev OperationKeeps : InstructionRole → ℕ → Operation → Type 0
OperationKeeps place least op = (place.held < 2 ^ 16) × ((operation_is_formed place op ≡ true) × (leb least op.word ≡ true))

operation_back : (place : InstructionRole) (least : ℕ) (op : Operation) → OperationKeeps place least op → PartsKeep place least (operation_parts op) × (kind_fits op ≡ true)
operation_back place least op keeps =
    let p : (lane_is_formed (lane_of_operation op) ≡ true) × (source_is_formed place op.len op.left ≡ true) × (source_is_formed place op.len op.right ≡ true) × (kind_is_formed op.kind op.right ≡ true) =
    split4 keeps.1.0 in
    let narrow : op.len ≤ 32 = leb-true op.len 32 (lane_tests (lane_of_operation op) p.0).2 in
    (((p.0, keeps.1.1), (tt, ((keeps.0, narrow, source_from place op.len op.left p.1), (keeps.0, narrow, source_from place op.len op.right p.2)))), p.3)

operation_codec : (place : InstructionRole) (least : ℕ) → Codec (operation_at place least) spelled_operation (OperationKeeps place least) (λ _. Unit {0})
unfolding operation_at
operation_codec place least =
    codec_for (codec_kept kind_fits
    (codec_made operation_of_parts
    (codec_behind (lane_from_codec least) (λ (lane : Lane). codec_behind kind_codec (λ _. codec_behind (source_codec place lane.len) (λ _. source_codec place lane.len))))
    spelled_operation (λ op. PartsKeep place least (operation_parts op)) (λ a r. refl) (λ op q. (operation_parts op, refl, refl, q))))
    (OperationKeeps place least) (operation_back place least)

-- what holds beside each item
along_with : {A : Type 0} (P : ℕ → A → Type 0) (Q : Type 0) → Q → (after : A → ℕ) (least : ℕ) (xs : List A) → AllAlong P after least xs → AllAlong (λ least x. Q × P least x) after least xs
along_with P Q q after least [] p = tt
along_with P Q q after least (x ∷ xs) p = ((q, p.0), along_with P Q q after (after x) xs p.1)

abbrev word_of : Operation → ℕ
word_of op = op.word

abbrev VliwKeeps : InstructionRole → Vliw → Type 0
VliwKeeps place v = (place.held < 2 ^ 16) × (vliw_is_formed place v ≡ true)

vliw_back : (place : InstructionRole) (v : Vliw) → VliwKeeps place v → AllAlong (OperationKeeps place) next_word 0 v.ops
vliw_back place v keeps =
    let p : (ltb (length v.ops) 256 ≡ true) × (list_all (operation_is_formed place) v.ops ≡ true) × (rises_from 0 (map word_of v.ops) ≡ true) = split3 keeps.1 in
    along_with _ (place.held < 2 ^ 16) keeps.0 next_word 0 v.ops (rising_along (operation_is_formed place) word_of 0 v.ops p.1 p.2)

vliw_codec : (place : InstructionRole) → Codec (vliw_at place) spelled_vliw (VliwKeeps place) (λ _. Unit {0})
unfolding vliw_at
vliw_codec place =
    codec_made vliw_of_parts (codec_listed byte_codec (codec_items next_word 0 (operation_codec place))) spelled_vliw (VliwKeeps place) (λ a r. refl)
    (λ v keeps. (v.ops, refl, refl, (tt, vliw_back place v keeps)))

-- ---- the code of a stage

pub code_codec : (places : List InstructionRole) → Codec (each vliw_at places) (flat_map spelled_vliw) (AllZip VliwKeeps places) (λ _. Unit {0})
code_codec places = codec_each vliw_codec places

pub code_zip : (places : List InstructionRole) (code : List Vliw) → AreSmall places → code_is_formed places code ≡ true → AllZip VliwKeeps places code
code_zip [] [] small e = tt
code_zip [] (v ∷ code) small e = absurd cc
code_zip (place ∷ places) [] small e = absurd cc
code_zip (place ∷ places) (v ∷ code) small e =
    let p = and_parts (vliw_is_formed place v) (code_is_formed places code) e in
    ((small.0, p.0), code_zip places code small.1 p.1)

-- ---- rows

five_codec : Codec (number_at 5) (bytes_of 5) (λ n. n < 2 ^ 40) (λ n. n < 2 ^ 40)
five_codec = codec_number 5

fourteen_codec : Codec (number_at 14) (bytes_of 14) (λ n. n < 2 ^ 112) (λ n. n < 2 ^ 112)
fourteen_codec = codec_number 14

srow_back : (r : SramRow) → srow_fits r ≡ true → (ltb r.block 106 ≡ true) × ((r.row < 2 ^ 16) × (r.bits < 2 ^ 112))
srow_back r e =
    let q : (ltb r.block 106 ≡ true) × (ltb r.row 65536 ≡ true) × (ltb r.bits (2 ^ 112) ≡ true) = split3 e in
    (q.0, (ltb-true r.row 65536 q.1, ltb-true r.bits (2 ^ 112) q.2))

trow_back : (r : TcamRow) → trow_fits r ≡ true → (ltb r.block 16 ≡ true) × ((r.row < 2 ^ 16) × ((r.value < 2 ^ 40) × (r.mask < 2 ^ 40)))
trow_back r e =
    let q : (ltb r.block 16 ≡ true) × (ltb r.row 65536 ≡ true) × (ltb r.value (2 ^ 40) ≡ true) × (ltb r.mask (2 ^ 40) ≡ true) = split4 e in
    (q.0, (ltb-true r.row 65536 q.1, (ltb-true r.value (2 ^ 40) q.2, ltb-true r.mask (2 ^ 40) q.3)))

srow_codec : Codec srow_at spelled_srow (λ r. srow_fits r ≡ true) (λ _. Unit {0})
unfolding srow_at block_at
srow_codec =
    codec_made srow_of_parts (codec_behind (codec_byte (below 106)) (λ _. codec_behind two_codec (λ _. fourteen_codec))) spelled_srow (λ r. srow_fits r ≡ true) (λ a r. refl)
    (λ r q. ((r.block, (r.row, r.bits)), refl, refl, srow_back r q))

trow_text : (a : ℕ × (ℕ × (ℕ × ℕ))) → (a.0 ∷ []) ++ (two_bytes a.1.0 ++ (bytes_of 5 a.1.1.0 ++ bytes_of 5 a.1.1.1)) ≡ spelled_trow (trow_of_parts a)
trow_text a = refl

trow_codec : Codec trow_at spelled_trow (λ r. trow_fits r ≡ true) (λ _. Unit {0})
unfolding trow_at block_at
trow_codec =
    codec_made trow_of_parts (codec_behind (codec_byte (below 16)) (λ _. codec_behind two_codec (λ _. codec_behind five_codec (λ _. five_codec)))) spelled_trow (λ r. trow_fits r ≡ true)
    (λ a r. trow_text a) (λ r q. let a : ℕ × (ℕ × (ℕ × ℕ)) = (r.block, (r.row, (r.value, r.mask))) in (a, refl, trow_text a, trow_back r q))

-- ---- stages

-- what a stage keeps whose start is at least that one
abbrev pub StageKeeps : ℕ → Stage → Type 0
StageKeeps least s = (stage_is_formed s ≡ true) × (start_fits least s.start ≡ true)

abbrev head_text : StageHead → List ℕ
head_text h = two_bytes h.0 ++ spelled_list8 spelled_unit h.1

abbrev HeadKeeps : ℕ → StageHead → Type 0
HeadKeeps least h = ((h.0 < 2 ^ 16) × (start_fits least h.0 ≡ true)) × (Unit {0} × (list_all unit_is_formed h.1 ≡ true))

head_codec : (least : ℕ) → Codec (stage_head_at least) head_text (HeadKeeps least) (λ _. Unit {0})
unfolding stage_head_at
head_codec least =
    codec_for (codec_behind (codec_kept (start_fits least) two_codec) (λ _. codec_listed byte_codec (codec_list unit_is_formed unit_codec))) (HeadKeeps least) (λ h q. q)

abbrev tail_text : StageTail → List ℕ
tail_text t = flat_map spelled_vliw t.0 ++ (spelled_list32 spelled_srow t.1.0 ++ spelled_list32 spelled_trow t.1.1)

abbrev TailKeeps : List InstructionRole → StageTail → Type 0
TailKeeps places t =
    AllZip VliwKeeps places t.0
    × (((length t.1.0 < 2 ^ 32) × (list_all srow_fits t.1.0 ≡ true)) × ((length t.1.1 < 2 ^ 32) × (list_all trow_fits t.1.1 ≡ true)))

tail_codec : (places : List InstructionRole) → Codec (stage_tail_at places) tail_text (TailKeeps places) (λ _. Unit {0})
unfolding stage_tail_at
tail_codec places =
    codec_for
    (codec_behind (code_codec places) (λ _. codec_behind (codec_listed four_codec (codec_list srow_fits srow_codec)) (λ _. codec_listed four_codec (codec_list trow_fits trow_codec))))
    (TailKeeps places) (λ t q. q)

abbrev StageParts : Type 0
StageParts = StageHead × StageTail

stage_text : (a : StageParts) → head_text a.0 ++ tail_text a.1 ≡ spelled_stage (stage_of_parts a)
stage_text a =
    let h = head_text a.0 in
    let code = flat_map spelled_vliw a.1.0 in
    let srows = spelled_list32 spelled_srow a.1.1.0 in
    let trows = spelled_list32 spelled_trow a.1.1.1 in
    sym (append_assoc h code (srows ++ trows)) ∙ sym (append_assoc (h ++ code) srows trows)

abbrev stage_parts : Stage → StageParts
stage_parts s = ((s.start, s.units), (s.code, (s.srows, s.trows)))

stage_back : (least : ℕ) (s : Stage) → StageKeeps least s → HeadKeeps least (s.start, s.units) × TailKeeps (places_of s.units) (s.code, (s.srows, s.trows))
stage_back least s keeps =
    let p : (ltb s.start 65536 ≡ true) × (ltb (length s.units) 256 ≡ true) × (list_all unit_is_formed s.units ≡ true) × (code_is_formed (places_of s.units) s.code ≡ true)
    × (ltb (length s.srows) (2 ^ 32) ≡ true) × (list_all srow_fits s.srows ≡ true) × (ltb (length s.trows) (2 ^ 32) ≡ true) × (list_all trow_fits s.trows ≡ true) =
    split8 keeps.0 in (
      ((ltb-true s.start 65536 p.0, keeps.1), (tt, p.2)),
      (
        code_zip (places_of s.units) s.code (small_places s.units p.2) p.3,
        ((ltb-true (length s.srows) (2 ^ 32) p.4, p.5), (ltb-true (length s.trows) (2 ^ 32) p.6, p.7)),
      ),
    )

stage_codec : (least : ℕ) → Codec (stage_at least) spelled_stage (StageKeeps least) (λ _. Unit {0})
unfolding stage_at
stage_codec least =
    codec_made stage_of_parts (codec_behind (head_codec least) (λ (h : StageHead). tail_codec (places_of h.1)))
    spelled_stage (StageKeeps least) (λ a r. stage_text a)
    (λ s keeps. (stage_parts s, refl, stage_text (stage_parts s), stage_back least s keeps))

abbrev start_of : Stage → ℕ
start_of s = s.start

-- behind a start each one is at least the next number
behind_start : (n m : ℕ) → leb (n + 1) m ≡ true → start_fits (n + 1) m ≡ true
behind_start n m e = cond-false (eqb (n + 1) 0) (eqb m 0) (leb (n + 1) m) (ne_eqb (n + 1) 0 (λ z. absurd (omega (arith, z)))) ∙ e

stages_behind : (n : ℕ) (ss : List Stage) → list_all stage_is_formed ss ≡ true → rises_from (n + 1) (map start_of ss) ≡ true → AllAlong StageKeeps next_start (n + 1) ss
stages_behind n [] each order = tt
stages_behind n (s ∷ ss) each order =
    let p = and_parts (stage_is_formed s) (list_all stage_is_formed ss) each in
    let r = and_parts (leb (n + 1) s.start) (rises_from (s.start + 1) (map start_of ss)) order in
    ((p.0, behind_start n s.start r.0), stages_behind s.start ss p.1 r.1)

stages_along : (ss : List Stage) → list_all stage_is_formed ss ≡ true → starts_are_formed (map start_of ss) ≡ true → AllAlong StageKeeps next_start 0 ss
stages_along [] each order = tt
stages_along (s ∷ ss) each order =
    let p = and_parts (stage_is_formed s) (list_all stage_is_formed ss) each in
    let r = and_parts (eqb s.start 0) (rises_from 1 (map start_of ss)) order in
    let zero_start : s.start ≡ 0 = eqb-true s.start 0 r.0 in
    let order_behind : rises_from (s.start + 1) (map start_of ss) ≡ true = ap (λ (n : ℕ). rises_from (n + 1) (map start_of ss)) zero_start ∙ r.1 in
    ((p.0, r.0), stages_behind s.start ss p.1 order_behind)

pub stages_codec : Codec (listed byte_at (items_at stage_at next_start 0)) (spelled_list8 spelled_stage) (λ ss. stages_are_formed ss ≡ true) (λ _. Unit {0})
stages_codec =
    codec_for (codec_listed byte_codec (codec_items next_start 0 stage_codec)) (λ ss. stages_are_formed ss ≡ true)
    (λ ss formed.
    let p : (ltb (length ss) 256 ≡ true) × (list_all stage_is_formed ss ≡ true) × (starts_are_formed (map start_of ss) ≡ true) = split3 formed in
    (tt, stages_along ss p.1 p.2))
