-- What the look over the rows of a memory shows: all cells but those that are listed are clear, and no bit stands outside cells.
use Rattle.std.proofs.Common.{◌≡◌, ℕ, zero, suc, ◌+◌, ◌*◌, ◌/◌, ◌%◌, ◌^◌, ◌<◌, ◌≤◌, List, [], ◌∷◌, length, Bool, true, false, ◌&&◌, not, cond, Some, eqb, sym, refl, ap, ◌∙◌, subst, arith}
use Rattle.std.specs.Prelude.{◌↔◌, IsTrue, All, find, option_map, unwrap_or}
use Rattle.std.proofs.lemmas.Bool.{and_parts, and_from, eqb-true, eq-eqb, not-true, not_from_false}
use Rattle.std.proofs.lemmas.Nat.{pow_pos}
use Rattle.std.proofs.lemmas.List.Elements.{All-head, All-tail}
use Rattle.rmt_config.specs.declared.form.layout.CellLayout.{CellLayout}
use Rattle.rmt_config.specs.Types.{Stage, SramRow, TcamRow, SlotUnit, Memory}
use Rattle.rmt_config.specs.declared.config.Memory.TheVariants.{Exact, Ternary, Without}
use Rattle.rmt_config.specs.LaneForm.{bits_of_lanes}
use Rattle.rmt_config.specs.BlockCounts.{divided_up, record_width, record_units}
use Rattle.rmt_config.specs.StageForm.{is_listed, srow_number, trow_number}
use Rattle.rmt_config.specs.Cells.{Blocks, sram_row, tcam_row, unit_row, blocks_at, content_of, cells_in, cell_of, entry_at, data_at, row_record, row_key}
use Rattle.rmt_config.specs.CellForm.{is_clear, cells_of, EndsAt, RecordsEnd, MemoryEnds, exact, ternary}
use Rattle.rmt_bits.specs.Bits.{slice}
use Rattle.rmt_config.specs.Layouts.{BlocksTold, IsLayout, listed_cells, exact_keys, exact_records, ternary_keys, ternary_records, SramTold, TcamTold, MemoryTold}
use Rattle.rmt_config.specs.MemoryRules.{FormedRows, ExactFits, TernaryFits}
use Rattle.rmt_config.proofs.HeldRows.{rows-agree}
use Rattle.rmt_config.proofs.ToldBits.{Agrees, Kept, units_from_blocks, blocks_from_units, kept_from_units, units_from_kept}
use Rattle.rmt_config.proofs.CellLayouts.{exact_keys-is, exact_records-is, ternary_keys-is, ternary_records-is, exact-entry, exact-data, ternary-record, ternary-key}
use Rattle.rmt_config.specs.Life.{has_memory}

-- rows by places of blocks, and by cells
pub kept-iff : {X : Type 0} (l : CellLayout) (held : Blocks) (block row bits : X → ℕ) (rows : List X) (cells blocks : List ℕ) → IsLayout l
    → Agrees l held block row bits rows → length blocks ≤ l.quanta * l.units * l.side
    → BlocksTold l block row bits cells rows blocks ↔ Kept l held cells blocks
kept-iff l held block row bits rows cells blocks is agrees short = (
  λ told. kept_from_units l held cells blocks is (units_from_blocks l held block row bits rows cells blocks is.some_bits agrees told),
  λ kept. blocks_from_units l held block row bits rows cells blocks (λ _. is.some_side) agrees
      (units_from_kept l held cells blocks is agrees.within agrees.low short kept),
)

-- ---- exact parts

-- all cells but those that are listed have no entry or no record
abbrev pub Unlisted : List ℕ → ℕ → (ℕ → ℕ) → Type 0
Unlisted cells count what = (n : ℕ) → n < count → is_listed n cells ≡ false → what n ≡ 0

exact_keys-told : (stage : Stage) (s : SlotUnit) (k p d : ℕ) (ks rs : List ℕ) → FormedRows stage → ExactFits s k p d ks rs
    → SramTold (exact_keys k p d (bits_of_lanes s.keys)) stage s ks
    ↔ (Unlisted (listed_cells s.numbers) (4096 * d * p) (λ n. entry_at (sram_row stage.srows) ks k (bits_of_lanes s.keys) (cell_of (1024 * d) p n))
    × EndsAt 112 (sram_row stage.srows) ks k (p * (bits_of_lanes s.keys + 8)))
exact_keys-told stage s k p d ks rs rows fit =
    let bits = bits_of_lanes s.keys in
    let l = exact_keys k p d bits in
    let sram = sram_row stage.srows in
    let cells = listed_cells s.numbers in
    let is = exact_keys-is k p d bits fit.some_k fit.most_k fit.some_p fit.most_p fit.some_d fit.most_d fit.most_bits fit.fits in
    let agrees = rows-agree l (λ (r : SramRow). r.block) (λ (r : SramRow). r.row) (λ (r : SramRow). r.bits) srow_number stage.srows (λ r. refl) rows.srise rows.slow rows.sbits in
    let many : length ks ≤ d * 4 * k = (let e : d * 4 * k ≡ d * (4 * k) = omega arith in omega (arith, e, fit.keys)) in
    let iff = kept-iff l sram (λ r. srow_number r / 1024) (λ r. srow_number r % 1024) (λ (r : SramRow). r.bits) stage.srows cells ks is agrees many in
    let count : 4 * d * (1024 * p) ≡ 4096 * d * p = omega arith in (
      λ told.
          let kept = iff.0 told in
          (λ n lt unset. exact-entry sram ks k p d bits n fit.some_p fit.some_d ∙ kept.others n (omega (arith, lt, count)) unset, kept.ends),
      λ both. iff.1 (record {
        ends = both.1;
        behind = λ u i lu past lt. absurd (omega (arith, past, lt));
        others = λ n lt unset. sym (exact-entry sram ks k p d bits n fit.some_p fit.some_d) ∙ both.0 n (omega (arith, lt, count)) unset;
      }),
    )

exact_records-some : (stage : Stage) (s : SlotUnit) (p d n : ℕ) (rs : List ℕ) → FormedRows stage → 0 < p → p < 65536 → 0 < d → d ≤ 106
    → 0 < n → n < 65536 → length rs ≡ d * (record_units (4 * p) n * record_width n)
    → SramTold (exact_records p d n) stage s rs
    ↔ (Unlisted (listed_cells s.numbers) (4096 * d * p) (λ m. data_at (sram_row stage.srows) rs p n (cell_of (1024 * d) p m))
    × RecordsEnd (sram_row stage.srows) rs d (4 * p) n)
exact_records-some stage s p d n rs rows lp hp ld hd ln hn len =
    let l = exact_records p d n in
    let sram = sram_row stage.srows in
    let cells = listed_cells s.numbers in
    let is = exact_records-is p d n lp hp ld hd ln hn in
    let agrees = rows-agree l (λ (r : SramRow). r.block) (λ (r : SramRow). r.row) (λ (r : SramRow). r.bits) srow_number stage.srows (λ r. refl) rows.srise rows.slow rows.sbits in
    let many : length rs ≤ d * record_units (4 * p) n * record_width n =
    (let e : d * record_units (4 * p) n * record_width n ≡ d * (record_units (4 * p) n * record_width n) = mul_assoc d (record_units (4 * p) n) (record_width n) in omega (arith, e, len)) in
    let iff = kept-iff l sram (λ r. srow_number r / 1024) (λ r. srow_number r % 1024) (λ (r : SramRow). r.bits) stage.srows cells rs is agrees many in
    let count : 4 * d * (1024 * p) ≡ 4096 * d * p = omega arith in (
      λ told.
          let kept = iff.0 told in (
            λ m lt unset. exact-data sram rs p d n m lp ld ∙ kept.others m (omega (arith, lt, count)) unset,
            record { rows = kept.ends; quantum = λ u i lu past lt. kept.behind u i lu (omega (arith, past)) lt },
          ),
      λ both. iff.1 (record {
        ends = both.1.rows;
        behind = λ u i lu past lt. both.1.quantum u i lu (omega (arith, past)) lt;
        others = λ m lt unset. sym (exact-data sram rs p d n m lp ld) ∙ both.0 m (omega (arith, lt, count)) unset;
      }),
    )
  where
    mul_assoc : (a b c : ℕ) → a * b * c ≡ a * (b * c)
    mul_assoc a b c = omega arith

-- a record of no bits is 0, and lists no blocks
slice-none : (x low : ℕ) → slice x low 0 ≡ 0
slice-none x low = none (x / 2 ^ low)
  where
    none : (m : ℕ) → m % 1 ≡ 0
    none m = omega arith

none-end : (sram : Blocks) (rs : List ℕ) (d thousands : ℕ) → RecordsEnd sram rs d thousands 0
none-end sram rs d thousands = record {
  rows = λ unit row. pow_pos 0;
  quantum = λ u i lu past lt. slice-none _ _;
}

exact_records-told : (stage : Stage) (s : SlotUnit) (p d n : ℕ) (rs : List ℕ) → FormedRows stage → 0 < p → p < 65536 → 0 < d → d ≤ 106
    → n < 65536 → length rs ≡ d * (record_units (4 * p) n * record_width n)
    → SramTold (exact_records p d n) stage s rs
    ↔ (Unlisted (listed_cells s.numbers) (4096 * d * p) (λ m. data_at (sram_row stage.srows) rs p n (cell_of (1024 * d) p m))
    × RecordsEnd (sram_row stage.srows) rs d (4 * p) n)
exact_records-told stage s p d zero rs rows lp hp ld hd hn len = (
  λ told. (λ m lt unset. slice-none _ _, none-end (sram_row stage.srows) rs d (4 * p)),
  λ both j lt. absurd (omega (arith, lt, len)),
)
exact_records-told stage s p d (suc n) rs rows lp hp ld hd hn len =
    exact_records-some stage s p d (suc n) rs rows lp hp ld hd (omega arith) hn len

-- a number whose quotient and remainder are 0 is 0
zero-parts : (x : ℕ) → x / 256 ≡ 0 → x % 256 ≡ 0 → x ≡ 0
zero-parts x q r = omega (arith, q, r)

-- all cells but those that are listed are clear
abbrev pub Others : Stage → SlotUnit → Type 0
Others stage s = (n : ℕ) → n < cells_in s.memory → IsTrue (not (is_listed n (cells_of s))) → IsTrue (is_clear s.memory (content_of stage s n))

three_tests : (a b c : ℕ) → a ≡ 0 → b ≡ 0 → c ≡ 0 → (eqb a 0 && eqb b 0 && eqb c 0) ≡ true
three_tests a b c ea eb ec = and_from (eqb a 0 && eqb b 0) (eqb c 0) (and_from (eqb a 0) (eqb b 0) (eq-eqb a 0 ea) (eq-eqb b 0 eb)) (eq-eqb c 0 ec)

three_zeros : (a b c : ℕ) → (eqb a 0 && eqb b 0 && eqb c 0) ≡ true → (a ≡ 0) × (b ≡ 0) × (c ≡ 0)
three_zeros a b c h =
    let two = and_parts (eqb a 0 && eqb b 0) (eqb c 0) h in
    let one = and_parts (eqb a 0) (eqb b 0) two.0 in
    (eqb-true a 0 one.0, eqb-true b 0 one.1, eqb-true c 0 two.1)

pub exact-told : (stage : Stage) (s : SlotUnit) (k p d w : ℕ) (ks rs cs : List ℕ) → FormedRows stage → ExactFits s k p d ks rs
    → (let s' = record s { memory = Exact k p d w ks rs cs } in MemoryTold stage s' s'.memory ↔ (Others stage s' × MemoryEnds stage s' s'.memory))
exact-told stage s k p d w ks rs cs rows fit = (
  λ told.
      let one = keys.0 told.0 in
      let two = records.0 told.1 in (
        λ n lt unset.
            let free = not-true (is_listed n (cells_of s)) unset in
            three_tests (entry n % 256) (entry n / 256) (held n) (ap (λ m. m % 256) (one.0 n lt free)) (ap (λ m. m / 256) (one.0 n lt free)) (two.0 n lt free),
        exact k p d w ks rs cs one.1 two.1,
      ),
  λ both. back both.0 both.1,
)
  where
    entry : ℕ → ℕ
    entry n = entry_at (sram_row stage.srows) ks k (bits_of_lanes s.keys) (cell_of (1024 * d) p n)

    held : ℕ → ℕ
    held n = data_at (sram_row stage.srows) rs p s.held (cell_of (1024 * d) p n)

    keys : SramTold (exact_keys k p d (bits_of_lanes s.keys)) stage s ks
        ↔ (Unlisted (listed_cells s.numbers) (4096 * d * p) entry × EndsAt 112 (sram_row stage.srows) ks k (p * (bits_of_lanes s.keys + 8)))
    keys = exact_keys-told stage s k p d ks rs rows fit

    records : SramTold (exact_records p d s.held) stage s rs
        ↔ (Unlisted (listed_cells s.numbers) (4096 * d * p) held × RecordsEnd (sram_row stage.srows) rs d (4 * p) s.held)
    records = exact_records-told stage s p d s.held rs rows fit.some_p fit.most_p fit.some_d fit.most_d fit.most_held fit.records

    s' : SlotUnit
    s' = record s { memory = Exact k p d w ks rs cs }

    back : Others stage s' → MemoryEnds stage s' s'.memory → MemoryTold stage s' s'.memory
    back others (exact _ _ _ _ _ _ _ ends ends') = (keys.1 (entries, ends), records.1 (datas, ends'))
      where
        zeros : (n : ℕ) → n < 4096 * d * p → is_listed n (cells_of s) ≡ false → (entry n % 256 ≡ 0) × (entry n / 256 ≡ 0) × (held n ≡ 0)
        zeros n lt free = three_zeros (entry n % 256) (entry n / 256) (held n) (others n lt (not_from_false (is_listed n (cells_of s)) free))

        entries : Unlisted (listed_cells s.numbers) (4096 * d * p) entry
        entries n lt free = let z = zeros n lt free in zero-parts (entry n) z.1 z.0

        datas : Unlisted (listed_cells s.numbers) (4096 * d * p) held
        datas n lt free = (zeros n lt free).2

-- ---- ternary parts

ternary_keys-told : (stage : Stage) (s : SlotUnit) (d : ℕ) (ks rs : List ℕ) → FormedRows stage → TernaryFits s d ks rs
    → TcamTold (ternary_keys d (bits_of_lanes s.keys)) stage s ks
    ↔ (Unlisted (listed_cells s.numbers) (2048 * d) (row_key (tcam_row (λ t. t.mask) stage.trows) ks (bits_of_lanes s.keys))
    × EndsAt 40 (tcam_row (λ t. t.mask) stage.trows) ks (divided_up (bits_of_lanes s.keys) 40) (bits_of_lanes s.keys))
ternary_keys-told stage s d ks rs rows fit =
    let bits = bits_of_lanes s.keys in
    let l = ternary_keys d bits in
    let tcam = tcam_row (λ t. t.mask) stage.trows in
    let cells = listed_cells s.numbers in
    let is = ternary_keys-is d bits fit.some_d fit.most_d fit.some_bits fit.most_bits in
    let agrees = rows-agree l (λ (r : TcamRow). r.block) (λ (r : TcamRow). r.row) (λ (r : TcamRow). r.mask) trow_number stage.trows (λ r. refl) rows.trise rows.tlow rows.tbits in
    let many : length ks ≤ d * 1 * divided_up bits 40 = (let e : d * 1 * divided_up bits 40 ≡ d * divided_up bits 40 = omega arith in omega (arith, e, fit.keys)) in
    let iff = kept-iff l tcam (λ r. trow_number r / 2048) (λ r. trow_number r % 2048) (λ (r : TcamRow). r.mask) stage.trows cells ks is agrees many in
    let count : 1 * d * 2048 ≡ 2048 * d = omega arith in
    let one : 1 * bits ≡ bits = omega arith in (
      λ told.
          let kept = iff.0 told in (
            λ n lt unset. ternary-key tcam ks d bits n lt (λ b r. kept.ends b r) ∙ kept.others n (omega (arith, lt, count)) unset,
            λ unit row. subst (λ m. unit_row 40 tcam row (blocks_at ks (divided_up bits 40) unit) < 2 ^ m) one (kept.ends unit row),
          ),
      λ both.
          let ends : (b r : ℕ) → unit_row 40 tcam r (blocks_at ks (divided_up bits 40) b) < 2 ^ (1 * bits) =
          λ b r. subst (λ m. unit_row 40 tcam r (blocks_at ks (divided_up bits 40) b) < 2 ^ m) (sym one) (both.1 b r) in
          iff.1 (record {
            ends = ends;
            behind = λ u i lu past lt. absurd (omega (arith, past, lt));
            others = λ n lt unset.
                let low : n < 2048 * d = omega (arith, lt, count) in
                sym (ternary-key tcam ks d bits n low ends) ∙ both.0 n low unset;
          }),
    )

ternary_records-told : (stage : Stage) (s : SlotUnit) (d : ℕ) (ks rs : List ℕ) → FormedRows stage → TernaryFits s d ks rs
    → SramTold (ternary_records d (s.held + 8)) stage s rs
    ↔ (Unlisted (listed_cells s.numbers) (2048 * d) (row_record (sram_row stage.srows) rs s.held)
    × RecordsEnd (sram_row stage.srows) rs d 2 (s.held + 8))
ternary_records-told stage s d ks rs rows fit =
    let n = s.held + 8 in
    let l = ternary_records d n in
    let sram = sram_row stage.srows in
    let cells = listed_cells s.numbers in
    let is = ternary_records-is d n fit.some_d fit.most_d (omega arith) (omega (arith, fit.most_held)) in
    let agrees = rows-agree l (λ (r : SramRow). r.block) (λ (r : SramRow). r.row) (λ (r : SramRow). r.bits) srow_number stage.srows (λ r. refl) rows.srise rows.slow rows.sbits in
    let many : length rs ≤ d * record_units 2 n * record_width n =
    (let e : d * record_units 2 n * record_width n ≡ d * (record_units 2 n * record_width n) = mul_assoc d (record_units 2 n) (record_width n) in omega (arith, e, fit.records)) in
    let iff = kept-iff l sram (λ r. srow_number r / 1024) (λ r. srow_number r % 1024) (λ (r : SramRow). r.bits) stage.srows cells rs is agrees many in
    let count : 1 * d * 2048 ≡ 2048 * d = omega arith in (
      λ told.
          let kept = iff.0 told in (
            λ m lt unset. ternary-record sram rs d s.held m lt ∙ kept.others m (omega (arith, lt, count)) unset,
            record { rows = kept.ends; quantum = λ u i lu past lt. kept.behind u i lu (omega (arith, past)) lt },
          ),
      λ both. iff.1 (record {
        ends = both.1.rows;
        behind = λ u i lu past lt. both.1.quantum u i lu (omega (arith, past)) lt;
        others = λ m lt unset.
            let low : m < 2048 * d = omega (arith, lt, count) in
            sym (ternary-record sram rs d s.held m low) ∙ both.0 m low unset;
      }),
    )
  where
    mul_assoc : (a b c : ℕ) → a * b * c ≡ a * (b * c)
    mul_assoc a b c = omega arith

value-by_test : (p : TcamRow → Bool) (row : TcamRow) (rows : List TcamRow) (b : Bool) → (row.mask ≡ 0 → ⊥)
    → (unwrap_or (option_map (λ (r : TcamRow). r.mask) (find p rows)) 0 ≡ 0 → unwrap_or (option_map (λ (r : TcamRow). r.value) (find p rows)) 0 ≡ 0)
    → unwrap_or (option_map (λ (r : TcamRow). r.mask) (cond b (Some row) (find p rows))) 0 ≡ 0
    → unwrap_or (option_map (λ (r : TcamRow). r.value) (cond b (Some row) (find p rows))) 0 ≡ 0
value-by_test p row rows true some rest e = absurd (some e)
value-by_test p row rows false some rest e = rest e

-- a row without a mask has no value
value-none : (p : TcamRow → Bool) (rows : List TcamRow) → All (λ (r : TcamRow). r.mask ≡ 0 → ⊥) rows
    → unwrap_or (option_map (λ (r : TcamRow). r.mask) (find p rows)) 0 ≡ 0 → unwrap_or (option_map (λ (r : TcamRow). r.value) (find p rows)) 0 ≡ 0
value-none p [] some e = refl
value-none p (row ∷ rows) some e =
    value-by_test p row rows (p row) (All-head (λ (r : TcamRow). r.mask ≡ 0 → ⊥) row rows some)
    (value-none p rows (All-tail (λ (r : TcamRow). r.mask ≡ 0 → ⊥) row rows some)) e

unit-none : (v m : Blocks) (row : ℕ) (blocks : List ℕ) → ((b r : ℕ) → m b r ≡ 0 → v b r ≡ 0) → unit_row 40 m row blocks ≡ 0 → unit_row 40 v row blocks ≡ 0
unit-none v m row [] h e = refl
unit-none v m row (b ∷ blocks) h e =
    let here : m b row ≡ 0 = omega (arith, e) in
    let rest : unit_row 40 m row blocks ≡ 0 = omega (arith, e) in
    rw (h b row here, unit-none v m row blocks h rest) refl

pub ternary-told : (stage : Stage) (s : SlotUnit) (d : ℕ) (ks rs cs : List ℕ) → FormedRows stage → TernaryFits s d ks rs
    → (let s' = record s { memory = Ternary d ks rs cs } in MemoryTold stage s' s'.memory ↔ (Others stage s' × MemoryEnds stage s' s'.memory))
ternary-told stage s d ks rs cs rows fit = (
  λ told.
      let one = keys.0 told.0 in
      let two = records.0 told.1 in (
        λ n lt unset.
            let free = not-true (is_listed n (cells_of s)) unset in
            let r = two.0 n lt free in
            let e : mask n ≡ 0 = one.0 n lt free in
            and_from (eqb (entry n % 256) 0 && eqb (value n) 0 && eqb (entry n / 256) 0) (eqb (mask n) 0)
            (three_tests (entry n % 256) (value n) (entry n / 256) (ap (λ m. m % 256) r)
            (unit-none (tcam_row (λ t. t.value) stage.trows) (tcam_row (λ t. t.mask) stage.trows) (n % 2048) _ (λ b r. value-none _ stage.trows rows.tsome) e)
            (ap (λ m. m / 256) r))
            (eq-eqb (mask n) 0 e),
        ternary d ks rs cs one.1 two.1,
      ),
  λ both. back both.0 both.1,
)
  where
    entry : ℕ → ℕ
    entry n = row_record (sram_row stage.srows) rs s.held n

    value : ℕ → ℕ
    value n = row_key (tcam_row (λ t. t.value) stage.trows) ks (bits_of_lanes s.keys) n

    mask : ℕ → ℕ
    mask n = row_key (tcam_row (λ t. t.mask) stage.trows) ks (bits_of_lanes s.keys) n

    keys : TcamTold (ternary_keys d (bits_of_lanes s.keys)) stage s ks
        ↔ (Unlisted (listed_cells s.numbers) (2048 * d) mask × EndsAt 40 (tcam_row (λ t. t.mask) stage.trows) ks (divided_up (bits_of_lanes s.keys) 40) (bits_of_lanes s.keys))
    keys = ternary_keys-told stage s d ks rs rows fit

    records : SramTold (ternary_records d (s.held + 8)) stage s rs
        ↔ (Unlisted (listed_cells s.numbers) (2048 * d) entry × RecordsEnd (sram_row stage.srows) rs d 2 (s.held + 8))
    records = ternary_records-told stage s d ks rs rows fit

    s' : SlotUnit
    s' = record s { memory = Ternary d ks rs cs }

    back : Others stage s' → MemoryEnds stage s' s'.memory → MemoryTold stage s' s'.memory
    back others (ternary _ _ _ _ ends ends') = (keys.1 (masks, ends), records.1 (entries, ends'))
      where
        zeros : (n : ℕ) → n < 2048 * d → is_listed n (cells_of s) ≡ false → (entry n % 256 ≡ 0) × (entry n / 256 ≡ 0) × (mask n ≡ 0)
        zeros n lt free =
            let all = and_parts (eqb (entry n % 256) 0 && eqb (value n) 0 && eqb (entry n / 256) 0) (eqb (mask n) 0)
            (others n lt (not_from_false (is_listed n (cells_of s)) free)) in
            let three = three_zeros (entry n % 256) (value n) (entry n / 256) all.0 in
            (three.0, three.2, eqb-true (mask n) 0 all.1)

        entries : Unlisted (listed_cells s.numbers) (2048 * d) entry
        entries n lt free = let z = zeros n lt free in zero-parts (entry n) z.1 z.0

        masks : Unlisted (listed_cells s.numbers) (2048 * d) mask
        masks n lt free = (zeros n lt free).2

-- a slot with a cell has memory
pub has_cells : (mem : Memory) (n : ℕ) → n < cells_in mem → has_memory mem ≡ true
has_cells Without n lt = absurd (omega (arith, lt))
has_cells (Exact k p d w ks rs cs) n lt = refl
has_cells (Ternary d ks rs cs) n lt = refl
