-- What the rows of TCAM hold in a cell of a prefix table's part.
use Rattle.std.proofs.Common.{◌≡◌, ℕ, zero, suc, ◌+◌, ◌-◌, ◌*◌, ◌/◌, ◌%◌, ◌^◌, ◌<◌, ◌≤◌, List, [], ◌∷◌, length, get_or, drop, Bool, true, cond, ltb, Some, sym, refl, ap, ◌∙◌, subst, arith, inl, inr}
use Rattle.std.specs.Prelude.{◌&&◌, ◌==◌, not, All, bit_and, find, option_map, unwrap_or, slice_get}
use Rattle.std.specs.List.{flat_map, list_all}
use Rattle.std.proofs.lemmas.Bool.{cases_Bool, and_parts, eqb-true, ltb-true}
use Rattle.std.proofs.lemmas.Nat.{and_le_r}
use Rattle.std.proofs.Math.Pow.{pow_mono}
use Rattle.std.proofs.lemmas.List.Elements.{All-head, All-tail}
use Rattle.std.proofs.lemmas.List.Folds.{list_all-map}
use Rattle.std.proofs.lemmas.Option.{none-some, same_Some}
use Rattle.rmt_bits.proofs.AllLaws.{All-from_test}
use Rattle.rmt_bits.specs.declared.lane.Lane.{Lane}
use Rattle.rmt_config.specs.Types.{CellNumber, Config, Memory, SlotUnit, Stage, TcamRow, Unit}
use Rattle.rmt_config.specs.declared.config.Memory.TheVariants.{Ternary}
use Rattle.rmt_config.specs.StageForm.{is_listed, rows_are_formed, tcam_blocks, trow_is_formed, trow_number}
use Rattle.rmt_config.specs.Cells.{Blocks, blocks_at, cells_in, content_of, tcam_row, unit_row}
use Rattle.rmt_config.specs.CellForm.{EndsAt, MemoryEnds, ternary}
use Rattle.rmt_config.specs.LaneForm.{bits_of_lanes}
use Rattle.rmt_config.specs.MemoryRules.{MemoryIsFormed}
use Rattle.rmt_config.specs.PartStands.{PartStands}
use Rattle.rmt_config.specs.PrefixRow.{PrefixRows}
use Rattle.rmt_config.specs.Rooms.{PartAt}
use Rattle.rmt_config.specs.RunCells.{own_content}
use Rattle.rmt_config.specs.BlockCounts.{divided_up}
use Rattle.rmt_config.proofs.RiseLaws.{one_off}
use Rattle.rmt_config.proofs.SpelledParts.{held-is, rows-in}
use Rattle.rmt_config.proofs.TcamRowLaws.{trow-found as row-found, trow-none as row-none}

-- ---- a row of a block

pub trow-found : (val : TcamRow → ℕ) (rows : List TcamRow) (at block row : ℕ) (d : TcamRow) → PrefixRows rows
    → row < 2048 → at < length rows → trow_number (get_or rows at d) ≡ block * 2048 + row → val (get_or rows at d) ≡ tcam_row val rows block row
trow-found val rows at block row d formed = row-found val rows at block row d formed.rise formed.low

pub trow-none : (val : TcamRow → ℕ) (rows : List TcamRow) (at block row : ℕ) → PrefixRows rows
    → ((k : ℕ) (d : TcamRow) → k < at → trow_number (get_or rows k d) < block * 2048 + row)
    → ((k : ℕ) (d : TcamRow) → at ≤ k → k < length rows → block * 2048 + row ≤ trow_number (get_or rows k d))
    → ((d : TcamRow) → at < length rows → trow_number (get_or rows at d) ≡ block * 2048 + row → ⊥) → 0 ≡ tcam_row val rows block row
trow-none val rows at block row formed = row-none val rows at block row formed.rise

-- the value of a row is at most its mask
value-within : (rows : List TcamRow) (block row : ℕ) → All (λ (r : TcamRow). r.value ≤ r.mask) rows
    → tcam_row (λ (t : TcamRow). t.value) rows block row ≤ tcam_row (λ (t : TcamRow). t.mask) rows block row
value-within rows block row h = found-le (λ (r : TcamRow). (r.block == block) && (r.row == row)) (λ (t : TcamRow). t.value) (λ (t : TcamRow). t.mask) rows h
  where
    found-le : {X : Type 0} (p : X → Bool) (f g : X → ℕ) (xs : List X) → All (λ x. f x ≤ g x) xs → unwrap_or (option_map f (find p xs)) 0 ≤ unwrap_or (option_map g (find p xs)) 0
    found-le p f g [] h = omega arith
    found-le p f g (x ∷ xs) h =
        elim (cases_Bool (p x)) as (λ _. unwrap_or (option_map f (find p (x ∷ xs))) 0 ≤ unwrap_or (option_map g (find p (x ∷ xs))) 0) [
          | inl here ↦ subst (λ (b : Bool). unwrap_or (option_map f (cond b (Some x) (find p xs))) 0 ≤ unwrap_or (option_map g (cond b (Some x) (find p xs))) 0) (sym here) (All-head (λ x. f x ≤ g x) x xs h)
          | inr other ↦ subst (λ (b : Bool). unwrap_or (option_map f (cond b (Some x) (find p xs))) 0 ≤ unwrap_or (option_map g (cond b (Some x) (find p xs))) 0) (sym other)
              (found-le p f g xs (All-tail (λ x. f x ≤ g x) x xs h))
        ]

-- ---- a row of blocks side by side

-- a block more, below those above it
unit-step : (held : Blocks) (row : ℕ) (blocks : List ℕ) (i key word : ℕ) → i < length blocks → key ≡ unit_row 40 held row (drop (i + 1) blocks)
    → word ≡ held (get_or blocks i 0) row → key * 1099511627776 + word ≡ unit_row 40 held row (drop i blocks)
unit-step held row blocks i key word lt above here =
    let rest = unit_row 40 held row (drop (i + 1) blocks) in
    let one : unit_row 40 held row (drop i blocks) ≡ held (get_or blocks i 0) row + 1099511627776 * rest = ap (unit_row 40 held row) (one_off blocks i 0 lt) in
    omega (arith, one, above, here)

-- the upper blocks hold no more than all
unit-above : (held : Blocks) (row : ℕ) (blocks : List ℕ) (i : ℕ) → unit_row 40 held row (drop i blocks) ≤ unit_row 40 held row blocks
unit-above held row blocks zero = omega arith
unit-above held row [] (suc i) = omega arith
unit-above held row (block ∷ blocks) (suc i) =
    let more = unit-above held row blocks i in
    let e : unit_row 40 held row (block ∷ blocks) ≡ held block row + 1099511627776 * unit_row 40 held row blocks = refl in
    omega (arith, more, e)

-- a block and those above it hold no more than all
pub unit-so_far : (held : Blocks) (row : ℕ) (blocks : List ℕ) (left key word : ℕ) → 0 < left → left ≤ length blocks → key ≡ unit_row 40 held row (drop left blocks)
    → word ≡ held (get_or blocks (left - 1) 0) row → key * 1099511627776 + word ≤ unit_row 40 held row blocks
unit-so_far held row blocks left key word some within above here =
    let i = left - 1 in
    let at : left ≡ i + 1 = omega (arith, some) in
    let there : i < length blocks = omega (arith, some, within) in
    let step = unit-step held row blocks i key word there (above ∙ ap (λ n. unit_row 40 held row (drop n blocks)) at) here in
    omega (arith, step, unit-above held row blocks i)

-- blocks that hold no more, side by side
unit-within : (f g : Blocks) (row : ℕ) (blocks : List ℕ) → ((b r : ℕ) → f b r ≤ g b r) → unit_row 40 f row blocks ≤ unit_row 40 g row blocks
unit-within f g row [] h = omega arith
unit-within f g row (block ∷ blocks) h =
    let more = unit-within f g row blocks h in
    let here = h block row in
    let ef : unit_row 40 f row (block ∷ blocks) ≡ f block row + 1099511627776 * unit_row 40 f row blocks = refl in
    let eg : unit_row 40 g row (block ∷ blocks) ≡ g block row + 1099511627776 * unit_row 40 g row blocks = refl in
    omega (arith, more, here, ef, eg)

-- the values of a row of blocks are at most their masks
pub values-within : (rows : List TcamRow) (row : ℕ) (blocks : List ℕ) → All (λ (r : TcamRow). r.value ≤ r.mask) rows
    → unit_row 40 (tcam_row (λ (t : TcamRow). t.value) rows) row blocks ≤ unit_row 40 (tcam_row (λ (t : TcamRow). t.mask) rows) row blocks
values-within rows row blocks h =
    unit-within (tcam_row (λ (t : TcamRow). t.value) rows) (tcam_row (λ (t : TcamRow). t.mask) rows) row blocks (λ b r. value-within rows b r h)

-- ---- the rows of a part's stage

stage-rows : (stages : List Stage) (k : ℕ) (stage : Stage) → slice_get stages k ≡ Some stage → list_all rows_are_formed stages ≡ true → rows_are_formed stage ≡ true
stage-rows [] k stage e h = absurd (none-some stage e)
stage-rows (x ∷ xs) zero stage e h = subst (λ (y : Stage). rows_are_formed y ≡ true) (same_Some x stage e) (and_parts (rows_are_formed x) (list_all rows_are_formed xs) h).0
stage-rows (x ∷ xs) (suc k) stage e h = stage-rows xs k stage e (and_parts (rows_are_formed x) (list_all rows_are_formed xs) h).1

row-within : (units : List Unit) (r : TcamRow) → trow_is_formed units r ≡ true → r.value ≤ r.mask
row-within units r h =
    let same : bit_and r.value r.mask ≡ r.value = eqb-true (bit_and r.value r.mask) r.value (and_parts (ltb r.row 2048 && is_listed r.block (flat_map tcam_blocks units) && not (r.mask == 0)) (bit_and r.value r.mask == r.value) h).1 in
    omega (arith, same, and_le_r r.value r.mask)

pub prefix-rows : (c : Config) (p : PartAt) → (stands : PartStands c p) → MemoryIsFormed c → PrefixRows stands.stage.trows
prefix-rows c p stands memory =
    let rows = stage-rows c.stages p.stage stands.stage stands.in_stages memory.rows in
    let tall = (and_parts _ _ (and_parts _ _ rows).0).1 in
    record {
      rise = stands.rows.trise;
      low = stands.rows.tlow;
      within = All-from_test (λ (r : TcamRow). r.value ≤ r.mask) (trow_is_formed stands.stage.units) (row-within stands.stage.units) stands.stage.trows tall;
    }

-- ---- a cell of a part

-- listed cells of a part are among all that it has
pub cells-within : (c : Config) (p : PartAt) → PartStands c p → All (λ (n : CellNumber). n.cell < cells_in p.slot.memory) p.slot.numbers
cells-within c p stands =
    All-from_test (λ (n : CellNumber). n.cell < cells_in p.slot.memory) (λ (n : CellNumber). ltb n.cell (cells_in p.slot.memory)) (λ n e. ltb-true n.cell (cells_in p.slot.memory) e) p.slot.numbers
    (sym (list_all-map (λ n. ltb n (cells_in p.slot.memory)) (λ (n : CellNumber). n.cell) p.slot.numbers) ∙ (and_parts _ _ (and_parts _ _ stands.holds.numbers).0).1)

module _ (c : Config) (p : PartAt) (stands : PartStands c p) (d : ℕ) (ks rs cs : List ℕ) (is : p.slot.memory ≡ Ternary d ks rs cs) where
  -- the masks of a part's cells have no bit behind the key
  part-ends : EndsAt 40 (tcam_row (λ (t : TcamRow). t.mask) stands.stage.trows) ks (divided_up (bits_of_lanes p.slot.keys) 40) (bits_of_lanes p.slot.keys)
  part-ends = ends-say stands.stage p.slot d ks rs cs (subst (λ (m : Memory). MemoryEnds stands.stage p.slot m) is stands.holds.ends)
    where
      ends-say : (stage : Stage) (s : SlotUnit) (d : ℕ) (ks rs cs : List ℕ) → MemoryEnds stage s (Ternary d ks rs cs)
          → EndsAt 40 (tcam_row (λ (t : TcamRow). t.mask) stage.trows) ks (divided_up (bits_of_lanes s.keys) 40) (bits_of_lanes s.keys)
      ends-say stage s d ks rs cs (ternary _ _ _ _ ends behind) = ends

  -- what a cell holds, from the rows of its blocks
  key-there : (n : ℕ)
      → unit_row 40 (tcam_row (λ (t : TcamRow). t.value) stands.stage.trows) (n % 2048) (blocks_at ks (divided_up (bits_of_lanes p.slot.keys) 40) (n / 2048))
      ≡ (own_content c p.stage p.place n).key
  key-there n = sym (ap (λ x. x.key) (held-is c p stands n) ∙ ap (λ (m : Memory). (content_of stands.stage (record p.slot { memory = m }) n).key) is)

  mask-there : (n : ℕ)
      → unit_row 40 (tcam_row (λ (t : TcamRow). t.mask) stands.stage.trows) (n % 2048) (blocks_at ks (divided_up (bits_of_lanes p.slot.keys) 40) (n / 2048))
      ≡ (own_content c p.stage p.place n).mask
  mask-there n = sym (ap (λ x. x.mask) (held-is c p stands n) ∙ ap (λ (m : Memory). (content_of stands.stage (record p.slot { memory = m }) n).mask) is)

  -- rows and blocks as they are read are those of the cell
  values-read : (val : TcamRow → ℕ) (n side : ℕ) (rows : List TcamRow) (blocks keys : List ℕ) → rows ≡ stands.stage.trows → side ≡ divided_up (bits_of_lanes p.slot.keys) 40
      → keys ≡ ks → blocks ≡ blocks_at keys side (n / 2048)
      → unit_row 40 (tcam_row val rows) (n % 2048) blocks
      ≡ unit_row 40 (tcam_row val stands.stage.trows) (n % 2048) (blocks_at ks (divided_up (bits_of_lanes p.slot.keys) 40) (n / 2048))
  values-read val n side rows blocks keys er es ek eb =
      ap (λ (rs : List TcamRow). unit_row 40 (tcam_row val rs) (n % 2048) blocks) er
      ∙ ap (unit_row 40 (tcam_row val stands.stage.trows) (n % 2048))
      (eb ∙ ap (λ s. blocks_at keys s (n / 2048)) es ∙ ap (λ bs. blocks_at bs (divided_up (bits_of_lanes p.slot.keys) 40) (n / 2048)) ek)

  pub key-read : (n side : ℕ) (rows : List TcamRow) (blocks keys : List ℕ) → rows ≡ stands.stage.trows → side ≡ divided_up (bits_of_lanes p.slot.keys) 40
      → keys ≡ ks → blocks ≡ blocks_at keys side (n / 2048)
      → unit_row 40 (tcam_row (λ (t : TcamRow). t.value) rows) (n % 2048) blocks ≡ (own_content c p.stage p.place n).key
  key-read n side rows blocks keys er es ek eb = values-read (λ t. t.value) n side rows blocks keys er es ek eb ∙ key-there n

  pub mask-read : (n side : ℕ) (rows : List TcamRow) (blocks keys : List ℕ) → rows ≡ stands.stage.trows → side ≡ divided_up (bits_of_lanes p.slot.keys) 40
      → keys ≡ ks → blocks ≡ blocks_at keys side (n / 2048)
      → unit_row 40 (tcam_row (λ (t : TcamRow). t.mask) rows) (n % 2048) blocks ≡ (own_content c p.stage p.place n).mask
  mask-read n side rows blocks keys er es ek eb = values-read (λ t. t.mask) n side rows blocks keys er es ek eb ∙ mask-there n

  -- a key and its mask have no bit behind the key's
  pub mask-small : (n : ℕ) → (own_content c p.stage p.place n).mask < 2 ^ bits_of_lanes p.slot.keys
  mask-small n = subst (λ x. x < 2 ^ bits_of_lanes p.slot.keys) (mask-there n) (part-ends (n / 2048) (n % 2048))

  pub key-small : MemoryIsFormed c → (n : ℕ) → (own_content c p.stage p.place n).key < 2 ^ bits_of_lanes p.slot.keys
  key-small memory n =
      let within = values-within stands.stage.trows (n % 2048) (blocks_at ks (divided_up (bits_of_lanes p.slot.keys) 40) (n / 2048)) (prefix-rows c p stands memory).within in
      omega (arith, within, key-there n, mask-there n, mask-small n)

  -- what rows and blocks as they are read say of a cell
  pub record CellRead (n : ℕ) (rows : List TcamRow) (blocks : List ℕ) : Type 0 where
    pub key : unit_row 40 (tcam_row (λ (t : TcamRow). t.value) rows) (n % 2048) blocks ≡ (own_content c p.stage p.place n).key
    pub mask : unit_row 40 (tcam_row (λ (t : TcamRow). t.mask) rows) (n % 2048) blocks ≡ (own_content c p.stage p.place n).mask
    pub small_key : (own_content c p.stage p.place n).key < 2 ^ bits_of_lanes p.slot.keys
    pub small_mask : (own_content c p.stage p.place n).mask < 2 ^ bits_of_lanes p.slot.keys

  -- from the stage, its rows, the blocks of the part and those of the cell, as they are read one after another
  pub cell-read : {stages : List Stage} {stage : Stage} {rows : List TcamRow} {lanes : List Lane} {bits side : ℕ} {keys blocks : List ℕ} → MemoryIsFormed c → (n : ℕ)
      → stages ≡ c.stages → stage ≡ get_or stages p.stage stage → rows ≡ (get_or stages p.stage stage).trows
      → lanes ≡ p.slot.keys → bits ≡ bits_of_lanes lanes → side ≡ divided_up bits 40 → keys ≡ ks → blocks ≡ blocks_at keys side (n / 2048) → CellRead n rows blocks
  cell-read memory n all at own el eb es ek eu =
      let rows_are = rows-in (λ (x : Stage). x.trows) c p stands all at own in
      let side_is = es ∙ ap (λ b. divided_up b 40) (eb ∙ ap bits_of_lanes el) in
      record {
        key = key-read n _ _ _ _ rows_are side_is ek eu;
        mask = mask-read n _ _ _ _ rows_are side_is ek eu;
        small_key = key-small memory n;
        small_mask = mask-small n;
      }

-- what has no bit behind those of a short key fits 128 bits
pub short-fits : (x bits : ℕ) → x < 2 ^ bits → bits ≤ 128 → x < 2 ^ 128
short-fits x bits lt le = let more : 2 ^ bits ≤ 2 ^ 128 = pow_mono le in omega (arith, lt, more)
