-- An entry that a cell of a well-formed configuration spells is one of its table.
use Rattle.std.proofs.Common.{◌≡◌, inl, inr, ℕ, ◌+◌, ◌-◌, ◌*◌, ◌/◌, ◌%◌, ◌^◌, ◌<◌, ◌≤◌, ◌&&◌, true, eqb, ltb, List, [], ◌∷◌, get_or, length, map, sum, Option, Some, None, option_map, unwrap_or, refl, sym, ap, ◌∙◌, subst, arith}
use Rattle.std.specs.Prelude.{All, Contains, IsSomeAnd, bit_and, find, is_some, not, slice_get}
use Rattle.std.specs.List.{AllZip, flat_map, range_with_len}
use Rattle.std.proofs.lemmas.Bool.{and_parts, eqb-true, false≢true, leb-true, ltb-true}
use Rattle.std.proofs.lemmas.List.Elements.{All-contains}
use Rattle.std.proofs.lemmas.List.Sums.{sum_by-cons}
use Rattle.std.proofs.lemmas.Nat.{and_le_r, and_mask, and_mod, and_shr, mod_below, mod_low, pow-add, pow_pos, shr_high}
use Rattle.std.proofs.lemmas.Option.{slice_get-map}
use Rattle.std.proofs.Math.Nat.{div-one, mod-eq_of_lt}
use Rattle.rmt_bits.specs.Bits.{slice}
use Rattle.rmt_bits.proofs.AllLaws.{All-find, All-from_test, All-range, All-slice_get}
use Rattle.rmt_bits.proofs.BitLaws.{slice-and, slice-lt, slice-slice, slice-whole}
use Rattle.rmt_bits.proofs.ListLaws.{find-passes, slice_get-item}
use Rattle.rmt_ast.specs.declared.names.ActionName.{ActionName}
use Rattle.rmt_ast.specs.declared.names.Names.{Names}
use Rattle.rmt_ast.specs.declared.names.TableName.{TableName}
use Rattle.rmt_ast.specs.declared.program.Kind.{Kind}
use Rattle.rmt_ast.specs.declared.program.Kind.TheVariants as kind
use Rattle.rmt_ast.specs.EntryLists.{HasRank, IsEntry, IsPrefix, IsWhole}
use Rattle.rmt_ast.specs.NameRules.{has_fields, terms_of_name}
use Rattle.rmt_ast.specs.WellFormed.{Fits, IsTest}
use Rattle.rmt_config.specs.declared.config.CellNumber.{CellNumber}
use Rattle.rmt_config.specs.declared.config.Config.{Config}
use Rattle.rmt_config.specs.declared.config.Memory.{Memory}
use Rattle.rmt_config.specs.declared.config.Memory.TheVariants.{Without, Exact, Ternary}
use Rattle.rmt_config.specs.declared.config.Stage.{Stage}
use Rattle.rmt_config.specs.declared.config.TcamRow.{TcamRow}
use Rattle.rmt_config.specs.Cells.{Content, blocks_at, cells_in, code_of, is_occupied, tcam_row, unit_row}
use Rattle.rmt_config.specs.Form.{Formed, visible_with}
use Rattle.rmt_config.specs.LaneForm.{bits_of_lanes}
use Rattle.rmt_config.specs.NamesForm.{args_of_data, entry_in, held_by, is_of_kind, params_in, prefix_length, rank_in, tests_of_key}
use Rattle.rmt_config.specs.PartStands.{PartStands}
use Rattle.rmt_config.specs.Rooms.{PartAt}
use Rattle.rmt_config.specs.BlockCounts.{divided_up}
use Rattle.rmt_config.specs.StageForm.{is_listed, rows_are_formed, tcam_blocks, trow_is_formed}
use Rattle.rmt_config.proofs.PrefixRowLaws.{cells-within, key-read, mask-read}
use Rattle.rmt_update.specs.Fitting.{HasEntry, IsFitting, MaskFits}
use Rattle.rmt_update.proofs.FitOwn.{own_fit}
use Rattle.rmt_book.proofs.NamedLaws.{params-at}
use Rattle.rmt_update.proofs.PartHoldLaws.{part-slot}
use Rattle.rmt_book.proofs.ToldEntryLaws.{IsHead, PartFacts, head-occupied, listed-heads}

-- ---- tests and arguments

-- the fields of a key that has no bit outside its mask
tests-fit : (ws : List ℕ) (key mask : ℕ) → bit_and key mask ≡ key → AllZip IsTest ws (tests_of_key ws key mask)
tests-fit [] key mask e = tt
tests-fit (w ∷ ws) key mask e = (
  record {
    value_fits = slice-lt key (sum ws) w;
    mask_fits = slice-lt mask (sum ws) w;
    value_is_masked = sym (slice-and key mask (sum ws) w) ∙ ap (λ v. slice v (sum ws) w) e;
  },
  tests-fit ws key mask e,
)

-- the highest and the lowest of a run of bits that are all set
ones : (w s : ℕ) → (slice (2 ^ (w + s) - 1) s w ≡ 2 ^ w - 1) × (slice (2 ^ (w + s) - 1) 0 s ≡ 2 ^ s - 1)
ones w s =
    let low = 2 ^ s - 1 in
    let high = 2 ^ w - 1 in
    let some : 1 ≤ 2 ^ w = pow_pos w in
    let more : 1 ≤ 2 ^ s = pow_pos s in
    let below : low < 2 ^ s = omega (arith, more) in
    let whole : 2 ^ (w + s) ≡ (high + 1) * 2 ^ s = pow-add 2 w s ∙ ap (λ n. n * 2 ^ s) (let e : 2 ^ w ≡ high + 1 = omega (arith, some) in e) in
    let split : 2 ^ (w + s) - 1 ≡ high * 2 ^ s + low = omega (arith, whole, more) in
    let top : high < 2 ^ w = omega (arith, some) in (
      ap (λ v. v / 2 ^ s % 2 ^ w) split ∙ ap (λ v. v % 2 ^ w) (shr_high high s low below) ∙ mod-eq_of_lt top,
      ap (λ v. v / 2 ^ 0 % 2 ^ s) split ∙ ap (λ v. v % 2 ^ s) (div-one (high * 2 ^ s + low)) ∙ mod_low high s low below,
    )

wholes-fit : (ws : List ℕ) (key mask : ℕ) → slice mask 0 (sum ws) ≡ 2 ^ sum ws - 1 → AllZip IsWhole ws (tests_of_key ws key mask)
wholes-fit [] key mask e = tt
wholes-fit (w ∷ ws) key mask e =
    let s = sum ws in
    let all : sum (w ∷ ws) ≡ w + s = sum_by-cons (λ n. n) w ws in
    let here : slice mask 0 (w + s) ≡ 2 ^ (w + s) - 1 = ap (slice mask 0) (sym all) ∙ e ∙ ap (λ n. 2 ^ n - 1) all in
    let up : 0 + s ≡ s = omega arith in
    let both = ones w s in (
      ap (λ n. slice mask n w) (sym up) ∙ sym (slice-slice mask 0 (w + s) s w (omega arith)) ∙ ap (λ v. slice v s w) here ∙ both.0,
      wholes-fit ws key mask (sym (slice-slice mask 0 (w + s) 0 s (omega arith)) ∙ ap (λ v. slice v 0 s) here ∙ both.1),
    )

-- a mask of the highest bits
prefix-fit : (ws : List ℕ) (key mask : ℕ) → length ws ≡ 1 → mask < 2 ^ sum ws → is_some (prefix_length (sum ws) mask) ≡ true
    → AllZip (IsPrefix (unwrap_or (prefix_length (sum ws) mask) 0)) ws (tests_of_key ws key mask)
prefix-fit [] key mask one lt some = absurd (omega (arith, one))
prefix-fit (w ∷ v ∷ ws) key mask one lt some = absurd (omega (arith, one))
prefix-fit (w ∷ []) key mask one lt some = by (prefix_length (sum (w ∷ [])) mask) refl some
  where
    all : sum (w ∷ []) ≡ w
    all = let e : sum (w ∷ []) ≡ w + sum [] = sum_by-cons (λ n. n) w [] in omega (arith, e)

    by : (o : Option ℕ) → prefix_length (sum (w ∷ [])) mask ≡ o → is_some o ≡ true → AllZip (IsPrefix (unwrap_or o 0)) (w ∷ []) (tests_of_key (w ∷ []) key mask)
    by None e some = absurd (false≢true some)
    by (Some len) e some =
        let bits = sum (w ∷ []) in
        let test : mask ≡ 2 ^ bits - 2 ^ (bits - len) =
        eqb-true mask (2 ^ bits - 2 ^ (bits - len)) (find-passes (λ n. eqb mask (2 ^ bits - 2 ^ (bits - n))) (range_with_len 0 (bits + 1)) len e) in
        let low : len < 0 + (bits + 1) =
        All-find (λ n. n < 0 + (bits + 1)) (λ n. eqb mask (2 ^ bits - 2 ^ (bits - n))) (range_with_len 0 (bits + 1)) len (All-range (λ n. n < 0 + (bits + 1)) 0 (bits + 1) (λ n below. below)) e in
        ((omega (arith, low, all), slice-whole mask w (subst (λ n. mask < 2 ^ n) all lt) ∙ test ∙ ap (λ n. 2 ^ n - 2 ^ (n - len)) all), tt)

args-fit : (ws : List ℕ) (held : ℕ) → AllZip Fits ws (args_of_data ws held)
args-fit [] held = tt
args-fit (w ∷ ws) held = (mod_below held (2 ^ w) (pow_pos w), args-fit ws (held / 2 ^ w))

-- ---- rows of TCAM

-- a row's value has no bit outside its mask, and both have 40 bits
record IsMasked (r : TcamRow) : Type 0 where
  masked : bit_and r.value r.mask ≡ r.value
  low : r.mask < 2 ^ 40

row-masked : (rows : List TcamRow) (b row : ℕ) → All IsMasked rows → (bit_and (tcam_row (λ (t : TcamRow). t.value) rows b row) (tcam_row (λ (t : TcamRow). t.mask) rows b row) ≡ tcam_row (λ (t : TcamRow). t.value) rows b row)
    × (tcam_row (λ (t : TcamRow). t.value) rows b row < 2 ^ 40) × (tcam_row (λ (t : TcamRow). t.mask) rows b row < 2 ^ 40)
row-masked rows b row all = by (find (λ (r : TcamRow). (eqb r.block b) && (eqb r.row row)) rows) refl
  where
    value : Option TcamRow → ℕ
    value o = unwrap_or (option_map (λ (t : TcamRow). t.value) o) 0

    mask : Option TcamRow → ℕ
    mask o = unwrap_or (option_map (λ (t : TcamRow). t.mask) o) 0

    by : (o : Option TcamRow) → find (λ (r : TcamRow). (eqb r.block b) && (eqb r.row row)) rows ≡ o → (bit_and (value o) (mask o) ≡ value o) × (value o < 2 ^ 40) × (mask o < 2 ^ 40)
    by None e = (refl, omega arith, omega arith)
    by (Some r) e =
        let m = All-find IsMasked (λ (r : TcamRow). (eqb r.block b) && (eqb r.row row)) rows r all e in
        let same = m.masked in
        let low = m.low in
        (m.masked, omega (arith, same, low, and_le_r r.value r.mask), m.low)

unit-masked : (rows : List TcamRow) (row : ℕ) (blocks : List ℕ) → All IsMasked rows
    → bit_and (unit_row 40 (tcam_row (λ (t : TcamRow). t.value) rows) row blocks) (unit_row 40 (tcam_row (λ (t : TcamRow). t.mask) rows) row blocks)
    ≡ unit_row 40 (tcam_row (λ (t : TcamRow). t.value) rows) row blocks
unit-masked rows row [] all = refl
unit-masked rows row (block ∷ blocks) all =
    let v = tcam_row (λ (t : TcamRow). t.value) rows block row in
    let m = tcam_row (λ (t : TcamRow). t.mask) rows block row in
    let vs = unit_row 40 (tcam_row (λ (t : TcamRow). t.value) rows) row blocks in
    let ms = unit_row 40 (tcam_row (λ (t : TcamRow). t.mask) rows) row blocks in
    joined v m vs ms (row-masked rows block row all) (unit-masked rows row blocks all)
  where
    joined : (v m vs ms : ℕ) → (bit_and v m ≡ v) × (v < 2 ^ 40) × (m < 2 ^ 40) → bit_and vs ms ≡ vs → bit_and (v + 2 ^ 40 * vs) (m + 2 ^ 40 * ms) ≡ v + 2 ^ 40 * vs
    joined v m vs ms one rest =
        let x = v + 2 ^ 40 * vs in
        let y = m + 2 ^ 40 * ms in
        let lv = one.1 in
        let lm = one.2 in
        let xh : x / 2 ^ 40 ≡ vs = omega (arith, lv) in
        let xl : x % 2 ^ 40 ≡ v = omega (arith, lv) in
        let yh : y / 2 ^ 40 ≡ ms = omega (arith, lm) in
        let yl : y % 2 ^ 40 ≡ m = omega (arith, lm) in
        let high : bit_and x y / 2 ^ 40 ≡ x / 2 ^ 40 = and_shr x y 40 ∙ ap (λ n. bit_and n (y / 2 ^ 40)) xh ∙ ap (bit_and vs) yh ∙ rest ∙ sym xh in
        let low : bit_and x y % 2 ^ 40 ≡ x % 2 ^ 40 = and_mod x y 40 ∙ ap (λ n. bit_and n (y % 2 ^ 40)) xl ∙ ap (bit_and v) yl ∙ one.0 ∙ sym xl in
        omega (arith, high, low)

stage-masked : (c : Config) (p : PartAt) → Formed c → (st : PartStands c p) → All IsMasked st.stage.trows
stage-masked c p formed st =
    let rows = All-slice_get (λ (s : Stage). rows_are_formed s ≡ true) c.stages p.stage st.stage (All-from_test (λ (s : Stage). rows_are_formed s ≡ true) rows_are_formed (λ s e. e) c.stages formed.whole.rows) st.in_stages in
    let trows = All-from_test (λ (r : TcamRow). trow_is_formed st.stage.units r ≡ true) (trow_is_formed st.stage.units) (λ r e. e) st.stage.trows (and_parts _ _ (and_parts _ _ rows).0).1 in
    λ i d lt.
    let r = get_or st.stage.trows i d in
    record {
      masked =
          eqb-true (bit_and r.value r.mask) r.value
          (and_parts (ltb r.row 2048 && is_listed r.block (flat_map tcam_blocks st.stage.units) && not (eqb r.mask 0)) (eqb (bit_and r.value r.mask) r.value) (trows i d lt)).1;
      low = st.rows.tbits i d lt;
    }

-- ---- the entry of a cell

no-memory : (k : Kind) → is_of_kind k Without ≡ true → ⊥
no-memory kind.Keyless e = cc
no-memory kind.Exact e = cc
no-memory kind.Prefix e = cc
no-memory kind.Ternary e = cc

module _ (c : Config) (formed : Formed c) (names : Names) (named : c.names ≡ Some names) (t : TableName) (p : PartAt) (facts : PartFacts c t p) (n : CellNumber) (listed : Contains p.slot.numbers n) where
  head : IsHead c p n
  head = All-contains (IsHead c p) p.slot.numbers n (listed-heads c p facts.stands) listed

  -- what the cell holds of it
  cell : HasEntry p.slot (held_by c p n)
  cell = by (own_fit c names formed named p.stage p.place n.cell p.slot (part-slot c p facts.stands) (All-contains (λ (x : CellNumber). x.cell < cells_in p.slot.memory) p.slot.numbers n (cells-within c p facts.stands) listed))
    where
      by : {m : ℕ} → IsFitting p.slot (held_by c p n) m → HasEntry p.slot (held_by c p n)
      by (inr entry) = entry
      by (inl empty) =
          absurd (false≢true (sym (ap (λ (x : Content). is_occupied x.head) empty.0) ∙ head-occupied (visible_with c.names) p.first p.slot.actions (held_by c p n).head head))

  masked : bit_and (held_by c p n).key (held_by c p n).mask ≡ (held_by c p n).key
  masked = by p.slot.memory refl facts.kind cell.mask
    where
      by : (m : Memory) → p.slot.memory ≡ m → is_of_kind t.kind m ≡ true → MaskFits (bits_of_lanes p.slot.keys) m (held_by c p n).mask → bit_and (held_by c p n).key (held_by c p n).mask ≡ (held_by c p n).key
      by Without is kind mask = absurd (no-memory t.kind kind)
      by (Exact k per quanta first_way keys records counters) is kind mask =
          ap (bit_and (held_by c p n).key) mask ∙ and_mask (held_by c p n).key (bits_of_lanes p.slot.keys) ∙ mod-eq_of_lt cell.key
      by (Ternary d ks rs cs) is kind mask =
          let side = divided_up (bits_of_lanes p.slot.keys) 40 in
          let blocks = blocks_at ks side (n.cell / 2048) in
          let key = key-read c p facts.stands d ks rs cs is n.cell side facts.stands.stage.trows blocks ks refl refl refl refl in
          let mask = mask-read c p facts.stands d ks rs cs is n.cell side facts.stands.stage.trows blocks ks refl refl refl refl in
          ap (λ v. bit_and v (held_by c p n).mask) (sym key) ∙ ap (bit_and _) (sym mask) ∙ unit-masked facts.stands.stage.trows (n.cell % 2048) blocks (stage-masked c p formed facts.stands) ∙ key

  mask-low : (held_by c p n).mask < 2 ^ sum t.keys
  mask-low = subst (λ b. (held_by c p n).mask < 2 ^ b) (sym facts.bits) (by p.slot.memory facts.kind cell.mask)
    where
      by : (m : Memory) → is_of_kind t.kind m ≡ true → MaskFits (bits_of_lanes p.slot.keys) m (held_by c p n).mask → (held_by c p n).mask < 2 ^ bits_of_lanes p.slot.keys
      by Without kind mask = absurd (no-memory t.kind kind)
      by (Exact k per quanta first_way keys records counters) kind mask = let some = pow_pos (bits_of_lanes p.slot.keys) in omega (arith, mask, some)
      by (Ternary d ks rs cs) kind mask = mask

  -- of an exact table all bits count
  mask-whole : t.kind ≡ kind.Exact → slice (held_by c p n).mask 0 (sum t.keys) ≡ 2 ^ sum t.keys - 1
  mask-whole exact = slice-whole (held_by c p n).mask (sum t.keys) mask-low ∙ by p.slot.memory (subst (λ k. is_of_kind k p.slot.memory ≡ true) exact facts.kind) cell.mask ∙ ap (λ b. 2 ^ b - 1) (sym facts.bits)
    where
      by : (m : Memory) → is_of_kind kind.Exact m ≡ true → MaskFits (bits_of_lanes p.slot.keys) m (held_by c p n).mask → (held_by c p n).mask ≡ 2 ^ bits_of_lanes p.slot.keys - 1
      by Without is mask = absurd (no-memory kind.Exact is)
      by (Exact k per quanta first_way keys records counters) is mask = mask
      by (Ternary d ks rs cs) is mask = absurd (false≢true is)

  module _ (fields : has_fields t.kind t.keys ≡ true) (prefixes : t.kind ≡ kind.Prefix → is_some (prefix_length (sum t.keys) (held_by c p n).mask) ≡ true) (actions : length t.actions ≡ p.slot.actions) where
    rank-fits : HasRank t.kind t.keys (entry_in c t p n)
    rank-fits = by t.kind refl fields
      where
        by : (k : Kind) → t.kind ≡ k → has_fields k t.keys ≡ true → HasRank k t.keys (entry_in c t p n)
        by kind.Keyless is fields = tt
        by kind.Exact is fields = (wholes-fit t.keys (held_by c p n).key (held_by c p n).mask (mask-whole is), ap (λ k. rank_in k t (held_by c p n).mask n.number) is)
        by kind.Prefix is fields =
            subst (λ r. AllZip (IsPrefix r) t.keys (tests_of_key t.keys (held_by c p n).key (held_by c p n).mask)) (sym (ap (λ k. rank_in k t (held_by c p n).mask n.number) is))
            (prefix-fit t.keys (held_by c p n).key (held_by c p n).mask (eqb-true (length t.keys) 1 fields) mask-low (prefixes is))
        by kind.Ternary is fields = tt

    action-fits : IsSomeAnd (slice_get (map (λ (a : ActionName). a.params) t.actions) (entry_in c t p n).action) (λ params. AllZip Fits params (entry_in c t p n).args)
    action-fits =
        let h = and_parts _ _ head in
        let least : p.first ≤ code_of (held_by c p n).head = leb-true p.first (code_of (held_by c p n).head) (and_parts _ _ h.0).1 in
        let most : code_of (held_by c p n).head < p.first + p.slot.actions = ltb-true (code_of (held_by c p n).head) (p.first + p.slot.actions) h.1 in
        let a = code_of (held_by c p n).head - p.first in
        let x = slice_get-item t.actions a (omega (arith, least, most, actions)) in
        let there : slice_get (map (λ (y : ActionName). y.params) t.actions) a ≡ Some x.0.params = slice_get-map (λ (y : ActionName). y.params) t.actions a ∙ ap (option_map (λ (y : ActionName). y.params)) x.1 in
        let own : params_in t a ≡ x.0.params = params-at t a ∙ ap (λ (o : Option ActionName). unwrap_or (option_map (λ (y : ActionName). y.params) o) []) x.1 in
        subst (λ o. IsSomeAnd o (λ params. AllZip Fits params (args_of_data (params_in t a) (held_by c p n).held))) (sym there)
        (subst (λ ws. AllZip Fits x.0.params (args_of_data ws (held_by c p n).held)) (sym own) (args-fit x.0.params (held_by c p n).held))

    -- the entry is one of the table
    pub entry-spelled : IsEntry t.node (terms_of_name t) (entry_in c t p n)
    entry-spelled = record {
      table = refl;
      tests = tests-fit t.keys (held_by c p n).key (held_by c p n).mask masked;
      rank = rank-fits;
      action = action-fits;
    }
