-- Entries that are written into the rows of a ternary part, one after another.
use Rattle.std.proofs.Common.{◌≡◌, ◌≢◌, ℕ, ◌+◌, ◌*◌, ◌/◌, ◌%◌, ◌^◌, ◌<◌, List, [], ◌∷◌, ◌++◌, Some, get_or, refl, sym, ap, ◌∙◌, subst}
use Rattle.std.specs.Prelude.{All, AllPairs, Contains, slice_get}
use Rattle.std.proofs.lemmas.List.{get_or_default}
use Rattle.std.proofs.lemmas.List.Elements.{All-nil, All-push, All-contains, Contains-push}
use Rattle.std.proofs.lemmas.Nat.{div-add-mod', same_from_place}
use Rattle.rmt_bits.proofs.AllLaws.{All-left}
use Rattle.rmt_filling.specs.Types.{Program, Table}
use Rattle.rmt_ast.specs.declared.entry.Entry.{Entry}
use Rattle.rmt_config.specs.CellForm.{EndsAt}
use Rattle.rmt_config.specs.Cells.{Blocks, blocks_at, row_key, unit_row}
use Rattle.rmt_config.specs.BlockCounts.{divided_up}
use Rattle.rmt_pack.specs.declared.shape.Shape.{Shape}
use Rattle.rmt_pack.specs.Cells.{PutsRecord, record_of, thousands_in}
use Rattle.rmt_pack.specs.Shape.{IsShape, cells_in}
use Rattle.rmt_pack.proofs.BlockLaws.{ends-kept, ends-zero, part-item, place-same, unit_row-zero}
use Rattle.rmt_pack.proofs.CellLaws.{records-stay}
use Rattle.rmt_pack.proofs.RecordLaws.{record-entry, record-others, record-zero, records_end-zero}
use Rattle.rmt_pack.proofs.RunLaws.{unit_row-same}
use Rattle.rmt_filling.specs.declared.stands.Stand.{Stand}
use Rattle.rmt_filling.specs.Holding.{Held, PutsRow, TernaryHolds, TernarySo, data_for, head_for, mask_for, value_for}
use Rattle.rmt_filling.proofs.ExactLaws.{UnitsStay, record_ends-so, records_end-same, units-same}
use Rattle.rmt_bits.proofs.ListLaws.{part-below}

-- another unit, or another row
pub unit-other : (size : ℕ) (old new : Blocks) (bs : List ℕ) (each u row u' row' : ℕ) → AllPairs ◌≢◌ bs → ((b r : ℕ) → (r ≡ row → Contains (blocks_at bs each u) b → ⊥) → new b r ≡ old b r)
    → (u' ≡ u → row' ≡ row → ⊥) → unit_row size new row' (blocks_at bs each u') ≡ unit_row size old row' (blocks_at bs each u')
unit-other size old new bs each u row u' row' apart elsewhere other =
    let its = blocks_at bs each u' in
    let own = blocks_at bs each u in
    unit_row-same size new old row' its (λ i li.
    elsewhere (get_or its i 0) row' (λ er has.
    let k = has.0 in
    let x = get_or its i 0 in
    let mine = part-below each (u * each) k bs has.1 in
    let theirs = part-below each (u' * each) i bs li in
    let same : u * each + k ≡ u' * each + i =
    place-same bs (u * each + k) (u' * each + i) apart mine.1 theirs.1
    (sym (part-item each (u * each) k 0 bs has.1) ∙ get_or_default own k 0 x has.1 ∙ has.2 ∙ part-item each (u' * each) i 0 bs li) in
    other (sym (same_from_place u k u' i each mine.0 theirs.0 same).0) er))

-- the key of another row
pub key-other : (old new : Blocks) (keys : List ℕ) (bits n x m : ℕ) → AllPairs ◌≢◌ keys → PutsRow old new (n % 2048) (blocks_at keys (divided_up bits 40) (n / 2048)) x → m ≢ n
    → row_key new keys bits m ≡ row_key old keys bits m
key-other old new keys bits n x m apart puts ne =
    unit-other 40 old new keys (divided_up bits 40) (n / 2048) (n % 2048) (m / 2048) (m % 2048) apart puts.elsewhere
    (λ eu er. ne (sym (div-add-mod' m 2048) ∙ ap (λ k. k * 2048 + m % 2048) eu ∙ ap (λ k. n / 2048 * 2048 + k) er ∙ div-add-mod' n 2048))

-- no bit stands past the key
pub key-ends : (old new : Blocks) (keys : List ℕ) (bits n x : ℕ) → AllPairs ◌≢◌ keys → x < 2 ^ bits → PutsRow old new (n % 2048) (blocks_at keys (divided_up bits 40) (n / 2048)) x
    → EndsAt 40 old keys (divided_up bits 40) bits → EndsAt 40 new keys (divided_up bits 40) bits
key-ends old new keys bits n x apart small puts =
    ends-kept 40 old new keys each (n / 2048) (n % 2048) bits (subst (λ (k : ℕ). k < 2 ^ bits) (sym puts.here) small)
    (λ u' row'. unit-other 40 old new keys each (n / 2048) (n % 2048) u' row' apart puts.elsewhere)
  where
    each : ℕ
    each = divided_up bits 40

module _ (p : Program) (t : Table) (es : List Entry) (first : ℕ) where
  -- none, in rows that are all 0
  abbrev pub zeros : Held
  zeros = record { sram = λ b r. 0; values = λ b r. 0; masks = λ b r. 0 }

  pub ternary-none : (s : Shape) (keys : List ℕ) → IsShape s → TernarySo p t es first zeros s keys []
  ternary-none s keys is = record {
    holds = All-nil (TernaryHolds p t es first zeros s keys);
    clear = λ n lt none. (
      record-zero (λ b r. 0) s n is (λ b r. refl),
      unit_row-zero 40 (λ b r. 0) (n % 2048) (blocks_at keys (divided_up s.key 40) (n / 2048)) (λ b r. refl),
      unit_row-zero 40 (λ b r. 0) (n % 2048) (blocks_at keys (divided_up s.key 40) (n / 2048)) (λ b r. refl),
    );
    ends = ends-zero 40 (λ b r. 0) keys (divided_up s.key 40) s.key (λ b r. refl);
    records = records_end-zero (λ b r. 0) s.records s.quanta (thousands_in s) s.held (λ b r. refl);
  }

  -- where the part's blocks stay
  pub ternary-same : (old new : Held) (s : Shape) (keys : List ℕ) (stands : List Stand) → ((b r : ℕ) → Contains s.records b → new.sram b r ≡ old.sram b r)
      → ((b r : ℕ) → Contains keys b → new.values b r ≡ old.values b r) → ((b r : ℕ) → Contains keys b → new.masks b r ≡ old.masks b r)
      → TernarySo p t es first old s keys stands → TernarySo p t es first new s keys stands
  ternary-same old new s keys stands same same_values same_masks so =
      let each = divided_up s.key 40 in
      let records : UnitsStay old.sram new.sram s.records = units-same 112 old.sram new.sram s.records same in
      let values = units-same 40 old.values new.values keys same_values in
      let masks = units-same 40 old.masks new.masks keys same_masks in
      record {
        holds = λ k d lt. let x = so.holds k d lt in let n = (get_or stands k d).cell in record {
          entry = x.entry;
          is = x.is;
          data_is = records-stay old.sram new.sram s records n ∙ x.data_is;
          value = values (n % 2048) each (n / 2048) ∙ x.value;
          mask = masks (n % 2048) each (n / 2048) ∙ x.mask;
        };
        clear = λ n lt none. let x = so.clear n lt none in (
          records-stay old.sram new.sram s records n ∙ x.0,
          values (n % 2048) each (n / 2048) ∙ x.1,
          masks (n % 2048) each (n / 2048) ∙ x.2,
        );
        ends = λ unit row. subst (λ (m : ℕ). m < 2 ^ s.key) (sym (masks row each unit)) (so.ends unit row);
        records = records_end-same old.sram new.sram s.records s.quanta (thousands_in s) s.held records so.records;
      }

  -- none, in rows of blocks that are all 0
  pub ternary-start : (h : Held) (s : Shape) (keys : List ℕ) → IsShape s → ((b r : ℕ) → Contains s.records b → h.sram b r ≡ 0)
      → ((b r : ℕ) → Contains keys b → h.values b r ≡ 0) → ((b r : ℕ) → Contains keys b → h.masks b r ≡ 0) → TernarySo p t es first h s keys []
  ternary-start h s keys is none none_value none_mask = ternary-same zeros h s keys [] none none_value none_mask (ternary-none s keys is)

  -- one more
  pub ternary-step : (old new : Held) (s : Shape) (keys : List ℕ) (stands : List Stand) (x : Stand) (e : Entry) → IsShape s → s.held < 2 ^ 16 → AllPairs ◌≢◌ keys
      → x.cell < cells_in s → All (λ (y : Stand). y.cell < cells_in s) stands → All (λ (y : Stand). y.cell ≢ x.cell) stands → slice_get es x.entry ≡ Some e
      → head_for (first + e.action) + 256 * data_for p t e < 2 ^ s.held → mask_for p t e < 2 ^ s.key
      → PutsRecord old.sram new.sram s x.cell (head_for (first + e.action) + 256 * data_for p t e)
      → PutsRow old.values new.values (x.cell % 2048) (blocks_at keys (divided_up s.key 40) (x.cell / 2048)) (value_for p t e)
      → PutsRow old.masks new.masks (x.cell % 2048) (blocks_at keys (divided_up s.key 40) (x.cell / 2048)) (mask_for p t e)
      → TernarySo p t es first old s keys stands → TernarySo p t es first new s keys (stands ++ x ∷ [])
  ternary-step old new s keys stands x e is held keys_apart below all_below apart at small_data small_mask puts value mask so = record {
    holds = All-push (TernaryHolds p t es first new s keys) stands x
        (λ k d lt. let y = so.holds k d lt in let n = (get_or stands k d).cell in record {
          entry = y.entry;
          is = y.is;
          data_is = stays n (all_below k d lt) (apart k d lt) ∙ y.data_is;
          value = key-other old.values new.values keys s.key x.cell (value_for p t e) n keys_apart value (apart k d lt) ∙ y.value;
          mask = key-other old.masks new.masks keys s.key x.cell (mask_for p t e) n keys_apart mask (apart k d lt) ∙ y.mask;
        })
        (record { entry = e; is = at; data_is = record-entry old.sram new.sram s x.cell data_is is small_data puts; value = value.here; mask = mask.here });
    clear = λ n lt none.
        let ne : n ≢ x.cell = λ same. All-contains (λ (y : Stand). y.cell ≢ n) (stands ++ x ∷ []) x none (Contains-push stands x) (sym same) in
        let was = so.clear n lt (All-left (λ (y : Stand). y.cell ≢ n) stands (x ∷ []) none) in (
          stays n lt ne ∙ was.0,
          key-other old.values new.values keys s.key x.cell (value_for p t e) n keys_apart value ne ∙ was.1,
          key-other old.masks new.masks keys s.key x.cell (mask_for p t e) n keys_apart mask ne ∙ was.2,
        );
    ends = key-ends old.masks new.masks keys s.key x.cell (mask_for p t e) keys_apart small_mask mask so.ends;
    records = record_ends-so old.sram new.sram s x.cell data_is is held below small_data puts so.records;
  }
    where
      data_is : ℕ
      data_is = head_for (first + e.action) + 256 * data_for p t e

      stays : (n : ℕ) → n < cells_in s → n ≢ x.cell → record_of new.sram s n ≡ record_of old.sram s n
      stays n lt ne = record-others old.sram new.sram s x.cell data_is is held below small_data puts n lt ne
