-- What a part holds stays where its blocks do.
use Rattle.std.proofs.Common.{◌≡◌, ℕ, ◌+◌, ◌-◌, ◌*◌, ◌/◌, ◌%◌, ◌^◌, ◌<◌, List, refl, sym, ap, subst, ◌∙◌, get_or, map}
use Rattle.std.specs.Prelude.{Contains}
use Rattle.std.proofs.lemmas.List.Elements.{Contains-append_left, Contains-append_right}
use Rattle.rmt_build.specs.Types.{Program, Table, Memory}
use Rattle.rmt_ast.specs.declared.entry.Entry.{Entry}
use Rattle.rmt_ast.specs.State.{width_of}
use Rattle.rmt_config.specs.declared.config.Memory.TheVariants.{Without, Exact, Ternary}
use Rattle.rmt_config.specs.CellForm.{is_clear}
use Rattle.rmt_config.specs.Cells.{Content, data_at, entry_at, cell_of, record_at, row_key, row_record, visible_bits}
use Rattle.rmt_config.specs.BlockCounts.{divided_up, record_units, record_width, records_a_row}
use Rattle.rmt_config.specs.StageForm.{memory_sram_blocks, memory_tcam_blocks}
use Rattle.rmt_refine.specs.Cells.{HoldsEntry}
use Rattle.rmt_bits.specs.Bits.{slice}
use Rattle.rmt_filling.specs.declared.stands.Stand.{Stand}
use Rattle.rmt_filling.specs.Holding.{EndsIn, Held, content_in}
use Rattle.rmt_build.specs.HeldParts.{PartHolds}
use Rattle.rmt_filling.proofs.ExactLaws.{UnitsStay, ends-same, records_end-same, units-same}

-- the blocks of a memory hold the same
pub record Agree (old new : Held) (m : Memory) : Type 0 where
  pub sram : (b r : ℕ) → Contains (memory_sram_blocks m) b → new.sram b r ≡ old.sram b r
  pub values : (b r : ℕ) → Contains (memory_tcam_blocks m) b → new.values b r ≡ old.values b r
  pub masks : (b r : ℕ) → Contains (memory_tcam_blocks m) b → new.masks b r ≡ old.masks b r

module _ (old new : Held) where
  records-same : (rs : List ℕ) → UnitsStay old.sram new.sram rs → (thousands n u i : ℕ) → record_at new.sram rs thousands n u i ≡ record_at old.sram rs thousands n u i
  records-same rs same thousands n u i =
      let q = records_a_row n in
      ap (λ v. slice v (i % q * n) n) (same (i % (1024 * q) / q) (record_width n) (u * record_units thousands n + i / (1024 * q)))

  pub content-same : (bits held : ℕ) (m : Memory) → Agree old new m → (n : ℕ) → content_in new bits held m n ≡ content_in old bits held m n
  content-same bits held Without agree n = refl
  content-same bits held (Exact k p d w ks rs cs) agree n =
      let c = cell_of (1024 * d) p n in
      let keys : UnitsStay old.sram new.sram ks = units-same 112 old.sram new.sram ks (λ b r has. agree.sram b r (Contains-append_left ks rs b has)) in
      let records : UnitsStay old.sram new.sram rs = units-same 112 old.sram new.sram rs (λ b r has. agree.sram b r (Contains-append_right ks rs b has)) in
      let entry : entry_at new.sram ks k bits c ≡ entry_at old.sram ks k bits c = ap (λ v. slice v (c.position * (bits + 8)) (bits + 8)) (keys (c.row % 1024) k (c.row / 1024 * 4 + c.way)) in
      let data_is : data_at new.sram rs p held c ≡ data_at old.sram rs p held c = records-same rs records (4 * p) held (c.row / 1024) ((c.way * 1024 + c.row % 1024) * p + c.position) in
      ap (λ (v : ℕ). let x : Content = record { head = v % 256; key = v / 256; mask = 2 ^ bits - 1; held = data_at new.sram rs p held c } in x) entry
      ∙ ap (λ (v : ℕ). let x : Content = record { head = entry_at old.sram ks k bits c % 256; key = entry_at old.sram ks k bits c / 256; mask = 2 ^ bits - 1; held = v } in x) data_is
  content-same bits held (Ternary d ks rs cs) agree n =
      let records : UnitsStay old.sram new.sram rs = units-same 112 old.sram new.sram rs agree.sram in
      let data_is : row_record new.sram rs held n ≡ row_record old.sram rs held n = records-same rs records 2 (held + 8) (n / 2048) (n % 2048) in
      let value : row_key new.values ks bits n ≡ row_key old.values ks bits n = units-same 40 old.values new.values ks agree.values (n % 2048) (divided_up bits 40) (n / 2048) in
      let mask : row_key new.masks ks bits n ≡ row_key old.masks ks bits n = units-same 40 old.masks new.masks ks agree.masks (n % 2048) (divided_up bits 40) (n / 2048) in
      ap (λ (v : ℕ). let x : Content = record { head = v % 256; key = row_key new.values ks bits n; mask = row_key new.masks ks bits n; held = v / 256 } in x) data_is
      ∙ ap (λ (v : ℕ). let x : Content = record { head = row_record old.sram rs held n % 256; key = v; mask = row_key new.masks ks bits n; held = row_record old.sram rs held n / 256 } in x) value
      ∙ ap (λ (v : ℕ). let x : Content = record { head = row_record old.sram rs held n % 256; key = row_key old.values ks bits n; mask = v; held = row_record old.sram rs held n / 256 } in x) mask

  pub ends_in-same : (bits held : ℕ) (m : Memory) → Agree old new m → EndsIn old bits held m → EndsIn new bits held m
  ends_in-same bits held Without agree ends = ends
  ends_in-same bits held (Exact k p d w ks rs cs) agree ends =
      let keys : UnitsStay old.sram new.sram ks = units-same 112 old.sram new.sram ks (λ b r has. agree.sram b r (Contains-append_left ks rs b has)) in
      let records : UnitsStay old.sram new.sram rs = units-same 112 old.sram new.sram rs (λ b r has. agree.sram b r (Contains-append_right ks rs b has)) in
      (ends-same old.sram new.sram ks k (p * (bits + 8)) keys ends.0, records_end-same old.sram new.sram rs d (4 * p) held records ends.1)
  ends_in-same bits held (Ternary d ks rs cs) agree ends =
      let records : UnitsStay old.sram new.sram rs = units-same 112 old.sram new.sram rs agree.sram in
      let masks = units-same 40 old.masks new.masks ks agree.masks in
      (λ unit row. subst (λ (v : ℕ). v < 2 ^ bits) (sym (masks row (divided_up bits 40) unit)) (ends.0 unit row), records_end-same old.sram new.sram rs d 2 (held + 8) records ends.1)

  pub part-same : (p : Program) (t : Table) (es : List Entry) (stands : List Stand) (first bits held : ℕ) (m : Memory) → Agree old new m
      → PartHolds p t es stands first bits held old m → PartHolds p t es stands first bits held new m
  part-same p t es stands first bits held m agree part = record {
    holds = λ k d lt.
        let x = part.holds k d lt in
        record {
          entry = x.entry;
          is = x.is;
          holds = subst (HoldsEntry p t (map (width_of p) t.key) first x.entry x.entry.number) (sym (content-same bits held m agree (get_or stands k d).cell)) x.holds;
          visible = ap (λ (y : Content). visible_bits y.head) (content-same bits held m agree (get_or stands k d).cell) ∙ x.visible;
        };
    clear = λ cell lt none. ap (is_clear m) (content-same bits held m agree cell) ∙ part.clear cell lt none;
    ends = ends_in-same bits held m agree part.ends;
  }
