-- What is kept of each cell behind a commit that moves none.
use Rattle.std.proofs.Common.{◌≡◌, ◌≢◌, ℕ, zero, suc, ◌+◌, ◌-◌, ◌*◌, ◌%◌, ◌^◌, ◌<◌, Bool, true, false, not, cond, eqb, List, Option, Some, None, option_map, unwrap_or, refl, sym, ap, subst, ◌∙◌, arith}
use Rattle.std.specs.Prelude.{IsTrue, sum}
use Rattle.rmt_ast.specs.declared.entry.Entry.{Entry}
use Rattle.rmt_ast.specs.declared.names.Names.{Names}
use Rattle.rmt_ast.specs.declared.names.TableName.{TableName}
use Rattle.rmt_ast.specs.EntryLists.{Terms}
use Rattle.rmt_ast.specs.NameRules.{terms_named, terms_of_name}
use Rattle.rmt_config.specs.declared.config.CellNumber.{CellNumber}
use Rattle.rmt_config.specs.declared.config.Config.{Config}
use Rattle.rmt_config.specs.declared.config.SlotUnit.{SlotUnit}
use Rattle.rmt_config.specs.Cells.{Content, is_occupied, visible_bits}
use Rattle.rmt_config.specs.Commits.{Placed, all_entries, coming_content, is_numbered_in, leaving_content, settled_content, settled_number, staying_content, without_bit}
use Rattle.rmt_config.specs.LaneForm.{bits_of_lanes}
use Rattle.rmt_config.specs.NamesForm.{is_of_kind}
use Rattle.rmt_config.specs.Rooms.{PartAt, entry_content, key_number}
use Rattle.rmt_config.specs.RunCells.{RunCells, emptied, slot_at}
use Rattle.rmt_book.specs.declared.kept.Kept.{Kept}
use Rattle.rmt_update.specs.BookStands.{IsKeptOf, is_candidate}
use Rattle.rmt_book.specs.Coming.{KeepsEntry}
use Rattle.rmt_update.specs.NextKept.{bit_of, next_kept}
use Rattle.rmt_book.specs.Seen.{is_seen}
use Rattle.rmt_update.proofs.TurnedLaws.{bit-low, goes-kept, head-visible, stays-kept, went-kept}

module _ (c : Config) (names : Names) (cells : RunCells) (before : List (List Entry)) (p : PartAt) (slot : slot_at c p.stage p.place ≡ Some p.slot)
    (odd : Bool) (is : odd ≡ eqb (cells.version % 2) 1) (n : ℕ) where
  content : Content
  content = cells.content p.stage p.place n

  here : CellNumber
  here = record { cell = n; number = cells.number p.stage p.place n }

  -- what is kept behind the commit of the cell, where this entry is placed there
  abbrev pub Next : Option Placed → Option Kept → Type 0
  Next at o = IsKeptOf cells.seed p (settled_content c names cells before at p.stage p.place n) (record { cell = n; number = settled_number cells at p.stage p.place n }) o

  -- an entry that stays
  pub next-stays : (pl : Placed) (k : Kept) → is_numbered_in (all_entries before) pl.entry ≡ true
      → IsKeptOf cells.seed p (cells.content p.stage p.place n) (record { cell = n; number = cells.number p.stage p.place n }) (Some k)
      → is_seen odd k ≡ true → pl.entry.number ≡ k.number → Next (Some pl) (Some (record k { visible = 3 }))
  next-stays pl k old kept seen same =
      subst (λ (b : Bool). IsKeptOf cells.seed p (cond b (staying_content (cells.version + 1) (cells.content p.stage p.place n)) (coming_content names (cells.version + 1) pl)) (record { cell = n; number = pl.entry.number }) (Some (record k { visible = 3 })))
      (sym old)
      (subst (λ (m : ℕ). IsKeptOf cells.seed p (staying_content (cells.version + 1) (cells.content p.stage p.place n)) (record { cell = n; number = m }) (Some (record k { visible = 3 })))
      (sym (same ∙ kept.1.number)) (stays-kept cells.version cells.seed odd is p (cells.content p.stage p.place n) (record { cell = n; number = cells.number p.stage p.place n }) k kept seen))

  -- one that goes, or went before
  pub next-leaves : (k : Kept) → IsKeptOf cells.seed p (cells.content p.stage p.place n) (record { cell = n; number = cells.number p.stage p.place n }) (Some k)
      → Next None (next_kept odd true (Some k))
  next-leaves k kept =
      subst (λ (y : Content). IsKeptOf cells.seed p y (record { cell = n; number = settled_number cells None p.stage p.place n }) (next_kept odd true (Some k))) (sym left)
      (by (is_seen odd k) refl)
    where
      left : settled_content c names cells before None p.stage p.place n ≡ leaving_content (cells.version + 1) p.slot (cells.content p.stage p.place n)
      left =
          ap (λ b. cond b (unwrap_or (option_map (λ (s : SlotUnit). leaving_content (cells.version + 1) s (cells.content p.stage p.place n)) (slot_at c p.stage p.place)) (cells.content p.stage p.place n)) (cells.content p.stage p.place n)) kept.0
          ∙ ap (λ (o : Option SlotUnit). unwrap_or (option_map (λ (s : SlotUnit). leaving_content (cells.version + 1) s (cells.content p.stage p.place n)) o) (cells.content p.stage p.place n)) slot

      by : (b : Bool) → is_seen odd k ≡ b → IsKeptOf cells.seed p (leaving_content (cells.version + 1) p.slot (cells.content p.stage p.place n)) (record { cell = n; number = settled_number cells None p.stage p.place n })
          (cond b (Some (record k { visible = bit_of odd })) None)
      by true seen =
          let goes = goes-kept cells.version cells.seed odd is p (cells.content p.stage p.place n) (record { cell = n; number = cells.number p.stage p.place n }) k kept seen in
          let number : settled_number cells None p.stage p.place n ≡ cells.number p.stage p.place n = ap (λ b. cond b 0 (cells.number p.stage p.place n)) goes.1 in
          subst (λ (y : Content). IsKeptOf cells.seed p y (record { cell = n; number = settled_number cells None p.stage p.place n }) (Some (record k { visible = bit_of odd }))) (sym goes.0)
          (subst (λ (m : ℕ). IsKeptOf cells.seed p (record (cells.content p.stage p.place n) { head = without_bit (cells.version + 1) (cells.content p.stage p.place n).head }) (record { cell = n; number = m }) (Some (record k { visible = bit_of odd })))
          (sym number) goes.2)
      by false unseen =
          let went = went-kept cells.version cells.seed odd is p (cells.content p.stage p.place n) (record { cell = n; number = cells.number p.stage p.place n }) k kept unseen in
          (went.0, ap (λ b. cond b 0 (cells.number p.stage p.place n)) went.1)

  -- an empty cell stays empty
  pub next-empty : IsKeptOf cells.seed p (cells.content p.stage p.place n) (record { cell = n; number = cells.number p.stage p.place n }) None → Next None None
  next-empty kept = (left, number)
    where
      left : settled_content c names cells before None p.stage p.place n ≡ emptied p.slot
      left =
          ap (λ (y : Content). cond (is_occupied y.head) (unwrap_or (option_map (λ (s : SlotUnit). leaving_content (cells.version + 1) s (cells.content p.stage p.place n)) (slot_at c p.stage p.place)) (cells.content p.stage p.place n)) (cells.content p.stage p.place n)) kept.0
          ∙ kept.0

      number : settled_number cells None p.stage p.place n ≡ 0
      number = by (eqb (visible_bits (without_bit (cells.version + 1) (cells.content p.stage p.place n).head)) 0)
        where
          by : (b : Bool) → cond b 0 (cells.number p.stage p.place n) ≡ 0
          by true = refl
          by false = kept.1

  -- an entry that comes
  pub next-comes : (pl : Placed) (t : TableName) (k : Kept) → is_numbered_in (all_entries before) pl.entry ≡ false → pl.room.part ≡ p → terms_named names pl.entry.table ≡ Some (terms_of_name t)
      → sum t.keys ≡ bits_of_lanes p.slot.keys → IsTrue (is_of_kind t.kind p.slot.memory) → KeepsEntry t p.first n (bit_of (not odd)) pl.entry k
      → is_candidate cells.seed p (key_number (terms_of_name t) pl.entry) n ≡ true → Next (Some pl) (Some k)
  next-comes pl t k new own terms bits of_kind keeps candidate =
      subst (λ (b : Bool). IsKeptOf cells.seed p (cond b (staying_content (cells.version + 1) (cells.content p.stage p.place n)) (coming_content names (cells.version + 1) pl)) (record { cell = n; number = pl.entry.number }) (Some k))
      (sym new)
      (subst (λ (y : Content). IsKeptOf cells.seed p y (record { cell = n; number = pl.entry.number }) (Some k)) (sym coming) (used, keeps.kept p refl bits of_kind, candidate, seen))
    where
      bit : bit_of (not odd) ≡ 2 ^ ((cells.version + 1) % 2)
      bit = ap (λ b. bit_of (not b)) is ∙ by (cells.version % 2) (omega arith) ∙ ap (λ i. 2 ^ i) turn
        where
          turn : 1 - cells.version % 2 ≡ (cells.version + 1) % 2
          turn = omega arith

          by : (r : ℕ) → r < 2 → bit_of (not (eqb r 1)) ≡ 2 ^ (1 - r)
          by zero lt = refl
          by (suc zero) lt = refl
          by (suc (suc r)) lt = absurd (omega (arith, lt))

      coming : coming_content names (cells.version + 1) pl ≡ entry_content (terms_of_name t) p (bit_of (not odd)) pl.entry
      coming =
          ap (λ (o : Option Terms). unwrap_or (option_map (λ u. entry_content u pl.room.part (2 ^ ((cells.version + 1) % 2)) pl.entry) o) (emptied pl.room.part.slot)) terms
          ∙ ap (λ (q : PartAt). entry_content (terms_of_name t) q (2 ^ ((cells.version + 1) % 2)) pl.entry) own
          ∙ ap (λ m. entry_content (terms_of_name t) p m pl.entry) (sym bit)

      used : is_occupied (1 + 2 * bit_of (not odd) + 8 * (p.first + pl.entry.action)) ≡ true
      used = ap (λ i. eqb i 1) (odd-head (bit_of (not odd)) (p.first + pl.entry.action))
        where
          odd-head : (a b : ℕ) → (1 + 2 * a + 8 * b) % 2 ≡ 1
          odd-head a b = omega arith

      some-bit : (b : Bool) → bit_of b ≢ 0
      some-bit true e = omega (arith, e)
      some-bit false e = omega (arith, e)

      seen : k.visible ≢ 0
      seen e =
          let visible : k.visible ≡ bit_of (not odd) = (keeps.kept p refl bits of_kind).visible ∙ head-visible (bit_of (not odd)) (p.first + pl.entry.action) (bit-low (not odd)) in
          some-bit (not odd) (sym visible ∙ e)
