-- The cells of a part in a book are those in which a run begins.
use Rattle.std.proofs.Common.{◌≡◌, ◌≢◌, ℕ, ◌<◌, ◌||◌, List, [], ◌∷◌, map, Bool, true, false, not, cond, eqb, Option, Some, None, option_map, unwrap_or, refl, sym, ap, ◌∙◌, subst, arith}
use Rattle.std.specs.Prelude.{All, IsTrue, find, option_and_then, slice_get}
use Rattle.std.specs.List.{AllZip, list_any}
use Rattle.std.specs.BTreeMap.{get, is_at}
use Rattle.std.specs.Map.{keys_of, lookup}
use Rattle.std.specs.Ordering.{is_eq, nat_cmp}
use Rattle.std.proofs.lemmas.Bool.{and_parts, eqb-true}
use Rattle.std.proofs.lemmas.List.Elements.{All-cons, All-head, All-nil, All-tail}
use Rattle.rmt_bits.proofs.AllLaws.{All-from_test}
use Rattle.std.proofs.lemmas.Option.{none-some, same_Some}
use Rattle.rmt_bits.proofs.OptionLaws.{eqb-sym}
use Rattle.rmt_ast.specs.declared.names.TableName.{TableName}
use Rattle.rmt_config.specs.declared.config.CellNumber.{CellNumber}
use Rattle.rmt_config.specs.declared.config.Config.{Config}
use Rattle.rmt_config.specs.declared.config.Memory.{Memory}
use Rattle.rmt_config.specs.declared.config.SlotUnit.{SlotUnit}
use Rattle.rmt_config.specs.declared.config.Stage.{Stage}
use Rattle.rmt_config.specs.declared.config.Unit.{Unit}
use Rattle.rmt_config.specs.declared.config.Memory.TheVariants.{Without, Exact, Ternary}
use Rattle.rmt_config.specs.Cells.{Content, candidates, cells_in, content_of, is_occupied, number_of_cell}
use Rattle.rmt_config.specs.CellForm.{is_clear}
use Rattle.rmt_config.specs.Form.{visible_with}
use Rattle.rmt_config.specs.LaneForm.{bits_of_lanes}
use Rattle.rmt_config.specs.NamesForm.{held_by, stands_in_candidates}
use Rattle.rmt_config.specs.PartStands.{PartStands}
use Rattle.rmt_config.specs.Rooms.{PartAt}
use Rattle.rmt_config.specs.RunCells.{as_slot, emptied, own_cells, own_content, slot_at, written_mask}
use Rattle.rmt_config.proofs.PrefixRowLaws.{cells-within}
use Rattle.rmt_config.proofs.SpelledParts.{held-is}
use Rattle.rmt_config.proofs.OrderLaws.{same_number}
use Rattle.rmt_book.specs.declared.kept.Kept.{Kept}
use Rattle.rmt_book.specs.declared.table.PartCells.{PartCells}
use Rattle.rmt_update.specs.BookStands.{HoldsPart, IsKeptOf, is_candidate}
use Rattle.rmt_book.specs.Kept.{HasBytes, IsKept}
use Rattle.rmt_book.specs.Listed.{IsListed, IsRanked}
use Rattle.rmt_update.proofs.CandidateLaws.{IsKey, own-key, same-candidates}
use Rattle.rmt_book.proofs.ToldEntryLaws.{IsHead, head-occupied, head-visible, listed-heads}

-- a cell without a bit
clear-parts : (m : Memory) (n : ℕ) (x : Content) → n < cells_in m → IsTrue (is_clear m x) → (x.head ≡ 0) × (x.key ≡ 0) × (x.held ≡ 0)
clear-parts Without n x lt h = absurd (omega (arith, lt))
clear-parts (Exact k p d w ks rs cs) n x lt h =
    let two = and_parts _ _ h in
    let one = and_parts _ _ two.0 in
    (eqb-true x.head 0 one.0, eqb-true x.key 0 one.1, eqb-true x.held 0 two.1)
clear-parts (Ternary d ks rs cs) n x lt h =
    let two = and_parts _ _ (and_parts _ _ h).0 in
    let one = and_parts _ _ two.0 in
    (eqb-true x.head 0 one.0, eqb-true x.key 0 one.1, eqb-true x.held 0 two.1)

pub clear-head : (m : Memory) (n : ℕ) (x : Content) → n < cells_in m → IsTrue (is_clear m x) → x.head ≡ 0
clear-head m n x lt h = (clear-parts m n x lt h).0

-- the mask of a cell without a bit
clear-mask : (stage : Stage) (s : SlotUnit) (n : ℕ) → n < cells_in s.memory → IsTrue (is_clear s.memory (content_of stage s n)) → (content_of stage s n).mask ≡ written_mask (bits_of_lanes s.keys) s.memory []
clear-mask stage s n lt h = by s.memory refl lt h
  where
    by : (m : Memory) → s.memory ≡ m → n < cells_in m → IsTrue (is_clear m (content_of stage s n)) → (content_of stage s n).mask ≡ written_mask (bits_of_lanes s.keys) m []
    by Without is lt h = absurd (omega (arith, lt))
    by (Exact k p d w ks rs cs) is lt h = ap (λ (m : Memory). (content_of stage (record s { memory = m }) n).mask) is
    by (Ternary d ks rs cs) is lt h = eqb-true (content_of stage s n).mask 0 (and_parts _ _ h).1

-- it is as one that was emptied
pub clear-emptied : (stage : Stage) (s : SlotUnit) (n : ℕ) → n < cells_in s.memory → IsTrue (is_clear s.memory (content_of stage s n)) → content_of stage s n ≡ emptied s
clear-emptied stage s n lt h =
    let parts = clear-parts s.memory n (content_of stage s n) lt h in
    same (content_of stage s n) (written_mask (bits_of_lanes s.keys) s.memory []) parts.0 parts.1 (clear-mask stage s n lt h) parts.2
  where
    same : (x : Content) (mask : ℕ) → x.head ≡ 0 → x.key ≡ 0 → x.mask ≡ mask → x.held ≡ 0 → x ≡ record { head = 0; key = 0; mask = mask; held = 0 }
    same x mask a b c d =
        ap (λ n. record { head = n; key = x.key; mask = x.mask; held = x.held }) a ∙ ap (λ n. record { head = 0; key = n; mask = x.mask; held = x.held }) b
        ∙ ap (λ n. record { head = 0; key = 0; mask = n; held = x.held }) c ∙ ap (λ n. record { head = 0; key = 0; mask = mask; held = n }) d

-- the slot of a part
pub part-slot : (c : Config) (p : PartAt) → PartStands c p → slot_at c p.stage p.place ≡ Some p.slot
part-slot c p st =
    ap (λ (o : Option Stage). option_and_then (λ (stage : Stage). option_and_then as_slot (slice_get stage.units p.place)) o) st.in_stages
    ∙ ap (λ (o : Option Unit). option_and_then as_slot o) st.in_units

module _ (c : Config) (t : TableName) (p : PartAt) (st : PartStands c p) (named : visible_with c.names ≡ 3) (fit : stands_in_candidates c p ≡ true) where
  keys-within : (ns : List CellNumber) (es : List (ℕ × Kept)) → AllZip (IsRanked c t p) ns es → All (λ (n : CellNumber). n.cell < cells_in p.slot.memory) ns
      → All (λ n. n < cells_in p.slot.memory) (keys_of es)
  keys-within [] [] zip all = All-nil (λ n. n < cells_in p.slot.memory)
  keys-within [] (e ∷ es) zip all = absurd zip
  keys-within (n ∷ ns) [] zip all = absurd zip
  keys-within (n ∷ ns) (e ∷ es) zip all =
      All-cons (λ n. n < cells_in p.slot.memory) e.0 (keys_of es)
      (subst (λ m. m < cells_in p.slot.memory) (sym zip.0.at) (All-head (λ (n : CellNumber). n.cell < cells_in p.slot.memory) n ns all))
      (keys-within ns es zip.1 (All-tail (λ (n : CellNumber). n.cell < cells_in p.slot.memory) n ns all))

  -- what is kept of a cell, by whether it is listed
  abbrev Found : ℕ → Option CellNumber → Option Kept → Bool → Type 0
  Found n None None listed = listed ≡ false
  Found n None (Some k) listed = ⊥
  Found n (Some x) None listed = ⊥
  Found n (Some x) (Some k) listed =
      (x.cell ≡ n) × (is_occupied (held_by c p x).head ≡ true) × IsKept (bits_of_lanes p.slot.keys) p.slot.memory (held_by c p x) x k × (is_candidate c.seed p (held_by c p x).key x.cell ≡ true)
      × (k.visible ≢ 0)

  -- a listed cell is a candidate of its key
  abbrev Fits : CellNumber → Type 0
  Fits x = is_candidate c.seed p (held_by c p x).key x.cell ≡ true

  all-fit : All Fits p.slot.numbers
  all-fit =
      All-from_test Fits (λ (x : CellNumber). list_any (λ m. eqb m x.cell) (candidates c.seed (bits_of_lanes p.slot.keys) p.slot.memory (held_by c p x).key))
      (λ x e. ap (list_any (λ m. eqb m x.cell)) (same-candidates c.seed (bits_of_lanes p.slot.keys) p.slot.memory (held_by c p x).key (own x)) ∙ e) p.slot.numbers fit
    where
      own : (x : CellNumber) → IsKey (bits_of_lanes p.slot.keys) p.slot.memory (held_by c p x).key
      own x = subst (λ (y : Content). IsKey (bits_of_lanes p.slot.keys) p.slot.memory y.key) (sym (held-is c p st x.cell)) (own-key st.stage p.slot p.slot.memory x.cell)

  find-kept : (n : ℕ) (ns : List CellNumber) (es : List (ℕ × Kept)) → AllZip (IsRanked c t p) ns es → All (IsHead c p) ns → All Fits ns
      → Found n (find (λ (x : CellNumber). eqb x.cell n) ns) (lookup (is_at (nat_cmp n)) es) (list_any (λ m. eqb m n) (map (λ (x : CellNumber). x.cell) ns))
  find-kept n [] [] zip heads fits = refl
  find-kept n [] (e ∷ es) zip heads fits = absurd zip
  find-kept n (x ∷ ns) [] zip heads fits = absurd zip
  find-kept n (x ∷ ns) (e ∷ es) zip heads fits =
      let rest = find-kept n ns es zip.1 (All-tail (IsHead c p) x ns heads) (All-tail Fits x ns fits) in
      let same : is_eq (nat_cmp n e.0) ≡ eqb x.cell n = same_number n e.0 ∙ ap (eqb n) zip.0.at ∙ eqb-sym n x.cell in
      let later = list_any (λ m. eqb m n) (map (λ (x : CellNumber). x.cell) ns) in
      subst (λ b. Found n (cond (eqb x.cell n) (Some x) (find (λ (x : CellNumber). eqb x.cell n) ns)) (cond b (Some e.1) (lookup (is_at (nat_cmp n)) es)) (eqb x.cell n || later)) (sym same)
      (by (eqb x.cell n) refl (find (λ (x : CellNumber). eqb x.cell n) ns) (lookup (is_at (nat_cmp n)) es) later rest)
    where
      seen : IsHead c p x → e.1.visible ≢ 0
      seen head none =
          let three : e.1.visible ≡ 3 = zip.0.kept.visible ∙ head-visible (visible_with c.names) p.first p.slot.actions (held_by c p x).head head ∙ named in
          omega (arith, three, none)

      by : (b : Bool) → eqb x.cell n ≡ b → (o : Option CellNumber) (q : Option Kept) (later : Bool) → Found n o q later → Found n (cond b (Some x) o) (cond b (Some e.1) q) (b || later)
      by true is o q later rest =
          (eqb-true x.cell n is, head-occupied (visible_with c.names) p.first p.slot.actions (held_by c p x).head (All-head (IsHead c p) x ns heads), zip.0.kept, All-head Fits x ns fits, seen (All-head (IsHead c p) x ns heads))
      by false is o q later rest = rest

  -- what is kept of a listed cell has the bytes of the part
  listed-bytes : (n : ℕ) (ns : List CellNumber) (es : List (ℕ × Kept)) → AllZip (IsRanked c t p) ns es → (k : Kept) → lookup (is_at (nat_cmp n)) es ≡ Some k → HasBytes p.slot k
  listed-bytes n [] [] zip k is = absurd (none-some k is)
  listed-bytes n [] (e ∷ es) zip k is = absurd zip
  listed-bytes n (x ∷ ns) [] zip k is = absurd zip
  listed-bytes n (x ∷ ns) (e ∷ es) zip k is = by (is_eq (nat_cmp n e.0)) is (listed-bytes n ns es zip.1 k)
    where
      by : (b : Bool) → cond b (Some e.1) (lookup (is_at (nat_cmp n)) es) ≡ Some k → (lookup (is_at (nat_cmp n)) es ≡ Some k → HasBytes p.slot k) → HasBytes p.slot k
      by true h rest = subst (HasBytes p.slot) (same_Some e.1 k h) zip.0.bytes
      by false h rest = rest h

  -- the number that a run begins with
  own-number : (n : ℕ) → (own_cells c).number p.stage p.place n ≡ number_of_cell p.slot.numbers n
  own-number n = ap (λ (o : Option SlotUnit). unwrap_or (option_map (λ (slot : SlotUnit). number_of_cell slot.numbers n) o) 0) (part-slot c p st)

  kept-of : (n : ℕ) (o : Option CellNumber) (q : Option Kept) (listed : Bool) → n < cells_in p.slot.memory → Found n o q listed
      → (listed ≡ false → own_content c p.stage p.place n ≡ emptied p.slot)
      → IsKeptOf c.seed p (own_content c p.stage p.place n) (record { cell = n; number = unwrap_or (option_map (λ (x : CellNumber). x.number) o) 0 }) q
  kept-of n None None listed lt h others = (others h, refl)
  kept-of n None (Some k) listed lt h others = absurd h
  kept-of n (Some x) None listed lt h others = absurd h
  kept-of n (Some x) (Some k) listed lt h others =
      subst (λ m. IsKeptOf c.seed p (own_content c p.stage p.place m) (record { cell = m; number = x.number }) (Some k)) h.0 (h.1, h.2, h.3, h.4)

  -- a cell that isn't listed is empty
  unlisted : (n : ℕ) → n < cells_in p.slot.memory → list_any (λ m. eqb m n) (map (λ (x : CellNumber). x.cell) p.slot.numbers) ≡ false → own_content c p.stage p.place n ≡ emptied p.slot
  unlisted n lt none = held-is c p st n ∙ clear-emptied st.stage p.slot n lt (st.holds.others n lt (ap not none))

  pub part-holds : (x : PartCells) → IsListed c t p x → HoldsPart (own_cells c) p x
  part-holds x h = record {
    stage = h.stage;
    place = h.place;
    first = h.first;
    shape = h.shape;
    within = keys-within p.slot.numbers x.cells.entries h.cells (cells-within c p st);
    each = λ n lt.
        subst (λ m. IsKeptOf c.seed p (own_content c p.stage p.place n) (record { cell = n; number = m }) (get nat_cmp x.cells n)) (sym (own-number n))
        (kept-of n (find (λ (x : CellNumber). eqb x.cell n) p.slot.numbers) (get nat_cmp x.cells n) (list_any (λ m. eqb m n) (map (λ (x : CellNumber). x.cell) p.slot.numbers)) lt
        (find-kept n p.slot.numbers x.cells.entries h.cells (listed-heads c p st) all-fit) (unlisted n lt));
    bytes = λ n k is. listed-bytes n p.slot.numbers x.cells.entries h.cells k is;
  }
