-- The entries that the cells of a book's parts tell at first are those that a configuration spells.
use Rattle.std.proofs.Common.{◌≡◌, ℕ, ◌+◌, ◌/◌, ◌%◌, ◌<◌, ◌==◌, List, [], ◌∷◌, ◌++◌, get_or, length, map, sum, take, true, false, cond, refl, sym, ap, ◌∙◌, subst, arith}
use Rattle.std.specs.Prelude.{All, IsTrue, filter}
use Rattle.std.specs.List.{AllZip, flat_map, list_all}
use Rattle.std.specs.BTreeMap.{values}
use Rattle.std.specs.Map.{values_of}
use Rattle.std.proofs.Math.ListN.{get_or-map}
use Rattle.std.proofs.lemmas.List.{length-map, take_more}
use Rattle.std.proofs.lemmas.Slice.Zip.{all_zipped_more}
use Rattle.std.proofs.lemmas.Bool.{and_parts, eqb-true}
use Rattle.std.proofs.lemmas.List.Elements.{All-cons, All-head, All-nil, All-tail}
use Rattle.std.proofs.lemmas.List.Folds.{list_all-map}
use Rattle.rmt_bits.proofs.AllLaws.{All-from_test, All-unmap}
use Rattle.rmt_ast.specs.declared.names.TableName.{TableName}
use Rattle.rmt_config.specs.declared.config.CellNumber.{CellNumber}
use Rattle.rmt_config.specs.declared.config.Config.{Config}
use Rattle.rmt_config.specs.Cells.{Content, content_of, is_occupied, visible_bits}
use Rattle.rmt_config.specs.CellForm.{head_is_formed}
use Rattle.rmt_config.specs.LaneForm.{bits_of_lanes}
use Rattle.rmt_config.specs.NamesForm.{entry_in, has_key_bits, has_parts, held_by, is_of_kind}
use Rattle.rmt_config.specs.PartStands.{PartStands}
use Rattle.rmt_config.specs.Form.{items_are_formed, visible_with}
use Rattle.rmt_config.specs.MemoryRules.{MemoryIsFormed}
use Rattle.rmt_config.specs.Rooms.{PartAt, parts_of}
use Rattle.rmt_config.specs.KeysSeen.{WaysLow}
use Rattle.rmt_config.specs.UnitForm.{memory_is_formed, slot_head_is_formed}
use Rattle.rmt_config.proofs.SpelledParts.{held-is, parts-stand}
use Rattle.rmt_config.proofs.SpelledWays.{PartFollows, parts-follow, ways-low}
use Rattle.rmt_config.specs.declared.form.names.part_list.Part.{Part}
use Rattle.rmt_config.specs.PartsTold.{part_at, parts_at}
use Rattle.rmt_book.specs.declared.kept.Kept.{Kept}
use Rattle.rmt_book.specs.declared.table.PartCells.{PartCells}
use Rattle.rmt_book.specs.Listed.{IsListed, IsRanked}
use Rattle.rmt_book.specs.Seen.{entries_in, is_seen}
use Rattle.rmt_book.specs.Told.{told_entry}
use Rattle.rmt_book.proofs.EntryLaws.{entry-is}

-- ---- heads

-- the head of a listed cell
abbrev pub IsHead : Config → PartAt → CellNumber → Type 0
IsHead c p n = head_is_formed (visible_with c.names) p.first p.slot.actions (held_by c p n).head ≡ true

pub listed-heads : (c : Config) (p : PartAt) → PartStands c p → All (IsHead c p) p.slot.numbers
listed-heads c p st =
    All-from_test (IsHead c p) (λ (n : CellNumber). head_is_formed (visible_with c.names) p.first p.slot.actions (content_of st.stage p.slot n.cell).head)
    (λ n e. ap (λ (x : Content). head_is_formed (visible_with c.names) p.first p.slot.actions x.head) (held-is c p st n.cell) ∙ e) p.slot.numbers
    (sym (list_all-map (λ n. head_is_formed (visible_with c.names) p.first p.slot.actions (content_of st.stage p.slot n).head) (λ (n : CellNumber). n.cell) p.slot.numbers) ∙ (and_parts _ _ st.holds.numbers).1)

pub head-occupied : (visible first actions head : ℕ) → head_is_formed visible first actions head ≡ true → is_occupied head ≡ true
head-occupied visible first actions head h = (and_parts _ _ (and_parts _ _ (and_parts _ _ h).0).0).0

pub head-visible : (visible first actions head : ℕ) → head_is_formed visible first actions head ≡ true → visible_bits head ≡ visible
head-visible visible first actions head h = eqb-true (visible_bits head) visible (and_parts _ _ (and_parts _ _ (and_parts _ _ h).0).0).1

-- ---- the entries of a part

-- what the rules say of a part of a table
pub record PartFacts (c : Config) (t : TableName) (p : PartAt) : Type 0 where
  pub stands : PartStands c p
  pub kind : is_of_kind t.kind p.slot.memory ≡ true
  pub bits : sum t.keys ≡ bits_of_lanes p.slot.keys
  pub ways : WaysLow p.slot.memory

module _ (c : Config) (t : TableName) (p : PartAt) (facts : PartFacts c t p) (named : visible_with c.names ≡ 3) where
  told-is : (n : CellNumber) (x : ℕ × Kept) → IsRanked c t p n x → told_entry t p.first x.1 ≡ entry_in c t p n
  told-is n x h = entry-is c t p n x.1 facts.stands facts.kind facts.bits h.kept h.rank

  -- at first each listed cell is seen
  seen-is : (n : CellNumber) (x : ℕ × Kept) → IsHead c p n → IsRanked c t p n x → is_seen false x.1 ≡ true
  seen-is n x head h =
      let three : x.1.visible ≡ 3 = h.kept.visible ∙ head-visible (visible_with c.names) p.first p.slot.actions (held_by c p n).head head ∙ named in
      ap (λ v. v / 1 % 2 == 1) three

  cells-told : (ns : List CellNumber) (es : List (ℕ × Kept)) → AllZip (IsRanked c t p) ns es → All (IsHead c p) ns
      → map (told_entry t p.first) (filter (is_seen false) (values_of es)) ≡ map (entry_in c t p) ns
  cells-told [] [] zip heads = refl
  cells-told [] (e ∷ es) zip heads = absurd zip
  cells-told (n ∷ ns) [] zip heads = absurd zip
  cells-told (n ∷ ns) (e ∷ es) zip heads =
      let rest = filter (is_seen false) (values_of es) in
      ap (λ b. map (told_entry t p.first) (cond b (e.1 ∷ rest) rest)) (seen-is n e (All-head (IsHead c p) n ns heads) zip.0)
      ∙ ap (λ x. x ∷ map (told_entry t p.first) rest) (told-is n e zip.0)
      ∙ ap (λ xs. entry_in c t p n ∷ xs) (cells-told ns es zip.1 (All-tail (IsHead c p) n ns heads))

  pub part-told : (x : PartCells) → IsListed c t p x → entries_in false t x ≡ map (entry_in c t p) p.slot.numbers
  part-told x h =
      ap (λ f. map (told_entry t f) (filter (is_seen false) (values x.cells))) h.first
      ∙ cells-told p.slot.numbers x.cells.entries h.cells (listed-heads c p facts.stands)

-- ---- the entries of a table

pub parts-told : (c : Config) (t : TableName) → visible_with c.names ≡ 3 → (ps : List PartAt) (xs : List PartCells) → AllZip (IsListed c t) ps xs → All (PartFacts c t) ps
    → flat_map (entries_in false t) xs ≡ flat_map (λ (p : PartAt). map (entry_in c t p) p.slot.numbers) ps
parts-told c t named [] [] zip facts = refl
parts-told c t named [] (x ∷ xs) zip facts = absurd zip
parts-told c t named (p ∷ ps) [] zip facts = absurd zip
parts-told c t named (p ∷ ps) (x ∷ xs) zip facts =
    ap (λ es. es ++ flat_map (entries_in false t) xs) (part-told c t p (All-head (PartFacts c t) p ps facts) named x zip.0)
    ∙ ap (λ es. map (entry_in c t p) p.slot.numbers ++ es) (parts-told c t named ps xs zip.1 (All-tail (PartFacts c t) p ps facts))

pub all-facts : (c : Config) (t : TableName) (ps : List PartAt) → All (PartStands c) ps → All PartFollows ps → list_all (λ (p : PartAt). is_of_kind t.kind p.slot.memory) ps ≡ true
    → list_all (λ (p : PartAt). sum t.keys == bits_of_lanes p.slot.keys) ps ≡ true → All (PartFacts c t) ps
all-facts c t [] stand follow kinds same = All-nil (PartFacts c t)
all-facts c t (p ∷ ps) stand follow kinds same =
    let one = All-head (PartStands c) p ps stand in
    let two = and_parts (is_of_kind t.kind p.slot.memory) (list_all (λ (p : PartAt). is_of_kind t.kind p.slot.memory) ps) kinds in
    let three = and_parts (sum t.keys == bits_of_lanes p.slot.keys) (list_all (λ (p : PartAt). sum t.keys == bits_of_lanes p.slot.keys) ps) same in
    All-cons (PartFacts c t) p ps
    (record {
      stands = one;
      kind = two.0;
      bits = eqb-true (sum t.keys) (bits_of_lanes p.slot.keys) three.0;
      ways = ways-low p.slot p.slot.memory (All-head PartFollows p ps follow) (and_parts (slot_head_is_formed p.slot) (memory_is_formed p.slot p.slot.memory) one.slot).1;
    })
    (all-facts c t ps (All-tail (PartStands c) p ps stand) (All-tail PartFollows p ps follow) two.1 three.1)

-- a part that is gone over
pub facts-at : (c : Config) (t : TableName) → IsTrue (items_are_formed c) → MemoryIsFormed c → has_parts c t ≡ true → has_key_bits c t ≡ true → (found : List Part) → parts_at found ≡ parts_of c t.node
    → (i : ℕ) (x : Part) → i < length found → x ≡ get_or found i x → PartFacts c t (part_at x)
facts-at c t items memory has bits found same i x lt at =
    let all = all-facts c t (parts_of c t.node) (parts-stand c t.node items memory) (parts-follow c t.node memory) (and_parts _ _ has).1 bits in
    subst (λ (y : Part). PartFacts c t (part_at y)) (sym at) (All-unmap (PartFacts c t) part_at found (subst (All (PartFacts c t)) (sym same) all) i x lt)

-- the parts so far, with one more
pub parts-next : (c : Config) (t : TableName) (found : List Part) → parts_at found ≡ parts_of c t.node → (i : ℕ) (x : Part) (cells : PartCells) (so_far : List PartCells) → i < length found → x ≡ get_or found i x
    → AllZip (IsListed c t) (take i (parts_of c t.node)) so_far → IsListed c t (part_at x) cells → AllZip (IsListed c t) (take (i + 1) (parts_of c t.node)) (so_far ++ cells ∷ [])
parts-next c t found same i x cells so_far lt at zip one =
    let ps = parts_of c t.node in
    let here : get_or ps i (part_at x) ≡ part_at x = ap (λ (qs : List PartAt). get_or qs i (part_at x)) (sym same) ∙ get_or-map part_at found i x ∙ ap part_at (sym at) in
    let within : i < length ps = (let l = ap (λ (qs : List PartAt). length qs) same in let m = length-map found part_at in omega (arith, lt, l, m)) in
    subst (λ (qs : List PartAt). AllZip (IsListed c t) qs (so_far ++ cells ∷ [])) (sym (take_more ps i (part_at x) within))
    (all_zipped_more (IsListed c t) (take i ps) so_far (get_or ps i (part_at x)) cells zip (subst (λ (p : PartAt). IsListed c t p cells) (sym here) one))
