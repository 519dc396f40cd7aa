-- An exact table is named as its parts are filled, by what is found out of each part.
use Rattle.std.proofs.Common.{◌≡◌, ℕ, ◌+◌, ◌-◌, ◌*◌, ◌^◌, ◌<◌, ◌≤◌, List, [], ◌∷◌, ◌++◌, length, get_or, map, Bool, true, false, not, ◌&&◌, eqb, leb, ltb, refl, sym, ap, ◌∙◌, subst, arith}
use Rattle.std.specs.Prelude.{All, IsTrue, sum}
use Rattle.std.specs.List.{flat_map, list_all, list_any}
use Rattle.std.proofs.lemmas.Bool.{and_parts, eqb-true, false≢true, leb-true, ltb-true}
use Rattle.std.proofs.lemmas.List.{length-append, length-map, map-append}
use Rattle.std.proofs.lemmas.List.Elements.{All-nil, All-cons, All-head, All-tail, All-append}
use Rattle.rmt_bits.proofs.FunctionLaws.{funext}
use Rattle.rmt_bits.proofs.BitLaws.{slice-lt}
use Rattle.rmt_ast.specs.declared.names.TableName.{TableName}
use Rattle.rmt_ast.specs.declared.program.Kind.TheVariants as kind
use Rattle.rmt_ast.specs.declared.program.Test.{Test}
use Rattle.rmt_ast.specs.declared.entry.Entry.{Entry}
use Rattle.rmt_ast.specs.Changes.{are_same}
use Rattle.rmt_config.specs.Types.{CellNumber, Config, Memory, SramRow, Stage}
use Rattle.rmt_config.specs.declared.config.Memory.TheVariants.{Without, Exact, Ternary}
use Rattle.rmt_config.specs.LaneForm.{bits_of_lanes}
use Rattle.rmt_config.specs.BlockCounts.{divided_up}
use Rattle.rmt_config.specs.Cells.{candidates, cell_of, cells_in, content_of, entry_at, sram_row}
use Rattle.rmt_config.specs.UnitForm.{slot_head_is_formed, memory_is_formed}
use Rattle.rmt_config.specs.Form.{items_are_formed}
use Rattle.rmt_config.specs.MemoryRules.{ExactFits, MemoryIsFormed}
use Rattle.rmt_config.specs.Rooms.{PartAt, parts_of}
use Rattle.rmt_config.specs.PartStands.{PartStands}
use Rattle.rmt_config.specs.TableStands.{TableStands}
use Rattle.rmt_config.specs.PartsTold.{listed_numbers, part_at, parts_at}
use Rattle.rmt_config.specs.declared.form.names.part_list.Part.{Part}
use Rattle.rmt_config.specs.declared.form.names.part_list.TableParts.{TableParts}
use Rattle.rmt_bits.specs.declared.lane.Lane.{Lane}
use Rattle.rmt_bits.proofs.AllLaws.{All-from_test, All-unmap}
use Rattle.std.proofs.lemmas.List.Folds.{list_all-map}
use Rattle.rmt_config.proofs.SlotLaws.{key_is_short, slot-exact}
use Rattle.rmt_config.specs.NamesForm.{each_later, entries_by_cell, entry_in, has_key_bits, has_parts, held_by, is_filled_so, is_of_kind, stands_in_candidates, tests_of_key}
use Rattle.rmt_config.specs.ExactCells.{CellsFit}
use Rattle.rmt_config.specs.KeyPrints.{KeysAdded, kept_of_keys}
use Rattle.rmt_config.specs.KeysSeen.{WaysLow, key_held, key_in, keys_listed, news, stands_in, stands_there}
use Rattle.rmt_config.proofs.CellLayouts.{up-enough}
use Rattle.rmt_config.proofs.SpelledCandidates.{above-byte}
use Rattle.rmt_config.proofs.SpelledExact.{news-differ}
use Rattle.rmt_config.proofs.SpelledParts.{held-is, parts-stand, rows-in}
use Rattle.rmt_config.proofs.SpelledRanks.{entries-count, later-map}
use Rattle.rmt_config.proofs.SpelledTernary.{filled_as, of-kind}
use Rattle.rmt_config.proofs.SpelledWays.{PartFollows, parts-follow, ways-low}

-- ---- the cells of a part

-- what is said of the rows, the bits, the cells and the blocks that were found is said of those of the part
pub exact-found : (c : Config) (p : PartAt) (st : PartStands c p) (T : List SramRow → ℕ → List CellNumber → List ℕ → Type 0) (stages : List Stage) (stage : Stage) (rows : List SramRow)
    (bits : ℕ) (ns : List CellNumber) (found blocks : List ℕ) → stages ≡ c.stages → stage ≡ get_or stages p.stage stage → rows ≡ (get_or stages p.stage stage).srows → bits ≡ bits_of_lanes p.slot.keys
    → ns ≡ p.slot.numbers → found ≡ blocks → T rows bits ns found → T st.stage.srows (bits_of_lanes p.slot.keys) p.slot.numbers blocks
exact-found c p st T stages stage rows bits ns found blocks all at of own cells same h =
    subst (λ (ks : List ℕ). T st.stage.srows (bits_of_lanes p.slot.keys) p.slot.numbers ks) same
    (subst (λ (xs : List CellNumber). T st.stage.srows (bits_of_lanes p.slot.keys) xs found) cells
    (subst (λ b. T st.stage.srows b ns found) own (subst (λ (rs : List SramRow). T rs bits ns found) (rows-in (λ (x : Stage). x.srows) c p st all at of) h)))

module _ (c : Config) (p : PartAt) (st : PartStands c p) (k per d w : ℕ) (ks rs cs : List ℕ) (e : p.slot.memory ≡ Exact k per d w ks rs cs) where
  exact-key : (n : CellNumber) → key_in st.stage.srows ks k per d (bits_of_lanes p.slot.keys) n ≡ key_held c p n
  exact-key n =
      sym (ap (λ x. x.key) (held-is c p st n.cell) ∙ ap (λ (m : Memory). (content_of st.stage (record p.slot { memory = m }) n.cell).key) e)

  pub exact-mask : (n : CellNumber) → (held_by c p n).mask ≡ 2 ^ bits_of_lanes p.slot.keys - 1
  exact-mask n = ap (λ x. x.mask) (held-is c p st n.cell) ∙ ap (λ (m : Memory). (content_of st.stage (record p.slot { memory = m }) n.cell).mask) e

  pub exact-low : (n : CellNumber) → (held_by c p n).key < 2 ^ bits_of_lanes p.slot.keys
  exact-low n =
      let bits = bits_of_lanes p.slot.keys in
      let entry = entry_at (sram_row st.stage.srows) ks k bits (cell_of (1024 * d) per n.cell) in
      subst (λ x. x < 2 ^ bits) (above-byte entry bits (slice-lt _ _ (bits + 8)) ∙ exact-key n) (slice-lt entry 8 bits)

  exact-stands : (n : CellNumber) → stands_there c.seed w per d (divided_up (bits_of_lanes p.slot.keys) 8) (key_in st.stage.srows ks k per d (bits_of_lanes p.slot.keys)) n ≡ stands_in c p n
  exact-stands n =
      ap (λ x. list_any (λ m. eqb m n.cell) (candidates c.seed (bits_of_lanes p.slot.keys) (Exact k per d w ks rs cs) x)) (exact-key n)
      ∙ ap (λ m. list_any (λ m. eqb m n.cell) (candidates c.seed (bits_of_lanes p.slot.keys) m (key_held c p n))) (sym e)

  -- the numbers of the part keep their rules
  exact-fit : ExactFits p.slot k per d ks rs
  exact-fit = slot-exact p.slot k per d w ks rs cs st.slot e

  exact-within : All (λ (n : CellNumber). n.cell < 4096 * d * per) p.slot.numbers
  exact-within =
      All-from_test (λ (n : CellNumber). n.cell < 4096 * d * per) (λ (n : CellNumber). ltb n.cell (4096 * d * per)) (λ n h. ltb-true n.cell (4096 * d * per) h) p.slot.numbers
      (sym (list_all-map (λ n. ltb n (4096 * d * per)) (λ (n : CellNumber). n.cell) p.slot.numbers)
      ∙ sym (ap (λ m. list_all (λ n. ltb n (cells_in m)) (map (λ (n : CellNumber). n.cell) p.slot.numbers)) e) ∙ (and_parts _ _ (and_parts _ _ st.holds.numbers).0).1)

  -- the cells as they are read fit
  pub exact-read : {rows : List SramRow} {bits : ℕ} {ns : List CellNumber} {blocks : List ℕ} → WaysLow p.slot.memory → rows ≡ st.stage.srows → bits ≡ bits_of_lanes p.slot.keys
      → ns ≡ p.slot.numbers → blocks ≡ ks → CellsFit rows ns blocks k per d w bits
  exact-read {rows} {bits} {ns} {blocks} ways er eb en ek =
      subst (λ (x : List SramRow). CellsFit x ns blocks k per d w bits) (sym er)
      (subst (λ (x : List CellNumber). CellsFit st.stage.srows x blocks k per d w bits) (sym en)
      (subst (λ (x : List ℕ). CellsFit st.stage.srows p.slot.numbers x k per d w bits) (sym ek)
      (subst (λ b. CellsFit st.stage.srows p.slot.numbers ks k per d w b) (sym eb) (record {
        rows = record { rise = st.rows.srise; low = st.rows.slow; small = st.rows.sbits };
        width = exact-fit.some_k;
        per = exact-fit.some_p;
        quanta = exact-fit.some_d;
        few = exact-fit.most_d;
        short = exact-fit.most_bits;
        fits = exact-fit.fits;
        blocks = exact-fit.keys;
        ways = subst WaysLow e ways;
        within = exact-within;
      }))))

  pub exact-keys : (whole : Bool) (old new : List ℕ) (stand : Bool)
      → (let key = key_in st.stage.srows ks k per d (bits_of_lanes p.slot.keys) in
      let size = divided_up (bits_of_lanes p.slot.keys) 8 in
      KeysAdded whole size (stands_there c.seed w per d size key) key p.slot.numbers old new stand → KeysAdded whole size (stands_in c p) (key_held c p) p.slot.numbers old new stand)
  exact-keys whole old new stand h =
      let size = divided_up (bits_of_lanes p.slot.keys) 8 in
      let key = key_in st.stage.srows ks k per d (bits_of_lanes p.slot.keys) in
      subst (λ (f : CellNumber → ℕ). KeysAdded whole size (stands_in c p) f p.slot.numbers old new stand) (funext key (key_held c p) exact-key)
      (subst (λ (f : CellNumber → Bool). KeysAdded whole size f key p.slot.numbers old new stand) (funext (stands_there c.seed w per d size key) (stands_in c p) exact-stands) h)

-- ---- the parts of an exact table

pub record ExactPart (c : Config) (bits : ℕ) (p : PartAt) : Type 0 where
  pub stands : PartStands c p
  pub kind : is_of_kind kind.Exact p.slot.memory ≡ true
  pub ways : WaysLow p.slot.memory
  pub all_bits : bits ≡ bits_of_lanes p.slot.keys

exact-all : (c : Config) (bits : ℕ) (ps : List PartAt) → All (PartStands c) ps → list_all (λ (p : PartAt). is_of_kind kind.Exact p.slot.memory) ps ≡ true → All PartFollows ps
    → list_all (λ (p : PartAt). eqb bits (bits_of_lanes p.slot.keys)) ps ≡ true → All (ExactPart c bits) ps
exact-all c bits [] stand kinds follow same = All-nil (ExactPart c bits)
exact-all c bits (p ∷ ps) stand kinds follow same =
    let one = All-head (PartStands c) p ps stand in
    let two = and_parts (is_of_kind kind.Exact p.slot.memory) (list_all (λ (p : PartAt). is_of_kind kind.Exact p.slot.memory) ps) kinds in
    let three = and_parts (eqb bits (bits_of_lanes p.slot.keys)) (list_all (λ (p : PartAt). eqb bits (bits_of_lanes p.slot.keys)) ps) same in
    All-cons (ExactPart c bits) p ps
    (record {
      stands = one;
      kind = two.0;
      ways = ways-low p.slot p.slot.memory (All-head PartFollows p ps follow) (and_parts (slot_head_is_formed p.slot) (memory_is_formed p.slot p.slot.memory) one.slot).1;
      all_bits = eqb-true bits (bits_of_lanes p.slot.keys) three.0;
    })
    (exact-all c bits ps (All-tail (PartStands c) p ps stand) two.1 (All-tail PartFollows p ps follow) three.1)

pub exact-parts : (c : Config) (t : TableName) → IsTrue (items_are_formed c) → MemoryIsFormed c → t.kind ≡ kind.Exact → has_parts c t ≡ true → has_key_bits c t ≡ true
    → All (ExactPart c (sum t.keys)) (parts_of c t.node)
exact-parts c t items memory is has bits =
    exact-all c (sum t.keys) (parts_of c t.node) (parts-stand c t.node items memory) (of-kind c t kind.Exact is has) (parts-follow c t.node memory) bits

-- ---- their keys

record KeysOf (c : Config) (bits : ℕ) (p : PartAt) : Type 0 where
  mask : (n : CellNumber) → (held_by c p n).mask ≡ 2 ^ bits - 1
  low : (n : CellNumber) → (held_by c p n).key < 2 ^ bits

keys-by : (c : Config) (bits : ℕ) (p : PartAt) → ExactPart c bits p → (m : Memory) → p.slot.memory ≡ m → is_of_kind kind.Exact m ≡ true → KeysOf c bits p
keys-by c bits p x Without e is = absurd (false≢true is)
keys-by c bits p x (Exact k per d w ks rs cs) e is = record {
  mask = λ n. exact-mask c p x.stands k per d w ks rs cs e n ∙ ap (λ b. 2 ^ b - 1) (sym x.all_bits);
  low = λ n. subst (λ b. (held_by c p n).key < 2 ^ b) (sym x.all_bits) (exact-low c p x.stands k per d w ks rs cs e n);
}
keys-by c bits p x (Ternary d ks rs cs) e is = absurd (false≢true is)

keys-of : (c : Config) (bits : ℕ) (p : PartAt) → ExactPart c bits p → KeysOf c bits p
keys-of c bits p x = keys-by c bits p x p.slot.memory refl x.kind

cells-low : (c : Config) (bits : ℕ) (p : PartAt) → KeysOf c bits p → (ns : List CellNumber) → All (λ k. k < 2 ^ bits) (map (key_held c p) ns)
cells-low c bits p x [] = All-nil (λ k. k < 2 ^ bits)
cells-low c bits p x (n ∷ ns) = All-cons (λ k. k < 2 ^ bits) (key_held c p n) (map (key_held c p) ns) (x.low n) (cells-low c bits p x ns)

parts-low : (c : Config) (bits : ℕ) (ps : List PartAt) → All (ExactPart c bits) ps → All (λ k. k < 2 ^ bits) (keys_listed c ps)
parts-low c bits [] all = All-nil (λ k. k < 2 ^ bits)
parts-low c bits (p ∷ ps) all =
    All-append (λ k. k < 2 ^ bits) (map (key_held c p) p.slot.numbers) (keys_listed c ps)
    (cells-low c bits p (keys-of c bits p (All-head (ExactPart c bits) p ps all)) p.slot.numbers) (parts-low c bits ps (All-tail (ExactPart c bits) p ps all))

abbrev tests_at : TableName → ℕ → List Test
tests_at t k = tests_of_key t.keys k (2 ^ sum t.keys - 1)

cells-tests : (c : Config) (t : TableName) (p : PartAt) → KeysOf c (sum t.keys) p → (ns : List CellNumber)
    → map (λ (e : Entry). e.tests) (map (entry_in c t p) ns) ≡ map (tests_at t) (map (key_held c p) ns)
cells-tests c t p x [] = refl
cells-tests c t p x (n ∷ ns) =
    ap (λ m. tests_of_key t.keys (key_held c p n) m ∷ map (λ (e : Entry). e.tests) (map (entry_in c t p) ns)) (x.mask n)
    ∙ ap (λ ts. tests_at t (key_held c p n) ∷ ts) (cells-tests c t p x ns)

parts-tests : (c : Config) (t : TableName) (ps : List PartAt) → All (ExactPart c (sum t.keys)) ps
    → map (λ (e : Entry). e.tests) (flat_map (λ (p : PartAt). map (entry_in c t p) p.slot.numbers) ps) ≡ map (tests_at t) (keys_listed c ps)
parts-tests c t [] all = refl
parts-tests c t (p ∷ ps) all =
    let here = map (entry_in c t p) p.slot.numbers in
    let rest = flat_map (λ (p : PartAt). map (entry_in c t p) p.slot.numbers) ps in
    let keys = map (key_held c p) p.slot.numbers in
    map-append (λ (e : Entry). e.tests) here rest
    ∙ ap (λ ts. ts ++ map (λ (e : Entry). e.tests) rest) (cells-tests c t p (keys-of c (sum t.keys) p (All-head (ExactPart c (sum t.keys)) p ps all)) p.slot.numbers)
    ∙ ap (λ ts. map (tests_at t) keys ++ ts) (parts-tests c t ps (All-tail (ExactPart c (sum t.keys)) p ps all))
    ∙ sym (map-append (tests_at t) keys (keys_listed c ps))

-- ---- the table

shape : (n k s : Bool) → ((true && true) && (n && k && true && s)) ≡ (n && (s && k))
shape false k s = refl
shape true false false = refl
shape true false true = refl
shape true true false = refl
shape true true true = refl

pub exact-answer : (c : Config) (t : TableName) → t.kind ≡ kind.Exact → All (ExactPart c (sum t.keys)) (parts_of c t.node)
    → is_filled_so c t ≡ (leb (length (listed_numbers (parts_of c t.node))) t.size && (list_all (stands_in_candidates c) (parts_of c t.node) && news (divided_up (sum t.keys) 8) [] (keys_listed c (parts_of c t.node))))
exact-answer c t is parts =
    let es = entries_by_cell c t in
    let ps = parts_of c t.node in
    let size = divided_up (sum t.keys) 8 in
    let wide : sum t.keys ≤ size * 8 = up-enough (sum t.keys) 8 (omega arith) in
    let differ : List Test → List Test → Bool = λ a b. not (are_same a b) in
    let once : Bool = each_later (λ (a b : Entry). not (are_same a.tests b.tests)) es in
    let keys : once ≡ news size [] (keys_listed c ps) =
    later-map differ (λ (e : Entry). e.tests) es ∙ ap (each_later differ) (parts-tests c t ps parts) ∙ sym (later-map differ (tests_at t) (keys_listed c ps))
    ∙ sym (news-differ size t.keys (2 ^ sum t.keys - 1) (keys_listed c ps) (omega (arith, wide)) (parts-low c (sum t.keys) ps parts)) in
    ap (filled_as c t) is
    ∙ shape (leb (length es) t.size) once (list_all (stands_in_candidates c) ps)
    ∙ ap (λ n. leb n t.size && (list_all (stands_in_candidates c) ps && once)) (entries-count c t)
    ∙ ap (λ b. leb (length (listed_numbers ps)) t.size && (list_all (stands_in_candidates c) ps && b)) keys

-- as many keys as numbers
pub keys-count : (c : Config) (ps : List PartAt) → length (keys_listed c ps) ≡ length (listed_numbers ps)
keys-count c [] = refl
keys-count c (p ∷ ps) =
    length-append (map (key_held c p) p.slot.numbers) (keys_listed c ps)
    ∙ ap (λ n. n + length (keys_listed c ps)) (length-map p.slot.numbers (key_held c p) ∙ sym (length-map p.slot.numbers (λ (n : CellNumber). n.number)))
    ∙ ap (λ n. length (map (λ (n : CellNumber). n.number) p.slot.numbers) + n) (keys-count c ps)
    ∙ sym (length-append (map (λ (n : CellNumber). n.number) p.slot.numbers) (listed_numbers ps))

-- ---- the parts as they are gone over

module _ (of : TableParts) (stands : TableStands of) (is : of.table.now.kind ≡ kind.Exact) where
  all-exact : All (ExactPart of.config.now (sum of.table.now.keys)) (parts_of of.config.now of.table.now.node)
  all-exact = exact-parts of.config.now of.table.now stands.items stands.memory is stands.has (and_parts _ _ (and_parts _ _ stands.made).0).0

  pub exact-at : (i : ℕ) (x : Part) → i < length of.parts.now → x ≡ get_or of.parts.now i x → ExactPart of.config.now (sum of.table.now.keys) (part_at x)
  exact-at i x lt at =
      subst (λ y. ExactPart of.config.now (sum of.table.now.keys) (part_at y)) (sym at)
      (All-unmap (ExactPart of.config.now (sum of.table.now.keys)) part_at of.parts.now (subst (All (ExactPart of.config.now (sum of.table.now.keys))) (sym stands.parts) all-exact) i x lt)

  -- what was found out of a part's cells, by the bits of its own key, is found out by those of the table's
  pub part-added : (i : ℕ) (x : Part) → i < length of.parts.now → x ≡ get_or of.parts.now i x → (whole : Bool) (old new : List ℕ) (found stand : Bool) → found ≡ stand
      → KeysAdded whole (divided_up (bits_of_lanes x.slot.now.keys) 8) (stands_in of.config.now (part_at x)) (key_held of.config.now (part_at x)) x.slot.now.numbers old new found
      → KeysAdded whole (divided_up (sum of.table.now.keys) 8) (stands_in of.config.now (part_at x)) (key_held of.config.now (part_at x)) x.slot.now.numbers old new stand
  part-added i x lt at whole old new found stand e h =
      let Added : ℕ → Bool → Type 0 = λ b s. KeysAdded whole (divided_up b 8) (stands_in of.config.now (part_at x)) (key_held of.config.now (part_at x)) x.slot.now.numbers old new s in
      subst (λ b. Added b stand) (sym (exact-at i x lt at).all_bits) (subst (Added (bits_of_lanes x.slot.now.keys)) e h)

  -- its first part
  some-part : 0 < length of.parts.now
  some-part =
      let some : 1 ≤ length (parts_of of.config.now of.table.now.node) = leb-true 1 (length (parts_of of.config.now of.table.now.node)) (and_parts _ _ stands.has).0 in
      let long : length (parts_at of.parts.now) ≡ length (parts_of of.config.now of.table.now.node) = ap (λ (ps : List PartAt). length ps) stands.parts in
      omega (arith, some, long, length-map of.parts.now part_at)

  first-bits : (x : Part) → x ≡ get_or of.parts.now 0 x → sum of.table.now.keys ≡ bits_of_lanes (get_or of.parts.now 0 x).slot.now.keys
  first-bits x is = (exact-at 0 x some-part is).all_bits ∙ ap (λ (y : Part). bits_of_lanes y.slot.now.keys) is

  pub first-short : (x : Part) → x ≡ get_or of.parts.now 0 x → bits_of_lanes (get_or of.parts.now 0 x).slot.now.keys ≤ 640
  first-short x is =
      let s = x.slot.now in
      subst (λ (y : Part). bits_of_lanes y.slot.now.keys ≤ 640) is
      (key_is_short s s.memory (and_parts (slot_head_is_formed s) (memory_is_formed s s.memory) (exact-at 0 x some-part is).stands.slot).1)

  -- the bytes of a key, as they are told by the first part
  pub first-size : {x : Part} {keys : List Lane} {bits size : ℕ} → x ≡ get_or of.parts.now 0 x → keys ≡ (get_or of.parts.now 0 x).slot.now.keys → bits ≡ bits_of_lanes keys → size ≡ divided_up bits 8
      → size ≡ divided_up (sum of.table.now.keys) 8
  first-size {x} at own eb es = es ∙ ap (λ b. divided_up b 8) (eb ∙ ap bits_of_lanes own ∙ sym (first-bits x at))

  -- as many keys as numbers
  pub keys-counted : length (keys_listed of.config.now (parts_at of.parts.now)) ≡ length of.numbers.now
  keys-counted =
      keys-count of.config.now (parts_at of.parts.now) ∙ ap (λ (ps : List PartAt). length (listed_numbers ps)) stands.parts ∙ sym (ap (λ (ns : List ℕ). length ns) stands.numbers)

  -- what is kept of all keys are their bytes, so many of each
  pub bytes-kept : {none kept bytes : List ℕ} {size : ℕ} → none ≡ [] → kept ≡ none ++ kept_of_keys true (divided_up (sum of.table.now.keys) 8) (keys_listed of.config.now (parts_at of.parts.now))
      → bytes ≡ kept → size ≡ divided_up (sum of.table.now.keys) 8 → bytes ≡ kept_of_keys true size (keys_listed of.config.now (parts_at of.parts.now))
  bytes-kept en ek eb es =
      let ks = keys_listed of.config.now (parts_at of.parts.now) in
      eb ∙ ek ∙ ap (λ (old : List ℕ). old ++ kept_of_keys true (divided_up (sum of.table.now.keys) 8) ks) en ∙ ap (λ n. kept_of_keys true n ks) (sym es)

  -- a table is filled so where it has room, its cells are candidates and its keys differ
  pub table-is : (room stand differ : Bool) → leb (length of.numbers.now) of.table.now.size ≡ room
      → stand ≡ list_all (stands_in_candidates of.config.now) (parts_at of.parts.now) → (stand ≡ true → differ ≡ news (divided_up (sum of.table.now.keys) 8) [] (keys_listed of.config.now (parts_at of.parts.now)))
      → (room && (stand && differ)) ≡ is_filled_so of.config.now of.table.now
  table-is room stand differ fits cells keys =
      let size = divided_up (sum of.table.now.keys) 8 in
      let candidates : List PartAt → Bool = λ ps. list_all (stands_in_candidates of.config.now) ps in
      let new : List PartAt → Bool = λ ps. news size [] (keys_listed of.config.now ps) in
      sym (exact-answer of.config.now of.table.now is all-exact
      ∙ ap (λ (ps : List PartAt). leb (length (listed_numbers (parts_of of.config.now of.table.now.node))) of.table.now.size && (candidates ps && new ps)) (sym stands.parts)
      ∙ ap (λ (ns : List ℕ). leb (length ns) of.table.now.size && (candidates (parts_at of.parts.now) && new (parts_at of.parts.now))) (sym stands.numbers)
      ∙ ap (λ b. b && (candidates (parts_at of.parts.now) && new (parts_at of.parts.now))) fits
      ∙ ap (λ b. room && (b && new (parts_at of.parts.now))) (sym cells)
      ∙ ap (λ b. room && b) (both stand differ (new (parts_at of.parts.now)) keys))
    where
      both : (a x y : Bool) → (a ≡ true → x ≡ y) → (a && y) ≡ (a && x)
      both true x y h = sym (h refl)
      both false x y h = refl
