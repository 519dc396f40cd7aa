-- What is found in a memory is what the cells that it holds say.
use Rattle.std.proofs.Common.{◌≡◌, ℕ, ◌+◌, ◌-◌, ◌*◌, ◌%◌, ◌^◌, ◌<◌, ◌≤◌, List, ◌++◌, length, get_or, take, drop, Bool, true, false, cond, eqb, Option, Some, None, sym, refl, ap, ◌∙◌, subst, arith}
use Rattle.std.specs.Prelude.{bit_and, find, ◌&&◌, IsSomeAnd, IfSome}
use Rattle.std.specs.List.{range_with_len}
use Rattle.std.proofs.lemmas.Bool.{and_parts, and_from, eqb-true, eq-eqb, false≢true}
use Rattle.std.proofs.lemmas.List.FromFn.{get_or-map-range_with_len, length-map-range_with_len}
use Rattle.std.proofs.lemmas.Nat.{mod_below, mul-le, and_le_l}
use Rattle.std.proofs.Math.Nat.{div-one}
use Rattle.std.proofs.Math.Seq.{take-append_seam}
use Rattle.rmt_bits.specs.Bits.{bytes_of, number_of}
use Rattle.rmt_bits.specs.Hash.{hash_row}
use Rattle.rmt_bits.specs.Grouping.{Compared}
use Rattle.rmt_bits.proofs.ByteLaws.{AreBytes, length-bytes_of, bytes_of-number_of, number_of-bytes_of}
use Rattle.rmt_bits.proofs.ListLaws.{find-passes}
use Rattle.rmt_memory.specs.Types.{SlotUnit, Memory}
use Rattle.rmt_config.specs.declared.config.Memory.TheVariants.{Without, Exact, Ternary}
use Rattle.rmt_config.specs.LaneForm.{bits_of_lanes}
use Rattle.rmt_config.specs.BlockCounts.{divided_up}
use Rattle.rmt_config.specs.Cells.{Content, candidates, cells_in, is_occupied}
use Rattle.rmt_config.specs.RunCells.{sees, is_hit}
use Rattle.rmt_config.proofs.CellLayouts.{up-enough}
use Rattle.rmt_memory.specs.declared.memory.SlotMemory.{SlotMemory}
use Rattle.rmt_memory.specs.declared.keys.Keys.{Keys}
use Rattle.rmt_memory.specs.declared.keys.Keys.TheVariants.{Nothing, InCells, InVectors}
use Rattle.rmt_memory.specs.declared.sliced.Sliced.{Sliced}
use Rattle.rmt_config.specs.declared.part_ways.PartWays.{PartWays}
use Rattle.rmt_config.specs.WayRows.{row_among}
use Rattle.rmt_memory.specs.Searching.{FirstIn, HasCell, run_of, FirstInWay, FirstByWays}
use Rattle.rmt_memory.specs.Laying.{number_bytes}
use Rattle.rmt_memory.specs.KeyWords.{Has, words_of, words_of_key, masked}
use Rattle.rmt_memory.specs.Slicing.{HasRow}
use Rattle.rmt_memory.specs.Sights.{seen_by, sight_of}
use Rattle.rmt_memory.specs.Memories.{HoldsCell, HoldsEntry, HoldsSlot, VectorsHold, Places, PlacesIn, compared_of, keys_fit, rows_seen}
use Rattle.rmt_memory.proofs.WordLaws.{key-words, wider, masked-words, same-words}
use Rattle.rmt_memory.proofs.RangeLaws.{range-find, find-parts_none, find-parts_some, find-same}
use Rattle.rmt_memory.proofs.CellLaws.{has-same, same-has}

-- ---- what a sight shows

twice : (b : Bool) → (b && b) ≡ (b && true)
twice true = refl
twice false = refl

-- a packet sees what its sight shows
pub sight-sees : (named : Bool) (version head : ℕ) → seen_by (sight_of named version) head ≡ sees named version head
sight-sees true version head = refl
sight-sees false version head =
    ap (λ n. is_occupied head && eqb (n % 2) 1) (div-one head) ∙ twice (is_occupied head)

-- what a sight shows is occupied
pub shown-occupied : (sight head : ℕ) → seen_by sight head ≡ true → is_occupied head ≡ true
shown-occupied sight head h = (and_parts (is_occupied head) _ h).0

-- a sight shows a cell, and it agrees with a key on its mask
abbrev pub is_shown : ℕ → ℕ → Content → Bool
is_shown sight key c = seen_by sight c.head && eqb (bit_and key c.mask) c.key

-- ---- a cell that the memory holds

module _ (s : SlotUnit) (m : SlotMemory) (c : Content) (number n : ℕ) (held : HoldsCell s c number n m) where
  -- its head, where it is occupied
  pub own-head : is_occupied c.head ≡ true → get_or (run_of m.cells n) 0 0 ≡ c.head
  own-head occupied = ap (λ (bs : List ℕ). get_or bs 0 0) (held.entry occupied).bytes

  pub head-shown : (sight : ℕ) → seen_by sight c.head ≡ true → seen_by sight (get_or (run_of m.cells n) 0 0) ≡ true
  head-shown sight seen = ap (seen_by sight) (own-head (shown-occupied sight c.head seen)) ∙ seen

  pub shown-head : (sight : ℕ) → seen_by sight (get_or (run_of m.cells n) 0 0) ≡ true → seen_by sight c.head ≡ true
  shown-head sight seen =
      let occupied : is_occupied c.head ≡ true = sym held.occupied ∙ shown-occupied sight (get_or (run_of m.cells n) 0 0) seen in
      ap (seen_by sight) (sym (own-head occupied)) ∙ seen

-- ---- where a key is found

pub record IsPlace (seed sight : ℕ) (content : ℕ → Content) (s : SlotUnit) (key : ℕ) (found : Option ℕ) : Type 0 where
  pub finds : find (λ n. is_shown sight key (content n)) (candidates seed (bits_of_lanes s.keys) s.memory key) ≡ found
  pub within : IfSome found (λ i. i < cells_in s.memory)

-- what is found passes
pub place-shown : (seed sight : ℕ) (content : ℕ → Content) (s : SlotUnit) (key i : ℕ) → IsPlace seed sight content s key (Some i) → is_shown sight key (content i) ≡ true
place-shown seed sight content s key i place = find-passes (λ n. is_shown sight key (content n)) _ i place.finds

-- ---- an exact part

module _ (seed sight : ℕ) (content : ℕ → Content) (number : ℕ → ℕ) (s0 : SlotUnit) (k p d w : ℕ) (ks rs cs : List ℕ) (m : SlotMemory) (ways : PartWays)
    (each : (n : ℕ) → n < cells_in (Exact k p d w ks rs cs) → HoldsCell (record s0 { memory = Exact k p d w ks rs cs }) (content n) (number n) n m)
    (fit : keys_fit (bits_of_lanes s0.keys) (Exact k p d w ks rs cs) m.stored (InCells ways) ≡ true) (some : 1 ≤ ways.rows)
    (key : List ℕ) (are : AreBytes key) (size : length key ≡ divided_up (bits_of_lanes s0.keys) 8) (small : number_of key < 2 ^ bits_of_lanes s0.keys) where
  abbrev s : SlotUnit
  s = record s0 { memory = Exact k p d w ks rs cs }

  abbrev bits : ℕ
  bits = bits_of_lanes s0.keys

  abbrev bytes : ℕ
  bytes = divided_up bits 8

  abbrev count : ℕ
  count = 4096 * d * p

  abbrev test : ℕ → Bool
  test cell = is_shown sight (number_of key) (content cell)

  -- where the ways are
  are-ways : (eqb ways.first w && eqb ways.rows (1024 * d) && eqb ways.per p ≡ true) × (eqb m.stored bytes ≡ true)
  are-ways = and_parts (eqb ways.first w && eqb ways.rows (1024 * d) && eqb ways.per p) (eqb m.stored bytes) fit

  are-rows : (eqb ways.first w && eqb ways.rows (1024 * d) ≡ true) × (eqb ways.per p ≡ true)
  are-rows = and_parts (eqb ways.first w && eqb ways.rows (1024 * d)) (eqb ways.per p) are-ways.0

  first_is : ways.first ≡ w
  first_is = eqb-true ways.first w (and_parts (eqb ways.first w) (eqb ways.rows (1024 * d)) are-rows.0).0

  rows_is : ways.rows ≡ 1024 * d
  rows_is = eqb-true ways.rows (1024 * d) (and_parts (eqb ways.first w) (eqb ways.rows (1024 * d)) are-rows.0).1

  per_is : ways.per ≡ p
  per_is = eqb-true ways.per p are-rows.1

  stored_is : m.stored ≡ bytes
  stored_is = eqb-true m.stored bytes are-ways.1

  wide : (x : ℕ) → x < 2 ^ bits → x < 2 ^ (8 * bytes)
  wide x lt = wider x bits (8 * bytes) (let e = up-enough bits 8 (omega arith) in omega (arith, e)) lt

  key-bytes : key ≡ bytes_of bytes (number_of key)
  key-bytes = sym (ap (λ c. bytes_of c (number_of key)) (sym size) ∙ bytes_of-number_of key are)

  -- the key that stands in an occupied cell
  key-there : (n : ℕ) → HoldsEntry s (content n) (number n) n m → take (length key) (drop 1 (run_of m.cells n)) ≡ bytes_of bytes (content n).key
  key-there n entry =
      let c = content n in
      let rest = bytes_of m.held_size c.held ++ number_bytes m.number_size (number n) in
      ap (λ (bs : List ℕ). take (length key) (drop 1 bs)) entry.bytes
      ∙ ap (λ b. take (length key) (bytes_of b c.key ++ rest)) stored_is
      ∙ ap (λ b. take b (bytes_of bytes c.key ++ rest)) (size ∙ sym (length-bytes_of bytes c.key))
      ∙ take-append_seam (bytes_of bytes c.key) rest

  holds : (n : ℕ) → n < count → test n ≡ true → HasCell m.cells sight key n
  holds n lt passes =
      let c = content n in
      let cell = each n lt in
      let parts = and_parts (seen_by sight c.head) (eqb (bit_and (number_of key) c.mask) c.key) passes in
      let entry = cell.entry (shown-occupied sight c.head parts.0) in
      let same : c.key ≡ number_of key = has-same bits (number_of key) c entry.key.1 small parts.1 in
      (head-shown s m c (number n) n cell sight parts.0, key-there n entry ∙ ap (bytes_of bytes) same ∙ sym key-bytes)

  passes : (n : ℕ) → n < count → HasCell m.cells sight key n → test n ≡ true
  passes n lt has =
      let c = content n in
      let cell = each n lt in
      let seen = shown-head s m c (number n) n cell sight has.0 in
      let entry = cell.entry (shown-occupied sight c.head seen) in
      let same : bytes_of bytes c.key ≡ bytes_of bytes (number_of key) = sym (key-there n entry) ∙ has.1 ∙ key-bytes in
      let key_is : c.key ≡ number_of key =
      sym (number_of-bytes_of bytes c.key (wide c.key entry.key.0)) ∙ ap (λ (bs : List ℕ). number_of bs) same ∙ number_of-bytes_of bytes (number_of key) (wide (number_of key) small) in
      and_from (seen_by sight c.head) (eqb (bit_and (number_of key) c.mask) c.key) seen (same-has bits (number_of key) c entry.key.1 small key_is)

  -- the key's row in a way, among the rows of all ways
  abbrev row : ℕ → ℕ
  row way = way * (1024 * d) + hash_row seed (w + way) key (1024 * d)

  row-below : (way : ℕ) → way < 4 → row way + 1 ≤ 4 * (1024 * d)
  row-below way lt =
      let less : hash_row seed (w + way) key (1024 * d) < 1024 * d = mod_below _ _ (omega (arith, some, rows_is)) in
      let most : (way + 1) * (1024 * d) ≤ 4 * (1024 * d) = mul-le (way + 1) (1024 * d) 4 (1024 * d) (omega (arith, lt)) (omega arith) in
      let next : (way + 1) * (1024 * d) ≡ way * (1024 * d) + 1024 * d = omega arith in
      omega (arith, less, most, next)

  row-is : (way : ℕ) → row_among ways seed key way ≡ row way
  row-is way =
      ap (λ r. way * r + hash_row seed (ways.first + way) key r) rows_is
      ∙ ap (λ f. way * (1024 * d) + hash_row seed (f + way) key (1024 * d)) first_is

  -- the cells of the key's row in a way
  abbrev cells : ℕ → List ℕ
  cells way = range_with_len ((way * (1024 * d) + hash_row seed (w + way) (bytes_of bytes (number_of key)) (1024 * d)) * p + 0) p

  cells-is : (way : ℕ) → cells way ≡ range_with_len (row way * p) p
  cells-is way =
      let none : row way * p + 0 ≡ row way * p = omega arith in
      ap (λ (b : List ℕ). range_with_len ((way * (1024 * d) + hash_row seed (w + way) b (1024 * d)) * p + 0) p) (sym key-bytes)
      ∙ ap (λ a. range_with_len a p) none

  ends : (way : ℕ) → way < 4 → row way * p + p ≤ count
  ends way lt =
      let next : (row way + 1) * p ≡ row way * p + p = omega arith in
      let most : (row way + 1) * p ≤ 4 * (1024 * d) * p = mul-le (row way + 1) p (4 * (1024 * d)) p (row-below way lt) (omega arith) in
      let all : 4 * (1024 * d) * p ≡ 4096 * d * p = omega arith in
      omega (arith, next, most, all)

  in-way : (way : ℕ) (found : Option ℕ) → FirstInWay ways m.cells seed sight key way found → FirstIn (HasCell m.cells sight key) (row way * p) (row way * p + p) found
  in-way way found first =
      subst (λ r. FirstIn (HasCell m.cells sight key) (r * p) (r * p + p) found) (row-is way)
      (subst (λ q. FirstIn (HasCell m.cells sight key) (row_among ways seed key way * q) (row_among ways seed key way * q + q) found) per_is first)

  way-find : (way : ℕ) (found : Option ℕ) → way < 4 → FirstInWay ways m.cells seed sight key way found → find test (cells way) ≡ found
  way-find way found lt first =
      ap (find test) (cells-is way)
      ∙ range-find test (HasCell m.cells sight key) count holds passes (row way * p) p (ends way lt) found (in-way way found first)

  pub exact-found : (found : Option ℕ) → FirstByWays ways m.cells seed sight key found → IsPlace seed sight content s (number_of key) found
  exact-found None none = record {
    finds = find-parts_none test cells 0 4 (λ way le lt. way-find way None lt (none way lt));
    within = tt;
  }
  exact-found (Some i) h = record {
    finds = find-parts_some test cells 0 4 h.0 i (omega arith) h.1 (way-find h.0 (Some i) h.1 h.2)
        (λ way le lt. way-find way None (let most = h.1 in omega (arith, lt, most)) (h.3 way lt));
    within = (let at = in-way h.0 (Some i) h.2 in let less = at.1 in let end = ends h.0 h.1 in omega (arith, less, end));
  }

-- ---- a ternary part

module _ (seed sight : ℕ) (content : ℕ → Content) (number : ℕ → ℕ) (s0 : SlotUnit) (d : ℕ) (ks rs cs : List ℕ) (m : SlotMemory) (v : Sliced)
    (each : (n : ℕ) → n < cells_in (Ternary d ks rs cs) → HoldsCell (record s0 { memory = Ternary d ks rs cs }) (content n) (number n) n m)
    (most : bits_of_lanes s0.keys ≤ 640)
    (key : List ℕ) (small : number_of key < 2 ^ bits_of_lanes s0.keys) where
  abbrev t : SlotUnit
  t = record s0 { memory = Ternary d ks rs cs }

  abbrev width : ℕ
  width = divided_up (bits_of_lanes s0.keys) 40

  abbrev all : ℕ
  all = 2048 * d

  abbrev has : ℕ → Bool
  has n = is_shown sight (number_of key) (content n)

  abbrev words : List ℕ
  words = words_of_key (number_of key)

  abbrev rows : List (Option Compared)
  rows = rows_seen sight width content all

  few : width ≤ 16
  few = omega (arith, most)

  t-enough : bits_of_lanes s0.keys ≤ 40 * width
  t-enough = let e = up-enough (bits_of_lanes s0.keys) 40 (omega arith) in omega (arith, e)

  masked-is : (n : ℕ) → masked (words_of width (content n).mask) words ≡ words_of width (bit_and (number_of key) (content n).mask)
  masked-is n =
      let e : 16 ≡ width + (16 - width) = (let le = few in omega (arith, le)) in
      ap (masked (words_of width (content n).mask)) (key-words (number_of key))
      ∙ ap (λ c. masked (words_of width (content n).mask) (words_of c (number_of key))) e ∙ masked-words width (16 - width) (number_of key) (content n).mask

  left-small : (n : ℕ) → bit_and (number_of key) (content n).mask < 2 ^ (40 * width)
  left-small n =
      let le = and_le_l (number_of key) (content n).mask in
      let wide = wider (number_of key) (bits_of_lanes s0.keys) (40 * width) t-enough small in
      omega (arith, le, wide)

  -- a row of those that the sight shows
  abbrev shown : ℕ → Option Compared
  shown n = cond (seen_by sight (content n).head) (Some (compared_of width (content n))) None

  row-at : (n : ℕ) → n < all → get_or rows n None ≡ shown n
  row-at n lt = get_or-map-range_with_len shown 0 all n n None lt (omega arith)

  t-holds : (n : ℕ) → n < all → has n ≡ true → HasRow words rows n
  t-holds n lt found =
      let c = content n in
      let parts = and_parts (seen_by sight c.head) (eqb (bit_and (number_of key) c.mask) c.key) found in
      let row_is : get_or rows n None ≡ Some (compared_of width c) = row-at n lt ∙ ap (λ b. cond b (Some (compared_of width c)) None) parts.0 in
      subst (λ o. IsSomeAnd o (Has words)) (sym row_is) (masked-is n ∙ ap (words_of width) (eqb-true (bit_and (number_of key) c.mask) c.key parts.1))

  t-passes : (n : ℕ) → n < all → HasRow words rows n → has n ≡ true
  t-passes n lt at = by (seen_by sight (content n).head) refl (subst (λ o. IsSomeAnd o (Has words)) (row-at n lt) at)
    where
      by : (b : Bool) → seen_by sight (content n).head ≡ b → IsSomeAnd (cond b (Some (compared_of width (content n))) None) (Has words) → has n ≡ true
      by false is h = absurd h
      by true is words_are =
          let c = content n in
          let entry = (each n lt).entry (shown-occupied sight c.head is) in
          let same = same-words width (bit_and (number_of key) c.mask) c.key (left-small n) entry.key (sym (masked-is n) ∙ words_are) in
          and_from (seen_by sight c.head) (eqb (bit_and (number_of key) c.mask) c.key) is (eq-eqb (bit_and (number_of key) c.mask) c.key same)

  none-more : all ≡ 0 + all
  none-more = omega arith

  t-rows : length rows ≡ all
  t-rows = length-map-range_with_len shown 0 all

  pub ternary-found : (found : Option ℕ) → FirstIn (HasRow words rows) 0 (length rows) found → IsPlace seed sight content t (number_of key) found
  ternary-found found is = by found (subst (λ e. FirstIn (HasRow words rows) 0 e found) t-rows is)
    where
      by : (o : Option ℕ) → FirstIn (HasRow words rows) 0 all o → IsPlace seed sight content t (number_of key) o
      by None first = record { finds = range-find has (HasRow words rows) all t-holds t-passes 0 all (omega arith) None (subst (λ e. FirstIn (HasRow words rows) 0 e None) none-more first); within = tt }
      by (Some i) first = record { finds = range-find has (HasRow words rows) all t-holds t-passes 0 all (omega arith) (Some i) (subst (λ e. FirstIn (HasRow words rows) 0 e (Some i)) none-more first); within = first.1 }

-- ---- any slot

-- where a key is found in a memory stands the least cell that has it among those that the sight shows
pub place-found : (seed sight : ℕ) (content : ℕ → Content) (number : ℕ → ℕ) (s : SlotUnit) (m : SlotMemory) (key : List ℕ) → sight < 3 → AreBytes key → HoldsSlot content number s m → length key ≡ m.key_size
    → number_of key < 2 ^ bits_of_lanes s.keys → (found : Option ℕ) → Places m seed sight key found → IsPlace seed sight content s (number_of key) found
place-found seed sight content number s m key few are held size small found places =
    by s.memory m.keys held.each held.fits.keys held.vectors places
  where
    bytes_are : length key ≡ divided_up (bits_of_lanes s.keys) 8
    bytes_are = size ∙ held.fits.key

    most : bits_of_lanes s.keys ≤ 640
    most = let short = m.short in let e = held.fits.key in omega (arith, short, e)

    by : (mem : Memory) (keys : Keys) → ((n : ℕ) → n < cells_in mem → HoldsCell (record s { memory = mem }) (content n) (number n) n m) → keys_fit (bits_of_lanes s.keys) mem m.stored keys ≡ true
        → VectorsHold (divided_up (bits_of_lanes s.keys) 40) (cells_in mem) content keys → PlacesIn m keys seed sight key found → IsPlace seed sight content (record s { memory = mem }) (number_of key) found
    by Without Nothing each fit vectors none = record { finds = sym none; within = subst (λ o. IfSome o (λ i. i < 0)) (sym none) tt }
    by Without (InCells ways) each fit vectors at = absurd (false≢true fit)
    by Without (InVectors v) each fit vectors at = absurd (false≢true fit)
    by (Exact k p d w ks rs cs) Nothing each fit vectors at = absurd (false≢true fit)
    by (Exact k p d w ks rs cs) (InCells ways) each fit vectors at = exact-found seed sight content number s k p d w ks rs cs m ways each fit ways.some_rows key are bytes_are small found at
    by (Exact k p d w ks rs cs) (InVectors v) each fit vectors at = absurd (false≢true fit)
    by (Ternary d ks rs cs) Nothing each fit vectors at = absurd (false≢true fit)
    by (Ternary d ks rs cs) (InCells ways) each fit vectors at = absurd (false≢true fit)
    by (Ternary d ks rs cs) (InVectors v) each fit vectors at =
        ternary-found seed sight content number s d ks rs cs m v each most key small found
        (at (rows_seen sight (divided_up (bits_of_lanes s.keys) 40) content (2048 * d)) (vectors sight few))

-- the same as what a packet hits
pub place-hit : (seed : ℕ) (named : Bool) (version : ℕ) (content : ℕ → Content) (s : SlotUnit) (key : ℕ) (found : Option ℕ) → IsPlace seed (sight_of named version) content s key found
    → find (λ n. is_hit named version key (content n)) (candidates seed (bits_of_lanes s.keys) s.memory key) ≡ found
place-hit seed named version content s key found place =
    find-same (λ n. is_hit named version key (content n)) (λ n. is_shown (sight_of named version) key (content n))
    (λ n. let c = content n in ap (λ b. b && eqb (bit_and key c.mask) c.key) (sym (sight-sees named version c.head))) (candidates seed (bits_of_lanes s.keys) s.memory key)
    ∙ place.finds

-- so it fits the bytes of a run
pub held-room : (bits x : ℕ) → x < 2 ^ bits → x < 2 ^ (8 * divided_up bits 8)
held-room bits x lt = wider x bits (8 * divided_up bits 8) (let e = up-enough bits 8 (omega arith) in omega (arith, e)) lt
