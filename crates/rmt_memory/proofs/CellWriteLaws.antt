-- What a memory holds after a changed cell.
use Rattle.std.proofs.Common.{◌≡◌, ◌≢◌, ℕ, ◌+◌, ◌*◌, ◌^◌, ◌<◌, List, ◌∷◌, ◌++◌, length, get_or, take, set, true, cond, eqb, ◌&&◌, Option, Some, None, sym, refl, ap, ◌∙◌, subst, arith, inl, inr}
use Rattle.std.proofs.lemmas.Bool.{and_parts, cases_eq, eqb-true, eq-eqb, ne_eqb, false≢true}
use Rattle.std.proofs.lemmas.List.{ext_get_or, get_or-set_same, get_or-set_other, length-set, take_all}
use Rattle.std.proofs.lemmas.List.FromFn.{get_or-map-range_with_len, length-map-range_with_len}
use Rattle.rmt_bits.specs.Bits.{bytes_of, number_of}
use Rattle.rmt_bits.specs.Grouping.{Compared}
use Rattle.rmt_bits.proofs.ByteLaws.{AreBytes, bytes_of-number_of}
use Rattle.rmt_memory.specs.Types.{SlotUnit, Memory}
use Rattle.rmt_config.specs.declared.cell_write.CellWrite.{CellWrite}
use Rattle.rmt_config.specs.declared.config.Memory.TheVariants.{Without, Exact, Ternary}
use Rattle.rmt_config.specs.LaneForm.{bits_of_lanes}
use Rattle.rmt_config.specs.BlockCounts.{divided_up}
use Rattle.rmt_config.specs.Cells.{Content, cells_in, is_occupied}
use Rattle.rmt_config.specs.RunCells.{emptied, written_content, written_mask}
use Rattle.rmt_config.proofs.CellLayouts.{up-enough}
use Rattle.rmt_memory.specs.declared.memory.SlotMemory.{SlotMemory}
use Rattle.rmt_memory.specs.declared.keys.Keys.{Keys}
use Rattle.rmt_memory.specs.declared.keys.Keys.TheVariants.{Nothing, InCells, InVectors}
use Rattle.rmt_memory.specs.declared.sliced.Sliced.{Sliced}
use Rattle.rmt_memory.specs.KeysWithin.{KeysSet, compared_in}
use Rattle.rmt_memory.specs.Laying.{number_bytes}
use Rattle.rmt_memory.specs.RunWrites.{OthersStay}
use Rattle.rmt_memory.specs.Searching.{run_of}
use Rattle.rmt_memory.specs.Slicing.{StandsFor}
use Rattle.rmt_memory.specs.Sights.{seen_by}
use Rattle.rmt_memory.specs.Memories.{FitsSlot, HoldsCell, HoldsSlot, KeyFits, VectorsHold, cell_bytes, compared_of, keys_fit, rows_seen}
use Rattle.rmt_memory.specs.Writable.{EntryTaken, content_after, number_after}
use Rattle.rmt_memory.proofs.WordLaws.{wider}

-- how many words of 40 bits vectors have, which fit a slot's keys
words-fit : (bits : ℕ) (mem : Memory) (stored : ℕ) (v : Sliced) → keys_fit bits mem stored (InVectors v) ≡ true → v.words ≡ divided_up bits 40
words-fit bits Without stored v fit = absurd (false≢true fit)
words-fit bits (Exact k p d w ks rs cs) stored v fit = absurd (false≢true fit)
words-fit bits (Ternary d ks rs cs) stored v fit = eqb-true v.words (divided_up bits 40) (and_parts (eqb v.words (divided_up bits 40)) (eqb stored 0) fit).0

-- a memory with vectors compares the bits of the mask that was written
mask-fits : (bits : ℕ) (mem : Memory) (stored : ℕ) (v : Sliced) (mask : List ℕ) → keys_fit bits mem stored (InVectors v) ≡ true → written_mask bits mem mask ≡ number_of mask
mask-fits bits Without stored v mask fit = absurd (false≢true fit)
mask-fits bits (Exact k p d w ks rs cs) stored v mask fit = absurd (false≢true fit)
mask-fits bits (Ternary d ks rs cs) stored v mask fit = refl

-- another row changes nothing of where the keys stand
keys-stay : (bits : ℕ) (mem : Memory) (stored at : ℕ) (shown : ℕ → ℕ → Option Compared) (old new : Keys) → keys_fit bits mem stored old ≡ true → KeysSet at shown old new → keys_fit bits mem stored new ≡ true
keys-stay bits mem stored at shown Nothing new fit is = ap (keys_fit bits mem stored) is ∙ fit
keys-stay bits mem stored at shown (InCells ways) new fit is = ap (keys_fit bits mem stored) is ∙ fit
keys-stay bits mem stored at shown (InVectors v) Nothing fit is = absurd is
keys-stay bits mem stored at shown (InVectors v) (InCells ways) fit is = absurd is
keys-stay bits Without stored at shown (InVectors v) (InVectors x) fit is = absurd (false≢true fit)
keys-stay bits (Exact k p d w ks rs cs) stored at shown (InVectors v) (InVectors x) fit is = absurd (false≢true fit)
keys-stay bits (Ternary d ks rs cs) stored at shown (InVectors v) (InVectors x) fit is = ap (λ n. eqb n (divided_up bits 40) && eqb stored 0) is.words ∙ fit

-- rows that a sight shows, one of which is another
rows-set : (sight words count at : ℕ) (old new : ℕ → Content) → at < count → ((n : ℕ) → n ≢ at → new n ≡ old n)
    → set (rows_seen sight words old count) at (cond (seen_by sight (new at).head) (Some (compared_of words (new at))) None) ≡ rows_seen sight words new count
rows-set sight words count at old new inside stay =
    let shown : (ℕ → Content) → ℕ → Option Compared = λ content n. cond (seen_by sight (content n).head) (Some (compared_of words (content n))) None in
    let rows = rows_seen sight words old count in
    let all : length rows ≡ count = length-map-range_with_len (shown old) 0 count in
    let size : length (set rows at (shown new at)) ≡ count = length-set rows at (shown new at) ∙ all in
    ext_get_or None (set rows at (shown new at)) (rows_seen sight words new count) (size ∙ sym (length-map-range_with_len (shown new) 0 count))
    (λ n lt.
    let here : n < count = omega (arith, lt, size) in
    let now = get_or-map-range_with_len (shown new) 0 count n n None here (omega arith) in
    elim (cases_eq n at) as (λ _. get_or (set rows at (shown new at)) n None ≡ get_or (rows_seen sight words new count) n None) [
      | inl same ↦
          ap (λ m. get_or (set rows at (shown new at)) m None) same ∙ get_or-set_same rows at (shown new at) None (omega (arith, inside, all))
          ∙ ap (shown new) (sym same) ∙ sym now
      | inr other ↦
          get_or-set_other rows at n (shown new at) None other ∙ get_or-map-range_with_len (shown old) 0 count n n None here (omega arith)
          ∙ ap (λ (c : Content). cond (seen_by sight c.head) (Some (compared_of words c)) None) (sym (stay n other)) ∙ sym now
    ])

module _ (w : CellWrite) (s : SlotUnit) (content : ℕ → Content) (number : ℕ → ℕ) (m m' : SlotMemory) (held : HoldsSlot content number s m) (key_same : m'.key_size ≡ m.key_size) (tail_same : m'.number_size ≡ m.number_size)
    (stored : m'.stored ≡ m.stored) (held_size : m'.held_size ≡ m.held_size) (inside : w.cell < cells_in s.memory)
    (stay : OthersStay w.cell m.cells m'.cells)
    (shown : ℕ → ℕ → Option Compared) (keys : KeysSet w.cell shown m.keys m'.keys) (own : HoldsCell s (written_content w s) (cond (eqb w.visible 0) 0 w.number) w.cell m')
    (own-row : (v : Sliced) → keys_fit (bits_of_lanes s.keys) s.memory m.stored (InVectors v) ≡ true → (sight : ℕ)
    → shown (divided_up (bits_of_lanes s.keys) 40) sight ≡ cond (seen_by sight (written_content w s).head) (Some (compared_of (divided_up (bits_of_lanes s.keys) 40) (written_content w s))) None) where
  pub fits-after : FitsSlot s m'
  fits-after = record {
    key = key_same ∙ held.fits.key;
    held = held_size ∙ held.fits.held;
    cells = stay.count ∙ held.fits.cells;
    numbers = λ counted some. tail_same ∙ held.fits.numbers counted some;
    keys = ap (λ k. keys_fit (bits_of_lanes s.keys) s.memory k m'.keys) stored ∙ keys-stay (bits_of_lanes s.keys) s.memory m.stored w.cell shown m.keys m'.keys held.fits.keys keys;
  }

  abbrev now : ℕ → Content
  now n = content_after w s content n

  content-own : now w.cell ≡ written_content w s
  content-own = ap (λ b. cond b (written_content w s) (content w.cell)) (eq-eqb w.cell w.cell refl)

  content-other : (n : ℕ) → n ≢ w.cell → now n ≡ content n
  content-other n other = ap (λ b. cond b (written_content w s) (content n)) (ne_eqb w.cell n (λ e. other (sym e)))

  number-own : number_after w number w.cell ≡ cond (eqb w.visible 0) 0 w.number
  number-own = ap (λ b. cond b (cond (eqb w.visible 0) 0 w.number) (number w.cell)) (eq-eqb w.cell w.cell refl)

  number-other : (n : ℕ) → n ≢ w.cell → number_after w number n ≡ number n
  number-other n other = ap (λ b. cond b (cond (eqb w.visible 0) 0 w.number) (number n)) (ne_eqb w.cell n (λ e. other (sym e)))

  run-other : (n : ℕ) → n < cells_in s.memory → n ≢ w.cell → run_of m'.cells n ≡ run_of m.cells n
  run-other n lt other = stay.others n (let e = held.fits.cells in omega (arith, e, lt)) other

  -- another cell is as before
  cell-other : (n : ℕ) → n < cells_in s.memory → n ≢ w.cell → HoldsCell s (content n) (number n) n m'
  cell-other n lt other =
      let run = run-other n lt other in
      let was = held.each n lt in
      record {
        occupied = ap (λ (bs : List ℕ). is_occupied (get_or bs 0 0)) run ∙ was.occupied;
        entry = λ occupied.
            let e = was.entry occupied in
            let c = content n in
            record {
              bytes = run ∙ e.bytes ∙ ap (λ k. cell_bytes k m.held_size m.number_size c (number n)) (sym stored) ∙ ap (λ k. cell_bytes m'.stored k m.number_size c (number n)) (sym held_size)
                  ∙ ap (λ k. cell_bytes m'.stored m'.held_size k c (number n)) (sym tail_same);
              key = e.key;
              held = e.held;
              number = e.number;
            };
      }

  each-after : (n : ℕ) → n < cells_in s.memory → HoldsCell s (now n) (number_after w number n) n m'
  each-after n lt =
      elim (cases_eq n w.cell) as (λ _. HoldsCell s (now n) (number_after w number n) n m') [
        | inl same ↦
            subst (λ k. HoldsCell s (now k) (number_after w number k) k m') (sym same)
            (subst (λ (c : Content). HoldsCell s c (number_after w number w.cell) w.cell m') (sym content-own)
            (subst (λ x. HoldsCell s (written_content w s) x w.cell m') (sym number-own) own))
        | inr other ↦
            subst (λ (c : Content). HoldsCell s c (number_after w number n) n m') (sym (content-other n other))
            (subst (λ x. HoldsCell s (content n) x n m') (sym (number-other n other)) (cell-other n lt other))
      ]

  vectors-after : (old new : Keys) → keys_fit (bits_of_lanes s.keys) s.memory m.stored old ≡ true → VectorsHold (divided_up (bits_of_lanes s.keys) 40) (cells_in s.memory) content old → KeysSet w.cell shown old new
      → VectorsHold (divided_up (bits_of_lanes s.keys) 40) (cells_in s.memory) now new
  vectors-after Nothing new fit before is = subst (VectorsHold (divided_up (bits_of_lanes s.keys) 40) (cells_in s.memory) now) (sym is) tt
  vectors-after (InCells ways) new fit before is = subst (VectorsHold (divided_up (bits_of_lanes s.keys) 40) (cells_in s.memory) now) (sym is) tt
  vectors-after (InVectors v) Nothing fit before is = absurd is
  vectors-after (InVectors v) (InCells ways) fit before is = absurd is
  vectors-after (InVectors v) (InVectors x) fit before is = λ sight few.
      let words = divided_up (bits_of_lanes s.keys) 40 in
      let count = cells_in s.memory in
      let rows = rows_seen sight words content count in
      let all : length rows ≡ count = length-map-range_with_len (λ n. cond (seen_by sight (content n).head) (Some (compared_of words (content n))) None) 0 count in
      let row : shown v.words sight ≡ cond (seen_by sight (now w.cell).head) (Some (compared_of words (now w.cell))) None =
      ap (λ n. shown n sight) (words-fit (bits_of_lanes s.keys) s.memory m.stored v fit) ∙ own-row v fit sight
      ∙ ap (λ (c : Content). cond (seen_by sight c.head) (Some (compared_of words c)) None) (sym content-own) in
      subst (λ (rs : List (Option Compared)). StandsFor sight rs x)
      (ap (set rows w.cell) row ∙ rows-set sight words count w.cell content now inside content-other)
      (is.stands sight rows few (before sight few) (omega (arith, inside, all)))

  pub after-write : HoldsSlot now (number_after w number) s m'
  after-write = record {
    fits = fits-after;
    each = each-after;
    vectors = vectors-after m.keys m'.keys held.fits.keys held.vectors keys;
  }

-- what a cell with an entry holds
abbrev pub entry-content : CellWrite → SlotUnit → Content
entry-content w s = record {
  head = 1 + 2 * w.visible + 8 * w.code;
  key = number_of w.key;
  mask = written_mask (bits_of_lanes s.keys) s.memory w.mask;
  held = number_of w.held;
}

-- ---- a cell that is emptied

-- the new content of a cell with no visible bit
pub written-empty : (w : CellWrite) (s : SlotUnit) → w.visible ≡ 0 → written_content w s ≡ emptied s
written-empty w s e = ap (λ b. cond b (emptied s) (entry-content w s)) (eq-eqb w.visible 0 e)

pub empty-held : (w : CellWrite) (s : SlotUnit) (x : ℕ) (m : SlotMemory) → w.visible ≡ 0 → get_or (run_of m.cells w.cell) 0 0 ≡ 0 → HoldsCell s (written_content w s) x w.cell m
empty-held w s x m none head =
    subst (λ (c : Content). HoldsCell s c x w.cell m) (sym (written-empty w s none))
    (record { occupied = ap is_occupied head; entry = λ occupied. absurd (false≢true occupied) })

pub empty-row : (w : CellWrite) (s : SlotUnit) (words sight : ℕ) → w.visible ≡ 0 → None ≡ cond (seen_by sight (written_content w s).head) (Some (compared_of words (written_content w s))) None
empty-row w s words sight none = sym (ap (λ (c : Content). cond (seen_by sight c.head) (Some (compared_of words c)) None) (written-empty w s none))

-- ---- a cell that has an entry

pub written-entry : (w : CellWrite) (s : SlotUnit) → w.visible ≢ 0 → written_content w s ≡ entry-content w s
written-entry w s some = ap (λ b. cond b (emptied s) (entry-content w s)) (ne_eqb w.visible 0 some)

-- the key where it stands in a cell
stored-key : (bits : ℕ) (mem : Memory) (stored n : ℕ) (keys : Keys) (key : List ℕ) → n < cells_in mem → keys_fit bits mem stored keys ≡ true → AreBytes key → length key ≡ divided_up bits 8
    → take stored key ≡ bytes_of stored (number_of key)
stored-key bits Without stored n keys key inside fit are size = absurd (omega (arith, inside))
stored-key bits (Exact k p d w ks rs cs) stored n Nothing key inside fit are size = absurd (false≢true fit)
stored-key bits (Exact k p d w ks rs cs) stored n (InVectors v) key inside fit are size = absurd (false≢true fit)
stored-key bits (Exact k p d w ks rs cs) stored n (InCells ways) key inside fit are size =
    let is : stored ≡ length key = eqb-true stored (divided_up bits 8) (and_parts (eqb ways.first w && eqb ways.rows (1024 * d) && eqb ways.per p) (eqb stored (divided_up bits 8)) fit).1 ∙ sym size in
    ap (λ k. take k key) is ∙ take_all (length key) key (omega arith) ∙ sym (bytes_of-number_of key are) ∙ ap (λ k. bytes_of k (number_of key)) (sym is)
stored-key bits (Ternary d ks rs cs) stored n Nothing key inside fit are size = absurd (false≢true fit)
stored-key bits (Ternary d ks rs cs) stored n (InCells ways) key inside fit are size = absurd (false≢true fit)
stored-key bits (Ternary d ks rs cs) stored n (InVectors v) key inside fit are size =
    let none : stored ≡ 0 = eqb-true stored 0 (and_parts (eqb v.words (divided_up bits 40)) (eqb stored 0) fit).1 in
    ap (λ k. take k key) none ∙ ap (λ k. bytes_of k (number_of key)) (sym none)

key-fits : (bits : ℕ) (mem : Memory) (head held : ℕ) (key mask : List ℕ) → number_of key < 2 ^ bits → KeyFits bits mem (record { head = head; key = number_of key; mask = written_mask bits mem mask; held = held })
key-fits bits Without head held key mask small = tt
key-fits bits (Exact k p d w ks rs cs) head held key mask small = (small, refl)
key-fits bits (Ternary d ks rs cs) head held key mask small =
    let e = up-enough bits 40 (omega arith) in wider (number_of key) bits (40 * divided_up bits 40) (omega (arith, e)) small

pub entry-held : (w : CellWrite) (s : SlotUnit) (m : SlotMemory) → FitsSlot s m → w.cell < cells_in s.memory → w.visible ≢ 0 → EntryTaken s w → AreBytes w.key → AreBytes w.held → w.number < 2 ^ 32
    → run_of m.cells w.cell ≡ (1 + 2 * w.visible + 8 * w.code) ∷ (take m.stored w.key ++ (w.held ++ number_bytes m.number_size w.number))
    → HoldsCell s (written_content w s) (cond (eqb w.visible 0) 0 w.number) w.cell m
entry-held w s m fits inside some taken are are' small run =
    let head = 1 + 2 * w.visible + 8 * w.code in
    let c = entry-content w s in
    let key = stored-key (bits_of_lanes s.keys) s.memory m.stored w.cell m.keys w.key inside fits.keys are taken.key.size in
    let held : w.held ≡ bytes_of m.held_size (number_of w.held) = sym (ap (λ k. bytes_of k (number_of w.held)) (fits.held ∙ sym taken.held.size) ∙ bytes_of-number_of w.held are') in
    let tail = number_bytes m.number_size w.number in
    let own : cond (eqb w.visible 0) 0 w.number ≡ w.number = ap (λ b. cond b 0 w.number) (ne_eqb w.visible 0 some) in
    let bytes : run_of m.cells w.cell ≡ cell_bytes m.stored m.held_size m.number_size c w.number =
    run ∙ ap (λ (bs : List ℕ). head ∷ (bs ++ (w.held ++ tail))) key ∙ ap (λ (bs : List ℕ). head ∷ (bytes_of m.stored (number_of w.key) ++ (bs ++ tail))) held in
    subst (λ (x : Content). HoldsCell s x (cond (eqb w.visible 0) 0 w.number) w.cell m) (sym (written-entry w s some))
    (subst (λ n. HoldsCell s c n w.cell m) (sym own)
    (record {
      occupied = ap (λ (bs : List ℕ). is_occupied (get_or bs 0 0)) bytes;
      entry = λ occupied. record {
        bytes = bytes;
        key = key-fits (bits_of_lanes s.keys) s.memory head (number_of w.held) w.key w.mask taken.key.small;
        held = taken.held.small;
        number = small;
      };
    }))

pub entry-row : (w : CellWrite) (s : SlotUnit) (stored sight : ℕ) (v : Sliced) → w.visible ≢ 0 → keys_fit (bits_of_lanes s.keys) s.memory stored (InVectors v) ≡ true
    → let words = divided_up (bits_of_lanes s.keys) 40 in
    cond (seen_by sight (1 + 2 * w.visible + 8 * w.code)) (Some (compared_in words (number_of w.mask) (number_of w.key))) None
    ≡ cond (seen_by sight (written_content w s).head) (Some (compared_of words (written_content w s))) None
entry-row w s stored sight v some fit =
    let words = divided_up (bits_of_lanes s.keys) 40 in
    let head = 1 + 2 * w.visible + 8 * w.code in
    ap (λ k. cond (seen_by sight head) (Some (compared_in words k (number_of w.key))) None) (sym (mask-fits (bits_of_lanes s.keys) s.memory stored v w.mask fit))
    ∙ ap (λ (c : Content). cond (seen_by sight c.head) (Some (compared_of words c)) None) (sym (written-entry w s some))

-- what the row of a cell with an entry compares
abbrev pub entry-shown : ℕ → List ℕ → List ℕ → ℕ → ℕ → Option Compared
entry-shown head mask key words sight = cond (seen_by sight head) (Some (compared_in words (number_of mask) (number_of key))) None

pub after-entry : (w : CellWrite) (s : SlotUnit) (content : ℕ → Content) (number : ℕ → ℕ) (m m' : SlotMemory) → HoldsSlot content number s m → m'.key_size ≡ m.key_size → m'.number_size ≡ m.number_size
    → m'.stored ≡ m.stored → m'.held_size ≡ m.held_size → w.cell < cells_in s.memory → OthersStay w.cell m.cells m'.cells
    → KeysSet w.cell (entry-shown (1 + 2 * w.visible + 8 * w.code) w.mask w.key) m.keys m'.keys → w.visible ≢ 0 → EntryTaken s w → AreBytes w.key → AreBytes w.held → w.number < 2 ^ 32
    → run_of m'.cells w.cell ≡ (1 + 2 * w.visible + 8 * w.code) ∷ (take m'.stored w.key ++ (w.held ++ number_bytes m'.number_size w.number))
    → HoldsSlot (content_after w s content) (number_after w number) s m'
after-entry w s content number m m' held key_same tail_same stored held_size inside stay keys some taken are are' small run =
    let shown = entry-shown (1 + 2 * w.visible + 8 * w.code) w.mask w.key in
    let fits = fits-of keys in
    after-write w s content number m m' held key_same tail_same stored held_size inside stay shown keys
    (entry-held w s m' fits inside some taken are are' small run)
    (λ v fit sight. entry-row w s m.stored sight v some fit)
  where
    fits-of : KeysSet w.cell (entry-shown (1 + 2 * w.visible + 8 * w.code) w.mask w.key) m.keys m'.keys → FitsSlot s m'
    fits-of is = record {
      key = key_same ∙ held.fits.key;
      held = held_size ∙ held.fits.held;
      cells = stay.count ∙ held.fits.cells;
      numbers = λ counted some. tail_same ∙ held.fits.numbers counted some;
      keys = ap (λ k. keys_fit (bits_of_lanes s.keys) s.memory k m'.keys) stored
          ∙ keys-stay (bits_of_lanes s.keys) s.memory m.stored w.cell (entry-shown (1 + 2 * w.visible + 8 * w.code) w.mask w.key) m.keys m'.keys held.fits.keys is;
    }
