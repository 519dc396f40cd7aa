-- Every hit that is counted is of a number that the configuration has or that a changed cell brought.
use Rattle.std.proofs.Common.{◌≡◌, ℕ, zero, suc, ◌+◌, ◌*◌, ◌<◌, ◌≤◌, Bool, true, false, true≢false, cond, not, ◌&&◌, ◌==◌, nat_lt, List, [], ◌∷◌, ◌++◌, length, map, take, drop, Option, Some, None, refl, sym, ap, subst, ◌∙◌, append_assoc, arith}
use Rattle.std.specs.Prelude.{All, Contains, find, fold, is_some, option_and_then, option_map, slice_get, unwrap_or}
use Rattle.std.specs.List.{flat_map, list_any}
use Rattle.std.proofs.lemmas.Bool.{and_parts, eqb-true, ltb-true}
use Rattle.std.proofs.lemmas.List.{length_push, take-append-le, take-append-drop}
use Rattle.std.proofs.lemmas.Grind.{flat_map-append}
use Rattle.std.proofs.lemmas.List.Elements.{All-nil, All-cons, All-head, All-tail, All-append, Contains-append_left, Contains-append_right}
use Rattle.rmt_bits.proofs.AllLaws.{All-find, All-reverse}
use Rattle.rmt_bits.proofs.ListLaws.{find-passes, slice_get-end}
use Rattle.rmt_bits.specs.Bits.{number_of}
use Rattle.rmt_bits.proofs.MemberLaws.{Contains-first, Contains-later}
use Rattle.rmt_bits.specs.Packet.{Packet}
use Rattle.rmt_bits.specs.Counts.{Hit}
use Rattle.rmt_chip.specs.Types.{Config, Stage, Unit as ChipUnit, SlotUnit, CellNumber}
use Rattle.rmt_config.specs.declared.config.Unit.TheVariants.{Gate, Slot}
use Rattle.rmt_config.specs.declared.cell_write.CellWrite.{CellWrite}
use Rattle.rmt_config.specs.Cells.{Content, Found, candidates, cells_in, content_of, is_occupied, number_of_cell}
use Rattle.rmt_config.specs.Form.{Formed}
use Rattle.rmt_config.specs.LaneForm.{bits_of_lanes}
use Rattle.rmt_config.specs.Instructions.{first_code}
use Rattle.rmt_config.specs.Life.{Look, Words, Life, Acts, Counted, has_memory, key_of, life_of, looked_up, runs, slot_acts, through, through_from, unit_acts}
use Rattle.rmt_config.specs.Parser.{Parse, Short, Reject, Accept, parse, put}
use Rattle.rmt_config.specs.ChipRun.{Outcome, counted_numbers, hits_before, outcome_from, outcome_of, unit_numbers}
use Rattle.rmt_config.specs.RunCells.{RunCells, as_slot, emptied, found_at, found_in_slot, is_changed, is_hit, look_in, no_content, own_cells, own_content, slot_at, with_write, written_content, written_mask}
use Rattle.rmt_config.specs.RunInputs.{Input, Idle, Enters, Writes, Turns, after_input, cells_at, hits_from, look_from, numbers_brought, packet_of, start_of as start_in}
use Rattle.rmt_chip.specs.Counting.{AreAmong}
use Rattle.rmt_chip.specs.PacketsInFlight.{cells_after, numbers_after}
use Rattle.rmt_memory.proofs.CandidateLaws.{slot-formed, slot-within, occupied-listed}
use Rattle.rmt_memory.proofs.MemoriesLaws.{slot_place}
use Rattle.rmt_bits.proofs.TestLaws.{either}

-- ---- the numbers of cells

-- each occupied cell of a counted slot has one of these numbers
abbrev pub AreKnown : Config → List ℕ → RunCells → Type 0
AreKnown c numbers cells = (k place n : ℕ) (slot : SlotUnit) → slot_at c k place ≡ Some slot → slot.counted ≡ true → n < cells_in slot.memory
    → is_occupied (cells.content k place n).head ≡ true → Contains numbers (cells.number k place n)

-- the number of a cell that is listed is one of those that the slot lists
number-listed : (numbers : List CellNumber) (n : ℕ) → list_any (λ m. m == n) (map (λ (x : CellNumber). x.cell) numbers) ≡ true
    → Contains (map (λ (x : CellNumber). x.number) numbers) (number_of_cell numbers n)
number-listed [] n e = absurd cc
number-listed (x ∷ xs) n e = by (x.cell == n) refl e (λ rest. number-listed xs n rest)
  where
    by : (b : Bool) → (x.cell == n) ≡ b → list_any (λ m. m == n) (map (λ (y : CellNumber). y.cell) (x ∷ xs)) ≡ true
        → (list_any (λ m. m == n) (map (λ (y : CellNumber). y.cell) xs) ≡ true → Contains (map (λ (y : CellNumber). y.number) xs) (number_of_cell xs n))
        → Contains (map (λ (y : CellNumber). y.number) (x ∷ xs)) (number_of_cell (x ∷ xs) n)
    by true is e rest = rw is (Contains-first x.number (map (λ (y : CellNumber). y.number) xs))
    by false is e rest =
        let later : list_any (λ m. m == n) (map (λ (y : CellNumber). y.cell) xs) ≡ true = (let f : list_any (λ m. m == n) (map (λ (y : CellNumber). y.cell) (x ∷ xs)) ≡ true = e in rw is at f) in
        rw is (Contains-later x.number (map (λ (y : CellNumber). y.number) xs) (number_of_cell xs n) (rest later))

-- what one item gives is among what all give
among-given : {X : Type 0} (f : X → List ℕ) (xs : List X) (i : ℕ) (x : X) (n : ℕ) → slice_get xs i ≡ Some x → Contains (f x) n → Contains (flat_map f xs) n
among-given f [] i x n at there = absurd cc
among-given f (y ∷ ys) zero x n at there = Contains-append_left (f y) (flat_map f ys) n (subst (λ z. Contains (f z) n) (let same : x ≡ y = cc in same) there)
among-given f (y ∷ ys) (suc i) x n at there = Contains-append_right (f y) (flat_map f ys) n (among-given f ys i x n at there)

own-known : (c : Config) → Formed c → AreKnown c (counted_numbers c) (own_cells c)
own-known c formed k place n slot is counted lt occupied =
    let at = slot_place c.stages k place slot is in
    let has = slot-formed c formed k place slot at in
    let content : own_content c k place n ≡ content_of at.stage slot n =
    ap (λ (o : Option Stage). unwrap_or (option_and_then (λ (x : Stage). option_map (λ (y : SlotUnit). content_of x y n) (option_and_then as_slot (slice_get x.units place))) o) no_content) at.at
    ∙ ap (λ (o : Option ChipUnit). unwrap_or (option_map (λ (y : SlotUnit). content_of at.stage y n) (option_and_then as_slot o)) no_content) at.there in
    let number : (own_cells c).number k place n ≡ number_of_cell slot.numbers n = ap (λ (o : Option SlotUnit). unwrap_or (option_map (λ (y : SlotUnit). number_of_cell y.numbers n) o) 0) is in
    let listed = number-listed slot.numbers n (occupied-listed has.visible at.stage has.first slot has.holds n lt (ap (λ (x : Content). is_occupied x.head) (sym content) ∙ occupied)) in
    let of_unit : Contains (unit_numbers (Slot slot)) (number_of_cell slot.numbers n) =
    subst (λ (b : Bool). Contains (cond b (map (λ (x : CellNumber). x.number) slot.numbers) []) (number_of_cell slot.numbers n)) (sym counted) listed in
    subst (Contains (counted_numbers c)) (sym number)
    (among-given (λ (stage : Stage). flat_map unit_numbers stage.units) c.stages k at.stage (number_of_cell slot.numbers n) at.at
    (among-given unit_numbers at.stage.units place (Slot slot) (number_of_cell slot.numbers n) at.there of_unit))

known-more : (c : Config) (numbers more : List ℕ) (cells : RunCells) → AreKnown c numbers cells → AreKnown c (numbers ++ more) cells
known-more c numbers more cells known k place n slot is counted lt occupied = Contains-append_left numbers more (cells.number k place n) (known k place n slot is counted lt occupied)

write-known : (c : Config) (numbers : List ℕ) (cells : RunCells) (w : CellWrite) → AreKnown c numbers cells → AreKnown c (numbers ++ numbers_brought c (Writes w)) (with_write c cells w)
write-known c numbers cells w known k place n slot is counted lt occupied = by (is_changed w k place n) refl occupied
  where
    more : List ℕ
    more = numbers_brought c (Writes w)

    written : (v : ℕ) → w.visible ≡ v → (b : Bool) → (w.visible == 0) ≡ b → is_changed w k place n ≡ true → is_occupied (unwrap_or (option_map (written_content w) (slot_at c k place)) no_content).head ≡ true
        → Contains (numbers ++ more) (cond (w.visible == 0) 0 w.number)
    written v v_is true e changed occ =
        let empty : (written_content w slot).head ≡ 0 = ap (λ (b : Bool). (cond b (emptied slot) (record { head = 1 + 2 * w.visible + 8 * w.code; key = number_of w.key; mask = written_mask (bits_of_lanes slot.keys) slot.memory w.mask; held = number_of w.held })).head) e in
        absurd (true≢false (sym occ ∙ ap (λ (o : Option SlotUnit). is_occupied (unwrap_or (option_map (written_content w) o) no_content).head) is ∙ ap is_occupied empty))
    written v v_is false e changed occ =
        let two = and_parts ((w.stage == k) && (w.unit == place)) (w.cell == n) changed in
        let both = and_parts (w.stage == k) (w.unit == place) two.0 in
        let here : slot_at c w.stage w.unit ≡ Some slot = ap (λ m. slot_at c m w.unit) (eqb-true w.stage k both.0) ∙ ap (λ m. slot_at c k m) (eqb-true w.unit place both.1) ∙ is in
        let brought : more ≡ w.number ∷ [] =
        ap (λ (b : Bool). cond (not b && unwrap_or (option_map (λ (s : SlotUnit). s.counted) (slot_at c w.stage w.unit)) false) (w.number ∷ []) []) e
        ∙ ap (λ (o : Option SlotUnit). cond (unwrap_or (option_map (λ (s : SlotUnit). s.counted) o) false) (w.number ∷ []) []) here
        ∙ ap (λ (b : Bool). cond b (w.number ∷ []) []) counted in
        subst (λ (b : Bool). Contains (numbers ++ more) (cond b 0 w.number)) (sym e)
        (Contains-append_right numbers more w.number (subst (λ (ns : List ℕ). Contains ns w.number) (sym brought) (Contains-first w.number [])))

    by : (b : Bool) → is_changed w k place n ≡ b → is_occupied (cond b (unwrap_or (option_map (written_content w) (slot_at c k place)) no_content) (cells.content k place n)).head ≡ true
        → Contains (numbers ++ more) (cond (is_changed w k place n) (cond (w.visible == 0) 0 w.number) (cells.number k place n))
    by true e occ = subst (λ (b : Bool). Contains (numbers ++ more) (cond b (cond (w.visible == 0) 0 w.number) (cells.number k place n))) (sym e) (written w.visible refl (w.visible == 0) refl e occ)
    by false e occ = subst (λ (b : Bool). Contains (numbers ++ more) (cond b (cond (w.visible == 0) 0 w.number) (cells.number k place n))) (sym e)
        (Contains-append_left numbers more (cells.number k place n) (known k place n slot is counted lt occ))

input-known : (c : Config) (numbers : List ℕ) (cells : RunCells) (input : Input) → AreKnown c numbers cells → AreKnown c (numbers ++ numbers_brought c input) (after_input c cells input)
input-known c numbers cells Idle known = known-more c numbers [] cells known
input-known c numbers cells (Enters p) known = known-more c numbers [] cells known
input-known c numbers cells (Turns seed) known = known-more c numbers [] cells known
input-known c numbers cells (Writes w) known = write-known c numbers cells w known

all-known : (c : Config) (numbers : List ℕ) (cells : RunCells) (inputs : List Input) → AreKnown c numbers cells → AreKnown c (numbers ++ flat_map (numbers_brought c) inputs) (fold (after_input c) cells inputs)
all-known c numbers cells [] known = known-more c numbers [] cells known
all-known c numbers cells (input ∷ inputs) known =
    subst (λ ns. AreKnown c ns (fold (after_input c) (after_input c cells input) inputs)) (append_assoc numbers (numbers_brought c input) (flat_map (numbers_brought c) inputs))
    (all-known c (numbers ++ numbers_brought c input) (after_input c cells input) inputs (input-known c numbers cells input known))

pub known-after : (c : Config) → Formed c → (inputs : List Input) → AreKnown c (numbers_after c inputs) (cells_after c inputs)
known-after c formed inputs = all-known c (counted_numbers c) (own_cells c) inputs (own-known c formed)

-- ---- the numbers that look-ups find

find-among : (test : ℕ → Bool) (P : ℕ → Type 0) (xs : List ℕ) (n : ℕ) → All P xs → find test xs ≡ Some n → P n
find-among test P xs n all e = All-find P test xs n all e

pub found-known : (c : Config) → Formed c → (numbers : List ℕ) (cells : RunCells) → AreKnown c numbers cells → (version k place key : ℕ) (slot : SlotUnit) (f : Found) → slot_at c k place ≡ Some slot → slot.counted ≡ true
    → look_in c version cells k place key ≡ Some f → Contains numbers f.number
found-known c formed numbers cells known version k place key slot f is counted found =
    by (find test among) refl (sym (ap (λ (o : Option SlotUnit). option_and_then (found_in_slot (is_some c.names) version cells k place key) o) is) ∙ found)
  where
    test : ℕ → Bool
    test n = is_hit (is_some c.names) version key (cells.content k place n)

    among : List ℕ
    among = candidates cells.seed (bits_of_lanes slot.keys) slot.memory key

    by : (o : Option ℕ) → find test among ≡ o → option_map (found_at cells k place) o ≡ Some f → Contains numbers f.number
    by None e h = absurd cc
    by (Some n) e h =
        let same : found_at cells k place n ≡ f = cc in
        let lt = find-among test (λ m. m < cells_in slot.memory) among n (slot-within c formed k place slot is cells.seed key) e in
        let passes = find-passes test among n e in
        let seen = and_parts _ _ (and_parts _ _ passes).0 in
        subst (λ (x : Found). Contains numbers x.number) same (known k place n slot is counted lt seen.0)

-- ---- what a life counts

-- a fact of age and number that holds of each hit that a stage may count
abbrev MayCount : (ℕ → ℕ → Type 0) → Look → ℕ → Stage → Type 0
MayCount Q look k stage = (place key : ℕ) (slot : SlotUnit) (f : Found) → slice_get stage.units place ≡ Some (Slot slot) → slot.counted ≡ true → look k place key ≡ Some f → Q (stage.start + 8) f.number

abbrev AllCounted : (ℕ → ℕ → Type 0) → List Counted → Type 0
AllCounted Q counted = All (λ (x : Counted). Q x.age x.number) counted

counted-if : (Q : ℕ → ℕ → Type 0) (b : Bool) (one : Counted) (xs : List Counted) → (b ≡ true → Q one.age one.number) → AllCounted Q xs → AllCounted Q (cond b (one ∷ xs) xs)
counted-if Q true one xs q h = All-cons (λ (x : Counted). Q x.age x.number) one xs (q refl) h
counted-if Q false one xs q h = h

module _ (Q : ℕ → ℕ → Type 0) (look : Look) (k : ℕ) (stage : Stage) (may : MayCount Q look k stage) where
  slot-counted : (first : ℕ) (slot : SlotUnit) (place key : ℕ) (o : Option Found) (a : Acts) → slice_get stage.units place ≡ Some (Slot slot) → ((f : Found) → o ≡ Some f → look k place key ≡ Some f)
      → AllCounted Q a.counted → AllCounted Q (slot_acts stage first slot o a).counted
  slot-counted first slot place key (Some f) a at found h = counted-if Q slot.counted (record { number = f.number; age = stage.start + 8 }) a.counted (λ yes. may place key slot f at yes (found f refl)) h
  slot-counted first slot place key None a at found h = either (λ (b : Acts). AllCounted Q b.counted) slot.last _ a h h

  looked : (slot : SlotUnit) (place : ℕ) (words : Words) (f : Found) → looked_up look k place words slot ≡ Some f → look k place (key_of words slot.keys) ≡ Some f
  looked slot place words f e = by (has_memory slot.memory) e
    where
      by : (b : Bool) → cond b (look k place (key_of words slot.keys)) None ≡ Some f → look k place (key_of words slot.keys) ≡ Some f
      by true e = e
      by false e = absurd cc

  unit-counted : (words : Words) (a : Acts) (u : ChipUnit) → slice_get stage.units a.place ≡ Some u → AllCounted Q a.counted → AllCounted Q (unit_acts look k stage words a u).counted
  unit-counted words a (Gate g) at h = either (λ (b : Acts). AllCounted Q b.counted) (runs g.node g.guard a.outcomes) _ a h h
  unit-counted words a (Slot slot) at h =
      either (λ (b : Acts). AllCounted Q b.counted) (runs slot.node slot.guard a.outcomes) (slot_acts stage (first_code stage a.place) slot (looked_up look k a.place words slot) a) a
      (slot-counted (first_code stage a.place) slot a.place (key_of words slot.keys) (looked_up look k a.place words slot) a at (looked slot a.place words) h) h

  next-place : (words : Words) (a : Acts) (u : ChipUnit) → (unit_acts look k stage words a u).place ≡ a.place + 1
  next-place words a (Gate g) = refl
  next-place words a (Slot s) = refl

  units-counted : (words : Words) (before units : List ChipUnit) (a : Acts) → stage.units ≡ before ++ units → a.place ≡ length before → AllCounted Q a.counted
      → AllCounted Q (fold (unit_acts look k stage words) a units).counted
  units-counted words before [] a is place h = h
  units-counted words before (u ∷ us) a is place h =
      let start : length before + 0 ≡ a.place = omega arith in
      let at : slice_get stage.units a.place ≡ Some u = ap (λ (xs : List ChipUnit). slice_get xs a.place) is ∙ ap (slice_get (before ++ u ∷ us)) (sym start) ∙ slice_get-end before (u ∷ us) 0 in
      let size = length_push before u in
      units-counted words (before ++ u ∷ []) us (unit_acts look k stage words a u) (is ∙ sym (append_assoc before (u ∷ []) us)) (next-place words a u ∙ (let e : a.place + 1 ≡ length (before ++ u ∷ []) = omega arith in e))
      (unit-counted words a u at h)

  through-counted : (life : Life) → AllCounted Q life.counted → AllCounted Q (through look k stage life).counted
  through-counted life h =
      All-append (λ (x : Counted). Q x.age x.number) life.counted _ h
      (All-reverse (λ (x : Counted). Q x.age x.number) _ (units-counted (life.word stage.start) [] stage.units _ refl refl (All-nil _)))

life-counted : (Q : ℕ → ℕ → Type 0) (look : Look) (whole : List Stage) → ((k : ℕ) (stage : Stage) → slice_get whole k ≡ Some stage → MayCount Q look k stage)
    → (before stages : List Stage) (life : Life) → whole ≡ before ++ stages → AllCounted Q life.counted → AllCounted Q (through_from look (length before) stages life).counted
life-counted Q look whole may before [] life is h = h
life-counted Q look whole may before (stage ∷ stages) life is h =
    let start : length before + 0 ≡ length before = omega arith in
    let at : slice_get whole (length before) ≡ Some stage =
    ap (λ (xs : List Stage). slice_get xs (length before)) is ∙ ap (slice_get (before ++ stage ∷ stages)) (sym start) ∙ slice_get-end before (stage ∷ stages) 0 in
    subst (λ n. AllCounted Q (through_from look n stages (through look (length before) stage life)).counted) (length_push before stage)
    (life-counted Q look whole may (before ++ stage ∷ []) stages (through look (length before) stage life) (is ∙ sym (append_assoc before (stage ∷ []) stages))
    (through-counted Q look (length before) stage (may (length before) stage at) life h))

outcome-counted : (Q : ℕ → ℕ → Type 0) (look : Look) (c : Config) → ((k : ℕ) (stage : Stage) → slice_get c.stages k ≡ Some stage → MayCount Q look k stage)
    → (packet : Packet) (p : Parse) → AllCounted Q (outcome_from look c packet p).counted
outcome-counted Q look c may packet Short = All-nil _
outcome-counted Q look c may packet Reject = All-nil _
outcome-counted Q look c may packet (Accept r) =
    let all : AllCounted Q (life_of look c.stages (put r.vector c.in_port packet.port)).counted = life-counted Q look c.stages may [] c.stages _ refl (All-nil _) in
    either (λ (o : Outcome). AllCounted Q o.counted) _ _ _ all all

-- ---- the hits of a run

hits-among : (numbers : List ℕ) (age : ℕ) (packet : Packet) (counted : List Counted) → AllCounted (λ a n. a < age → Contains numbers n) counted → AreAmong numbers (hits_before age packet counted)
hits-among numbers age packet [] h = All-nil _
hits-among numbers age packet (x ∷ xs) h =
    let P : Hit → Type 0 = λ hit. Contains numbers hit.number in
    let one : Hit = record { number = x.number; bytes = length packet.frame } in
    All-append P (cond (nat_lt x.age age) (one ∷ []) []) (hits_before age packet xs)
    (by one (nat_lt x.age age) refl (All-head (λ (y : Counted). y.age < age → Contains numbers y.number) x xs h))
    (hits-among numbers age packet xs (All-tail (λ (y : Counted). y.age < age → Contains numbers y.number) x xs h))
  where
    by : (one : Hit) (b : Bool) → nat_lt x.age age ≡ b → (x.age < age → Contains numbers one.number) → AreAmong numbers (cond b (one ∷ []) [])
    by one true e q = All-cons (λ (hit : Hit). Contains numbers hit.number) one [] (q (ltb-true x.age age e)) (All-nil _)
    by one false e q = All-nil _

module _ (c : Config) (formed : Formed c) (inputs later : List Input) where
  abbrev run : List Input
  run = inputs ++ later

  -- the numbers of a front of the inputs are among those of all
  front-known : (m : ℕ) → m ≤ length inputs → (n : ℕ) → Contains (numbers_after c (take m inputs)) n → Contains (numbers_after c inputs) n
  front-known m le n there =
      let front = flat_map (numbers_brought c) (take m inputs) in
      let back = flat_map (numbers_brought c) (drop m inputs) in
      let split : flat_map (numbers_brought c) inputs ≡ front ++ back = ap (flat_map (numbers_brought c)) (sym (take-append-drop m inputs)) ∙ flat_map-append (numbers_brought c) (take m inputs) (drop m inputs) in
      subst (λ ns. Contains ns n) (append_assoc (counted_numbers c) front back ∙ sym (ap (λ ns. counted_numbers c ++ ns) split)) (Contains-append_left (counted_numbers c ++ front) back n there)

  may-count : (cycle n : ℕ) → cycle + n ≡ length inputs → (k : ℕ) (stage : Stage) → slice_get c.stages k ≡ Some stage → MayCount (λ age number. age < n → Contains (numbers_after c inputs) number) (look_from c run cycle) k stage
  may-count cycle n size k stage at place key slot f is counted found early =
      let start : start_in c k ≡ stage.start = ap (λ (o : Option Stage). unwrap_or (option_map (λ (s : Stage). s.start) o) 0) at in
      let m = cycle + start_in c k in
      let within : m ≤ length inputs = omega arith in
      let front : take m run ≡ take m inputs = take-append-le m inputs later within in
      let here : slot_at c k place ≡ Some slot = ap (λ (o : Option Stage). option_and_then (λ (s : Stage). option_and_then as_slot (slice_get s.units place)) o) at ∙ ap (option_and_then as_slot) is in
      let cells : cells_at c run m ≡ cells_after c (take m inputs) = ap (λ (xs : List Input). fold (after_input c) (own_cells c) xs) front in
      front-known m within f.number
      (found-known c formed (numbers_after c (take m inputs)) (cells_after c (take m inputs)) (known-after c formed (take m inputs)) (cells_at c run cycle).version k place key slot f here counted
      (ap (λ (x : RunCells). look_in c (cells_at c run cycle).version x k place key) (sym cells) ∙ found))

  rest-among : (cycle : ℕ) (rest : List Input) → cycle + length rest ≡ length inputs → AreAmong (numbers_after c inputs) (hits_from c run cycle rest)
  rest-among cycle [] size = All-nil _
  rest-among cycle (input ∷ rest) size =
      let P : Hit → Type 0 = λ hit. Contains (numbers_after c inputs) hit.number in
      let next : cycle + 1 + length rest ≡ length inputs = omega arith in
      All-append P (unwrap_or (option_map (λ packet. hits_before (length rest + 1) packet (outcome_of (look_from c run cycle) c packet).counted) (packet_of input)) []) (hits_from c run (cycle + 1) rest)
      (by (packet_of input)) (rest-among (cycle + 1) rest next)
    where
      by : (o : Option Packet) → AreAmong (numbers_after c inputs) (unwrap_or (option_map (λ packet. hits_before (length rest + 1) packet (outcome_of (look_from c run cycle) c packet).counted) o) [])
      by None = All-nil _
      by (Some p) =
          hits-among (numbers_after c inputs) (length rest + 1) p (outcome_of (look_from c run cycle) c p).counted
          (outcome-counted (λ age number. age < length rest + 1 → Contains (numbers_after c inputs) number) (look_from c run cycle) c
          (may-count cycle (length rest + 1) (let e : cycle + (length rest + 1) ≡ length inputs = omega arith in e)) p (parse c.parser p.frame))

  pub hits-known : AreAmong (numbers_after c inputs) (hits_from c run 0 inputs)
  hits-known = rest-among 0 inputs (omega arith)
