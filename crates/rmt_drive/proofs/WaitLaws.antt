-- Cycles in which nothing enters, and those of a commit.
use Rattle.std.proofs.Common.{◌≡◌, ℕ, zero, suc, ◌+◌, ◌-◌, ◌<◌, ◌≤◌, Bool, true, false, cond, ltb, List, [], ◌∷◌, ◌++◌, length, max, take, drop, Some, sym, refl, ap, ◌∙◌, arith, append_assoc, length-append}
use Rattle.std.specs.Prelude.{map, replicate, slice_get}
use Rattle.std.proofs.lemmas.Bool.{ltb-true, ltb-false}
use Rattle.std.proofs.lemmas.List.{length-replicate, map-append, replicate-append-replicate, take-append-drop}
use Rattle.std.proofs.lemmas.List.Sums.{sum_by-append}
use Rattle.rmt_bits.proofs.ListLaws.{take-slice_get}
use Rattle.rmt_ast.specs.Events.{Event}
use Rattle.rmt_config.specs.declared.config.Config.{Config}
use Rattle.rmt_config.specs.declared.cell_write.CellWrite.{CellWrite}
use Rattle.rmt_config.specs.ChipRun.{latency_of}
use Rattle.rmt_config.specs.Commits.{RunState, waits}
use Rattle.rmt_config.specs.RunInputs.{Idle, Input, Turns, Writes}
use Rattle.rmt_chip.specs.declared.chip.Chip.{Chip}
use Rattle.rmt_chip.specs.Inputs.{packets_of}
use Rattle.rmt_chip.specs.Stands.{Stands, entered_of, oldest_in_flight, version_of}
use Rattle.rmt_drive.specs.ChipEvents.{Comes, commit_cycles, is_waiting, lists_in, names_in}
use Rattle.rmt_drive.proofs.FlightLaws.{enters}
use Rattle.rmt_drive.proofs.FlyingLaws.{all_within, at_idles, is_there, no_versions, none_written, version_is, versions-append, versions_in, waiting_is}

-- ---- inputs one behind another

-- one more cycle with nothing
pub idle_more : (made : List Input) (a : ℕ) → (made ++ replicate a Idle) ++ Idle ∷ [] ≡ made ++ replicate (a + 1) Idle
idle_more made a = append_assoc made (replicate a Idle) (Idle ∷ []) ∙ ap (λ (l : List Input). made ++ l) (replicate-append-replicate a 1 Idle)

pub idle_length : (made : List Input) (a : ℕ) → length (made ++ replicate a Idle) ≡ length made + a
idle_length made a = length-append made (replicate a Idle) ∙ ap (λ n. length made + n) (length-replicate a Idle)

-- a number of such cycles is a front of more
pub idle_front : (a n : ℕ) → a ≤ n → replicate n Idle ≡ replicate a Idle ++ replicate (n - a) Idle
idle_front a n le = let all : a + (n - a) ≡ n = omega (arith, le) in ap (λ m. replicate m Idle) (sym all) ∙ sym (replicate-append-replicate a (n - a) Idle)

-- ---- packets and versions

pub packets-append : (xs ys : List Input) → packets_of (xs ++ ys) ≡ packets_of xs + packets_of ys
packets-append xs ys = sum_by-append (λ (i : Input). cond (enters i) 1 0) xs ys

pub no_packets : (n : ℕ) → packets_of (replicate n Idle) ≡ 0
no_packets zero = refl
no_packets (suc n) = packets-append (Idle ∷ []) (replicate n Idle) ∙ ap (λ m. 0 + m) (no_packets n)

pub none_in_writes : (ws : List CellWrite) → packets_of (map Writes ws) ≡ 0
none_in_writes [] = refl
none_in_writes (w ∷ ws) = packets-append (Writes w ∷ []) (map Writes ws) ∙ ap (λ m. 0 + m) (none_in_writes ws)

-- ---- how long a commit waits

module _ (c : Config) (events : List Event) (made : List Input) (r : RunState) (h : Comes c (names_in c) (lists_in c) events made r) where
  abbrev until : Bool → ℕ
  until moved = cond moved (max r.older_gone r.all_gone) r.older_gone

  waiting_so : (chip : Chip) (moved : Bool) (count : ℕ) → Stands c (made ++ replicate count Idle) chip
      → is_waiting moved (version_of chip) (oldest_in_flight c (made ++ replicate count Idle)) ≡ ltb (length made + count) (until moved)
  waiting_so chip moved count s =
      let all = made ++ replicate count Idle in
      ap (λ v. is_waiting moved v (oldest_in_flight c all)) s.version_is
      ∙ waiting_is c all r.older_gone r.all_gone (at_idles c made count r.older_gone r.all_gone (is_there c (names_in c) (lists_in c) events made r h).at) moved
      ∙ ap (λ n. ltb n (until moved)) (idle_length made count)

  -- while it waits, a cycle more is one of those in which it does
  pub waits_on : (chip : Chip) (moved : Bool) (count : ℕ) → Stands c (made ++ replicate count Idle) chip
      → is_waiting moved (version_of chip) (oldest_in_flight c (made ++ replicate count Idle)) ≡ true → count < waits r moved
  waits_on chip moved count s e =
      let cycle = (is_there c (names_in c) (lists_in c) events made r h).cycle in
      let lt = ltb-true (length made + count) (until moved) (sym (waiting_so chip moved count s) ∙ e) in
      omega (arith, cycle, lt)

  -- and where it does not, they were all
  pub waits_no_more : (chip : Chip) (moved : Bool) (count : ℕ) → Stands c (made ++ replicate count Idle) chip
      → is_waiting moved (version_of chip) (oldest_in_flight c (made ++ replicate count Idle)) ≡ false → waits r moved ≤ count
  waits_no_more chip moved count s e =
      let cycle = (is_there c (names_in c) (lists_in c) events made r h).cycle in
      let le = ltb-false (length made + count) (until moved) (sym (waiting_so chip moved count s) ∙ e) in
      omega (arith, cycle, le)

  -- for the latency at most
  pub waits_few : (moved : Bool) → waits r moved ≤ latency_of c.stages
  waits_few moved =
      let there = is_there c (names_in c) (lists_in c) events made r h in
      let all = all_within c made r.older_gone r.all_gone there.at in
      by moved there.cycle all there.at.least
    where
      by : (moved : Bool) → r.cycle ≡ length made → r.all_gone ≤ length made + latency_of c.stages → r.older_gone ≤ r.all_gone → waits r moved ≤ latency_of c.stages
      by true cycle all least = omega (arith, cycle, all, least)
      by false cycle all least = omega (arith, cycle, all, least)

-- ---- the cycles of a commit, part by part

-- behind the cycles in which it waits, with some of its changed cells, and with its new version
pub commit_whole : (made : List Input) (r : RunState) (moved : Bool) (seed : ℕ) (writes : List CellWrite)
    → ((made ++ replicate (waits r moved) Idle) ++ map Writes writes) ++ Turns seed ∷ [] ≡ made ++ commit_cycles r moved seed writes
commit_whole made r moved seed writes =
    let idles = replicate (waits r moved) Idle in
    append_assoc (made ++ idles) (map Writes writes) (Turns seed ∷ []) ∙ append_assoc made idles (map Writes writes ++ Turns seed ∷ [])

-- a front of the cycles in which it waits is one of all
pub waiting_part : (r : RunState) (moved : Bool) (seed : ℕ) (writes : List CellWrite) (count : ℕ) → count ≤ waits r moved
    → commit_cycles r moved seed writes ≡ replicate count Idle ++ (replicate (waits r moved - count) Idle ++ (map Writes writes ++ Turns seed ∷ []))
waiting_part r moved seed writes count le =
    let last = map Writes writes ++ Turns seed ∷ [] in
    ap (λ (l : List Input). l ++ last) (idle_front count (waits r moved) le) ∙ append_assoc (replicate count Idle) (replicate (waits r moved - count) Idle) last

pub writing_part : (r : RunState) (moved : Bool) (seed : ℕ) (writes : List CellWrite) (part rest : List Input) → map Writes writes ≡ part ++ rest
    → commit_cycles r moved seed writes ≡ (replicate (waits r moved) Idle ++ part) ++ (rest ++ Turns seed ∷ [])
writing_part r moved seed writes part rest e =
    let idles = replicate (waits r moved) Idle in
    ap (λ (l : List Input). idles ++ (l ++ Turns seed ∷ [])) e ∙ ap (λ (l : List Input). idles ++ l) (append_assoc part rest (Turns seed ∷ []))
    ∙ sym (append_assoc idles part (rest ++ Turns seed ∷ []))

-- some of the changed cells, and those behind them
pub writes_parted : (writes : List CellWrite) (n : ℕ) → map Writes writes ≡ map Writes (take n writes) ++ map Writes (drop n writes)
writes_parted writes n = ap (map Writes) (sym (take-append-drop n writes)) ∙ map-append Writes (take n writes) (drop n writes)

-- one more of them
pub write_more : (made : List Input) (xs : List CellWrite) (n : ℕ) (w : CellWrite) → slice_get xs n ≡ Some w → (made ++ map Writes (take n xs)) ++ Writes w ∷ [] ≡ made ++ map Writes (take (n + 1) xs)
write_more made xs n w at =
    append_assoc made (map Writes (take n xs)) (Writes w ∷ [])
    ∙ ap (λ (l : List Input). made ++ l) (sym (map-append Writes (take n xs) (w ∷ [])) ∙ ap (map Writes) (sym (take-slice_get xs n w at)))

-- nothing is counted until it turns, where empty cycles and changed cells count for nothing
counts_waited : (count : List Input → ℕ) → ((xs ys : List Input) → count (xs ++ ys) ≡ count xs + count ys) → (made idles cells : List Input) → count idles ≡ 0 → count cells ≡ 0
    → count ((made ++ idles) ++ cells) ≡ count made
counts_waited count append made idles cells none unwritten = omega (arith, append (made ++ idles) cells, append made idles, none, unwritten)

pub packets_waited : (made : List Input) (n : ℕ) (ws : List CellWrite) → packets_of ((made ++ replicate n Idle) ++ map Writes ws) ≡ packets_of made
packets_waited made n ws = counts_waited packets_of packets-append made (replicate n Idle) (map Writes ws) (no_packets n) (none_in_writes ws)

pub versions_waited : (made : List Input) (n : ℕ) (ws : List CellWrite) → versions_in ((made ++ replicate n Idle) ++ map Writes ws) ≡ versions_in made
versions_waited made n ws = counts_waited versions_in versions-append made (replicate n Idle) (map Writes ws) (no_versions n) (none_written ws)

-- what a chip counts stays the same in empty cycles, and where cells are changed behind them
pub entered_still : (c : Config) (made : List Input) (n : ℕ) (first chip : Chip) → Stands c made first → Stands c (made ++ replicate n Idle) chip → entered_of chip ≡ entered_of first
entered_still c made n first chip was is =
    let same : packets_of (made ++ replicate n Idle) ≡ packets_of made = omega (arith, packets-append made (replicate n Idle), no_packets n) in
    is.entered_is ∙ same ∙ sym was.entered_is

pub counts_still : (c : Config) (made : List Input) (n : ℕ) (ws : List CellWrite) (first chip : Chip) → Stands c made first → Stands c ((made ++ replicate n Idle) ++ map Writes ws) chip
    → (entered_of chip ≡ entered_of first) × (version_of chip ≡ version_of first)
counts_still c made n ws first chip was is = (
  is.entered_is ∙ packets_waited made n ws ∙ sym was.entered_is,
  is.version_is ∙ version_is c ((made ++ replicate n Idle) ++ map Writes ws) ∙ versions_waited made n ws ∙ sym (was.version_is ∙ version_is c made),
)
