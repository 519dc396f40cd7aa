-- Each packet of a run of packets and commits sees one state of the cells.
use Rattle.std.proofs.Common.{◌≡◌, ℕ, zero, suc, ◌+◌, ◌-◌, ◌≤◌, Bool, true, false, List, [], ◌∷◌, ◌++◌, length, map, take, fold, replicate, append_assoc, leb, ◌==◌, Option, Some, None, All, refl, sym, ap, subst, ◌∙◌, inl, inr, arith}
use Rattle.std.specs.Prelude.{IsTrue, option_map, slice_get, unwrap_or}
use Rattle.std.proofs.lemmas.Bool.{and_parts, cases_lt, eqb-true, leb-true}
use Rattle.std.proofs.lemmas.List.{length-append, length-map, length-replicate, append-nil, take-append-le, take_all}
use Rattle.std.proofs.lemmas.List.Elements.{All-cons, All-head, All-nil}
use Rattle.std.proofs.lemmas.Option.{none-some, same_Some}
use Rattle.rmt_bits.specs.Packet.{Packet}
use Rattle.rmt_bits.proofs.AllLaws.{All-slice_get}
use Rattle.rmt_bits.proofs.ListLaws.{slice_get-end, slice_get-front}
use Rattle.rmt_ast.specs.declared.entry.Entry.{Entry}
use Rattle.rmt_ast.specs.declared.names.Names.{Names}
use Rattle.rmt_ast.specs.Changes.{at_first, committed}
use Rattle.rmt_ast.specs.Events.{Event}
use Rattle.rmt_refine.specs.Types.{Config, Stage}
use Rattle.rmt_config.specs.declared.cell_write.CellWrite.{CellWrite}
use Rattle.rmt_config.specs.ChipRun.{latency_of}
use Rattle.rmt_config.specs.Commits.{AreWrites, Makes, RunState, RunsFrom, arrives, behind_commit, behind_packet, commits, ends, moves, stays, waits}
use Rattle.rmt_config.specs.Form.{Formed, items_are_formed}
use Rattle.rmt_config.specs.Order.{rises_from}
use Rattle.rmt_config.specs.RunCells.{RunCells, look_in, own_cells, with_version, with_write}
use Rattle.rmt_config.specs.RunInputs.{Enters, Idle, Input, Turns, Writes, after_input, start_of}
use Rattle.rmt_config.specs.StageForm.{starts_are_formed}
use Rattle.rmt_refine.specs.Commits.{PacketsSeeOneState}
use Rattle.rmt_refine.proofs.SameCellLaws.{SameCells, look_same, same_itself, same_writes}
use Rattle.rmt_refine.proofs.UnseenLaws.{changes_unseen, seed_stays}

-- ---- lists of inputs

-- what stands behind some items
pub past : {S X : Type 0} (f : S → X → S) (s : S) (xs ys : List X) (i : ℕ) → fold f s (take (length xs + i) (xs ++ ys)) ≡ fold f (fold f s xs) (take i ys)
past f s [] ys i = let none : 0 + i ≡ i = omega arith in ap (λ n. fold f s (take n ys)) none
past f s (x ∷ xs) ys i = let more : suc (length xs) + i ≡ suc (length xs + i) = omega arith in ap (λ n. fold f s (take n (x ∷ (xs ++ ys)))) more ∙ past f (f s x) xs ys i

-- idle cycles change nothing
pub idle : (c : Config) (cells : RunCells) (n : ℕ) → fold (after_input c) cells (replicate n Idle) ≡ cells
idle c cells zero = refl
idle c cells (suc n) = idle c cells n

idle_some : (c : Config) (cells : RunCells) (j n : ℕ) → fold (after_input c) cells (take j (replicate n Idle)) ≡ cells
idle_some c cells zero n = refl
idle_some c cells (suc j) zero = refl
idle_some c cells (suc j) (suc n) = idle_some c cells j n

idle_front : (c : Config) (cells : RunCells) (j n : ℕ) (rest : List Input) → j ≤ n → fold (after_input c) cells (take j (replicate n Idle ++ rest)) ≡ cells
idle_front c cells zero n rest le = refl
idle_front c cells (suc j) zero rest le = absurd (omega (arith, le))
idle_front c cells (suc j) (suc n) rest le = idle_front c cells j n rest (omega (arith, le))

-- the cycles of some changes
some_writes : (c : Config) (cells : RunCells) (ws : List CellWrite) (i : ℕ) → fold (after_input c) cells (take i (map Writes ws)) ≡ fold (with_write c) cells (take i ws)
some_writes c cells ws zero = refl
some_writes c cells [] (suc i) = refl
some_writes c cells (w ∷ ws) (suc i) = some_writes c (with_write c cells w) ws i

all_writes : (c : Config) (cells : RunCells) (ws : List CellWrite) → fold (after_input c) cells (map Writes ws) ≡ fold (with_write c) cells ws
all_writes c cells [] = refl
all_writes c cells (w ∷ ws) = all_writes c (with_write c cells w) ws

-- a commit's cycles but the last one
abbrev pub changing : ℕ → List CellWrite → List Input
changing n ws = replicate n Idle ++ map Writes ws

pub length_changing : (n : ℕ) (ws : List CellWrite) → length (changing n ws) ≡ n + length ws
length_changing n ws = length-append (replicate n Idle) (map Writes ws) ∙ ap (λ m. m + length (map Writes ws)) (length-replicate n Idle) ∙ ap (λ m. n + m) (length-map ws Writes)

pub after_changing : (c : Config) (cells : RunCells) (n : ℕ) (ws : List CellWrite) → fold (after_input c) cells (changing n ws) ≡ fold (with_write c) cells ws
after_changing c cells zero ws = all_writes c cells ws
after_changing c cells (suc n) ws = after_changing c cells n ws

-- after some of them the cells are as before, or some changes are made
in_changing : (c : Config) (cells : RunCells) (n j : ℕ) (ws : List CellWrite)
    → (count : ℕ) × (fold (after_input c) cells (take j (changing n ws)) ≡ fold (with_write c) cells (take count ws))
in_changing c cells zero j ws = (j, some_writes c cells ws j)
in_changing c cells (suc n) zero ws = (0, refl)
in_changing c cells (suc n) (suc j) ws = in_changing c cells n j ws

-- no packet enters in them, nor as the version turns
none_enters : (n : ℕ) (ws : List CellWrite) (i : ℕ) (packet : Packet) → slice_get (changing n ws) i ≡ Some (Enters packet) → ⊥
none_enters zero [] i packet e = none-some (Enters packet) e
none_enters zero (w ∷ ws) zero packet e = no_write (same_Some (Writes w) (Enters packet) e)
  where
    no_write : Writes w ≡ Enters packet → ⊥
    no_write f = absurd cc
none_enters zero (w ∷ ws) (suc i) packet e = none_enters zero ws i packet e
none_enters (suc n) ws zero packet e = no_idle (same_Some Idle (Enters packet) e)
  where
    no_idle : Idle ≡ Enters packet → ⊥
    no_idle f = absurd cc
none_enters (suc n) ws (suc i) packet e = none_enters n ws i packet e

-- ---- a version turns

-- look-ups don't ask for the version that is current
look_turned : (c : Config) (cells : RunCells) (seed v k place key : ℕ) → seed ≡ cells.seed → look_in c v (with_version cells seed) k place key ≡ look_in c v cells k place key
look_turned c cells seed v k place key e = λ i. look_in c v (with_version cells (e i)) k place key

-- where no cell moves the seed stays
seed_made : (c : Config) (names : Names) (cells : RunCells) (before after : List (List Entry)) (seed : ℕ) (next : RunCells) → Makes c names cells before after false seed next → seed ≡ cells.seed
seed_made c names cells before after seed next (stays placed e) = refl

module _ (c : Config) (names : Names) (formed : Formed c) (named : c.names ≡ Some names) where
  -- cells that agree before a version turns agree with the cells of the next one
  pub same_turned : (r : RunState) (cells next : RunCells) (ws : List CellWrite) (seed : ℕ) → next.version ≡ r.cells.version → SameCells c cells r.cells → AreWrites c r.cells next ws
      → SameCells c (with_version (fold (with_write c) cells ws) seed) (with_version next seed)
  same_turned r cells next ws seed nv h w =
      let all = same_writes c cells r.cells ws h in
      record {
        version = ap (λ n. n + 1) (version_stays cells ws ∙ h.version ∙ sym nv);
        seed = refl;
        content = λ k place n cell. all.content k place n cell ∙ w.content k place n cell;
        number = λ k place n cell. all.number k place n cell ∙ w.number k place n cell;
      }
    where
      version_stays : (x : RunCells) (vs : List CellWrite) → (fold (with_write c) x vs).version ≡ x.version
      version_stays x [] = refl
      version_stays x (v ∷ vs) = version_stays (with_write c x v) vs

  -- a commit's cells keep the version until it turns
  pub version_made : (before after : List (List Entry)) (cells next : RunCells) (moved : Bool) (seed : ℕ) → Makes c names cells before after moved seed next → next.version ≡ cells.version
  version_made before after cells next moved seed (stays placed e) = refl
  version_made before after cells next moved seed (moves s placed e f g) = refl

  -- until the packets of older versions have left nothing changes
  until_older : (r : RunState) (events : List Event) (inputs : List Input) → RunsFrom c names r events inputs → (cells : RunCells) (j : ℕ) → r.cycle + j ≤ r.older_gone
      → fold (after_input c) cells (take j inputs) ≡ cells
  until_older r events inputs (ends s) cells j le = idle_some c cells j (r.all_gone - r.cycle)
  until_older r events inputs (arrives s packet es is h) cells zero le = refl
  until_older r events inputs (arrives s packet es is h) cells (suc j) le = until_older (behind_packet c s) es is h cells j (omega (arith, le))
  until_older r events inputs (commits s changes es is false seed next ws makes are h) cells j le =
      ap (λ (xs : List Input). fold (after_input c) cells (take j xs)) (append_assoc (replicate (waits s false) Idle) (map Writes ws) (Turns seed ∷ is))
      ∙ idle_front c cells j (waits s false) (map Writes ws ++ Turns seed ∷ is) (omega (arith, le))
  until_older r events inputs (commits s changes es is true seed next ws makes are h) cells j le =
      ap (λ (xs : List Input). fold (after_input c) cells (take j xs)) (append_assoc (replicate (waits s true) Idle) (map Writes ws) (Turns seed ∷ is))
      ∙ idle_front c cells j (waits s true) (map Writes ws ++ Turns seed ∷ is) (omega (arith, le))

  -- until the packets of the current version have left, they find what they found
  until_gone : (r : RunState) (events : List Event) (inputs : List Input) → RunsFrom c names r events inputs → r.all_gone ≤ r.cycle + latency_of c.stages
      → (cells : RunCells) → SameCells c cells r.cells → (j : ℕ) → r.cycle + j ≤ r.all_gone → (k place key : ℕ)
      → look_in c cells.version (fold (after_input c) cells (take j inputs)) k place key ≡ look_in c cells.version cells k place key
  until_gone r events inputs (ends s) last cells same j le k place key = ap (λ x. look_in c cells.version x k place key) (idle_some c cells j (r.all_gone - r.cycle))
  until_gone r events inputs (arrives s packet es is h) last cells same zero le k place key = refl
  until_gone r events inputs (arrives s packet es is h) last cells same (suc j) le k place key =
      until_gone (behind_packet c s) es is h (omega arith) cells same j (omega (arith, le, last)) k place key
  until_gone r events inputs (commits s changes es is true seed next ws makes are h) last cells same j le k place key =
      ap (λ x. look_in c cells.version x k place key)
      (ap (λ (xs : List Input). fold (after_input c) cells (take j xs)) (append_assoc (replicate (waits s true) Idle) (map Writes ws) (Turns seed ∷ is))
      ∙ idle_front c cells j (waits s true) (map Writes ws ++ Turns seed ∷ is) (omega (arith, le)))
  until_gone r events inputs (commits s changes es is false seed next ws makes are h) last cells same j le k place key =
      elim (cases_lt (length xs) j) [
        | inr few ↦ ap (λ (ys : List Input). look_in c cells.version (fold (after_input c) cells ys) k place key) (take-append-le j xs (Turns seed ∷ is) few) ∙ while_changing (in_changing c cells (waits s false) j ws)
        | inl more ↦
            let i = j - length xs - 1 in
            let split : j ≡ length xs + suc i = omega (arith, more) in
            ap (λ (m : ℕ). look_in c cells.version (fold (after_input c) cells (take m (xs ++ Turns seed ∷ is))) k place key) split
            ∙ ap (λ x. look_in c cells.version x k place key) (past (after_input c) cells xs (Turns seed ∷ is) (suc i) ∙ ap (λ (x : RunCells). fold (after_input c) (with_version x seed) (take i is)) (after_changing c cells (waits s false) ws)
            ∙ until_older (behind_commit s changes false seed ws next) es is h (with_version (fold (with_write c) cells ws) seed) i (let n = length_changing (waits s false) ws in omega (arith, le, n, split)))
            ∙ look_turned c (fold (with_write c) cells ws) seed cells.version k place key (seed_made c names s.cells s.entries.lists (committed s.entries changes).lists seed next makes ∙ sym same.seed ∙ sym (seed_stays c cells ws))
            ∙ ap (λ (ys : List CellWrite). look_in c cells.version (fold (with_write c) cells ys) k place key) (sym (take_all (length ws) ws (omega arith))) ∙ some_changes (length ws)
      ]
    where
      xs : List Input
      xs = changing (waits s false) ws

      some_changes : (count : ℕ) → look_in c cells.version (fold (with_write c) cells (take count ws)) k place key ≡ look_in c cells.version cells k place key
      some_changes count =
          look_same c formed (fold (with_write c) cells (take count ws)) (fold (with_write c) s.cells (take count ws)) (same_writes c cells s.cells (take count ws) same) cells.version k place key
          ∙ ap (λ v. look_in c v (fold (with_write c) s.cells (take count ws)) k place key) same.version
          ∙ changes_unseen c names s.cells s.entries.lists (committed s.entries changes).lists next seed ws count k place key named makes are
          ∙ sym (look_same c formed cells s.cells same cells.version k place key ∙ ap (λ v. look_in c v s.cells k place key) same.version)

      while_changing : (count : ℕ) × (fold (after_input c) cells (take j xs) ≡ fold (with_write c) cells (take count ws)) → look_in c cells.version (fold (after_input c) cells (take j xs)) k place key ≡ look_in c cells.version cells k place key
      while_changing x = ap (λ y. look_in c cells.version y k place key) x.1 ∙ some_changes x.0

  -- a packet that enters finds until it leaves what it finds in the cycle in which it enters
  while_in_flight : (r : RunState) (events : List Event) (inputs : List Input) → RunsFrom c names r events inputs → r.all_gone ≤ r.cycle + latency_of c.stages
      → (cells : RunCells) → SameCells c cells r.cells → (i : ℕ) (packet : Packet) → slice_get inputs i ≡ Some (Enters packet) → (d : ℕ) → d ≤ latency_of c.stages → (k place key : ℕ)
      → look_in c (fold (after_input c) cells (take i inputs)).version (fold (after_input c) cells (take (i + d) inputs)) k place key
      ≡ look_in c (fold (after_input c) cells (take i inputs)).version (fold (after_input c) cells (take i inputs)) k place key
  while_in_flight r events inputs (ends s) last cells same i packet e d le k place key = absurd (none_enters (r.all_gone - r.cycle) [] i packet (ap (λ (xs : List Input). slice_get xs i) (append-nil (replicate (r.all_gone - r.cycle) Idle)) ∙ e))
  while_in_flight r events inputs (arrives s p es is h) last cells same zero packet e zero le k place key = refl
  while_in_flight r events inputs (arrives s p es is h) last cells same zero packet e (suc d) le k place key =
      ap (λ (m : ℕ). look_in c cells.version (fold (after_input c) cells (take m (Enters p ∷ is))) k place key) (let n : 0 + suc d ≡ suc d = omega arith in n)
      ∙ until_gone (behind_packet c s) es is h (omega arith) cells same d (omega (arith, le)) k place key
  while_in_flight r events inputs (arrives s p es is h) last cells same (suc i) packet e d le k place key =
      ap (λ (m : ℕ). look_in c (fold (after_input c) cells (take i is)).version (fold (after_input c) cells (take m (Enters p ∷ is))) k place key) (let n : suc i + d ≡ suc (i + d) = omega arith in n)
      ∙ while_in_flight (behind_packet c s) es is h (omega arith) cells same i packet e d le k place key
  while_in_flight r events inputs (commits s changes es is moved seed next ws makes are h) last cells same i packet e d le k place key =
      elim (cases_lt i (length xs)) [
        | inl front ↦ absurd (none_enters (waits s moved) ws i packet (sym (slice_get-front xs (Turns seed ∷ is) i front) ∙ e))
        | inr behind ↦
            at_place (i - length xs) (let n : i ≡ length xs + (i - length xs) = omega (arith, behind) in n)
            (λ n there.
            while_in_flight (behind_commit s changes moved seed ws next) es is h (omega (arith, last))
            turned (same_turned s cells next ws seed (version_made s.entries.lists (committed s.entries changes).lists s.cells next moved seed makes) same are) n packet there d le k place key)
      ]
    where
      xs : List Input
      xs = changing (waits s moved) ws

      turned : RunCells
      turned = with_version (fold (with_write c) cells ws) seed

      reached : (n : ℕ) → fold (after_input c) cells (take (length xs + suc n) (xs ++ Turns seed ∷ is)) ≡ fold (after_input c) turned (take n is)
      reached n = past (after_input c) cells xs (Turns seed ∷ is) (suc n) ∙ ap (λ (x : RunCells). fold (after_input c) (with_version x seed) (take n is)) (after_changing c cells (waits s moved) ws)

      Sees : ℕ → ℕ → Type 0
      Sees m n =
          look_in c (fold (after_input c) cells (take m (xs ++ Turns seed ∷ is))).version (fold (after_input c) cells (take n (xs ++ Turns seed ∷ is))) k place key
          ≡ look_in c (fold (after_input c) cells (take m (xs ++ Turns seed ∷ is))).version (fold (after_input c) cells (take m (xs ++ Turns seed ∷ is))) k place key

      no_turn : Turns seed ≡ Enters packet → ⊥
      no_turn f = absurd cc

      Later : ℕ → Type 0
      Later n =
          look_in c (fold (after_input c) turned (take n is)).version (fold (after_input c) turned (take (n + d) is)) k place key
          ≡ look_in c (fold (after_input c) turned (take n is)).version (fold (after_input c) turned (take n is)) k place key

      at_place : (n : ℕ) → i ≡ length xs + n → ((m : ℕ) → slice_get is m ≡ Some (Enters packet) → Later m) → Sees i (i + d)
      at_place zero at later =
          absurd (no_turn (same_Some (Turns seed) (Enters packet) (sym (slice_get-end xs (Turns seed ∷ is) 0) ∙ ap (slice_get (xs ++ Turns seed ∷ is)) (sym at) ∙ e)))
      at_place (suc n) at later =
          let there : slice_get is n ≡ Some (Enters packet) = sym (slice_get-end xs (Turns seed ∷ is) (suc n)) ∙ ap (slice_get (xs ++ Turns seed ∷ is)) (sym at) ∙ e in
          let far : i + d ≡ length xs + suc (n + d) = omega (arith, at) in
          subst (λ m. Sees m (i + d)) (sym at) (subst (λ m. Sees (length xs + suc n) m) (sym far)
          (subst (λ (x : RunCells). look_in c x.version (fold (after_input c) cells (take (length xs + suc (n + d)) (xs ++ Turns seed ∷ is))) k place key ≡ look_in c x.version x k place key) (sym (reached n))
          (ap (λ x. look_in c (fold (after_input c) turned (take n is)).version x k place key) (reached (n + d)) ∙ later n there)))

-- ---- starts

-- a stage that begins after others ends before the last one does
starts_end : (least : ℕ) (stages : List Stage) → rises_from least (map (λ (s : Stage). s.start) stages) ≡ true → All (λ (s : Stage). s.start ≤ latency_of stages) stages
starts_end least [] h = All-nil (λ (s : Stage). s.start ≤ 0)
starts_end least (s ∷ []) h = All-cons (λ (t : Stage). t.start ≤ s.start + 12) s [] (omega arith) (All-nil (λ (t : Stage). t.start ≤ s.start + 12))
starts_end least (s ∷ t ∷ stages) h =
    let parts = and_parts (leb least s.start) (rises_from (s.start + 1) (map (λ (u : Stage). u.start) (t ∷ stages))) h in
    let later = starts_end (s.start + 1) (t ∷ stages) parts.1 in
    let first = All-head (λ (u : Stage). u.start ≤ latency_of (t ∷ stages)) t stages later in
    let above = leb-true (s.start + 1) t.start (and_parts (leb (s.start + 1) t.start) (rises_from (t.start + 1) (map (λ (u : Stage). u.start) stages)) parts.1).0 in
    All-cons (λ (u : Stage). u.start ≤ latency_of (t ∷ stages)) s (t ∷ stages) (omega (arith, first, above)) later

formed_starts : (stages : List Stage) → starts_are_formed (map (λ (s : Stage). s.start) stages) ≡ true → All (λ (s : Stage). s.start ≤ latency_of stages) stages
formed_starts [] h = All-nil (λ (s : Stage). s.start ≤ 0)
formed_starts (s ∷ []) h = All-cons (λ (t : Stage). t.start ≤ s.start + 12) s [] (omega arith) (All-nil (λ (t : Stage). t.start ≤ s.start + 12))
formed_starts (s ∷ t ∷ stages) h =
    let parts = and_parts (s.start == 0) (rises_from 1 (map (λ (u : Stage). u.start) (t ∷ stages))) h in
    let later = starts_end 1 (t ∷ stages) parts.1 in
    All-cons (λ (u : Stage). u.start ≤ latency_of (t ∷ stages)) s (t ∷ stages) (omega (arith, eqb-true s.start 0 parts.0)) later

starts_of_items : (c : Config) → IsTrue (items_are_formed c) → starts_are_formed (map (λ (s : Stage). s.start) c.stages) ≡ true
starts_of_items c h = (and_parts _ _ (and_parts _ _ h).1).1

start_within : (c : Config) → Formed c → (k : ℕ) → start_of c k ≤ latency_of c.stages
start_within c formed k = by (slice_get c.stages k) refl
  where
    all : All (λ (s : Stage). s.start ≤ latency_of c.stages) c.stages
    all = formed_starts c.stages (starts_of_items c formed.items)

    by : (o : Option Stage) → slice_get c.stages k ≡ o → unwrap_or (option_map (λ (stage : Stage). stage.start) o) 0 ≤ latency_of c.stages
    by None e = omega arith
    by (Some stage) e = All-slice_get (λ (s : Stage). s.start ≤ latency_of c.stages) c.stages k stage all e

pub one_state : PacketsSeeOneState
one_state c names lists events inputs cycle packet k place key formed named runs e =
    while_in_flight c names formed named begin events inputs runs (omega arith) (own_cells c) (same_itself c (own_cells c)) cycle packet e (start_of c k) (start_within c formed k) k place key
  where
    begin : RunState
    begin = record { cells = own_cells c; entries = at_first lists; cycle = 0; older_gone = 0; all_gone = 0 }
