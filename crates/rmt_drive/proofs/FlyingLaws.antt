-- Until when packets are in flight, and those of older versions.
use Rattle.std.proofs.Common.{◌≡◌, ◌⊎◌, inl, inr, ℕ, zero, suc, ◌+◌, ◌-◌, ◌<◌, ◌≤◌, Bool, true, false, cond, ltb, List, [], ◌∷◌, ◌++◌, length, take, max, Option, Some, None, sym, refl, ap, ◌∙◌, subst, arith, append_assoc, append-nil, length-append}
use Rattle.std.specs.Prelude.{fold, map, option_and_then, option_map, replicate, slice_get, ◌||◌}
use Rattle.std.proofs.lemmas.Bool.{cases_lt, lt-ltb, le-ltb}
use Rattle.std.proofs.lemmas.List.{take-append-le, take_all, length-map, length-replicate}
use Rattle.std.proofs.lemmas.Option.{none-some, same_Some, slice_get_within}
use Rattle.std.specs.Option.{option_or}
use Rattle.rmt_bits.proofs.ListLaws.{slice_get-front, slice_get-pushed}
use Rattle.rmt_bits.specs.Packet.{Packet}
use Rattle.rmt_ast.specs.declared.entry.Entry.{Entry}
use Rattle.rmt_ast.specs.declared.names.Names.{Names}
use Rattle.rmt_ast.specs.Events.{Event}
use Rattle.rmt_config.specs.declared.config.Config.{Config}
use Rattle.rmt_config.specs.declared.cell_write.CellWrite.{CellWrite}
use Rattle.rmt_config.specs.ChipRun.{latency_of}
use Rattle.rmt_config.specs.Commits.{Makes, RunState, moves, stays, waits}
use Rattle.rmt_config.specs.RunCells.{RunCells, own_cells, with_version, with_write}
use Rattle.rmt_config.specs.RunInputs.{Enters, Idle, Input, Turns, Writes, after_input, cells_at, packet_of}
use Rattle.rmt_chip.specs.Held.{Entered}
use Rattle.rmt_chip.specs.Inputs.{entered_at, entered_in, entering}
use Rattle.rmt_chip.specs.PacketsInFlight.{cells_after}
use Rattle.rmt_chip.specs.Ring.{oldest_below}
use Rattle.rmt_chip.specs.Stands.{oldest_in_flight}
use Rattle.rmt_drive.specs.ChipEvents.{Comes, arrived, begins, commit_cycles, is_waiting, turned}

-- ---- versions

-- how many versions were made in some cycles
abbrev pub versions_in : List Input → ℕ
versions_in [] = 0
versions_in (Idle ∷ is) = versions_in is
versions_in (Enters packet ∷ is) = versions_in is
versions_in (Writes write ∷ is) = versions_in is
versions_in (Turns seed ∷ is) = versions_in is + 1

version_after : (c : Config) (cells : RunCells) (inputs : List Input) → (fold (after_input c) cells inputs).version ≡ cells.version + versions_in inputs
version_after c cells [] = let e : cells.version ≡ cells.version + 0 = omega arith in e
version_after c cells (Idle ∷ is) = version_after c cells is
version_after c cells (Enters packet ∷ is) = version_after c cells is
version_after c cells (Writes write ∷ is) = version_after c (with_write c cells write) is
version_after c cells (Turns seed ∷ is) =
    let later : (fold (after_input c) (with_version cells seed) is).version ≡ cells.version + 1 + versions_in is = version_after c (with_version cells seed) is in
    omega (arith, later)

pub version_is : (c : Config) (inputs : List Input) → (cells_after c inputs).version ≡ versions_in inputs
version_is c inputs = let e : (cells_after c inputs).version ≡ 0 + versions_in inputs = version_after c (own_cells c) inputs in omega (arith, e)

pub versions-append : (xs ys : List Input) → versions_in (xs ++ ys) ≡ versions_in xs + versions_in ys
versions-append [] ys = let e : versions_in ys ≡ 0 + versions_in ys = omega arith in e
versions-append (Idle ∷ is) ys = versions-append is ys
versions-append (Enters packet ∷ is) ys = versions-append is ys
versions-append (Writes write ∷ is) ys = versions-append is ys
versions-append (Turns seed ∷ is) ys = let later = versions-append is ys in omega (arith, later)

versions_rise : (inputs : List Input) (s t : ℕ) → s ≤ t → versions_in (take s inputs) ≤ versions_in (take t inputs)
versions_rise inputs zero t le = omega arith
versions_rise [] (suc s) (suc t) le = omega arith
versions_rise (i ∷ is) (suc s) zero le = absurd (omega (arith, le))
versions_rise [] (suc s) zero le = absurd (omega (arith, le))
versions_rise (Idle ∷ is) (suc s) (suc t) le = versions_rise is s t (omega (arith, le))
versions_rise (Enters packet ∷ is) (suc s) (suc t) le = versions_rise is s t (omega (arith, le))
versions_rise (Writes write ∷ is) (suc s) (suc t) le = versions_rise is s t (omega (arith, le))
versions_rise (Turns seed ∷ is) (suc s) (suc t) le = let later = versions_rise is s t (omega (arith, le)) in omega (arith, later)

versions_most : (inputs : List Input) (t : ℕ) → versions_in (take t inputs) ≤ versions_in inputs
versions_most inputs t = elim (cases_lt t (length inputs)) [
  | inl lt ↦ subst (λ (xs : List Input). versions_in (take t inputs) ≤ versions_in xs) (take_all (length inputs) inputs (omega arith)) (versions_rise inputs t (length inputs) (omega (arith, lt)))
  | inr le ↦ subst (λ (xs : List Input). versions_in xs ≤ versions_in inputs) (sym (take_all t inputs le)) (omega arith)
]

-- ---- packets

-- the packet that entered in a cycle
abbrev pub packet_in : List Input → ℕ → Option Packet
packet_in inputs t = option_and_then packet_of (slice_get inputs t)

packet_within : (inputs : List Input) (t : ℕ) (p : Packet) → packet_in inputs t ≡ Some p → t < length inputs
packet_within inputs t p e = by (slice_get inputs t) refl e
  where
    by : (o : Option Input) → slice_get inputs t ≡ o → option_and_then packet_of o ≡ Some p → t < length inputs
    by None at h = absurd (none-some p h)
    by (Some x) at h = slice_get_within inputs t x at

-- The first cycles from which on no packet, and none of an older version than the current one, is in flight.
pub record IsAt (c : Config) (inputs : List Input) (older all : ℕ) : Type 0 where
  pub least : older ≤ all
  pub gone : (t : ℕ) (p : Packet) → packet_in inputs t ≡ Some p → t + latency_of c.stages + 1 ≤ all
  pub last : (all ≡ 0) ⊎ ((t : ℕ) × (p : Packet) × (packet_in inputs t ≡ Some p) × (all ≡ t + latency_of c.stages + 1))
  pub older_gone : (t : ℕ) (p : Packet) → packet_in inputs t ≡ Some p → versions_in (take t inputs) < versions_in inputs → t + latency_of c.stages + 1 ≤ older
  pub older_last : (older ≡ 0) ⊎ ((t : ℕ) × (p : Packet) × (packet_in inputs t ≡ Some p) × (versions_in (take t inputs) < versions_in inputs) × (older ≡ t + latency_of c.stages + 1))

-- all are gone a latency behind the last cycle
pub all_within : (c : Config) (inputs : List Input) (older all : ℕ) → IsAt c inputs older all → all ≤ length inputs + latency_of c.stages
all_within c inputs older all at = elim at.last [
  | inl none ↦ omega (arith, none)
  | inr x ↦ let lt = packet_within inputs x.0 x.1 x.2 in let e = x.3 in omega (arith, lt, e)
]

-- ---- one input more

module _ (inputs : List Input) (x : Input) where
  packet_stays : (t : ℕ) (p : Packet) → packet_in inputs t ≡ Some p → packet_in (inputs ++ x ∷ []) t ≡ Some p
  packet_stays t p e = ap (option_and_then packet_of) (slice_get-front inputs (x ∷ []) t (packet_within inputs t p e)) ∙ e

  before_stays : (t : ℕ) (p : Packet) → packet_in inputs t ≡ Some p → take t (inputs ++ x ∷ []) ≡ take t inputs
  before_stays t p e = let lt = packet_within inputs t p e in take-append-le t inputs (x ∷ []) (omega (arith, lt))

  -- a packet was there, or has just entered
  packet_was : (t : ℕ) (p : Packet) → packet_in (inputs ++ x ∷ []) t ≡ Some p → (packet_in inputs t ≡ Some p) ⊎ ((t ≡ length inputs) × (packet_of x ≡ Some p))
  packet_was t p e =
      let lt = packet_within (inputs ++ x ∷ []) t p e in
      let size = length-append inputs (x ∷ []) in
      elim (cases_lt t (length inputs)) [
        | inl front ↦ inl (ap (option_and_then packet_of) (sym (slice_get-front inputs (x ∷ []) t front)) ∙ e)
        | inr behind ↦
            let at : t ≡ length inputs = omega (arith, lt, size, behind) in
            inr (at, sym (ap (option_and_then packet_of) (slice_get-pushed inputs x)) ∙ ap (packet_in (inputs ++ x ∷ [])) (sym at) ∙ e)
      ]

  -- where none enters
  module _ (none : packet_of x ≡ None) where
    packet_old : (t : ℕ) (p : Packet) → packet_in (inputs ++ x ∷ []) t ≡ Some p → packet_in inputs t ≡ Some p
    packet_old t p e = elim (packet_was t p e) [ inl old ↦ old | inr new ↦ absurd (none-some p (sym none ∙ new.1)) ]

-- a packet of an older version is one still, where no version is made
older_stays : (inputs : List Input) (x : Input) → versions_in (inputs ++ x ∷ []) ≡ versions_in inputs → (Never : Type 0) (At : ℕ → Type 0)
    → Never ⊎ ((t : ℕ) × (p : Packet) × (packet_in inputs t ≡ Some p) × (versions_in (take t inputs) < versions_in inputs) × At t)
    → Never ⊎ ((t : ℕ) × (p : Packet) × (packet_in (inputs ++ x ∷ []) t ≡ Some p) × (versions_in (take t (inputs ++ x ∷ [])) < versions_in (inputs ++ x ∷ [])) × At t)
older_stays inputs x same Never At (inl z) = inl z
older_stays inputs x same Never At (inr y) =
    let lt = y.3 in
    let less : versions_in (take y.0 inputs) < versions_in (inputs ++ x ∷ []) = omega (arith, lt, same) in
    inr (y.0, y.1, packet_stays inputs x y.0 y.1 y.2, subst (λ (xs : List Input). versions_in xs < versions_in (inputs ++ x ∷ [])) (sym (before_stays inputs x y.0 y.1 y.2)) less, y.4)

-- nothing enters, and no version is made
at_quiet : (c : Config) (inputs : List Input) (x : Input) (older all : ℕ) → packet_of x ≡ None → versions_in (x ∷ []) ≡ 0 → IsAt c inputs older all → IsAt c (inputs ++ x ∷ []) older all
at_quiet c inputs x older all none still at =
    let same : versions_in (inputs ++ x ∷ []) ≡ versions_in inputs = (let e = versions-append inputs (x ∷ []) in omega (arith, e, still)) in
    record {
      least = at.least;
      gone = λ t p e. at.gone t p (packet_old inputs x none t p e);
      last = elim at.last [ inl z ↦ inl z | inr y ↦ inr (y.0, y.1, packet_stays inputs x y.0 y.1 y.2, y.3) ];
      older_gone = λ t p e lt.
          let old = packet_old inputs x none t p e in
          let less : versions_in (take t inputs) < versions_in (inputs ++ x ∷ []) = subst (λ (xs : List Input). versions_in xs < versions_in (inputs ++ x ∷ [])) (before_stays inputs x t p old) lt in
          at.older_gone t p old (omega (arith, less, same));
      older_last = older_stays inputs x same (older ≡ 0) (λ t. older ≡ t + latency_of c.stages + 1) at.older_last;
    }

-- a packet enters
at_enters : (c : Config) (inputs : List Input) (packet : Packet) (older all : ℕ) → IsAt c inputs older all → IsAt c (inputs ++ Enters packet ∷ []) older (length inputs + latency_of c.stages + 1)
at_enters c inputs packet older all at =
    let x = Enters packet in
    let l = latency_of c.stages in
    let most = all_within c inputs older all at in
    let same : versions_in (inputs ++ x ∷ []) ≡ versions_in inputs = (let e = versions-append inputs (x ∷ []) in omega (arith, e)) in
    record {
      least = (let le = at.least in omega (arith, le, most));
      gone = λ t p e. elim (packet_was inputs x t p e) [ inl old ↦ (let le = at.gone t p old in omega (arith, le, most)) | inr new ↦ (let n = new.0 in omega (arith, n)) ];
      last = inr (length inputs, packet, ap (option_and_then packet_of) (slice_get-pushed inputs x), refl);
      older_gone = λ t p e lt. elim (packet_was inputs x t p e) [
        | inl old ↦
            let less : versions_in (take t inputs) < versions_in (inputs ++ x ∷ []) = subst (λ (xs : List Input). versions_in xs < versions_in (inputs ++ x ∷ [])) (before_stays inputs x t p old) lt in
            at.older_gone t p old (omega (arith, less, same))
        | inr new ↦
            let front : take t (inputs ++ x ∷ []) ≡ inputs = ap (λ n. take n (inputs ++ x ∷ [])) new.0 ∙ take-append-le (length inputs) inputs (x ∷ []) (omega arith) ∙ take_all (length inputs) inputs (omega arith) in
            let less : versions_in inputs < versions_in (inputs ++ x ∷ []) = subst (λ (xs : List Input). versions_in xs < versions_in (inputs ++ x ∷ [])) front lt in
            absurd (omega (arith, less, same))
      ];
      older_last = older_stays inputs x same (older ≡ 0) (λ t. older ≡ t + latency_of c.stages + 1) at.older_last;
    }

-- a version is made, and all packets are of older ones
at_turns : (c : Config) (inputs : List Input) (seed older all : ℕ) → IsAt c inputs older all → IsAt c (inputs ++ Turns seed ∷ []) all all
at_turns c inputs seed older all at =
    let x = Turns seed in
    let more : versions_in (inputs ++ x ∷ []) ≡ versions_in inputs + 1 = (let e = versions-append inputs (x ∷ []) in omega (arith, e)) in
    record {
      least = omega arith;
      gone = λ t p e. at.gone t p (packet_old inputs x refl t p e);
      last = elim at.last [ inl z ↦ inl z | inr y ↦ inr (y.0, y.1, packet_stays inputs x y.0 y.1 y.2, y.3) ];
      older_gone = λ t p e lt. at.gone t p (packet_old inputs x refl t p e);
      older_last = elim at.last [
        | inl z ↦ inl z
        | inr y ↦
            let most = versions_most inputs y.0 in
            let less : versions_in (take y.0 inputs) < versions_in (inputs ++ x ∷ []) = omega (arith, most, more) in
            inr (y.0, y.1, packet_stays inputs x y.0 y.1 y.2, subst (λ (xs : List Input). versions_in xs < versions_in (inputs ++ x ∷ [])) (sym (before_stays inputs x y.0 y.1 y.2)) less, y.3)
      ];
    }

-- ---- several inputs more

pub at_idles : (c : Config) (inputs : List Input) (n older all : ℕ) → IsAt c inputs older all → IsAt c (inputs ++ replicate n Idle) older all
at_idles c inputs zero older all at = subst (λ (xs : List Input). IsAt c xs older all) (sym (append-nil inputs)) at
at_idles c inputs (suc n) older all at =
    subst (λ (xs : List Input). IsAt c xs older all) (append_assoc inputs (Idle ∷ []) (replicate n Idle)) (at_idles c (inputs ++ Idle ∷ []) n older all (at_quiet c inputs Idle older all refl refl at))

at_writes : (c : Config) (inputs : List Input) (ws : List CellWrite) (older all : ℕ) → IsAt c inputs older all → IsAt c (inputs ++ map Writes ws) older all
at_writes c inputs [] older all at = subst (λ (xs : List Input). IsAt c xs older all) (sym (append-nil inputs)) at
at_writes c inputs (w ∷ ws) older all at =
    subst (λ (xs : List Input). IsAt c xs older all) (append_assoc inputs (Writes w ∷ []) (map Writes ws)) (at_writes c (inputs ++ Writes w ∷ []) ws older all (at_quiet c inputs (Writes w) older all refl refl at))

-- ---- a run that has come so far

-- a commit's cells keep the version until it turns
version_made : (c : Config) (names : Names) (before after : List (List Entry)) (cells next : RunCells) (moved : Bool) (seed : ℕ) → Makes c names cells before after moved seed next → next.version ≡ cells.version
version_made c names before after cells next moved seed (stays placed e) = refl
version_made c names before after cells next moved seed (moves s placed e f g) = refl

pub no_versions : (n : ℕ) → versions_in (replicate n Idle) ≡ 0
no_versions zero = refl
no_versions (suc n) = no_versions n

pub none_written : (ws : List CellWrite) → versions_in (map Writes ws) ≡ 0
none_written [] = refl
none_written (w ∷ ws) = none_written ws

-- where a run is, by its inputs
pub record IsThere (c : Config) (inputs : List Input) (r : RunState) : Type 0 where
  pub cycle : r.cycle ≡ length inputs
  pub version : r.cells.version ≡ versions_in inputs
  pub at : IsAt c inputs r.older_gone r.all_gone

module _ (c : Config) (names : Names) (lists : List (List Entry)) where
  there_commit : (made : List Input) (r : RunState) (moved : Bool) (seed : ℕ) (ws : List CellWrite) (more : List Input) → more ≡ commit_cycles r moved seed ws → IsThere c made r
      → (length (made ++ more) ≡ r.cycle + waits r moved + length ws + 1) × (versions_in (made ++ more) ≡ versions_in made + 1) × IsAt c (made ++ more) r.all_gone r.all_gone
  there_commit made r moved seed ws more is there =
      let n = waits r moved in
      let idles = replicate n Idle in
      let writes = map Writes ws in
      let whole : made ++ more ≡ ((made ++ idles) ++ writes) ++ Turns seed ∷ [] =
      ap (λ (xs : List Input). made ++ xs) is ∙ sym (append_assoc made idles (writes ++ Turns seed ∷ [])) ∙ sym (append_assoc (made ++ idles) writes (Turns seed ∷ [])) in
      let a = length-append ((made ++ idles) ++ writes) (Turns seed ∷ []) in
      let b = length-append (made ++ idles) writes in
      let d = length-append made idles in
      let i = length-replicate n Idle in
      let w = length-map ws Writes in
      let long = ap length whole in
      let va = versions-append ((made ++ idles) ++ writes) (Turns seed ∷ []) in
      let vb = versions-append (made ++ idles) writes in
      let vd = versions-append made idles in
      let vi = no_versions n in
      let vw = none_written ws in
      let vs = ap versions_in whole in
      let cycle = there.cycle in (
        omega (arith, a, b, d, i, w, long, cycle),
        omega (arith, va, vb, vd, vi, vw, vs),
        subst (λ (xs : List Input). IsAt c xs r.all_gone r.all_gone) (sym whole)
            (at_turns c ((made ++ idles) ++ writes) seed r.older_gone r.all_gone (at_writes c (made ++ idles) ws r.older_gone r.all_gone (at_idles c made n r.older_gone r.all_gone there.at))),
      )

  pub is_there : (events : List Event) (made : List Input) (r : RunState) → Comes c names lists events made r → IsThere c made r
  is_there events made r begins = record {
    cycle = refl;
    version = refl;
    at = record {
      least = omega arith;
      gone = λ t p e. absurd (none-some p e);
      last = inl refl;
      older_gone = λ t p e lt. absurd (none-some p e);
      older_last = inl refl;
    };
  }
  is_there events made r (arrived before inputs s packet h) =
      let there = is_there before inputs s h in
      let size = length-append inputs (Enters packet ∷ []) in
      let versions = versions-append inputs (Enters packet ∷ []) in
      let cycle = there.cycle in
      let version = there.version in
      let gone : length inputs + latency_of c.stages + 1 ≡ s.cycle + latency_of c.stages + 1 = omega (arith, cycle) in
      record {
        cycle = omega (arith, size, cycle);
        version = omega (arith, versions, version);
        at = subst (λ n. IsAt c (inputs ++ Enters packet ∷ []) s.older_gone n) gone (at_enters c inputs packet s.older_gone s.all_gone there.at);
      }
  is_there events made r (turned before inputs s changes moved seed next ws h makes writes) =
      let there = is_there before inputs s h in
      let more = there_commit inputs s moved seed ws (commit_cycles s moved seed ws) refl there in
      let same = version_made c names _ _ s.cells next moved seed makes in
      let version = there.version in
      let turned_version = more.1 in
      record {
        cycle = sym more.0;
        version = omega (arith, turned_version, version, same);
        at = more.2;
      }

-- ---- the oldest packet in flight

none_below : (item : ℕ → Option Entered) (k : ℕ) → ((age : ℕ) → age < k → item age ≡ None) → oldest_below item k ≡ None
none_below item zero none = refl
none_below item (suc k) none =
    ap (λ (o : Option Entered). option_or (option_map (λ (e : Entered). e.version) o) (oldest_below item k)) (none k (omega arith)) ∙ none_below item k (λ age lt. none age (omega (arith, lt)))

-- it is at least as old as any
pub record IsOldest (item : ℕ → Option Entered) (k age : ℕ) : Type 0 where
  pub old : ℕ
  pub entered : Entered
  pub older : age ≤ old
  pub below : old < k
  pub there : item old ≡ Some entered
  pub is : oldest_below item k ≡ Some entered.version

oldest_more : (item : ℕ → Option Entered) (k age : ℕ) (e : Entered) → age < suc k → item age ≡ Some e → (age < k → IsOldest item k age) → (o : Option Entered) → item k ≡ o → IsOldest item (suc k) age
oldest_more item k age e lt at later (Some f) here = record {
  old = k;
  entered = f;
  older = omega (arith, lt);
  below = omega arith;
  there = here;
  is = ap (λ (o : Option Entered). option_or (option_map (λ (x : Entered). x.version) o) (oldest_below item k)) here;
}
oldest_more item k age e lt at later None here =
    let apart : age ≡ k → ⊥ = λ same. none-some e (sym here ∙ ap item (sym same) ∙ at) in
    let r = later (elim (cases_lt age k) [ inl less ↦ less | inr le ↦ absurd (apart (omega (arith, lt, le))) ]) in
    let within = r.below in
    record {
      old = r.old;
      entered = r.entered;
      older = r.older;
      below = omega (arith, within);
      there = r.there;
      is = ap (λ (o : Option Entered). option_or (option_map (λ (x : Entered). x.version) o) (oldest_below item k)) here ∙ r.is;
    }

one_below : (item : ℕ → Option Entered) (k age : ℕ) (e : Entered) → age < k → item age ≡ Some e → IsOldest item k age
one_below item zero age e lt at = absurd (omega (arith, lt))
one_below item (suc k) age e lt at = oldest_more item k age e lt at (λ less. one_below item k age e less at) (item k) refl

module _ (c : Config) (inputs : List Input) (older all : ℕ) (at : IsAt c inputs older all) where
  abbrev item : ℕ → Option Entered
  item = entered_at c inputs (length inputs)

  version_then : (n : ℕ) → (cells_at c inputs n).version ≡ versions_in (take n inputs)
  version_then n = let v : (cells_at c inputs n).version ≡ 0 + versions_in (take n inputs) = version_after c (own_cells c) (take n inputs) in omega (arith, v)

  entered_then : (t : ℕ) (e : Entered) (o : Option Packet) → packet_in inputs t ≡ o → option_map (entering c inputs t) o ≡ Some e → (p : Packet) × (packet_in inputs t ≡ Some p) × (e.version ≡ versions_in (take t inputs))
  entered_then t e None there same = absurd (none-some e same)
  entered_then t e (Some p) there same = (p, there, ap (λ (x : Entered). x.version) (sym (same_Some (entering c inputs t p) e same)) ∙ version_then t)

  -- what has an age entered so long ago, under the version that was current then
  was_entered : (age : ℕ) (e : Entered) → item age ≡ Some e
      → (age < length inputs) × (p : Packet) × (packet_in inputs (length inputs - 1 - age) ≡ Some p) × (e.version ≡ versions_in (take (length inputs - 1 - age) inputs))
  was_entered age e h = elim (cases_lt age (length inputs)) [
    | inl lt ↦
        let t = length inputs - 1 - age in
        let w = entered_then t e (packet_in inputs t) refl (sym (ap (λ b. cond b (entered_in c inputs t) None) (lt-ltb age (length inputs) lt)) ∙ h) in
        (lt, w.0, w.1, w.2)
    | inr le ↦ absurd (none-some e (sym (ap (λ b. cond b (entered_in c inputs (length inputs - 1 - age)) None) (le-ltb age (length inputs) le)) ∙ h))
  ]

  -- a packet has the age of the cycles since it entered
  has_age : (t : ℕ) (p : Packet) → packet_in inputs t ≡ Some p → item (length inputs - 1 - t) ≡ Some (entering c inputs t p)
  has_age t p e =
      let lt = packet_within inputs t p e in
      let age = length inputs - 1 - t in
      let place : length inputs - 1 - age ≡ t = omega (arith, lt) in
      ap (λ b. cond b (entered_in c inputs (length inputs - 1 - age)) None) (lt-ltb age (length inputs) (omega (arith, lt)))
      ∙ ap (entered_in c inputs) place ∙ ap (option_map (entering c inputs t)) e

  oldest_none : all ≤ length inputs → oldest_in_flight c inputs ≡ None
  oldest_none le = none_below item (latency_of c.stages) none
    where
      none : (age : ℕ) → age < latency_of c.stages → item age ≡ None
      none age lt = by (item age) refl
        where
          by : (o : Option Entered) → item age ≡ o → item age ≡ None
          by None e = e
          by (Some e) h =
              let w = was_entered age e h in
              let inside = w.0 in
              let gone = at.gone (length inputs - 1 - age) w.1 w.2 in
              absurd (omega (arith, le, lt, inside, gone))

  -- where a packet is in flight
  oldest_some : (t : ℕ) (p : Packet) → packet_in inputs t ≡ Some p → length inputs < t + latency_of c.stages + 1
      → (s : ℕ) × (v : ℕ) × (oldest_in_flight c inputs ≡ Some v) × (s ≤ t) × (length inputs < s + latency_of c.stages + 1) × (q : Packet) × (packet_in inputs s ≡ Some q) × (v ≡ versions_in (take s inputs))
  oldest_some t p e flies =
      let lt = packet_within inputs t p e in
      let l = latency_of c.stages in
      let r = one_below item l (length inputs - 1 - t) (entering c inputs t p) (omega (arith, lt, flies)) (has_age t p e) in
      let w = was_entered r.old r.entered r.there in
      let inside = w.0 in
      let older_than = r.older in
      let young = r.below in
      (length inputs - 1 - r.old, r.entered.version, r.is, omega (arith, lt, inside, older_than), omega (arith, inside, young), w.1, w.2, w.3)

  -- a commit waits until those are gone for which it waits
  pub waiting_is : (moved : Bool) → is_waiting moved (cells_after c inputs).version (oldest_in_flight c inputs) ≡ ltb (length inputs) (cond moved (max older all) older)
  waiting_is moved = elim (cases_lt (length inputs) all) [
    | inr over ↦
        let least = at.least in
        ap (is_waiting moved (cells_after c inputs).version) (oldest_none over) ∙ sym (over_is moved (omega (arith, over, least)) over)
    | inl flying ↦ elim (cases_lt (length inputs) older) [
      | inl old ↦ with_older old
      | inr young ↦ without_older flying young
    ]
  ]
    where
      over_is : (m : Bool) → older ≤ length inputs → all ≤ length inputs → ltb (length inputs) (cond m (max older all) older) ≡ false
      over_is true a b = le-ltb (length inputs) (max older all) (omega (arith, a, b))
      over_is false a b = le-ltb (length inputs) older a

      some_is : (m : Bool) (o : Option ℕ) (v : ℕ) → o ≡ Some v → is_waiting m (cells_after c inputs).version o ≡ (m || ltb v (cells_after c inputs).version)
      some_is m o v e = ap (is_waiting m (cells_after c inputs).version) e

      by_older : (m : Bool) (v : ℕ) → v < (cells_after c inputs).version → length inputs < older → (m || ltb v (cells_after c inputs).version) ≡ ltb (length inputs) (cond m (max older all) older)
      by_older true v lt h = sym (lt-ltb (length inputs) (max older all) (omega (arith, h)))
      by_older false v lt h = lt-ltb v (cells_after c inputs).version lt ∙ sym (lt-ltb (length inputs) older h)

      with_older : length inputs < older → is_waiting moved (cells_after c inputs).version (oldest_in_flight c inputs) ≡ ltb (length inputs) (cond moved (max older all) older)
      with_older h = elim at.older_last [
        | inl z ↦ absurd (omega (arith, h, z))
        | inr y ↦
            let e = y.4 in
            let s = oldest_some y.0 y.1 y.2 (omega (arith, h, e)) in
            let rise = versions_rise inputs s.0 y.0 s.3 in
            let less = y.3 in
            let v = s.7 in
            let current = version_is c inputs in
            some_is moved (oldest_in_flight c inputs) s.1 s.2 ∙ by_older moved s.1 (omega (arith, rise, less, v, current)) h
      ]

      by_current : (m : Bool) (v : ℕ) → (cells_after c inputs).version ≤ v → length inputs < all → older ≤ length inputs → (m || ltb v (cells_after c inputs).version) ≡ ltb (length inputs) (cond m (max older all) older)
      by_current true v le h young = sym (lt-ltb (length inputs) (max older all) (omega (arith, h)))
      by_current false v le h young = le-ltb v (cells_after c inputs).version le ∙ sym (le-ltb (length inputs) older young)

      without_older : length inputs < all → older ≤ length inputs → is_waiting moved (cells_after c inputs).version (oldest_in_flight c inputs) ≡ ltb (length inputs) (cond moved (max older all) older)
      without_older h young = elim at.last [
        | inl z ↦ absurd (omega (arith, h, z))
        | inr y ↦
            let e = y.3 in
            let s = oldest_some y.0 y.1 y.2 (omega (arith, h, e)) in
            let v = s.7 in
            let flies = s.4 in
            let current = version_is c inputs in
            let not_older : versions_in inputs ≤ versions_in (take s.0 inputs) = elim (cases_lt (versions_in (take s.0 inputs)) (versions_in inputs)) [
              | inl lt ↦ let gone = at.older_gone s.0 s.5 s.6 lt in absurd (omega (arith, gone, flies, young))
              | inr le ↦ le
            ] in
            some_is moved (oldest_in_flight c inputs) s.1 s.2 ∙ by_current moved s.1 (omega (arith, not_older, v, current)) h young
      ]
