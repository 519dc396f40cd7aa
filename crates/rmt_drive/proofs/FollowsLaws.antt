-- A run of the chip, one line later.
use Rattle.std.proofs.Common.{◌≡◌, ◌⊎◌, inl, inr, ⊎_elim, ℕ, ◌+◌, ◌≤◌, Bool, true, false, List, [], ◌∷◌, ◌++◌, Option, Some, None, Result, Ok, Err, refl, sym, ap, ◌∙◌, subst, arith}
use Rattle.std.specs.Prelude.{is_some, map, replicate}
use Rattle.rmt_bits.specs.Packet.{Packet}
use Rattle.rmt_io.specs.Outside.{SinkState}
use Rattle.rmt_config.specs.declared.config.Config.{Config}
use Rattle.rmt_config.specs.declared.cell_write.CellWrite.{CellWrite}
use Rattle.rmt_config.specs.Commits.{RunState, behind_commit, behind_packet, waits}
use Rattle.rmt_config.specs.RunInputs.{Enters, Idle, Input, Turns as Turning, Writes}
use Rattle.rmt_chip.specs.declared.chip.Chip.{Chip}
use Rattle.rmt_chip.specs.Inputs.{packets_of}
use Rattle.rmt_chip.specs.Stands.{entered_of, version_of}
use Rattle.rmt_packets.specs.declared.line_kind.LineKind.{LineKind}
use Rattle.rmt_packets.specs.declared.line_kind.LineKind.TheVariants as line
use Rattle.rmt_packets.specs.LineKinds.{kind_of}
use Rattle.rmt_packets.specs.PacketText.{packet_of}
use Rattle.rmt_lists.specs.Running.{Running, line_change}
use Rattle.rmt_lists.specs.Stands.{StandsFor}
use Rattle.rmt_update.specs.declared.book.plan.Plan.{Plan}
use Rattle.rmt_runs.specs.declared.fault.RunFault.{RunFault}
use Rattle.rmt_runs.specs.declared.fault.RunFault.TheVariants as fault
use Rattle.rmt_drive.specs.declared.running.commits.Commits.{Commits}
use Rattle.rmt_drive.specs.declared.running.state.Run.{Run}
use Rattle.rmt_drive.specs.declared.watch.Watch.{Watch}
use Rattle.rmt_drive.specs.ChipEvents.{Comes, IsRefused, arrived, commit_cycles, turned, lists_in, names_in}
use Rattle.rmt_drive.specs.ChipReading.{read_by, with_chip_line}
use Rattle.rmt_drive.specs.ChipText.{lines_of}
use Rattle.rmt_drive.specs.EventText.{EventReading, with_bad, with_change, with_commit, with_packet}
use Rattle.rmt_runs.specs.Cuts.{Cut}
use Rattle.rmt_drive.specs.Running.{AreCommitsAt, Follows, HasCome, IsFew, IsPlannedAt, LeftOff, Stopped, ahead, amid, behind, with_text}
use Rattle.rmt_drive.specs.ChipCycles.{Goes}
use Rattle.rmt_drive.proofs.ChipReadLaws.{chip_line}
use Rattle.rmt_drive.proofs.FlyingLaws.{version_is, versions-append, versions_in}
use Rattle.rmt_drive.proofs.WaitLaws.{commit_whole, packets-append, packets_waited, versions_waited}
use Rattle.rmt_runs.proofs.WaitingLaws.{written_front}

-- a run, with what changes its entries as it was found
pub follows_with : {w : Watch} {c : Config} {said : EventReading} {run : Run} {chip : Chip} {found commits : Option Commits} {before now : SinkState} → found ≡ commits
    → Follows w c said run chip found before now → Follows w c said run chip commits before now
follows_with {w} {c} {said} {run} {chip} {found} {commits} {before} {now} is f = subst (λ (o : Option Commits). Follows w c said run chip o before now) is f

-- ---- what a line of a kind does

pub of_packet : (c : Config) (number : ℕ) (text : List ℕ) (said : EventReading) → kind_of text ≡ line.Packet → with_text c number text said ≡ with_packet number (packet_of text) said
of_packet c number text said kind = ap (λ (k : LineKind). with_chip_line (is_some c.names) None number text k said) kind

pub of_change : (c : Config) (number : ℕ) (text : List ℕ) (said : EventReading) → (kind_of text ≡ line.Addition) ⊎ (kind_of text ≡ line.Removal) → is_some c.names ≡ true
    → with_text c number text said ≡ with_change number text (line_change said.run text) said
of_change c number text said kind named =
    ap (λ b. with_chip_line b None number text (kind_of text) said) named
    ∙ ⊎_elim (λ (e : kind_of text ≡ line.Addition). ap (λ (k : LineKind). with_chip_line true None number text k said) e)
    (λ (e : kind_of text ≡ line.Removal). ap (λ (k : LineKind). with_chip_line true None number text k said) e) kind

pub of_commit : (c : Config) (number : ℕ) (text : List ℕ) (said : EventReading) → kind_of text ≡ line.Commit → is_some c.names ≡ true → with_text c number text said ≡ with_commit said
of_commit c number text said kind named =
    ap (λ b. with_chip_line b None number text (kind_of text) said) named ∙ ap (λ (k : LineKind). with_chip_line true None number text k said) kind

-- without names a change and a commit have code 4
pub of_none : (c : Config) (number : ℕ) (text : List ℕ) (said : EventReading) → (kind_of text ≡ line.Packet → ⊥) → is_some c.names ≡ false → with_text c number text said ≡ with_bad number 4 said
of_none c number text said other none = ap (λ b. with_chip_line b None number text (kind_of text) said) none ∙ by (kind_of text) other
  where
    by : (k : LineKind) → (k ≡ line.Packet → ⊥) → with_chip_line false None number text k said ≡ with_bad number 4 said
    by line.Packet other = absurd (other refl)
    by line.Addition other = refl
    by line.Removal other = refl
    by line.Commit other = refl

pub not_packet : (text : List ℕ) → (kind_of text ≡ line.Addition) ⊎ (kind_of text ≡ line.Removal) → kind_of text ≡ line.Packet → ⊥
not_packet text (inl e) h = cc
not_packet text (inr e) h = cc

-- names or none, by what changes entries
pub has_names : (c : Config) (said : EventReading) (r : RunState) (commits : Commits) → AreCommitsAt c said r (Some commits) → is_some c.names ≡ true
has_names c said r commits at = ap is_some at.0

pub no_names : (c : Config) → c.names ≡ None → is_some c.names ≡ false
no_names c none = ap is_some none

-- ---- a line more

-- a run that goes on by a line
module _ (w : Watch) (c : Config) (number : ℕ) (text : List ℕ) (said : EventReading) where
  -- with another reading behind the line, and its run
  pub follows_by : (next : EventReading) (old : Option Commits) (made : List Input) (r : RunState) (run : Run) (chip : Chip) (commits : Option Commits) (first : List Input) (start : RunState) (before now : SinkState)
      → HasCome c said first start old → with_text c number text said ≡ next → next.bad ≡ None → Comes c (names_in c) (lists_in c) next.events made r → AreCommitsAt c next r commits → Goes w c made run chip before now
      → Follows w c (with_text c number text said) run chip commits before now
  follows_by next old made r run chip commits first start before now h is good comes at goes =
      let whole : read_by c None (h.lines ++ (number, text) ∷ []) ≡ with_text c number text said =
      chip_line c None h.lines number text (ap (λ (x : EventReading). x.bad) h.read ∙ h.good) ∙ ap (λ (x : EventReading). with_text c number text x) h.read in
      let to : (P : EventReading → Type 0) → P next → P (with_text c number text said) = λ P p. subst P (sym is) p in
      record {
        made = made;
        state = r;
        come = record {
          formed = h.formed;
          small = h.small;
          lines = h.lines ++ (number, text) ∷ [];
          read = whole;
          good = to (λ (x : EventReading). x.bad ≡ None) good;
          comes = to (λ (x : EventReading). Comes c (names_in c) (lists_in c) x.events made r) comes;
          knows = to (λ (x : EventReading). AreCommitsAt c x r commits) at;
        };
        goes = goes;
      }

  -- a run whose line is bad
  pub stops_by : (code : ℕ) (run : Run) (chip : Chip) (commits : Option Commits) (before now : SinkState) → Follows w c said run chip commits before now → with_text c number text said ≡ with_bad number code said
      → Stopped w c number text said code run chip before now
  stops_by code run chip commits before now f is = record { made = f.made; state = f.state; comes = f.come.comes; goes = f.goes; bad = inl is }

  -- a run that is cut off before the line did anything
  pub left_ahead : (run : Run) (chip : Chip) (commits : Option Commits) (before now : SinkState) (f : RunFault) → (f ≡ fault.Write → ⊥) → Follows w c said run chip commits before now → LeftOff w c number text said before now f
  left_ahead run chip commits before now f other h = record {
    made = h.made;
    at = ahead h.made h.state h.come.comes;
    cut = record { front = written_front h.goes.written; some = λ e. absurd (other e) };
  }

  -- ---- a packet

  -- what changes entries is as before a packet
  at_packet : (packet : Packet) (r : RunState) (commits : Option Commits) → AreCommitsAt c said r commits → AreCommitsAt c (with_packet number (Ok packet) said) (behind_packet c r) commits
  at_packet packet r None at = at
  at_packet packet r (Some commits) at = at

  pub follows_packet : (packet : Packet) (old run : Run) (first chip : Chip) (commits : Option Commits) (before now later : SinkState) → kind_of text ≡ line.Packet → packet_of text ≡ Ok packet
      → (f : Follows w c said old first commits before now) → Goes w c (f.made ++ Enters packet ∷ []) run chip before later → Follows w c (with_text c number text said) run chip commits before later
  follows_packet packet old run first chip commits before now later kind is f goes =
      follows_by (with_packet number (Ok packet) said) commits (f.made ++ Enters packet ∷ []) (behind_packet c f.state) run chip commits f.made f.state before later f.come
      (of_packet c number text said kind ∙ ap (λ (o : Result Packet ℕ). with_packet number o said) is) f.come.good
      (arrived said.events f.made f.state packet f.come.comes) (at_packet packet f.state commits f.come.knows) goes

  pub left_packet : (packet : Packet) (old : Run) (first : Chip) (commits : Option Commits) (before now later : SinkState) (e : RunFault) → kind_of text ≡ line.Packet → packet_of text ≡ Ok packet
      → (f : Follows w c said old first commits before now) → Cut (lines_of w c (f.made ++ Enters packet ∷ [])) before later e → LeftOff w c number text said before later e
  left_packet packet old first commits before now later e kind is f cut =
      let next : with_text c number text said ≡ with_packet number (Ok packet) said = of_packet c number text said kind ∙ ap (λ (o : Result Packet ℕ). with_packet number o said) is in
      record {
        made = f.made ++ Enters packet ∷ [];
        at = behind (f.made ++ Enters packet ∷ []) (behind_packet c f.state) (subst (λ (x : EventReading). x.bad ≡ None) (sym next) f.come.good)
            (subst (λ (x : EventReading). Comes c (names_in c) (lists_in c) x.events (f.made ++ Enters packet ∷ []) (behind_packet c f.state)) (sym next) (arrived said.events f.made f.state packet f.come.comes));
        cut = cut;
      }

  -- ---- a change

  pub follows_change : (run : Run) (chip : Chip) (old later : Commits) (before now : SinkState) → (kind_of text ≡ line.Addition) ⊎ (kind_of text ≡ line.Removal)
      → StandsFor (line_change said.run text) later.lists → later.book ≡ old.book → Follows w c said run chip (Some old) before now → Follows w c (with_text c number text said) run chip (Some later) before now
  follows_change run chip old later before now kind stands same f = by (line_change said.run text) refl stands
    where
      by : (o : Result Running ℕ) → line_change said.run text ≡ o → StandsFor o later.lists → Follows w c (with_text c number text said) run chip (Some later) before now
      by (Ok next) is st =
          let at = f.come.knows in
          follows_by (with_change number text (Ok next) said) (Some old) f.made f.state run chip (Some later) f.made f.state before now f.come
          (of_change c number text said kind (has_names c said f.state old at) ∙ ap (λ (o : Result Running ℕ). with_change number text o said) is) f.come.good
          f.come.comes (at.0, rw same at.1, st) f.goes
      by (Err code) is st = absurd st

  -- ---- a commit

  pub follows_commit : (plan : Plan) (old later : Commits) (first chip : Chip) (start run : Run) (before now after : SinkState) → kind_of text ≡ line.Commit → (f : Follows w c said start first (Some old) before now)
      → IsPlannedAt c said f.state plan later → Goes w c (f.made ++ commit_cycles f.state plan.moved plan.seed plan.writes.items) run chip before after
      → Follows w c (with_text c number text said) run chip (Some later) before after
  follows_commit plan old later first chip start run before now after kind f p goes =
      let r = f.state in
      follows_by (with_commit said) (Some old) (f.made ++ commit_cycles r plan.moved plan.seed plan.writes.items) (behind_commit r said.changes plan.moved plan.seed plan.writes.items p.next) run chip (Some later)
      f.made r before after f.come (of_commit c number text said kind (has_names c said r old f.come.knows)) f.come.good
      (turned said.events f.made r said.changes plan.moved plan.seed p.next plan.writes.items f.come.comes p.makes p.writes) p.knows goes

  pub left_commit : (plan : Plan) (old later : Commits) (first : Chip) (start : Run) (before now after : SinkState) (e : RunFault) → kind_of text ≡ line.Commit → (f : Follows w c said start first (Some old) before now)
      → IsPlannedAt c said f.state plan later → (part rest : List Input) → commit_cycles f.state plan.moved plan.seed plan.writes.items ≡ part ++ rest
      → Cut (lines_of w c (f.made ++ part)) before after e → LeftOff w c number text said before after e
  left_commit plan old later first start before now after e kind f p part rest parts cut = record {
    made = f.made ++ part;
    at = amid f.made f.state plan.moved plan.seed p.next plan.writes.items part rest (has_names c said f.state old f.come.knows) kind f.come.comes p.makes p.writes parts;
    cut = cut;
  }

  pub stops_full : (run : Run) (chip : Chip) (commits : Commits) (before now : SinkState) → kind_of text ≡ line.Commit → (f : Follows w c said run chip (Some commits) before now)
      → IsRefused c (names_in c) f.state said.changes → Stopped w c number text said 10 run chip before now
  stops_full run chip commits before now kind f refused = record {
    made = f.made;
    state = f.state;
    comes = f.come.comes;
    goes = f.goes;
    bad = inr (record { code_is = refl; named = has_names c said f.state commits f.come.knows; kind = kind; refused = refused });
  }

-- ---- no more than lines bring

pub few_still : (lines : ℕ) (run : Run) (chip : Chip) → IsFew lines run chip → IsFew (lines + 1) run chip
few_still lines run chip few = record {
  entered = omega (arith, few.entered);
  versions = omega (arith, few.versions);
  cycles = omega (arith, few.cycles);
}

module _ (w : Watch) (c : Config) (made : List Input) (old run : Run) (first chip : Chip) (before now later : SinkState) (g : Goes w c made old first before now) where
  pub few_packet : (packet : Packet) → Goes w c (made ++ Enters packet ∷ []) run chip before later → run.cycles ≡ old.cycles + 1 → (lines : ℕ) → IsFew lines old first → IsFew (lines + 1) run chip
  few_packet packet h one lines few =
      let was : entered_of first ≡ packets_of made = g.stands.entered_is in
      let is : entered_of chip ≡ packets_of (made ++ Enters packet ∷ []) = h.stands.entered_is in
      let more : packets_of (made ++ Enters packet ∷ []) ≡ packets_of made + 1 = packets-append made (Enters packet ∷ []) in
      let version : version_of first ≡ versions_in made = g.stands.version_is ∙ version_is c made in
      let versions : version_of chip ≡ versions_in (made ++ Enters packet ∷ []) = h.stands.version_is ∙ version_is c (made ++ Enters packet ∷ []) in
      let same : versions_in (made ++ Enters packet ∷ []) ≡ versions_in made + 0 = versions-append made (Enters packet ∷ []) in
      record {
        entered = omega (arith, was, is, more, few.entered);
        versions = omega (arith, version, versions, same, few.versions);
        cycles = omega (arith, one, few.cycles);
      }

  -- the packets and versions of a commit's cycles: those of its turn
  commit_counts : (count : List Input → ℕ) → ((xs ys : List Input) → count (xs ++ ys) ≡ count xs + count ys) → (r : RunState) (moved : Bool) (seed : ℕ) (writes : List CellWrite)
      → count ((made ++ replicate (waits r moved) Idle) ++ map Writes writes) ≡ count made → count (made ++ commit_cycles r moved seed writes) ≡ count made + count (Turning seed ∷ [])
  commit_counts count append r moved seed writes waited =
      omega (arith, ap count (commit_whole made r moved seed writes), append ((made ++ replicate (waits r moved) Idle) ++ map Writes writes) (Turning seed ∷ []), waited)

  commit_packets : (r : RunState) (moved : Bool) (seed : ℕ) (writes : List CellWrite) → packets_of (made ++ commit_cycles r moved seed writes) ≡ packets_of made
  commit_packets r moved seed writes =
      let t : packets_of (Turning seed ∷ []) ≡ 0 = refl in
      omega (arith, commit_counts packets_of packets-append r moved seed writes (packets_waited made (waits r moved) writes), t)

  commit_versions : (r : RunState) (moved : Bool) (seed : ℕ) (writes : List CellWrite) → versions_in (made ++ commit_cycles r moved seed writes) ≡ versions_in made + 1
  commit_versions r moved seed writes =
      let t : versions_in (Turning seed ∷ []) ≡ 1 = refl in
      omega (arith, commit_counts versions_in versions-append r moved seed writes (versions_waited made (waits r moved) writes), t)

  pub few_commit : (r : RunState) (moved : Bool) (seed : ℕ) (writes : List CellWrite) → Goes w c (made ++ commit_cycles r moved seed writes) run chip before later → run.cycles ≤ old.cycles + 8589934592
      → (lines : ℕ) → IsFew lines old first → IsFew (lines + 1) run chip
  few_commit r moved seed writes h most lines few =
      let all = made ++ commit_cycles r moved seed writes in
      let was : entered_of first ≡ packets_of made = g.stands.entered_is in
      let is : entered_of chip ≡ packets_of all = h.stands.entered_is in
      let same = commit_packets r moved seed writes in
      let version : version_of first ≡ versions_in made = g.stands.version_is ∙ version_is c made in
      let versions : version_of chip ≡ versions_in all = h.stands.version_is ∙ version_is c all in
      let one = commit_versions r moved seed writes in
      record {
        entered = omega (arith, was, is, same, few.entered);
        versions = omega (arith, version, versions, one, few.versions);
        cycles = omega (arith, most, few.cycles);
      }
