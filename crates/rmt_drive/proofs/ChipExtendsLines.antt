-- A run that has come so far goes on over the lines that follow: with a cycle for each packet, with the cycles of each commit that finds room, and up to the first
-- bad line.
use Rattle.std.proofs.Common.{◌≡◌, ◌⊎◌, inl, inr, ℕ, ◌≤◌, List, [], ◌∷◌, ◌++◌, Option, Some, None, Result, Ok, Err, refl, sym, ap, ◌∙◌, subst, arith, append_assoc, append-nil}
use Rattle.std.specs.Prelude.{is_some, ⊤}
use Rattle.rmt_bits.specs.Packet.{Packet}
use Rattle.rmt_config.specs.declared.config.Config.{Config}
use Rattle.rmt_ast.specs.declared.names.Names.{Names}
use Rattle.rmt_ast.specs.Changes.{committed}
use Rattle.rmt_ast.specs.Events.{Event}
use Rattle.rmt_config.specs.Commits.{RunState, behind_commit, behind_packet}
use Rattle.rmt_config.specs.Form.{Formed}
use Rattle.rmt_config.specs.Limits.{IsWithinLimits}
use Rattle.rmt_config.specs.RunInputs.{Enters, Input}
use Rattle.rmt_packets.specs.declared.line_kind.LineKind.{LineKind}
use Rattle.rmt_packets.specs.declared.line_kind.LineKind.TheVariants as line
use Rattle.rmt_packets.specs.LineKinds.{kind_of}
use Rattle.rmt_packets.specs.PacketText.{packet_of}
use Rattle.rmt_lists.specs.Running.{Running, line_change}
use Rattle.rmt_update.proofs.MadeCommits.{IsDone, IsUnplaced, commit_decided}
use Rattle.rmt_drive.specs.ChipEvents.{Comes, arrived, commit_cycles, turned, lists_in, names_in}
use Rattle.rmt_drive.specs.ChipReading.{commits_in, read_by, with_chip_line}
use Rattle.rmt_drive.specs.ChipRuns.{EndsFull}
use Rattle.rmt_drive.specs.EventText.{EventReading, with_bad, with_change, with_commit, with_packet}
use Rattle.rmt_drive.proofs.ChipReadLaws.{chip_end, chip_line, full_same, full_text, lines_count_on}
use Rattle.rmt_drive.proofs.ComesStates.{names_own, states}

-- the commit that finds no room, if one doesn't, stands behind these lines
abbrev pub IsBehind : Config → Option ℕ → List (ℕ × List ℕ) → Type 0
IsBehind c None gave = ⊤
IsBehind c (Some k) gave = commits_in (read_by c None gave).events ≤ k

module _ (c : Config) where
  pub behind_same : (full : Option ℕ) (gave : List (ℕ × List ℕ)) → IsBehind c full gave → read_by c full gave ≡ read_by c None gave
  behind_same None gave h = refl
  behind_same (Some k) gave h = full_same c k gave h

  pub behind_less : (full : Option ℕ) (gave more : List (ℕ × List ℕ)) → IsBehind c full (gave ++ more) → IsBehind c full gave
  behind_less None gave more h = tt
  behind_less (Some k) gave more h = let le = lines_count_on c gave more in omega (arith, le, h)

  -- packets and commits of a configuration come so far
  abbrev pub HasCome : List Event → List Input → RunState → Type 0
  HasCome events made r = Comes c (names_in c) (lists_in c) events made r

  -- by one line more: a run goes on, or the line is bad
  data Next (gave : List (ℕ × List ℕ)) (l : ℕ × List ℕ) (made : List Input) (r : RunState) : Type 0 where
    goes : (later : List Input) (state : RunState) → (read_by c None (gave ++ l ∷ [])).bad ≡ None → HasCome (read_by c None (gave ++ l ∷ [])).events (made ++ later) state → Next gave l made r
    stops : (full : Option ℕ) (code : ℕ) → read_by c full (gave ++ l ∷ []) ≡ with_bad l.0 code (read_by c None gave) → IsBehind c full gave
        → EndsFull c r (with_bad l.0 code (read_by c None gave)) full → Next gave l made r

  -- a run over these lines and more that begins with these inputs
  pub record Extension (gave more : List (ℕ × List ℕ)) (made : List Input) : Type 0 where
    pub full : Option ℕ
    pub later : List Input
    pub state : RunState
    pub behind : IsBehind c full gave
    pub comes : HasCome (read_by c full (gave ++ more)).events (made ++ later) state
    pub ends : EndsFull c state (read_by c full (gave ++ more)) full

module _ (c : Config) (gave : List (ℕ × List ℕ)) (l : ℕ × List ℕ) (made : List Input) (r : RunState) (good : (read_by c None gave).bad ≡ None) (comes : HasCome c (read_by c None gave).events made r)
  where
    said : EventReading
    said = read_by c None gave

    -- one more reading, whose packets and commits come so far
    on : (next : EventReading) (later : List Input) (state : RunState) → read_by c None (gave ++ l ∷ []) ≡ next → next.bad ≡ None → HasCome c next.events (made ++ later) state → Next c gave l made r
    on next later state is fine come =
        goes later state (ap (λ (x : EventReading). x.bad) is ∙ fine) (subst (λ (x : EventReading). HasCome c x.events (made ++ later) state) (sym is) come)

    still : (next : EventReading) → read_by c None (gave ++ l ∷ []) ≡ next → next.bad ≡ None → next.events ≡ (read_by c None gave).events → Next c gave l made r
    still next is fine same =
        on next [] r is fine
        (subst (λ (es : List Event). HasCome c es (made ++ []) r) (sym same) (subst (λ (is : List Input). HasCome c (read_by c None gave).events is r) (sym (append-nil made)) comes))

    by_packet : (o : Result Packet ℕ) → read_by c None (gave ++ l ∷ []) ≡ with_packet l.0 o (read_by c None gave) → Next c gave l made r
    by_packet (Ok packet) is =
        on (with_packet l.0 (Ok packet) (read_by c None gave)) (Enters packet ∷ []) (behind_packet c r) is good (arrived (read_by c None gave).events made r packet comes)
    by_packet (Err code) is = stops None code is tt tt

    by_change : (o : Result Running ℕ) → read_by c None (gave ++ l ∷ []) ≡ with_change l.0 l.1 o (read_by c None gave) → Next c gave l made r
    by_change (Ok run) is = still (with_change l.0 l.1 (Ok run) (read_by c None gave)) is good refl
    by_change (Err code) is = stops None code is tt tt

    by_commit : Formed c → IsWithinLimits c → (names : Names) → c.names ≡ Some names → kind_of l.1 ≡ line.Commit → read_by c None (gave ++ l ∷ []) ≡ with_commit (read_by c None gave) → Next c gave l made r
    by_commit formed small names named kind is =
        let own = names_own c names named in
        let st = states c formed small names named None gave made r (read_by c None gave) refl comes in
        of (commit_decided c (names_in c) r.cells r.entries.lists (committed r.entries (read_by c None gave).changes).lists formed small own st.next st.fit)
      where
        of : IsDone c (names_in c) r.cells r.entries.lists (committed r.entries (read_by c None gave).changes).lists
            ⊎ IsUnplaced c (names_in c) r.cells r.entries.lists (committed r.entries (read_by c None gave).changes).lists → Next c gave l made r
        of (inl d) =
            on (with_commit (read_by c None gave)) (commit_cycles r d.moved d.seed d.writes) (behind_commit r (read_by c None gave).changes d.moved d.seed d.writes d.next) is good
            (turned (read_by c None gave).events made r (read_by c None gave).changes d.moved d.seed d.next d.writes comes d.makes d.writes_are)
        of (inr u) =
            stops (Some (commits_in (read_by c None gave).events)) 10 (full_text c gave l.0 l.1 (ap is_some named) good kind) (omega arith)
            (l.0, refl, record { moves = u.0; full = u.1 })

    by_line : Formed c → IsWithinLimits c → (o : Option Names) → c.names ≡ o → (k : LineKind) → kind_of l.1 ≡ k
        → read_by c None (gave ++ l ∷ []) ≡ with_chip_line (is_some o) None l.0 l.1 k (read_by c None gave) → Next c gave l made r
    by_line formed small o named line.Packet kind is = by_packet (packet_of l.1) is
    by_line formed small None named line.Addition kind is = stops None 4 is tt tt
    by_line formed small (Some names) named line.Addition kind is = by_change (line_change (read_by c None gave).run l.1) is
    by_line formed small None named line.Removal kind is = stops None 4 is tt tt
    by_line formed small (Some names) named line.Removal kind is = by_change (line_change (read_by c None gave).run l.1) is
    by_line formed small None named line.Commit kind is = stops None 4 is tt tt
    by_line formed small (Some names) named line.Commit kind is = by_commit formed small names named kind is

    next_line : Formed c → IsWithinLimits c → Next c gave l made r
    next_line formed small = by_line formed small c.names refl (kind_of l.1) refl (chip_line c None gave l.0 l.1 good)

    -- and then the others
    then_more : (more : List (ℕ × List ℕ)) → Next c gave l made r
        → ((made2 : List Input) (state : RunState) → (read_by c None (gave ++ l ∷ [])).bad ≡ None → HasCome c (read_by c None (gave ++ l ∷ [])).events made2 state → Extension c (gave ++ l ∷ []) more made2)
        → Extension c gave (l ∷ more) made
    then_more more (goes later state fine come) rest =
        let x = rest (made ++ later) state fine come in
        let lines : (gave ++ l ∷ []) ++ more ≡ gave ++ l ∷ more = append_assoc gave (l ∷ []) more in
        record {
          full = x.full;
          later = later ++ x.later;
          state = x.state;
          behind = behind_less c x.full gave (l ∷ []) x.behind;
          comes =
              subst (λ (ls : List (ℕ × List ℕ)). HasCome c (read_by c x.full ls).events (made ++ (later ++ x.later)) x.state) lines
              (subst (λ (is : List Input). HasCome c (read_by c x.full ((gave ++ l ∷ []) ++ more)).events is x.state) (append_assoc made later x.later) x.comes);
          ends = subst (λ (ls : List (ℕ × List ℕ)). EndsFull c x.state (read_by c x.full ls) x.full) lines x.ends;
        }
    then_more more (stops full code is behind ends) rest =
        let all : read_by c full (gave ++ l ∷ more) ≡ with_bad l.0 code (read_by c None gave) = chip_end c full gave l.0 l.1 more (read_by c None gave) code is in
        record {
          full = full;
          later = [];
          state = r;
          behind = behind;
          comes =
              subst (λ (x : EventReading). HasCome c x.events (made ++ []) r) (sym all)
              (subst (λ (is : List Input). HasCome c (read_by c None gave).events is r) (sym (append-nil made)) comes);
          ends = subst (λ (x : EventReading). EndsFull c r x full) (sym all) ends;
        }

module _ (c : Config) (formed : Formed c) (small : IsWithinLimits c) where
  pub extend : (more gave : List (ℕ × List ℕ)) (made : List Input) (r : RunState) → (read_by c None gave).bad ≡ None → HasCome c (read_by c None gave).events made r → Extension c gave more made
  extend [] gave made r good comes =
      record {
        full = None;
        later = [];
        state = r;
        behind = tt;
        comes =
            subst (λ (ls : List (ℕ × List ℕ)). HasCome c (read_by c None ls).events (made ++ []) r) (sym (append-nil gave))
            (subst (λ (is : List Input). HasCome c (read_by c None gave).events is r) (sym (append-nil made)) comes);
        ends = tt;
      }
  extend (l ∷ more) gave made r good comes =
      then_more c gave l made r good comes more (next_line c gave l made r good comes formed small)
      (λ made2 state fine come. extend more (gave ++ l ∷ []) made2 state fine come)
