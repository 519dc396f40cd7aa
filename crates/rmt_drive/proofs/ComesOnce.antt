-- Two runs of the same packets and commits are one, input for input, until a commit moves cells; and from then on each entry has a cell under a seed below 8 in both.
use Rattle.std.proofs.Common.{◌≡◌, ◌⊎◌, inl, inr, ℕ, ◌+◌, ◌<◌, ◌||◌, Bool, true, false, List, [], ◌∷◌, ◌++◌, length, map, replicate, Some, None, refl, sym, ap, subst, ◌∙◌}
use Rattle.std.specs.List.{AllZip}
use Rattle.std.proofs.lemmas.Bool.{false≢true}
use Rattle.std.proofs.lemmas.List.{length-map}
use Rattle.std.proofs.lemmas.Option.{none-some, same_Some}
use Rattle.rmt_bits.specs.Packet.{Packet}
use Rattle.rmt_ast.specs.declared.entry.Entry.{Entry}
use Rattle.rmt_ast.specs.declared.names.Names.{Names}
use Rattle.rmt_ast.specs.Changes.{Change, Installed, at_first, committed}
use Rattle.rmt_ast.specs.Events.{Arrives, Commits, Event}
use Rattle.rmt_plain.specs.Stands.{entries_after}
use Rattle.rmt_config.specs.declared.config.Config.{Config}
use Rattle.rmt_config.specs.declared.cell_write.CellWrite.{CellWrite}
use Rattle.rmt_config.specs.Commits.{AreFilled, AreWrites, IsFirstSeed, Makes, Placed, RunState, behind_commit, behind_packet, filled, moves, placed_after, settled, stays, waits}
use Rattle.rmt_config.specs.RunCells.{RunCells, with_version}
use Rattle.rmt_config.specs.RunInputs.{Enters, Idle, Input, Turns, Writes}
use Rattle.rmt_update.specs.Following.{IsNextAbove}
use Rattle.rmt_update.proofs.FollowLaws.{first_above, numbers_kept}
use Rattle.rmt_drive.specs.ChipEvents.{Comes, arrived, begins, commit_cycles, turned}
use Rattle.rmt_drive.specs.ChipRuns.{has_moved}
use Rattle.rmt_drive.proofs.AlikeInputs.{AreAlike, alike_append, alike_itself, alike_long}
use Rattle.rmt_drive.proofs.ComesStates.{come_entries}
use Rattle.rmt_drive.proofs.HeldCells.{EachHasCell, filled_keeps, settled_keeps}
use Rattle.rmt_drive.proofs.KeptEntries.{keep_entries}
use Rattle.rmt_drive.proofs.WritesOnce.{IsAlike, writes_once}

-- ---- lists with one more item

none_is_some : {X : Type 0} (xs : List X) (x : X) → [] ≡ xs ++ x ∷ [] → ⊥
none_is_some [] x e = absurd (cc)
none_is_some (y ∷ xs) x e = absurd (cc)

pub last_same : {X : Type 0} (xs ys : List X) (x y : X) → xs ++ x ∷ [] ≡ ys ++ y ∷ [] → (xs ≡ ys) × (x ≡ y)
last_same [] [] x y e = (refl, cc)
last_same [] (z ∷ ys) x y e = let tail : [] ≡ ys ++ y ∷ [] = cc in absurd (none_is_some ys y tail)
last_same (w ∷ xs) [] x y e = let tail : xs ++ x ∷ [] ≡ [] = cc in absurd (none_is_some xs x (sym tail))
last_same (w ∷ xs) (z ∷ ys) x y e =
    let head : w ≡ z = cc in
    let tail : xs ++ x ∷ [] ≡ ys ++ y ∷ [] = cc in
    let rest = last_same xs ys x y tail in
    (λ i. head i ∷ rest.0 i, rest.1)

pub never_packet : (packet : Packet) (changes : List Change) → ◌≡◌ {A = Event} (Arrives packet) (Commits changes) → ⊥
never_packet packet changes e = cc

same_packet : (a b : Packet) → ◌≡◌ {A = Event} (Arrives a) (Arrives b) → a ≡ b
same_packet a b e = cc

pub same_changes : (a b : List Change) → ◌≡◌ {A = Event} (Commits a) (Commits b) → a ≡ b
same_changes a b e = cc

module _ (c : Config) where
  -- two runs so far are one, but for how the bytes of changed cells are written
  pub record AreOne (made : List Input) (r : RunState) (others : List Input) (s : RunState) : Type 0 where
    pub state : r ≡ s
    pub inputs : AreAlike c made others

  one_packet : (made others : List Input) (r s : RunState) (p q : Packet) → p ≡ q → AreOne made r others s → AreOne (made ++ Enters p ∷ []) (behind_packet c r) (others ++ Enters q ∷ []) (behind_packet c s)
  one_packet made others r s p q same one = record {
    state = ap (behind_packet c) one.state;
    inputs = alike_append c made others (Enters p ∷ []) (Enters q ∷ []) one.inputs (subst (λ (x : Packet). AreAlike c (Enters p ∷ []) (Enters x ∷ [])) same (alike_itself c (Enters p ∷ [])));
  }

  many_alike : (ws vs : List CellWrite) → AllZip (IsAlike c) (map Writes ws) (map Writes vs) → length ws ≡ length vs
  many_alike ws vs alike = sym (length-map ws Writes) ∙ alike_long c (map Writes ws) (map Writes vs) alike ∙ length-map vs Writes

  -- one commit, from one state, whose changed cells are written twice
  one_writes : (r : RunState) (changes : List Change) (moved : Bool) (seed : ℕ) (next : RunCells) (ws vs : List CellWrite) (made others : List Input) → AreWrites c r.cells next ws → AreWrites c r.cells next vs
      → AreAlike c made others
      → AreOne (made ++ commit_cycles r moved seed ws) (behind_commit r changes moved seed ws next) (others ++ commit_cycles r moved seed vs) (behind_commit r changes moved seed vs next)
  one_writes r changes moved seed next ws vs made others are_ws are_vs alike =
      let written = writes_once c r.cells next ws vs are_ws are_vs in
      record {
        state = ap (λ n. record {
          cells = with_version next seed;
          entries = committed r.entries changes;
          cycle = r.cycle + waits r moved + n + 1;
          older_gone = r.all_gone;
          all_gone = r.all_gone;
        }) (many_alike ws vs written);
        inputs =
            alike_append c made others (commit_cycles r moved seed ws) (commit_cycles r moved seed vs) alike
            (alike_append c (replicate (waits r moved) Idle) (replicate (waits r moved) Idle) (map Writes ws ++ Turns seed ∷ []) (map Writes vs ++ Turns seed ∷ []) (alike_itself c (replicate (waits r moved) Idle))
            (alike_append c (map Writes ws) (map Writes vs) (Turns seed ∷ []) (Turns seed ∷ []) written (alike_itself c (Turns seed ∷ []))));
      }

  module _ (names : Names) (lists : List (List Entry)) where
    -- what a commit makes, as one of the two kinds
    pub data Kinds (cells : RunCells) (before after : List (List Entry)) (moved : Bool) (seed : ℕ) (next : RunCells) : Type 0 where
      settles : (placed : List Placed) → placed_after c names cells before after ≡ Some placed → moved ≡ false → seed ≡ cells.seed → next ≡ settled c names cells before placed
          → Kinds cells before after moved seed next
      refills : (placed : List Placed) → placed_after c names cells before after ≡ None → IsFirstSeed c names seed after → AreFilled c names seed after placed → moved ≡ true
          → next ≡ filled c names cells placed → Kinds cells before after moved seed next

    pub kind_of : (cells : RunCells) (before after : List (List Entry)) (moved : Bool) (seed : ℕ) (next : RunCells) → Makes c names cells before after moved seed next → Kinds cells before after moved seed next
    kind_of cells before after moved seed next (stays placed e) = settles placed e refl refl refl
    kind_of cells before after moved seed next (moves s placed e first are) = refills placed e first are refl refl

    -- a commit that moves no cell makes one thing of one state
    one_turn : (r : RunState) (changes : List Change) (moved other : Bool) (seed s : ℕ) (next then : RunCells) (ws vs : List CellWrite) (made others : List Input)
        → Kinds r.cells r.entries.lists (committed r.entries changes).lists moved seed next → Kinds r.cells r.entries.lists (committed r.entries changes).lists other s then → moved ≡ false
        → AreWrites c r.cells next ws → AreWrites c r.cells then vs → AreAlike c made others
        → AreOne (made ++ commit_cycles r moved seed ws) (behind_commit r changes moved seed ws next) (others ++ commit_cycles r other s vs) (behind_commit r changes other s vs then)
    one_turn r changes moved other seed s next then ws vs made others (settles placed e m d n) (settles places f k g h) still are_ws are_vs alike =
        let same : placed ≡ places = same_Some placed places (sym e ∙ f) in
        let cells : next ≡ then = n ∙ ap (settled c names r.cells r.entries.lists) same ∙ sym h in
        let kinds : moved ≡ other = m ∙ sym k in
        let seeds : seed ≡ s = d ∙ sym g in
        subst (λ (x : RunCells). AreWrites c r.cells x vs
        → AreOne (made ++ commit_cycles r moved seed ws) (behind_commit r changes moved seed ws next) (others ++ commit_cycles r other s vs) (behind_commit r changes other s vs x)) cells
        (λ are. subst (λ (b : Bool). AreOne (made ++ commit_cycles r moved seed ws) (behind_commit r changes moved seed ws next) (others ++ commit_cycles r b s vs) (behind_commit r changes b s vs next)) kinds
        (subst (λ (m : ℕ). AreOne (made ++ commit_cycles r moved seed ws) (behind_commit r changes moved seed ws next) (others ++ commit_cycles r moved m vs) (behind_commit r changes moved m vs next)) seeds
        (one_writes r changes moved seed next ws vs made others are_ws are alike))) are_vs
    one_turn r changes moved other seed s next then ws vs made others (settles placed e m d n) (refills places f first are k h) still are_ws are_vs alike = absurd (none-some placed (sym f ∙ e))
    one_turn r changes moved other seed s next then ws vs made others (refills placed e first are m n) b still are_ws are_vs alike = absurd (false≢true (sym still ∙ m))

    not_either : (a b : Bool) → (a || b) ≡ false → (a ≡ false) × (b ≡ false)
    not_either false b e = (refl, e)
    not_either true b e = absurd (false≢true (sym e))

    -- where no commit of one run moves cells, any other of the same packets and commits is it
    pub once_unmoved : (events : List Event) (made : List Input) (r : RunState) (a : Comes c names lists events made r) (again : List Event) (others : List Input) (s : RunState)
        → Comes c names lists again others s → events ≡ again → has_moved c names lists events made r a ≡ false → AreOne made r others s
    once_unmoved events made r begins again others s begins same still = record { state = refl; inputs = tt }
    once_unmoved events made r begins again others s (arrived before inputs t packet h) same still = absurd (none_is_some before (Arrives packet) same)
    once_unmoved events made r begins again others s (turned before inputs t changes moved seed next ws h makes are) same still = absurd (none_is_some before (Commits changes) same)
    once_unmoved events made r (arrived front ins q packet g) again others s begins same still = absurd (none_is_some front (Arrives packet) (sym same))
    once_unmoved events made r (arrived front ins q packet g) again others s (arrived before inputs t other h) same still =
        let both = last_same front before (Arrives packet) (Arrives other) same in
        one_packet ins inputs q t packet other (same_packet packet other both.1) (once_unmoved front ins q g before inputs t h both.0 still)
    once_unmoved events made r (arrived front ins q packet g) again others s (turned before inputs t changes moved seed next ws h makes are) same still =
        absurd (never_packet packet changes (last_same front before (Arrives packet) (Commits changes) same).1)
    once_unmoved events made r (turned front ins q changes moved seed next ws g makes are) again others s begins same still = absurd (none_is_some front (Commits changes) (sym same))
    once_unmoved events made r (turned front ins q changes moved seed next ws g makes are) again others s (arrived before inputs t packet h) same still =
        absurd (never_packet packet changes (sym (last_same front before (Commits changes) (Arrives packet) same).1))
    once_unmoved events made r (turned front ins q changes moved seed next ws g makes are) again others s (turned before inputs t chs other d then vs h makes2 are2) same still =
        let both = last_same front before (Commits changes) (Commits chs) same in
        let parts = not_either moved (has_moved c names lists front ins q g) still in
        let one = once_unmoved front ins q g before inputs t h both.0 parts.1 in
        let chs_same : chs ≡ changes = sym (same_changes changes chs both.1) in
        let kinds = subst (λ (x : List Change). Kinds t.cells t.entries.lists (committed t.entries x).lists other d then) chs_same (kind_of t.cells t.entries.lists (committed t.entries chs).lists other d then makes2) in
        let back : t ≡ q = sym one.state in
        let turn =
        one_turn q changes moved other seed d next then ws vs ins inputs (kind_of q.cells q.entries.lists (committed q.entries changes).lists moved seed next makes)
        (subst (λ (x : RunState). Kinds x.cells x.entries.lists (committed x.entries changes).lists other d then) back kinds) parts.0 are (subst (λ (x : RunState). AreWrites c x.cells then vs) back are2) one.inputs in
        subst (λ (x : List Change). AreOne (ins ++ commit_cycles q moved seed ws) (behind_commit q changes moved seed ws next) (inputs ++ commit_cycles t other d vs) (behind_commit t x other d vs then)) (sym chs_same)
        (subst (λ (x : RunState). AreOne (ins ++ commit_cycles q moved seed ws) (behind_commit q changes moved seed ws next) (inputs ++ commit_cycles x other d vs) (behind_commit x changes other d vs then)) one.state turn)

    -- ---- once cells have moved

    -- each entry has a cell under a seed below 8
    pub record IsLoaded (r : RunState) : Type 0 where
      pub few : r.cells.seed < 8
      pub held : EachHasCell c names r.cells r.entries.lists

    -- the numbers of entries are given once
    above_after : (s : Installed) (events : List Event) → IsNextAbove s → IsNextAbove (entries_after s events)
    above_after s [] above = above
    above_after s ((Arrives packet) ∷ events) above = above_after s events above
    above_after s ((Commits changes) ∷ events) above = above_after (committed s changes) events (numbers_kept s changes above).0

    pub come_above : (events : List Event) (made : List Input) (r : RunState) → Comes c names lists events made r → IsNextAbove r.entries
    come_above events made r h = subst IsNextAbove (sym (come_entries c names lists events made r h)) (above_after (at_first lists) events (first_above lists))

    pub loaded_next : (r : RunState) (changes : List Change) (moved : Bool) (seed : ℕ) (next : RunCells) (ws : List CellWrite) → IsNextAbove r.entries
        → Kinds r.cells r.entries.lists (committed r.entries changes).lists moved seed next → (moved ≡ false → IsLoaded r) → IsLoaded (behind_commit r changes moved seed ws next)
    loaded_next r changes moved seed next ws above (settles placed e m d n) loaded =
        let old = loaded m in
        let keep = keep_entries r.entries changes above in
        let held = settled_keeps c names r.cells r.entries.lists (committed r.entries changes).lists placed e old.held keep in
        record {
          few = subst (λ k. k < 8) (sym d) old.few;
          held =
              subst (λ (x : RunCells). EachHasCell c names (with_version x seed) (committed r.entries changes).lists) (sym n)
              (subst (λ k. EachHasCell c names (with_version (settled c names r.cells r.entries.lists placed) k) (committed r.entries changes).lists) (sym d) held);
        }
    loaded_next r changes moved seed next ws above (refills placed e first are m n) loaded = record {
      few = first.in_range;
      held =
          subst (λ (x : RunCells). EachHasCell c names (with_version x seed) (committed r.entries changes).lists) (sym n)
          (filled_keeps c names r.cells seed (committed r.entries changes).lists placed are);
    }

    either_turn : (r : RunState) (changes : List Change) (moved other : Bool) (seed s : ℕ) (next then : RunCells) (ws vs : List CellWrite) (made others : List Input) → IsNextAbove r.entries
        → Kinds r.cells r.entries.lists (committed r.entries changes).lists moved seed next → Kinds r.cells r.entries.lists (committed r.entries changes).lists other s then
        → AreWrites c r.cells next ws → AreWrites c r.cells then vs → AreAlike c made others
        → AreOne (made ++ commit_cycles r moved seed ws) (behind_commit r changes moved seed ws next) (others ++ commit_cycles r other s vs) (behind_commit r changes other s vs then)
        ⊎ (IsLoaded (behind_commit r changes moved seed ws next) × IsLoaded (behind_commit r changes other s vs then))
    either_turn r changes moved other seed s next then ws vs made others above (settles placed e m d n) b are_ws are_vs alike =
        inl (one_turn r changes moved other seed s next then ws vs made others (settles placed e m d n) b m are_ws are_vs alike)
    either_turn r changes moved other seed s next then ws vs made others above (refills placed e first are m n) (settles places f k g h) are_ws are_vs alike = absurd (none-some places (sym e ∙ f))
    either_turn r changes moved other seed s next then ws vs made others above (refills placed e first are m n) (refills places f first2 are2 k h) are_ws are_vs alike =
        inr (
          loaded_next r changes moved seed next ws above (refills placed e first are m n) (λ still. absurd (false≢true (sym still ∙ m))),
          loaded_next r changes other s then vs above (refills places f first2 are2 k h) (λ still. absurd (false≢true (sym still ∙ k))),
        )

    -- two runs of the same packets and commits are one, or both are loaded
    pub either_come : (events : List Event) (made : List Input) (r : RunState) → Comes c names lists events made r → (again : List Event) (others : List Input) (s : RunState)
        → Comes c names lists again others s → events ≡ again → AreOne made r others s ⊎ (IsLoaded r × IsLoaded s)
    either_come events made r begins again others s begins same = inl (record { state = refl; inputs = tt })
    either_come events made r begins again others s (arrived before inputs t packet h) same = absurd (none_is_some before (Arrives packet) same)
    either_come events made r begins again others s (turned before inputs t changes moved seed next ws h makes are) same = absurd (none_is_some before (Commits changes) same)
    either_come events made r (arrived front ins q packet g) again others s begins same = absurd (none_is_some front (Arrives packet) (sym same))
    either_come events made r (arrived front ins q packet g) again others s (arrived before inputs t other h) same =
        let both = last_same front before (Arrives packet) (Arrives other) same in
        elim (either_come front ins q g before inputs t h both.0) [
          | inl one ↦ inl (one_packet ins inputs q t packet other (same_packet packet other both.1) one)
          | inr two ↦ inr (record { few = two.0.few; held = two.0.held }, record { few = two.1.few; held = two.1.held })
        ]
    either_come events made r (arrived front ins q packet g) again others s (turned before inputs t changes moved seed next ws h makes are) same =
        absurd (never_packet packet changes (last_same front before (Arrives packet) (Commits changes) same).1)
    either_come events made r (turned front ins q changes moved seed next ws g makes are) again others s begins same = absurd (none_is_some front (Commits changes) (sym same))
    either_come events made r (turned front ins q changes moved seed next ws g makes are) again others s (arrived before inputs t packet h) same =
        absurd (never_packet packet changes (sym (last_same front before (Commits changes) (Arrives packet) same).1))
    either_come events made r (turned front ins q changes moved seed next ws g makes are) again others s (turned before inputs t chs other d then vs h makes2 are2) same =
        let both = last_same front before (Commits changes) (Commits chs) same in
        let chs_same : chs ≡ changes = sym (same_changes changes chs both.1) in
        let own = kind_of q.cells q.entries.lists (committed q.entries changes).lists moved seed next makes in
        let kinds = subst (λ (x : List Change). Kinds t.cells t.entries.lists (committed t.entries x).lists other d then) chs_same (kind_of t.cells t.entries.lists (committed t.entries chs).lists other d then makes2) in
        subst (λ (x : List Change). AreOne (ins ++ commit_cycles q moved seed ws) (behind_commit q changes moved seed ws next) (inputs ++ commit_cycles t other d vs) (behind_commit t x other d vs then)
        ⊎ (IsLoaded (behind_commit q changes moved seed ws next) × IsLoaded (behind_commit t x other d vs then))) (sym chs_same)
        (elim (either_come front ins q g before inputs t h both.0) [
          | inl one ↦
              let back : t ≡ q = sym one.state in
              subst (λ (x : RunState). AreOne (ins ++ commit_cycles q moved seed ws) (behind_commit q changes moved seed ws next) (inputs ++ commit_cycles x other d vs) (behind_commit x changes other d vs then)
              ⊎ (IsLoaded (behind_commit q changes moved seed ws next) × IsLoaded (behind_commit x changes other d vs then))) one.state
              (either_turn q changes moved other seed d next then ws vs ins inputs (come_above front ins q g) own
              (subst (λ (x : RunState). Kinds x.cells x.entries.lists (committed x.entries changes).lists other d then) back kinds) are (subst (λ (x : RunState). AreWrites c x.cells then vs) back are2) one.inputs)
          | inr two ↦ inr (loaded_next q changes moved seed next ws (come_above front ins q g) own (λ still. two.0), loaded_next t changes other d then vs (come_above before inputs t h) kinds (λ still. two.1))
        ])
