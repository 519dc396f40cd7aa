-- A commit that one run refuses no other run of the same packets and commits makes: where a cell must move and no seed from 0 to 7 has a loading, there is none in any of them.
use Rattle.std.proofs.Common.{◌≡◌, ◌⊎◌, inl, inr, ℕ, ◌<◌, Bool, List, [], ◌∷◌, ◌++◌, Some, refl, sym, ap, subst, ◌∙◌, append_assoc}
use Rattle.std.proofs.lemmas.Option.{none-some}
use Rattle.rmt_ast.specs.declared.entry.Entry.{Entry}
use Rattle.rmt_ast.specs.declared.names.Names.{Names}
use Rattle.rmt_ast.specs.Changes.{Change, Installed, committed}
use Rattle.rmt_ast.specs.Events.{Arrives, Commits, Event}
use Rattle.rmt_ast.specs.NameRules.{AreEntriesOf}
use Rattle.rmt_config.specs.declared.config.Config.{Config}
use Rattle.rmt_config.specs.declared.cell_write.CellWrite.{CellWrite}
use Rattle.rmt_config.specs.Commits.{AreFilled, Placed, RunState}
use Rattle.rmt_config.specs.Form.{Formed}
use Rattle.rmt_config.specs.RunCells.{RunCells, with_version}
use Rattle.rmt_config.specs.RunInputs.{Input}
use Rattle.rmt_drive.specs.ChipEvents.{Comes, IsRefused, arrived, begins, turned}
use Rattle.rmt_drive.proofs.ComesOnce.{IsLoaded, Kinds, come_above, either_come, kind_of, last_same, loaded_next, never_packet, refills, same_changes, settles}
use Rattle.rmt_drive.proofs.ComesStates.{come_entries}
use Rattle.rmt_drive.proofs.FilledRooms.{filled_now}

-- ---- lists

-- none, or a last item behind others
last_of : {X : Type 0} (xs : List X) → (xs ≡ []) ⊎ ((front : List X) × (x : X) × (xs ≡ front ++ x ∷ []))
last_of [] = inl refl
last_of (x ∷ xs) = elim (last_of xs) [
  | inl none ↦ inr ([], x, ap (λ ys. x ∷ ys) none)
  | inr some ↦ inr (x ∷ some.0, some.1, ap (λ ys. x ∷ ys) some.2)
]

none_of : {X : Type 0} (xs : List X) (x : X) (more : List X) → [] ≡ xs ++ x ∷ more → ⊥
none_of [] x more e = absurd (cc)
none_of (y ∷ xs) x more e = absurd (cc)

-- an item within a list with one more: it is the last one, or stands before that
within : {X : Type 0} (before : List X) (y : X) (xs : List X) (x : X) (more : List X) → before ++ y ∷ [] ≡ xs ++ x ∷ more
    → ((before ≡ xs) × (y ≡ x)) ⊎ ((rest : List X) × (before ≡ xs ++ x ∷ rest))
within before y xs x more e = elim (last_of more) [
  | inl none ↦ inl (last_same before xs y x (e ∙ ap (λ zs. xs ++ x ∷ zs) none))
  | inr some ↦
      let whole = e ∙ ap (λ zs. xs ++ x ∷ zs) some.2 ∙ sym (append_assoc xs (x ∷ some.0) (some.1 ∷ [])) in
      inr (some.0, (last_same before (xs ++ x ∷ some.0) y some.1 whole).0)
]

module _ (c : Config) (names : Names) (lists : List (List Entry)) where
  -- a run made this commit, behind these packets and commits
  record MadeIt (events : List Event) (changes : List Change) : Type 0 where
    inputs : List Input
    state : RunState
    comes : Comes c names lists events inputs state
    moved : Bool
    seed : ℕ
    next : RunCells
    writes : List CellWrite
    kinds : Kinds c names lists state.cells state.entries.lists (committed state.entries changes).lists moved seed next

  made_it : (all : List Event) (made : List Input) (r : RunState) → Comes c names lists all made r → (events : List Event) (changes : List Change) (later : List Event) → all ≡ events ++ Commits changes ∷ later
      → MadeIt events changes
  made_it all made r begins events changes later same = absurd (none_of events (Commits changes) later same)
  made_it all made r (arrived before inputs s packet h) events changes later same = elim (within before (Arrives packet) events (Commits changes) later same) [
    | inl last ↦ absurd (never_packet packet changes last.1)
    | inr more ↦ made_it before inputs s h events changes more.0 more.1
  ]
  made_it all made r (turned before inputs s chs moved seed next writes h makes are) events changes later same = elim (within before (Commits chs) events (Commits changes) later same) [
    | inl last ↦
        subst (λ (es : List Event). MadeIt es changes) last.0
        (subst (λ (x : List Change). MadeIt before x) (same_changes chs changes last.1)
        (record {
          inputs = inputs;
          state = s;
          comes = h;
          moved = moved;
          seed = seed;
          next = next;
          writes = writes;
          kinds = kind_of c names lists s.cells s.entries.lists (committed s.entries chs).lists moved seed next makes;
        }))
    | inr more ↦ made_it before inputs s h events changes more.0 more.1
  ]

  module _ (formed : Formed c) (named : c.names ≡ Some names) (events : List Event) (made : List Input) (r : RunState) (comes : Comes c names lists events made r) (changes : List Change)
      (are : AreEntriesOf names (committed r.entries changes).lists) (refused : IsRefused c names r changes) where
    -- one run had made it of the same state
    of_one : (m : MadeIt events changes) → r ≡ m.state → ⊥
    of_one m same = by m.moved m.seed m.next (subst (λ (x : RunState). Kinds c names lists x.cells x.entries.lists (committed x.entries changes).lists m.moved m.seed m.next) (sym same) m.kinds)
      where
        by : (moved : Bool) (seed : ℕ) (next : RunCells) → Kinds c names lists r.cells r.entries.lists (committed r.entries changes).lists moved seed next → ⊥
        by moved seed next (settles placed e still s n) = none-some placed (sym refused.moves ∙ e)
        by moved seed next (refills placed e first filled moves n) = refused.full seed placed first.in_range filled

    -- or of one in which each entry has a cell
    of_loaded : (m : MadeIt events changes) → IsLoaded c names lists m.state → ⊥
    of_loaded m loaded = by m.moved m.seed m.next m.kinds
      where
        same : m.state.entries ≡ r.entries
        same = come_entries c names lists events m.inputs m.state m.comes ∙ sym (come_entries c names lists events made r comes)

        full : (seed : ℕ) (placed : List Placed) → seed < 8 → AreFilled c names seed (committed m.state.entries changes).lists placed → ⊥
        full seed placed few filled = refused.full seed placed few (subst (λ (s : Installed). AreFilled c names seed (committed s changes).lists placed) same filled)

        by : (moved : Bool) (seed : ℕ) (next : RunCells) → Kinds c names lists m.state.cells m.state.entries.lists (committed m.state.entries changes).lists moved seed next → ⊥
        by moved seed next (refills placed e first filled moves n) = full seed placed first.in_range filled
        by moved seed next (settles placed e still s n) =
            let kinds : Kinds c names lists m.state.cells m.state.entries.lists (committed m.state.entries changes).lists moved seed next = settles placed e still s n in
            let after = loaded_next c names lists m.state changes moved seed next m.writes (come_above c names lists events m.inputs m.state m.comes) kinds (λ h. loaded) in
            let entries = subst (λ (x : Installed). AreEntriesOf names (committed x changes).lists) (sym same) are in
            let loads = filled_now c names formed named (with_version next seed) (committed m.state.entries changes).lists entries after.held in
            full seed loads.0 after.few loads.1

    -- so none makes it
    pub refused_never : (others : List Input) (s : RunState) (later : List Event) → Comes c names lists (events ++ Commits changes ∷ later) others s → ⊥
    refused_never others s later goes =
        let m = made_it (events ++ Commits changes ∷ later) others s goes events changes later refl in
        elim (either_come c names lists events made r comes events m.inputs m.state m.comes refl) [
          | inl one ↦ of_one m one.state
          | inr two ↦ of_loaded m two.1
        ]
