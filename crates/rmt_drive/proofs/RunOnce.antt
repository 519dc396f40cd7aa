-- Two runs of the chip over one text give one status, and one text where no commit of the first moves cells.
use Rattle.std.proofs.Common.{◌≡◌, ◌⊎◌, inl, inr, ℕ, ◌<◌, ◌≤◌, true, false, eqb, ltb, List, length, Option, Some, None, refl, sym, ap, subst, ◌∙◌, arith}
use Rattle.std.specs.Prelude.{is_some}
use Rattle.std.proofs.lemmas.Bool.{cases_Bool, cases_lt, false≢true}
use Rattle.rmt_bits.specs.Lines.{numbered_lines}
use Rattle.rmt_ast.specs.declared.names.Names.{Names}
use Rattle.rmt_ast.specs.Changes.{committed}
use Rattle.rmt_ast.specs.Events.{Event}
use Rattle.rmt_ast.specs.NameRules.{AreEntriesOf}
use Rattle.rmt_config.specs.declared.config.Config.{Config}
use Rattle.rmt_config.specs.Commits.{RunState}
use Rattle.rmt_config.specs.Form.{Formed}
use Rattle.rmt_config.specs.Limits.{IsWithinLimits}
use Rattle.rmt_config.specs.RunInputs.{Input}
use Rattle.rmt_drive.specs.declared.watch.Watch.{Watch}
use Rattle.rmt_drive.specs.ChipEvents.{Comes, IsRefused, empty_cycles, lists_in, names_in}
use Rattle.rmt_drive.specs.ChipReading.{commits_in, finds_none}
use Rattle.rmt_drive.specs.ChipRuns.{RunsChip, RunsSo, has_moved, told_of}
use Rattle.rmt_drive.specs.ChipText.{run_text}
use Rattle.rmt_drive.specs.EventText.{EventReading}
use Rattle.rmt_drive.specs.Files.{Files}
use Rattle.rmt_drive.specs.Given.{Given}
use Rattle.rmt_drive.specs.Runs.{run_status}
use Rattle.rmt_drive.proofs.AlikeInputs.{same_text}
use Rattle.rmt_drive.proofs.ComesOnce.{AreOne, once_unmoved}
use Rattle.rmt_drive.proofs.ComesStates.{names_own, states}
use Rattle.rmt_drive.proofs.ReadOnce.{Parts, TellSame, tell_or_part, told_is}
use Rattle.rmt_drive.proofs.RefusedLaws.{refused_never}

-- some run over a text has a commit that moves cells
pub record HasMove (c : Config) (limit : ℕ) (text : List ℕ) : Type 0 where
  pub full : Option ℕ
  pub made : List Input
  pub state : RunState
  pub comes : Comes c (names_in c) (lists_in c) (told_of c full limit text).events made state
  pub moved : has_moved c (names_in c) (lists_in c) (told_of c full limit text).events made state comes ≡ true

some_names : (o : Option Names) → is_some o ≡ true → (names : Names) × (o ≡ Some names)
some_names None e = absurd (false≢true e)
some_names (Some names) e = (names, refl)

other_before : (k j : ℕ) → k < j → (es : List Event) → commits_in es ≤ k → finds_none (Some j) es ≡ false
other_before k j lt es le = not_eq (commits_in es) j (omega (arith, lt, le))
  where
    not_eq : (a b : ℕ) → a < b → eqb a b ≡ false
    not_eq a b h = grind (arith, h)

module _ (w : Watch) (files : Files) (c : Config) (formed : Formed c) (small : IsWithinLimits c) (limit : ℕ) (text : List ℕ) where
  -- no run goes on behind a commit that another refuses
  parted : (k : ℕ) (other : Option ℕ) (made others : List Input) (r s : RunState) (g h : Given) → RunsSo w files c limit text (Some k) made r g → RunsSo w files c limit text other others s h
      → Parts c k other (told_of c (Some k) limit text) (told_of c other limit text) → ⊥
  parted k other made others r s g h a b p =
      let some = some_names c.names p.named in
      let own = names_own c some.0 some.1 in
      let come = states c formed small some.0 some.1 (Some k) (numbered_lines 1 text) made r (told_of c (Some k) limit text) (sym (told_is c limit text (Some k))) a.comes in
      let comes : Comes c (names_in c) (lists_in c) p.said.events made r = subst (λ (x : EventReading). Comes c (names_in c) (lists_in c) x.events made r) p.cut a.comes in
      let refused : IsRefused c (names_in c) r p.said.changes = subst (λ (x : EventReading). IsRefused c (names_in c) r x.changes) p.cut a.ends.2 in
      let are : AreEntriesOf (names_in c) (committed r.entries p.said.changes).lists = subst (λ (x : EventReading). AreEntriesOf (names_in c) (committed r.entries x.changes).lists) p.cut come.next in
      refused_never c (names_in c) (lists_in c) formed own p.said.events made r comes p.said.changes are refused others s p.later
      (subst (λ (es : List Event). Comes c (names_in c) (lists_in c) es others s) p.on b.comes)

  told_back : (full other : Option ℕ) → TellSame c limit text full other → TellSame c limit text other full
  told_back full other t = record { bad = sym t.bad; told = sym t.told }

  agree : (full other : Option ℕ) (made others : List Input) (r s : RunState) (g h : Given) → RunsSo w files c limit text full made r g → RunsSo w files c limit text other others s h → TellSame c limit text full other
  agree None None made others r s g h a b = record { bad = refl; told = refl }
  agree (Some k) None made others r s g h a b = elim (tell_or_part c limit text k None (λ es le. refl)) [
    | inl same ↦ same
    | inr parts ↦ absurd (parted k None made others r s g h a b parts)
  ]
  agree None (Some k) made others r s g h a b = elim (tell_or_part c limit text k None (λ es le. refl)) [
    | inl same ↦ told_back (Some k) None same
    | inr parts ↦ absurd (parted k None others made s r h g b a parts)
  ]
  agree (Some k) (Some j) made others r s g h a b = elim (cases_lt k j) [
    | inl lt ↦ elim (tell_or_part c limit text k (Some j) (other_before k j lt)) [
      | inl same ↦ same
      | inr parts ↦ absurd (parted k (Some j) made others r s g h a b parts)
    ]
    | inr ge ↦ elim (cases_lt j k) [
      | inl gt ↦ elim (tell_or_part c limit text j (Some k) (other_before j k gt)) [
        | inl same ↦ told_back (Some j) (Some k) same
        | inr parts ↦ absurd (parted j (Some k) others made s r h g b a parts)
      ]
      | inr le ↦ let same : k ≡ j = omega (arith, ge, le) in subst (λ m. TellSame c limit text (Some k) (Some m)) same (record { bad = refl; told = refl })
    ]
  ]

  text_same : (full other : Option ℕ) (made others : List Input) (r s : RunState) → TellSame c limit text full other → AreOne c made r others s
      → run_text w c made (empty_cycles r) (told_of c full limit text).bad ≡ run_text w c others (empty_cycles s) (told_of c other limit text).bad
  text_same full other made others r s tells one =
      same_text c w made others (empty_cycles r) (told_of c full limit text).bad one.inputs
      ∙ ap (λ (x : RunState). run_text w c others (empty_cycles x) (told_of c full limit text).bad) one.state
      ∙ ap (λ (x : EventReading). run_text w c others (empty_cycles s) x.bad) tells.told

  once : (full other : Option ℕ) (made others : List Input) (r s : RunState) (g h : Given) (a : RunsSo w files c limit text full made r g) → RunsSo w files c limit text other others s h
      → (g.status ≡ h.status) × ((g.text ≡ h.text) ⊎ HasMove c limit text)
  once full other made others r s g h a b =
      let tells = agree full other made others r s g h a b in
      let long = ltb limit (length text) in
      let status : g.status ≡ h.status = ap (λ (x : Given). x.status) a.given_is ∙ ap (run_status long) tells.bad ∙ sym (ap (λ (x : Given). x.status) b.given_is) in
      let moves = has_moved c (names_in c) (lists_in c) (told_of c full limit text).events made r a.comes in (
        status,
        elim (cases_Bool moves) [
          | inl moved ↦ inr (record { full = full; made = made; state = r; comes = a.comes; moved = moved })
          | inr still ↦
              let one = once_unmoved c (names_in c) (lists_in c) (told_of c full limit text).events made r a.comes (told_of c other limit text).events others s b.comes
              (ap (λ (x : EventReading). x.events) tells.told) still in
              inl (ap (λ (x : Given). x.text) a.given_is ∙ text_same full other made others r s tells one ∙ sym (ap (λ (x : Given). x.text) b.given_is))
        ],
      )

  pub run_once : (g h : Given) → RunsChip w files c limit text g → RunsChip w files c limit text h → (g.status ≡ h.status) × ((g.text ≡ h.text) ⊎ HasMove c limit text)
  run_once g h a b = once a.0 b.0 a.1 b.1 a.2 b.2 g h a.3 b.3
