-- How a run over a packet text ends.
use Rattle.std.proofs.Common.{◌≡◌, ◌≢◌, ◌⊎◌, ⊎_elim, inl, inr, ◌≤◌, ◌<◌, ℕ, Bool, true, false, IsTrue, List, [], ◌++◌, length, Option, Some, None, sym, refl, ap, ◌∙◌, subst, append_assoc, arith, ltb}
use Rattle.rmt_io.specs.Outside.{Gained, PrintingFailed}
use Rattle.rmt_packets.specs.PacketText.{BadLine}
use Rattle.rmt_runs.specs.declared.fault.Bad.{Bad}
use Rattle.rmt_runs.specs.declared.fault.RunFault.{RunFault}
use Rattle.rmt_runs.specs.declared.fault.RunFault.TheVariants.{NoMemory, Write, Read, TooLong}
use Rattle.rmt_drive.specs.declared.status.Status.{Status}
use Rattle.rmt_drive.specs.declared.status.Status.TheVariants as status
use Rattle.rmt_runs.specs.TextLines.{lines_within}
use Rattle.rmt_runs.proofs.LineLaws.{whole_more}
use Rattle.rmt_runs.proofs.ReaderLaws.{within_short}
use Rattle.rmt_drive.specs.Ends.{Answered, AreSame, Outside, PrintsAll}
use Rattle.rmt_drive.specs.Given.{Given, told}
use Rattle.rmt_runs.specs.Printing.{GainedFront}
use Rattle.rmt_drive.specs.RunEnd.{BreaksBy, ReadsAllBy, bad_line, status_of_end, status_of_fault}
use Rattle.rmt_drive.specs.Runs.{RunsBy, Way, said_within, run_status, told_within}
use Rattle.rmt_drive.proofs.EndLaws.{IsEnding, run_answered, stops}

-- what is told of a text
abbrev pub told_by : {X : Type 0} → Way X → ℕ → List ℕ → X
told_by way limit text = told_within way limit text (way.bad (said_within way limit text))

-- where these lines come first among those that may be read, they do among those that are told
pub told_first : {X : Type 0} (way : Way X) (limit : ℕ) (text : List ℕ) (gave more : List (ℕ × List ℕ)) → lines_within limit text ≡ gave ++ more → (bad : Option BadLine)
    → (rest : List (ℕ × List ℕ)) × (told_within way limit text bad ≡ way.read (gave ++ rest))
told_first way limit text gave more is (Some bad) = (more, ap way.read is)
told_first way limit text gave more is None =
    let w = whole_more limit text in (more ++ w.0, ap way.read (w.1 ∙ ap (λ (ls : List (ℕ × List ℕ)). ls ++ w.0) is ∙ append_assoc gave more w.0))

pub not_longer : (limit n : ℕ) → n ≤ limit → ltb limit n ≡ false
not_longer limit n le = grind (arith, le)

longer : (limit n : ℕ) → limit < n → ltb limit n ≡ true
longer limit n lt = grind (arith, lt)

module _ {X : Type 0} (way : Way X) (limit : ℕ) (text : List ℕ) (said : X) (r : ReadsAllBy way limit text said) where
  -- of a text that was read to its end, or to its first bad line, what was read is told
  pub told_all : told_by way limit text ≡ said
  told_all = ap (λ (x : X). told_within way limit text (way.bad x)) r.says ∙ of (way.bad said) refl
    where
      of : (bad : Option BadLine) → way.bad said ≡ bad → told_within way limit text bad ≡ said
      of (Some b) e = r.says
      of None e = sym (ap way.read (within_short limit text (r.ends e))) ∙ r.says

  -- its status
  pub status_all : (bad : Option Bad) → way.bad said ≡ bad_line bad → run_status (ltb limit (length text)) (way.bad (said_within way limit text)) ≡ status_of_end bad
  status_all bad e = ap (λ (x : X). run_status (ltb limit (length text)) (way.bad x)) r.says ∙ ap (run_status (ltb limit (length text))) e ∙ of bad e
    where
      of : (bad : Option Bad) → way.bad said ≡ bad_line bad → run_status (ltb limit (length text)) (bad_line bad) ≡ status_of_end bad
      of (Some b) e = refl
      of None e = ap (λ b. run_status b None) (not_longer limit (length text) (r.ends e))

pub is_ending : (long : Bool) (bad : Option BadLine) → IsEnding (run_status long bad)
is_ending long (Some b) = inl (inr (inr (inr (inr (inr refl)))))
is_ending true None = inr refl
is_ending false None = inl (inl refl)

pub not_written : (long : Bool) (bad : Option BadLine) → status.WriteFault ≡ run_status long bad → ⊥
not_written long (Some b) e = cc
not_written true None e = cc
not_written false None e = cc

module _ (before after : Outside) {X : Type 0} (way : Way X) (printed : X → List ℕ) (limit : ℕ) (text : List ℕ) where
  -- what a run over this text gives, its status and its text
  abbrev gives : Given → Type 0
  gives = RunsBy way before.shelf.files printed limit text

  abbrev wanted : Status
  wanted = run_status (ltb limit (length text)) (way.bad (said_within way limit text))

  abbrev told_text : List ℕ
  told_text = printed (told_by way limit text)

  -- a run that came to the end of its text or to a bad line, and printed what is to be printed, or a front of it
  pub ended_answered : (said : X) (bad : Option Bad) (result : Status) → ReadsAllBy way limit text said → way.bad said ≡ bad_line bad → AreSame after.shelf.files before.shelf.files
      → (result ≡ status.WriteFault → printed said ≢ []) → (result ≡ status_of_end bad) ⊎ (result ≡ status.WriteFault)
      → (result ≡ status_of_end bad → Gained before.sink after.sink (printed said)) → GainedFront before.sink after.sink (printed said)
      → (result ≡ status.WriteFault → PrintingFailed before.sink after.sink) → Answered before after gives result
  ended_answered said bad result r is same some how whole front failed =
      let status_is = status_all way limit text said r bad is in
      let given : told before.shelf.files (status_of_end bad) (printed said) ≡ told before.shelf.files wanted told_text =
      ap (λ s. told before.shelf.files s (printed said)) (sym status_is) ∙ ap (λ x. told before.shelf.files wanted (printed x)) (sym (told_all way limit text said r)) in
      run_answered before after gives (status_of_end bad) result (printed said) given same
      (subst IsEnding status_is (is_ending (ltb limit (length text)) (way.bad (said_within way limit text)))) some how (λ e _. whole e) front failed

  stops_so : (s : Status) → (s ≡ status.ReadFault) ⊎ (s ≡ status.NoMemory) → AreSame after.shelf.files before.shelf.files → GainedFront before.sink after.sink told_text
      → (s ≡ status.ReadFault → IsTrue before.shelf.steady → ⊥) → Answered before after gives s
  stops_so s is same front never =
      stops before after gives s is
      (record {
        files = inl same;
        front = λ g e. (g, e, subst (λ (x : Given). GainedFront before.sink after.sink x.text) (sym e) front);
        steady = λ steady e. absurd (never e steady);
      })

  -- a run that ended early
  pub broken_answered : (fault : RunFault) → BreaksBy way printed limit text before.sink after.sink fault → AreSame after.shelf.files before.shelf.files → (fault ≡ Write → PrintingFailed before.sink after.sink)
      → (fault ≡ Read → IsTrue before.shelf.steady → ⊥) → Answered before after gives (status_of_fault fault)
  broken_answered NoMemory b same failed never = stops_so status.NoMemory (inr refl) same b.front (λ e. absurd (cc))
  broken_answered Read b same failed never = stops_so status.ReadFault (inl refl) same b.front (λ e. never refl)
  broken_answered Write b same failed never =
      run_answered before after gives wanted status.WriteFault told_text refl same (is_ending (ltb limit (length text)) (way.bad (said_within way limit text)))
      (λ _. b.some refl) (inr refl) (λ e. absurd (not_written (ltb limit (length text)) (way.bad (said_within way limit text)) e)) b.front (λ _. failed refl)
  broken_answered TooLong b same failed never =
      let is : wanted ≡ status.TooLong =
      ap (λ x. run_status x (way.bad (said_within way limit text))) (longer limit (length text) (b.long refl)) ∙ ap (λ x. run_status true x) (b.within refl) in
      run_answered before after gives status.TooLong status.TooLong told_text
      (ap (λ s. told before.shelf.files s told_text) (sym is)) same (inr refl) (λ e. absurd (cc)) (inl refl) (λ e all. absurd (never_all all)) b.front (λ e. absurd (cc))
    where
      never_all : PrintsAll status.TooLong → ⊥
      never_all all = grind arith

  -- and one that ended for want of memory behind its lines
  pub ended_without_memory : (said : X) → ReadsAllBy way limit text said → AreSame after.shelf.files before.shelf.files → GainedFront before.sink after.sink (printed said) → Answered before after gives status.NoMemory
  ended_without_memory said r same front =
      stops_so status.NoMemory (inr refl) same (subst (λ x. GainedFront before.sink after.sink (printed x)) (sym (told_all way limit text said r)) front) (λ e. absurd (cc))

  -- a run that came to the end of its text or to a bad line, and had the memory for what is printed then, or not
  pub finished_answered : (said : X) (bad : Option Bad) (result : Status) → ReadsAllBy way limit text said → way.bad said ≡ bad_line bad → AreSame after.shelf.files before.shelf.files
      → (result ≡ status_of_end bad) ⊎ (result ≡ status.WriteFault) ⊎ (result ≡ status.NoMemory)
      → (result ≡ status.WriteFault → printed said ≢ []) → (result ≡ status_of_end bad → Gained before.sink after.sink (printed said)) → GainedFront before.sink after.sink (printed said)
      → (result ≡ status.WriteFault → PrintingFailed before.sink after.sink) → Answered before after gives result
  finished_answered said bad result r is same possible some whole front failed =
      ⊎_elim (λ e. ended_answered said bad result r is same some (inl e) whole front failed)
      (λ h. ⊎_elim (λ e. ended_answered said bad result r is same some (inr e) whole front failed)
      (λ e. subst (λ s. Answered before after gives s) (sym e) (ended_without_memory said r same front)) h) possible
