-- The lines of a run of packets and commits, cycle by cycle.
use Rattle.std.proofs.Common.{◌≡◌, ⊎_elim, ℕ, ◌+◌, ◌-◌, ◌<◌, ◌≤◌, true, false, cond, eqb, List, [], ◌∷◌, ◌++◌, length, take, Option, Some, None, sym, refl, ap, ◌∙◌, subst, arith, append_assoc, append-nil, length-append}
use Rattle.std.specs.Prelude.{option_map, slice_get, unwrap_or}
use Rattle.std.specs.Option.{option_to_list}
use Rattle.std.proofs.lemmas.Bool.{cases_lt, lt-ltb, le-ltb}
use Rattle.std.proofs.lemmas.List.{take-append-le, take_all}
use Rattle.std.proofs.lemmas.Option.{get_or_from_slice_get, slice_get_within}
use Rattle.rmt_config.specs.declared.config.Config.{Config}
use Rattle.rmt_config.specs.declared.config.Stage.{Stage}
use Rattle.rmt_config.specs.ChipRun.{latency_of}
use Rattle.rmt_config.specs.RunInputs.{Input, answer_in, start_of}
use Rattle.rmt_config.proofs.RunLaws.{latency_last}
use Rattle.rmt_chip.specs.declared.chip.Chip.{Chip}
use Rattle.rmt_chip.specs.Runnable.{StagesFit, start_of as start_in}
use Rattle.rmt_chip.specs.Stands.{Stands}
use Rattle.rmt_chip.proofs.FormedRuns.{runnable}
use Rattle.rmt_chip.proofs.LifeLaws.{start_of-get}
use Rattle.rmt_chip.proofs.StandsLaws.{no_limit}
use Rattle.rmt_refine.specs.EventRuns.{outcomes_in}
use Rattle.rmt_drive.specs.declared.watch.Watch.{Watch}
use Rattle.rmt_drive.specs.declared.watch.Watch.TheVariants.{Answers, Vectors}
use Rattle.rmt_drive.specs.ChipText.{flying_below, lines_of, vectors_at}
use Rattle.rmt_drive.specs.SimText.{answer_lines}
use Rattle.rmt_drive.proofs.AnswerLaws.{given_more}
use Rattle.rmt_drive.proofs.EmitLaws.{answer_lines-append}
use Rattle.rmt_drive.proofs.RunLaws.{Begins, begins_then}

-- ---- stages begin before packets leave

module _ (c : Config) (fit : StagesFit c.stages) where
  start_below : (k : ℕ) (stage : Stage) → k < length c.stages → stage.start ≡ start_in c.stages k → stage.start ≤ latency_of c.stages
  start_below k stage lt is =
      let last = length c.stages - 1 in
      let inside : last < length c.stages = omega (arith, lt) in
      let e = latency_last c.stages stage (omega (arith, lt)) in
      let at = start_of-get c.stages last stage inside in
      ⊎_elim (λ (before : k < last). let rise = fit.rise k last before inside in omega (arith, e, at, rise, is))
      (λ (le : last ≤ k). let same : k ≡ last = omega (arith, lt, le) in let there : start_in c.stages k ≡ start_in c.stages last = ap (start_in c.stages) same in omega (arith, e, at, is, there))
      (cases_lt k last)

  pub start_within : (k : ℕ) → start_of c k ≤ latency_of c.stages
  start_within k = by (slice_get c.stages k) refl
    where
      by : (o : Option Stage) → slice_get c.stages k ≡ o → unwrap_or (option_map (λ (stage : Stage). stage.start) o) 0 ≤ latency_of c.stages
      by None e = omega arith
      by (Some stage) e =
          let lt = slice_get_within c.stages k stage e in
          start_below k stage lt (ap (λ (s : Stage). s.start) (sym (get_or_from_slice_get c.stages k stage stage e)) ∙ start_of-get c.stages k stage lt)

-- of a configuration that a chip has
pub starts : (c : Config) (inputs : List Input) (chip : Chip) → Stands c inputs chip → (k : ℕ) → start_of c k ≤ latency_of c.stages
starts c inputs chip s = start_within c (subst (λ (d : Config). StagesFit d.stages) s.config_is (runnable chip.config chip.formed (no_limit chip.config chip.limits)).stages)

-- ---- one cycle more

-- what one more cycle adds
abbrev pub added : Watch → Config → List Input → Input → List ℕ
added Answers c inputs x = answer_lines (0 + length (outcomes_in c inputs)) (option_to_list (answer_in c (inputs ++ x ∷ []) (length inputs)))
added (Vectors cycle) c inputs x = cond (eqb (length inputs + 1) (cycle + 1)) (flying_below c (inputs ++ x ∷ []) (latency_of c.stages + 1)) []

module _ (c : Config) (begin : (k : ℕ) → start_of c k ≤ latency_of c.stages) where
  vectors_more : (inputs : List Input) (x : Input) (cycle : ℕ) → vectors_at c (inputs ++ x ∷ []) cycle ≡ vectors_at c inputs cycle ++ added (Vectors cycle) c inputs x
  vectors_more inputs x cycle =
      let n = length inputs in
      let whole = inputs ++ x ∷ [] in
      let l = latency_of c.stages + 1 in
      let long : length whole ≡ n + 1 = length-append inputs (x ∷ []) in
      let old = flying_below c (take (cycle + 1) inputs) l in
      ⊎_elim (λ (been : cycle < n).
      rw (lt-ltb cycle (length whole) (omega (arith, long, been)), lt-ltb cycle n been, not_eq (n + 1) (cycle + 1) (omega (arith, been)))
      (ap (λ (xs : List Input). flying_below c xs l) (take-append-le (cycle + 1) inputs (x ∷ []) (omega (arith, been))) ∙ sym (append-nil old)))
      (λ (le : n ≤ cycle). ⊎_elim
      (λ (later : n < cycle). rw (le-ltb cycle (length whole) (omega (arith, long, later)), le-ltb cycle n le, not_eq (n + 1) (cycle + 1) (omega (arith, later))) refl)
      (λ (h : cycle ≤ n). let same : n ≡ cycle = omega (arith, le, h) in
      rw (lt-ltb cycle (length whole) (omega (arith, long, same)), le-ltb cycle n le, is_eq (n + 1) (cycle + 1) (omega (arith, same)))
      (ap (λ (xs : List Input). flying_below c xs l) (take_all (cycle + 1) whole (omega (arith, long, same)))))
      (cases_lt n cycle)) (cases_lt cycle n)
    where
      not_eq : (a b : ℕ) → (a ≡ b → ⊥) → eqb a b ≡ false
      not_eq a b h = grind (arith, h)

      is_eq : (a b : ℕ) → a ≡ b → eqb a b ≡ true
      is_eq a b h = grind (arith, h)

  pub lines_more : (w : Watch) (inputs : List Input) (x : Input) → lines_of w c (inputs ++ x ∷ []) ≡ lines_of w c inputs ++ added w c inputs x
  lines_more Answers inputs x =
      ap (answer_lines 0) (given_more c begin inputs x) ∙ answer_lines-append 0 (outcomes_in c inputs) (option_to_list (answer_in c (inputs ++ x ∷ []) (length inputs)))
  lines_more (Vectors cycle) inputs x = vectors_more inputs x cycle

  -- the lines of earlier cycles stand at the front
  pub lines_begin : (w : Watch) (inputs later : List Input) → Begins (lines_of w c inputs) (lines_of w c (inputs ++ later))
  lines_begin w inputs [] = record { more = []; text_is = ap (λ l. lines_of w c l) (append-nil inputs) ∙ sym (append-nil (lines_of w c inputs)) }
  lines_begin w inputs (x ∷ later) =
      let next = lines_begin w (inputs ++ x ∷ []) later in
      let whole = subst (λ l. Begins (lines_of w c (inputs ++ x ∷ [])) (lines_of w c l)) (append_assoc inputs (x ∷ []) later) next in
      begins_then (record { more = added w c inputs x; text_is = lines_more w inputs x }) whole
