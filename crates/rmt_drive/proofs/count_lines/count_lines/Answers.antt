use Rattle.std.proofs.Common.{◌≡◌, ◌+◌, ◌-◌, ◌<◌, ◌≤◌, ◌++◌, ℕ, List, [], length, drop, inl, inr, refl, sym, ap, ◌∙◌, append_assoc, length-append, length-drop, arith}
use Rattle.std.specs.List.{flat_map}
use Rattle.std.proofs.lemmas.Bool.{cases_lt}
use Rattle.std.proofs.lemmas.List.{drop-drop, drop_at, nil_from_length}
use Rattle.std.proofs.lemmas.List.Concat.{flat_map-append}
use Rattle.rmt_bits.specs.declared.answer.Count.{Count}
use Rattle.rmt_drive.specs.SimText.{count_line}
use Rattle.rmt_drive.proofs.count_lines.count_lines.Goals as goal

-- a stretch and what is behind it are as long as what was left
stretch_length : (xs run rest : List Count) (at : ℕ) → drop at xs ≡ run ++ rest → length xs - at ≡ length run + length rest
stretch_length xs run rest at is = sym (length-drop at xs) ∙ ap (λ (ys : List Count). length ys) is ∙ length-append run rest

some_there : (xs run : List Count) (at : ℕ) → (run ≡ [] → length xs ≤ at) → at < length xs → 0 < length run
some_there xs run at next lt = elim (cases_lt 0 (length run)) [
  | inl some ↦ some
  | inr none ↦ absurd (let past : length xs ≤ at = next (nil_from_length run (omega (arith, none))) in omega (arith, past, lt))
]

pub overflow_add-at : goal.overflow_add-at
overflow_add-at c =
    let xs = c.args.counters.now.counts in
    let st = c.run_at-counts.ensures.stretch in
    let size = stretch_length xs c.run_at-counts.result.now st.0 c.loop-at.at st.1 in
    omega (arith, size, c.len.ensures, c.len.type_inv, c.loop-at-test.true)

pub loop-at-smaller : goal.loop-at-smaller
loop-at-smaller c =
    let xs = c.args.counters.now.counts in
    let lt : c.loop-at.at < length xs = omega (arith, c.len.ensures, c.loop-at-test.true) in
    let some = some_there xs c.run_at-counts.result.now c.loop-at.at c.run_at-counts.ensures.next lt in
    omega (arith, some, lt)

pub loop-at-preserved : goal.loop-at-preserved
loop-at-preserved c =
    let xs = c.args.counters.now.counts in
    let at = c.loop-at.at in
    let run = c.run_at-counts.result.now in
    let st = c.run_at-counts.ensures.stretch in
    let rest = st.0 in
    let text = c.loop-at.text.items in
    let lines : List Count → List ℕ = flat_map count_line in
    let left : drop (at + length run) xs ≡ rest = sym (drop-drop (length run) at xs) ∙ ap (λ (ys : List Count). drop (length run) ys) st.1 ∙ drop_at run rest (length run) refl in
    let size = stretch_length xs run rest at st.1 in
    let lt : at < length xs = omega (arith, c.len.ensures, c.loop-at-test.true) in
    record {
      inside = omega (arith, size, lt);
      lines =
          ap (λ (bs : List ℕ). bs ++ lines (drop (at + length run) xs)) c.in_ok-push_lines.ensures
          ∙ ap (λ (ys : List Count). (text ++ lines run) ++ lines ys) left
          ∙ append_assoc text (lines run) (lines rest)
          ∙ ap (λ (bs : List ℕ). text ++ bs) (sym (flat_map-append count_line run rest) ∙ ap lines (sym st.1))
          ∙ c.loop-at.invariant.lines;
    }
