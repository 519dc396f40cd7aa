-- The answers of a run do not wait for later inputs.
use Rattle.std.proofs.Common.{◌≡◌, ⊎_elim, ℕ, ◌+◌, ◌-◌, ◌<◌, ◌≤◌, cond, ltb, List, [], ◌∷◌, ◌++◌, length, Option, None, sym, refl, ap, ◌∙◌, arith, length-append}
use Rattle.std.specs.Prelude.{filter_map, fold, option_and_then, option_map, slice_get}
use Rattle.std.specs.Option.{option_to_list}
use Rattle.std.specs.List.{range_with_len}
use Rattle.std.proofs.lemmas.Bool.{cases_lt, lt-ltb}
use Rattle.std.proofs.lemmas.List.{take-append-le}
use Rattle.rmt_bits.proofs.ListLaws.{slice_get-front}
use Rattle.rmt_config.specs.declared.config.Config.{Config}
use Rattle.rmt_config.specs.ChipRun.{latency_of, outcome_of}
use Rattle.rmt_config.specs.Life.{Look}
use Rattle.rmt_config.specs.RunCells.{look_in, own_cells}
use Rattle.rmt_config.specs.RunInputs.{Input, after_input, answer_in, cells_at, look_from, outcome_from_cycle, packet_of, start_of}
use Rattle.rmt_refine.specs.EventRuns.{outcomes_in}
use Rattle.rmt_drive.proofs.EmitLaws.{one_answer_more}

module _ (c : Config) (starts : (k : ℕ) → start_of c k ≤ latency_of c.stages) (inputs more : List Input) where
  cells_before : (n : ℕ) → n ≤ length inputs → cells_at c (inputs ++ more) n ≡ cells_at c inputs n
  cells_before n le = ap (fold (after_input c) (own_cells c)) (take-append-le n inputs more le)

  look_before : (cycle : ℕ) → cycle + latency_of c.stages ≤ length inputs → look_from c (inputs ++ more) cycle ≡ look_from c inputs cycle
  look_before cycle le = λ i k.
      look_in c (cells_before cycle (omega (arith, le)) i).version (cells_before (cycle + start_of c k) (let s = starts k in omega (arith, le, s)) i) k

  -- an answer does not wait for later inputs
  pub answer_before : (k : ℕ) → k < length inputs → answer_in c (inputs ++ more) k ≡ answer_in c inputs k
  answer_before k h =
      let l = latency_of c.stages in
      ⊎_elim (λ (early : k < l).
      ap (λ b. cond b None (outcome_from_cycle c (inputs ++ more) (k - l))) (lt-ltb k l early)
      ∙ sym (ap (λ b. cond b None (outcome_from_cycle c inputs (k - l))) (lt-ltb k l early)))
      (λ (late : l ≤ k).
      let m = k - l in
      ap (λ (look : Look). cond (ltb k l) None (option_map (outcome_of look c) (option_and_then packet_of (slice_get (inputs ++ more) m)))) (look_before m (omega (arith, late, h)))
      ∙ ap (λ o. cond (ltb k l) None (option_map (outcome_of (look_from c inputs m) c) (option_and_then packet_of o))) (slice_get-front inputs more m (omega (arith, late, h))))
      (cases_lt k l)

-- one more cycle
pub given_more : (c : Config) → ((k : ℕ) → start_of c k ≤ latency_of c.stages) → (inputs : List Input) (x : Input)
    → outcomes_in c (inputs ++ x ∷ []) ≡ outcomes_in c inputs ++ option_to_list (answer_in c (inputs ++ x ∷ []) (length inputs))
given_more c starts inputs x =
    let f = answer_in c (inputs ++ x ∷ []) in
    ap (λ m. filter_map f (range_with_len 0 m)) (length-append inputs (x ∷ [])) ∙ one_answer_more f (answer_in c inputs) (length inputs) (answer_before c starts inputs (x ∷ []))
