-- What the units of a stage have done with a packet.
use Rattle.std.specs.Prelude.{◌≡◌, ℕ, ◌++◌, if◌then◌else◌, List, [], option_map, unwrap_or, slice_get, map, reverse}
use Rattle.rmt_bits.specs.Bits.{number_of}
use Rattle.rmt_bits.specs.Counts.{Hit, counts}
use Rattle.rmt_bits.specs.declared.answer.Count.{Count}
use Rattle.rmt_chip.specs.Types.{Stage, Vliw}
use Rattle.rmt_config.specs.Life.{Running, Acts}
use Rattle.rmt_memory.specs.declared.looked.Looked.{Looked}
use Rattle.rmt_chip.specs.declared.ran.Ran.{Ran}
use Rattle.rmt_chip.specs.Counting.{hits_made}

-- the data that a unit of a stage found, by its number there
abbrev pub held_of : List Looked → ℕ → ℕ
held_of looked unit = unwrap_or (option_map (λ (l : Looked). number_of l.held.items) (slice_get looked unit)) 0

-- an instruction that runs, with what it reads of the entry that was found
abbrev pub running_of : List Vliw → List Looked → Ran → Running
running_of code looked r = record {
  ops = unwrap_or (option_map (λ (v : Vliw). v.ops) (slice_get code r.code)) [];
  held = if r.found then held_of looked r.unit else 0;
}

-- all that run, the last one first
abbrev pub all_running : List Vliw → List Looked → List Ran → List Running
all_running code looked rans = reverse (map (running_of code looked) rans)

-- counters that were those of some hits are now those of these hits too
abbrev pub CountsAlso : List Count → List Count → List Hit → Type 0
CountsAlso old new more = (numbers : List ℕ) (hits : List Hit) → old ≡ counts numbers hits → new ≡ counts numbers (hits ++ more)

-- what units of a stage have done for a packet of so many bytes, from these counters on
pub record HaveDone (stage : Stage) (looked : List Looked) (bytes : ℕ) (first : List Count) (acts : Acts) (outcomes : List ℕ) (running : List Ran) (counters : List Count) : Type 0 where
  pub outcomes_are : outcomes ≡ acts.outcomes
  pub running_are : all_running stage.code looked running ≡ acts.running
  pub counted : CountsAlso first counters (hits_made bytes acts.counted)
