-- Room for what the stages read for a packet.
use Rattle.std.specs.Prelude.{◌≡◌, ℕ, ◌*◌, ◌≤◌, List, [], length, Some, option_map, unwrap_or, slice_get, vec_len, vec_capacity}
use Rattle.rmt_chip.specs.Types.{Stage}
use Rattle.rmt_chip.specs.declared.pending.Pending.{Pending}
use Rattle.rmt_memory.specs.declared.looked.Looked.{Looked}
use Rattle.rmt_chip.specs.declared.ran.Ran.{Ran}
use Rattle.rmt_chip.specs.declared.write.Write.{Write}
use Rattle.rmt_memory.specs.Looked.{HaveRoom}
use Rattle.rmt_chip.specs.Writes.{most_ops}

-- room for what each unit of a stage finds, for an instruction of each, and for the words that these write
pub record HasRoomFor (stage : Stage) (pending : Pending) : Type 0 where
  pub looked : HaveRoom stage pending.looked.items
  pub few : vec_len pending.running ≤ length stage.units
  pub running : length stage.units ≤ vec_capacity pending.running
  pub due : length stage.units * most_ops stage.code ≤ vec_capacity pending.due

-- room for each stage
pub record HaveRoomFor (stages : List Stage) (pending : List Pending) : Type 0 where
  pub all_stages : length pending ≡ length stages
  pub each : (k : ℕ) (stage : Stage) (p : Pending) → slice_get stages k ≡ Some stage → slice_get pending k ≡ Some p → HasRoomFor stage p

-- what a stage has read at its start, what runs in it, and what it is to write
abbrev pub looked_at : List Pending → ℕ → List Looked
looked_at pending k = unwrap_or (option_map (λ (p : Pending). p.looked.items) (slice_get pending k)) []

abbrev pub running_at : List Pending → ℕ → List Ran
running_at pending k = unwrap_or (option_map (λ (p : Pending). p.running.items) (slice_get pending k)) []

abbrev pub due_at : List Pending → ℕ → List Write
due_at pending k = unwrap_or (option_map (λ (p : Pending). p.due.items) (slice_get pending k)) []
