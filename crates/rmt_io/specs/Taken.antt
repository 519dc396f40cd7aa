-- A sink that keeps its bytes in memory.
use Rattle.std.specs.Prelude.{ℕ, true, List, refl}
use Rattle.std.specs.Coded.{Coded, code_by, coded×, coded_list, coded_ℕ}
use Rattle.rmt_io.specs.Calls.{raised}
use Rattle.rmt_io.specs.Outside.{SinkState}

-- its bytes, the numbers of the calls that are to fail, the most bytes that one call takes, how many calls were made, and the count of faults
pub record MemoryBytes : Type 0 where
  pub bytes : List ℕ
  pub fails : List ℕ
  pub most : ℕ
  pub calls : ℕ
  pub faults : ℕ

-- a sink is stored as the tuple of its parts
abbrev pub memory_bytes_code : Coded MemoryBytes
memory_bytes_code =
    code_by (List ℕ × (List ℕ × (ℕ × (ℕ × ℕ))))
    (coded× (coded_list coded_ℕ) (coded× (coded_list coded_ℕ) (coded× coded_ℕ (coded× coded_ℕ coded_ℕ))))
    (λ s. (s.bytes, (s.fails, (s.most, (s.calls, s.faults)))))
    (λ p. record { bytes = p.0; fails = p.1.0; most = p.1.1.0; calls = p.1.1.1.0; faults = p.1.1.1.1 })
    (λ _. refl)

-- the sink after one more numbered call
abbrev pub sink_called : MemoryBytes → MemoryBytes
sink_called s = record s { calls = raised s.calls }

-- what contracts see of it
abbrev pub sink_state : MemoryBytes → SinkState
sink_state s = record { tells = true; bytes = s.bytes; faults = s.faults }
