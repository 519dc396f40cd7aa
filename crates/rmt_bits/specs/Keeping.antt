-- How counters are kept.
use Rattle.std.specs.Prelude.{◌≡◌, ◌+◌, ◌^◌, ◌≤◌, length, vec_len, vec_capacity}
use Rattle.rmt_bits.specs.declared.counts.Counts.TheInside.{Inside}
use Rattle.rmt_bits.specs.Counting.{AreRising, joined, sizes_of, HaveRoom}

-- the counters of the runs rise, and there are runs for as many more as there is room for, with memory to put them among the others
pub record AreKept (c : Inside) : Type 0 where
  pub rising : AreRising (joined c.runs.items)
  pub size_is : c.size ≡ length (joined c.runs.items)
  pub few : c.size + c.room ≤ 2 ^ 62
  pub runs_have_room : HaveRoom (sizes_of c.runs.items) (length c.free.items) c.room
  pub places : vec_len c.runs + vec_len c.free ≤ vec_capacity c.runs
