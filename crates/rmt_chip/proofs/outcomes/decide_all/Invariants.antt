use Rattle.std.proofs.Common.{◌≡◌, ◌≤◌, ◌*◌, ℕ, length, vec_len, vec_capacity}
use Rattle.rmt_config.specs.Life.{Look, Words}
use Rattle.rmt_memory.specs.Looked.{AllLooked}
use Rattle.rmt_chip.proofs.DecidingLaws.{DoneUpto}
use Rattle.rmt_chip.proofs.outcomes.decide_all.Given as goal

abbrev pub invariant-loop-i : goal.invariant-loop-i
invariant-loop-i l = record {
  all_nodes : length l.outcomes ≡ 256;
  room : vec_capacity l.initial.running ≤ vec_capacity l.running;
  spare : l.counters.room ≡ l.initial.counters.room;
  few : vec_len l.running ≤ l.i;
  small : l.base ≤ 256 * l.i;
  so_far : (look : Look) (k : ℕ) (words : Words) → AllLooked look k words l.stage l.looked →
      DoneUpto look k words l.stage l.looked l.bytes l.initial.counters.counts l.i l.initial.outcomes l.outcomes l.running.items l.counters.counts l.base;
}
