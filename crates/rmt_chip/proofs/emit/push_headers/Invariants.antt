use Rattle.std.proofs.Common.{◌≡◌, ◌≤◌, ◌+◌, ◌*◌, length, map, take}
use Rattle.std.specs.Prelude.{slice_index}
use Rattle.rmt_config.specs.ChipRun.{tail_bytes}
use Rattle.rmt_chip.specs.FrameList.{frame_at}
use Rattle.rmt_chip.specs.Leaving.{headers_sent}
use Rattle.rmt_chip.specs.Tails.{tails_len}
use Rattle.rmt_chip.proofs.emit.push_headers.Given as goal

abbrev pub invariant-loop-n : goal.invariant-loop-n
invariant-loop-n l = record {
  sent : l.out ≡ headers_sent (λ w. slice_index l.vector w) (take l.n l.headers) (take l.n (map (tail_bytes (frame_at l.frames l.at)) l.tails));
  within : length l.out ≤ 64 * l.n + tails_len (take l.n l.tails);
}
