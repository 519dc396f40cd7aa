-- How many bytes of a frame the tails of headers take.
use Rattle.std.specs.Prelude.{ℕ, List, sum_by}
use Rattle.rmt_config.specs.declared.tails.TailAt.{TailAt}
use Rattle.rmt_ptcam.specs.declared.parse.Parsed.{Parsed}
use Rattle.rmt_ptcam.specs.declared.parse.Parsed.TheVariants as parsed

abbrev pub tails_len : List TailAt → ℕ
tails_len tails = sum_by (λ (t : TailAt). t.len) tails

-- how many bytes the parser took of a frame that it accepted
abbrev pub used_by : Parsed → ℕ
used_by parsed.Short = 0
used_by parsed.Reject = 0
used_by (parsed.Accept used) = used
