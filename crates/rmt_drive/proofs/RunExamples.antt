-- Lines of runs.
use Rattle.std.specs.Prelude.{◌≡◌, ◌==◌, ℕ, codes, refl, if◌then◌else◌}
use Rattle.std.specs.Fmt.{digits}
use Rattle.rmt_drive.specs.ProbeText.{vector_line, word_text, words_below}
use Rattle.rmt_drive.specs.SimText.{bad_packets_line, count_line, cycles_line, flight_line}
use Rattle.rmt_drive.specs.SampleText.{counts_line}

pub a_short_word : word_text 0 10 ≡ codes " 0:0a"
unfolding digits
a_short_word = refl

pub a_long_word : word_text 223 305419896 ≡ codes " 223:12345678"
unfolding digits
a_long_word = refl

pub a_vector : vector_line 3 11 (λ (w : ℕ). if w == 1 then 1 else if w == 65 then 255 else 0) ≡ codes "3 11 1:01 65:00ff\n"
unfolding digits words_below
a_vector = refl

pub a_counter : count_line (record { entry = 4; packets = 2; bytes = 128 }) ≡ codes "count 4 2 128\n"
unfolding digits
a_counter = refl

pub a_clock : cycles_line 20 ≡ codes "cycles 20\n"
unfolding digits
a_clock = refl

pub a_flight : flight_line 13 ≡ codes "flight 13\n"
unfolding digits
a_flight = refl

pub a_bad_line : bad_packets_line 3 7 ≡ codes "bad packets 3 line 7\n"
unfolding digits
a_bad_line = refl

pub a_sample : counts_line 1000 2000 1000 1000 24000 1 2012 ≡ codes "sample 1000 packets 2000 out 1000 drop 1000 sent 24000 stages 1 cycles 2012\n"
unfolding digits
a_sample = refl
