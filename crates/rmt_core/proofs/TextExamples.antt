-- Last lines, lines of commands, and words that are a command.
use Rattle.std.specs.Prelude.{◌≡◌, ◌∷◌, [], true, false, codes, refl, Some, None}
use Rattle.std.specs.Fmt.{digits}
use Rattle.rmt_drive.specs.declared.status.Status.TheVariants.{BadPackets, Done, TooLong}
use Rattle.rmt_core.specs.Commands.{Report, Sample, Verify, command_of, sample_number_of, cycle_of}
use Rattle.rmt_core.specs.CompileText.{minimal_line}
use Rattle.rmt_drive.specs.Files.{Absent, Holds, Long, found}
use Rattle.rmt_core.specs.NoFitText.{hit_text}
use Rattle.rmt_drive.specs.Runs.{run_status}
use Rattle.rmt_core.specs.Texts.{bad_entries_line, bad_program_line}
use Rattle.rmt_core.specs.Verifying.{answer_line}
use Rattle.rmt_core.specs.ImageFaults.{bad_image_line}
use Rattle.rmt_items.specs.declared.fault.ImageFault.TheVariants.{Limit}

pub a_bad_program : bad_program_line 8 1 8 ≡ codes "bad program 8 line 1 column 8\n"
unfolding digits
a_bad_program = refl

pub a_bad_entry : bad_entries_line 6 2 ≡ codes "bad entries 6 line 2\n"
unfolding digits
a_bad_entry = refl

pub a_hit : hit_text (record { limit = 8; stage = 31; sum = 0; need = 648 }) ≡ codes " 31:8:0:648"
unfolding digits
a_hit = refl

pub a_failing_part : answer_line (Some 4) ≡ codes "no 4\n"
unfolding digits
a_failing_part = refl

pub not_minimal : minimal_line false ≡ codes "minimal no\n"
not_minimal = refl

-- words that are a command, and words that are none
pub zeros_before : command_of (codes "sample" ∷ codes "007" ∷ []) ≡ Some (Sample 7)
zeros_before = refl

pub none_at_all : sample_number_of (codes "0") ≡ None
none_at_all = refl

pub one_too_many : sample_number_of (codes "100001") ≡ None
one_too_many = refl

pub a_report : command_of (codes "report" ∷ codes "i" ∷ []) ≡ Some (Report (codes "i"))
a_report = refl

pub a_check : command_of (codes "verify" ∷ codes "p" ∷ codes "e" ∷ codes "i" ∷ codes "m" ∷ []) ≡ Some (Verify (codes "p") (codes "e") (codes "i") (codes "m"))
a_check = refl

pub one_file_too_few : command_of (codes "sim" ∷ codes "i" ∷ []) ≡ None
one_file_too_few = refl

-- files at their limit, and one byte past it
pub at_the_limit : found 2 (Some (1 ∷ 2 ∷ [])) ≡ Holds (1 ∷ 2 ∷ [])
at_the_limit = refl

pub past_the_limit : found 1 (Some (1 ∷ 2 ∷ [])) ≡ Long
past_the_limit = refl

pub no_file : found 1 None ≡ Absent
no_file = refl

-- a bad line within the limit counts before what stands behind it
pub bad_and_long : run_status true (Some (record { code = 1; line = 3 })) ≡ BadPackets
bad_and_long = refl

pub good_and_long : run_status true None ≡ TooLong
good_and_long = refl

pub good_and_short : run_status false None ≡ Done
good_and_short = refl

pub a_limit : bad_image_line (Limit (record { limit = 8; stage = 2; sum = 0; need = 648 })) ≡ codes "bad image 6 limit 8 stage 2 sum 0 need 648\n"
unfolding digits
a_limit = refl

-- words that are a cycle, and words that are none
pub nine_digits : cycle_of (codes "000000011") ≡ Some 11
nine_digits = refl

pub ten_digits : cycle_of (codes "0000000011") ≡ None
ten_digits = refl

pub no_digit : cycle_of [] ≡ None
no_digit = refl

pub a_sign : cycle_of (codes "+1") ≡ None
a_sign = refl
