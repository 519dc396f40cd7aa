-- The words so far.
use Rattle.std.proofs.Common.{◌≡◌, ◌++◌}
use Rattle.std.specs.Prelude.{slice_index}
use Rattle.rmt_drive.specs.ProbeText.{words_below}
use Rattle.rmt_drive.proofs.vectors.add_words.Given as goal

abbrev pub invariant-loop-word : goal.invariant-loop-word
invariant-loop-word l = l.text.items ≡ l.initial.text.items ++ words_below (λ w. slice_index l.words w) l.word
