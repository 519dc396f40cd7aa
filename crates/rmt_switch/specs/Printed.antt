-- The line that `switch` prints.
use Rattle.std.specs.Prelude.{ℕ, List, ◌++◌, codes}
use Rattle.std.specs.Fmt.{decimal}
use Rattle.rmt_switch.specs.declared.switched.SwitchCounts.{SwitchCounts}

-- `switch packets P skipped K out O`
abbrev pub sent_part : SwitchCounts → List ℕ
sent_part c = codes "switch packets " ++ (decimal c.packets ++ (codes " skipped " ++ (decimal c.skipped ++ (codes " out " ++ decimal c.out))))

-- ` drop D queue Q cells C`, and the end of the line
abbrev pub lost_part : SwitchCounts → List ℕ
lost_part c = codes " drop " ++ (decimal c.dropped ++ (codes " queue " ++ (decimal c.queue ++ (codes " cells " ++ (decimal c.cells ++ codes "\n")))))

-- the line
abbrev pub switch_line : SwitchCounts → List ℕ
switch_line c = sent_part c ++ lost_part c
