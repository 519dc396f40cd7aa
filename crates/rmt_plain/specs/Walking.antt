-- What a walk in the code stands for.
use Rattle.std.specs.Prelude.{ℕ, List, map, take, drop}
use Rattle.rmt_ast.specs.Walk as walk
use Rattle.rmt_plain.specs.declared.reached.Span.{Span}
use Rattle.rmt_plain.specs.declared.reached.Reached.{Reached}
use Rattle.rmt_plain.specs.declared.walk.TailEnd.{TailEnd}
use Rattle.rmt_plain.specs.declared.walk.TailEnd.TheVariants as passed
use Rattle.rmt_plain.specs.declared.walk.HeaderEnd.{HeaderEnd}
use Rattle.rmt_plain.specs.declared.walk.HeaderEnd.TheVariants as step
use Rattle.rmt_plain.specs.declared.walk.WalkEnd.{WalkEnd}
use Rattle.rmt_plain.specs.declared.walk.WalkEnd.TheVariants as walked

-- the bytes of a span of a frame
abbrev pub bytes_in : List ℕ → Span → List ℕ
bytes_in frame span = take span.len (drop span.from frame)

-- how far a walk of a frame has come
abbrev pub reached_in : List ℕ → Reached → walk.Reached
reached_in frame r = record { state = r.state.items; tails = map (bytes_in frame) r.tails.items; at = r.at }

-- behind a tail, or without one, the walk goes on
abbrev pub goes_past : (walk.Reached → walk.Walk) → TailEnd → walk.Reached → walk.Walk
goes_past goes passed.Short r = walk.Short
goes_past goes passed.Reject r = walk.Reject
goes_past goes passed.Past r = goes r

-- the walk after a header; next walks on at another
abbrev pub goes_on : (ℕ → walk.Reached → walk.Walk) → HeaderEnd → walk.Reached → walk.Walk
goes_on next step.Short r = walk.Short
goes_on next step.Reject r = walk.Reject
goes_on next step.Accept r = walk.Accept r
goes_on next (step.Go n) r = next n r

-- how a walk ended
abbrev pub walk_of : WalkEnd → walk.Reached → walk.Walk
walk_of walked.Short r = walk.Short
walk_of walked.Reject r = walk.Reject
walk_of walked.Accept r = walk.Accept r
