-- How the parser of the code ends, against the definition.
use Rattle.std.specs.Prelude.{◌≡◌, ◌≤◌, ℕ, List, length, replicate}
use Rattle.rmt_config.specs.declared.tails.TailAt.{TailAt}
use Rattle.rmt_config.specs.Parser.{Parse, Reached, Short, Reject, Accept, no_tail}
use Rattle.rmt_ptcam.specs.declared.parse.Parsed.{Parsed}
use Rattle.rmt_ptcam.specs.declared.parse.Parsed.TheVariants as parsed
use Rattle.rmt_ptcam.specs.declared.parse.step.Step.{Step}
use Rattle.rmt_ptcam.specs.declared.parse.step.Step.TheVariants as steps

-- a byte of a frame, or its end, where the frame is one that the chip takes
pub record StandsIn (cursor : ℕ) (frame : List ℕ) : Type 0 where
  pub near : cursor ≤ length frame
  pub short : length frame ≤ 9216

-- how far the parser has come
abbrev pub standing : List ℕ → List TailAt → ℕ → Reached
standing vector tails cursor = record { vector = vector; tails = tails; at = cursor }

-- nothing is read
abbrev pub AreClear : List ℕ → List TailAt → Type 0
AreClear vector tails = (vector ≡ replicate 224 0) × (tails ≡ replicate 64 no_tail)

-- an answer, a vector and tails are what the definition gives; without acceptance the vector is all 0, and every tail empty
abbrev pub ParsesTo : Parse → Parsed → List ℕ → List TailAt → Type 0
ParsesTo Short answer vector tails = (answer ≡ parsed.Short) × AreClear vector tails
ParsesTo Reject answer vector tails = (answer ≡ parsed.Reject) × AreClear vector tails
ParsesTo (Accept r) answer vector tails = (answer ≡ parsed.Accept r.at) × (vector ≡ r.vector) × (tails ≡ r.tails)

-- what one step of the definition gives: an end, or the same as from another state on
abbrev pub StepGives : (ℕ → Reached → Parse) → Parse → Step → List ℕ → List TailAt → Type 0
StepGives goes given steps.Short vector tails = given ≡ Short
StepGives goes given steps.Reject vector tails = given ≡ Reject
StepGives goes given (steps.Accept used) vector tails = given ≡ Accept (standing vector tails used)
StepGives goes given (steps.Go state cursor) vector tails = given ≡ goes state (standing vector tails cursor)

-- the parser stays in the frame
abbrev pub StaysWithin : ℕ → Step → Type 0
StaysWithin size steps.Short = Unit {0}
StaysWithin size steps.Reject = Unit {0}
StaysWithin size (steps.Accept used) = used ≤ size
StaysWithin size (steps.Go state cursor) = cursor ≤ size

-- an answer, and where it is acceptance a vector and tails, are what the definition gives
abbrev pub RunGives : Parse → Parsed → List ℕ → List TailAt → Type 0
RunGives given parsed.Short vector tails = given ≡ Short
RunGives given parsed.Reject vector tails = given ≡ Reject
RunGives given (parsed.Accept used) vector tails = given ≡ Accept (standing vector tails used)
