-- What a sink gained.
use Rattle.std.specs.Prelude.{◌≡◌, ℕ, IsTrue, List, ◌++◌}
use Rattle.rmt_io.specs.Outside.{SinkState}

-- what was gained from old to new is a front of the text, of which this is the rest
pub record GainsFront (old new text : List ℕ) : Type 0 where
  pub gained : List ℕ
  pub rest : List ℕ
  pub text_is : text ≡ gained ++ rest
  pub new_is : new ≡ old ++ gained

-- where a sink tells its bytes, it gained a front of this text
abbrev pub GainedFront : SinkState → SinkState → List ℕ → Type 0
GainedFront before after text = IsTrue before.tells → GainsFront before.bytes after.bytes text
