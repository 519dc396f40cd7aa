-- Lines of which some were written and the rest waits.
use Rattle.std.specs.Prelude.{◌≡◌, ℕ, List, ◌++◌}
use Rattle.rmt_io.specs.Outside.{SinkState, Gained}

-- Of these lines some were written and the rest waits, and a sink, which tells its bytes as before, gained the former.
pub record Written (lines waiting : List ℕ) (before now : SinkState) : Type 0 where
  pub gained : List ℕ
  pub lines_are : lines ≡ gained ++ waiting
  pub now_is : Gained before now gained
  pub tells : now.tells ≡ before.tells
