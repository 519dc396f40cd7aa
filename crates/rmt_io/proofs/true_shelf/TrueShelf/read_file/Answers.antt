use Rattle.std.proofs.Common.{Result, Ok, Err, IsOkAnd, ap}
use Rattle.rmt_io.proofs.true_shelf.TrueShelf.read_file.Goals as goal

-- what is so of an opened file is so of some file
some_file : {F E : Type 0} (P : F → Type 0) (opened : Result F E) → IsOkAnd opened P → (file : F) × P file
some_file P (Ok file) so = (file, so)
some_file P (Err error) so = absurd so

pub returns-in-Err-TooLong-clause-too_long : goal.returns-in-Err-TooLong-clause-too_long
returns-in-Err-TooLong-clause-too_long g c =
    λ _. some_file _ c.open.result (c.in-Err-TooLong.ensures.too_long (ap Err c.in-Err-TooLong.field-0-is))
