use Rattle.rmt_image.proofs.size.Bytes.{bytes_few}
use Rattle.rmt_image.proofs.laws.image_is_short.Goals as goal

pub returns : goal.returns
returns c = bytes_few
