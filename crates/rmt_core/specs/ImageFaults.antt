-- The last line that tells why bytes are no image.
use Rattle.std.specs.Prelude.{ℕ, List, [], ◌++◌, codes}
use Rattle.std.specs.Fmt.{decimal}
use Rattle.rmt_items.specs.declared.fault.ImageFault.{ImageFault}
use Rattle.rmt_items.specs.declared.fault.ImageFault.TheVariants as fault

-- `bad image CODE`, and for a limit `bad image 6 limit L stage K sum S need N`
abbrev pub bad_image_line : ImageFault → List ℕ
bad_image_line fault.NoMemory = []
bad_image_line fault.Magic = codes "bad image 1\n"
bad_image_line fault.Version = codes "bad image 2\n"
bad_image_line fault.Short = codes "bad image 3\n"
bad_image_line fault.Form = codes "bad image 4\n"
bad_image_line fault.Trailing = codes "bad image 5\n"
bad_image_line (fault.Limit hit) =
    codes "bad image 6 limit " ++ (decimal hit.limit ++ (codes " stage " ++ (decimal hit.stage ++ (codes " sum " ++ (decimal hit.sum ++ (codes " need " ++ (decimal hit.need ++ codes "\n")))))))
