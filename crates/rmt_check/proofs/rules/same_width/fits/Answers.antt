use Rattle.std.proofs.Common.{◌≡◌, ℕ, ◌<◌, ◌≤◌, ◌^◌, nat_lt, nat_le, true, arith}
use Rattle.std.proofs.Math.Pow.{pow_mono}
use Rattle.std.proofs.lemmas.Bool.Decides.{Decides-ltb, nat_tests}
use Rattle.rmt_check.proofs.rules.same_width.fits.Goals as goal

-- a number of 128 bits fits each width from there on
fits_wide : (width n : ℕ) → 128 ≤ width → n < 2 ^ 128 → nat_lt n (2 ^ width) ≡ true
fits_wide width n h lt = let m : 2 ^ 128 ≤ 2 ^ width = pow_mono h in (Decides-ltb n (2 ^ width)).1 (omega arith)

pub returns-then-width-ge128 : goal.returns-then-width-ge128
returns-then-width-ge128 c =
    let fit = fits_wide c.args.width c.args.number c.if-width-ge128.true c.ranges.number.fits in
    let wide : nat_le 128 c.args.width ≡ true = grind (arith, nat_tests) in
    rw fit wide
