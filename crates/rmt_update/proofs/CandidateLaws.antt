-- Keys as numbers of so many bits, and the cells in which they may stand.
use Rattle.std.proofs.Common.{◌≡◌, ℕ, ◌+◌, ◌*◌, ◌/◌, ◌%◌, ◌^◌, ◌<◌, false, List, [], ◌∷◌, sum, refl, sym, ap, ◌∙◌, arith}
use Rattle.std.specs.List.{AllZip}
use Rattle.std.proofs.Math.Nat.{mod-eq_of_lt}
use Rattle.std.proofs.lemmas.List.Sums.{sum_by-cons}
use Rattle.std.proofs.lemmas.Nat.{mod-pow-add, pow-add}
use Rattle.rmt_bits.proofs.BitLaws.{slice-lt}
use Rattle.rmt_ast.specs.declared.program.Test.{Test}
use Rattle.rmt_ast.specs.WellFormed.{IsTest}
use Rattle.rmt_config.specs.declared.config.Memory.{Memory}
use Rattle.rmt_config.specs.declared.config.Memory.TheVariants.{Without, Exact, Ternary}
use Rattle.rmt_config.specs.declared.config.SlotUnit.{SlotUnit}
use Rattle.rmt_config.specs.declared.config.Stage.{Stage}
use Rattle.rmt_config.specs.Cells.{candidates, cell_of, content_of, entry_at, sram_row}
use Rattle.rmt_config.specs.LaneForm.{bits_of_lanes}
use Rattle.rmt_config.specs.NamesForm.{tests_of_key}
use Rattle.rmt_config.specs.Rooms.{tests_as_one}
use Rattle.rmt_update.proofs.SpelledLaws.{tests-lt}

-- ---- keys as numbers

-- the tests that a key tells have its lowest bits
pub key-told : (ws : List ℕ) (key mask : ℕ) → tests_as_one (λ (t : Test). t.value) ws (tests_of_key ws key mask) ≡ key % 2 ^ sum ws
key-told [] key mask = let none : 0 ≡ key % 1 = omega arith in none
key-told (w ∷ ws) key mask =
    ap (λ n. key / 2 ^ sum ws % 2 ^ w * 2 ^ sum ws + n) (key-told ws key mask) ∙ sym (mod-pow-add key w (sum ws))
    ∙ ap (λ n. key % 2 ^ n) (sym (sum_by-cons (λ x. x) w ws))

-- and the key of tests has no more
pub key-low : (ws : List ℕ) (ts : List Test) → AllZip IsTest ws ts → tests_as_one (λ (t : Test). t.value) ws ts % 2 ^ sum ws ≡ tests_as_one (λ (t : Test). t.value) ws ts
key-low ws ts all = mod-eq_of_lt (tests-lt false ws ts all)

-- ---- candidates

-- in an exact memory a key has so many bits
abbrev pub IsKey : ℕ → Memory → ℕ → Type 0
IsKey bits Without key = Unit {0}
IsKey bits (Exact k per d w ks rs cs) key = key < 2 ^ bits
IsKey bits (Ternary d ks rs cs) key = Unit {0}

-- then its lowest bits are all that it has
pub same-candidates : (seed bits : ℕ) (m : Memory) (key : ℕ) → IsKey bits m key → candidates seed bits m (key % 2 ^ bits) ≡ candidates seed bits m key
same-candidates seed bits Without key is = refl
same-candidates seed bits (Exact k per d w ks rs cs) key is = ap (candidates seed bits (Exact k per d w ks rs cs)) (mod-eq_of_lt is)
same-candidates seed bits (Ternary d ks rs cs) key is = refl

-- the key that a memory holds
pub own-key : (stage : Stage) (s : SlotUnit) (m : Memory) (n : ℕ) → IsKey (bits_of_lanes s.keys) m (content_of stage (record s { memory = m }) n).key
own-key stage s Without n = tt
own-key stage s (Exact k per d w ks rs cs) n =
    let bits = bits_of_lanes s.keys in
    let c = cell_of (1024 * d) per n in
    let entry = entry_at (sram_row stage.srows) ks k bits c in
    let low : entry < 2 ^ (bits + 8) = slice-lt _ (c.position * (bits + 8)) (bits + 8) in
    let size : 2 ^ (bits + 8) ≡ 2 ^ bits * 256 = pow-add 2 bits 8 in
    let l : entry / 256 < 2 ^ bits = omega (arith, low, size) in
    l
own-key stage s (Ternary d ks rs cs) n = tt
