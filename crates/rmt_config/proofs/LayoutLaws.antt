-- How what a formed configuration has in memory is laid out, and bytes that hold a number.
use Rattle.std.proofs.Common.{◌≡◌, ℕ, ◌+◌, ◌*◌, ◌^◌, ◌<◌, ◌≤◌, sym, refl, subst, arith}
use Rattle.std.proofs.Math.Pow.{pow_mono}
use Rattle.rmt_bits.specs.Bits.{bytes_of, number_of}
use Rattle.rmt_bits.proofs.ByteLaws.{number_of-bytes_of}
use Rattle.rmt_config.specs.declared.form.layout.CellLayout.{CellLayout}
use Rattle.rmt_config.specs.Form.{Formed}
use Rattle.rmt_config.specs.Layouts.{IsInSram, exact_keys, exact_records, ternary_records}
use Rattle.rmt_config.specs.MemoryRules.{MemoryIsFormed}
use Rattle.rmt_config.specs.BlockCounts.{divided_up}
use Rattle.rmt_config.proofs.CellLayouts.{exact_keys-is, exact_records-is, ternary_records-is, up-enough}
use Rattle.rmt_config.specs.declared.config.Config.{Config}

-- the fewest whole bytes hold a number of that many bits
pub bytes_hold : (bits y : ℕ) → y < 2 ^ bits → number_of (bytes_of (divided_up bits 8) y) ≡ y
bytes_hold bits y lt =
    let enough = up-enough bits 8 (omega arith) in
    let more : 2 ^ bits ≤ 2 ^ (8 * divided_up bits 8) = pow_mono (omega (arith, enough)) in
    number_of-bytes_of (divided_up bits 8) y (omega (arith, lt, more))

-- ---- layouts

pub keys_in : (k p d bits : ℕ) → 0 < k → k < 256 → 0 < p → p < 65536 → 0 < d → d ≤ 106 → bits ≤ 640 → p * (bits + 8) ≤ 112 * k → IsInSram (exact_keys k p d bits)
keys_in k p d bits lk hk lp hp ld hd hb fit = record { is = exact_keys-is k p d bits lk hk lp hp ld hd hb fit; in_sram = refl; in_blocks = refl }

pub records_in : (p d n : ℕ) → 0 < p → p < 65536 → 0 < d → d ≤ 106 → 0 < n → n < 65536 → IsInSram (exact_records p d n)
records_in p d n lp hp ld hd ln hn = record { is = exact_records-is p d n lp hp ld hd ln hn; in_sram = refl; in_blocks = refl }

pub rows_in : (d n : ℕ) → 0 < d → d ≤ 106 → 0 < n → n < 65544 → IsInSram (ternary_records d n)
rows_in d n ld hd ln hn = record { is = ternary_records-is d n ld hd ln hn; in_sram = refl; in_blocks = refl }

-- what holds of a layout holds of an equal one
pub at_layout : (P : CellLayout → Type 0) (l l' : CellLayout) → l ≡ l' → P l' → P l
at_layout P l l' e h = subst P (sym e) h

-- ---- forms

pub memory_formed : (c : Config) → Formed c → MemoryIsFormed c
memory_formed c formed = record { rows = formed.whole.rows; tables = formed.whole.tables; memory = formed.whole.memory }
