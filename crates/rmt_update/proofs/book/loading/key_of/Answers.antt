use Rattle.std.proofs.Common.{◌≡◌, ◌≤◌, ℕ, List, false, All, sum, sym, subst}
use Rattle.std.specs.Prelude.{IfOk}
use Rattle.rmt_bits.specs.Bits.{bytes_of}
use Rattle.rmt_ast.specs.declared.program.Test.{Test}
use Rattle.rmt_config.specs.BlockCounts.{divided_up}
use Rattle.rmt_config.specs.Rooms.{mask_or_value, tests_as_one}
use Rattle.rmt_book.proofs.NamedLaws.{keys-low}
use Rattle.rmt_update.proofs.book.loading.key_of.Goals as goal

pub tests_bytes-requires-clause-narrow : goal.tests_bytes-requires-clause-narrow
tests_bytes-requires-clause-narrow c = subst (All (λ w. w ≤ 128)) (sym c.as_slice.ensures) (keys-low c.args.name.now c.requires.formed)

pub returns : goal.returns
returns c =
    let key_is = λ (ws : List ℕ) (ts : List Test). IfOk c.tests_bytes.result (λ key. key.items ≡ bytes_of (divided_up (sum ws) 8) (tests_as_one (mask_or_value false) ws ts)) in
    subst (λ (ws : List ℕ). key_is ws c.args.entry.now.tests) c.as_slice.ensures (subst (key_is c.as_slice.result.now) c.as_slice-2.ensures c.tests_bytes.ensures.bytes)
