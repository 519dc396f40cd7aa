use Rattle.std.proofs.Common.{◌≡◌, ◌++◌, take}
use Rattle.rmt_config.proofs.form.names.key_prints.put_bytes.Given as goal

abbrev pub invariant-loop-byte : goal.invariant-loop-byte
invariant-loop-byte l = l.into.items ≡ l.fn.into.items ++ take l.byte-index l.bytes
