use Rattle.std.proofs.Common.{◌≡◌, ℕ, List, true, take}
use Rattle.rmt_ast.specs.NameList.{is_known, seen}
use Rattle.rmt_ast.specs.NameRules.{differ}
use Rattle.rmt_config.proofs.form.names.differ.differ.Given as goal

-- the names so far differ, and are those of the set
abbrev pub invariant-loop-name : goal.invariant-loop-name
invariant-loop-name l = record {
  apart : differ (seen (take l.name-index l.names)) ≡ true;
  same : (q : List ℕ) → is_known (seen l.known.keys) q ≡ is_known (seen (take l.name-index l.names)) q;
}
