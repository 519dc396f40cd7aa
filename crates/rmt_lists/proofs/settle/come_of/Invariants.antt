use Rattle.std.proofs.Common.{◌≡◌, ◌++◌, ◌≤◌, drop, length}
use Rattle.std.specs.Prelude.{vec_capacity}
use Rattle.rmt_lists.specs.Stands.{somes}
use Rattle.rmt_lists.proofs.settle.come_of.Given as goal

-- the entries so far, and then the others, which are in their places
abbrev pub invariant-loop-place : goal.invariant-loop-place
invariant-loop-place l = record {
  others : drop l.place-index l.come ≡ drop l.place-index l.fn.come;
  all : l.entries.items ++ somes (drop l.place-index l.fn.come) ≡ somes l.fn.come;
  room : length (somes l.fn.come) ≤ vec_capacity l.entries;
}
