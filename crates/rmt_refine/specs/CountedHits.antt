-- Which hits of a program's run are counted.
use Rattle.std.specs.Prelude.{ℕ, List, ◌==◌, filter}
use Rattle.std.specs.List.{list_any}
use Rattle.rmt_refine.specs.Types.{Program}
use Rattle.rmt_ast.specs.declared.entry.Entry.{Entry}
use Rattle.rmt_ast.specs.Answers.{counted_numbers}

-- the hits in counted tables, in order
abbrev pub counted_hits : Program → List (List Entry) → List ℕ → List ℕ
counted_hits p lists hits = filter (λ n. list_any (λ m. m == n) (counted_numbers p p.nodes lists)) hits
