use Rattle.std.proofs.Common.{ℕ, ◌<◌, List}
use Rattle.std.specs.Prelude.{All}
use Rattle.std.proofs.lemmas.List.Elements.{All-map, All-weaker}
use Rattle.rmt_bits.proofs.AllLaws.{All-flat_map}
use Rattle.rmt_ast.specs.Answers.{entry_numbers}
use Rattle.rmt_ast.specs.declared.entry.Entry.{Entry}
use Rattle.rmt_map_tests.proofs.building.told.Goals as goal

-- numbers that are low table by table are low
low : (lists : List (List Entry)) → All (λ es. All (λ (e : Entry). e.number < 4293918720) es) lists → All (λ es. All (λ n. n < 4293918720) (entry_numbers es)) lists
low lists each =
    All-weaker (λ es. All (λ (e : Entry). e.number < 4293918720) es) (λ es. All (λ n. n < 4293918720) (entry_numbers es))
    (λ es all. All-map (λ n. n < 4293918720) (λ (e : Entry). e.number) es all) lists each

pub build-requires-clause-named : goal.build-requires-clause-named
build-requires-clause-named c = record {
  tables = c.in-Ok.ensures.named.tables;
  actions = c.in-Ok.ensures.named.actions;
  numbers = All-flat_map (λ n. n < 4293918720) entry_numbers _ (low _ (c.all_have_low_numbers.ensures c.if-not-all_have_low_numbers.false));
}
