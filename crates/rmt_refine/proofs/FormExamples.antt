-- The program on two stages and its entries are well formed.
use Rattle.std.proofs.Common.{◌≡◌, ◌^◌, ◌<◌, ℕ, [], ◌∷◌, map, refl, arith}
use Rattle.std.specs.Prelude.{All, bit_and}
use Rattle.std.proofs.lemmas.List.Elements.{All-cons, All-nil}
use Rattle.std.proofs.lemmas.List.Kept.{AllPairs-cons}
use Rattle.rmt_bits.specs.Bits.{number_of}
use Rattle.rmt_refine.specs.Types.{Action, Table}
use Rattle.rmt_ast.specs.declared.entry.Entry.{Entry}
use Rattle.rmt_ast.specs.EntryLists.{AreEntries, AreTableEntries, IsEntry, terms_of}
use Rattle.rmt_ast.specs.WellFormed.{IsAction, IsProgram, IsTable, IsTest, IsWidth}
use Rattle.rmt_ast.proofs.Programs.{keyless}
use Rattle.rmt_bits.proofs.PairLaws.{AllPairs-none}
use Rattle.rmt_ast.proofs.WellFormedLemmas.{AllNumbered-from_items, AreDistinct-from_apart}
use Rattle.rmt_refine.proofs.ListedLaws.{three, two}
use Rattle.rmt_refine.proofs.TwoStages.{back, entries, first_line, go, keep, lists, lowest_last, note, ports, program, restore, second_line, test}
use Rattle.rmt_ast.proofs.ExampleForm.{keyless_table, one_assign, three_tables-is_program}

-- ---- the program

actions : All (IsAction program) program.actions
actions = three (IsAction program) go keep restore
    (one_assign program _ (9 ∷ []) _ (All-cons IsWidth 9 [] (omega arith, omega arith) (All-nil IsWidth)) (omega arith)
    (record { is_field = omega arith; is_not_in_port = λ e. omega (arith, e); expr = refl }))
    (one_assign program _ [] _ (All-nil _) (omega arith) (record { is_field = omega arith; is_not_in_port = λ e. omega (arith, e); expr = (omega arith, refl) }))
    (one_assign program _ [] _ (All-nil _) (omega arith) (record { is_field = omega arith; is_not_in_port = λ e. omega (arith, e); expr = (omega arith, refl) }))

ports_table : IsTable program ports
ports_table = record {
  key = record {
    has_key = omega arith;
    key_fields = All-cons (λ f. f < 6) 4 [] (omega arith) (All-nil (λ f. f < 6));
    key_once = AreDistinct-from_apart (λ f. f) (4 ∷ []) refl;
    key_bits = omega arith;
    has_actions = omega arith;
    has_size = omega arith;
    size = omega arith;
  };
  actions = All-cons (λ a. a < 3) 0 [] (omega arith) (All-nil (λ a. a < 3));
  actions_once = AreDistinct-from_apart (λ a. a) (0 ∷ []) refl;
  few_actions = omega arith;
  default = (omega arith, tt);
}

pub is_program : IsProgram program
is_program =
    three_tables-is_program program.actions note ports back actions (three (IsTable program) note ports back (keyless_table program _ 1 tt) ports_table (keyless_table program _ 2 tt)) (omega arith)
    (AreDistinct-from_apart number_of (map (λ (x : Action). x.name) program.actions) refl) (AreDistinct-from_apart number_of (map (λ (x : Table). x.name) program.tables) refl)

-- ---- its entries

no_entries : (n : ℕ) (t : Table) → AreTableEntries n [] (terms_of program (keyless t.name t.default))
no_entries n t = record { each = All-nil _; rising = AllPairs-none (λ (a b : Entry). a.number < b.number); keys_once = tt; within_size = omega arith }

is_test : (value mask : ℕ) → value < 2 ^ 8 → mask < 2 ^ 8 → bit_and value mask ≡ value → IsTest 8 (test value mask)
is_test value mask lv lm e = record { value_fits = lv; mask_fits = lm; value_is_masked = e }

abbrev IsOwn : Entry → Type 0
IsOwn = IsEntry 1 (terms_of program ports)

abbrev Rises : Entry → Entry → Type 0
Rises a b = a.number < b.number

its_entries : AreTableEntries 1 entries (terms_of program ports)
its_entries = record {
  each = three IsOwn lowest_last first_line second_line
      (record { table = refl; tests = (is_test 0x10 0xf0 (omega arith) (omega arith) refl, tt); rank = tt; action = (omega arith, tt) })
      (record { table = refl; tests = (is_test 0x02 0x0f (omega arith) (omega arith) refl, tt); rank = tt; action = (omega arith, tt) })
      (record { table = refl; tests = (is_test 0x32 0xff (omega arith) (omega arith) refl, tt); rank = tt; action = (omega arith, tt) });
  rising =
      AllPairs-cons Rises lowest_last (first_line ∷ second_line ∷ []) (two (Rises lowest_last) first_line second_line (omega arith) (omega arith))
      (AllPairs-cons Rises first_line (second_line ∷ []) (All-cons (Rises first_line) second_line [] (omega arith) (All-nil (Rises first_line)))
      (AllPairs-cons Rises second_line [] (All-nil (Rises second_line)) (AllPairs-none Rises)));
  keys_once = tt;
  within_size = omega arith;
}

pub are_entries : AreEntries program lists
are_entries = record {
  for_each_node = refl;
  each = AllNumbered-from_items _ lists (no_entries 0 note, (its_entries, (no_entries 2 back, tt)));
  numbers_once = AreDistinct-from_apart (λ n. n) (0 ∷ 1 ∷ 2 ∷ []) refl;
}
