-- A program and its entries that are well formed.
use Rattle.std.proofs.Common.{◌≢◌, ◌≤◌, ℕ, zero, suc, ◌<◌, List, [], ◌∷◌, length, refl, arith}
use Rattle.std.specs.Prelude.{map, false, codes, All}
use Rattle.std.proofs.lemmas.List.Elements.{All-from_recursion, All-nil}
use Rattle.std.proofs.lemmas.List.Kept.{AllPairs-cons}
use Rattle.rmt_bits.specs.Bits.{number_of}
use Rattle.rmt_ast.specs.Types.{Field, Header, Tail, Action, Assign, Table, Program}
use Rattle.rmt_ast.specs.declared.program.Kind.TheVariants.{Exact}
use Rattle.rmt_ast.specs.declared.entry.Entry.{Entry}
use Rattle.rmt_ast.specs.WellFormed.{IsProgram, IsTail, HasFields, IsWidth, IsHeader, IsAction, IsAssign, IsTable, IsNode, HasNames, HasHeaderNames, AreAppliedOnce, AreDistinct, AllNumbered, BeginsWith, Takes, name_of}
use Rattle.rmt_ast.specs.EntryLists.{AreEntries, AreTableEntries, IsEntry, terms_of}
use Rattle.rmt_ast.proofs.Programs.{with_tail, three_tables, strict_and_weak, one_entry, action, keyless, field}
use Rattle.rmt_bits.proofs.PairLaws.{AllPairs-none}
use Rattle.rmt_ast.proofs.WellFormedLemmas.{AllNumbered-from_items, AreDistinct-from_apart}

-- ---- what programs of three tables have in common

module _ (acts : List Action) (a b c : Table) where
  three_fields : HasFields (three_tables acts a b c)
  three_fields = record {
    in_port = refl;
    out_port = refl;
    drop = refl;
    in_order = refl;
    all_there = omega arith;
    few_metadata = omega arith;
    widths =
        All-from_recursion (λ (f : Field). IsWidth f.width) (three_tables acts a b c).fields
        ((omega arith, omega arith), ((omega arith, omega arith), ((omega arith, omega arith), ((omega arith, omega arith), ((omega arith, omega arith), ((omega arith, omega arith), tt))))));
  }

  three_headers : AllNumbered (IsHeader (three_tables acts a b c)) (three_tables acts a b c).headers
  three_headers = AllNumbered-from_items (IsHeader (three_tables acts a b c)) (three_tables acts a b c).headers (
    record {
      valid = refl;
      whole_bytes = refl;
      is_not_empty = omega arith;
      is_not_long = omega arith;
      tail = tt;
      selects_own = All-nil _;
      selects_once = AreDistinct-from_apart (λ f. f) [] refl;
      plain = λ e. refl;
      cases = All-nil _;
      other = tt;
    },
    tt,
  )

  three_nodes : AllNumbered (IsNode (three_tables acts a b c)) (three_tables acts a b c).nodes
  three_nodes = AllNumbered-from_items (IsNode (three_tables acts a b c)) (three_tables acts a b c).nodes
      (record { guard = tt; what = omega arith }, (record { guard = tt; what = omega arith }, (record { guard = tt; what = omega arith }, tt)))

  three_applied : AreAppliedOnce (three_tables acts a b c)
  three_applied zero h = refl
  three_applied (suc zero) h = refl
  three_applied (suc (suc zero)) h = refl
  three_applied (suc (suc (suc t))) h = absurd (omega (arith, h))

  three_names : AreDistinct (map (λ (x : Action). x.name) acts) → AreDistinct (map (λ (x : Table). x.name) (a ∷ b ∷ c ∷ [])) → HasNames (three_tables acts a b c)
  three_names actions_once tables_once = record {
    of_in_port = refl;
    of_out_port = refl;
    of_drop = refl;
    of_headers = All-from_recursion (HasHeaderNames (three_tables acts a b c)) (three_tables acts a b c).headers
        (record { valid = refl; fields = All-from_recursion (λ f. BeginsWith (codes "h.") (name_of (three_tables acts a b c) f)) (4 ∷ []) (refl, tt) }, tt);
    of_metadata = All-from_recursion (λ (f : Field). BeginsWith (codes "meta.") f.name) (field (codes "meta.x") 8 ∷ []) (refl, tt);
    fields_once = AreDistinct-from_apart number_of (map (λ (x : Field). x.name) (three_tables acts a b c).fields) refl;
    headers_once = AreDistinct-from_apart number_of (map (λ (x : Header). x.name) (three_tables acts a b c).headers) refl;
    actions_once = actions_once;
    tables_once = tables_once;
  }

  -- such a program is well formed where its actions and tables are, and their names distinct
  pub three_tables-is_program : All (IsAction (three_tables acts a b c)) acts → All (IsTable (three_tables acts a b c)) (a ∷ b ∷ c ∷ []) → length acts ≤ 256
      → AreDistinct (map (λ (x : Action). x.name) acts) → AreDistinct (map (λ (x : Table). x.name) (a ∷ b ∷ c ∷ [])) → IsProgram (three_tables acts a b c)
  three_tables-is_program actions tables few actions_once tables_once = record {
    fields = three_fields;
    headers = three_headers;
    actions = actions;
    tables = tables;
    nodes = three_nodes;
    applied = three_applied;
    counts = record { a_header = omega arith; headers = omega arith; actions = few; nodes = omega arith };
    names = three_names actions_once tables_once;
  }

-- ---- the example

one_width : All IsWidth (9 ∷ [])
one_width = All-from_recursion IsWidth (9 ∷ []) ((omega arith, omega arith), tt)

-- an action that makes one assignment
pub one_assign : (p : Program) (name params : List ℕ) (a : Assign) → All IsWidth params → length params ≤ 16 → IsAssign p params a → IsAction p (action name params (a ∷ []))
one_assign p name params a widths few h = record {
  params = widths;
  few_params = few;
  assigns = All-from_recursion (IsAssign p params) (a ∷ []) (h, tt);
  few_assigns = omega arith;
}

-- a table without a key, whose default has no argument
pub keyless_table : (p : Program) (name : List ℕ) (default : ℕ) → Takes p default [] → IsTable p (keyless name default)
keyless_table p name default h = record {
  key = record { key = refl; actions = refl; size = refl; counted = refl };
  actions = All-nil _;
  actions_once = AreDistinct-from_apart (λ a. a) [] refl;
  few_actions = omega arith;
  default = h;
}

actions : All (IsAction strict_and_weak) strict_and_weak.actions
actions = All-from_recursion (IsAction strict_and_weak) strict_and_weak.actions (
  one_assign strict_and_weak _ [] _ (All-nil _) (omega arith) (record { is_field = omega arith; is_not_in_port = λ e. omega (arith, e); expr = (omega arith, refl) }),
  (
    one_assign strict_and_weak _ [] _ (All-nil _) (omega arith) (record { is_field = omega arith; is_not_in_port = λ e. omega (arith, e); expr = omega arith }),
    (
      one_assign strict_and_weak _ (9 ∷ []) _ one_width (omega arith) (record { is_field = omega arith; is_not_in_port = λ e. omega (arith, e); expr = refl }),
      (record { params = All-nil _; few_params = omega arith; assigns = All-nil _; few_assigns = omega arith }, tt),
    ),
  ),
)

tables : All (IsTable strict_and_weak) strict_and_weak.tables
tables = All-from_recursion (IsTable strict_and_weak) strict_and_weak.tables (
  keyless_table strict_and_weak _ 0 tt,
  (
    record {
      key = record {
        has_key = omega arith;
        key_fields = All-from_recursion (λ f. f < 6) (5 ∷ []) (omega arith, tt);
        key_once = AreDistinct-from_apart (λ f. f) (5 ∷ []) refl;
        key_bits = omega arith;
        has_actions = omega arith;
        has_size = omega arith;
        size = omega arith;
      };
      actions = All-from_recursion (λ a. a < 4) (2 ∷ []) (omega arith, tt);
      actions_once = AreDistinct-from_apart (λ a. a) (2 ∷ []) refl;
      few_actions = omega arith;
      default = tt;
    },
    (keyless_table strict_and_weak _ 1 tt, tt),
  ),
)

pub strict_and_weak-is_program : IsProgram strict_and_weak
strict_and_weak-is_program =
    three_tables-is_program strict_and_weak.actions _ _ _ actions tables (omega arith)
    (AreDistinct-from_apart number_of (map (λ (x : Action). x.name) strict_and_weak.actions) refl) (AreDistinct-from_apart number_of (map (λ (x : Table). x.name) strict_and_weak.tables) refl)

-- a table without a key has no entry
no_entries : (n : ℕ) (name : List ℕ) (default : ℕ) → AreTableEntries n [] (terms_of strict_and_weak (keyless name default))
no_entries n name default = record { each = All-nil _; rising = AllPairs-none (λ (a b : Entry). a.number < b.number); keys_once = tt; within_size = omega arith }

abbrev exact_entry : Entry
exact_entry = record { table = 1; number = 0; tests = record { value = 7; mask = 255 } ∷ []; rank = 0; action = 0; args = 5 ∷ [] }

abbrev exact_table : Table
exact_table = record { name = codes "b"; kind = Exact; key = 5 ∷ []; actions = 2 ∷ []; default = 3; args = []; size = 16; counted = false }

exact_entries : AreTableEntries 1 (exact_entry ∷ []) (terms_of strict_and_weak exact_table)
exact_entries = record {
  each =
      All-from_recursion (IsEntry 1 (terms_of strict_and_weak exact_table)) (exact_entry ∷ []) (
        record {
          table = refl;
          tests = (record { value_fits = omega arith; mask_fits = omega arith; value_is_masked = refl }, tt);
          rank = ((refl, tt), refl);
          action = (omega arith, tt);
        },
        tt,
      );
  rising = AllPairs-cons (λ (a b : Entry). a.number < b.number) exact_entry [] (All-nil _) (AllPairs-none (λ (a b : Entry). a.number < b.number));
  keys_once = AllPairs-cons (λ (a b : Entry). a.tests ≢ b.tests) exact_entry [] (All-nil _) (AllPairs-none (λ (a b : Entry). a.tests ≢ b.tests));
  within_size = omega arith;
}

pub one_entry-are_entries : AreEntries strict_and_weak one_entry
one_entry-are_entries = record {
  for_each_node = refl;
  each = AllNumbered-from_items _ one_entry (no_entries 0 (codes "a") 0, (exact_entries, (no_entries 2 (codes "c") 1, tt)));
  numbers_once = AreDistinct-from_apart (λ n. n) (0 ∷ []) refl;
}

-- a tail of n * unit - base bytes, where n is field 4
abbrev told : ℕ → ℕ → Tail
told unit base = record { field = 4; unit = unit; base = base }

-- n * 4 - 4 with an n of 4 bits is at most 56 bytes
tail_is_formed : IsTail with_tail (4 ∷ 5 ∷ []) (told 4 4)
tail_is_formed = record {
  own = (0, omega arith, refl);
  narrow = omega arith;
  has_unit = omega arith;
  unit = omega arith;
  base = omega arith;
  reaches = omega arith;
  is_not_long = omega arith;
}

-- n * 5 - 4 may have 71 bytes, and n * 1 - 16 never has one
tail_is_long : IsTail with_tail (4 ∷ 5 ∷ []) (told 5 4) → ⊥
tail_is_long h = let most = h.is_not_long in omega (arith, most)

tail_is_never : IsTail with_tail (4 ∷ 5 ∷ []) (told 1 16) → ⊥
tail_is_never h = let least = h.reaches in omega (arith, least)
