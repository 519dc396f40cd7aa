-- Entries that come, in cells.
use Rattle.std.proofs.Common.{◌≡◌, ℕ, ◌+◌, ◌-◌, ◌*◌, ◌/◌, ◌%◌, ◌^◌, ◌<◌, true, false, List, [], Option, Some, None, length, map, option_map, refl, sym, ap, subst, ◌∙◌, arith}
use Rattle.std.specs.Prelude.{IsSomeAnd, if◌then◌else◌, slice_get, slice_index_or, sum, unwrap_or}
use Rattle.std.specs.List.{AllZip}
use Rattle.std.proofs.lemmas.Bool.{false≢true}
use Rattle.std.proofs.lemmas.Option.{get_or_from_slice_get, slice_get-map}
use Rattle.rmt_bits.specs.Bits.{number_of}
use Rattle.rmt_bits.proofs.ByteLaws.{length-bytes_of}
use Rattle.rmt_ast.specs.declared.entry.Entry.{Entry}
use Rattle.rmt_ast.specs.declared.names.ActionName.{ActionName}
use Rattle.rmt_ast.specs.declared.names.TableName.{TableName}
use Rattle.rmt_ast.specs.declared.program.Kind.{Kind}
use Rattle.rmt_ast.specs.declared.program.Kind.TheVariants as kind
use Rattle.rmt_ast.specs.declared.program.Test.{Test}
use Rattle.rmt_ast.specs.EntryLists.{HasRank, IsEntry, IsWhole}
use Rattle.rmt_ast.specs.NameRules.{terms_of_name}
use Rattle.rmt_ast.specs.WellFormed.{Fits}
use Rattle.rmt_config.specs.declared.config.Memory.{Memory}
use Rattle.rmt_config.specs.declared.config.Memory.TheVariants.{Without, Exact, Ternary}
use Rattle.rmt_config.specs.BlockCounts.{divided_up}
use Rattle.rmt_config.specs.LaneForm.{bits_of_lanes}
use Rattle.rmt_config.specs.NamesForm.{args_of_data, is_of_kind, params_in, tests_of_key}
use Rattle.rmt_config.specs.Rooms.{args_as_one, key_number, tests_as_one}
use Rattle.rmt_config.specs.RunCells.{written_mask}
use Rattle.rmt_book.specs.declared.kept.Kept.{Kept}
use Rattle.rmt_book.specs.Coming.{KeepsEntry, key_bytes}
use Rattle.rmt_config.specs.Rooms.{mask_or_value}
use Rattle.rmt_book.specs.Told.{is_whole, told_entry}
use Rattle.rmt_book.proofs.NamedLaws.{params-at}
use Rattle.rmt_config.proofs.LayoutLaws.{bytes_hold}
use Rattle.rmt_pack.proofs.SpelledFieldLaws.{tests_spelled}
use Rattle.rmt_update.proofs.SpelledLaws.{args-spelled, tests-lt, whole-mask}

abbrev widths : ActionName → List ℕ
widths a = a.params

-- the action of an entry is in the table's list, and the arguments fit its parameters
pub some-action : (t : TableName) (e : Entry) → IsEntry t.node (terms_of_name t) e → slice_get t.actions e.action ≡ None → ⊥
some-action t e fit none =
    subst (λ (o : Option (List ℕ)). IsSomeAnd o (λ ps. AllZip Fits ps e.args)) (slice_get-map widths t.actions e.action ∙ ap (option_map widths) none) fit.action

pub own-args : (t : TableName) (e : Entry) (a : ActionName) → IsEntry t.node (terms_of_name t) e → slice_get t.actions e.action ≡ Some a → AllZip Fits a.params e.args
own-args t e a fit at =
    subst (λ (o : Option (List ℕ)). IsSomeAnd o (λ ps. AllZip Fits ps e.args)) (slice_get-map widths t.actions e.action ∙ ap (option_map widths) at) fit.action

pub own-params : (t : TableName) (e : Entry) (a : ActionName) → slice_get t.actions e.action ≡ Some a → slice_index_or (terms_of_name t).params e.action [] ≡ a.params
own-params t e a at = get_or_from_slice_get (map widths t.actions) e.action a.params [] (slice_get-map widths t.actions e.action ∙ ap (option_map widths) at)

-- the whole mask of an exact entry
pub mask-whole : (t : TableName) (e : Entry) → IsEntry t.node (terms_of_name t) e → t.kind ≡ kind.Exact → 2 ^ sum t.keys - 1 ≡ tests_as_one (mask_or_value true) t.keys e.tests
mask-whole t e fit is = sym (whole-mask t.keys e.tests (by t.kind is fit.rank))
  where
    by : (k : Kind) → k ≡ kind.Exact → HasRank k t.keys e → AllZip IsWhole t.keys e.tests
    by kind.Exact is rank = rank.0
    by kind.Keyless is rank = cc
    by kind.Prefix is rank = cc
    by kind.Ternary is rank = cc

-- the bytes of the key are as many as hold its bits, and their number is that of the tests
pub key-long : (t : TableName) (e : Entry) (key : List ℕ) → key ≡ key_bytes t e → length key ≡ divided_up (sum t.keys) 8
key-long t e key is = ap length is ∙ length-bytes_of (divided_up (sum t.keys) 8) (key_number (terms_of_name t) e)

pub key-told : (t : TableName) (e : Entry) (key : List ℕ) → IsEntry t.node (terms_of_name t) e → key ≡ key_bytes t e → number_of key ≡ tests_as_one (mask_or_value false) t.keys e.tests
key-told t e key fit is = ap number_of is ∙ bytes_hold (sum t.keys) (key_number (terms_of_name t) e) (tests-lt false t.keys e.tests fit.tests)

-- the mask that a part's memory has
mask-written : (k : Kind) (m : Memory) (bits : ℕ) (mask : List ℕ) → is_of_kind k m ≡ true → written_mask bits m mask ≡ (if is_whole k then 2 ^ bits - 1 else number_of mask)
mask-written kind.Keyless m bits mask h = absurd (false≢true h)
mask-written kind.Exact Without bits mask h = absurd (false≢true h)
mask-written kind.Exact (Exact k p d w ks rs cs) bits mask h = refl
mask-written kind.Exact (Ternary d ks rs cs) bits mask h = absurd (false≢true h)
mask-written kind.Prefix Without bits mask h = absurd (false≢true h)
mask-written kind.Prefix (Exact k p d w ks rs cs) bits mask h = absurd (false≢true h)
mask-written kind.Prefix (Ternary d ks rs cs) bits mask h = refl
mask-written kind.Ternary Without bits mask h = absurd (false≢true h)
mask-written kind.Ternary (Exact k p d w ks rs cs) bits mask h = absurd (false≢true h)
mask-written kind.Ternary (Ternary d ks rs cs) bits mask h = refl

-- what keeps an entry
module _ (t : TableName) (first cell visible : ℕ) (e : Entry) (k : Kept) (fit : IsEntry t.node (terms_of_name t) e) (low : visible < 4)
    (at : k.cell ≡ cell) (seen : k.visible ≡ visible) (number : k.number ≡ e.number) (rank : k.rank ≡ e.rank) (code : k.code ≡ first + e.action)
    (key : number_of k.key.items ≡ tests_as_one (mask_or_value false) t.keys e.tests)
    (mask : (if is_whole t.kind then 2 ^ sum t.keys - 1 else number_of k.mask.items) ≡ tests_as_one (mask_or_value true) t.keys e.tests)
    (held : number_of k.held.items ≡ args_as_one (slice_index_or (terms_of_name t).params e.action []) e.args) where
  told-tests : tests_of_key t.keys (number_of k.key.items) (if is_whole t.kind then 2 ^ sum t.keys - 1 else number_of k.mask.items) ≡ e.tests
  told-tests =
      ap (λ n. tests_of_key t.keys n (if is_whole t.kind then 2 ^ sum t.keys - 1 else number_of k.mask.items)) key
      ∙ ap (tests_of_key t.keys (tests_as_one (mask_or_value false) t.keys e.tests)) mask ∙ tests_spelled t.keys e.tests fit.tests

  told-args : args_of_data (params_in t (k.code - first)) (number_of k.held.items) ≡ e.args
  told-args =
      let action : k.code - first ≡ e.action = omega (arith, code) in
      ap (λ n. args_of_data (params_in t n) (number_of k.held.items)) action ∙ by (slice_get t.actions e.action) refl
    where
      by : (o : Option ActionName) → slice_get t.actions e.action ≡ o → args_of_data (params_in t e.action) (number_of k.held.items) ≡ e.args
      by None none = absurd (some-action t e fit none)
      by (Some a) here =
          let own : params_in t e.action ≡ a.params = params-at t e.action ∙ ap (λ (o : Option ActionName). unwrap_or (option_map widths o) []) here in
          let data_is : number_of k.held.items ≡ args_as_one a.params e.args = held ∙ ap (λ ws. args_as_one ws e.args) (own-params t e a here) in
          ap (λ ws. args_of_data ws (number_of k.held.items)) own ∙ ap (args_of_data a.params) data_is ∙ args-spelled a.params e.args (own-args t e a fit here)

  pub told-is : told_entry t first k ≡ e
  told-is =
      let action : k.code - first ≡ e.action = omega (arith, code) in
      made t.node k.number (tests_of_key t.keys (number_of k.key.items) (if is_whole t.kind then 2 ^ sum t.keys - 1 else number_of k.mask.items)) k.rank (k.code - first)
      (args_of_data (params_in t (k.code - first)) (number_of k.held.items)) (sym fit.table) number told-tests rank action told-args
    where
      made : (node n : ℕ) (tests : List Test) (r a : ℕ) (args : List ℕ) → node ≡ e.table → n ≡ e.number → tests ≡ e.tests → r ≡ e.rank → a ≡ e.action → args ≡ e.args
          → record { table = node; number = n; tests = tests; rank = r; action = a; args = args } ≡ e
      made node n tests r a args p1 p2 p3 p4 p5 p6 = rw (p1, p2, p3, p4, p5, p6) refl

  pub keeps-entry : KeepsEntry t first cell visible e k
  keeps-entry = record {
    kept = λ p own bits of_kind.
        record {
          cell = at;
          number = number;
          visible = seen ∙ sym (head-visible (p.first + e.action));
          code = code ∙ ap (λ n. n + e.action) (sym own) ∙ sym (head-code (p.first + e.action));
          key = key;
          mask = mask-written t.kind p.slot.memory (bits_of_lanes p.slot.keys) k.mask.items of_kind
              ∙ ap (λ n. if is_whole t.kind then 2 ^ n - 1 else number_of k.mask.items) (sym bits) ∙ mask;
          held = held;
        };
    told = told-is;
  }
    where
      head-visible : (a : ℕ) → (1 + 2 * visible + 8 * a) / 2 % 4 ≡ visible
      head-visible a = omega (arith, low)

      head-code : (a : ℕ) → (1 + 2 * visible + 8 * a) / 8 ≡ a
      head-code a = omega (arith, low)
