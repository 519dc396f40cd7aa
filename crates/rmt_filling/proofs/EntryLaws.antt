-- The numbers of entries of a table of a well-formed program.
use Rattle.std.proofs.Common.{◌≡◌, ℕ, zero, suc, ◌+◌, ◌*◌, ◌^◌, ◌<◌, ◌≤◌, List, [], ◌∷◌, Some, None, length, get_or, take, map, refl, sym, subst, arith}
use Rattle.std.specs.Prelude.{All, AllPairs, IsSomeAnd, Option, option_map, slice_get, slice_index, sum, unwrap_or}
use Rattle.std.specs.List.{AllZip}
use Rattle.std.proofs.lemmas.List.{get_or-take, length-take, length-map, get_or-map, get_or_default}
use Rattle.std.proofs.lemmas.List.Elements.{All-nil, All-cons}
use Rattle.std.proofs.lemmas.Nat.{pow-add}
use Rattle.std.proofs.lemmas.Option.{none-some, same_Some}
use Rattle.std.proofs.Math.Nat.{pow-le-pow_right}
use Rattle.rmt_bits.specs.Bits.{bytes_of, number_of}
use Rattle.rmt_bits.proofs.AllLaws.{All-slice_get}
use Rattle.rmt_bits.proofs.ByteLaws.{number_of-bytes_of}
use Rattle.rmt_filling.specs.Types.{Program, Field, Test, Action, Table}
use Rattle.rmt_ast.specs.declared.entry.Entry.{Entry}
use Rattle.rmt_ast.specs.EntryLists.{IsEntry, params_of, terms_of}
use Rattle.rmt_ast.specs.State.{width_of}
use Rattle.rmt_ast.specs.WellFormed.{Fits, IsProgram, IsTest, IsWidth}
use Rattle.rmt_config.specs.BlockCounts.{divided_up}
use Rattle.rmt_pack.specs.Placements.{data_bits, param_bits}
use Rattle.rmt_pack.proofs.FormatLaws.{divided_up-covers}
use Rattle.rmt_pack.proofs.TcamLaws.{masks-fit, side_by_side-lt, values-fit}
use Rattle.rmt_config.specs.Rooms.{args_as_one, tests_as_one}
use Rattle.rmt_filling.specs.Holding.{head_for}
use Rattle.rmt_filling.specs.Rooms.{AreOf, CanBeWritten}
use Rattle.rmt_pack.proofs.BesideLaws.{args-lt}
use Rattle.rmt_bits.proofs.MostLaws.{items-le}

-- ---- tests

pub tests_value-lt : (ws : List ℕ) (ts : List Test) → AllZip IsTest ws ts → tests_as_one (λ t. t.value) ws ts < 2 ^ sum ws
tests_value-lt ws ts all = side_by_side-lt ws (map (λ (t : Test). t.value) ts) (values-fit ws ts all)

pub tests_mask-lt : (ws : List ℕ) (ts : List Test) → AllZip IsTest ws ts → tests_as_one (λ t. t.mask) ws ts < 2 ^ sum ws
tests_mask-lt ws ts all = side_by_side-lt ws (map (λ (t : Test). t.mask) ts) (masks-fit ws ts all)

-- a head and what stands above it
pub above-lt : (code rest bits : ℕ) → code < 32 → rest < 2 ^ bits → head_for code + 256 * rest < 2 ^ (bits + 8)
above-lt code rest bits lc lr =
    let size : 2 ^ (bits + 8) ≡ 2 ^ bits * 2 ^ 8 = pow-add 2 bits 8 in omega (arith, lc, lr, size)

-- ---- widths

module _ (p : Program) (is : IsProgram p) where
  width-small : (f : ℕ) → width_of p f ≤ 128
  width-small f = small (slice_get p.fields f) (λ x e. (All-slice_get (λ (x : Field). IsWidth x.width) p.fields f x is.fields.widths e).1)
    where
      small : (o : Option Field) → ((x : Field) → o ≡ Some x → x.width ≤ 128) → unwrap_or (option_map (λ (x : Field). x.width) o) 0 ≤ 128
      small None has = omega arith
      small (Some x) has = has x refl

  pub widths-small : (fields : List ℕ) → All (λ w. w ≤ 128) (map (width_of p) fields)
  widths-small [] = All-nil (λ w. w ≤ 128)
  widths-small (f ∷ fs) = All-cons (λ w. w ≤ 128) (width_of p f) (map (width_of p) fs) (width-small f) (widths-small fs)

-- ---- data

-- the parameters of an action of a table have no more bits than its data
pub data-fits : (p : Program) (t : Table) (action : ℕ) → action < length t.actions → sum (params_of p (slice_index t.actions action)) ≤ data_bits p t
data-fits p t action lt =
    let xs = map (param_bits p) t.actions in
    let there : action < length xs = let e = length-map t.actions (param_bits p) in omega (arith, e, lt) in
    let at : get_or xs action 0 ≡ param_bits p (slice_index t.actions action) = get_or-map (param_bits p) t.actions action 0 0 lt in
    let same : sum (params_of p (slice_index t.actions action)) ≡ param_bits p (slice_index t.actions action) = bits (slice_get p.actions (slice_index t.actions action)) in
    omega (arith, items-le (λ x. x) 0 xs action 0 there, at, same)
  where
    bits : (o : Option Action) → sum (unwrap_or (option_map (λ (x : Action). x.params) o) []) ≡ unwrap_or (option_map (λ (x : Action). sum x.params) o) 0
    bits None = refl
    bits (Some x) = refl

-- ---- stands before one

pub before-one : {X : Type 0} (R : X → X → Type 0) (xs : List X) (i : ℕ) (d : X) → AllPairs R xs → i < length xs → All (λ y. R y (get_or xs i d)) (take i xs)
before-one R xs i d pairs there k e lt =
    let less : k < i = let long = length-take i xs in omega (arith, long, lt) in
    subst (λ y. R y (get_or xs i d)) (sym (get_or-take i xs k e less)) (subst (R (get_or xs k e)) (get_or_default xs i e d there) (pairs k i e less there))

-- ---- what is written of an entry

pub key-number : (ws : List ℕ) (ts : List Test) → AllZip IsTest ws ts
    → number_of (bytes_of (divided_up (sum ws) 8) (tests_as_one (λ t. t.value) ws ts)) ≡ tests_as_one (λ t. t.value) ws ts
key-number ws ts all =
    let covers = divided_up-covers (sum ws) 8 (omega arith) in
    let wide : 2 ^ sum ws ≤ 2 ^ (8 * divided_up (sum ws) 8) = pow-le-pow_right (omega arith) (omega (arith, covers)) in
    number_of-bytes_of (divided_up (sum ws) 8) (tests_as_one (λ t. t.value) ws ts) (omega (arith, tests_value-lt ws ts all, wide))

pub data-small : (ws vs : List ℕ) (bits : ℕ) → AllZip Fits ws vs → sum ws ≤ bits → args_as_one ws vs < 2 ^ bits
data-small ws vs bits fit le =
    let wide : 2 ^ sum ws ≤ 2 ^ bits = pow-le-pow_right (omega arith) le in
    omega (arith, args-lt ws vs fit, wide)

pub entry-of : (p : Program) (t : Table) (es : List Entry) (entries : AreOf p t es) (i : ℕ) (e : Entry) → slice_get es i ≡ Some e → IsEntry entries.0 (terms_of p t) e
entry-of p t es entries i e at = All-slice_get (IsEntry entries.0 (terms_of p t)) es i e entries.1 at

-- ---- the arguments of an entry

params-at : {X : Type 0} (f : ℕ → X) (xs : List ℕ) (i : ℕ) (y : X) → slice_get (map f xs) i ≡ Some y → f (slice_index xs i) ≡ y
params-at f [] i y e = absurd (none-some y e)
params-at f (x ∷ xs) zero y e = same_Some (f x) y e
params-at f (x ∷ xs) (suc i) y e = params-at f xs i y e

-- what is said of what is there
some-at : {X : Type 0} (P : X → Type 0) (o : Option X) → IsSomeAnd o P → (x : X) × (o ≡ Some x) × P x
some-at P (Some x) h = (x, refl, h)
some-at P None h = absurd h

module _ (p : Program) (t : Table) (n : ℕ) where
  pub entry-fits : (e : Entry) → IsEntry n (terms_of p t) e → AllZip Fits (params_of p (slice_index t.actions e.action)) e.args
  entry-fits e is =
      let own = some-at (λ params. AllZip Fits params e.args) (slice_get (map (params_of p) t.actions) e.action) is.action in
      subst (λ ps. AllZip Fits ps e.args) (sym (params-at (params_of p) t.actions e.action own.0 own.1)) own.2

  pub entry-action : (e : Entry) → IsEntry n (terms_of p t) e → e.action < length t.actions
  entry-action e is =
      let own = some-at (λ params. AllZip Fits params e.args) (slice_get (map (params_of p) t.actions) e.action) is.action in
      inside (params_of p) t.actions e.action own.0 own.1
    where
      inside : {X : Type 0} (f : ℕ → X) (xs : List ℕ) (i : ℕ) (y : X) → slice_get (map f xs) i ≡ Some y → i < length xs
      inside f [] i y e = absurd (none-some y e)
      inside f (x ∷ xs) zero y e = omega arith
      inside f (x ∷ xs) (suc i) y e = let lt = inside f xs i y e in omega (arith, lt)

-- ---- an entry of a part

-- what is known of an entry of a part that can be written
pub record IsThere (p : Program) (t : Table) (first : ℕ) (e : Entry) : Type 0 where
  pub node : ℕ
  pub is_entry : IsEntry node (terms_of p t) e
  pub code : first + e.action < 32
  pub args : AllZip Fits (params_of p (slice_index t.actions e.action)) e.args
  pub within : sum (params_of p (slice_index t.actions e.action)) ≤ data_bits p t

pub entry-there : (p : Program) (t : Table) (es : List Entry) (first : ℕ) → CanBeWritten p t es first → (i : ℕ) (e : Entry) → slice_get es i ≡ Some e → IsThere p t first e
entry-there p t es first part i e at =
    let is = entry-of p t es part.entries i e at in
    let action = entry-action p t part.entries.0 e is in
    record {
      node = part.entries.0;
      is_entry = is;
      code = let few = part.few in omega (arith, action, few);
      args = entry-fits p t part.entries.0 e is;
      within = data-fits p t e.action action;
    }
