-- What a cell's key, mask and data spell: the tests and the arguments that were put into them.
use Rattle.std.proofs.Common.{◌≡◌, ℕ, zero, suc, ◌+◌, ◌*◌, ◌/◌, ◌%◌, ◌^◌, ◌<◌, ◌==◌, Some, List, [], ◌∷◌, cond, find, length, map, option_map, unwrap_or, take, refl, sym, ap, ◌∙◌, arith}
use Rattle.std.specs.Prelude.{slice_get, slice_index, sum}
use Rattle.std.specs.List.{AllZip, enumerate_from}
use Rattle.std.proofs.lemmas.Bool.{eq-eqb, ne_eqb}
use Rattle.std.proofs.lemmas.List.Sums.{sum_by-cons}
use Rattle.std.proofs.lemmas.Nat.{mod_low, pow-add, shr-shr, shr_high}
use Rattle.std.proofs.lemmas.Option.{get_or_from_slice_get, none-some, same_Some, slice_get-map}
use Rattle.rmt_bits.proofs.ListLaws.{slice_get-item}
use Rattle.rmt_ast.specs.declared.entry.Entry.{Entry}
use Rattle.rmt_ast.specs.declared.names.ActionName.{ActionName}
use Rattle.rmt_ast.specs.EntryLists.{params_of}
use Rattle.rmt_ast.specs.Naming.{action_named, table_named}
use Rattle.rmt_ast.specs.WellFormed.{Fits, IsTest}
use Rattle.rmt_config.specs.Effects.{HasArguments}
use Rattle.rmt_config.specs.NamesForm.{args_of_data, params_in, tests_of_key}
use Rattle.rmt_config.specs.Rooms.{tests_as_one}
use Rattle.rmt_ast.specs.declared.program.Program.{Program}
use Rattle.rmt_ast.specs.declared.program.Table.{Table}
use Rattle.rmt_ast.specs.declared.program.Test.{Test}
use Rattle.rmt_pack.proofs.TcamLaws.{masks-fit, side_by_side-lt, values-fit}

-- ---- tests

-- a number above others is one with what stands above it
moved : (a v r w k s : ℕ) → s ≡ w + k → a * 2 ^ s + (v * 2 ^ k + r) ≡ (a * 2 ^ w + v) * 2 ^ k + r
moved a v r w k s size =
    let power : 2 ^ s ≡ 2 ^ w * 2 ^ k = ap (λ n. 2 ^ n) size ∙ pow-add 2 w k in
    spread a v r (2 ^ s) (2 ^ w) (2 ^ k) power
  where
    spread : (a v r m b c : ℕ) → m ≡ b * c → a * m + (v * c + r) ≡ (a * b + v) * c + r
    spread a v r m b c e = rw e (omega arith)

-- and it is read back
read : (a v r w k : ℕ) → v < 2 ^ w → r < 2 ^ k → ((a * 2 ^ w + v) * 2 ^ k + r) / 2 ^ k % 2 ^ w ≡ v
read a v r w k lv lr = ap (λ n. n % 2 ^ w) (shr_high (a * 2 ^ w + v) k r lr) ∙ mod_low a w v lv

tests_above : (ws : List ℕ) (ts : List Test) → AllZip IsTest ws ts → (a b : ℕ)
    → tests_of_key ws (a * 2 ^ sum ws + tests_as_one (λ t. t.value) ws ts) (b * 2 ^ sum ws + tests_as_one (λ t. t.mask) ws ts) ≡ ts
tests_above [] [] all a b = refl
tests_above [] (t ∷ ts) all a b = absurd all
tests_above (w ∷ ws) [] all a b = absurd all
tests_above (w ∷ ws) (t ∷ ts) all a b =
    let size : sum (w ∷ ws) ≡ w + sum ws = sum_by-cons (λ x. x) w ws in
    let values = tests_as_one (λ u. u.value) ws ts in
    let masks = tests_as_one (λ u. u.mask) ws ts in
    let key = (a * 2 ^ w + t.value) * 2 ^ sum ws + values in
    let mask = (b * 2 ^ w + t.mask) * 2 ^ sum ws + masks in
    let value_is = read a t.value values w (sum ws) all.0.value_fits (side_by_side-lt ws (map (λ (u : Test). u.value) ts) (values-fit ws ts all.1)) in
    let mask_is = read b t.mask masks w (sum ws) all.0.mask_fits (side_by_side-lt ws (map (λ (u : Test). u.mask) ts) (masks-fit ws ts all.1)) in
    ap (λ n. tests_of_key (w ∷ ws) n (b * 2 ^ sum (w ∷ ws) + (t.mask * 2 ^ sum ws + masks))) (moved a t.value values w (sum ws) (sum (w ∷ ws)) size)
    ∙ ap (tests_of_key (w ∷ ws) key) (moved b t.mask masks w (sum ws) (sum (w ∷ ws)) size)
    ∙ ap (λ n. record { value = n; mask = mask / 2 ^ sum ws % 2 ^ w } ∷ tests_of_key ws key mask) value_is
    ∙ ap (λ n. record { value = t.value; mask = n } ∷ tests_of_key ws key mask) mask_is
    ∙ ap (λ us. t ∷ us) (tests_above ws ts all.1 (a * 2 ^ w + t.value) (b * 2 ^ w + t.mask))

-- the key and the mask of tests spell these tests
pub tests_spelled : (ws : List ℕ) (ts : List Test) → AllZip IsTest ws ts
    → tests_of_key ws (tests_as_one (λ t. t.value) ws ts) (tests_as_one (λ t. t.mask) ws ts) ≡ ts
tests_spelled ws ts all =
    let values = tests_as_one (λ t. t.value) ws ts in
    let masks = tests_as_one (λ t. t.mask) ws ts in
    let none : (n : ℕ) → n ≡ 0 * 2 ^ sum ws + n = λ n. omega arith in
    ap (λ k. tests_of_key ws k masks) (none values) ∙ ap (tests_of_key ws (0 * 2 ^ sum ws + values)) (none masks) ∙ tests_above ws ts all 0 0

-- ---- arguments

-- data that has the arguments of parameters spells these arguments
pub args_spelled : (ws vs : List ℕ) (held : ℕ) → AllZip Fits ws vs → HasArguments ws vs held → args_of_data ws held ≡ vs
args_spelled [] [] held fit has = refl
args_spelled [] (v ∷ vs) held fit has = absurd fit
args_spelled (w ∷ ws) [] held fit has = absurd fit
args_spelled (w ∷ ws) (v ∷ vs) held fit has =
    let whole : held ≡ held / 2 ^ 0 = omega arith in
    let first : held % 2 ^ w ≡ v = ap (λ n. n % 2 ^ w) whole ∙ has 0 w refl in
    ap (λ n. n ∷ args_of_data ws (held / 2 ^ w)) first
    ∙ ap (λ us. v ∷ us) (args_spelled ws vs (held / 2 ^ w) fit.1 (λ i width at.
    let size : sum (w ∷ take i ws) ≡ w + sum (take i ws) = sum_by-cons (λ x. x) w (take i ws) in
    ap (λ n. n % 2 ^ width) (shr-shr held w (sum (take i ws)) ∙ ap (λ n. held / 2 ^ n) (sym size)) ∙ has (suc i) width at))

-- ---- the parameters of an action

numbered : {X : Type 0} (xs : List X) (k i n : ℕ) (x : X) → k + i ≡ n → slice_get xs i ≡ Some x → find (λ (y : ℕ × X). y.0 == n) (enumerate_from k xs) ≡ Some (n, x)
numbered [] k i n x e at = absurd (none-some x at)
numbered {X} (y ∷ ys) k zero n x e at =
    let same : k ≡ n = omega (arith, e) in
    ap (λ b. cond b (Some (k, y)) (find (λ (z : ℕ × X). z.0 == n) (enumerate_from (k + 1) ys))) (eq-eqb k n same)
    ∙ ap (λ m. Some (m, y)) same ∙ ap (λ z. Some (n, z)) (same_Some y x at)
numbered {X} (y ∷ ys) k (suc i) n x e at =
    ap (λ b. cond b (Some (k, y)) (find (λ (z : ℕ × X). z.0 == n) (enumerate_from (k + 1) ys))) (ne_eqb k n (λ same. omega (arith, e, same)))
    ∙ numbered ys (k + 1) i n x (omega (arith, e)) at

-- names tell the widths of the parameters of each action of a table's list
pub params_told : (p : Program) (n : ℕ) (es : List Entry) (t : Table) (action : ℕ) → action < length t.actions
    → params_in (table_named p n es t) action ≡ params_of p (slice_index t.actions action)
params_told p n es t action lt =
    let own = slice_get-item t.actions action lt in
    let named : slice_get (map (action_named p) t.actions) action ≡ Some (action_named p own.0) =
    slice_get-map (action_named p) t.actions action ∙ ap (option_map (action_named p)) own.1 in
    ap (λ o. unwrap_or (option_map (λ (x : ℕ × ActionName). x.1.params) o) []) (numbered (map (action_named p) t.actions) 0 action action (action_named p own.0) (omega arith) named)
    ∙ ap (params_of p) (sym (get_or_from_slice_get t.actions action own.0 0 own.1))
