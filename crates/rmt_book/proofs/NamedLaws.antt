-- What tables that are formed ask of their cells.
use Rattle.std.proofs.lemmas.List.Elements.{All-cons}
use Rattle.std.proofs.lemmas.Option.{none-some, same_Some}
use Rattle.std.proofs.Common.{◌≡◌, ℕ, zero, suc, ◌+◌, ◌-◌, ◌≤◌, List, [], ◌∷◌, Bool, true, false, cond, eqb, Some, option_map, unwrap_or, refl, sym, ap, ◌∙◌, subst, arith}
use Rattle.std.specs.Prelude.{All, find, slice_get}
use Rattle.std.specs.List.{enumerate_from, list_all}
use Rattle.std.proofs.lemmas.Bool.{and_parts, eq-eqb, eqb-true, false≢true, leb-true}
use Rattle.rmt_ast.specs.declared.names.TableName.{TableName}
use Rattle.rmt_ast.specs.declared.names.ActionName.{ActionName}
use Rattle.rmt_ast.specs.NameRules.{are_widths, has_params, table_is_formed}
use Rattle.rmt_config.specs.NamesForm.{params_in}

-- the parameters of the action with a number
found-at : (xs : List ActionName) (from n : ℕ) → from ≤ n
    → option_map (λ (x : ℕ × ActionName). x.1.params) (find (λ (x : ℕ × ActionName). eqb x.0 n) (enumerate_from from xs)) ≡ option_map (λ (a : ActionName). a.params) (slice_get xs (n - from))
found-at [] from n le = refl
found-at (a ∷ xs) from n le = by (eqb from n) refl (found-at xs (from + 1) n)
  where
    by : (b : Bool) → eqb from n ≡ b
        → (from + 1 ≤ n → option_map (λ (x : ℕ × ActionName). x.1.params) (find (λ (x : ℕ × ActionName). eqb x.0 n) (enumerate_from (from + 1) xs)) ≡ option_map (λ (y : ActionName). y.params) (slice_get xs (n - (from + 1))))
        → option_map (λ (x : ℕ × ActionName). x.1.params) (cond b (Some (from, a)) (find (λ (x : ℕ × ActionName). eqb x.0 n) (enumerate_from (from + 1) xs))) ≡ option_map (λ (y : ActionName). y.params) (slice_get (a ∷ xs) (n - from))
    by true e rest =
        let same = eqb-true from n e in
        let z : n - from ≡ 0 = omega (arith, same) in
        ap (λ i. option_map (λ (y : ActionName). y.params) (slice_get (a ∷ xs) i)) (sym z)
    by false e rest =
        let apart : from ≡ n → ⊥ = λ s. false≢true (sym e ∙ eq-eqb from n s) in
        let more : from + 1 ≤ n = omega (arith, le, apart) in
        let z : n - from ≡ suc (n - (from + 1)) = omega (arith, more) in
        rest more ∙ ap (λ i. option_map (λ (y : ActionName). y.params) (slice_get (a ∷ xs) i)) (sym z)

pub params-at : (t : TableName) (n : ℕ) → params_in t n ≡ unwrap_or (option_map (λ (a : ActionName). a.params) (slice_get t.actions n)) []
params-at t n =
    let z : n - 0 ≡ n = omega arith in
    ap (λ o. unwrap_or o []) (found-at t.actions 0 n (omega arith)) ∙ ap (λ i. unwrap_or (option_map (λ (a : ActionName). a.params) (slice_get t.actions i)) []) z

-- widths of at most 128 bits
pub widths-low : (ws : List ℕ) → are_widths ws ≡ true → All (λ w. w ≤ 128) ws
widths-low [] e = λ k d lt. absurd (omega (arith, lt))
widths-low (w ∷ ws) e =
    let parts = and_parts _ _ e in
    All-cons (λ w. w ≤ 128) w ws (leb-true w 128 (and_parts _ _ parts.0).1) (widths-low ws parts.1)

pub keys-low : (t : TableName) → table_is_formed t ≡ true → All (λ w. w ≤ 128) t.keys
keys-low t h = widths-low t.keys (and_parts _ _ (and_parts _ _ (and_parts _ _ (and_parts _ _ (and_parts _ _ h).0).0).0).0).1

pub params-low : (t : TableName) (n : ℕ) (a : ActionName) → table_is_formed t ≡ true → slice_get t.actions n ≡ Some a → All (λ w. w ≤ 128) a.params
params-low t n a h e = each t.actions n (and_parts _ _ (and_parts _ _ (and_parts _ _ h).0).0).1 e
  where
    each : (xs : List ActionName) (i : ℕ) → list_all has_params xs ≡ true → slice_get xs i ≡ Some a → All (λ w. w ≤ 128) a.params
    each [] i all here = absurd (none-some a here)
    each (x ∷ xs) zero all here = subst (λ (y : ActionName). All (λ w. w ≤ 128) y.params) (same_Some x a here) (widths-low x.params (and_parts _ _ (and_parts _ _ all).0).0)
    each (x ∷ xs) (suc i) all here = each xs i (and_parts _ _ all).1 here
