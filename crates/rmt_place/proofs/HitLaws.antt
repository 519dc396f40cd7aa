-- Why a node is stuck: one more quantum passes a limit in each stage.
use Rattle.std.proofs.Common.{◌≡◌, ℕ, zero, suc, ◌+◌, ◌-◌, ◌<◌, ◌≤◌, List, [], ◌∷◌, ◌++◌, map, Bool, true, false, cond, ◌&&◌, inl, inr, Option, Some, sym, refl, subst, ap, ◌∙◌, arith}
use Rattle.std.specs.List.{All, find, list_all, range_with_len}
use Rattle.std.specs.Prelude.{nat_le, unwrap_or, ⊤}
use Rattle.std.proofs.lemmas.Bool.{cases_lt, le-leb, lt-ltb, le-ltb, false≢true}
use Rattle.std.proofs.lemmas.List.Elements.{All-nil, All-cons}
use Rattle.rmt_config.specs.declared.limits.LimitHit.{LimitHit}
use Rattle.rmt_pack.specs.declared.placement.Part.{Part}
use Rattle.rmt_place.specs.declared.demand.Demand.{Demand}
use Rattle.rmt_config.specs.Limits.{most_of}
use Rattle.rmt_place.specs.Needs.{Standing, Sum, demand_at, keeps_limits, sums_of}
use Rattle.rmt_place.specs.Placing.{beside, fitting, hit_beside, hit_list, hits_from, hits_in, passed_first, Passes, spread, stages_from, standing_in, TellWhy}

-- ---- no more fits than the most

-- looking down from the most that are left, what is passed over doesn't pass
none_above : (p : ℕ → Bool) (left a b : ℕ) → a + b ≡ left → (q : ℕ) → unwrap_or (find p (map (λ i. left - i) (range_with_len a b))) 0 < q → q ≤ b → p q ≡ false
none_above p left a zero sum q above few = absurd (omega arith)
none_above p left a (suc b) sum q above few = by_head (p (left - a)) refl above (λ above few. none_above p left (a + 1) b (omega arith) q above few)
  where
    by_head : (t : Bool) → p (left - a) ≡ t → unwrap_or (cond t (Some (left - a)) (find p (map (λ i. left - i) (range_with_len (a + 1) b)))) 0 < q
        → (unwrap_or (find p (map (λ i. left - i) (range_with_len (a + 1) b))) 0 < q → q ≤ b → p q ≡ false) → p q ≡ false
    by_head true e above rest = absurd (omega arith)
    by_head false e above rest = elim (cases_lt b q) [
      | inl last ↦ (let here : q ≡ left - a = omega arith in ap p here ∙ e)
      | inr lower ↦ rest above lower
    ]

pub fitting_most : (xs : List Standing) (d : Demand) (left q : ℕ) → fitting xs d left < q → q ≤ left → keeps_limits (beside xs d q) ≡ false
fitting_most xs d left q above few = none_above (λ m. keeps_limits (beside xs d m)) left 0 left (omega arith) q above few

-- ---- a limit is passed

-- two lists of sums are of the same limits
abbrev AreAlike : List Sum → List Sum → Type 0
AreAlike [] [] = ⊤
AreAlike [] (y ∷ ys) = ⊥
AreAlike (x ∷ xs) [] = ⊥
AreAlike (x ∷ xs) (y ∷ ys) = (most_of x.limit ≡ y.most) × AreAlike xs ys

-- a hit that tells of stage k
pub record IsHit (k : ℕ) (o : Option LimitHit) : Type 0 where
  pub hit : LimitHit
  pub is : o ≡ Some hit
  pub stage : hit.stage ≡ k
  pub passes : Passes hit

passed_some : (k : ℕ) (xs ys : List Sum) → AreAlike xs ys → list_all (λ (s : Sum). nat_le s.sum s.most) ys ≡ false → IsHit k (passed_first k xs ys)
passed_some k [] [] alike fails = absurd (false≢true (sym fails))
passed_some k [] (y ∷ ys) alike fails = absurd alike
passed_some k (x ∷ xs) [] alike fails = absurd alike
passed_some k (x ∷ xs) (y ∷ ys) alike fails = elim (cases_lt y.most y.sum) [
  | inl past ↦
      let hit : LimitHit = record { limit = x.limit; stage = k; sum = x.sum; need = y.sum - x.sum } in
      record {
        hit = hit;
        is = ap (λ (b : Bool). cond b (Some hit) (passed_first k xs ys)) (lt-ltb y.most y.sum past);
        stage = refl;
        passes = (let same : most_of x.limit ≡ y.most = alike.0 in omega (arith, same, past));
      }
  | inr kept ↦
      let hit : LimitHit = record { limit = x.limit; stage = k; sum = x.sum; need = y.sum - x.sum } in
      let skip : passed_first k (x ∷ xs) (y ∷ ys) ≡ passed_first k xs ys = ap (λ (b : Bool). cond b (Some hit) (passed_first k xs ys)) (le-ltb y.most y.sum kept) in
      let rest_fails : list_all (λ (s : Sum). nat_le s.sum s.most) ys ≡ false =
      sym (ap (λ (b : Bool). b && list_all (λ (s : Sum). nat_le s.sum s.most) ys) (le-leb y.sum y.most kept)) ∙ fails in
      subst (IsHit k) (sym skip) (passed_some k xs ys alike.1 rest_fails)
]

pub hit_there : (k : ℕ) (xs : List Standing) (d : Demand) (left : ℕ) → fitting xs d left < left → IsHit k (hit_beside k xs d (fitting xs d left))
hit_there k xs d left fewer =
    let taken = fitting xs d left in
    passed_some k (sums_of (beside xs d taken)) (sums_of (beside xs d (taken + 1))) (refl, (refl, (refl, (refl, (refl, (refl, (refl, (refl, tt))))))))
    (fitting_most xs d left (taken + 1) (omega arith) (omega arith))

-- ---- all stages

list_is : (o : Option LimitHit) (k : ℕ) (rest : List LimitHit) (ks : List ℕ) → IsHit k o → map (λ (h : LimitHit). h.stage) rest ≡ ks → All Passes rest
    → (map (λ (h : LimitHit). h.stage) (hit_list o ++ rest) ≡ k ∷ ks) × All Passes (hit_list o ++ rest)
list_is o k rest ks hit stages passed =
    let list : hit_list o ++ rest ≡ hit.hit ∷ rest = ap (λ (p : Option LimitHit). hit_list p ++ rest) hit.is in (
      ap (map (λ (h : LimitHit). h.stage)) list ∙ (ap (λ (m : ℕ). m ∷ map (λ (h : LimitHit). h.stage) rest) hit.stage ∙ ap (λ (l : List ℕ). k ∷ l) stages),
      subst (λ (l : List LimitHit). All Passes l) (sym list) (All-cons Passes hit.hit rest hit.passes passed),
    )

-- what is left in the end was left before
left-le : (demands : List Demand) (parts : List Part) (n a m left : ℕ) → (spread demands parts n (range_with_len a m) left).left ≤ left
left-le demands parts n a zero left = omega arith
left-le demands parts n a (suc m) left =
    omega (arith, left-le demands parts n (a + 1) m (left - (fitting (standing_in demands parts a) (demand_at demands n) left)))

hits_tell : (demands : List Demand) (parts : List Part) (n a m left : ℕ) → 1 ≤ (spread demands parts n (range_with_len a m) left).left
    → (map (λ (h : LimitHit). h.stage) (hits_in demands parts n (range_with_len a m) left) ≡ range_with_len a m) × All Passes (hits_in demands parts n (range_with_len a m) left)
hits_tell demands parts n a zero left some = (refl, All-nil Passes)
hits_tell demands parts n a (suc m) left some =
    let xs = standing_in demands parts a in
    let d = demand_at demands n in
    let taken = fitting xs d left in
    let rest = hits_tell demands parts n (a + 1) m (left - taken) some in
    let fewer : taken < left = omega (arith, left-le demands parts n (a + 1) m (left - taken), some) in
    list_is (hit_beside a xs d taken) a (hits_in demands parts n (range_with_len (a + 1) m) (left - taken)) (range_with_len (a + 1) m) (hit_there a xs d left fewer) rest.0 rest.1

-- there are only 32 stages
abbrev only_stages : List LimitHit
only_stages = record { limit = 1; stage = 32; sum = 32; need = 1 } ∷ []

-- the hits of a node that is stuck tell why
pub hits_why : (demands : List Demand) (parts : List Part) (n earliest : ℕ) → 1 ≤ (spread demands parts n (stages_from earliest) (demand_at demands n).quanta).left
    → TellWhy (hits_from demands parts n earliest)
hits_why demands parts n earliest some =
    let all = hits_tell demands parts n earliest (32 - earliest) (demand_at demands n).quanta some in
    elim (cases_lt earliest 32) [
      | inl within ↦
          let test = lt-ltb earliest 32 within in
          record {
            first = earliest;
            stages = ap (λ (b : Bool). map (λ (h : LimitHit). h.stage) (cond b (hits_in demands parts n (stages_from earliest) (demand_at demands n).quanta) only_stages)) test
                ∙ (all.0 ∙ sym (ap (λ (b : Bool). cond b (stages_from earliest) (32 ∷ [])) test));
            passed = subst (λ (b : Bool). All Passes (cond b (hits_in demands parts n (stages_from earliest) (demand_at demands n).quanta) only_stages)) (sym test) all.1;
          }
      | inr past ↦
          let test = le-ltb earliest 32 past in
          record {
            first = earliest;
            stages = ap (λ (b : Bool). map (λ (h : LimitHit). h.stage) (cond b (hits_in demands parts n (stages_from earliest) (demand_at demands n).quanta) only_stages)) test
                ∙ sym (ap (λ (b : Bool). cond b (stages_from earliest) (32 ∷ [])) test);
            passed = subst (λ (b : Bool). All Passes (cond b (hits_in demands parts n (stages_from earliest) (demand_at demands n).quanta) only_stages)) (sym test)
                (All-cons Passes (record { limit = 1; stage = 32; sum = 32; need = 1 }) [] (omega arith) (All-nil Passes));
          }
    ]
