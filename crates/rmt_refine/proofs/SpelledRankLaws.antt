-- The ranks that are told of entries: by the mask of a prefix, and by the names of a ternary table.
use Rattle.std.proofs.Common.{◌≡◌, ℕ, zero, suc, ◌+◌, ◌-◌, ◌*◌, ◌^◌, ◌<◌, ◌≤◌, ◌==◌, ◌&&◌, Bool, true, false, Option, Some, None, List, [], ◌∷◌, cond, find, length, option_map, unwrap_or, refl, sym, ap, ◌∙◌, subst, arith}
use Rattle.std.specs.Prelude.{All, AllPairs, fold, slice_get, sum}
use Rattle.std.specs.List.{AllZip, range_with_len}
use Rattle.std.proofs.lemmas.Bool.{eq-eqb, eqb-false, ne_eqb}
use Rattle.std.proofs.lemmas.List.Elements.{All-head, All-tail, All-weaker}
use Rattle.std.proofs.lemmas.List.Sums.{sum_by-cons}
use Rattle.std.proofs.lemmas.Option.{none-some, same_Some}
use Rattle.std.proofs.Math.Nat.{pow-le-pow_right}
use Rattle.std.proofs.Math.Pow.{pow-lt}
use Rattle.rmt_bits.proofs.AllLaws.{All-slice_get}
use Rattle.rmt_bits.proofs.PairLaws.{AllPairs-head, AllPairs-tail}
use Rattle.rmt_ast.specs.declared.entry.Entry.{Entry}
use Rattle.rmt_ast.specs.declared.names.RankOf.{RankOf}
use Rattle.rmt_ast.specs.EntryLists.{IsPrefix}
use Rattle.rmt_ast.specs.Naming.{rank_of, ranks_in, stands_first, with_rank}
use Rattle.rmt_config.specs.NamesForm.{prefix_length, rank_told}
use Rattle.rmt_config.specs.Rooms.{tests_as_one}
use Rattle.rmt_pack.proofs.SortedLaws.{IsBelow}
use Rattle.rmt_refine.specs.Types.{Test}

-- ---- the length of a prefix

-- the first number of a run that passes
first_found : (test : ℕ → Bool) (d a n r : ℕ) → a + d ≡ r → d < n → test r ≡ true → ((k : ℕ) → k < r → test k ≡ false) → find test (range_with_len a n) ≡ Some r
first_found test d a zero r e lt passes fails = absurd (omega (arith, lt))
first_found test zero a (suc n) r e lt passes fails =
    let same : a ≡ r = omega (arith, e) in
    ap (λ b. cond b (Some a) (find test (range_with_len (a + 1) n))) (ap test same ∙ passes) ∙ ap Some same
first_found test (suc d) a (suc n) r e lt passes fails =
    ap (λ b. cond b (Some a) (find test (range_with_len (a + 1) n))) (fails a (omega (arith, e)))
    ∙ first_found test d (a + 1) n r (omega (arith, e)) (omega (arith, lt)) passes fails

-- the mask of so many of the highest bits has that length
prefix_found : (w r : ℕ) → r ≤ w → prefix_length w (2 ^ w - 2 ^ (w - r)) ≡ Some r
prefix_found w r le =
    first_found (λ len. 2 ^ w - 2 ^ (w - r) == 2 ^ w - 2 ^ (w - len)) r 0 (w + 1) r (omega arith) (omega (arith, le))
    (eq-eqb (2 ^ w - 2 ^ (w - r)) (2 ^ w - 2 ^ (w - r)) refl)
    (λ k lt. ne_eqb (2 ^ w - 2 ^ (w - r)) (2 ^ w - 2 ^ (w - k)) (λ same.
    let less : 2 ^ (w - r) < 2 ^ (w - k) = pow-lt (omega (arith, le, lt)) in
    let most : 2 ^ (w - k) ≤ 2 ^ w = pow-le-pow_right (omega arith) (omega arith) in
    omega (arith, same, less, most)))

-- the mask of a prefix of one field tells the prefix's length
pub prefix_told : (ws : List ℕ) (ts : List Test) (r : ℕ) → length ws ≡ 1 → AllZip (IsPrefix r) ws ts → prefix_length (sum ws) (tests_as_one (λ t. t.mask) ws ts) ≡ Some r
prefix_told [] ts r one all = absurd (omega (arith, one))
prefix_told (w ∷ v ∷ ws) ts r one all = absurd (omega (arith, one))
prefix_told (w ∷ []) [] r one all = absurd all
prefix_told (w ∷ []) (t ∷ ts) r one all =
    let size : sum (w ∷ []) ≡ w = let e : sum (w ∷ []) ≡ w + sum [] = sum_by-cons (λ x. x) w [] in let none : sum [] ≡ 0 = refl in omega (arith, e, none) in
    let alone : t.mask * 2 ^ 0 + 0 ≡ t.mask = omega arith in
    ap (λ n. prefix_length n (t.mask * 2 ^ 0 + 0)) size ∙ ap (prefix_length w) (alone ∙ all.0.1) ∙ prefix_found w r all.0.0

-- ---- the priority of a ternary entry

-- what ranks tell of a number
abbrev told : List RankOf → ℕ → Option RankOf
told ranks number = find (λ (r : RankOf). r.number == number) ranks

not_first : (b : Bool) (o : RankOf) (rest : Option RankOf) → cond b (Some o) rest ≡ None → (b ≡ false) × (rest ≡ None)
not_first true o rest e = absurd (none-some o (sym e))
not_first false o rest e = (refl, e)

with-own : (os : List RankOf) (r : RankOf) → told os r.number ≡ None → told (with_rank os r) r.number ≡ Some r
with-own [] r none = ap (λ b. cond b (Some r) None) (eq-eqb r.number r.number refl)
with-own (o ∷ os) r none =
    let parts = not_first (o.number == r.number) o (told os r.number) none in
    let other : (r.number == o.number) ≡ false = ne_eqb r.number o.number (λ e. eqb-false o.number r.number parts.0 (sym e)) in
    by (stands_first r o) (r.rank == o.rank) (r.number == o.number) other
    (ap (λ b. cond b (Some o) (told (with_rank os r) r.number)) parts.0 ∙ with-own os r parts.1)
  where
    by : (a b c : Bool) → c ≡ false → told (o ∷ with_rank os r) r.number ≡ Some r
        → told (cond a (r ∷ o ∷ os) (cond (b && c) (o ∷ os) (o ∷ with_rank os r))) r.number ≡ Some r
    by true b c unlike rest = ap (λ x. cond x (Some r) (told (o ∷ os) r.number)) (eq-eqb r.number r.number refl)
    by false true c unlike rest = ap (λ x. told (cond x (o ∷ os) (o ∷ with_rank os r)) r.number) unlike ∙ rest
    by false false c unlike rest = rest

with-other : (os : List RankOf) (r : RankOf) (n : ℕ) → (r.number ≡ n → ⊥) → told (with_rank os r) n ≡ told os n
with-other [] r n other = ap (λ b. cond b (Some r) None) (ne_eqb r.number n other)
with-other (o ∷ os) r n other = by (stands_first r o) ((r.rank == o.rank) && (r.number == o.number)) (with-other os r n other)
  where
    by : (a b : Bool) → told (with_rank os r) n ≡ told os n → told (cond a (r ∷ o ∷ os) (cond b (o ∷ os) (o ∷ with_rank os r))) n ≡ told (o ∷ os) n
    by true b rest = ap (λ x. cond x (Some r) (told (o ∷ os) n)) (ne_eqb r.number n other)
    by false true rest = refl
    by false false rest = ap (λ x. cond (o.number == n) (Some o) x) rest

-- ranks with those of more entries
abbrev ranks_with : List RankOf → List Entry → List RankOf
ranks_with os es = fold (λ ranks e. with_rank ranks (rank_of e)) os es

more-other : (os : List RankOf) (es : List Entry) (n : ℕ) → All (λ (e : Entry). e.number ≡ n → ⊥) es → told (ranks_with os es) n ≡ told os n
more-other os [] n others = refl
more-other os (e ∷ es) n others =
    more-other (with_rank os (rank_of e)) es n (All-tail (λ (x : Entry). x.number ≡ n → ⊥) e es others)
    ∙ with-other os (rank_of e) n (All-head (λ (x : Entry). x.number ≡ n → ⊥) e es others)

more-own : (os : List RankOf) (es : List Entry) (i : ℕ) (e : Entry) → AllPairs IsBelow es → slice_get es i ≡ Some e → told os e.number ≡ None
    → told (ranks_with os es) e.number ≡ Some (rank_of e)
more-own os [] i e rise at none = absurd (none-some e at)
more-own os (a ∷ es) zero e rise at none =
    let same : a ≡ e = same_Some a e at in
    let later : All (λ (b : Entry). b.number ≡ a.number → ⊥) es =
    All-weaker (IsBelow a) (λ (b : Entry). b.number ≡ a.number → ⊥) (λ b less eq. omega (arith, less, eq)) es (AllPairs-head IsBelow a es rise) in
    subst (λ (x : Entry). told (ranks_with os (a ∷ es)) x.number ≡ Some (rank_of x)) same
    (more-other (with_rank os (rank_of a)) es a.number later ∙ with-own os (rank_of a) (subst (λ (x : Entry). told os x.number ≡ None) (sym same) none))
more-own os (a ∷ es) (suc i) e rise at none =
    let less : a.number < e.number = All-slice_get (IsBelow a) es i e (AllPairs-head IsBelow a es rise) at in
    more-own (with_rank os (rank_of a)) es i e (AllPairs-tail IsBelow a es rise) at (with-other os (rank_of a) e.number (λ eq. omega (arith, less, eq)) ∙ none)

-- the ranks of entries of rising numbers tell that of each
pub rank_is_told : (es : List Entry) (i : ℕ) (e : Entry) → AllPairs (λ (a b : Entry). a.number < b.number) es → slice_get es i ≡ Some e → rank_told (ranks_in es) e.number ≡ e.rank
rank_is_told es i e rise at = ap (λ o. unwrap_or (option_map (λ (r : RankOf). r.rank) o) 0) (more-own [] es i e rise at refl)
