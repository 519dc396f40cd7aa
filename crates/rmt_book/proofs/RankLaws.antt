-- The ranks that names tell, by numbers in a map.
use Rattle.std.proofs.Common.{◌≡◌, ℕ, ◌+◌, ◌^◌, ◌<◌, ◌≤◌, List, [], ◌∷◌, Bool, true, false, Option, Some, cond, drop, eqb, leb, ◌&&◌, get_or, length, option_map, subst, sum, add-one, refl, sym, ap, ◌∙◌, arith}
use Rattle.std.specs.Prelude.{find}
use Rattle.std.specs.Ordering.{is_eq, nat_cmp}
use Rattle.std.proofs.Math.Seq.{drop-cons}
use Rattle.std.proofs.lemmas.Bool.{and_parts, false≢true, leb-true}
use Rattle.std.proofs.lemmas.List.Sums.{sum_by-cons}
use Rattle.rmt_bits.specs.Bits.{number_of}
use Rattle.rmt_ast.specs.NameRules.{are_widths}
use Rattle.rmt_ast.specs.declared.names.TableName.{TableName}
use Rattle.rmt_ast.specs.declared.program.Kind.{Kind}
use Rattle.rmt_ast.specs.declared.program.Kind.TheVariants as kind
use Rattle.rmt_config.specs.declared.config.Config.{Config}
use Rattle.rmt_config.specs.declared.config.Memory.{Memory}
use Rattle.rmt_config.specs.declared.config.Memory.TheVariants.{Without, Exact, Ternary}
use Rattle.rmt_config.specs.LaneForm.{bits_of_lanes}
use Rattle.rmt_config.specs.NamesForm.{is_of_kind, rank_in}
use Rattle.rmt_config.specs.PartStands.{PartStands}
use Rattle.rmt_config.specs.Rooms.{PartAt}
use Rattle.rmt_config.specs.RunCells.{own_content, written_mask}
use Rattle.rmt_config.proofs.PrefixRowLaws.{mask-small}
pub use Rattle.rmt_config.proofs.OrderLaws.{same_number as same-number}
use Rattle.rmt_ast.specs.declared.names.RankOf.{RankOf}

-- one rank more, in front of the others
pub told-more : (ranks : List RankOf) (at n : ℕ) (d : RankOf) (old new : Option ℕ) → at < length ranks
    → new ≡ cond (is_eq (nat_cmp (get_or ranks at d).number n)) (Some (get_or ranks at d).rank) old
    → old ≡ option_map (λ (r : RankOf). r.rank) (find (λ (r : RankOf). eqb r.number n) (drop (at + 1) ranks))
    → new ≡ option_map (λ (r : RankOf). r.rank) (find (λ (r : RankOf). eqb r.number n) (drop at ranks))
told-more ranks at n d old new lt put was =
    let x = get_or ranks at d in
    let rest = drop (at + 1) ranks in
    let here : drop at ranks ≡ x ∷ rest = drop-cons ranks at d lt ∙ ap (λ i. x ∷ drop i ranks) (sym (add-one at)) in
    put ∙ ap (λ b. cond b (Some x.rank) old) (same-number x.number n) ∙ ap (λ o. cond (eqb x.number n) (Some x.rank) o) was
    ∙ by (eqb x.number n) x (find (λ (r : RankOf). eqb r.number n) rest)
    ∙ ap (λ (rs : List RankOf). option_map (λ (r : RankOf). r.rank) (find (λ (r : RankOf). eqb r.number n) rs)) (sym here)
  where
    by : (b : Bool) (x : RankOf) (o : Option RankOf) → cond b (Some x.rank) (option_map (λ (r : RankOf). r.rank) o) ≡ option_map (λ (r : RankOf). r.rank) (cond b (Some x) o)
    by true x o = refl
    by false x o = refl

-- ---- keys of one field

pub sum-one : (ws : List ℕ) (d : ℕ) → length ws ≡ 1 → get_or ws 0 d ≡ sum ws
sum-one [] d e = absurd (omega (arith, e))
sum-one (w ∷ []) d e = let s = sum_by-cons (λ (n : ℕ). n) w [] in omega (arith, s)
sum-one (w ∷ x ∷ ws) d e = absurd (omega (arith, e))

pub sum-short : (ws : List ℕ) → length ws ≡ 1 → are_widths ws ≡ true → sum ws ≤ 128
sum-short [] e h = absurd (omega (arith, e))
sum-short (w ∷ []) e h =
    let s = sum_by-cons (λ (n : ℕ). n) w [] in
    let le : w ≤ 128 = leb-true w 128 (and_parts (leb 1 w) (leb w 128) (and_parts (leb 1 w && leb w 128) true h).0).1 in
    omega (arith, s, le)
sum-short (w ∷ x ∷ ws) e h = absurd (omega (arith, e))

-- ---- the rank of a cell's entry

pub rank-is : (k : Kind) (t : TableName) (m : Memory) (bits : ℕ) (mask : List ℕ) (x n : ℕ) → is_of_kind k m ≡ true → written_mask bits m mask ≡ x → rank_in k t (number_of mask) n ≡ rank_in k t x n
rank-is kind.Keyless t m bits mask x n is e = refl
rank-is kind.Exact t m bits mask x n is e = refl
rank-is kind.Prefix t Without bits mask x n is e = absurd (false≢true is)
rank-is kind.Prefix t (Exact k p d w ks rs cs) bits mask x n is e = absurd (false≢true is)
rank-is kind.Prefix t (Ternary d ks rs cs) bits mask x n is e = ap (λ y. rank_in kind.Prefix t y n) e
rank-is kind.Ternary t m bits mask x n is e = refl

pub mask-fits : (c : Config) (p : PartAt) (st : PartStands c p) (n : ℕ) (mask : List ℕ) → (m : Memory) → p.slot.memory ≡ m → is_of_kind kind.Prefix m ≡ true
    → written_mask (bits_of_lanes p.slot.keys) m mask ≡ (own_content c p.stage p.place n).mask → number_of mask < 2 ^ bits_of_lanes p.slot.keys
mask-fits c p st n mask Without e is w = absurd (false≢true is)
mask-fits c p st n mask (Exact k per d f ks rs cs) e is w = absurd (false≢true is)
mask-fits c p st n mask (Ternary d ks rs cs) e is w = subst (λ x. x < 2 ^ bits_of_lanes p.slot.keys) (sym w) (mask-small c p st d ks rs cs e n)
