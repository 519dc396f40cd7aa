-- The steps of the loops that start stages.
use Rattle.std.proofs.Common.{◌≡◌, ℕ, suc, ◌+◌, ◌-◌, ◌*◌, ◌<◌, ◌≤◌, List, [], ◌∷◌, ◌++◌, length, get_or, drop, filter, map, max, Bool, true, false, cond, drop-cons, add-one, length-append, inl, inr, sym, refl, ap, ◌∙◌, arith}
use Rattle.std.specs.List.{flat_map, fold, range_with_len}
use Rattle.std.specs.Prelude.{slice_index}
use Rattle.std.proofs.Math.ListN.{get_or-append}
use Rattle.std.proofs.Math.Seq.{get_or-append_seam}
use Rattle.std.proofs.lemmas.Bool.{cases_lt}
use Rattle.std.proofs.lemmas.Grind.{flat_map-append}
use Rattle.std.proofs.lemmas.List.Sums.{fold-append}
use Rattle.rmt_bits.proofs.ListLaws.{range_more}
use Rattle.rmt_bits.specs.Members.{is_among}
use Rattle.rmt_ast.specs.declared.deps.Edge.{Edge}
use Rattle.rmt_pack.specs.declared.placement.Part.{Part}
use Rattle.rmt_pack.specs.Starts.{stages_of}
use Rattle.rmt_place.specs.Starting.{next_start}
use Rattle.rmt_place.specs.Steps.{AreEarly}

-- the starts behind the stages from one on in which a node has a part
abbrev pub starts_from : List ℕ → List Part → ℕ → ℕ → ℕ → ℕ → List ℕ
starts_from starts parts j many node cycles = map (λ k. slice_index starts k + cycles) (filter (is_among (stages_of parts node)) (range_with_len j many))

-- the starts of the first stages
abbrev pub starts_until : List Edge → List Part → ℕ → List ℕ
starts_until edges parts k = fold (λ starts _. starts ++ next_start edges parts starts ∷ []) [] (range_with_len 0 k)

-- one stage more is passed, where the node has a part or not
passed : (here : Bool) (f : ℕ → ℕ) (latest j : ℕ) (rest : List ℕ)
    → fold max (cond here (max latest (f j)) latest) (map f rest) ≡ fold max latest (map f (cond here (j ∷ rest) rest))
passed true f latest j rest = refl
passed false f latest j rest = refl

pub stage_passed : (starts : List ℕ) (parts : List Part) (j n node cycles latest : ℕ) → j < n
    → fold max (cond (is_among (stages_of parts node) j) (max latest (slice_index starts j + cycles)) latest) (starts_from starts parts (j + 1) (n - (j + 1)) node cycles)
    ≡ fold max latest (starts_from starts parts j (n - j) node cycles)
stage_passed starts parts j n node cycles latest lt =
    let more : n - j ≡ suc (n - (j + 1)) = omega arith in
    passed (is_among (stages_of parts node) j) (λ k. slice_index starts k + cycles) latest j (filter (is_among (stages_of parts node)) (range_with_len (j + 1) (n - (j + 1))))
    ∙ sym (ap (λ m. fold max latest (starts_from starts parts j m node cycles)) more)

-- the same where code tells by a test whether the node has a part there
pub stage_passed_by : (starts : List ℕ) (parts : List Part) (j n node cycles latest now : ℕ) (here : Bool) → j < n → here ≡ is_among (stages_of parts node) j
    → now ≡ cond here (max latest (slice_index starts j + cycles)) latest
    → fold max now (starts_from starts parts (j + 1) (n - (j + 1)) node cycles) ≡ fold max latest (starts_from starts parts j (n - j) node cycles)
stage_passed_by starts parts j n node cycles latest now here lt is now_is =
    ap (λ m. fold max m (starts_from starts parts (j + 1) (n - (j + 1)) node cycles)) (now_is ∙ ap (λ b. cond b (max latest (slice_index starts j + cycles)) latest) is)
    ∙ stage_passed starts parts j n node cycles latest lt

-- one edge more is passed
pub edge_passed : (asked : Edge → List ℕ) (edges : List Edge) (i latest : ℕ) (d : Edge) → i < length edges
    → fold max (fold max latest (asked (get_or edges i d))) (flat_map asked (drop (i + 1) edges)) ≡ fold max latest (flat_map asked (drop i edges))
edge_passed asked edges i latest d lt =
    sym (fold-append max latest (asked (get_or edges i d)) (flat_map asked (drop (i + 1) edges)))
    ∙ ap (λ (xs : List Edge). fold max latest (flat_map asked xs)) (let e : get_or edges i d ∷ drop (i + 1) edges ≡ drop i edges = rw (add-one) (sym (drop-cons edges i d lt)) in e)

-- what two lists of edges ask, one behind the other
pub both_asked : (asked : Edge → List ℕ) (field word : List Edge) (start : ℕ)
    → fold max (fold max start (flat_map asked field)) (flat_map asked word) ≡ fold max (max 0 start) (flat_map asked (field ++ word))
both_asked asked field word start =
    sym (fold-append max start (flat_map asked field) (flat_map asked word))
    ∙ (sym (ap (fold max start) (flat_map-append asked field word)) ∙ (let e : start ≡ max 0 start = omega arith in ap (λ m. fold max m (flat_map asked (field ++ word))) e))

-- one stage more is started
pub starts_more : (edges : List Edge) (parts : List Part) (k start : ℕ) (starts : List ℕ) → starts ≡ starts_until edges parts k → start ≡ next_start edges parts starts
    → starts ++ start ∷ [] ≡ starts_until edges parts (k + 1)
starts_more edges parts k start starts is start_is =
    let next : List ℕ → ℕ → List ℕ = λ (xs : List ℕ) (j : ℕ). xs ++ next_start edges parts xs ∷ [] in
    ap (λ s. starts ++ s ∷ []) start_is
    ∙ (ap (λ (xs : List ℕ). xs ++ next_start edges parts xs ∷ []) is
    ∙ sym (ap (fold next []) (range_more 0 k) ∙ fold-append next [] (range_with_len 0 k) ((0 + k) ∷ [])))

-- a start that is early behind others that are
pub early_more : (starts : List ℕ) (start : ℕ) → AreEarly starts → start ≤ 12 * length starts → AreEarly (starts ++ start ∷ [])
early_more starts start early last k below =
    elim (cases_lt k (length starts)) [
      | inl front ↦ omega (arith, get_or-append starts (start ∷ []) 0 k front, early k front)
      | inr behind ↦
          let at : k ≡ length starts = omega (arith, length-append starts (start ∷ [])) in
          let is : get_or (starts ++ start ∷ []) k 0 ≡ start = ap (λ j. get_or (starts ++ start ∷ []) j 0) at ∙ get_or-append_seam starts start [] 0 in
          omega (arith, is)
    ]
