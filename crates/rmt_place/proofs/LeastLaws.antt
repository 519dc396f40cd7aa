-- The starts of a placement keep all distances, and no others that do are smaller anywhere.
use Rattle.std.proofs.Common.{◌≡◌, ℕ, zero, suc, ◌+◌, ◌<◌, ◌≤◌, List, [], ◌∷◌, ◌++◌, length, get_or, filter, max, Bool, true, false, cond, eqb, length-append, inl, inr, sym, refl, subst, ap, ◌∙◌, arith}
use Rattle.std.specs.List.{All, Contains, flat_map, fold, range_with_len}
use Rattle.std.specs.Prelude.{slice_index}
use Rattle.std.proofs.Math.ListN.{get_or-append}
use Rattle.std.proofs.Math.Seq.{get_or-append_seam}
use Rattle.std.proofs.lemmas.Bool.{cases_lt}
use Rattle.std.proofs.lemmas.List.Elements.{All-nil, All-map, All-contains, All-from_get_or, Contains-get_or}
use Rattle.rmt_bits.proofs.AllLaws.{All-flat_map, All-parts, All-unfilter, All-unmap, All-between}
use Rattle.rmt_bits.proofs.ListLaws.{flat_map-none}
use Rattle.rmt_bits.specs.Members.{is_among}
use Rattle.rmt_bits.proofs.MemberLaws.{Contains-from_any, among-Contains}
pub use Rattle.rmt_bits.proofs.MostLaws.{greatest-le, items-le, start-le}
use Rattle.rmt_ast.specs.declared.deps.Edge.{Edge}
use Rattle.rmt_config.specs.Resources.{greatest_by}
use Rattle.rmt_pack.specs.declared.placement.Part.{Part}
use Rattle.rmt_pack.specs.Starts.{distance, stages_of, KeepDistances}
use Rattle.rmt_pack.proofs.FormatLaws.{filtered, of_range}
use Rattle.rmt_place.specs.Starting.{asked_by, next_start, stages_in, starts_behind, starts_of}
use Rattle.rmt_place.proofs.StartLaws.{starts_until, starts_more}

-- ---- numbers in lists

-- ---- starts of the first stages

pub until_next : (edges : List Edge) (parts : List Part) (k : ℕ)
    → starts_until edges parts (k + 1) ≡ starts_until edges parts k ++ next_start edges parts (starts_until edges parts k) ∷ []
until_next edges parts k = sym (starts_more edges parts k (next_start edges parts (starts_until edges parts k)) (starts_until edges parts k) refl refl)

pub length-until : (edges : List Edge) (parts : List Part) (k : ℕ) → length (starts_until edges parts k) ≡ k
length-until edges parts zero = refl
length-until edges parts (suc k) =
    let more : suc k ≡ k + 1 = omega arith in
    let e = ap (λ (m : ℕ). length (starts_until edges parts m)) more ∙ ap length (until_next edges parts k) in
    omega (arith, e, length-append (starts_until edges parts k) (next_start edges parts (starts_until edges parts k) ∷ []), length-until edges parts k)

-- the start of stage k is worked out from those before it alone
pub start_is : (edges : List Edge) (parts : List Part) (m k : ℕ) → k < m → get_or (starts_until edges parts m) k 0 ≡ next_start edges parts (starts_until edges parts k)
start_is edges parts zero k lt = absurd (omega arith)
start_is edges parts (suc m) k lt =
    let before = starts_until edges parts m in
    let next = next_start edges parts before in
    let more : suc m ≡ m + 1 = omega arith in
    let size = length-until edges parts m in
    let e : get_or (starts_until edges parts (suc m)) k 0 ≡ get_or (before ++ next ∷ []) k 0 =
    ap (λ (j : ℕ). get_or (starts_until edges parts j) k 0) more ∙ ap (λ (l : List ℕ). get_or l k 0) (until_next edges parts m) in
    elim (cases_lt k m) [
      | inl earlier ↦ e ∙ (get_or-append before (next ∷ []) 0 k (omega (arith, size)) ∙ start_is edges parts m k earlier)
      | inr last ↦
          let here : k ≡ length before = omega (arith, size) in
          let at : k ≡ m = omega arith in
          e ∙ (ap (λ (j : ℕ). get_or (before ++ next ∷ []) j 0) here ∙ (get_or-append_seam before next [] 0 ∙ ap (λ (j : ℕ). next_start edges parts (starts_until edges parts j)) (sym at)))
    ]

-- so it doesn't change with later stages
pub start_stays : (edges : List Edge) (parts : List Part) (m k : ℕ) (j : ℕ) → j < k → k ≤ m → get_or (starts_until edges parts k) j 0 ≡ get_or (starts_until edges parts m) j 0
start_stays edges parts m k j lt le = start_is edges parts k j lt ∙ sym (start_is edges parts m j (omega arith))

-- the next start is behind all before it, and keeps what each edge asks
next-behind : (edges : List Edge) (parts : List Part) (starts : List ℕ) (j : ℕ) → j < length starts → get_or starts j 0 + 1 ≤ next_start edges parts starts
next-behind edges parts starts j lt =
    let rising = greatest_by (λ start. start + 1) starts in
    let one : get_or starts j 0 + 1 ≤ rising = items-le (λ start. start + 1) 0 starts j 0 lt in
    omega (arith, one, start-le (λ s. s) (max 0 rising) (flat_map (asked_by starts parts (length starts)) edges))

next-asked : (edges : List Edge) (parts : List Part) (starts : List ℕ) (e : Edge) (j : ℕ) → Contains edges e → Contains (stages_of parts e.from) j
    → Contains (stages_of parts e.to) (length starts) → j < length starts → get_or starts j 0 + distance e.kind ≤ next_start edges parts starts
next-asked edges parts starts e j there from to lt =
    let k = length starts in
    let next = next_start edges parts starts in
    let asked = asked_by starts parts k in
    let rising = greatest_by (λ start. start + 1) starts in
    let all : All (λ s. s ≤ next) (flat_map asked edges) = items-le (λ s. s) (max 0 rising) (flat_map asked edges) in
    let own : All (λ s. s ≤ next) (asked e) = All-contains (λ x. All (λ s. s ≤ next) (asked x)) edges e (All-parts (λ s. s ≤ next) asked edges all) there in
    let behind : All (λ s. s ≤ next) (starts_behind starts parts k e.from (distance e.kind)) =
    subst (λ (b : Bool). All (λ s. s ≤ next) (cond b (starts_behind starts parts k e.from (distance e.kind)) [])) (among-Contains (stages_of parts e.to) k to) own in
    let kept : All (λ i. get_or starts i 0 + distance e.kind ≤ next) (filter (is_among (stages_of parts e.from)) (range_with_len 0 k)) =
    All-unmap (λ s. s ≤ next) (λ i. slice_index starts i + distance e.kind) (filter (is_among (stages_of parts e.from)) (range_with_len 0 k)) behind in
    of_range (λ i. is_among (stages_of parts e.from) i ≡ true → get_or starts i 0 + distance e.kind ≤ next) 0 k j (omega arith) (omega arith)
    (All-unfilter (λ i. get_or starts i 0 + distance e.kind ≤ next) (is_among (stages_of parts e.from)) (range_with_len 0 k) kept)
    (among-Contains (stages_of parts e.from) j from)

-- ---- all stages

-- each part stands before the end
pub stage-lt : (parts : List Part) (n k : ℕ) → Contains (stages_of parts n) k → k < stages_in parts
stage-lt parts n k there =
    let all : All (λ (x : Part). x.stage + 1 ≤ stages_in parts) parts = items-le (λ (x : Part). x.stage + 1) 0 parts in
    let own : All (λ (x : Part). x.stage < stages_in parts) (filter (λ (x : Part). eqb x.node n) parts) =
    filtered (λ (x : Part). x.stage < stages_in parts) (λ (x : Part). eqb x.node n) parts (λ i d lt _. (let one : (get_or parts i d).stage + 1 ≤ stages_in parts = all i d lt in omega arith)) in
    All-contains (λ j. j < stages_in parts) (stages_of parts n) k (All-map (λ j. j < stages_in parts) (λ (x : Part). x.stage) (filter (λ (x : Part). eqb x.node n) parts) own) there

asked_nothing : (parts : List Part) (e : Edge) → asked_by [] parts 0 e ≡ []
asked_nothing parts e = by_cases (is_among (stages_of parts e.to) 0)
  where
    by_cases : (b : Bool) → cond b (starts_behind [] parts 0 e.from (distance e.kind)) [] ≡ []
    by_cases true = refl
    by_cases false = refl

first_start : (edges : List Edge) (parts : List Part) → next_start edges parts [] ≡ 0
first_start edges parts =
    ap (λ (l : List ℕ). fold (λ most x. max most x) (max 0 0) l) (flat_map-none (asked_by [] parts 0) edges (λ i d lt. asked_nothing parts (get_or edges i d)))

-- The starts keep all distances.
pub starts_kept : (edges : List Edge) (parts : List Part) → KeepDistances edges parts (starts_of edges parts)
starts_kept edges parts =
    let m = stages_in parts in
    let size = length-until edges parts m in
    record {
      first = λ some. start_is edges parts m 0 (omega (arith, size)) ∙ first_start edges parts;
      rise = λ j k lt below.
          let next = next-behind edges parts (starts_until edges parts k) j (omega (arith, length-until edges parts k)) in
          omega (arith, next, start_is edges parts m k (omega (arith, size)), start_stays edges parts m k j lt (omega (arith, size)));
      apart = λ e j k there from to lt.
          let sized = length-until edges parts k in
          let below = stage-lt parts e.to k to in
          let next = next-asked edges parts (starts_until edges parts k) e j there from (subst (λ (i : ℕ). Contains (stages_of parts e.to) i) (sym sized) to) (omega (arith, sized)) in
          omega (arith, next, start_is edges parts m k below, start_stays edges parts m k j lt (omega arith));
    }

-- ---- no others are smaller

-- what is asked behind starts that are not greater than others is not greater than those
next-le : (edges : List Edge) (parts : List Part) (starts others : List ℕ) (k : ℕ) → KeepDistances edges parts others → length starts ≡ k → k < length others
    → ((j : ℕ) → j < k → get_or starts j 0 ≤ get_or others j 0) → next_start edges parts starts ≤ get_or others k 0
next-le edges parts starts others k keep size below earlier =
    let most = get_or others k 0 in
    let rising : greatest_by (λ start. start + 1) starts ≤ most =
    greatest-le (λ start. start + 1) 0 most starts (omega arith)
    (All-from_get_or (λ s. s + 1 ≤ most) starts 0 (λ j lt. omega (arith, earlier j (omega (arith, size)), keep.rise j k (omega (arith, size)) below))) in
    let asked : All (λ s. s ≤ most) (flat_map (asked_by starts parts (length starts)) edges) =
    All-flat_map (λ s. s ≤ most) (asked_by starts parts (length starts)) edges
    (λ i d lt. asked_one (get_or edges i d) (Contains-get_or edges i d lt)) in
    greatest-le (λ s. s) (max 0 (greatest_by (λ start. start + 1) starts)) most (flat_map (asked_by starts parts (length starts)) edges) (omega arith) asked
  where
    asked_one : (e : Edge) → Contains edges e → All (λ s. s ≤ get_or others k 0) (asked_by starts parts (length starts) e)
    asked_one e there = by_stage (is_among (stages_of parts e.to) (length starts)) refl
      where
        by_stage : (b : Bool) → is_among (stages_of parts e.to) (length starts) ≡ b → All (λ s. s ≤ get_or others k 0) (cond b (starts_behind starts parts (length starts) e.from (distance e.kind)) [])
        by_stage false _ = All-nil (λ s. s ≤ get_or others k 0)
        by_stage true is =
            All-map (λ s. s ≤ get_or others k 0) (λ i. slice_index starts i + distance e.kind) (filter (is_among (stages_of parts e.from)) (range_with_len 0 (length starts)))
            (filtered (λ i. get_or starts i 0 + distance e.kind ≤ get_or others k 0) (is_among (stages_of parts e.from)) (range_with_len 0 (length starts))
            (All-between (λ i. is_among (stages_of parts e.from) i ≡ true → get_or starts i 0 + distance e.kind ≤ get_or others k 0) 0 (length starts)
            (λ i low high from.
            (let at : length starts ≡ k = size in
            let to : Contains (stages_of parts e.to) k = subst (λ (j : ℕ). Contains (stages_of parts e.to) j) at (Contains-from_any (stages_of parts e.to) (length starts) is) in
            let far = keep.apart e i k there (Contains-from_any (stages_of parts e.from) i from) to (omega arith) in
            omega (arith, far, earlier i (omega arith))))))

-- No start of starts that keep the distances is smaller.
pub starts_least : (edges : List Edge) (parts : List Part) (others : List ℕ) → KeepDistances edges parts others → stages_in parts ≤ length others
    → (k : ℕ) → k < stages_in parts → get_or (starts_of edges parts) k 0 ≤ get_or others k 0
starts_least edges parts others keep enough k lt = up_to (k + 1) (omega arith) k (omega arith)
  where
    up_to : (n : ℕ) → n ≤ stages_in parts → (j : ℕ) → j < n → get_or (starts_of edges parts) j 0 ≤ get_or others j 0
    up_to zero few j below = absurd (omega arith)
    up_to (suc n) few j below =
        let earlier = up_to n (omega arith) in
        elim (cases_lt j n) [
          | inl front ↦ earlier j front
          | inr last ↦
              let at : j ≡ n = omega arith in
              let here : get_or (starts_of edges parts) n 0 ≤ get_or others n 0 =
              (let next = next-le edges parts (starts_until edges parts n) others n keep (length-until edges parts n) (omega arith)
              (λ i lt. (let e = earlier i lt in omega (arith, e, start_stays edges parts (stages_in parts) n i lt (omega arith)))) in
              omega (arith, next, start_is edges parts (stages_in parts) n (omega arith))) in
              subst (λ (i : ℕ). get_or (starts_of edges parts) i 0 ≤ get_or others i 0) (sym at) here
        ]
