-- Runs of counters, one after another.
use Rattle.std.proofs.Common.{◌≡◌, ℕ, zero, suc, ◌+◌, ◌-◌, ◌<◌, ◌≤◌, ◌++◌, List, [], ◌∷◌, length, map, take, drop, set, get_or, add-one, refl, sym, ap, subst, ◌∙◌, append_assoc, arith}
use Rattle.std.specs.Prelude.{All, insert, slice_get}
use Rattle.std.specs.List.{sum_by}
use Rattle.std.proofs.lemmas.List.{take-append-drop, drop_more, set_split, length-append, length-map, length-set, map-append, map-set, set-get_or, get_or-map, get_or_read, take-map, drop-map, take-set, take_more_set, drop-set-lt, drop-drop, drop_at}
use Rattle.std.proofs.lemmas.List.Concat.{flat_map-append}
use Rattle.std.proofs.lemmas.List.Elements.{All-append, All-cons, All-head, All-set, All-take, All-drop, All-get_or}
use Rattle.std.proofs.lemmas.List.Sums.{sum_by-append, sum_by-cons, sum_by-set}
use Rattle.std.proofs.lemmas.Option.{slice_get_past}
use Rattle.rmt_bits.specs.declared.answer.Count.{Count}
use Rattle.rmt_bits.specs.Counting.{counted, with_hit, AreRising, with_count, joined, sizes_of, HaveRoom}
use Rattle.rmt_bits.proofs.CountLaws.{counted-among, with_count-among, with_count-length, with_count-rises, with_count-some}
use Rattle.rmt_bits.proofs.PairLaws.{AllPairs-head, AllPairs-left, AllPairs-right, AllPairs-across}

abbrev rises : Count → Count → Type 0
rises a b = a.entry < b.entry

-- the counters of a run stand between those of the runs before it and of those behind it
pub parts_of : {X : Type 0} (xs : List X) (k : ℕ) (d : X) → k < length xs → xs ≡ take k xs ++ get_or xs k d ∷ drop (k + 1) xs
parts_of xs k d lt = sym (take-append-drop k xs) ∙ ap (λ ys. take k xs ++ ys) (drop_more xs k d lt)

pub joined_parts : (runs : List (List Count)) (k : ℕ) → k < length runs → joined runs ≡ joined (take k runs) ++ (get_or runs k [] ++ joined (drop (k + 1) runs))
joined_parts runs k lt =
    ap joined (parts_of runs k [] lt) ∙ flat_map-append (λ (run : List Count). run) (take k runs) (get_or runs k [] ∷ drop (k + 1) runs)

pub set_parts : {X : Type 0} (xs : List X) (k : ℕ) (x : X) → k < length xs → set xs k x ≡ take k xs ++ x ∷ drop (k + 1) xs
set_parts xs k x lt = set_split xs k x lt ∙ ap (λ n. take k xs ++ x ∷ drop n xs) (sym (add-one k))

pub joined_set : (runs : List (List Count)) (k : ℕ) (run : List Count) → k < length runs → joined (set runs k run) ≡ joined (take k runs) ++ (run ++ joined (drop (k + 1) runs))
joined_set runs k run lt =
    ap joined (set_parts runs k run lt) ∙ flat_map-append (λ (run : List Count). run) (take k runs) (run ∷ drop (k + 1) runs)

pub run-rises : (runs : List (List Count)) (k : ℕ) → k < length runs → AreRising (joined runs) → AreRising (get_or runs k [])
run-rises runs k lt rising =
    AllPairs-left rises (get_or runs k []) (joined (drop (k + 1) runs))
    (AllPairs-right rises (joined (take k runs)) (get_or runs k [] ++ joined (drop (k + 1) runs)) (subst AreRising (joined_parts runs k lt) rising))

-- a hit and a number change the run in which the number belongs
pub record Belongs (runs : List (List Count)) (k n : ℕ) : Type 0 where
  pub inside : k < length runs
  pub rising : AreRising (joined runs)
  pub below : All (λ (c : Count). c.entry < n) (joined (take k runs))
  pub above : All (λ (c : Count). n < c.entry) (joined (drop (k + 1) runs))

pub joined_hit : (runs : List (List Count)) (k n b : ℕ) (run : List Count) → Belongs runs k n
    → (AreRising (get_or runs k []) → run ≡ counted b (get_or runs k []) n) → joined (set runs k run) ≡ counted b (joined runs) n
joined_hit runs k n b run h hit =
    joined_set runs k run h.inside
    ∙ ap (λ (cs : List Count). joined (take k runs) ++ (cs ++ joined (drop (k + 1) runs))) (hit (run-rises runs k h.inside h.rising))
    ∙ counted-among (joined (take k runs)) (get_or runs k []) (joined (drop (k + 1) runs)) n b h.below h.above
    ∙ ap (λ (cs : List Count). counted b cs n) (sym (joined_parts runs k h.inside))

pub record Grown (runs : List (List Count)) (k n : ℕ) (run : List Count) : Type 0 where
  pub joined_is : joined (set runs k run) ≡ with_count n (joined runs)
  pub rising : AreRising (joined (set runs k run))
  pub lower : length (get_or runs k []) ≤ length run
  pub upper : length run ≤ length (get_or runs k []) + 1
  pub some : 0 < length run
  pub total : length (joined (set runs k run)) + length (get_or runs k []) ≡ length (joined runs) + length run

pub grown : (runs : List (List Count)) (k n : ℕ) (run : List Count) → Belongs runs k n → (AreRising (get_or runs k []) → run ≡ with_count n (get_or runs k [])) → Grown runs k n run
grown runs k n run h add =
    let old = get_or runs k [] in
    let low = joined (take k runs) in
    let high = joined (drop (k + 1) runs) in
    let is = add (run-rises runs k h.inside h.rising) in
    let whole = joined_set runs k run h.inside
    ∙ ap (λ (cs : List Count). low ++ (cs ++ high)) is
    ∙ with_count-among low old high n h.below h.above
    ∙ ap (with_count n) (sym (joined_parts runs k h.inside)) in
    let size : length run ≡ length (with_count n old) = ap (λ (cs : List Count). length cs) is in
    let bounds = with_count-length n old in
    let lower = bounds.0 in
    let upper = bounds.1 in
    let after : length (joined (set runs k run)) ≡ length (low ++ (run ++ high)) = ap (λ (cs : List Count). length cs) (joined_set runs k run h.inside) in
    let before : length (joined runs) ≡ length (low ++ (old ++ high)) = ap (λ (cs : List Count). length cs) (joined_parts runs k h.inside) in
    record {
      joined_is = whole;
      rising = subst AreRising (sym whole) (with_count-rises n (joined runs) h.rising);
      lower = omega (arith, lower, size);
      upper = omega (arith, upper, size);
      some = omega (arith, with_count-some n old, size);
      total = omega (arith, after, before, length-append low (run ++ high), length-append run high, length-append low (old ++ high), length-append old high);
    }

-- the counters of the runs before one whose first number is n or lower are below n, and those from one on whose first
-- number is above n are above it
first_of : (c : Count) (low rest high : List Count) (n : ℕ) → AreRising (low ++ (c ∷ rest ++ high)) → c.entry ≤ n → All (λ (x : Count). x.entry < n) low
first_of c low rest high n rising le k d lt =
    let across = AllPairs-across rises low (c ∷ (rest ++ high)) rising k d lt in
    let up = All-head (rises (get_or low k d)) c (rest ++ high) across in
    omega (arith, up)

above_first : (c : Count) (low rest high : List Count) (n : ℕ) → AreRising (low ++ (c ∷ rest ++ high)) → n < c.entry → All (λ (x : Count). n < x.entry) (c ∷ rest ++ high)
above_first c low rest high n rising lt =
    All-cons (λ (x : Count). n < x.entry) c (rest ++ high) lt
    (λ k d inside. let up = AllPairs-head rises c (rest ++ high) (AllPairs-right rises low (c ∷ (rest ++ high)) rising) k d inside in omega (arith, up))

pub below_run : (runs : List (List Count)) (k n : ℕ) (d : Count) → k < length runs → AreRising (joined runs) → 0 < length (get_or runs k []) → (get_or (get_or runs k []) 0 d).entry ≤ n
    → All (λ (c : Count). c.entry < n) (joined (take k runs))
below_run runs k n d lt rising some le = by (get_or runs k []) some le (subst AreRising (joined_parts runs k lt) rising)
  where
    by : (run : List Count) → 0 < length run → (get_or run 0 d).entry ≤ n → AreRising (joined (take k runs) ++ (run ++ joined (drop (k + 1) runs))) → All (λ (c : Count). c.entry < n) (joined (take k runs))
    by [] some le rising = absurd (omega (arith, some))
    by (c ∷ rest) some le rising = first_of c (joined (take k runs)) rest (joined (drop (k + 1) runs)) n rising le

pub above_run : (runs : List (List Count)) (k n : ℕ) (d : Count) → k < length runs → AreRising (joined runs) → 0 < length (get_or runs k []) → n < (get_or (get_or runs k []) 0 d).entry
    → All (λ (c : Count). n < c.entry) (joined (drop k runs))
above_run runs k n d lt rising some less = by (get_or runs k []) refl some less (subst AreRising (joined_parts runs k lt) rising)
  where
    by : (run : List Count) → get_or runs k [] ≡ run → 0 < length run → n < (get_or run 0 d).entry → AreRising (joined (take k runs) ++ (run ++ joined (drop (k + 1) runs))) → All (λ (c : Count). n < c.entry) (joined (drop k runs))
    by [] is some less rising = absurd (omega (arith, some))
    by (c ∷ rest) is some less rising =
        let is_rest : joined (drop k runs) ≡ c ∷ rest ++ joined (drop (k + 1) runs) =
        ap joined (drop_more runs k [] lt) ∙ ap (λ (run : List Count). run ++ joined (drop (k + 1) runs)) is in
        subst (λ (cs : List Count). All (λ (c : Count). n < c.entry) cs) (sym is_rest) (above_first c (joined (take k runs)) rest (joined (drop (k + 1) runs)) n rising less)

-- none but the first run is empty
pub run-some : (runs : List (List Count)) (k : ℕ) → 0 < k → k < length runs → All (λ n. 0 < n) (drop 1 (sizes_of runs)) → 0 < length (get_or runs k [])
run-some [] k some lt filled = absurd (omega (arith, lt))
run-some (run ∷ runs) zero some lt filled = absurd (omega (arith, some))
run-some (run ∷ runs) (suc k) some lt filled =
    let inside : k < length runs = omega (arith, lt) in
    subst (λ n. 0 < n) (get_or-map (λ (run : List Count). length run) runs k [] 0 inside)
    (All-get_or (λ n. 0 < n) (sizes_of runs) k 0 (subst (λ m. k < m) (sym (length-map runs (λ (run : List Count). length run))) inside) filled)

-- sizes after a change of one run
pub sizes_set : (runs : List (List Count)) (k : ℕ) (run : List Count) → sizes_of (set runs k run) ≡ set (sizes_of runs) k (length run)
sizes_set runs k run = map-set (λ (run : List Count). length run) runs k run

pub sizes_same : (runs : List (List Count)) (k : ℕ) (run : List Count) → k < length runs → length run ≡ length (get_or runs k []) → sizes_of (set runs k run) ≡ sizes_of runs
sizes_same runs k run lt same =
    sizes_set runs k run
    ∙ ap (λ n. set (sizes_of runs) k n) (same ∙ sym (get_or-map (λ (run : List Count). length run) runs k [] 0 lt))
    ∙ set-get_or (sizes_of runs) k 0

-- a run takes a number more or none, for which there is room
filled_set : (sizes : List ℕ) (k n : ℕ) → 0 < n → All (λ m. 0 < m) (drop 1 sizes) → All (λ m. 0 < m) (drop 1 (set sizes k n))
filled_set [] k n some filled = filled
filled_set (s ∷ sizes) zero n some filled = filled
filled_set (s ∷ sizes) (suc k) n some filled = All-set (λ m. 0 < m) sizes k n some filled

pub HaveRoom-set : (sizes : List ℕ) (free room k n more : ℕ) → HaveRoom sizes free room → k < length sizes → 0 < n → n < 256 → n ≡ get_or sizes k 0 + more → more ≤ 1 → more ≤ room
    → HaveRoom (set sizes k n) free (room - more)
HaveRoom-set sizes free room k n more h lt some small is one within = record {
  small = All-set (λ m. m < 256) sizes k n small h.small;
  filled = filled_set sizes k n some h.filled;
  spare = let spare = h.spare in let change = sum_by-set (λ m. m - 128) sizes k n 0 lt in omega (arith, spare, change, is, one, within);
  begun = λ left. let begun : 0 < length sizes = h.begun (omega (arith, left)) in subst (λ m. 0 < m) (sym (length-set sizes k n)) begun;
}

-- a full run is cut in two, for which there is a free one
filled_cut : (sizes : List ℕ) (k : ℕ) → All (λ m. 0 < m) (drop 1 sizes) → All (λ m. 0 < m) (drop 1 (take k sizes ++ 128 ∷ 128 ∷ drop (k + 1) sizes))
filled_cut sizes k filled = subst (λ n. All (λ m. 0 < m) (drop 1 (take k sizes ++ 128 ∷ 128 ∷ drop n sizes))) (sym (add-one k)) (by sizes k filled)
  where
    half : (rest : List ℕ) → All (λ m. 0 < m) rest → All (λ m. 0 < m) (128 ∷ rest)
    half rest all = All-cons (λ m. 0 < m) 128 rest (omega arith) all

    by : (sizes : List ℕ) (k : ℕ) → All (λ m. 0 < m) (drop 1 sizes) → All (λ m. 0 < m) (drop 1 (take k sizes ++ 128 ∷ 128 ∷ drop (suc k) sizes))
    by [] zero filled = half [] filled
    by [] (suc k) filled = half [] filled
    by (s ∷ sizes) zero filled = half sizes filled
    by (s ∷ sizes) (suc k) filled =
        All-append (λ m. 0 < m) (take k sizes) (128 ∷ 128 ∷ drop (suc k) sizes) (All-take (λ m. 0 < m) k sizes filled)
        (half (128 ∷ drop (suc k) sizes) (half (drop (suc k) sizes) (All-drop (λ m. 0 < m) (suc k) sizes filled)))

over_cut : (sizes : List ℕ) (k : ℕ) → k < length sizes → get_or sizes k 0 ≡ 255
    → sum_by (λ m. m - 128) sizes ≡ sum_by (λ m. m - 128) (take k sizes ++ 128 ∷ 128 ∷ drop (k + 1) sizes) + 127
over_cut sizes k lt full =
    let f : ℕ → ℕ = λ m. m - 128 in
    let rest = drop (k + 1) sizes in
    let old : sum_by f sizes ≡ sum_by f (take k sizes) + (f (get_or sizes k 0) + sum_by f rest) =
    ap (sum_by f) (parts_of sizes k 0 lt) ∙ sum_by-append f (take k sizes) (get_or sizes k 0 ∷ rest) ∙ ap (λ n. sum_by f (take k sizes) + n) (sum_by-cons f (get_or sizes k 0) rest) in
    let new : sum_by f (take k sizes ++ 128 ∷ 128 ∷ rest) ≡ sum_by f (take k sizes) + (0 + (0 + sum_by f rest)) =
    sum_by-append f (take k sizes) (128 ∷ 128 ∷ rest) ∙ ap (λ n. sum_by f (take k sizes) + n) (sum_by-cons f 128 (128 ∷ rest) ∙ ap (λ n. 0 + n) (sum_by-cons f 128 rest)) in
    omega (arith, old, new, full)

pub HaveRoom-cut : (sizes : List ℕ) (free room k : ℕ) → HaveRoom sizes free room → k < length sizes → get_or sizes k 0 ≡ 255 → 0 < room
    → (0 < free) × HaveRoom (take k sizes ++ 128 ∷ 128 ∷ drop (k + 1) sizes) (free - 1) (room - 1)
HaveRoom-cut sizes free room k h lt full some =
    let spare = h.spare in
    let cut = over_cut sizes k lt full in (
      omega (arith, spare, cut, some),
      record {
        small = All-append (λ m. m < 256) (take k sizes) (128 ∷ 128 ∷ drop (k + 1) sizes) (All-take (λ m. m < 256) k sizes h.small)
            (All-cons (λ m. m < 256) 128 (128 ∷ drop (k + 1) sizes) (omega arith) (All-cons (λ m. m < 256) 128 (drop (k + 1) sizes) (omega arith) (All-drop (λ m. m < 256) (k + 1) sizes h.small)));
        filled = filled_cut sizes k h.filled;
        spare = omega (arith, spare, cut, some);
        begun = λ left. omega (arith, length-append (take k sizes) (128 ∷ 128 ∷ drop (k + 1) sizes));
      },
    )

-- where a number belongs, as a look-up says it of the same runs
pub belongs : (seen runs : List (List Count)) (k n : ℕ) → seen ≡ runs → AreRising (joined runs) → k < length seen
    → All (λ (c : Count). c.entry < n) (joined (take k seen)) → All (λ (c : Count). n < c.entry) (joined (drop (k + 1) seen)) → Belongs runs k n
belongs seen runs k n same rising inside below above = record {
  inside = subst (λ (xs : List (List Count)). k < length xs) same inside;
  rising = rising;
  below = subst (λ (xs : List (List Count)). All (λ (c : Count). c.entry < n) (joined (take k xs))) same below;
  above = subst (λ (xs : List (List Count)). All (λ (c : Count). n < c.entry) (joined (drop (k + 1) xs))) same above;
}

pub run-small : (runs : List (List Count)) (k : ℕ) → k < length runs → All (λ n. n < 256) (sizes_of runs) → length (get_or runs k []) < 256
run-small runs k lt small =
    subst (λ n. n < 256) (get_or-map (λ (run : List Count). length run) runs k [] 0 lt)
    (All-get_or (λ n. n < 256) (sizes_of runs) k 0 (subst (λ m. k < m) (sym (length-map runs (λ (run : List Count). length run))) lt) small)

-- a run that is cut in two
pub cut_parts : {X : Type 0} (xs : List X) (k : ℕ) (low high : X) → k < length xs → insert (set xs k low) (k + 1) high ≡ take k xs ++ low ∷ high ∷ drop (k + 1) xs
cut_parts xs k low high lt =
    ap (λ ys. ys ++ high ∷ drop (k + 1) (set xs k low)) (take_more_set xs k low lt)
    ∙ ap (λ ys. (take k xs ++ low ∷ []) ++ high ∷ ys) (drop-set-lt (k + 1) xs k low (omega arith))
    ∙ append_assoc (take k xs) (low ∷ []) (high ∷ drop (k + 1) xs)

pub joined_cut : (runs : List (List Count)) (k : ℕ) (low high : List Count) → k < length runs → low ++ high ≡ get_or runs k [] → joined (insert (set runs k low) (k + 1) high) ≡ joined runs
joined_cut runs k low high lt whole =
    ap joined (cut_parts runs k low high lt)
    ∙ flat_map-append (λ (run : List Count). run) (take k runs) (low ∷ high ∷ drop (k + 1) runs)
    ∙ ap (λ (cs : List Count). joined (take k runs) ++ cs) (sym (append_assoc low high (joined (drop (k + 1) runs))) ∙ ap (λ (cs : List Count). cs ++ joined (drop (k + 1) runs)) whole)
    ∙ sym (joined_parts runs k lt)

pub sizes_cut : (runs : List (List Count)) (k : ℕ) (low high : List Count) → k < length runs → length low ≡ 128 → length high ≡ 128
    → sizes_of (insert (set runs k low) (k + 1) high) ≡ take k (sizes_of runs) ++ 128 ∷ 128 ∷ drop (k + 1) (sizes_of runs)
sizes_cut runs k low high lt lower upper =
    let size : List Count → ℕ = λ run. length run in
    ap sizes_of (cut_parts runs k low high lt)
    ∙ map-append size (take k runs) (low ∷ high ∷ drop (k + 1) runs)
    ∙ ap (λ (ns : List ℕ). ns ++ length low ∷ length high ∷ map size (drop (k + 1) runs)) (sym (take-map size k runs))
    ∙ ap (λ (ns : List ℕ). take k (sizes_of runs) ++ length low ∷ length high ∷ ns) (sym (drop-map size (k + 1) runs))
    ∙ ap (λ (n : ℕ). take k (sizes_of runs) ++ n ∷ length high ∷ drop (k + 1) (sizes_of runs)) lower
    ∙ ap (λ (n : ℕ). take k (sizes_of runs) ++ 128 ∷ n ∷ drop (k + 1) (sizes_of runs)) upper

pub sizes_around : (runs : List (List Count)) (k : ℕ) (run : List Count)
    → take k (sizes_of (set runs k run)) ++ 128 ∷ 128 ∷ drop (k + 1) (sizes_of (set runs k run)) ≡ take k (sizes_of runs) ++ 128 ∷ 128 ∷ drop (k + 1) (sizes_of runs)
sizes_around runs k run =
    ap (λ (ns : List ℕ). take k ns ++ 128 ∷ 128 ∷ drop (k + 1) ns) (sizes_set runs k run)
    ∙ ap (λ (ns : List ℕ). ns ++ 128 ∷ 128 ∷ drop (k + 1) (set (sizes_of runs) k (length run))) (take-set (sizes_of runs) k (length run))
    ∙ ap (λ (ns : List ℕ). take k (sizes_of runs) ++ 128 ∷ 128 ∷ ns) (drop-set-lt (k + 1) (sizes_of runs) k (length run) (omega arith))

-- what stands behind a whole run
pub drop_past : {X : Type 0} (xs ys : List X) (n : ℕ) → length xs ≤ n → drop n (xs ++ ys) ≡ drop (n - length xs) ys
drop_past xs ys n le =
    let whole : n ≡ length xs + (n - length xs) = omega (arith, le) in
    ap (λ m. drop m (xs ++ ys)) whole ∙ sym (drop-drop (n - length xs) (length xs) (xs ++ ys)) ∙ ap (drop (n - length xs)) (drop_at xs ys (length xs) refl)

slice_get-drop : {X : Type 0} (xs : List X) (n : ℕ) → slice_get xs n ≡ slice_get (drop n xs) 0
slice_get-drop [] zero = refl
slice_get-drop [] (suc n) = refl
slice_get-drop (x ∷ xs) zero = refl
slice_get-drop (x ∷ xs) (suc n) = slice_get-drop xs n

pub get-front : {X : Type 0} (xs ys rest : List X) (n : ℕ) → drop n xs ≡ ys ++ rest → (ys ≡ [] → length xs ≤ n) → slice_get xs n ≡ slice_get ys 0
get-front xs [] rest n is none = slice_get_past xs n (none refl)
get-front xs (y ∷ ys) rest n is none = slice_get-drop xs n ∙ ap (λ zs. slice_get zs 0) is

-- what an addition in a run that was looked up leaves, where the run had `before` counters and then has `size`
pub record Added (runs : List (List Count)) (k n before size : ℕ) (run : List Count) : Type 0 where
  pub inside : k < length runs
  pub was_is : before ≡ length (get_or runs k [])
  pub size_is : size ≡ length run
  pub grown : Grown runs k n run
  pub lower : before ≤ size
  pub upper : size ≤ before + 1
  pub total : length (joined (set runs k run)) + before ≡ length (joined runs) + size

pub added : (runs : List (List Count)) (k n before size : ℕ) (was run : List Count) → Belongs runs k n → was ≡ get_or runs k was
    → before ≡ length was → (AreRising was → run ≡ with_count n was) → size ≡ length run → Added runs k n before size run
added runs k n before size was run here read before_is add size_is =
    let is = get_or_read runs k was here.inside read [] in
    let g = grown runs k n run here (subst (λ (cs : List Count). AreRising cs → run ≡ with_count n cs) is add) in
    let was_is : before ≡ length (get_or runs k []) = before_is ∙ ap (λ (cs : List Count). length cs) is in
    record {
      inside = here.inside;
      was_is = was_is;
      size_is = size_is;
      grown = g;
      lower = omega arith;
      upper = omega arith;
      total = omega arith;
    }

-- what a hit in a run that was looked up leaves
pub record HitBy (runs : List (List Count)) (k n bytes : ℕ) (run : List Count) : Type 0 where
  pub joined_is : joined (set runs k run) ≡ counted bytes (joined runs) n
  pub sizes_are : sizes_of (set runs k run) ≡ sizes_of runs

pub hit_by : (runs : List (List Count)) (k n bytes : ℕ) (was run : List Count) → Belongs runs k n → was ≡ get_or runs k was
    → (AreRising was → run ≡ counted bytes was n) → HitBy runs k n bytes run
hit_by runs k n bytes was run here read hit =
    let is = get_or_read runs k was here.inside read [] in
    let of_run = subst (λ (cs : List Count). AreRising cs → run ≡ counted bytes cs n) is hit in
    let size : length run ≡ length (get_or runs k []) =
    ap (λ (cs : List Count). length cs) (of_run (run-rises runs k here.inside here.rising)) ∙ length-map (get_or runs k []) (with_hit n bytes) in
    record {
      joined_is = joined_hit runs k n bytes run here of_run;
      sizes_are = sizes_same runs k run here.inside size;
    }

-- the room that is left by a run that took a number or none, and by one that is full then and is cut in two
size_of : (runs : List (List Count)) (k : ℕ) → k < length runs → get_or (sizes_of runs) k 0 ≡ length (get_or runs k [])
size_of runs k lt = get_or-map (λ (run : List Count). length run) runs k [] 0 lt

among_sizes : (runs : List (List Count)) (k : ℕ) → k < length runs → k < length (sizes_of runs)
among_sizes runs k lt = subst (λ m. k < m) (sym (length-map runs (λ (run : List Count). length run))) lt

pub room_grown : (runs : List (List Count)) (k free room more : ℕ) (run : List Count) → k < length runs → HaveRoom (sizes_of runs) free room
    → 0 < length run → length run < 256 → length run ≡ length (get_or runs k []) + more → more ≤ 1 → more ≤ room
    → HaveRoom (sizes_of (set runs k run)) free (room - more)
room_grown runs k free room more run lt h some small is one within =
    subst (λ (ns : List ℕ). HaveRoom ns free (room - more)) (sym (sizes_set runs k run))
    (HaveRoom-set (sizes_of runs) free room k (length run) more h (among_sizes runs k lt) some small (omega (arith, size_of runs k lt)) one within)

pub room_cut : (runs : List (List Count)) (k free room : ℕ) → k < length runs → HaveRoom (sizes_of runs) free room → length (get_or runs k []) ≡ 255 → 0 < room
    → (0 < free) × HaveRoom (take k (sizes_of runs) ++ 128 ∷ 128 ∷ drop (k + 1) (sizes_of runs)) (free - 1) (room - 1)
room_cut runs k free room lt h full some =
    HaveRoom-cut (sizes_of runs) free room k h (among_sizes runs k lt) (omega (arith, size_of runs k lt)) some
