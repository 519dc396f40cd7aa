-- Pieces of bytes in cells: what one more piece keeps, and what a part of a cell reads as.
use Rattle.std.proofs.Common.{◌≡◌, ◌≢◌, ℕ, ◌+◌, ◌-◌, ◌*◌, ◌<◌, ◌≤◌, min, List, [], ◌∷◌, ◌++◌, length, take, drop, get_or, set, ap, sym, ◌∙◌, subst, ⊎_elim, arith}
use Rattle.std.proofs.lemmas.Bool.{cases_lt}
use Rattle.std.proofs.lemmas.List.{length-take, length-drop, take-take, take_min, drop-take, drop-drop, get_or-set_same, get_or-set_other}
use Rattle.std.proofs.Math.Seq.{take-add}
use Rattle.rmt_cells.specs.Links.{after, walk, times}
use Rattle.rmt_cells.specs.Pieces.{IsRun, piece}
use Rattle.rmt_cells.proofs.Walks.{inside, not_before, reached, times_none, times_plus}

-- a part of a front
pub part_of_front : (xs : List ℕ) (place n all : ℕ) → place + n ≤ all → take n (drop place (take all xs)) ≡ take n (drop place xs)
part_of_front xs place n all le =
    let sum : all ≡ place + (all - place) = omega arith in
    ap (λ (k : ℕ). take n (drop place (take k xs))) sum ∙ ap (take n) (drop-take place (all - place) xs) ∙ take-take n (all - place) (drop place xs) (omega arith)

-- how long a piece is
pub length-piece : (bytes : List ℕ) (number : ℕ) → length (piece bytes number) ≡ min 64 (length bytes - number * 64)
length-piece bytes number = length-take 64 (drop (number * 64) bytes) ∙ ap (min 64) (length-drop (number * 64) bytes)

-- a part of a cell that spells a piece reads as the bytes that stand there
pub part_read : (bytes block : List ℕ) (number place n at : ℕ) → at ≡ number * 64 + place → place + n ≤ 64 → at + n ≤ length bytes
    → take (length (piece bytes number)) block ≡ piece bytes number → take n (drop place block) ≡ take n (drop at bytes)
part_read bytes block number place n at is inside within spelt =
    let len = length-piece bytes number in
    sym (part_of_front block place n (length (piece bytes number)) (omega (arith, len)))
    ∙ ap (λ (p : List ℕ). take n (drop place p)) spelt
    ∙ part_of_front (drop (number * 64) bytes) place n 64 inside
    ∙ ap (take n) (drop-drop place (number * 64) bytes)
    ∙ ap (λ (k : ℕ). take n (drop k bytes)) (sym is)

-- bytes that were read so far, and a part more
pub read_more : (bytes into part : List ℕ) (at done n : ℕ) → take done into ≡ take done (drop at bytes) → part ≡ take n (drop (at + done) bytes)
    → take done into ++ part ≡ take (done + n) (drop at bytes)
read_more bytes into part at done n so_far is =
    ap (λ (front : List ℕ). front ++ part) so_far
    ∙ ap (λ (p : List ℕ). take done (drop at bytes) ++ p) (is ∙ ap (take n) (sym (drop-drop done at bytes)))
    ∙ sym (take-add done n (drop at bytes))

-- a piece as it is cut
pub piece_cut : (bytes : List ℕ) (from to number : ℕ) → from ≡ number * 64 → to ≡ min (from + 64) (length bytes) → take (to - from) (drop from bytes) ≡ piece bytes number
piece_cut bytes from to number is ends =
    let size : to - from ≡ min 64 (length (drop from bytes)) = let len = length-drop from bytes in omega (arith, len, ends) in
    ap (λ (n : ℕ). take n (drop from bytes)) size ∙ take_min 64 (drop from bytes) ∙ ap (λ (k : ℕ). take 64 (drop k bytes)) is

-- One more piece in the next cell.
module _ (blocks : List (List ℕ)) (links : List ℕ) (first all number : ℕ) (bytes block : List ℕ) (run : IsRun (length blocks) links first all) (lt : number < all) where
  abbrev next : ℕ
  next = after links first number

  -- the pieces so far stand, and so does the next
  pub written_more : ((i : ℕ) → i < number → take (length (piece bytes i)) (get_or blocks (after links first i) []) ≡ piece bytes i)
      → take (length (piece bytes number)) block ≡ piece bytes number
      → (i : ℕ) → i < number + 1 → take (length (piece bytes i)) (get_or (set blocks next block) (after links first i) []) ≡ piece bytes i
  written_more so_far here i below =
      ⊎_elim
      (λ (before : i < number).
      let apart : after links first i ≢ next =
      λ same.
      let none = not_before links first all number lt (length blocks) run in
      let there = subst (λ (x : ℕ). 1 ≤ times x (walk links first number)) same (reached links first number i before) in
      absurd (omega (arith, none, there)) in
      ap (take (length (piece bytes i))) (get_or-set_other blocks next (after links first i) block [] apart) ∙ so_far i before)
      (λ (past : number ≤ i).
      let same : i ≡ number = omega arith in
      subst (λ (k : ℕ). take (length (piece bytes k)) (get_or (set blocks next block) (after links first k) []) ≡ piece bytes k) (sym same)
      (ap (take (length (piece bytes number))) (get_or-set_same blocks next block [] (inside links first all number lt (length blocks) run)) ∙ here))
      (cases_lt i number)

  -- all other cells stay
  pub others_more : (old : List (List ℕ)) → ((cell : ℕ) → times cell (walk links first number) ≡ 0 → get_or blocks cell [] ≡ get_or old cell [])
      → (cell : ℕ) → times cell (walk links first (number + 1)) ≡ 0 → get_or (set blocks next block) cell [] ≡ get_or old cell []
  others_more old so_far cell none =
      let parts = times_plus cell links first number 1 in
      let before : times cell (walk links first number) ≡ 0 = omega (arith, parts, none) in
      let last : times cell (next ∷ []) ≡ 0 = omega (arith, parts, none) in
      let apart = times_none cell next [] last in
      get_or-set_other blocks next cell block [] (λ same. apart.0 (sym same)) ∙ so_far cell before

-- a part more is read from the cell of its piece
pub read_step : (bytes into new block : List ℕ) (at done place n number : ℕ) → take done into ≡ take done (drop at bytes)
    → at + done ≡ number * 64 + place → place + n ≤ 64 → at + done + n ≤ length bytes
    → take (length (piece bytes number)) block ≡ piece bytes number
    → take (done + length (take (place + n - place) (drop place block))) new ≡ take done into ++ take (place + n - place) (drop place block)
    → take (done + n) new ≡ take (done + n) (drop at bytes)
read_step bytes into new block at done place n number so_far is inside within spelt put =
    let size : place + n - place ≡ n = omega arith in
    let part : take (place + n - place) (drop place block) ≡ take n (drop (at + done) bytes) =
    ap (λ (k : ℕ). take k (drop place block)) size ∙ part_read bytes block number place n (at + done) is inside within spelt in
    let whole : length (take (place + n - place) (drop place block)) ≡ n =
    ap length part ∙ (let a = length-take n (drop (at + done) bytes) in let b = length-drop (at + done) bytes in omega (arith, a, b)) in
    ap (λ (k : ℕ). take (done + k) new) (sym whole) ∙ put
    ∙ read_more bytes into (take (place + n - place) (drop place block)) at done n so_far part
