-- Rows that are listed one after another.
use Rattle.std.proofs.lemmas.Bool.Decides.{nat_tests}
use Rattle.std.proofs.Common.{◌≡◌, ℕ, zero, suc, ◌+◌, ◌*◌, ◌<◌, ◌≤◌, List, [], ◌∷◌, ◌++◌, Some, None, map, Bool, true, false, ◌&&◌, leb, sym, refl, ap, ◌∙◌, subst, arith, inl, inr}
use Rattle.std.specs.Prelude.{All, Option, ◌==◌, find, option_map, unwrap_or}
use Rattle.std.specs.Option.{option_or}
use Rattle.std.proofs.lemmas.Bool.{cases_lt, le-leb, eq-eqb, and_parts}
use Rattle.std.proofs.lemmas.List.{length_push}
use Rattle.std.proofs.lemmas.List.Elements.{All-head, All-tail, All-push, All-weaker}
use Rattle.std.proofs.lemmas.List.Folds.{find-append}
use Rattle.std.proofs.lemmas.Nat.{same_from_place}
use Rattle.rmt_filling.specs.Types.{SramRow, TcamRow}
use Rattle.rmt_config.specs.Cells.{Blocks, tcam_row}
use Rattle.rmt_config.specs.Order.{rises_from}
use Rattle.rmt_config.specs.StageForm.{srow_number, trow_number}
use Rattle.rmt_filling.specs.Listing.{IsSramRow, IsTcamRow, IsSramListed, IsTcamListed, ListsSram, ListsTcam}
use Rattle.rmt_bits.proofs.ListLaws.{find-none}

-- ---- lists in general

-- a number above all others behind a rising list
pub rise-push : {X : Type 0} (f : X → ℕ) (least : ℕ) (xs : List X) (y : X) → least ≤ f y → All (λ x. f x < f y) xs → rises_from least (map f xs) ≡ true
    → rises_from least (map f (xs ++ y ∷ [])) ≡ true
rise-push f least [] y le below rise = ap (λ (b : Bool). b && true) (le-leb least (f y) le)
rise-push f least (x ∷ xs) y le below rise =
    let parts = and_parts (leb least (f x)) (rises_from (f x + 1) (map f xs)) rise in
    let above : f x + 1 ≤ f y = let lt = All-head (λ z. f z < f y) x xs below in omega (arith, lt) in
    ap (λ (b : Bool). b && rises_from (f x + 1) (map f (xs ++ y ∷ []))) parts.0
    ∙ rise-push f (f x + 1) xs y above (All-tail (λ z. f z < f y) x xs below) parts.1

module _ {X : Type 0} (block_of row_of : X → ℕ) (size : ℕ) where
  abbrev number : X → ℕ
  number x = size * block_of x + row_of x

  abbrev is_at : ℕ → ℕ → X → Bool
  is_at b r x = (block_of x == b) && (row_of x == r)

  abbrev part_at : (X → ℕ) → List X → ℕ → ℕ → ℕ
  part_at part xs b r = unwrap_or (option_map part (find (is_at b r) xs)) 0

  not_at : (b r : ℕ) (x : X) → (block_of x ≡ b → row_of x ≡ r → ⊥) → is_at b r x ≡ false
  not_at b r x other = grind (arith, nat_tests, other)

  here_at : (x : X) → is_at (block_of x) (row_of x) x ≡ true
  here_at x = ap (λ (t : Bool). t && (row_of x == row_of x)) (eq-eqb (block_of x) (block_of x) refl) ∙ eq-eqb (row_of x) (row_of x) refl

  -- a row from a number on, where only rows before it are listed
  pub part-none : (part : X → ℕ) (xs : List X) (upto b r : ℕ) → All (λ x. number x < upto) xs → upto ≤ size * b + r → part_at part xs b r ≡ 0
  part-none part xs upto b r before le =
      let none : All (λ x. is_at b r x ≡ false) xs =
      All-weaker (λ x. number x < upto) (λ x. is_at b r x ≡ false)
      (λ x lt. not_at b r x (λ eb er.
      let e : number x ≡ size * b + r = ap (λ k. size * k + row_of x) eb ∙ ap (λ k. size * b + k) er in
      omega (arith, e, lt, le))) xs before in
      ap (λ (o : Option X). unwrap_or (option_map part o) 0) (find-none (is_at b r) xs none)

  -- a row that there isn't
  pub part-off : (part : X → ℕ) (xs : List X) (b r : ℕ) → All (λ x. row_of x < size) xs → size ≤ r → part_at part xs b r ≡ 0
  part-off part xs b r low le =
      let none : All (λ x. is_at b r x ≡ false) xs =
      All-weaker (λ x. row_of x < size) (λ x. is_at b r x ≡ false) (λ x lt. not_at b r x (λ eb er. omega (arith, er, lt, le))) xs low in
      ap (λ (o : Option X). unwrap_or (option_map part o) 0) (find-none (is_at b r) xs none)

  -- one more row
  pub part-other : (part : X → ℕ) (xs : List X) (y : X) (b r : ℕ) → (block_of y ≡ b → row_of y ≡ r → ⊥) → part_at part (xs ++ y ∷ []) b r ≡ part_at part xs b r
  part-other part xs y b r other =
      ap (λ (o : Option X). unwrap_or (option_map part o) 0)
      (find-append (is_at b r) xs (y ∷ []) ∙ left (find (is_at b r) xs) (find (is_at b r) (y ∷ [])) (find-none (is_at b r) (y ∷ []) (one (not_at b r y other))))
    where
      left : (o q : Option X) → q ≡ None → option_or o q ≡ o
      left (Some x) q e = refl
      left None q e = e

      one : is_at b r y ≡ false → All (λ x. is_at b r x ≡ false) (y ∷ [])
      one e zero d lt = e
      one e (suc k) d lt = absurd (omega (arith, lt))

  pub part-here : (part : X → ℕ) (xs : List X) (y : X) → All (λ x. number x < number y) xs → part_at part (xs ++ y ∷ []) (block_of y) (row_of y) ≡ part y
  part-here part xs y before =
      let b = block_of y in
      let r = row_of y in
      let none : All (λ x. is_at b r x ≡ false) xs =
      All-weaker (λ x. number x < number y) (λ x. is_at b r x ≡ false)
      (λ x lt. not_at b r x (λ eb er.
      let e : number x ≡ number y = ap (λ k. size * k + row_of x) eb ∙ ap (λ k. size * b + k) er in
      omega (arith, e, lt))) xs before in
      ap (λ (o : Option X). unwrap_or (option_map part o) 0)
      (find-append (is_at b r) xs (y ∷ []) ∙ ap (λ (o : Option X). option_or o (find (is_at b r) (y ∷ []))) (find-none (is_at b r) xs none) ∙ last)
    where
      last : find (is_at (block_of y) (row_of y)) (y ∷ []) ≡ Some y
      last = rw (here_at y) refl

  -- the numbers of two rows
  pub same_number : (b r b' r' : ℕ) → r < size → r' < size → size * b + r ≡ size * b' + r' → (b ≡ b') × (r ≡ r')
  same_number b r b' r' lt lt' e =
      let one : size * b ≡ b * size = omega arith in
      let two : size * b' ≡ b' * size = omega arith in
      same_from_place b r b' r' size lt lt' (omega (arith, e, one, two))

  -- what is found so far, with a row more
  pub found-push : (part : X → ℕ) (held : Blocks) (xs : List X) (y : X) → row_of y < size → All (λ x. number x < number y) xs → part y ≡ held (block_of y) (row_of y)
      → ((b r : ℕ) → r < size → size * b + r < number y → part_at part xs b r ≡ held b r)
      → (b r : ℕ) → r < size → size * b + r < number y + 1 → part_at part (xs ++ y ∷ []) b r ≡ held b r
  found-push part held xs y low before there found b r lt upto =
      elim (cases_lt (size * b + r) (number y)) as (λ _. part_at part (xs ++ y ∷ []) b r ≡ held b r) [
        | inl less ↦ part-other part xs y b r (λ eb er. let e : number y ≡ size * b + r = ap (λ k. size * k + row_of y) eb ∙ ap (λ k. size * b + k) er in omega (arith, e, less)) ∙ found b r lt less
        | inr le ↦
            let same = same_number (block_of y) (row_of y) b r low lt (omega (arith, le, upto)) in
            subst (λ k. part_at part (xs ++ y ∷ []) k r ≡ held k r) same.0
            (subst (λ k. part_at part (xs ++ y ∷ []) (block_of y) k ≡ held (block_of y) k) same.1 (part-here part xs y before ∙ there))
      ]

  -- with a row that is 0
  pub found-skip : (part : X → ℕ) (held : Blocks) (xs : List X) (block row : ℕ) → row < size → All (λ x. number x < size * block + row) xs → held block row ≡ 0
      → ((b r : ℕ) → r < size → size * b + r < size * block + row → part_at part xs b r ≡ held b r)
      → (b r : ℕ) → r < size → size * b + r < size * block + row + 1 → part_at part xs b r ≡ held b r
  found-skip part held xs block row low before none found b r lt upto =
      elim (cases_lt (size * b + r) (size * block + row)) as (λ _. part_at part xs b r ≡ held b r) [
        | inl less ↦ found b r lt less
        | inr le ↦
            let same = same_number block row b r low lt (omega (arith, le, upto)) in
            part-none part xs (size * block + row) b r before le
            ∙ sym (ap (λ k. held k r) (sym same.0) ∙ ap (held block) (sym same.1) ∙ none)
      ]

  -- with all rows of so many blocks
  pub found-all : (part : X → ℕ) (held : Blocks) (xs : List X) (most blocks : ℕ) → All (λ x. number x < most) xs → All (λ x. row_of x < size) xs
      → ((b r : ℕ) → r < size → b < blocks → size * b + r < most) → ((b r : ℕ) → blocks ≤ b → most ≤ size * b + r)
      → ((b r : ℕ) → r < size → size * b + r < most → part_at part xs b r ≡ held b r)
      → ((b r : ℕ) → size ≤ r → held b r ≡ 0) → ((b r : ℕ) → blocks ≤ b → held b r ≡ 0) → (b r : ℕ) → part_at part xs b r ≡ held b r
  found-all part held xs most blocks before low inside outside found off past b r =
      elim (cases_lt r size) as (λ _. part_at part xs b r ≡ held b r) [
        | inl lt ↦ elim (cases_lt b blocks) as (λ _. part_at part xs b r ≡ held b r) [
          | inl there ↦ found b r lt (inside b r lt there)
          | inr high ↦ part-none part xs most b r before (outside b r high) ∙ sym (past b r high)
        ]
        | inr high ↦ part-off part xs b r low high ∙ sym (off b r high)
      ]

-- ---- SRAM

abbrev sram_block : SramRow → ℕ
sram_block r = r.block

abbrev sram_number : SramRow → ℕ
sram_number r = r.row

pub sram-push : (held : Blocks) (upto : ℕ) (rows : List SramRow) (y : SramRow) → IsSramListed held upto rows → IsSramRow held y → srow_number y ≡ upto → IsSramListed held (upto + 1) (rows ++ y ∷ [])
sram-push held upto rows y was is e =
    let before : All (λ (r : SramRow). srow_number r < srow_number y) rows = subst (λ n. All (λ (r : SramRow). srow_number r < n) rows) (sym e) was.before in
    record {
      each = All-push (IsSramRow held) rows y was.each is;
      before = All-push (λ (r : SramRow). srow_number r < upto + 1) rows y (All-weaker (λ (r : SramRow). srow_number r < upto) (λ (r : SramRow). srow_number r < upto + 1) (λ r lt. omega (arith, lt)) rows was.before) (omega (arith, e));
      rise = rise-push srow_number 0 rows y (omega arith) before was.rise;
      few = omega (arith, length_push rows y, was.few);
      found = λ b r lt under.
          found-push sram_block sram_number 1024 (λ (x : SramRow). x.bits) held rows y is.row before is.there
          (λ b' r' lt' less. was.found b' r' lt' (omega (arith, less, e))) b r lt (omega (arith, under, e));
    }

pub sram-skip : (held : Blocks) (block row : ℕ) (rows : List SramRow) → IsSramListed held (1024 * block + row) rows → row < 1024 → held block row ≡ 0 → IsSramListed held (1024 * block + row + 1) rows
sram-skip held block row rows was low none = record {
  each = was.each;
  before = All-weaker (λ (r : SramRow). srow_number r < 1024 * block + row) (λ (r : SramRow). srow_number r < 1024 * block + row + 1) (λ r lt. omega (arith, lt)) rows was.before;
  rise = was.rise;
  few = omega (arith, was.few);
  found = found-skip sram_block sram_number 1024 (λ (x : SramRow). x.bits) held rows block row low was.before none was.found;
}

pub sram-all : (held : Blocks) (rows : List SramRow) → IsSramListed held 108544 rows → ((b r : ℕ) → 1024 ≤ r → held b r ≡ 0) → ((b r : ℕ) → 106 ≤ b → held b r ≡ 0) → ListsSram held rows
sram-all held rows was off past = record {
  each = was.each;
  blocks = λ k d lt. let n = was.before k d lt in omega (arith, n);
  rise = was.rise;
  few = omega (arith, was.few);
  same = found-all sram_block sram_number 1024 (λ (x : SramRow). x.bits) held rows 108544 106 was.before (All-weaker (IsSramRow held) (λ (x : SramRow). x.row < 1024) (λ x is. is.row) rows was.each)
      (λ b r lt there. omega (arith, lt, there)) (λ b r high. omega (arith, high)) was.found off past;
}

-- ---- TCAM

abbrev tcam_block : TcamRow → ℕ
tcam_block r = r.block

abbrev tcam_number : TcamRow → ℕ
tcam_number r = r.row

pub tcam-push : (values masks : Blocks) (upto : ℕ) (rows : List TcamRow) (y : TcamRow) → IsTcamListed values masks upto rows → IsTcamRow values masks y
    → y.value ≡ values y.block y.row → trow_number y ≡ upto → IsTcamListed values masks (upto + 1) (rows ++ y ∷ [])
tcam-push values masks upto rows y was is value e =
    let before : All (λ (r : TcamRow). trow_number r < trow_number y) rows = subst (λ n. All (λ (r : TcamRow). trow_number r < n) rows) (sym e) was.before in
    record {
      each = All-push (IsTcamRow values masks) rows y was.each is;
      before = All-push (λ (r : TcamRow). trow_number r < upto + 1) rows y (All-weaker (λ (r : TcamRow). trow_number r < upto) (λ (r : TcamRow). trow_number r < upto + 1) (λ r lt. omega (arith, lt)) rows was.before) (omega (arith, e));
      rise = rise-push trow_number 0 rows y (omega arith) before was.rise;
      few = omega (arith, length_push rows y, was.few);
      value = λ b r lt under.
          found-push tcam_block tcam_number 2048 (λ (x : TcamRow). x.value) values rows y is.row before value
          (λ b' r' lt' less. was.value b' r' lt' (omega (arith, less, e))) b r lt (omega (arith, under, e));
      mask = λ b r lt under.
          found-push tcam_block tcam_number 2048 (λ (x : TcamRow). x.mask) masks rows y is.row before is.there
          (λ b' r' lt' less. was.mask b' r' lt' (omega (arith, less, e))) b r lt (omega (arith, under, e));
    }

pub tcam-skip : (values masks : Blocks) (block row : ℕ) (rows : List TcamRow) → IsTcamListed values masks (2048 * block + row) rows → row < 2048
    → values block row ≡ 0 → masks block row ≡ 0 → IsTcamListed values masks (2048 * block + row + 1) rows
tcam-skip values masks block row rows was low none_value none_mask = record {
  each = was.each;
  before = All-weaker (λ (r : TcamRow). trow_number r < 2048 * block + row) (λ (r : TcamRow). trow_number r < 2048 * block + row + 1) (λ r lt. omega (arith, lt)) rows was.before;
  rise = was.rise;
  few = omega (arith, was.few);
  value = found-skip tcam_block tcam_number 2048 (λ (x : TcamRow). x.value) values rows block row low was.before none_value was.value;
  mask = found-skip tcam_block tcam_number 2048 (λ (x : TcamRow). x.mask) masks rows block row low was.before none_mask was.mask;
}

pub tcam-all : (values masks : Blocks) (rows : List TcamRow) → IsTcamListed values masks 32768 rows
    → ((b r : ℕ) → 2048 ≤ r → (values b r ≡ 0) × (masks b r ≡ 0)) → ((b r : ℕ) → 16 ≤ b → (values b r ≡ 0) × (masks b r ≡ 0)) → ListsTcam values masks rows
tcam-all values masks rows was off past = record {
  each = was.each;
  blocks = λ k d lt. let n = was.before k d lt in omega (arith, n);
  rise = was.rise;
  few = omega (arith, was.few);
  value = all (λ (x : TcamRow). x.value) values was.value (λ b r le. (off b r le).0) (λ b r le. (past b r le).0);
  mask = all (λ (x : TcamRow). x.mask) masks was.mask (λ b r le. (off b r le).1) (λ b r le. (past b r le).1);
}
  where
    all : (part : TcamRow → ℕ) (held : Blocks) → ((b r : ℕ) → r < 2048 → 2048 * b + r < 32768 → tcam_row part rows b r ≡ held b r)
        → ((b r : ℕ) → 2048 ≤ r → held b r ≡ 0) → ((b r : ℕ) → 16 ≤ b → held b r ≡ 0) → (b r : ℕ) → tcam_row part rows b r ≡ held b r
    all part held =
        found-all tcam_block tcam_number 2048 part held rows 32768 16 was.before (All-weaker (IsTcamRow values masks) (λ (x : TcamRow). x.row < 2048) (λ x is. is.row) rows was.each)
        (λ b r lt there. omega (arith, lt, there)) (λ b r high. omega (arith, high))
