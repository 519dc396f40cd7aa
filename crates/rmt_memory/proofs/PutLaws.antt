-- What stands in a memory after one more of the listed cells was put.
use Rattle.std.proofs.Common.{◌≡◌, ◌≢◌, ℕ, zero, suc, ◌+◌, ◌<◌, List, length, get_or, map, replicate, set, Option, None, sym, refl, ap, ◌∙◌, subst, arith, below_more, inl, inr}
use Rattle.std.specs.Prelude.{All}
use Rattle.std.specs.List.{range_with_len}
use Rattle.std.proofs.lemmas.Bool.{cases_Bool, cases_eq}
use Rattle.std.proofs.lemmas.List.FromFn.{get_or-map-range_with_len, length-map-range_with_len}
use Rattle.std.proofs.lemmas.List.{ext_get_or, get_or-set_same, get_or-set_other, length-set, length-replicate}
use Rattle.rmt_bits.specs.Grouping.{Compared}
use Rattle.rmt_memory.specs.Types.{CellNumber}
use Rattle.rmt_memory.specs.declared.runs.Runs.{Runs}
use Rattle.rmt_memory.specs.declared.sliced.Sliced.{Sliced}
use Rattle.rmt_memory.specs.Laying.{CellsPut, bytes_at, cell_at, nowhere}
use Rattle.rmt_memory.specs.Laid.{Unlisted}
use Rattle.rmt_config.specs.StageForm.{is_listed}
use Rattle.rmt_memory.proofs.RangeLaws.{listed-place, unlisted-place}
use Rattle.rmt_memory.specs.RunWrites.{RunSet}
use Rattle.rmt_memory.specs.Searching.{run_of}
use Rattle.rmt_memory.specs.Slicing.{RowSet, StandsFor}

-- ---- runs

pub one-run : (tail : ℕ) (numbers : List CellNumber) (heads keys held : Runs) (at : ℕ) (old mid new : Runs) → at < length numbers → All (λ (n : CellNumber). n.cell < old.count) numbers
    → CellsPut tail numbers heads keys held at old mid → RunSet (cell_at numbers at) (bytes_at tail numbers heads keys held at) mid new → CellsPut tail numbers heads keys held (at + 1) old new
one-run tail numbers heads keys held at old mid new lt below before put = record {
  size = put.stay.size ∙ before.size;
  same = put.stay.count ∙ before.same;
  listed = λ bytes are.
      below_more (λ i. run_of new (cell_at numbers i) ≡ bytes (cell_at numbers i)) at
      (λ i less.
      elim (cases_eq (cell_at numbers i) (cell_at numbers at)) as (λ _. run_of new (cell_at numbers i) ≡ bytes (cell_at numbers i)) [
        | inl same ↦ ap (run_of new) same ∙ put.run ∙ are at lt ∙ ap bytes (sym same)
        | inr other ↦ put.stay.others (cell_at numbers i) (let b = below i nowhere (omega (arith, less, lt)) in let s = before.same in omega (arith, b, s)) other ∙ before.listed bytes are i less
      ])
      (put.run ∙ are at lt);
  others = λ n inside off.
      put.stay.others n (let s = before.same in omega (arith, inside, s)) (λ e. off at (omega arith) (sym e)) ∙ before.others n inside (λ i less. off i (omega (arith, less)));
}

-- ---- vectors

-- vectors have the first of the listed cells as rows, as a sight shows them, and no other
pub record RowsPut (numbers : List CellNumber) (shown : ℕ → Option Compared) (sight count at : ℕ) (s : Sliced) : Type 0 where
  pub rows : List (Option Compared)
  pub size : length rows ≡ count
  pub stands : StandsFor sight rows s
  pub listed : (i : ℕ) → i < at → get_or rows (cell_at numbers i) None ≡ shown (cell_at numbers i)
  pub others : (n : ℕ) → ((i : ℕ) → i < at → cell_at numbers i ≢ n) → get_or rows n None ≡ None

none-there : (count n : ℕ) → get_or {A = Option Compared} (replicate count None) n None ≡ None
none-there zero n = refl
none-there (suc count) zero = refl
none-there (suc count) (suc n) = none-there count n

module _ (numbers : List CellNumber) (shown : ℕ → Option Compared) (sight count : ℕ) (few : sight < 3) where
  pub no-rows : (s : Sliced) → StandsFor sight (replicate count None) s → RowsPut numbers shown sight count 0 s
  no-rows s stands = record {
    rows = replicate count None;
    size = length-replicate {A = Option Compared} count None;
    stands = stands;
    listed = λ i lt. absurd (omega (arith, lt));
    others = λ n off. none-there count n;
  }

  pub one-row : (at : ℕ) (old new : Sliced) (one : ℕ → Option Compared) → at < length numbers → All (λ (n : CellNumber). n.cell < count) numbers → RowsPut numbers shown sight count at old
      → RowSet (cell_at numbers at) one old new → one sight ≡ shown (cell_at numbers at) → RowsPut numbers shown sight count (at + 1) new
  one-row at old new one lt below before put is =
      let cell = cell_at numbers at in
      let rows = before.rows in
      let there : cell < length rows = (let b = below at nowhere lt in let s = before.size in omega (arith, b, s)) in
      record {
        rows = set rows cell (one sight);
        size = length-set rows cell (one sight) ∙ before.size;
        stands = put.stands sight rows few before.stands there;
        listed =
            below_more (λ i. get_or (set rows cell (one sight)) (cell_at numbers i) None ≡ shown (cell_at numbers i)) at
            (λ i less.
            elim (cases_eq (cell_at numbers i) cell) as (λ _. get_or (set rows cell (one sight)) (cell_at numbers i) None ≡ shown (cell_at numbers i)) [
              | inl same ↦ ap (λ n. get_or (set rows cell (one sight)) n None) same ∙ get_or-set_same rows cell (one sight) None there ∙ is ∙ ap shown (sym same)
              | inr other ↦ get_or-set_other rows cell (cell_at numbers i) (one sight) None other ∙ before.listed i less
            ])
            (get_or-set_same rows cell (one sight) None there ∙ is);
        others = λ n off.
            get_or-set_other rows cell n (one sight) None (λ e. off at (omega arith) (sym e)) ∙ before.others n (λ i less. off i (omega (arith, less)));
      }

  -- so they stand for what the sight shows of each row
  pub rows-are : (s : Sliced) → RowsPut numbers shown sight count (length numbers) s → ((n : ℕ) → n < count → Unlisted numbers n → shown n ≡ None) → StandsFor sight (map shown (range_with_len 0 count)) s
  rows-are s put off = subst (λ (rs : List (Option Compared)). StandsFor sight rs s) same put.stands
    where
      at : (n : ℕ) → n < count → get_or put.rows n None ≡ shown n
      at n lt =
          elim (cases_Bool (is_listed n (map (λ (c : CellNumber). c.cell) numbers))) as (λ _. get_or put.rows n None ≡ shown n) [
            | inl there ↦
                let place = listed-place numbers n there in
                subst (λ m. get_or put.rows m None ≡ shown m) place.is (put.listed place.at place.within)
            | inr none ↦
                let apart = unlisted-place numbers n none in
                put.others n apart ∙ sym (off n lt apart)
          ]

      same : put.rows ≡ map shown (range_with_len 0 count)
      same =
          ext_get_or None put.rows (map shown (range_with_len 0 count)) (put.size ∙ sym (length-map-range_with_len shown 0 count))
          (λ n lt.
          let inside : n < count = (let e = put.size in omega (arith, e, lt)) in
          at n inside ∙ sym (get_or-map-range_with_len shown 0 count n n None inside (omega arith)))
