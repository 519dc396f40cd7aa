-- Parts that are put in the place of those of tables, one table after another.
use Rattle.std.proofs.Common.{◌≡◌, ◌<◌, suc, List, [], ◌∷◌, ◌++◌, get_or, length, slice_set, Vec, refl, sym, ap, ◌∙◌, arith}
use Rattle.std.specs.Global.{Global}
use Rattle.rmt_book.specs.declared.table.PartCells.{PartCells}
use Rattle.rmt_book.specs.declared.table.TableCells.{TableCells}
use Rattle.rmt_update.specs.Moved.{with_parts}

-- no parts so far, and those of one more table
pub with-none : (ts : List TableCells) → with_parts ts [] ≡ ts
with-none [] = refl
with-none (t ∷ ts) = refl

pub with-length : (ts : List TableCells) (vs : List (Vec PartCells Global)) → length (with_parts ts vs) ≡ length ts
with-length [] vs = refl
with-length (t ∷ ts) [] = refl
with-length (t ∷ ts) (v ∷ vs) = ap suc (with-length ts vs)

pub with-more : (ts : List TableCells) (vs : List (Vec PartCells Global)) (v : Vec PartCells Global) (r : TableCells) → length vs < length ts → r ≡ get_or (with_parts ts vs) (length vs) r
    → slice_set (with_parts ts vs) (length vs) (record { name = r.name; parts = v }) ≡ with_parts ts (vs ++ v ∷ [])
with-more [] vs v r lt is = absurd (omega (arith, lt))
with-more (t ∷ ts) [] v r lt is = ap (λ (z : TableCells). record { name = z.name; parts = v } ∷ ts) is ∙ ap (λ zs. record { name = t.name; parts = v } ∷ zs) (sym (with-none ts))
with-more (t ∷ ts) (y ∷ vs) v r lt is = ap (λ zs. record { name = t.name; parts = y } ∷ zs) (with-more ts vs v r (omega (arith, lt)) is)
