-- Whether what is kept of a cell changes in a commit that moves none.
use Rattle.std.proofs.Common.{◌≡◌, ℕ, ◌+◌, ◌*◌, Some, None, refl, ap, inl, arith}
use Rattle.rmt_config.specs.Cells.{Content}
use Rattle.rmt_config.specs.Rooms.{PartAt}
use Rattle.rmt_book.specs.declared.kept.Kept.{Kept}
use Rattle.rmt_update.proofs.DiffLaws.{Differ}
use Rattle.rmt_update.proofs.KeptContent.{kept_content, kept_number}

pub bits-same : (p : PartAt) (k : Kept) (v : ℕ) → k.visible ≡ v → (kept_content p (Some k) ≡ kept_content p (Some (record k { visible = v }))) × (kept_number (Some k) ≡ kept_number (Some (record k { visible = v })))
bits-same p k v same = (ap (λ n. kept_content p (Some (record k { visible = n }))) same, refl)

-- a cell is emptied, or an entry comes to an empty one
pub emptied-differs : (p : PartAt) (k : Kept) → Differ p (Some k) None
emptied-differs p k = inl (λ same. no (ap (λ (x : Content). x.head) same))
  where
    no : 1 + 2 * k.visible + 8 * k.code ≡ 0 → ⊥
    no e = omega (arith, e)

pub filled-differs : (p : PartAt) (k : Kept) → Differ p None (Some k)
filled-differs p k = inl (λ same. no (ap (λ (x : Content). x.head) same))
  where
    no : 0 ≡ 1 + 2 * k.visible + 8 * k.code → ⊥
    no e = omega (arith, e)
