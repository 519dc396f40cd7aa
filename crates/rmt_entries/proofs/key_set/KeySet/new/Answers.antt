use Rattle.std.proofs.Common.{◌≡◌, ◌<◌, ◌*◌, ℕ, List, length, get_or, replicate, refl, subst, sym, arith}
use Rattle.std.proofs.lemmas.List.{length-replicate}
use Rattle.rmt_entries.specs.KeySets.{apart, near}
use Rattle.rmt_entries.proofs.KeySetLaws.{all_free, holds_none, stands_empty}
use Rattle.rmt_entries.proofs.key_set.KeySet.new.Goals as goal

pub invariant_of-result : goal.invariant_of-result
invariant_of-result c =
    let count = c.saturating_add.result in
    let zeros : c.in_ok-vec.field-0.items ≡ replicate count 0 = c.in_ok-vec.ensures.items_if_clones_equal (λ y e. e) in
    let all : length c.in_ok-vec.field-0.items ≡ count = rw zeros (length-replicate count 0) in
    let some : near * apart < length c.in_ok-vec.field-0.items = omega (arith, all, c.saturating_add.ensures, c.requires) in
    let free = subst (λ (xs : List ℕ). (p : ℕ) → get_or xs p 0 ≡ 0) (sym zeros) (all_free count) in
    rw c.new.ensures.items (stands_empty c.in_ok-vec.field-0.items free c.new-2.result (λ q. rw c.new-2.ensures.empty refl) some)

pub returns : goal.returns
returns c =
    let count = c.saturating_add.result in
    let zeros : c.in_ok-vec.field-0.items ≡ replicate count 0 = c.in_ok-vec.ensures.items_if_clones_equal (λ y e. e) in
    let free = subst (λ (xs : List ℕ). (p : ℕ) → get_or xs p 0 ≡ 0) (sym zeros) (all_free count) in
    λ key. rw c.new.ensures.items (holds_none c.in_ok-vec.field-0.items free c.new-2.result (λ q. rw c.new-2.ensures.empty refl) key)
